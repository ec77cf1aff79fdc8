-- A frame that is written reads back to its parts, and one that is read writes back to its bytes.
use Rattle.std.proofs.Common.{◌≡◌, ℕ, ◌+◌, ◌*◌, ◌/◌, ◌%◌, ◌<◌, ◌≤◌, List, ◌∷◌, ◌++◌, length, get_or, take, drop, Ok, sym, ◌∙◌, arith, drop-cons}
use Rattle.std.proofs.lemmas.Grind.{common_steps}
use Rattle.std.proofs.lemmas.Bool.Decides.{nat_tests}
use Rattle.std.proofs.lemmas.List.{nil_from_length, drop-drop, get_or-drop}
use Rattle.field.specs.Laws.{Arithmetic}
use Rattle.shape.specs.declared.Shape.{Shape}
use Rattle.elements.specs.Numbers.{written}
use Rattle.kind.specs.declared.Kind.{Kind}
use Rattle.kind.specs.Numbers.{number}
use Rattle.kind.proofs.NumberLemmas.{number-numbered}
use Rattle.protocol.specs.Messages.{Bytes, Message, send, echo, ready, hash, symbol}
use Rattle.layout.specs.Kinds.{digests, bytes}
use Rattle.frame.specs.Frames.{made, framed, encode}
use Rattle.frame.specs.Reading.{reads, sectioned, Proper}
use Rattle.frame.specs.Front.{Front}

-- Written, and read again.
pub reads_back : (R : Arithmetic) (s : Shape) (m : Message) → Proper R s m → reads R s (encode m) ≡ Ok m
reads_back R s (send v x) p = grind (arith, common_steps, nat_tests)
reads_back R s (echo i v) p = grind (arith, common_steps, nat_tests)
reads_back R s (ready i v) p = grind (arith, common_steps, nat_tests)
reads_back R s (hash i x) p = grind (arith, common_steps, nat_tests)
reads_back R s (symbol i x) p = grind (arith, common_steps, nat_tests)

-- What the definition says of sections that are there.
pub record Sectioned (v w : ℕ) (rest vec payload : Bytes) : Type 0 where
  pub long : length rest ≡ v + 2 + w
  pub count : 256 * get_or (drop v rest) 0 0 + get_or (drop v rest) 1 0 ≡ w
  pub vec_is : vec ≡ take v rest
  pub payload_is : payload ≡ drop (v + 2) rest

pub sectioned_is : (v w : ℕ) (rest vec payload : Bytes) → sectioned v w rest ≡ Ok (vec, payload) → Sectioned v w rest vec payload
sectioned_is v w rest vec payload h = grind (arith, nat_tests)

-- The first bytes of a string, and the rest.
two_first : (b : List ℕ) → 2 ≤ length b → b ≡ get_or b 0 0 ∷ (get_or b 1 0 ∷ drop 2 b)
two_first b l = grind (arith, drop-cons)

three_first : (b : List ℕ) → 3 ≤ length b → b ≡ get_or b 0 0 ∷ (get_or b 1 0 ∷ (get_or b 2 0 ∷ drop 3 b))
three_first b l = grind (arith, drop-cons)

-- The sections, with the count between them, are what they were read from.
tail_is : (v w : ℕ) (rest vec x : Bytes) → Sectioned v w rest vec x → w ≤ 1024 → ((j : ℕ) → get_or rest j 0 < 256) → vec ++ (written 2 (length x) ++ x) ≡ rest
tail_is v w rest vec x p few small =
    let r = drop v rest in
    let two : 2 ≤ length r = grind (arith, common_steps) in
    let long : length x ≡ w = grind (arith, common_steps) in
    let at : (j : ℕ) → get_or r j 0 ≡ get_or rest (v + j) 0 = λ j. get_or-drop v rest j 0 in
    let high : (length x / 256) % 256 ≡ get_or r 0 0 = omega (arith, p.count, at 0, at 1, small (v + 0), small (v + 1)) in
    let low : length x % 256 ≡ get_or r 1 0 = omega (arith, p.count, at 0, at 1, small (v + 0), small (v + 1)) in
    let after : x ≡ drop 2 r = p.payload_is ∙ sym (drop-drop 2 v rest) in
    grind (arith, common_steps, two_first)

module _ (R : Arithmetic) (s : Shape) where
  digests_few : (k : Kind) → digests s k ≤ 16
  digests_few k = grind arith

  bytes_few : (k : Kind) → bytes R s k ≤ 1024
  bytes_few k = grind arith

  -- Read, and written again.
  module _ (b : Bytes) (k : Kind) (i : ℕ) (rest vec x : Bytes) (f : Front s b k i rest) (p : Sectioned (32 * digests s k) (bytes R s k) rest vec x) where
    in_parts : encode (made k i vec x) ≡ framed (number k) i vec x
    in_parts = grind (arith, common_steps, nil_from_length)

    whole : ((j : ℕ) → get_or b j 0 < 256) → encode (made k i vec x) ≡ b
    whole small =
        let rest_small : (j : ℕ) → get_or rest j 0 < 256 = λ j. grind (arith, get_or-drop, small (3 + j)) in
        let tail : vec ++ (written 2 (length x) ++ x) ≡ rest = tail_is (32 * digests s k) (bytes R s k) rest vec x p (bytes_few k) rest_small in
        let count : (length vec / 32) % 256 ≡ get_or b 2 0 = grind (arith, common_steps, digests_few) in
        let first : number k ≡ get_or b 0 0 = number-numbered (get_or b 0 0) k f.kind_is in
        in_parts ∙ grind (arith, three_first)

  pub writes_back : (b : Bytes) (k : Kind) (i : ℕ) (rest vec x : Bytes) → Front s b k i rest → sectioned (32 * digests s k) (bytes R s k) rest ≡ Ok (vec, x) →
      ((j : ℕ) → get_or b j 0 < 256) → encode (made k i vec x) ≡ b
  writes_back b k i rest vec x f h small = whole b k i rest vec x f (sectioned_is (32 * digests s k) (bytes R s k) rest vec x h) small

-- The last blocks of a message, as the code builds them. Assumes nothing.
use Rattle.std.proofs.Common.{◌≡◌, ℕ, suc, ◌+◌, ◌-◌, ◌*◌, ◌/◌, ◌%◌, ◌^◌, ◌<◌, ◌≤◌, List, [], ◌∷◌, ◌++◌, length, take, drop, set, replicate, sym, refl, ap, ◌∙◌, arith}
use borrow.Rule.Slice.PartMut.{put_mid}
use Rattle.std.proofs.lemmas.List.{append-nil, append_assoc, set_at, take_at, drop-drop, drop_all, drop-replicate, length-append, length-replicate, replicate-append-replicate}
use Rattle.hash.specs.Sha256.{hashed, compress, padded, length_bytes}
use Rattle.hash.proofs.Blocks.{hashed_tail, hashed_tails}

-- the rest of a message, the mark, and z zeros
abbrev marked : List ℕ → ℕ → List ℕ
marked rest z = rest ++ (0x80 ∷ replicate z 0)

-- what n zeros have after the first k
zeros_after : (n k : ℕ) → k < n → drop {A = ℕ} k (replicate n 0) ≡ 0 ∷ replicate (n - 1 - k) 0
zeros_after n k h =
    let one : n - k ≡ suc (n - 1 - k) = omega arith in
    rw (drop-replicate, one)

-- what `marked` leaves of n zeros: the rest, the mark, and zeros to the end
pub marked_is :
    (n : ℕ) (rest y : List ℕ) → length rest < n → y ≡ rest
    → set (y ++ drop (length rest) (replicate n 0)) (length rest) 0x80 ≡ marked rest (n - 1 - length rest)
marked_is n rest y h e =
    ap (λ v. set (v ++ drop (length rest) (replicate n 0)) (length rest) 0x80) e
    ∙ ap (λ v. set (rest ++ v) (length rest) 0x80) (zeros_after n (length rest) h)
    ∙ set_at rest 0 (replicate (n - 1 - length rest) 0) 0x80 (length rest) refl

-- what `with_length` leaves
pub with_length_is : (block y ys : List ℕ) → length block ≡ 64 → y ≡ ys → put_mid 56 8 block y ≡ take 56 block ++ ys
with_length_is block y ys long e =
    let none : drop 8 (drop 56 block) ≡ [] = drop-drop 8 56 block ∙ drop_all 64 block (omega arith) in
    ap (λ v. take 56 block ++ (y ++ v)) none ∙ ap (λ v. take 56 block ++ v) (append-nil y ∙ e)

-- without its last eight zeros
front_of : (rest : List ℕ) (z : ℕ) → length rest + z ≡ 55 → take 56 (marked rest (z + 8)) ≡ marked rest z
front_of rest z fits =
    let long : length (marked rest z) ≡ 56 = simp (length-append, length-replicate) (omega arith) in
    ap (λ v. take 56 (rest ++ (0x80 ∷ v))) (sym (replicate-append-replicate z 8 0))
    ∙ ap (take 56) (sym (append_assoc rest (0x80 ∷ replicate z 0) (replicate 8 0)))
    ∙ take_at (marked rest z) (replicate 8 0) 56 long

-- the mark, z zeros and the length
tail : ℕ → List ℕ → List ℕ
tail z L = 0x80 ∷ (replicate z 0 ++ L)

-- its length
length_tail : (z : ℕ) (L : List ℕ) → length L ≡ 8 → length (tail z L) ≡ z + 9
unfolding tail
length_tail z L long = simp (length-append, length-replicate) (omega arith)

-- the same, cut before its last n zeros
tail_split : (k n : ℕ) (L : List ℕ) → tail (k + n) L ≡ (0x80 ∷ replicate k 0) ++ (replicate n 0 ++ L)
unfolding tail
tail_split k n L =
    ap (λ v. 0x80 ∷ (v ++ L)) (sym (replicate-append-replicate k n 0))
    ∙ ap (λ v. 0x80 ∷ v) (append_assoc (replicate k 0) (replicate n 0) L)

module _ (m rest : List ℕ) (is : rest ≡ drop (length m / 64 * 64) m) (left : length rest ≡ length m % 64) where
  -- the rest, as the blocks of the standard are counted
  is_64 : rest ≡ drop (64 * (length m / 64)) m
  is_64 = is ∙ ap (λ k. drop k m) (omega arith)

  -- `finish` where the rest leaves room for the length
  pub finish_one :
      length rest < 56 → (last blk : List ℕ) → last ≡ marked rest (63 - length rest)
      → blk ≡ take 56 last ++ length_bytes ((length m * 8) % 2 ^ 64)
      → compress (hashed (length m / 64) m) blk ≡ hashed (length (padded m) / 64) (padded m)
  unfolding tail padded
  finish_one few last blk e f =
      let q = length m / 64 in
      let L = length_bytes ((length m * 8) % 2 ^ 64) in
      let z = (119 - length m % 64) % 64 in
      let t_long = length_tail z L refl in
      let count : length (m ++ tail z L) / 64 ≡ q + 1 = omega (arith, length-append m (tail z L)) in
      let z_is : 63 - length rest ≡ z + 8 = omega arith in
      let block : blk ≡ drop (64 * q) m ++ tail z L =
      f
      ∙ ap (λ v. take 56 v ++ L) e
      ∙ ap (λ k. take 56 (marked rest k) ++ L) z_is
      ∙ ap (λ v. v ++ L) (front_of rest z (omega arith))
      ∙ append_assoc rest (0x80 ∷ replicate z 0) L
      ∙ ap (λ v. v ++ tail z L) is_64 in
      ap (compress (hashed q m)) block
      ∙ sym (ap (λ k. hashed k (m ++ tail z L)) count ∙ hashed_tail q m (tail z L) (omega arith) (omega arith))

  -- `finish` where it does not
  pub finish_two :
      56 ≤ length rest → (last blk : List ℕ) → last ≡ marked rest (63 - length rest)
      → blk ≡ replicate 56 0 ++ length_bytes ((length m * 8) % 2 ^ 64)
      → compress (compress (hashed (length m / 64) m) last) blk ≡ hashed (length (padded m) / 64) (padded m)
  unfolding tail padded
  finish_two many last blk e f =
      let q = length m / 64 in
      let L = length_bytes ((length m * 8) % 2 ^ 64) in
      let z = (119 - length m % 64) % 64 in
      let k = 63 - length rest in
      let t_long = length_tail z L refl in
      let count : length (m ++ tail z L) / 64 ≡ q + 2 = omega (arith, length-append m (tail z L)) in
      let z_is : z ≡ k + 56 = omega arith in
      let front : List ℕ = 0x80 ∷ replicate k 0 in
      let front_long : length front ≡ k + 1 = simp length-replicate (omega arith) in
      let split : tail z L ≡ front ++ (replicate 56 0 ++ L) = ap (λ j. tail j L) z_is ∙ tail_split k 56 L in
      ap (λ v. compress (compress (hashed q m) v) blk) (e ∙ ap (λ v. v ++ front) is_64)
      ∙ ap (compress (compress (hashed q m) (drop (64 * q) m ++ front))) f
      ∙ sym (ap (λ j. hashed j (m ++ tail z L)) count ∙ ap (λ v. hashed (q + 2) (m ++ v)) split ∙ hashed_tails q m front (replicate 56 0 ++ L) (omega arith) (omega arith) refl)

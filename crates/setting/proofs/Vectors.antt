-- t + 1 shares fix the vector that they are of, and so the search finds the one that a quorum of the heard shares are of.
use Rattle.std.proofs.Common.{◌≡◌, ℕ, ◌+◌, ◌-◌, ◌*◌, ◌≤◌, Bool, true, ◌&&◌, leb, List, [], length, take, replicate, Some, None, Option, unwrap_or, sym, ap, ◌∙◌, arith}
use Rattle.std.specs.Str.{bytes_eq}
use Rattle.std.proofs.ByRecursion.{All-weaker}
use Rattle.std.proofs.lemmas.List.{append-nil, take_at}
use Rattle.std.proofs.lemmas.Bool.{and_parts, and_from, leb-true, le-leb, false≢true}
use Rattle.field.specs.Laws.{Arithmetic, FieldLaws}
use Rattle.shape.specs.Lengths.{board_count, row_length, vector_length, share_rows}
use Rattle.coding.specs.Code.{share}
use Rattle.coding.proofs.Decoded.{shares-decoded, shares_fix_vectors}
use Rattle.protocol.specs.Optional.{passing, meets}
use Rattle.protocol.specs.Counting.{count, lowest}
use Rattle.protocol.specs.Messages.{Bytes}
use Rattle.protocol.proofs.Counting.{count_le, count_both}
use Rattle.protocol.proofs.Optional.{passing_some, passing-from, same_eq, eq_same}
use Rattle.setting.specs.Concrete.{is_vector, agrees, is_known, candidate, find}
use Rattle.setting.proofs.Forms.{are_below_true}
use Rattle.protocol.proofs.Lowest.{Passing, lowest_pass}
use Rattle.setting.proofs.Lowest.{lowest-chosen}
use Rattle.setting.proofs.Search.{answer_tested, answer_was}

heard_same : (s : Bytes) (o : Option Bytes) → meets (bytes_eq s) o ≡ true → unwrap_or o [] ≡ s
heard_same s (Some x) e = sym (same_eq s x e)
heard_same s None e = absurd (false≢true e)

module _ (R : Arithmetic) (inv : ℕ → ℕ) (I : FieldLaws R inv) (t : ℕ) (small : t ≤ 5) where
  pub shares_fix : (v w : Bytes) → is_vector t v ≡ true → is_vector t w ≡ true →
      t + 1 ≤ count (λ i. bytes_eq (share R t v i) (share R t w i)) (board_count t) → v ≡ w
  shares_fix v w ev ew many =
      let A : ℕ → Bool = λ i. bytes_eq (share R t v i) (share R t w i) in
      let n = board_count t in
      let js = lowest (t + 1) A n in
      let bv = are_below_true 256 (vector_length t) v ev in
      let bw = are_below_true 256 (vector_length t) w ew in
      shares_fix_vectors R inv I t small js v w (lowest-chosen A t many) bv.1 bw.1 bv.0 bw.0
      (All-weaker (Passing A n) (λ j. share R t v j ≡ share R t w j) (λ j p. same_eq (share R t v j) (share R t w j) p.2) js (lowest_pass A (t + 1) n))

  module _ (heard : ℕ → Option Bytes) where
    abbrev Known : Bytes → Type 0
    Known v = (is_vector t v ≡ true) × (2 * t + 1 ≤ count (agrees R t heard v) (board_count t))

    known-test : (v : Bytes) → Known v → is_known R t heard v ≡ true
    known-test v k =
        let many = count (agrees R t heard v) (board_count t) in
        and_from (is_vector t v) (leb (2 * t + 1) many) k.0 (le-leb (2 * t + 1) many k.1)

    test_known : (v : Bytes) → is_known R t heard v ≡ true → Known v
    test_known v e =
        let many = count (agrees R t heard v) (board_count t) in
        let p = and_parts (is_vector t v) (leb (2 * t + 1) many) e in
        (p.0, leb-true (2 * t + 1) many p.1)

    -- No two vectors are known, since two quorums share t + 1 boards.
    known_once : (v w : Bytes) → Known v → Known w → v ≡ w
    known_once v w kv kw =
        let n = board_count t in
        let A : ℕ → Bool = agrees R t heard v in
        let B : ℕ → Bool = agrees R t heard w in
        let shared = count_le (λ i. A i && B i) (λ i. bytes_eq (share R t v i) (share R t w i)) n
        (λ i low high e.
        let p = and_parts (A i) (B i) e in
        eq_same (share R t v i) (share R t w i) (sym (heard_same (share R t v i) (heard i) p.0) ∙ heard_same (share R t w i) (heard i) p.1)) in
        shares_fix v w kv.0 kw.0 (omega (arith, count_both A B n, shared, kv.1, kw.1))

    -- A known vector is what the shares of the t + 1 lowest boards that agree with it decode to.
    known-candidate : (v : Bytes) → Known v → candidate R inv t heard (lowest (t + 1) (agrees R t heard v) (board_count t)) ≡ v
    known-candidate v k =
        let n = board_count t in
        let A : ℕ → Bool = agrees R t heard v in
        let js = lowest (t + 1) A n in
        let b = are_below_true 256 (vector_length t) v k.0 in
        ap (take (vector_length t))
        (shares-decoded R inv I t js v (λ j. unwrap_or (heard j) []) small (lowest-chosen A t (omega (arith, k.1))) b.1 b.0
        (All-weaker (Passing A n) (λ j. unwrap_or (heard j) [] ≡ share R t v j) (λ j p. heard_same (share R t v j) (heard j) p.2) js (lowest_pass A (t + 1) n)))
        ∙ take_at v (replicate (share_rows t * row_length t - length v) 0) (vector_length t) b.0

    abbrev test : List ℕ → Option Bytes
    test js = passing (is_known R t heard) (Some (candidate R inv t heard js))

    pub found : (v : Bytes) → find R inv t heard ≡ Some v → Known v
    found v e =
        let tested = answer_tested test (row_length t) (board_count t) [] v e in
        test_known v (passing_some (is_known R t heard) (Some (candidate R inv t heard tested.0)) v tested.1).1

    pub finds : (v : Bytes) → Known v → find R inv t heard ≡ Some v
    finds v k =
        let A : ℕ → Bool = agrees R t heard v in
        let js = lowest (t + 1) A (board_count t) in
        let passes = passing-from (is_known R t heard) (Some (candidate R inv t heard js)) v (ap Some (known-candidate v k)) (known-test v k) in
        let answer = answer_was test A (t + 1) (board_count t) [] (omega (arith, k.1)) (v, ap test (append-nil js) ∙ passes) in
        answer.1 ∙ ap Some (known_once answer.0 v (found answer.0 answer.1) k)

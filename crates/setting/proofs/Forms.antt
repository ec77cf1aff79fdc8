-- What the tests on byte strings tell, and that what is coded and laid has the form that is asked for.
use Rattle.std.proofs.Common.{◌≡◌, ℕ, zero, suc, ◌+◌, ◌-◌, ◌*◌, ◌/◌, ◌%◌, ◌<◌, true, eqb, ltb, List, [], ◌∷◌, length, sym, refl, subst, mod-lt, arith}
use Rattle.std.specs.List.{AllByRecursion}
use Rattle.std.proofs.ByRecursion.{All-append, All-push}
use Rattle.std.proofs.lemmas.Bool.{and_parts, and_from, eqb-true, eq-eqb, ltb-true, lt-ltb}
use Rattle.field.specs.Laws.{Arithmetic, RingLaws, width}
use Rattle.hash.specs.Bytes.{Bytes}
use Rattle.elements.specs.Pieces.{piece, laid}
use Rattle.elements.specs.Numbers.{written}
use Rattle.elements.specs.Element.{element, Elements}
use Rattle.polynomial.specs.Polynomial.{eval}
use Rattle.polynomial.proofs.Evaluation.{eval_code}
use Rattle.coding.specs.Code.{coded}
use Rattle.coding.proofs.Decoded.{element-coded}
use Rattle.coding.proofs.Encoded.{coded-length}
use Rattle.protocol.specs.Counting.{every}
use Rattle.setting.specs.Concrete.{all_below, are_below, is_part}
use Rattle.protocol.proofs.Counting.{every_at, every-from}

-- n numbers, all below q.
abbrev pub AreBelow : ℕ → ℕ → List ℕ → Type 0
AreBelow q n xs = (length xs ≡ n) × AllByRecursion (λ x. x < q) xs

all_below_true : (q : ℕ) (xs : List ℕ) → all_below q xs ≡ true → AllByRecursion (λ x. x < q) xs
unfolding all_below
all_below_true q [] e = tt
all_below_true q (x ∷ xs) e = let p = and_parts (ltb x q) (all_below q xs) e in (ltb-true x q p.0, all_below_true q xs p.1)

all_below-from : (q : ℕ) (xs : List ℕ) → AllByRecursion (λ x. x < q) xs → all_below q xs ≡ true
unfolding all_below
all_below-from q [] all = refl
all_below-from q (x ∷ xs) all = and_from (ltb x q) (all_below q xs) (lt-ltb x q all.0) (all_below-from q xs all.1)

pub are_below_true : (q n : ℕ) (xs : List ℕ) → are_below q n xs ≡ true → AreBelow q n xs
are_below_true q n xs e =
    let p = and_parts (eqb (length xs) n) (all_below q xs) e in
    (eqb-true (length xs) n p.0, all_below_true q xs p.1)

pub are_below-from : (q n : ℕ) (xs : List ℕ) → AreBelow q n xs → are_below q n xs ≡ true
are_below-from q n xs p = and_from (eqb (length xs) n) (all_below q xs) (eq-eqb (length xs) n p.0) (all_below-from q xs p.1)

module _ (R : Arithmetic) (q : ℕ) (x : List ℕ) where
  pub part_elements : is_part R q x ≡ true → Elements R x q
  part_elements e i h =
      let p = and_parts (are_below 256 (q * width R) x) (every (λ i. ltb (element R x (i - 1)) R.size) q) e in
      let before : i + 1 - 1 ≡ i = omega arith in
      subst (λ i. element R x i < R.size) before
      (ltb-true (element R x (i + 1 - 1)) R.size (every_at (λ i. ltb (element R x (i - 1)) R.size) q p.1 (i + 1) (omega arith) (omega arith)))

  pub part_from : AreBelow 256 (q * width R) x → Elements R x q → is_part R q x ≡ true
  part_from bytes codes =
      and_from (are_below 256 (q * width R) x) (every (λ i. ltb (element R x (i - 1)) R.size) q)
      (are_below-from 256 (q * width R) x bytes)
      (every-from (λ i. ltb (element R x (i - 1)) R.size) q (λ i low high. lt-ltb (element R x (i - 1)) R.size (codes (i - 1) (omega arith))))

-- What holds of each number of each piece holds of all that is laid.
pub all_laid : (P : ℕ → Type 0) (f : ℕ → List ℕ) (n : ℕ) → ((i : ℕ) → i < n → AllByRecursion P (f i)) → AllByRecursion P (laid f n)
unfolding laid
all_laid P f zero each = tt
all_laid P f (suc n) each = All-append P (laid f n) (f n) (all_laid P f n (λ i h. each i (omega arith))) (each n (omega arith))

written-bytes : (w v : ℕ) → Bytes (written w v)
written-bytes zero v = tt
written-bytes (suc w) v = All-push (λ b. b < 256) (written w (v / 256)) (v % 256) (written-bytes w (v / 256)) (mod-lt v (omega arith))

module _ (R : Arithmetic) (L : RingLaws R) (k q : ℕ) (xs : List ℕ) (j : ℕ) where
  pub coded-bytes : Bytes (coded R k q xs j)
  coded-bytes = all_laid (λ b. b < 256) (λ i. written (width R) (eval R (piece k xs i) j)) q (λ i h. written-bytes (width R) (eval R (piece k xs i) j))

  -- What a board holds is a part, whatever it is coded from.
  pub coded_part : is_part R q (coded R k q xs j) ≡ true
  coded_part =
      part_from R q (coded R k q xs j) (coded-length R k q xs j, coded-bytes)
      (λ i h. subst (λ a. a < R.size) (sym (element-coded R L k q xs j i h)) (eval_code R L (piece k xs i) j))

-- Lists that rise are distinct and within their bounds.
use Rattle.std.proofs.Common.{◌≡◌, ℕ, ◌+◌, ◌<◌, ◌≤◌, true, List, [], ◌∷◌, arith}
use Rattle.std.proofs.ByRecursion.{All-weaker}
use Rattle.std.proofs.lemmas.Bool.{and_parts, leb-true, ltb-true}
use Rattle.field.specs.Laws.{Arithmetic}
use Rattle.std.specs.List.{AllByRecursion}
use Rattle.polynomial.specs.Polynomial.{Codes, Distinct}
use Rattle.polynomial.specs.Interpolation.{rising, admitted}

-- What the test tells of the first element and of the others.
rising_parts : (low high x : ℕ) (xs : List ℕ) → rising low high (x ∷ xs) ≡ true → (low ≤ x) × (x < high) × (rising (x + 1) high xs ≡ true)
rising_parts low high x xs t =
    let p = and_parts _ _ t in
    let q = and_parts _ _ p.0 in
    (leb-true low x q.0, ltb-true x high q.1, p.1)

pub rising_below : (low high : ℕ) (xs : List ℕ) → rising low high xs ≡ true → AllByRecursion (λ x. x < high) xs
rising_below low high [] t = tt
rising_below low high (x ∷ xs) t = let p = rising_parts low high x xs t in (p.1, rising_below (x + 1) high xs p.2)

pub rising-from : (low high : ℕ) (xs : List ℕ) → rising low high xs ≡ true → AllByRecursion (λ x. low ≤ x) xs
rising-from low high [] t = tt
rising-from low high (x ∷ xs) t =
    let p = rising_parts low high x xs t in
    let first = p.0 in
    (first, All-weaker (λ y. x + 1 ≤ y) (λ y. low ≤ y) (λ y h. omega arith) xs (rising-from (x + 1) high xs p.2))

pub rising_distinct : (low high : ℕ) (xs : List ℕ) → rising low high xs ≡ true → Distinct xs
rising_distinct low high [] t = tt
rising_distinct low high (x ∷ xs) t =
    let rest = (rising_parts low high x xs t).2 in
    (All-weaker (λ y. x + 1 ≤ y) (λ y. y ≡ x → ⊥) (λ y h e. omega arith) xs (rising-from (x + 1) high xs rest), rising_distinct (x + 1) high xs rest)

pub admitted_codes : (R : Arithmetic) (xs : List ℕ) → admitted R xs ≡ true → Codes R xs
admitted_codes R xs t = rising_below 0 R.size xs (and_parts _ _ t).1

pub admitted_distinct : (R : Arithmetic) (xs : List ℕ) → admitted R xs ≡ true → Distinct xs
admitted_distinct R xs t = rising_distinct 0 R.size xs (and_parts _ _ t).1

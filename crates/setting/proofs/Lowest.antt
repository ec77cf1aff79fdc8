-- The t + 1 lowest of the boards that pass a test are t + 1 different boards.
use Rattle.std.proofs.Common.{◌≡◌, ℕ, zero, suc, ◌+◌, ◌*◌, ◌≤◌, Bool, true, false, List, [], ◌∷◌, ◌++◌, take, sym, subst, arith}
use Rattle.std.specs.List.{AllByRecursion}
use Rattle.std.proofs.ByRecursion.{All-take, All-push, All-weaker}
use Rattle.std.proofs.lemmas.List.{append-nil, length-take-le}
use Rattle.polynomial.specs.Polynomial.{Distinct}
use Rattle.coding.specs.Code.{Chosen}
use Rattle.protocol.specs.Counting.{count, those, lowest}
use Rattle.protocol.proofs.Lowest.{more, Passing, those-length, those_pass, lowest_pass}

distinct_push : (xs : List ℕ) (x : ℕ) → Distinct xs → AllByRecursion (λ y. x ≡ y → ⊥) xs → Distinct (xs ++ x ∷ [])
distinct_push [] x d new = (tt, tt)
distinct_push (y ∷ xs) x d new = (All-push (λ z. z ≡ y → ⊥) xs x d.0 new.0, distinct_push xs x d.1 new.1)

distinct_take : (n : ℕ) (xs : List ℕ) → Distinct xs → Distinct (take n xs)
distinct_take zero xs d = tt
distinct_take (suc n) [] d = tt
distinct_take (suc n) (x ∷ xs) d = (All-take (λ y. y ≡ x → ⊥) n xs d.0, distinct_take n xs d.1)

module _ (A : ℕ → Bool) where
  those_distinct : (k : ℕ) → Distinct (those A k)
  unfolding those
  those_distinct zero = tt
  those_distinct (suc k) = go (A (suc k)) (those A k) (those_pass A k) (those_distinct k)
    where
      go : (b : Bool) (xs : List ℕ) → AllByRecursion (Passing A k) xs → Distinct xs → Distinct (more k b xs)
      go true xs all d = distinct_push xs (suc k) d (All-weaker (Passing A k) (λ y. suc k ≡ y → ⊥) (λ y p e. omega (arith, p.1)) xs all)
      go false xs all d = subst Distinct (sym (append-nil xs)) d

  pub lowest-chosen : (t : ℕ) → t + 1 ≤ count A (3 * t + 1) → Chosen t (lowest (t + 1) A (3 * t + 1))
  lowest-chosen t many =
      let n = 3 * t + 1 in
      record {
        enough = length-take-le (t + 1) (those A n) (omega (arith, those-length A n));
        boards = All-weaker (Passing A n) (λ j. (1 ≤ j) × (j ≤ n)) (λ j p. (p.0, p.1)) (lowest (t + 1) A n) (lowest_pass A (t + 1) n);
        distinct = distinct_take (t + 1) (those A n) (those_distinct n);
      }

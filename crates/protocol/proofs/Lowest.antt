-- The lowest of the numbers that pass a test: how many they are, and that they are within bounds and pass.
use Rattle.std.proofs.Common.{◌≡◌, ℕ, zero, suc, ◌+◌, ◌<◌, ◌≤◌, Bool, true, false, cond, List, [], ◌∷◌, ◌++◌, length, take, sym, refl, ap, ◌∙◌, subst, arith}
use Rattle.std.specs.List.{AllByRecursion}
use Rattle.std.proofs.ByRecursion.{All-take, All-push, All-weaker}
use Rattle.std.proofs.lemmas.List.{append-nil, length-append, take_all, take-append-le}
use Rattle.protocol.specs.Counting.{tick, count, those, lowest}

-- The numbers 1 to k that pass, with one more or without it.
abbrev pub more : ℕ → Bool → List ℕ → List ℕ
more k b xs = xs ++ cond b (suc k ∷ []) []

-- A number within 1 to k that passes.
abbrev pub Passing : (ℕ → Bool) → ℕ → ℕ → Type 0
Passing A k i = (1 ≤ i) × (i ≤ k) × (A i ≡ true)

module _ (A : ℕ → Bool) where
  pub those-length : (k : ℕ) → length (those A k) ≡ count A k
  unfolding those count
  those-length zero = refl
  those-length (suc k) = go (A (suc k)) (those A k) (those-length k)
    where
      go : (b : Bool) (xs : List ℕ) → length xs ≡ count A k → length (more k b xs) ≡ tick b + count A k
      go true xs l = length-append xs (suc k ∷ []) ∙ omega arith
      go false xs l = ap length (append-nil xs) ∙ omega arith

  pub those_pass : (k : ℕ) → AllByRecursion (Passing A k) (those A k)
  unfolding those
  those_pass zero = tt
  those_pass (suc k) = go (A (suc k)) refl (those A k) (those_pass k)
    where
      wider : (xs : List ℕ) → AllByRecursion (Passing A k) xs → AllByRecursion (Passing A (suc k)) xs
      wider = All-weaker (Passing A k) (Passing A (suc k)) (λ i p. (p.0, omega (arith, p.1), p.2))

      go : (b : Bool) → A (suc k) ≡ b → (xs : List ℕ) → AllByRecursion (Passing A k) xs → AllByRecursion (Passing A (suc k)) (more k b xs)
      go true e xs all = All-push (Passing A (suc k)) xs (suc k) (wider xs all) (omega arith, omega arith, e)
      go false e xs all = subst (AllByRecursion (Passing A (suc k))) (sym (append-nil xs)) (wider xs all)

  pub lowest_pass : (m k : ℕ) → AllByRecursion (Passing A k) (lowest m A k)
  lowest_pass m k = All-take (Passing A k) m (those A k) (those_pass k)

  -- The lowest of the numbers 1 to k + 1, where those of 1 to k are enough, and where k + 1 is needed too.
  pub lowest_before : (m k : ℕ) → m ≤ count A k → lowest m A (suc k) ≡ lowest m A k
  unfolding those
  lowest_before m k many = take-append-le m (those A k) (cond (A (suc k)) (suc k ∷ []) []) (omega (arith, those-length k))

  pub lowest_last : (m k : ℕ) → count A k ≡ m → A (suc k) ≡ true → lowest (suc m) A (suc k) ≡ lowest m A k ++ suc k ∷ []
  unfolding those
  lowest_last m k all e =
      let l = those-length k in
      let last : those A k ++ cond (A (suc k)) (suc k ∷ []) [] ≡ those A k ++ suc k ∷ [] = ap (λ b. more k b (those A k)) e in
      ap (take (suc m)) last
      ∙ take_all (suc m) (those A k ++ suc k ∷ []) (omega (arith, length-append (those A k) (suc k ∷ [])))
      ∙ ap (λ xs. xs ++ suc k ∷ []) (sym (take_all m (those A k) (omega arith)))

  -- If the numbers 1 to k + 1 are enough and those before k + 1 are not, k + 1 is the last that is needed.
  pub last_needed : (m k : ℕ) → suc m ≤ count A (suc k) → count A k < suc m → (count A k ≡ m) × (A (suc k) ≡ true)
  unfolding count
  last_needed m k many few = go (A (suc k)) refl
    where
      go : (b : Bool) → A (suc k) ≡ b → (count A k ≡ m) × (A (suc k) ≡ true)
      go true e = let one : tick (A (suc k)) ≡ 1 = ap tick e in (omega arith, e)
      go false e = let none : tick (A (suc k)) ≡ 0 = ap tick e in absurd (omega arith)

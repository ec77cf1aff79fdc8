-- The numbers 1 to k that pass a test, how many they are, and quorums.
use Rattle.std.proofs.Common.{◌≡◌, ℕ, zero, suc, ◌+◌, ◌*◌, ◌<◌, ◌≤◌, Bool, true, false, not, ◌&&◌, ◌||◌, eqb, ◌⊎◌, sym, refl, ap, ◌∙◌, inl, inr, add-one, arith}
use Rattle.std.proofs.lemmas.Bool.{eqb-true, ne_eqb, and_parts, and_from, cases_eq}
use Rattle.protocol.specs.Counting.{tick, count, every}

pub count-zero : (A : ℕ → Bool) → count A 0 ≡ 0
unfolding count
count-zero A = refl

pub count-more : (A : ℕ → Bool) (k : ℕ) → count A (k + 1) ≡ tick (A (k + 1)) + count A k
unfolding count
count-more A k = rw (add-one k)

pub tick_le : (a b : Bool) → (a ≡ true → b ≡ true) → tick a ≤ tick b
tick_le true true h = omega arith
tick_le true false h = let z : ◌≡◌ {A = ℕ} 0 1 = cc (h refl) in omega arith
tick_le false true h = omega arith
tick_le false false h = omega arith

pub count_le : (A B : ℕ → Bool) (k : ℕ) → ((i : ℕ) → 1 ≤ i → i ≤ k → A i ≡ true → B i ≡ true) → count A k ≤ count B k
unfolding count
count_le A B zero h = omega arith
count_le A B (suc k) h =
    let head : tick (A (suc k)) ≤ tick (B (suc k)) = tick_le (A (suc k)) (B (suc k)) (h (suc k) (omega arith) (omega arith)) in
    let tail : count A k ≤ count B k = count_le A B k (λ i p q. h i p (omega arith)) in
    omega arith

tick_both : (a b : Bool) → tick a + tick b ≤ 1 + tick (a && b)
tick_both true true = omega arith
tick_both true false = omega arith
tick_both false true = omega arith
tick_both false false = omega arith

pub count_both : (A B : ℕ → Bool) (k : ℕ) → count A k + count B k ≤ k + count (λ i. A i && B i) k
unfolding count
count_both A B zero = omega arith
count_both A B (suc k) = omega (arith, tick_both (A (suc k)) (B (suc k)), count_both A B k)

tick-minus : (a b : Bool) → tick a ≤ tick (a && not b) + tick b
tick-minus true true = omega arith
tick-minus true false = omega arith
tick-minus false true = omega arith
tick-minus false false = omega arith

pub count-minus : (A bad : ℕ → Bool) (k : ℕ) → count A k ≤ count (λ i. A i && not (bad i)) k + count bad k
unfolding count
count-minus A bad zero = omega arith
count-minus A bad (suc k) = omega (arith, tick-minus (A (suc k)) (bad (suc k)), count-minus A bad k)

tick_not : (a : Bool) → tick (not a) + tick a ≡ 1
tick_not true = omega arith
tick_not false = omega arith

pub count_not : (bad : ℕ → Bool) (k : ℕ) → count (λ i. not (bad i)) k + count bad k ≡ k
unfolding count
count_not bad zero = omega arith
count_not bad (suc k) = omega (arith, tick_not (bad (suc k)), count_not bad k)

pub count_none : (A : ℕ → Bool) (k : ℕ) → ((i : ℕ) → 1 ≤ i → i ≤ k → A i ≡ false) → count A k ≡ 0
unfolding count
count_none A zero h = refl
count_none A (suc k) h =
    let head : tick (A (suc k)) ≡ 0 = ap tick (h (suc k) (omega arith) (omega arith)) in
    omega (arith, count_none A k (λ i p q. h i p (omega arith)))

pub count_some : (A : ℕ → Bool) (k : ℕ) → 1 ≤ count A k → (i : ℕ) × (1 ≤ i) × (i ≤ k) × (A i ≡ true)
unfolding count
count_some A zero h = absurd (omega arith)
count_some A (suc k) h = go (A (suc k)) refl (count_some A k)
  where
    go : (a : Bool) → A (suc k) ≡ a → (1 ≤ count A k → (i : ℕ) × (1 ≤ i) × (i ≤ k) × (A i ≡ true)) → (i : ℕ) × (1 ≤ i) × (i ≤ suc k) × (A i ≡ true)
    go true e ih = (suc k, omega arith, omega arith, e)
    go false e ih =
        let z : tick (A (suc k)) ≡ 0 = ap tick e in
        let r : (i : ℕ) × (1 ≤ i) × (i ≤ k) × (A i ≡ true) = ih (omega arith) in
        (r.0, r.1, omega arith, r.3)

pub count_has : (A : ℕ → Bool) (k i : ℕ) → 1 ≤ i → i ≤ k → A i ≡ true → 1 ≤ count A k
unfolding count
count_has A zero i p q h = absurd (omega arith)
count_has A (suc k) i p q h = go (cases_eq i (suc k)) (λ x. count_has A k i p x h)
  where
    go : (i ≡ suc k) ⊎ (i ≡ suc k → ⊥) → (i ≤ k → 1 ≤ count A k) → 1 ≤ tick (A (suc k)) + count A k
    go (inl e) ih = let one : tick (A (suc k)) ≡ 1 = ap tick (ap A (sym e) ∙ h) in omega arith
    go (inr ne) ih = omega (arith, ih (omega arith))

pub count-all : (A : ℕ → Bool) (k : ℕ) → k ≤ count A k → (i : ℕ) → 1 ≤ i → i ≤ k → A i ≡ true
count-all A k many i p q = go (A i) refl
  where
    go : (b : Bool) → A i ≡ b → A i ≡ true
    go true e = e
    go false e = absurd (omega (arith, count_not A k, count_has (λ i. not (A i)) k i p q (ap not e)))

-- one number more, at most
tick_or : (a b : Bool) → tick (a || b) ≤ tick a + tick b
tick_or true true = omega arith
tick_or true false = omega arith
tick_or false true = omega arith
tick_or false false = omega arith

pub count_or : (A B : ℕ → Bool) (k : ℕ) → count (λ i. A i || B i) k ≤ count A k + count B k
unfolding count
count_or A B zero = omega arith
count_or A B (suc k) = omega (arith, tick_or (A (suc k)) (B (suc k)), count_or A B k)

count_past : (p k : ℕ) → k < p → count (λ i. eqb i p) k ≡ 0
count_past p k h = count_none (λ i. eqb i p) k (λ i a b. ne_eqb i p (λ e. omega arith))

tick-one : (a : Bool) → tick a ≤ 1
tick-one true = omega arith
tick-one false = omega arith

pub count_single : (p k : ℕ) → count (λ i. eqb i p) k ≤ 1
unfolding count
count_single p zero = omega arith
count_single p (suc k) = go (eqb (suc k) p) refl (count_single p k)
  where
    go : (a : Bool) → eqb (suc k) p ≡ a → count (λ i. eqb i p) k ≤ 1 → tick (eqb (suc k) p) + count (λ i. eqb i p) k ≤ 1
    go true e ih =
        let q : suc k ≡ p = eqb-true (suc k) p e in
        omega (arith, count_past p k (omega arith), tick-one (eqb (suc k) p))
    go false e ih = let z : tick (eqb (suc k) p) ≡ 0 = ap tick e in omega arith

not-true : (a : Bool) → not a ≡ true → a ≡ false
not-true true h = sym h
not-true false h = refl

-- of t + 1 one is not among t
pub one_of : (t n : ℕ) (A bad : ℕ → Bool) → count bad n ≤ t → t + 1 ≤ count A n → (i : ℕ) × (1 ≤ i) × (i ≤ n) × (A i ≡ true) × (bad i ≡ false)
one_of t n A bad few many =
    let r = count_some (λ i. A i && not (bad i)) n (omega (arith, count-minus A bad n)) in
    let p = and_parts (A r.0) (not (bad r.0)) r.3 in
    (r.0, r.1, r.2, p.0, not-true (bad r.0) p.1)

-- two quorums meet in one that is not among t
pub quorums : (t : ℕ) (A B bad : ℕ → Bool) → count bad (3 * t + 1) ≤ t → 2 * t + 1 ≤ count A (3 * t + 1) → 2 * t + 1 ≤ count B (3 * t + 1)
    → (i : ℕ) × (1 ≤ i) × (i ≤ 3 * t + 1) × (A i ≡ true) × (B i ≡ true) × (bad i ≡ false)
quorums t A B bad few a b =
    let r = one_of t (3 * t + 1) (λ i. A i && B i) bad few (omega (arith, count_both A B (3 * t + 1))) in
    let p = and_parts (A r.0) (B r.0) r.3 in
    (r.0, r.1, r.2, p.0, p.1, r.4)

-- All pass: each does, and the other way round.
pub every_at : (A : ℕ → Bool) (k : ℕ) → every A k ≡ true → (i : ℕ) → 1 ≤ i → i ≤ k → A i ≡ true
unfolding every
every_at A zero h i p q = absurd (omega arith)
every_at A (suc k) h i p q =
    let b = and_parts (every A k) (A (suc k)) h in
    elim (cases_eq i (suc k)) [ inl e ↦ ap A e ∙ b.1 | inr ne ↦ every_at A k b.0 i p (omega arith) ]

pub every-from : (A : ℕ → Bool) (k : ℕ) → ((i : ℕ) → 1 ≤ i → i ≤ k → A i ≡ true) → every A k ≡ true
unfolding every
every-from A zero h = refl
every-from A (suc k) h = and_from (every A k) (A (suc k)) (every-from A k (λ i p q. h i p (omega arith))) (h (suc k) (omega arith) (omega arith))

-- The coefficients of a row, from the points of the chosen boards.
use Rattle.std.proofs.Common.{◌≡◌, ℕ, zero, suc, ◌*◌, ◌<◌, Bool, true, false, MatchBool, Decides, List, [], ◌∷◌, map, length, take, drop, is_some, IsSomeAnd, Some, None, Option, sym, refl, ap, ◌∙◌, subst, zero-add, arith, MatchOption}
use Rattle.std.proofs.ByRecursion.{All-map, All-weaker, All-take, All-drop, All-append}
use Rattle.std.proofs.lemmas.List.{length-map}
use Rattle.std.proofs.lemmas.List.FromFn.{length-range_with_len, get_or-range_with_len}
use Rattle.coding.proofs.Tried.{decided_not}
use Rattle.std.proofs.lemmas.Bool.{some_since, both_ways}
use Rattle.std.specs.List.{range_with_len, AllWithin, HoldsAt}
use Rattle.field.specs.Laws.{Arithmetic, RingLaws}
use Rattle.polynomial.specs.declared.interpolation.Basis.{Basis}
use Rattle.polynomial.specs.Polynomial.{Codes, Distinct, interpolated}
use Rattle.polynomial.specs.Interpolation.{admitted, codes_of, values_of, BasisOf, Solves}
use Rattle.shape.specs.declared.Shape.{Shape}
use Rattle.elements.specs.Pieces.{laid}
use Rattle.elements.specs.Element.{element, Elements}
use Rattle.hash.specs.Bytes.{Bytes}
use Rattle.coding.specs.Decoding.{held, points_of, row_coefficients, coefficients, are_chosen, Sound}
use Rattle.polynomial.proofs.Newton.{interpolated-length}
use Rattle.elements.proofs.Pieces.{piece-laid}
use Rattle.coding.proofs.Selected.{chosen}
use Rattle.coding.proofs.Sizes.{boards_codes}

-- What interpolation through points promises, as the contract of a basis has it.
abbrev pub Through : Arithmetic → (ℕ → ℕ) → Basis → List (ℕ × ℕ) → Option (List ℕ) → Type 0
Through R inv b ps r = (xs : List ℕ) → BasisOf R inv xs b → codes_of ps ≡ xs → Codes R xs → Distinct xs → Codes R (values_of ps) → IsSomeAnd r (Solves R inv xs (values_of ps))

module _ (f : ℕ → ℕ) where
  codes_points : (js : List ℕ) → codes_of (map (λ j. (j, f j)) js) ≡ js
  codes_points [] = refl
  codes_points (j ∷ js) = ap (λ l. j ∷ l) (codes_points js)

  values_points : (js : List ℕ) → values_of (map (λ j. (j, f j)) js) ≡ map f js
  values_points [] = refl
  values_points (j ∷ js) = ap (λ l. f j ∷ l) (values_points js)

there : {A : Type 0} (r : Option A) (P : A → Type 0) → IsSomeAnd r P → is_some r ≡ true
there (Some x) P h = refl
there None P h = absurd h

at : {A : Type 0} (r : Option A) (P : A → Type 0) → IsSomeAnd r P → (x : A) → r ≡ Some x → P x
at r P h x e = subst (λ o. IsSomeAnd o P) e h

module _ (R : Arithmetic) (inv : ℕ → ℕ) (L : RingLaws R) (s : Shape) (fragments js : List ℕ) (b : Basis)
    (yes! : are_chosen s js ≡ true) (sound : Sound R s fragments js) (based : BasisOf R inv js b) (i : ℕ) (h : i < s.rows)
    (ps : List (ℕ × ℕ)) (is : ps ≡ points_of R s fragments js i) (r : Option (List ℕ)) (through : Through R inv b ps r) where
  values_is : values_of ps ≡ map (λ j. element R (held R s fragments j) i) js
  values_is = ap values_of is ∙ values_points (λ j. element R (held R s fragments j) i) js

  solved : IsSomeAnd r (Solves R inv js (values_of ps))
  solved =
      let c = chosen s js yes! in
      through js based (ap codes_of is ∙ codes_points (λ j. element R (held R s fragments j) i) js)
      (boards_codes R L s.faults js s.faults_most c.boards) c.distinct
      (subst (Codes R) (sym values_is)
      (All-map (λ a. a < R.size) (λ j. element R (held R s fragments j) i) js
      (All-weaker (λ j. Elements R (held R s fragments j) s.rows) (λ j. element R (held R s fragments j) i < R.size) (λ j e. e i h) js sound)))

  pub row_there : is_some r ≡ true
  row_there = there r (Solves R inv js (values_of ps)) solved

  pub row_is : (cs : List ℕ) → r ≡ Some cs → take (length js) cs ≡ row_coefficients R inv s fragments js i
  row_is cs e = (at r (Solves R inv js (values_of ps)) solved cs e).newton ∙ ap (interpolated R inv js) values_is

-- Each row has as many coefficients as boards are chosen.
pub row_long : (R : Arithmetic) (inv : ℕ → ℕ) (s : Shape) (fragments js : List ℕ) (i : ℕ) → length (row_coefficients R inv s fragments js i) ≡ length js
row_long R inv s fragments js i = interpolated-length R inv js (map (λ j. element R (held R s fragments j) i) js) (length-map js (λ j. element R (held R s fragments j) i))

-- If all coefficients are bytes, those of each row are.
pub bytes_row : (R : Arithmetic) (inv : ℕ → ℕ) (s : Shape) (fragments js : List ℕ) (i : ℕ) → i < s.rows → Bytes (coefficients R inv s fragments js) → Bytes (row_coefficients R inv s fragments js i)
bytes_row R inv s fragments js i h all =
    let row : ℕ → List ℕ = row_coefficients R inv s fragments js in
    let w = length js in
    subst Bytes (piece-laid row w s.rows i h (λ i h. row_long R inv s fragments js i))
    (All-take (λ b. b < 256) w (drop (i * w) (laid row s.rows)) (All-drop (λ b. b < 256) (i * w) (laid row s.rows) all))

-- Rows that are bytes, each tried in turn, are bytes together.
bytes_laid : (f : ℕ → List ℕ) (n : ℕ) → ((i : ℕ) → i < n → Bytes (f i)) → Bytes (laid f n)
unfolding laid
bytes_laid f zero each = tt
bytes_laid f (suc n) each = All-append (λ b. b < 256) (laid f n) (f n) (bytes_laid f n (λ i h. each i (omega arith))) (each n (omega arith))

pub rows_decided : (R : Arithmetic) (inv : ℕ → ℕ) (s : Shape) (fragments js : List ℕ) (r : Bool) → let row : ℕ → List ℕ = row_coefficients R inv s fragments js in
    let rows : List ℕ = range_with_len 0 s.rows in
    MatchBool r (AllWithin (λ i. Bytes (row i)) rows 0 (length rows)) ((k : ℕ) × (k < length rows) × HoldsAt (λ i. Bytes (row i) → ⊥) rows k) → Decides r (Bytes (coefficients R inv s fragments js))
rows_decided R inv s fragments js true all = (
  (λ e.
      bytes_laid (row_coefficients R inv s fragments js) s.rows
      (λ i h.
      let n : i < length (range_with_len 0 s.rows) = omega (arith, length-range_with_len 0 s.rows) in
      subst (λ k. Bytes (row_coefficients R inv s fragments js k)) (get_or-range_with_len 0 s.rows i 0 h ∙ zero-add i) (all i 0 (omega arith) n))),
  (λ b. refl),
)
rows_decided R inv s fragments js false one =
    let h : one.0 < s.rows = omega (arith, one.1, length-range_with_len 0 s.rows) in
    decided_not (Bytes (coefficients R inv s fragments js))
    (λ all. one.2 0 (subst (λ k. Bytes (row_coefficients R inv s fragments js k)) (sym (get_or-range_with_len 0 s.rows one.0 0 h ∙ zero-add one.0)) (bytes_row R inv s fragments js one.0 h all)))

module _ (R : Arithmetic) (inv : ℕ → ℕ) (xs : List ℕ) (r : Option Basis) (made : MatchOption r (admitted R xs ≡ false) (λ b. (admitted R xs ≡ true) × BasisOf R inv xs b)) (yes! : admitted R xs ≡ true) where
  -- There is a basis at codes that are admitted.
  pub basis_there : is_some r ≡ true
  basis_there = some_since r (admitted R xs ≡ false) (λ b. (admitted R xs ≡ true) × BasisOf R inv xs b) made (λ e. both_ways (admitted R xs) e yes!)

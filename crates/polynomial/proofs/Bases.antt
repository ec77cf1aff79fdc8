-- Comparing points with a basis, the sum of products that a coefficient is, and that the coefficients are those of the polynomial through the points.
use Rattle.std.proofs.Common.{◌≡◌, ℕ, ◌&&◌, nat_eq, refl, ◌<◌, List, [], ◌∷◌, map, length, get_or, take, sym, ap, ◌∙◌, subst, zero-add, arith}
use Rattle.std.specs.List.{fold, list_all, zip}
use Rattle.std.specs.Str.{bytes_eq as same_numbers}
use Rattle.std.proofs.lemmas.List.FromFn.{get_or-map-range_with_len}
use Rattle.std.proofs.lemmas.List.{get_or-take, length-map, length-take-le}
use Rattle.field.specs.Laws.{Arithmetic, RingLaws, FieldLaws}
use Rattle.field.proofs.Rings.{zero_code, zero-add as zero-plus}
use Rattle.polynomial.specs.declared.interpolation.Basis.{Basis}
use Rattle.polynomial.specs.declared.interpolation.Entry.{Entry}
use Rattle.polynomial.specs.Polynomial.{Codes, Distinct, interpolated, Interpolates, dot, column}
use Rattle.polynomial.specs.Interpolation.{BasisOf, codes_of, values_of, rows_of, combined, Solves}
use Rattle.polynomial.proofs.Newton.{interpolates}
use Rattle.polynomial.proofs.Lagrange.{by_rows}

-- Comparing as many points as entries one by one compares their codes.
pub same_codes_by_pairs : (ps : List (ℕ × ℕ)) (es : List Entry) → length ps ≡ length es →
    list_all (λ q. nat_eq q.0.0 q.1.code) (zip ps es) ≡ same_numbers (codes_of ps) (map (λ e. e.code) es)
same_codes_by_pairs [] [] n = refl
same_codes_by_pairs [] (e ∷ es) n = absurd (omega arith)
same_codes_by_pairs (p ∷ ps) [] n = absurd (omega arith)
same_codes_by_pairs (p ∷ ps) (e ∷ es) n = ap (λ rest. nat_eq p.0 e.code && rest) (same_codes_by_pairs ps es (omega arith))

module _ (R : Arithmetic) (L : RingLaws R) where
  dot_code : (vs ws : List ℕ) → dot R vs ws < R.size
  dot_code [] ws = zero_code R L
  dot_code (v ∷ vs) [] = zero_code R L
  dot_code (v ∷ vs) (w ∷ ws) = L.sums.code (R.mul v w) (dot R vs ws)

  -- The products of the points' values with the column at i, added up from a on.
  sum_from : (i a : ℕ) (ps : List (ℕ × ℕ)) (es : List Entry) → a < R.size →
      fold (λ s q. R.add s (R.mul q.0.1 (get_or q.1.row i 0))) a (zip ps es) ≡ R.add a (dot R (values_of ps) (column i (map (λ e. e.row) es)))
  sum_from i a [] es h = sym (L.add-zero a h)
  sum_from i a (p ∷ ps) [] h = sym (L.add-zero a h)
  sum_from i a (p ∷ ps) (e ∷ es) h =
      let m = R.mul p.1 (get_or e.row i 0) in
      let rest = dot R (values_of ps) (column i (map (λ e. e.row) es)) in
      sum_from i (R.add a m) ps es (L.sums.code a m)
      ∙ L.add_assoc a m rest h (L.products.code p.1 (get_or e.row i 0)) (dot_code (values_of ps) (column i (map (λ e. e.row) es)))

  pub sum_of_products : (i : ℕ) (ps : List (ℕ × ℕ)) (es : List Entry) →
      fold (λ s q. R.add s (R.mul q.0.1 (get_or q.1.row i 0))) 0 (zip ps es) ≡ dot R (values_of ps) (column i (map (λ e. e.row) es))
  sum_of_products i ps es =
      let rows = column i (map (λ e. e.row) es) in
      sum_from i 0 ps es (zero_code R L) ∙ zero-plus R L (dot R (values_of ps) rows) (dot_code (values_of ps) rows)

module _ (R : Arithmetic) (inv : ℕ → ℕ) (I : FieldLaws R inv) (b : Basis) (ps : List (ℕ × ℕ)) (six : length b.entries ≡ 6) where
  -- The coefficients are those of the polynomial through the points.
  pub solves : (cs : List ℕ) → cs ≡ combined R b ps → (xs : List ℕ) → BasisOf R inv xs b → codes_of ps ≡ xs → Codes R xs → Distinct xs → Codes R (values_of ps) →
      Solves R inv xs (values_of ps) cs
  solves cs is xs h e hx ne hv =
      let vs = values_of ps in
      let c = h.as_many in
      let few = b.few in
      let l = length-map b.entries (λ e. e.row) in
      let n : length vs ≡ length xs = length-map ps (λ p. p.1) ∙ sym (length-map ps (λ p. p.0)) ∙ ap length e in
      let long : length cs ≡ 6 = ap length is in
      let m : length (take (length xs) cs) ≡ length xs = length-take-le (length xs) cs (omega arith) in
      let found : take (length xs) cs ≡ interpolated R inv xs vs =
      by_rows R inv I xs hx ne vs (take (length xs) cs) (rows_of b) n m (omega arith) hv h.table
      (λ i k. get_or-take (length xs) cs i 0 k ∙ ap (λ l. get_or l i 0) is
      ∙ get_or-map-range_with_len (λ i. dot R vs (column i (rows_of b))) 0 6 i i 0 (omega arith) (zero-add i)) in
      record { newton = found; solution = subst (Interpolates R xs vs) (sym found) (interpolates R inv I xs vs n hx ne hv) }

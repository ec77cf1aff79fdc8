-- What is interpolated from the fragments of t + 1 boards: coefficients of all rows, and those that the fragments were made of.
use Rattle.std.proofs.Common.{◌≡◌, ℕ, ◌+◌, ◌<◌, ◌≤◌, Bool, true, List, map, length, ◌∙◌}
use Rattle.std.specs.List.{AllByRecursion}
use Rattle.std.proofs.ByRecursion.{All-map, All-weaker}
use Rattle.std.proofs.lemmas.List.{length-map}
use Rattle.field.specs.Laws.{Arithmetic, FieldLaws}
use Rattle.shape.specs.Lengths.{board_count, row_length, block_length}
use Rattle.elements.specs.Element.{element}
use Rattle.elements.proofs.Pieces.{length-laid}
use Rattle.polynomial.specs.Polynomial.{interpolated}
use Rattle.polynomial.proofs.Newton.{interpolated-length, interpolated_codes}
use Rattle.coding.specs.Code.{fragment, decoded}
use Rattle.coding.proofs.Decoded.{decoded-coded}
use Rattle.coding.proofs.Sizes.{boards_codes}
use Rattle.protocol.specs.Counting.{count, lowest}
use Rattle.setting.specs.Concrete.{are_below, is_part}
use Rattle.setting.proofs.Forms.{are_below_true, are_below-from, part_elements, all_laid}
use Rattle.setting.proofs.Lowest.{lowest-chosen}

module _ (R : Arithmetic) (inv : ℕ → ℕ) (I : FieldLaws R inv) (t r : ℕ) (A : ℕ → Bool) (x : ℕ → List ℕ) (many : t + 1 ≤ count A (board_count t)) where
  abbrev js : List ℕ
  js = lowest (t + 1) A (board_count t)

  abbrev row : ℕ → List ℕ
  row i = interpolated R inv js (map (λ j. element R (x j) i) js)

  row_long : (i : ℕ) → length (row i) ≡ row_length t
  row_long i = interpolated-length R inv js (map (λ j. element R (x j) i) js) (length-map js (λ j. element R (x j) i)) ∙ (lowest-chosen A t many).enough

  pub interpolated_rows : AllByRecursion (λ j. is_part R r (x j) ≡ true) js → are_below R.size (block_length t r) (decoded R inv r js x) ≡ true
  interpolated_rows parts =
      are_below-from R.size (block_length t r) (decoded R inv r js x) (
        length-laid row (row_length t) r (λ i h. row_long i),
        all_laid (λ a. a < R.size) row r
            (λ i h. interpolated_codes R inv I js (map (λ j. element R (x j) i) js)
            (All-map (λ a. a < R.size) (λ j. element R (x j) i) js
            (All-weaker (λ j. is_part R r (x j) ≡ true) (λ j. element R (x j) i < R.size) (λ j e. part_elements R r (x j) e i h) js parts))),
      )

  pub interpolated_back : t ≤ 5 → (c : List ℕ) → are_below R.size (block_length t r) c ≡ true → AllByRecursion (λ j. x j ≡ fragment R t r c j) js → decoded R inv r js x ≡ c
  interpolated_back small c e same =
      let p = are_below_true R.size (block_length t r) c e in
      let chosen = lowest-chosen A t many in
      decoded-coded R inv I (row_length t) r c js x chosen.enough (boards_codes R I.ring t js small chosen.boards) chosen.distinct p.1 p.0 same

-- Decoding the fragments of a block answers the block.
use Rattle.std.proofs.Common.{◌≡◌, ℕ, ◌<◌, true, ◌&&◌, eqb, List, length, Ok, Err, Result, sym, refl, ap, ◌∙◌, subst}
use Rattle.std.specs.List.{AllByRecursion}
use Rattle.std.proofs.ByRecursion.{All-weaker}
use Rattle.std.proofs.lemmas.Bool.{and_parts, both_ways}
use Rattle.field.specs.Laws.{Arithmetic, FieldLaws}
use Rattle.polynomial.proofs.Evaluation.{eval_code}
use Rattle.coding.specs.declared.decoding.Undecodable.{Undecodable}
use Rattle.coding.specs.declared.decoding.Undecodable.TheVariants.{Unfit, Overrun, Unreadable}
use Rattle.shape.specs.declared.Shape.{Shape}
use Rattle.elements.specs.Pieces.{piece}
use Rattle.shape.specs.Lengths.{row_length, block_length}
use Rattle.elements.specs.Element.{element, Elements}
use Rattle.hash.specs.Bytes.{Bytes}
use Rattle.coding.specs.Decoding.{are_chosen, decode_fits, held, Sound, coefficients, Decoding, DecodingUndoesEncoding, Decodes}
use Rattle.coding.specs.Shaped.{is_block, fragments_length, fragment_of}
use Rattle.coding.proofs.Decoded.{element-coded, bytes_codes, decoded-coded}
use Rattle.coding.proofs.Selected.{chosen}
use Rattle.coding.proofs.Sizes.{boards_codes}

fits-chosen : (R : Arithmetic) (s : Shape) (fragments js block : List ℕ) → decode_fits R s fragments js block ≡ true → are_chosen s js ≡ true
fits-chosen R s fragments js block e =
    (and_parts (eqb (length fragments) (fragments_length R s)) (are_chosen s js) (and_parts (eqb (length fragments) (fragments_length R s) && are_chosen s js) (is_block s block) e).0).1

module _ (R : Arithmetic) (inv : ℕ → ℕ) (I : FieldLaws R inv) (s : Shape) (fragments js block : List ℕ) (same : AllByRecursion (λ j. held R s fragments j ≡ fragment_of R s block j) js) where
  -- The elements of the fragments of a block are codes,
  sound : Sound R s fragments js
  sound =
      All-weaker (λ j. held R s fragments j ≡ fragment_of R s block j) (λ j. Elements R (held R s fragments j) s.rows)
      (λ j e i h.
      subst (λ a. a < R.size) (sym (ap (λ x. element R x i) e ∙ element-coded R I.ring (row_length s.faults) s.rows block j i h))
      (eval_code R I.ring (piece (row_length s.faults) block i) j)) js same

  -- and their coefficients are its bytes.
  returned : are_chosen s js ≡ true → Bytes block → length block ≡ block_length s.faults s.rows → coefficients R inv s fragments js ≡ block
  returned yes! bytes long =
      let c = chosen s js yes! in
      decoded-coded R inv I (row_length s.faults) s.rows block js (held R s fragments) c.enough
      (boards_codes R I.ring s.faults js s.faults_most c.boards) c.distinct (bytes_codes R inv I block bytes) long same

undoes_encoding : (R : Arithmetic) (inv : ℕ → ℕ) (I : FieldLaws R inv) (s : Shape) (fragments js before : List ℕ) (r : Result (Unit {0}) Undecodable) (after : List ℕ) →
    Decoding R inv s fragments js before r after → DecodingUndoesEncoding R s fragments js before r after
undoes_encoding R inv I s fragments js before (Ok u) after d block bytes long fit same =
    (refl, d.3 ∙ returned R inv I s fragments js block same (fits-chosen R s fragments js before fit) bytes long)
undoes_encoding R inv I s fragments js before (Err Unfit) after d block bytes long fit same = absurd (both_ways (decode_fits R s fragments js before) d.0 fit)
undoes_encoding R inv I s fragments js before (Err Overrun) after d block bytes long fit same = absurd (d.1 (sound R inv I s fragments js block same))
undoes_encoding R inv I s fragments js before (Err Unreadable) after d block bytes long fit same =
    absurd (d.2 (subst Bytes (sym (returned R inv I s fragments js block same (fits-chosen R s fragments js before fit) bytes long)) bytes))

pub decodes : {R : Arithmetic} {inv : ℕ → ℕ} {s : Shape} {fragments js before : List ℕ} {r : Result (Unit {0}) Undecodable} {after : List ℕ} →
    FieldLaws R inv → Decoding R inv s fragments js before r after → Decodes R inv s fragments js before r after
decodes {R} {inv} {s} {fragments} {js} {before} {r} {after} I d = record { is = d; undoes = undoes_encoding R inv I s fragments js before r after d }

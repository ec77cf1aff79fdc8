-- Decoding undoes encoding, and so t + 1 shares fix a commitment vector.
use Rattle.std.proofs.Common.{◌≡◌, ℕ, ◌+◌, ◌-◌, ◌*◌, ◌<◌, ◌≤◌, List, [], ◌∷◌, map, length, take, drop, replicate, sym, refl, ap, ◌∙◌, ap₂, arith}
use Rattle.std.specs.List.{AllByRecursion}
use Rattle.std.proofs.ByRecursion.{All-take, All-drop, All-append, All-weaker}
use Rattle.std.proofs.lemmas.List.{length-append, length-replicate, length-drop, length-take-le, take_at}
use Rattle.field.specs.Laws.{Arithmetic, RingLaws, FieldLaws, width}
use Rattle.elements.specs.Pieces.{piece, filled}
use Rattle.elements.specs.Numbers.{written, number}
use Rattle.polynomial.specs.Polynomial.{Codes, Distinct, eval, values, interpolated}
use Rattle.shape.specs.Lengths.{row_length, vector_length, share_rows}
use Rattle.elements.specs.Element.{element}
use Rattle.coding.specs.Code.{coded, share, decoded, Chosen, SharesFixVectors}
use Rattle.hash.specs.Bytes.{Bytes}
use Rattle.polynomial.proofs.Evaluation.{eval_code, zeros_codes}
use Rattle.polynomial.proofs.Newton.{interpolated-values}
use Rattle.elements.proofs.Pieces.{piece_end, piece-laid, laid_same, laid_whole}
use Rattle.elements.proofs.Written.{written-length, number-written}
use Rattle.coding.proofs.Sizes.{share_rows_enough, boards_codes}

-- The element i of what board j holds is the value of row i.
pub element-coded : (R : Arithmetic) (L : RingLaws R) (k q : ℕ) (xs : List ℕ) (j i : ℕ) → i < q → element R (coded R k q xs j) i ≡ eval R (piece k xs i) j
element-coded R L k q xs j i h =
    let value : ℕ → ℕ = λ i. eval R (piece k xs i) j in
    ap number (piece-laid (λ i. written (width R) (value i)) (width R) q i h (λ i l. written-length (width R) (value i)))
    ∙ number-written R L (value i) (eval_code R L (piece k xs i) j)

values-coded : (R : Arithmetic) (L : RingLaws R) (k q : ℕ) (xs : List ℕ) (part : ℕ → List ℕ) (i : ℕ) → i < q → (js : List ℕ) → AllByRecursion (λ j. part j ≡ coded R k q xs j) js →
    map (λ j. element R (part j) i) js ≡ values R (piece k xs i) js
values-coded R L k q xs part i h [] same = refl
values-coded R L k q xs part i h (j ∷ js) same =
    ap₂ ◌∷◌ (ap (λ x. element R x i) same.0 ∙ element-coded R L k q xs j i h) (values-coded R L k q xs part i h js same.1)

module _ (R : Arithmetic) (inv : ℕ → ℕ) (I : FieldLaws R inv) where
  -- What k boards hold of q rows of k codes gives the rows back.
  pub decoded-coded : (k q : ℕ) (xs js : List ℕ) (part : ℕ → List ℕ) → length js ≡ k → Codes R js → Distinct js → Codes R xs → length xs ≡ q * k →
      AllByRecursion (λ j. part j ≡ coded R k q xs j) js → decoded R inv q js part ≡ xs
  decoded-coded k q xs js part n hj ne hx l same =
      laid_same (λ i. interpolated R inv js (map (λ j. element R (part j) i) js)) (piece k xs) q
      (λ i h.
      let e = piece_end i q k h in
      ap (interpolated R inv js) (values-coded R I.ring k q xs part i h js same)
      ∙ interpolated-values R inv I js (piece k xs i)
      (length-take-le k (drop (i * k) xs) (omega (arith, length-drop (i * k) xs)) ∙ sym n)
      (All-take (λ a. a < R.size) k (drop (i * k) xs) (All-drop (λ a. a < R.size) (i * k) xs hx)) hj ne)
      ∙ laid_whole k xs q l

  pub bytes_codes : (xs : List ℕ) → Bytes xs → Codes R xs
  bytes_codes xs = All-weaker (λ b. b < 256) (λ a. a < R.size) (λ x h. omega (arith, I.ring.least)) xs

  -- A vector is the front of what its shares decode to.
  pub shares-decoded : (t : ℕ) (js v : List ℕ) (part : ℕ → List ℕ) → t ≤ 5 → Chosen t js → Bytes v → length v ≡ vector_length t → AllByRecursion (λ j. part j ≡ share R t v j) js →
      decoded R inv (share_rows t) js part ≡ filled (share_rows t * row_length t) v
  shares-decoded t js v part small chosen hv l same =
      let n = share_rows t * row_length t in
      let whole : length (filled n v) ≡ n =
      length-append v (replicate (n - length v) 0) ∙ ap (λ z. length v + z) (length-replicate (n - length v) 0) ∙ omega (arith, share_rows_enough t) in
      decoded-coded (row_length t) (share_rows t) (filled n v) js part chosen.enough (boards_codes R I.ring t js small chosen.boards) chosen.distinct
      (All-append (λ a. a < R.size) v (replicate (n - length v) 0) (bytes_codes v hv) (zeros_codes R I.ring (n - length v))) whole same

  pub shares_fix_vectors : (t : ℕ) → t ≤ 5 → SharesFixVectors R t
  shares_fix_vectors t small js v u chosen hv hu lv lu same =
      let n = share_rows t * row_length t in
      let e : filled n v ≡ filled n u =
      sym (shares-decoded t js v (share R t v) small chosen hv lv (each js)) ∙ shares-decoded t js u (share R t v) small chosen hu lu same in
      sym (take_at v (replicate (n - length v) 0) (vector_length t) lv) ∙ ap (take (vector_length t)) e ∙ take_at u (replicate (n - length u) 0) (vector_length t) lu
    where
      each : (js : List ℕ) → AllByRecursion (λ j. share R t v j ≡ share R t v j) js
      each [] = tt
      each (j ∷ js) = (refl, each js)

-- The polynomial through given points has the given values, and so is the one that the values came from.
use Rattle.std.proofs.Common.{◌≡◌, ℕ, suc, ◌<◌, List, [], ◌∷◌, map, length, sym, refl, ap, ◌∙◌, ap₂, arith}
use Rattle.std.proofs.lemmas.List.{length-map}
use Rattle.field.specs.Laws.{Arithmetic, RingLaws, FieldLaws}
use Rattle.field.proofs.Rings.{mul-zero, equal, add-sub, sub_self, zero-mul, one-mul}
use Rattle.std.specs.List.{AllByRecursion}
use Rattle.polynomial.specs.Polynomial.{Codes, Distinct, eval, values, slopes, raised, interpolated, Interpolates}
use Rattle.polynomial.proofs.Evaluation.{eval_code}
use Rattle.polynomial.proofs.Roots.{regroup, unique}

pub slopes-length : (R : Arithmetic) (inv : ℕ → ℕ) (p : ℕ × ℕ) (ys ws : List ℕ) → length ws ≡ length ys → length (slopes R inv p ys ws) ≡ length ys
slopes-length R inv p [] ws n = refl
slopes-length R inv p (y ∷ ys) [] n = absurd (omega arith)
slopes-length R inv p (y ∷ ys) (w ∷ ws) n = ap suc (slopes-length R inv p ys ws (omega arith))

pub raised-length : (R : Arithmetic) (x v : ℕ) (cs : List ℕ) → length (raised R x v cs) ≡ suc (length cs)
raised-length R x v [] = refl
raised-length R x v (c ∷ cs) = ap suc (raised-length R x c cs)

pub interpolated-length : (R : Arithmetic) (inv : ℕ → ℕ) (xs vs : List ℕ) → length vs ≡ length xs → length (interpolated R inv xs vs) ≡ length xs
interpolated-length R inv [] vs n = refl
interpolated-length R inv (x ∷ xs) [] n = absurd (omega arith)
interpolated-length R inv (x ∷ xs) (v ∷ vs) n =
    let m : length vs ≡ length xs = omega arith in
    raised-length R x v (interpolated R inv xs (slopes R inv (x, v) xs vs))
    ∙ ap suc (interpolated-length R inv xs (slopes R inv (x, v) xs vs) (slopes-length R inv (x, v) xs vs m))

pub each : (f g : ℕ → ℕ) (xs : List ℕ) → map f xs ≡ map g xs → AllByRecursion (λ x. f x ≡ g x) xs
each f g [] e = tt
each f g (x ∷ xs) e = (cc, each f g xs (cc))

pub map_codes : (q : ℕ) (f : ℕ → ℕ) (xs : List ℕ) → ((x : ℕ) → f x < q) → AllByRecursion (λ a. a < q) (map f xs)
map_codes q f [] h = tt
map_codes q f (x ∷ xs) h = (h x, map_codes q f xs h)

module _ (R : Arithmetic) (L : RingLaws R) where
  pub raised_at : (r x v : ℕ) (cs : List ℕ) → r < R.size → x < R.size → v < R.size → Codes R cs →
      eval R (raised R r v cs) x ≡ R.add v (R.mul (R.sub x r) (eval R cs x))
  raised_at r x v [] hr hx hv hc =
      ap (R.add v) (mul-zero R L x hx ∙ sym (mul-zero R L (R.sub x r) (L.differences.code x r)))
  raised_at r x v (c ∷ cs) hr hx hv hc =
      let t = eval R cs x in
      let rc : R.mul r c < R.size = L.products.code r c in
      let v' = R.sub v (R.mul r c) in
      ap (λ y. R.add v' (R.mul x y)) (raised_at r x c cs hr hx hc.0 hc.1)
      ∙ regroup R L v' r x c t (L.differences.code v (R.mul r c)) hr hx hc.0 (eval_code R L cs x)
      ∙ ap (λ y. R.add y (R.mul (R.sub x r) (R.add c (R.mul x t)))) (L.sub-add v (R.mul r c) hv rc)

  raised_codes : (r v : ℕ) (cs : List ℕ) → v < R.size → Codes R cs → Codes R (raised R r v cs)
  raised_codes r v [] hv hc = (hv, tt)
  raised_codes r v (c ∷ cs) hv hc = (L.differences.code v (R.mul r c), raised_codes r c cs hc.0 hc.1)

module _ (R : Arithmetic) (inv : ℕ → ℕ) (I : FieldLaws R inv) where
  slopes_codes : (x v : ℕ) (ys ws : List ℕ) → Codes R (slopes R inv (x, v) ys ws)
  slopes_codes x v [] ws = tt
  slopes_codes x v (y ∷ ys) [] = tt
  slopes_codes x v (y ∷ ys) (w ∷ ws) = (I.ring.products.code (inv (R.sub y x)) (R.sub w v), slopes_codes x v ys ws)

  pub interpolated_codes : (xs vs : List ℕ) → Codes R vs → Codes R (interpolated R inv xs vs)
  interpolated_codes [] vs h = tt
  interpolated_codes (x ∷ xs) [] h = tt
  interpolated_codes (x ∷ xs) (v ∷ vs) h =
      raised_codes R I.ring x v (interpolated R inv xs (slopes R inv (x, v) xs vs)) h.0
      (interpolated_codes xs (slopes R inv (x, v) xs vs) (slopes_codes x v xs vs))

  -- v + d ((w - v) / d) is w
  slope_undone : (d v w : ℕ) → d < R.size → v < R.size → w < R.size → (d ≡ 0 → ⊥) → R.add v (R.mul d (R.mul (inv d) (R.sub w v))) ≡ w
  slope_undone d v w hd hv hw nz =
      let e = R.sub w v in
      let he : e < R.size = I.ring.differences.code w v in
      ap (R.add v) (sym (I.ring.mul_assoc d (inv d) e hd (I.inv_code d) he) ∙ ap (λ y. R.mul y e) (I.mul-inv d hd nz) ∙ one-mul R I.ring e he)
      ∙ add-sub R I.ring w v hw hv

  others : (r v : ℕ) (cs ys ws : List ℕ) → r < R.size → v < R.size → Codes R cs → Codes R ys → Codes R ws → AllByRecursion (λ y. y ≡ r → ⊥) ys →
      length ws ≡ length ys → map (eval R cs) ys ≡ slopes R inv (r, v) ys ws → map (eval R (raised R r v cs)) ys ≡ ws
  others r v cs [] [] hr hv hc hy hw ne n e = refl
  others r v cs [] (w ∷ ws) hr hv hc hy hw ne n e = absurd (omega arith)
  others r v cs (y ∷ ys) [] hr hv hc hy hw ne n e = absurd (omega arith)
  others r v cs (y ∷ ys) (w ∷ ws) hr hv hc hy hw ne n e =
      let d = R.sub y r in
      let here : eval R cs y ≡ R.mul (inv d) (R.sub w v) = cc in
      let rest : map (eval R cs) ys ≡ slopes R inv (r, v) ys ws = cc in
      ap₂ ◌∷◌
      (raised_at R I.ring r y v cs hr hy.0 hv hc ∙ ap (λ z. R.add v (R.mul d z)) here
      ∙ slope_undone d v w (I.ring.differences.code y r) hv hw.0 (λ z. ne.0 (equal R I.ring y r hy.0 hr z)))
      (others r v cs ys ws hr hv hc hy.1 hw.1 ne.1 (omega arith) rest)

  -- It has the given values.
  pub through : (xs vs : List ℕ) → length vs ≡ length xs → Codes R xs → Codes R vs → Distinct xs → values R (interpolated R inv xs vs) xs ≡ vs
  through [] [] n hx hv ne = refl
  through [] (v ∷ vs) n hx hv ne = absurd (omega arith)
  through (x ∷ xs) [] n hx hv ne = absurd (omega arith)
  through (x ∷ xs) (v ∷ vs) n hx hv ne =
      let m : length vs ≡ length xs = omega arith in
      let ss = slopes R inv (x, v) xs vs in
      let cs = interpolated R inv xs ss in
      let hs : Codes R ss = slopes_codes x v xs vs in
      let hc : Codes R cs = interpolated_codes xs ss hs in
      ap₂ ◌∷◌
      (raised_at R I.ring x x v cs hx.0 hx.0 hv.0 hc
      ∙ ap (λ z. R.add v (R.mul z (eval R cs x))) (sub_self R I.ring x hx.0)
      ∙ ap (R.add v) (zero-mul R I.ring (eval R cs x) (eval_code R I.ring cs x)) ∙ I.ring.add-zero v hv.0)
      (others x v cs xs vs hx.0 hv.0 hc hx.1 hv.1 ne.0 m
      (through xs ss (slopes-length R inv (x, v) xs vs m) hx.1 hs ne.1))

  -- Interpolation of the values of a polynomial returns it.
  pub interpolated-values : (xs p : List ℕ) → length p ≡ length xs → Codes R p → Codes R xs → Distinct xs → interpolated R inv xs (values R p xs) ≡ p
  interpolated-values xs p n hp hx ne =
      let vs = values R p xs in
      let hv : Codes R vs = map_codes R.size (eval R p) xs (eval_code R I.ring p) in
      let m : length vs ≡ length xs = length-map xs (eval R p) in
      unique R inv I xs (interpolated R inv xs vs) p (interpolated-length R inv xs vs m) n (interpolated_codes xs vs hv) hp hx ne
      (each (eval R (interpolated R inv xs vs)) (eval R p) xs (through xs vs m hx hv ne))

  -- Interpolation answers the one polynomial with the given values.
  pub interpolates : (xs vs : List ℕ) → length vs ≡ length xs → Codes R xs → Distinct xs → Codes R vs → Interpolates R xs vs (interpolated R inv xs vs)
  interpolates xs vs n hx ne hv = record {
    as_many = interpolated-length R inv xs vs n;
    codes = interpolated_codes xs vs hv;
    right = through xs vs n hx hv ne;
    only = λ p m hp e. sym (interpolated-values xs p m hp hx ne) ∙ ap (interpolated R inv xs) e;
  }

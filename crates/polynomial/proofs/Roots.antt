-- Two polynomials with k coefficients that agree at k distinct codes are equal.
use Rattle.std.proofs.Common.{◌≡◌, ℕ, suc, ◌<◌, List, [], ◌∷◌, length, sym, refl, ap, ◌∙◌, ap₂, arith}
use Rattle.field.specs.Laws.{Arithmetic, RingLaws, FieldLaws}
use Rattle.field.proofs.Rings.{add_cancel, mul-zero, equal, add-mul, add-sub, mul_cancel}
use Rattle.std.specs.List.{AllByRecursion}
use Rattle.polynomial.specs.Polynomial.{Codes, Distinct, eval}
use Rattle.polynomial.proofs.Evaluation.{eval_code}

-- for a polynomial c + x s, the quotient of its division by x - r
abbrev quotient : Arithmetic → ℕ → List ℕ → List ℕ
quotient R r [] = []
quotient R r (d ∷ s) = eval R (d ∷ s) r ∷ quotient R r s

quotient-length : (R : Arithmetic) (r : ℕ) (s : List ℕ) → length (quotient R r s) ≡ length s
quotient-length R r [] = refl
quotient-length R r (d ∷ s) = ap suc (quotient-length R r s)

module _ (R : Arithmetic) (L : RingLaws R) where
  quotient_codes : (r : ℕ) (s : List ℕ) → Codes R (quotient R r s)
  quotient_codes r [] = tt
  quotient_codes r (d ∷ s) = (eval_code R L (d ∷ s) r, quotient_codes r s)

  -- c + x (p + d t) is (c + r p) + d (p + x t) at d = x - r
  pub regroup : (c r x p t : ℕ) → c < R.size → r < R.size → x < R.size → p < R.size → t < R.size →
      R.add c (R.mul x (R.add p (R.mul (R.sub x r) t))) ≡ R.add (R.add c (R.mul r p)) (R.mul (R.sub x r) (R.add p (R.mul x t)))
  regroup c r x p t hc hr hx hp ht =
      let d = R.sub x r in
      let hd : d < R.size = L.differences.code x r in
      let dt : R.mul d t < R.size = L.products.code d t in
      let xt : R.mul x t < R.size = L.products.code x t in
      let rp : R.mul r p < R.size = L.products.code r p in
      let dp : R.mul d p < R.size = L.products.code d p in
      let dxt : R.mul d (R.mul x t) < R.size = L.products.code d (R.mul x t) in
      let e1 : R.mul x (R.mul d t) ≡ R.mul d (R.mul x t) =
      sym (L.mul_assoc x d t hx hd ht) ∙ ap (λ y. R.mul y t) (L.mul_comm x d hx hd) ∙ L.mul_assoc d x t hd hx ht in
      let e2 : R.mul x p ≡ R.add (R.mul r p) (R.mul d p) =
      ap (λ y. R.mul y p) (sym (add-sub R L x r hx hr)) ∙ add-mul R L r d p hr hd hp in
      let left : R.mul x (R.add p (R.mul d t)) ≡ R.add (R.add (R.mul r p) (R.mul d p)) (R.mul d (R.mul x t)) =
      L.mul-add x p (R.mul d t) hx hp dt ∙ ap₂ R.add e2 e1 in
      let right : R.mul d (R.add p (R.mul x t)) ≡ R.add (R.mul d p) (R.mul d (R.mul x t)) = L.mul-add d p (R.mul x t) hd hp xt in
      ap (R.add c) (left ∙ L.add_assoc (R.mul r p) (R.mul d p) (R.mul d (R.mul x t)) rp dp dxt)
      ∙ sym (L.add_assoc c (R.mul r p) (R.add (R.mul d p) (R.mul d (R.mul x t))) hc rp (L.sums.code (R.mul d p) (R.mul d (R.mul x t))))
      ∙ ap (R.add (R.add c (R.mul r p))) (sym right)

  divide : (r x c : ℕ) (s : List ℕ) → r < R.size → x < R.size → c < R.size → Codes R s →
      eval R (c ∷ s) x ≡ R.add (eval R (c ∷ s) r) (R.mul (R.sub x r) (eval R (quotient R r s) x))
  divide r x c [] hr hx hc hs =
      let hd : R.sub x r < R.size = L.differences.code x r in
      let hv : R.add c (R.mul r 0) < R.size = L.sums.code c (R.mul r 0) in
      ap (R.add c) (mul-zero R L x hx ∙ sym (mul-zero R L r hr))
      ∙ sym (ap (R.add (R.add c (R.mul r 0))) (mul-zero R L (R.sub x r) hd) ∙ L.add-zero (R.add c (R.mul r 0)) hv)
  divide r x c (d ∷ s) hr hx hc hs =
      ap (λ y. R.add c (R.mul x y)) (divide r x d s hr hx hs.0 hs.1)
      ∙ regroup c r x (eval R (d ∷ s) r) (eval R (quotient R r s) x) hc hr hx (eval_code R L (d ∷ s) r) (eval_code R L (quotient R r s) x)

  -- a polynomial is known from its value at r and its quotient
  rebuilt : (r c c' : ℕ) (s s' : List ℕ) → r < R.size → c < R.size → c' < R.size → Codes R s → Codes R s' → length s ≡ length s' →
      eval R (c ∷ s) r ≡ eval R (c' ∷ s') r → quotient R r s ≡ quotient R r s' → c ∷ s ≡ c' ∷ s'
  rebuilt r c c' [] [] hr hc hc' hs hs' n e k =
      ap (λ y. y ∷ []) (add_cancel R L c c' (R.mul r 0) hc hc' (L.products.code r 0) e)
  rebuilt r c c' [] (d' ∷ s') hr hc hc' hs hs' n e k = absurd (omega arith)
  rebuilt r c c' (d ∷ s) [] hr hc hc' hs hs' n e k = absurd (omega arith)
  rebuilt r c c' (d ∷ s) (d' ∷ s') hr hc hc' hs hs' n e k =
      let v : eval R (d ∷ s) r ≡ eval R (d' ∷ s') r = cc in
      let tail : quotient R r s ≡ quotient R r s' = cc in
      let rest : d ∷ s ≡ d' ∷ s' = rebuilt r d d' s s' hr hs.0 hs'.0 hs.1 hs'.1 (omega arith) v tail in
      let m = R.mul r (eval R (d ∷ s) r) in
      let head : c ≡ c' = add_cancel R L c c' m hc hc' (L.products.code r (eval R (d ∷ s) r)) (e ∙ ap (λ y. R.add c' (R.mul r y)) (sym v)) in
      ap₂ ◌∷◌ head rest

module _ (R : Arithmetic) (inv : ℕ → ℕ) (I : FieldLaws R inv) where
  agree_below : (r c c' : ℕ) (s s' ys : List ℕ) → r < R.size → c < R.size → c' < R.size → Codes R s → Codes R s' → Codes R ys →
      AllByRecursion (λ y. y ≡ r → ⊥) ys → eval R (c ∷ s) r ≡ eval R (c' ∷ s') r →
      AllByRecursion (λ y. eval R (c ∷ s) y ≡ eval R (c' ∷ s') y) ys → AllByRecursion (λ y. eval R (quotient R r s) y ≡ eval R (quotient R r s') y) ys
  agree_below r c c' s s' [] hr hc hc' hs hs' hy ne e a = tt
  agree_below r c c' s s' (y ∷ ys) hr hc hc' hs hs' hy ne e a =
      let d = R.sub y r in
      let hd : d < R.size = I.ring.differences.code y r in
      let q1 = eval R (quotient R r s) y in
      let q2 = eval R (quotient R r s') y in
      let h1 : q1 < R.size = eval_code R I.ring (quotient R r s) y in
      let h2 : q2 < R.size = eval_code R I.ring (quotient R r s') y in
      let p = eval R (c ∷ s) r in
      let p1 : R.mul d q1 < R.size = I.ring.products.code d q1 in
      let p2 : R.mul d q2 < R.size = I.ring.products.code d q2 in
      let hp : p < R.size = eval_code R I.ring (c ∷ s) r in
      let same : R.add p (R.mul d q1) ≡ R.add p (R.mul d q2) =
      sym (divide R I.ring r y c s hr hy.0 hc hs) ∙ a.0 ∙ divide R I.ring r y c' s' hr hy.0 hc' hs' ∙ ap (λ z. R.add z (R.mul d q2)) (sym e) in
      let turned : R.add (R.mul d q1) p ≡ R.add (R.mul d q2) p =
      I.ring.add_comm (R.mul d q1) p p1 hp ∙ same ∙ I.ring.add_comm p (R.mul d q2) hp p2 in (
        mul_cancel R inv I d q1 q2 hd h1 h2 (λ z. ne.0 (equal R I.ring y r hy.0 hr z))
            (add_cancel R I.ring (R.mul d q1) (R.mul d q2) p p1 p2 hp turned),
        agree_below r c c' s s' ys hr hc hc' hs hs' hy.1 ne.1 e a.1,
      )

  -- k coefficients, k distinct codes
  pub unique : (xs p p' : List ℕ) → length p ≡ length xs → length p' ≡ length xs → Codes R p → Codes R p' → Codes R xs → Distinct xs →
      AllByRecursion (λ x. eval R p x ≡ eval R p' x) xs → p ≡ p'
  unique [] [] [] n n' hp hp' hx ne a = refl
  unique [] [] (c' ∷ s') n n' hp hp' hx ne a = absurd (omega arith)
  unique [] (c ∷ s) p' n n' hp hp' hx ne a = absurd (omega arith)
  unique (x ∷ xs) [] p' n n' hp hp' hx ne a = absurd (omega arith)
  unique (x ∷ xs) (c ∷ s) [] n n' hp hp' hx ne a = absurd (omega arith)
  unique (x ∷ xs) (c ∷ s) (c' ∷ s') n n' hp hp' hx ne a =
      rebuilt R I.ring x c c' s s' hx.0 hp.0 hp'.0 hp.1 hp'.1 (omega arith) a.0
      (unique xs (quotient R x s) (quotient R x s')
      (quotient-length R x s ∙ omega arith) (quotient-length R x s' ∙ omega arith)
      (quotient_codes R I.ring x s) (quotient_codes R I.ring x s') hx.1 ne.1
      (agree_below x c c' s s' xs hx.0 hp.0 hp'.0 hp.1 hp'.1 hx.1 ne.0 a.0 a.1))

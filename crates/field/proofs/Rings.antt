-- What the laws of a ring and of a field give: the rules of calculation that the crates above use.
use Rattle.std.proofs.Common.{◌≡◌, ℕ, ◌<◌, sym, ap, ◌∙◌, ap₂, arith}
use Rattle.field.specs.Laws.{Arithmetic, RingLaws, FieldLaws}

module _ (R : Arithmetic) (L : RingLaws R) where
  pub zero_code : 0 < R.size
  zero_code = omega arith

  pub one_code : 1 < R.size
  one_code = omega arith

  pub zero-add : (a : ℕ) → a < R.size → R.add 0 a ≡ a
  zero-add a ha = L.add_comm 0 a zero_code ha ∙ L.add-zero a ha

  pub add-sub : (a b : ℕ) → a < R.size → b < R.size → R.add b (R.sub a b) ≡ a
  add-sub a b ha hb = L.add_comm b (R.sub a b) hb (L.differences.code a b) ∙ L.sub-add a b ha hb

  -- Adding the negative of c, which is 0 - c, takes c away again.
  add_negative : (a c : ℕ) → a < R.size → c < R.size → R.add (R.add a c) (R.sub 0 c) ≡ a
  add_negative a c ha hc =
      L.add_assoc a c (R.sub 0 c) ha hc (L.differences.code 0 c)
      ∙ ap (R.add a) (add-sub 0 c zero_code hc) ∙ L.add-zero a ha

  pub add_cancel : (a b c : ℕ) → a < R.size → b < R.size → c < R.size → R.add a c ≡ R.add b c → a ≡ b
  add_cancel a b c ha hb hc e = sym (add_negative a c ha hc) ∙ ap (λ x. R.add x (R.sub 0 c)) e ∙ add_negative b c hb hc

  -- a 0 + a 0 is a (0 + 0), which is 0 + a 0.
  pub mul-zero : (a : ℕ) → a < R.size → R.mul a 0 ≡ 0
  mul-zero a ha =
      let z = R.mul a 0 in
      let hz : z < R.size = L.products.code a 0 in
      add_cancel z 0 z hz zero_code hz
      (sym (L.mul-add a 0 0 ha zero_code zero_code) ∙ ap (R.mul a) (L.add-zero 0 zero_code) ∙ sym (zero-add z hz))

  pub zero-mul : (a : ℕ) → a < R.size → R.mul 0 a ≡ 0
  zero-mul a ha = L.mul_comm 0 a zero_code ha ∙ mul-zero a ha

  pub one-mul : (a : ℕ) → a < R.size → R.mul 1 a ≡ a
  one-mul a ha = L.mul_comm 1 a one_code ha ∙ L.mul-one a ha

  pub add-mul : (a b c : ℕ) → a < R.size → b < R.size → c < R.size → R.mul (R.add a b) c ≡ R.add (R.mul a c) (R.mul b c)
  add-mul a b c ha hb hc =
      L.mul_comm (R.add a b) c (L.sums.code a b) hc
      ∙ L.mul-add c a b hc ha hb
      ∙ ap₂ R.add (L.mul_comm c a hc ha) (L.mul_comm c b hc hb)

  pub sub_self : (a : ℕ) → a < R.size → R.sub a a ≡ 0
  sub_self a ha =
      add_cancel (R.sub a a) 0 a (L.differences.code a a) zero_code ha (L.sub-add a a ha ha ∙ sym (zero-add a ha))

  -- Codes whose difference is 0 are equal.
  pub equal : (a b : ℕ) → a < R.size → b < R.size → R.sub a b ≡ 0 → a ≡ b
  equal a b ha hb e = sym (L.sub-add a b ha hb) ∙ ap (λ x. R.add x b) e ∙ zero-add b hb

module _ (R : Arithmetic) (inv : ℕ → ℕ) (I : FieldLaws R inv) where
  -- Multiplying by the inverse of z takes z away again.
  inv-mul : (z a : ℕ) → z < R.size → a < R.size → (z ≡ 0 → ⊥) → R.mul (inv z) (R.mul z a) ≡ a
  inv-mul z a hz ha nz =
      let L = I.ring in
      sym (L.mul_assoc (inv z) z a (I.inv_code z) hz ha)
      ∙ ap (λ x. R.mul x a) (L.mul_comm (inv z) z (I.inv_code z) hz ∙ I.mul-inv z hz nz)
      ∙ one-mul R L a ha

  pub mul_cancel : (z a b : ℕ) → z < R.size → a < R.size → b < R.size → (z ≡ 0 → ⊥) → R.mul z a ≡ R.mul z b → a ≡ b
  mul_cancel z a b hz ha hb nz e = sym (inv-mul z a hz ha nz) ∙ ap (R.mul (inv z)) e ∙ inv-mul z b hz hb nz

  -- A product is 0 only if a factor is.
  pub whole : (a b : ℕ) → a < R.size → b < R.size → (a ≡ 0 → ⊥) → R.mul a b ≡ 0 → b ≡ 0
  whole a b ha hb nz e = mul_cancel a b 0 ha hb (zero_code R I.ring) nz (e ∙ sym (mul-zero R I.ring a ha))

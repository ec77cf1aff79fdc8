-- Operations that have the laws of a field on codes have them everywhere once they are made to answer 0 elsewhere.
use Rattle.std.proofs.Common.{◌≡◌, ℕ, ◌<◌, ◌≤◌, ◌&&◌, ltb, sym, ap, ◌∙◌, ap₂, ⊎_elim, arith}
use mathlib.Core.Path.{subst⁻¹}
use Rattle.std.proofs.lemmas.Bool.{lt-ltb, le-ltb, cond-true, cond-false, cases_lt, and_from, and_left, and_right}
use Rattle.field.specs.Laws.{Operation, FieldLaws, on_codes, on_code}

-- What is to be shown of the operations of a field, of codes alone.
pub record CodeLaws (q : ℕ) (add sub mul : ℕ → ℕ → ℕ) (inv : ℕ → ℕ) : Type 0 where
  pub least : 256 ≤ q
  pub most : q ≤ 65536
  pub add_code : (a b : ℕ) → a < q → b < q → add a b < q
  pub sub_code : (a b : ℕ) → a < q → b < q → sub a b < q
  pub mul_code : (a b : ℕ) → a < q → b < q → mul a b < q
  pub inv_code : (a : ℕ) → a < q → inv a < q
  pub add_comm : (a b : ℕ) → a < q → b < q → add a b ≡ add b a
  pub add_assoc : (a b c : ℕ) → a < q → b < q → c < q → add (add a b) c ≡ add a (add b c)
  pub add-zero : (a : ℕ) → a < q → add a 0 ≡ a
  pub sub-add : (a b : ℕ) → a < q → b < q → add (sub a b) b ≡ a
  pub mul_comm : (a b : ℕ) → a < q → b < q → mul a b ≡ mul b a
  pub mul_assoc : (a b c : ℕ) → a < q → b < q → c < q → mul (mul a b) c ≡ mul a (mul b c)
  pub mul-one : (a : ℕ) → a < q → mul a 1 ≡ a
  pub mul-add : (a b c : ℕ) → a < q → b < q → c < q → mul a (add b c) ≡ add (mul a b) (mul a c)
  pub inv-zero : inv 0 ≡ 0
  pub mul-inv : (a : ℕ) → a < q → (a ≡ 0 → ⊥) → mul a (inv a) ≡ 1

module _ (q : ℕ) where
  pub within : (op : ℕ → ℕ → ℕ) (a b : ℕ) → a < q → b < q → on_codes q op a b ≡ op a b
  within op a b ha hb = cond-true (ltb a q && ltb b q) (op a b) 0 (and_from (ltb a q) (ltb b q) (lt-ltb a q ha) (lt-ltb b q hb))

  within_one : (op : ℕ → ℕ) (a : ℕ) → a < q → on_code q op a ≡ op a
  within_one op a ha = cond-true (ltb a q) (op a) 0 (lt-ltb a q ha)

  outside_left : (op : ℕ → ℕ → ℕ) (a b : ℕ) → q ≤ a → on_codes q op a b ≡ 0
  outside_left op a b ha = cond-false (ltb a q && ltb b q) (op a b) 0 (and_left (ltb a q) (ltb b q) (le-ltb a q ha))

  outside_right : (op : ℕ → ℕ → ℕ) (a b : ℕ) → q ≤ b → on_codes q op a b ≡ 0
  outside_right op a b hb = cond-false (ltb a q && ltb b q) (op a b) 0 (and_right (ltb a q) (ltb b q) (le-ltb b q hb))

  outside_one : (op : ℕ → ℕ) (a : ℕ) → q ≤ a → on_code q op a ≡ 0
  outside_one op a ha = cond-false (ltb a q) (op a) 0 (le-ltb a q ha)

  module _ (pos : 0 < q) where
    operation : (op : ℕ → ℕ → ℕ) → ((a b : ℕ) → a < q → b < q → op a b < q) → Operation q (on_codes q op)
    operation op closed = record {
      code = λ a b. ⊎_elim
          (λ ha. ⊎_elim
          (λ hb. subst⁻¹ (λ x. x < q) (within op a b ha hb) (closed a b ha hb))
          (λ hb. subst⁻¹ (λ x. x < q) (outside_right op a b hb) pos)
          (cases_lt b q))
          (λ ha. subst⁻¹ (λ x. x < q) (outside_left op a b ha) pos)
          (cases_lt a q);
      off_left = outside_left op;
      off_right = outside_right op;
    }

    code_one : (op : ℕ → ℕ) → ((a : ℕ) → a < q → op a < q) → (a : ℕ) → on_code q op a < q
    code_one op closed a = ⊎_elim
        (λ ha. subst⁻¹ (λ x. x < q) (within_one op a ha) (closed a ha))
        (λ ha. subst⁻¹ (λ x. x < q) (outside_one op a ha) pos)
        (cases_lt a q)

  module _ (add sub mul : ℕ → ℕ → ℕ) (inv : ℕ → ℕ) (laws : CodeLaws q add sub mul inv) where
    open laws use {least, most, add_code, sub_code, mul_code, inv_code, add_comm, add_assoc, add-zero, sub-add, mul_comm, mul_assoc, mul-one, mul-add, inv-zero, mul-inv}

    abbrev A : ℕ → ℕ → ℕ
    A = on_codes q add

    abbrev M : ℕ → ℕ → ℕ
    M = on_codes q mul

    pub field_laws : FieldLaws (record { size = q; add = on_codes q add; sub = on_codes q sub; mul = on_codes q mul }) (on_code q inv)
    field_laws = record {
      ring = record {
        least = least;
        most = most;
        sums = operation (omega arith) add add_code;
        differences = operation (omega arith) sub sub_code;
        products = operation (omega arith) mul mul_code;
        add_comm = λ a b ha hb. within add a b ha hb ∙ add_comm a b ha hb ∙ sym (within add b a hb ha);
        add_assoc = λ a b c ha hb hc.
            ap (λ x. A x c) (within add a b ha hb) ∙ within add (add a b) c (add_code a b ha hb) hc ∙ add_assoc a b c ha hb hc
            ∙ sym (ap (A a) (within add b c hb hc) ∙ within add a (add b c) ha (add_code b c hb hc));
        add-zero = λ a ha. within add a 0 ha (omega arith) ∙ add-zero a ha;
        sub-add = λ a b ha hb. ap (λ x. A x b) (within sub a b ha hb) ∙ within add (sub a b) b (sub_code a b ha hb) hb ∙ sub-add a b ha hb;
        mul_comm = λ a b ha hb. within mul a b ha hb ∙ mul_comm a b ha hb ∙ sym (within mul b a hb ha);
        mul_assoc = λ a b c ha hb hc.
            ap (λ x. M x c) (within mul a b ha hb) ∙ within mul (mul a b) c (mul_code a b ha hb) hc ∙ mul_assoc a b c ha hb hc
            ∙ sym (ap (M a) (within mul b c hb hc) ∙ within mul a (mul b c) ha (mul_code b c hb hc));
        mul-one = λ a ha. within mul a 1 ha (omega arith) ∙ mul-one a ha;
        mul-add = λ a b c ha hb hc.
            ap (M a) (within add b c hb hc) ∙ within mul a (add b c) ha (add_code b c hb hc) ∙ mul-add a b c ha hb hc
            ∙ sym (ap₂ A (within mul a b ha hb) (within mul a c ha hc) ∙ within add (mul a b) (mul a c) (mul_code a b ha hb) (mul_code a c ha hc));
      };
      inv_code = code_one (omega arith) inv inv_code;
      inv_off = outside_one inv;
      inv-zero = within_one inv 0 (omega arith) ∙ inv-zero;
      mul-inv = λ a ha nz. ap (M a) (within_one inv a ha) ∙ within mul a (inv a) ha (inv_code a ha) ∙ mul-inv a ha nz;
    }

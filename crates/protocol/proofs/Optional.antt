-- Values that may be missing.
use Rattle.std.proofs.Common.{◌≡◌, ℕ, Bool, true, false, ◌⊎◌, Some, None, Option, sym, refl, ap, ◌∙◌, inl, inr, arith}
use Rattle.std.specs.Option.{option_map}
use Rattle.std.specs.Str.{bytes_eq}
use Rattle.std.proofs.lemmas.Slice.Eq.{bytes_eq-Decides}
use Rattle.std.proofs.lemmas.Bool.{false≢true, true≢false}
use Rattle.protocol.specs.Optional.{first, only, passing, meets, missing}
use Rattle.protocol.specs.Messages.{Bytes}

pub none_some : {A : Type 0} {a : A} → None ≡ Some a → ⊥
none_some h = let z : ◌≡◌ {A = ℕ} 0 1 = cc in omega arith

pub some_inj : {A : Type 0} {a b : A} → Some a ≡ Some b → a ≡ b
some_inj h = cc

-- There is a value.
abbrev pub Was : {A : Type 0} → Option A → Type 0
Was {A = A} o = (a : A) × (o ≡ Some a)

module _ {A : Type 0} where
  pub first_left : (x y : Option A) (a : A) → x ≡ Some a → first x y ≡ Some a
  first_left (Some b) y a e = e
  first_left None y a e = absurd (none_some e)

  pub first_none : (x : Option A) → first x None ≡ x
  first_none (Some b) = refl
  first_none None = refl

  pub first_either : (x y : Option A) (a : A) → first x y ≡ Some a → (x ≡ Some a) ⊎ (y ≡ Some a)
  first_either (Some b) y a e = inl e
  first_either None y a e = inr e

  pub first_was : (x y : Option A) → Was x → Was (first x y)
  first_was x y w = (w.0, first_left x y w.0 w.1)

  pub first_some : (x y : Option A) → Was y → Was (first x y)
  first_some (Some b) y w = (b, refl)
  first_some None y w = w

  pub first_taken : (x y : Option A) → missing x ≡ false → first x y ≡ x
  first_taken (Some a) y e = refl
  first_taken None y e = absurd (true≢false e)

  pub only_none : (b : Bool) → only {A = A} b None ≡ None
  only_none true = refl
  only_none false = refl

  pub only_some : (b : Bool) (x : Option A) (a : A) → only b x ≡ Some a → (b ≡ true) × (x ≡ Some a)
  only_some true x a e = (refl, e)
  only_some false x a e = absurd (none_some e)

  pub passing_some : (P : A → Bool) (x : Option A) (a : A) → passing P x ≡ Some a → (x ≡ Some a) × (P a ≡ true)
  passing_some P (Some b) a e = let o = only_some (P b) (Some b) a e in let s : b ≡ a = some_inj o.1 in (o.1, ap P (sym s) ∙ o.0)
  passing_some P None a e = absurd (none_some e)

  pub passing-from : (P : A → Bool) (x : Option A) (a : A) → x ≡ Some a → P a ≡ true → passing P x ≡ Some a
  passing-from P x a e h = rw (e, h)

  pub meets_true : (P : A → Bool) (x : Option A) → meets P x ≡ true → (a : A) × (x ≡ Some a) × (P a ≡ true)
  meets_true P (Some b) e = (b, refl, e)
  meets_true P None e = absurd (false≢true e)

  pub meets-from : (P : A → Bool) (x : Option A) (a : A) → x ≡ Some a → P a ≡ true → meets P x ≡ true
  meets-from P x a e h = rw e h

  pub missing_none : (x : Option A) → missing x ≡ true → x ≡ None
  missing_none (Some a) e = absurd (false≢true e)
  missing_none None e = refl

  pub missing_was : (x : Option A) → missing x ≡ false → Was x
  missing_was (Some a) e = (a, refl)
  missing_was None e = absurd (true≢false e)

  pub was_missing : (x : Option A) → Was x → missing x ≡ false
  was_missing x w = ap missing w.1

  pub mapped_some : {B : Type 0} (f : A → B) (x : Option A) (b : B) → option_map f x ≡ Some b → (a : A) × (x ≡ Some a) × (f a ≡ b)
  mapped_some f (Some a) b e = (a, refl, some_inj e)
  mapped_some f None b e = absurd (none_some e)

  pub mapped_from : {B : Type 0} (f : A → B) (x : Option A) (a : A) → x ≡ Some a → option_map f x ≡ Some (f a)
  mapped_from f x a e = ap (option_map f) e

-- The same value under another name.
pub renamed : (o : Option Bytes) (v w : Bytes) → o ≡ Some v → w ≡ v → o ≡ Some w
renamed o v w h e = h ∙ ap Some (sym e)

-- Byte strings that are the same.
pub same_eq : (x y : Bytes) → bytes_eq x y ≡ true → x ≡ y
same_eq x y e = (bytes_eq-Decides x y).0 e

pub eq_same : (x y : Bytes) → x ≡ y → bytes_eq x y ≡ true
eq_same x y e = (bytes_eq-Decides x y).1 e

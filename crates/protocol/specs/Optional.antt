-- Values that may be missing.
use Rattle.std.specs.Prelude.{Bool, true, false, Some, None, Option}

-- The first of two that is there.
abbrev pub first : {A : Type 0} → Option A → Option A → Option A
first (Some a) y = Some a
first None y = y

-- A value, if the test holds.
abbrev pub only : {A : Type 0} → Bool → Option A → Option A
only true x = x
only false x = None

-- A value, if it passes the test.
abbrev pub passing : {A : Type 0} → (A → Bool) → Option A → Option A
passing P (Some a) = only (P a) (Some a)
passing P None = None

-- There is a value, and it passes the test.
abbrev pub meets : {A : Type 0} → (A → Bool) → Option A → Bool
meets P (Some a) = P a
meets P None = false

-- There is no value.
abbrev pub missing : {A : Type 0} → Option A → Bool
missing (Some a) = false
missing None = true

-- The numbers of the kinds.
use Rattle.std.specs.Prelude.{ℕ, cond, Some, None, Option, ◌==◌}
use Rattle.kind.specs.declared.Kind.{Kind}
use Rattle.kind.specs.declared.Kind.TheVariants.{Send, Echo, Ready, Hash, Symbol}

-- The number of a kind.
abbrev pub number : Kind → ℕ
number Send = 1
number Echo = 2
number Ready = 3
number Hash = 4
number Symbol = 5

-- The kind of a number.
abbrev pub numbered : ℕ → Option Kind
numbered k =
    cond (k == 1) (Some Send) (cond (k == 2) (Some Echo) (cond (k == 3) (Some Ready) (cond (k == 4) (Some Hash) (cond (k == 5) (Some Symbol) None))))

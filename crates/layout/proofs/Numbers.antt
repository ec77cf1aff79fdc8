-- The table of kinds has each kind's own number.
use Rattle.std.proofs.Common.{◌≡◌, refl}
use Rattle.kind.specs.declared.Kind.{Kind}
use Rattle.kind.specs.declared.Kind.TheVariants.{Send, Echo, Ready, Hash, Symbol}
use Rattle.kind.specs.Numbers.{number}
use Rattle.layout.specs.Kinds.{row}

pub row_number : (k : Kind) → (row k).number ≡ number k
row_number Send = refl
row_number Echo = refl
row_number Ready = refl
row_number Hash = refl
row_number Symbol = refl

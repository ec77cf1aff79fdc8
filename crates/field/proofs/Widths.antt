-- An element takes one byte or two.
use Rattle.std.proofs.Common.{◌≤◌, true, false, cond, eqb, lit≤}
use Rattle.field.specs.Laws.{Arithmetic, width}

pub width_least : (R : Arithmetic) → 1 ≤ width R
width_least R = elim (eqb R.size 256) as (λ b. 1 ≤ cond b 1 2) [ true ↦ lit≤ tt | false ↦ lit≤ tt ]

pub width_most : (R : Arithmetic) → width R ≤ 2
width_most R = elim (eqb R.size 256) as (λ b. cond b 1 2 ≤ 2) [ true ↦ lit≤ tt | false ↦ lit≤ tt ]

-- The entries so far have the codes and rows of the basis.
use Rattle.std.proofs.Common.{◌≡◌, ℕ, ◌<◌, [], length, get_or, map, take}
use Rattle.polynomial.specs.Polynomial.{interpolated, unit}
use Rattle.polynomial.proofs.interpolation.Basis.new.Given as goal

abbrev pub invariant-loop-j : goal.invariant-loop-j
invariant-loop-j g l = record {
  six : length l.entries ≡ 6;
  codes : map (λ e. e.code) (take l.j l.entries) ≡ take l.j l.codes;
  rows : (k : ℕ) → k < l.j →
      take (length l.codes) (get_or (map (λ e. e.row) l.entries) k []) ≡ interpolated g.F.Field.arithmetic g.F.Field.inverted l.codes (unit (length l.codes) k);
}

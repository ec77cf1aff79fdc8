-- The table is computed from the definition of the product.
use Rattle.field256.specs.Gf256.{times, reduced, product}
use Rattle.field256.proofs.Powers.{power-entry}
use Rattle.field256.proofs.tables.power_of_three.Goals as goal

pub returns : goal.returns
unfolding product times reduced
returns c = rw c.from.ensures (power-entry c.args.k c.requires)

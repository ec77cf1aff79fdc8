use Rattle.std.proofs.Common.{◌≡◌, Err, refl, rules}
use Rattle.coding.specs.declared.decoding.Undecodable.TheVariants.{Overrun}
use Rattle.coding.proofs.Undone.{decodes}
use Rattle.coding.proofs.decoding.decode.Goals as goal

pub returns-in_err-rows : goal.returns-in_err-rows
returns-in_err-rows g c =
    let e : c.from_residual-in_err-rows.result ≡ Err Overrun = search rules in
    rw e (decodes g.met.F.Field.laws (search rules, search rules, refl))

pub returns-then-not-are_bytes : goal.returns-then-not-are_bytes
returns-then-not-are_bytes g c = decodes g.met.F.Field.laws (search rules, search rules, search rules, refl)

pub returns : goal.returns
returns g c = decodes g.met.F.Field.laws (search rules, search rules, search rules, search rules)

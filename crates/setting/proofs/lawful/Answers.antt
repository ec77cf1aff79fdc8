use Rattle.std.proofs.Common.{ℕ}
use Rattle.protocol.proofs.Promised.{kept}
use Rattle.protocol.specs.Setting.{Laws}
use Rattle.setting.specs.Concrete.{setting}
use Rattle.setting.proofs.Laws.{laws}
use Rattle.setting.proofs.lawful.Goals as goal

pub returns : goal.returns
returns g c =
    let t = c.args._shape.faults in
    let r = c.args._shape.rows in
    let lawful : (f : ℕ) → Laws (setting g.F.Field.arithmetic g.F.Field.inverted g.D.Hash.hashes t r f) =
    λ f. laws g.F.Field.arithmetic g.F.Field.inverted g.D.Hash.hashes g.met.F.Field.laws g.met.D.Hash.sound t r f c.args._shape.faults_most in
    record {
      laws = lawful;
      promises = λ f. kept (setting g.F.Field.arithmetic g.F.Field.inverted g.D.Hash.hashes t r f) (lawful f);
    }

use Rattle.std.proofs.Common.{arith}
use Rattle.hash.proofs.Steps.{reached_more}
use Rattle.hash.proofs.sha2.Schedule.advance.Goals as goal

pub returns-clause-reached : goal.returns-clause-reached
returns-clause-reached c = λ m v e. reached_more c.args.t m v c.args.s c.step-r.result c.args.self.now.words _ (omega arith) e c.step-r.ensures c.extend.ensures

use Rattle.std.proofs.Common.{take}
use Rattle.frame.proofs.Parts.{joined, Begins}
use Rattle.frame.proofs.writing.put_parts.Given as goal

abbrev pub invariant-loop-part : goal.invariant-loop-part
invariant-loop-part l = Begins l.initial.place (joined (take l.part-index l.part-items)) l.at l.place

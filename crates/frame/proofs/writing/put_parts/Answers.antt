use Rattle.std.proofs.Common.{◌∷◌, [], refl, arith}
use Rattle.frame.proofs.Parts.{put_more}
use Rattle.frame.proofs.writing.put_parts.Goals as goal

pub loop-part-preserved : goal.loop-part-preserved
loop-part-preserved c =
    put_more c.args.place.now c.loop-part.place c.copy_from_slice.new.self (c.args.front ∷ c.args.vector ∷ c.args.count ∷ c.args.payload ∷ []) c.loop-part.part-index c.loop-part.at _ _ _
    c.loop-part-test.true c.loop-part.invariant refl (omega arith) c.copy_from_slice.ensures.after

use Rattle.std.proofs.Common.{◌+◌, ◌-◌, ◌*◌, ◌∙◌, arith}
use Rattle.std.proofs.lemmas.List.Edits.{length-between}
use Rattle.elements.proofs.Pieces.{laid_start, laid_part, piece_end}
use Rattle.coding.proofs.pieces.write_pieces.Goals as goal

pub loop-i-init : goal.loop-i-init
loop-i-init g c piece leaves = laid_start piece c.args.size c.args.place.now

pub loop-i-preserved : goal.loop-i-preserved
loop-i-preserved g c piece leaves =
    let i = c.loop-i.i in
    let size = c.args.size in
    let e = piece_end i c.args.count size c.loop-i-test.true in
    laid_part piece size i (i * size + size - i * size) c.args.place.now c.loop-i.place c.write.new.arg3 leaves.long (omega arith) (omega arith)
    (c.loop-i.invariant piece leaves) (leaves.left i _ _ c.loop-i-test.true (length-between c.loop-i.place (i * size) (i * size + size) (omega arith) ∙ omega arith) c.write.ensures)

use Rattle.std.proofs.Common.{◌<◌, ◌/◌, length, arith, rules}
use Rattle.hash.proofs.Blocks.{words_more}
use Rattle.hash.proofs.sha2.Schedule.new.Goals as goal

pub loop-t-preserved : goal.loop-t-preserved
loop-t-preserved c =
    let within : c.loop-t.t < length c.args.block.now / 4 = omega (arith, c.as_chunks.ensures.front_len) in
    let next = words_more c.args.block.now c.loop-t.words _ c.loop-t.t c.from_be_bytes.result c.as_chunks.ensures.front within (omega arith) c.from_be_bytes.ensures c.loop-t.invariant.1 in
    (search rules, next)

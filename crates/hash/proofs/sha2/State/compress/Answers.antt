use Rattle.std.proofs.Common.{◌≡◌, ◌+◌, sym, refl, ap, ◌∙◌, arith, rules}
use Rattle.std.proofs.lemmas.List.{take_all}
use Rattle.hash.specs.Sha256.{compress, rounds, schedule, sums, words}
use Rattle.hash.proofs.sha2.State.compress.Goals as goal

pub loop-t-init : goal.loop-t-init
unfolding rounds schedule
loop-t-init c = record { long = search rules; even = refl; within = omega arith; reached = record { words = c.new-schedule.ensures; state = refl } }

pub loop-t-preserved : goal.loop-t-preserved
loop-t-preserved c =
    let m = words c.args.block.now in
    let two : c.loop-t.t + 1 + 1 ≡ c.loop-t.t + 2 = omega arith in
    let next = c.advance-s-in-loop-t.ensures.reached m c.args.self (c.advance-s.ensures.reached m c.args.self c.loop-t.invariant.reached) in
    record { long = c.advance-s-in-loop-t.ensures.len; even = omega arith; within = omega arith; reached = rw two at next }

pub loop-t-2-init : goal.loop-t-2-init
loop-t-2-init c =
    let w = c.loop-t.schedule.words in
    let end : c.loop-t.t ≡ 48 = omega arith in
    let all = rw end at c.loop-t.invariant.reached in
    record { even = refl; within = omega arith; filled = sym (take_all 64 w (omega arith)) ∙ all.words; reached = all.state }

pub returns : goal.returns
unfolding compress
returns c =
    let start = c.args.self in
    let end : c.loop-t-2.t ≡ 64 = omega arith in
    let all = rw end at c.loop-t-2.invariant.reached in
    c.plus.ensures ∙ ap (sums start) (all ∙ ap (rounds 64 start) c.loop-t-2.invariant.filled)

use Rattle.std.proofs.Common.{◌≡◌, ◌+◌, ◌*◌, ◌/◌, length, slice_index, ap, ◌∙◌, arith}
use Rattle.std.proofs.lemmas.List.FromFn.{fill_by_all}
use Rattle.std.proofs.lemmas.List.{get_or-replicate, get_or-drop}
use Rattle.hash.specs.Fold.{column, folded}
use Rattle.hash.specs.Columns.{column_end}
use Rattle.hash.proofs.xor.fold.Goals as goal

pub loop-piece-init : goal.loop-piece-init
loop-piece-init c = λ i h. get_or-replicate 32 i 0 0 h

pub returns : goal.returns
unfolding folded
returns c =
    let m = c.args.bytes.now in
    let end : c.loop-piece.piece-index ≡ length m / 32 = omega (arith, c.as_chunks.ensures.front_len) in
    fill_by_all (column m ((length m + 31) / 32)) c.mix-2.new.sum 32 0 c.mix-2.array_long
    (λ i h.
    let at : length m / 32 * 32 + i ≡ 32 * (length m / 32) + i = omega arith in
    let byte = ap (λ v. slice_index v i) c.as_chunks.ensures.back ∙ get_or-drop (length m / 32 * 32) m i 0 ∙ ap (slice_index m) at in
    let before = c.loop-piece.invariant i h in
    let mixed = c.mix-2.ensures i h in
    let last = column_end m i in
    cc)

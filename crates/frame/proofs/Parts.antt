-- Parts written to a place, one after another.
use Rattle.std.proofs.Common.{◌≡◌, ℕ, ◌+◌, ◌<◌, List, [], ◌++◌, length, get_or, take, drop, sym, ap, ◌∙◌, arith}
use Rattle.std.specs.Borrow.{Bor}
use Rattle.std.specs.List.{flat_map}
use borrow.Rule.Slice.PartMut.{put_mid}
use Rattle.std.proofs.lemmas.List.{take_more, flat_map_more}
use Rattle.std.proofs.lemmas.Grind.{common_steps}
use Rattle.protocol.specs.Messages.{Bytes}

-- The parts, one after another.
abbrev pub joined : List (Bor Bytes) → Bytes
joined = flat_map (λ part. part.now)

-- A place begins with what is written, and is otherwise what it was.
abbrev pub Begins : Bytes → Bytes → ℕ → Bytes → Type 0
Begins was written at place = (at ≡ length written) × (place ≡ written ++ drop (length written) was)

-- One more part is written after those so far.
pub put_more : (was place lent : Bytes) (parts : List (Bor Bytes)) (i at next k : ℕ) (none : Bor Bytes) → i < length parts → Begins was (joined (take i parts)) at place →
    next ≡ at + length (get_or parts i none).now → k ≡ length (get_or parts i none).now → lent ≡ (get_or parts i none).now →
    Begins was (joined (take (i + 1) parts)) next (put_mid at k place lent)
put_more was place lent parts i at next k none l b n m e =
    let front = joined (take i parts) in
    let more : front ++ lent ≡ joined (take (i + 1) parts) =
    ap (λ p. front ++ p) e ∙ flat_map_more (λ part. part.now) [] (take i parts) (get_or parts i none) ∙ ap joined (sym (take_more parts i none l)) in
    grind (arith, common_steps)

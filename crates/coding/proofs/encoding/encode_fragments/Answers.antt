use Rattle.std.proofs.Common.{◌+◌, ◌*◌, ◌++◌, drop, sym, ◌∙◌, ap₂, rules}
use Rattle.shape.specs.Lengths.{row_length}
use Rattle.elements.specs.Pieces.{laid}
use Rattle.coding.specs.Shaped.{fragment_of}
use Rattle.coding.proofs.Encoded.{coded-length}
use Rattle.coding.proofs.encoding.encode_fragments.Goals as goal

pub returns-clause-memory : goal.returns-clause-memory
returns-clause-memory g c =
    let R = g.F.Field.arithmetic in
    let s = c.args.shape in
    let block = c.args.block.now in
    let size = c.fragment_bytes-size.ensures in
    c.write_pieces.ensures.front (λ i. fragment_of R s block (i + 1)) (record {
      long = λ i. coded-length R (row_length s.faults) s.rows block (i + 1) ∙ sym size;
      left = λ i x y h l called. search rules;
    })
    ∙ ap₂ (λ n size. laid (λ i. fragment_of R s block (i + 1)) n ++ drop (n * size) c.args.memory.now) c.boards-count.ensures size

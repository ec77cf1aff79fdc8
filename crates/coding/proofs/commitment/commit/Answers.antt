use Rattle.std.proofs.Common.{ℕ, List, ◌+◌, ◌∙◌, ap, arith, rules}
use Rattle.coding.specs.Commitment.{fragment_digest}
use Rattle.coding.specs.Decoding.{held}
use Rattle.elements.specs.Pieces.{laid}
use Rattle.coding.proofs.Committed.{entry_long}
use Rattle.coding.proofs.commitment.commit.Goals as goal

pub returns-clause-vector : goal.returns-clause-vector
returns-clause-vector g c =
    let R = g.F.Field.arithmetic in
    let hash = g.D.Hash.hashes in
    let s = c.args.shape in
    let xs = c.args.fragments.now in
    let entry : ℕ → List ℕ = λ i. fragment_digest hash (i + 1) (held R s xs (i + 1)) in
    c.write_pieces.ensures.whole entry (record {
      long = λ i. entry_long hash g.met.D.Hash.sound R s xs (λ k. omega (arith, c.type_inv.fragments k)) (i + 1);
      left = λ i x y h l called. search rules;
    })
    (search rules)
    ∙ ap (laid entry) c.boards.ensures

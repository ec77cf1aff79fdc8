use Rattle.std.proofs.Common.{ℕ, ◌/◌, length, rules}
use borrow.Author.Tests.{tests}
use Rattle.std.proofs.lemmas.Iterator.{cases_from_all, YieldsList-from_slice}
use Rattle.field.specs.Laws.{width}
use Rattle.elements.specs.Element.{Elements}
use Rattle.coding.specs.Decoding.{held}
use Rattle.coding.proofs.Selected.{sound_decided}
use Rattle.coding.proofs.chosen.Chosen.holds_codes.Goals as goal

pub returns : goal.returns
returns g c =
    let R = g.F.Field.arithmetic in
    let s = c.args.self.now.fragments.shape in
    let xs = c.args.self.now.fragments.bytes.now in
    let js = c.args.self.now.boards.now in
    let Coded : ℕ → Type 0 = λ j. Elements R (held R s xs j) (length (held R s xs j) / width R) in
    sound_decided R s xs c.args.self.now.fragments.long js c.args.self.now.chosen c.all.result
    (cases_from_all _ _ _ Coded (λ j. Coded j → ⊥) c.all.ensures.ran (YieldsList-from_slice js cc)
    (λ x q k. search (rules, tests)) (λ x q k. search (rules, tests)))

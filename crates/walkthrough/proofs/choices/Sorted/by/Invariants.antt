use Rattle.std.proofs.Common.{◌≡◌, ℕ, ◌-◌, Bool, not, vec_items}
use Rattle.shape.specs.Lengths.{board_count}
use Rattle.walkthrough.specs.Taken.{passing, AnswersAs}
use Rattle.walkthrough.proofs.choices.Sorted.by.Given as goal

abbrev pub invariant-loop-board : goal.invariant-loop-board
invariant-loop-board g l = (test : ℕ → Bool) → AnswersAs g.T.Fn l.is_usable test (board_count l.fn.shape.faults)
    → (vec_items l.sorted.usable ≡ passing test (l.board - 1)) × (vec_items l.sorted.left_out ≡ passing (λ j. not (test j)) (l.board - 1))

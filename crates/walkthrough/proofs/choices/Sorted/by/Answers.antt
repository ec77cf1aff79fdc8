use Rattle.std.proofs.Common.{rules, ◌≡◌, ℕ, zero, suc, ◌-◌, ◌≤◌, Bool, cond, [], ◌∷◌, ◌++◌, refl, arith}
use Rattle.walkthrough.specs.Taken.{passing}
use Rattle.walkthrough.proofs.choices.Sorted.by.Goals as goal

-- What one board more adds.
passing_more : (test : ℕ → Bool) (j : ℕ) → 1 ≤ j → passing test j ≡ passing test (j - 1) ++ cond (test j) (j ∷ []) []
passing_more test zero some = absurd (omega (arith, some))
passing_more test (suc n) some = let e : suc n - 1 ≡ n = omega arith in rw e refl

pub loop-board-preserved : goal.loop-board-preserved
loop-board-preserved g c test answers =
    let e = answers.says c.loop-board.board _ (search rules) (search rules) c.is_usable.ensures in
    let kept = c.loop-board.invariant test answers in
    search (rules, e, kept, passing_more)

-- The list of a function's values at 0, 1 and so on. A table of the source is such a list, which antt sees by computing the values.
use Rattle.std.proofs.Common.{◌≡◌, ℕ, zero, suc, ◌+◌, ◌<◌, List, [], ◌∷◌, get_or, sym, ap, ◌∙◌, add-zero, zero-add, arith}

-- The values at i, i + 1 and so on, n of them.
abbrev values : (ℕ → ℕ) → ℕ → ℕ → List ℕ
values f zero i = []
values f (suc n) i = f i ∷ values f n (suc i)

value_at : (f : ℕ → ℕ) (n i k : ℕ) → k < n → get_or (values f n i) k 0 ≡ f (i + k)
value_at f zero i k h = absurd (omega arith)
value_at f (suc n) i zero h = ap f (sym (add-zero i))
value_at f (suc n) i (suc k) h = value_at f n (suc i) k (omega arith) ∙ ap f (omega arith)

abbrev pub table : (ℕ → ℕ) → ℕ → List ℕ
table f n = values f n 0

pub read : (f : ℕ → ℕ) (n k : ℕ) → k < n → get_or (table f n) k 0 ≡ f k
read f n k h = value_at f n 0 k h ∙ ap f (zero-add k)

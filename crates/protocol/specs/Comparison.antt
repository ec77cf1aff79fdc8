-- Comparing what two parties hold: the dealer, who is 0, and fetchers, from 1 on.
use Rattle.std.specs.Prelude.{ℕ, zero, suc, ◌+◌, Bool, true, false, cond, not, ◌&&◌, List, [], ◌∷◌, Some, None, Option, ◌==◌}
use Rattle.std.specs.Option.{option_map, unwrap_or}
use Rattle.std.specs.Str.{bytes_eq}
use Rattle.protocol.specs.Optional.{first, only, meets}
use Rattle.protocol.specs.Messages.{Bytes}
use Rattle.protocol.specs.Setting.{Setting, boards}
use Rattle.protocol.specs.Board.{History}
use Rattle.protocol.specs.Fetcher.{symbols, settled, listened, chosen, coefficients, consistent, Ending, block, mark}
use Rattle.protocol.specs.Log.{Log, inbox, design, ended}

-- What the fetcher f has heard.
abbrev pub hears : Setting → Log → ℕ → History
hears S log f = listened S (inbox (boards S + f) log)

-- What a party holds: the block that was dealt, or what a fetcher ended with.
abbrev pub holding : Setting → Log → ℕ → Option Ending
holding S log zero = option_map block (design log)
holding S log (suc f) = ended S log (suc f)

-- The coefficients of which its own fragments are made.
abbrev pub own : Setting → Log → ℕ → Option (List ℕ)
own S log zero = design log
own S log (suc f) = option_map (λ v. coefficients S v (symbols (hears S log (suc f)))) (settled S (hears S log (suc f)))

-- It is the dealer, or consistent.
abbrev pub is_sure : Setting → Log → ℕ → Bool
is_sure S log zero = true
is_sure S log (suc f) = meets (consistent S (symbols (hears S log (suc f)))) (settled S (hears S log (suc f)))

-- The boards whose fragments a fetcher used, and these fragments.
abbrev pub used : Setting → Log → ℕ → List ℕ
used S log f = unwrap_or (option_map (λ v. chosen S v (symbols (hears S log f))) (settled S (hears S log f))) []

abbrev pub used_fragment : Setting → Log → ℕ → ℕ → Bytes
used_fragment S log f j = unwrap_or (symbols (hears S log f) j) []

-- What a comparison says: alike; or a board with two different fragments that have one digest, the first one party's own and the second used by the other; or neither.
pub data Finding : Type 0 where
  alike : Finding
  differ : ℕ → Bytes → Bytes → Finding
  unexplained : Finding

abbrev pub same_holding : Option Ending → Option Ending → Bool
same_holding (Some (block a)) (Some (block b)) = bytes_eq a b
same_holding (Some (block a)) (Some mark) = false
same_holding (Some (block a)) None = false
same_holding (Some mark) (Some (block b)) = false
same_holding (Some mark) (Some mark) = true
same_holding (Some mark) None = false
same_holding None (Some (block b)) = false
same_holding None (Some mark) = false
same_holding None None = true

-- The party whose own fragments are compared, and the other: the dealer if he is named, else the first named that is consistent.
abbrev pub judge : Setting → Log → ℕ → ℕ → Option (ℕ × ℕ)
judge S log a b =
    cond (a == 0) (Some (a, b))
    (cond (b == 0) (Some (b, a))
    (cond (is_sure S log a) (Some (a, b))
    (cond (is_sure S log b) (Some (b, a)) None)))

-- The first in a list of boards at which something is found.
abbrev pub first_at : {A : Type 0} → (ℕ → Option A) → List ℕ → Option A
first_at find [] = None
first_at find (j ∷ js) = first (find j) (first_at find js)

-- The fragment of board j made of the coefficients c differs from the fragment x, and both have one digest.
abbrev pub clash : Setting → List ℕ → (ℕ → Bytes) → ℕ → Option Finding
clash S c x j =
    only (not (bytes_eq (S.fragment c j) (x j)) && bytes_eq (S.digest j (S.fragment c j)) (S.digest j (x j)))
    (Some (differ j (S.fragment c j) (x j)))

abbrev pub judged : Setting → Log → Option (ℕ × ℕ) → Finding
judged S log None = unexplained
judged S log (Some p) = unwrap_or (first_at (clash S (unwrap_or (own S log p.0) []) (used_fragment S log p.1)) (used S log p.1)) unexplained

-- What a comparison of a and b answers.
unfoldable pub compared : Setting → Log → ℕ → ℕ → Finding
compared S log a b = cond (same_holding (holding S log a) (holding S log b)) alike (judged S log (judge S log a b))

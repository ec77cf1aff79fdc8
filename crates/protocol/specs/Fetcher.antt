-- A fetcher: what it has heard before it ended, the vector that it knows, what it ended with, and what it answers, as functions of its history.
use Rattle.std.specs.Prelude.{ℕ, ◌+◌, Bool, true, cond, not, ◌&&◌, ◌||◌, List, [], ◌∷◌, Option, nat_le}
use Rattle.std.specs.Option.{option_map, unwrap_or}
use Rattle.protocol.specs.Optional.{passing, meets, missing}
use Rattle.protocol.specs.Counting.{count, every, lowest}
use Rattle.protocol.specs.Messages.{Bytes, Message, send, echo, ready, hash, symbol, hashed, symboled}
use Rattle.protocol.specs.Setting.{Setting, boards, support, fits}
use Rattle.protocol.specs.Board.{History, from, heard, gained}

-- The share and the fragment heard from each board.
abbrev pub shares : History → ℕ → Option Bytes
shares h i = heard (from i hashed) h

abbrev pub symbols : History → ℕ → Option Bytes
symbols h i = heard (from i symboled) h

-- The vector that is known.
abbrev pub known : Setting → History → Option Bytes
known S h = S.find (shares h)

-- The fragment heard from board i fits the vector v.
abbrev pub fitting : Setting → Bytes → (ℕ → Option Bytes) → ℕ → Bool
fitting S v heard i = meets (fits S i v) (heard i)

-- A known vector, once t + 1 of the heard fragments fit it: then a fetcher has ended.
abbrev pub settling : Setting → (ℕ → Option Bytes) → Option Bytes → Option Bytes
settling S heard = passing (λ v. nat_le (support S) (count (fitting S v heard) (boards S)))

unfoldable pub settled : Setting → History → Option Bytes
settled S h = settling S (symbols h) (known S h)

-- What a fetcher hears: all that it takes until it has ended.
unfoldable pub listened : Setting → History → History
listened S [] = []
listened S (m ∷ h) = cond (missing (settled S (listened S h))) (m ∷ listened S h) (listened S h)

-- The t + 1 lowest boards whose fragments fit, and the coefficients that are interpolated from them.
abbrev pub chosen : Setting → Bytes → (ℕ → Option Bytes) → List ℕ
chosen S v heard = lowest (support S) (fitting S v heard) (boards S)

abbrev pub coefficients : Setting → Bytes → (ℕ → Option Bytes) → List ℕ
coefficients S v heard = S.interpolate (chosen S v heard) (λ j. unwrap_or (heard j) [])

-- All n fragments, made again of coefficients, have the digests of the vector.
abbrev pub matches : Setting → Bytes → List ℕ → Bool
matches S v c = every (λ i. fits S i v (S.fragment c i)) (boards S)

abbrev pub consistent : Setting → (ℕ → Option Bytes) → Bytes → Bool
consistent S heard v = matches S v (coefficients S v heard)

-- What a fetcher ends with: a block, or mark, which says that the dealer was faulty.
pub data Ending : Type 0 where
  block : Bytes → Ending
  mark : Ending

abbrev pub ending : Setting → Bytes → List ℕ → Ending
ending S v c = cond (matches S v c && S.is_block c) (block c) mark

-- What a fetcher ends with by what it has heard.
abbrev pub outcome : Setting → (ℕ → Option Bytes) → Bytes → Ending
outcome S heard v = ending S v (coefficients S v heard)

abbrev pub ended : Setting → History → Option Ending
ended S h = option_map (outcome S (symbols (listened S h))) (settled S (listened S h))

-- A message of this kind and sender was heard before, or a fetcher takes none of this kind.
abbrev pub stale : Message → History → Bool
stale (send v x) h = true
stale (echo i v) h = true
stale (ready i v) h = true
stale (hash i s) h = not (missing (shares h i))
stale (symbol i x) h = not (missing (symbols h i))

-- What a fetcher that has not ended answers to m after hearing h: 0 if it does not hear it, otherwise 1, and 2 if the vector becomes known by it, 4 if the fetcher ends.
abbrev pub response : Setting → History → Message → ℕ
response S h m =
    cond (stale m h || not (missing (settled S h))) 0
    (1 + gained (known S h) (known S (m ∷ h)) 2 + gained (settled S h) (settled S (m ∷ h)) 4)

unfoldable pub answer : Setting → History → Message → ℕ
answer S h m = response S (listened S h) m

-- The log of a floor (a dealer, boards and fetchers): what happened, the newest first; and what may happen.
use Rattle.std.specs.Prelude.{◌≡◌, ℕ, ◌+◌, ◌-◌, ◌<◌, ◌≤◌, Bool, true, false, cond, not, ◌||◌, ◌⊎◌, List, [], ◌∷◌, Some, None, Option, ◌==◌, nat_le}
use Rattle.std.specs.Option.{option_map}
use Rattle.kind.specs.declared.Kind.{Kind}
use Rattle.kind.specs.declared.Kind.TheVariants.{Send, Echo, Ready, Hash, Symbol}
use Rattle.protocol.specs.Optional.{first}
use Rattle.protocol.specs.Counting.{count}
use Rattle.protocol.specs.Messages.{Bytes, Message, send, kind, sender}
use Rattle.protocol.specs.Setting.{Setting, boards, IsBoard, IsFetcher, formed}
use Rattle.protocol.specs.Board.{History, issued}
use Rattle.protocol.specs.Board as board
use Rattle.protocol.specs.Fetcher as fetcher

pub data Event : Type 0 where
  -- the dealer 0 or a board becomes turned (Byzantine), and stays so
  turned : ℕ → Event
  -- the dealer deals a block
  dealt : Bytes → Event
  -- the fetcher f, from 1 on, starts
  started : ℕ → Event
  -- the receiver r takes a message: a board, or n + f for the fetcher f
  delivered : ℕ → Message → Event

abbrev pub Log : Type 0
Log = List Event

-- The history of the receiver r.
abbrev pub taking : ℕ → Event → History → History
taking r (turned p) h = h
taking r (dealt d) h = h
taking r (started f) h = h
taking r (delivered q m) h = cond (r == q) (m ∷ h) h

unfoldable pub inbox : ℕ → Log → History
inbox r [] = []
inbox r (e ∷ log) = taking r e (inbox r log)

-- The party p was turned.
abbrev pub turns : ℕ → Event → Bool
turns p (turned q) = p == q
turns p (dealt d) = false
turns p (started f) = false
turns p (delivered r m) = false

unfoldable pub is_turned : Log → ℕ → Bool
is_turned [] p = false
is_turned (e ∷ log) p = turns p e || is_turned log p

-- The fetcher f was started.
abbrev pub starts : ℕ → Event → Bool
starts f (turned q) = false
starts f (dealt d) = false
starts f (started g) = f == g
starts f (delivered r m) = false

unfoldable pub is_started : Log → ℕ → Bool
is_started [] f = false
is_started (e ∷ log) f = starts f e || is_started log f

-- The block that was dealt.
abbrev pub deals : Event → Option Bytes
deals (turned q) = None
deals (dealt d) = Some d
deals (started f) = None
deals (delivered r m) = None

unfoldable pub design : Log → Option Bytes
design [] = None
design (e ∷ log) = first (design log) (deals e)

-- The vector that the board j has completed with, and what the fetcher f has ended with.
abbrev pub completed : Setting → Log → ℕ → Option Bytes
completed S log j = board.completed S (inbox j log)

abbrev pub ended : Setting → Log → ℕ → Option fetcher.Ending
ended S log f = fetcher.ended S (inbox (boards S + f) log)

-- The message of a kind that the sender i has issued for the receiver r.
abbrev pub due : Setting → Log → Kind → ℕ → ℕ → Option Message
due S log Send i r = option_map (λ d. send (S.vector d) (S.fragment d r)) (design log)
due S log Echo i r = issued S i Echo (inbox i log)
due S log Ready i r = issued S i Ready (inbox i log)
due S log Hash i r = issued S i Hash (inbox i log)
due S log Symbol i r = issued S i Symbol (inbox i log)

-- Which senders and receivers a kind goes between.
abbrev pub Goes : Setting → Kind → ℕ → ℕ → Type 0
Goes S Send i r = (i ≡ 0) × IsBoard S r
Goes S Echo i r = IsBoard S i × IsBoard S r
Goes S Ready i r = IsBoard S i × IsBoard S r
Goes S Hash i r = IsBoard S i × IsFetcher S r
Goes S Symbol i r = IsBoard S i × IsFetcher S r

-- A party is sound until it is turned. A board takes messages while it is sound, a fetcher once it is started.
abbrev pub Sound : Setting → Log → ℕ → Type 0
Sound S log j = IsBoard S j × (is_turned log j ≡ false)

abbrev pub is_open : Setting → Log → ℕ → Bool
is_open S log r = cond (nat_le r (boards S)) (not (is_turned log r)) (is_started log (r - boards S))

-- A message of a turned sender may be anything that has the form of its kind; any other is one that its sender has issued.
abbrev pub Allowed : Setting → Log → Event → Type 0
Allowed S log (turned p) = (is_turned log p ≡ false) × (p ≤ boards S) × (1 ≤ p → count (is_turned log) (boards S) < S.t)
Allowed S log (dealt d) = (S.is_block d ≡ true) × (design log ≡ None) × (is_turned log 0 ≡ false)
Allowed S log (started f) = (1 ≤ f) × (f ≤ S.fetchers) × (is_started log f ≡ false)
Allowed S log (delivered r m) =
    Goes S (kind m) (sender m) r
    × (is_open S log r ≡ true)
    × (((is_turned log (sender m) ≡ true) × (formed S m ≡ true)) ⊎ (due S log (kind m) (sender m) r ≡ Some m))

abbrev pub Valid : Setting → Log → Type 0
Valid S [] = Unit {0}
Valid S (e ∷ log) = Allowed S log e × Valid S log

-- What the receiver r answers to a message.
abbrev pub answer : Setting → Log → ℕ → Message → ℕ
answer S log r m = cond (nat_le r (boards S)) (board.answer S r (inbox r log) m) (fetcher.answer S (inbox r log) m)

-- On a quiet floor no message that is due from a sound sender would be heard.
abbrev pub Quiet : Setting → Log → Type 0
Quiet S log =
    (k : Kind) (i r : ℕ) (m : Message) → Goes S k i r → is_turned log i ≡ false → is_open S log r ≡ true → due S log k i r ≡ Some m → answer S log r m ≡ 0

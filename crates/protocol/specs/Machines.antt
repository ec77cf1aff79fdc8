-- Boards and fetchers as machines: what they hold, and what a message answers and makes of it.
use Rattle.std.specs.Prelude.{◌≡◌, ℕ, ◌+◌, Bool, true, false, cond, not, ◌&&◌, [], ◌∷◌, Some, None, Option, ◌==◌, nat_le}
use Rattle.std.specs.Option.{option_map}
use Rattle.std.specs.Str.{bytes_eq}
use Rattle.protocol.specs.Optional.{first, only, meets, missing}
use Rattle.protocol.specs.Counting.{count}
use Rattle.protocol.specs.Messages.{Bytes, Parcel, Message, send, echo, ready, hash, symbol, sent, echoed, readied}
use Rattle.protocol.specs.Setting.{Setting, Laws, boards, quorum, support, fits}
use Rattle.protocol.specs.Board.{History, from, heard, gained}
use Rattle.protocol.specs.Board as board
use Rattle.protocol.specs.Fetcher.{Ending, settling, outcome, shares, symbols, listened}
use Rattle.protocol.specs.Fetcher as fetcher

pub record Board : Type 0 where
  -- a SEND was heard, and what is kept of it
  pub sent_heard : Bool
  pub parcel : Option Parcel
  -- the vector of the ECHO and of the READY heard from each board
  pub echo_of : ℕ → Option Bytes
  pub ready_of : ℕ → Option Bytes
  -- the vector of the READY issued, and the one completed with
  pub ready_vector : Option Bytes
  pub completed : Option Bytes

pub record Fetcher : Type 0 where
  -- the share and the fragment heard from each board
  pub share_of : ℕ → Option Bytes
  pub symbol_of : ℕ → Option Bytes
  -- the vector that is known, and what was ended with
  pub known : Option Bytes
  pub ended : Option Ending

-- One more word: that of board i, if it had said none.
abbrev pub put : (ℕ → Option Bytes) → ℕ → Bytes → ℕ → Option Bytes
put words i v k = first (words k) (only (k == i) (Some v))

-- How many boards' word is v.
abbrev pub tally : Setting → (ℕ → Option Bytes) → Bytes → ℕ
tally S words v = count (λ i. meets (λ w. bytes_eq w v) (words i)) (boards S)

-- A place takes v if it is empty and the test holds, and what that adds to an answer.
abbrev pub latch : Option Bytes → Bool → Bytes → Option Bytes
latch place test v = first place (only test (Some v))

abbrev pub latched : Option Bytes → Bool → ℕ → ℕ
latched place test n = cond (missing place && test) n 0

abbrev pub new_board : Board
new_board = record { sent_heard = false; parcel = None; echo_of = λ i. None; ready_of = λ i. None; ready_vector = None; completed = None }

-- What the board j makes of a SEND, an ECHO and a READY that it has not heard before.
abbrev pub hear_send : Setting → ℕ → Board → Bytes → Bytes → ℕ × Board
hear_send S j B v x = (
  1 + cond (fits S j v x) 2 0,
  record {
    sent_heard = true;
    parcel = only (fits S j v x) (Some (v, x));
    echo_of = B.echo_of;
    ready_of = B.ready_of;
    ready_vector = B.ready_vector;
    completed = B.completed;
  },
)

abbrev pub hear_echo : Setting → Board → ℕ → Bytes → ℕ × Board
hear_echo S B i v =
    let words : ℕ → Option Bytes = put B.echo_of i v in
    let many : Bool = nat_le (quorum S) (tally S words v) in (
      1 + latched B.ready_vector many 4,
      record {
        sent_heard = B.sent_heard;
        parcel = B.parcel;
        echo_of = words;
        ready_of = B.ready_of;
        ready_vector = latch B.ready_vector many v;
        completed = B.completed;
      },
    )

abbrev pub hear_ready : Setting → Board → ℕ → Bytes → ℕ × Board
hear_ready S B i v =
    let words : ℕ → Option Bytes = put B.ready_of i v in
    let some : Bool = nat_le (support S) (tally S words v) in
    let many : Bool = nat_le (quorum S) (tally S words v) in (
      1 + latched B.ready_vector some 4 + latched B.completed many 8,
      record {
        sent_heard = B.sent_heard;
        parcel = B.parcel;
        echo_of = B.echo_of;
        ready_of = words;
        ready_vector = latch B.ready_vector some v;
        completed = latch B.completed many v;
      },
    )

-- The step of the board j.
abbrev pub board_step : Setting → ℕ → Board → Message → ℕ × Board
board_step S j B (send v x) = cond B.sent_heard (0, B) (hear_send S j B v x)
board_step S j B (echo i v) = cond (missing (B.echo_of i)) (hear_echo S B i v) (0, B)
board_step S j B (ready i v) = cond (missing (B.ready_of i)) (hear_ready S B i v) (0, B)
board_step S j B (hash i s) = (0, B)
board_step S j B (symbol i x) = (0, B)

-- What the board j holds after a history.
unfoldable pub board_after : Setting → ℕ → History → Board
board_after S j h = record {
  sent_heard = not (missing (heard sent h));
  parcel = board.kept S j h;
  echo_of = λ i. heard (from i echoed) h;
  ready_of = λ i. heard (from i readied) h;
  ready_vector = board.ready_vector S h;
  completed = board.completed S h;
}

abbrev pub new_fetcher : Fetcher
new_fetcher = record { share_of = λ i. None; symbol_of = λ i. None; known = None; ended = None }

-- What a fetcher makes of words that it has: the vector once it is known stays, and the search is made where it is not.
abbrev pub fetched : Setting → Fetcher → (ℕ → Option Bytes) → (ℕ → Option Bytes) → ℕ × Fetcher
fetched S B share_of symbol_of =
    let known : Option Bytes = first B.known (S.find share_of) in
    let ended : Option Ending = option_map (outcome S symbol_of) (settling S symbol_of known) in (
      1 + gained B.known known 2 + gained B.ended ended 4,
      record { share_of = share_of; symbol_of = symbol_of; known = known; ended = ended },
    )

-- The step of a fetcher.
abbrev pub fetcher_step : Setting → Fetcher → Message → ℕ × Fetcher
fetcher_step S B (send v x) = (0, B)
fetcher_step S B (echo i v) = (0, B)
fetcher_step S B (ready i v) = (0, B)
fetcher_step S B (hash i s) = cond (missing B.ended && missing (B.share_of i)) (fetched S B (put B.share_of i s) B.symbol_of) (0, B)
fetcher_step S B (symbol i x) = cond (missing B.ended && missing (B.symbol_of i)) (fetched S B B.share_of (put B.symbol_of i x)) (0, B)

-- What a fetcher holds after a history.
unfoldable pub fetcher_after : Setting → History → Fetcher
fetcher_after S h = record {
  share_of = shares (listened S h);
  symbol_of = symbols (listened S h);
  known = fetcher.known S (listened S h);
  ended = fetcher.ended S h;
}

-- The machines are the histories: each begins with nothing, and each step answers and leaves what the longer history says.
pub record Machines (S : Setting) : Type 0 where
  pub board_new : (j : ℕ) → board_after S j [] ≡ new_board
  pub board_steps : (j : ℕ) (h : History) (m : Message) → board_step S j (board_after S j h) m ≡ (board.answer S j h m, board_after S j (m ∷ h))
  pub fetcher_new : Laws S → fetcher_after S [] ≡ new_fetcher
  pub fetcher_steps : Laws S → (h : History) (m : Message) → fetcher_step S (fetcher_after S h) m ≡ (fetcher.answer S h m, fetcher_after S (m ∷ h))

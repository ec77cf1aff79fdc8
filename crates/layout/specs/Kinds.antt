-- The kinds of frame: number, sender and sections of each.
use Rattle.std.specs.Prelude.{ℕ, ◌+◌, ◌*◌, Bool, true, false, cond, ◌==◌}
use Rattle.field.specs.Laws.{Arithmetic, width}
use Rattle.shape.specs.declared.Shape.{Shape}
use Rattle.shape.specs.Lengths.{board_count, is_board, fragment_length, share_length}
use Rattle.kind.specs.declared.Kind.{Kind}
use Rattle.kind.specs.declared.Kind.TheVariants.{Send, Echo, Ready, Hash, Symbol}
use Rattle.kind.specs.Numbers.{number}

-- A row of the table of kinds: the number; whether the dealer sends it, and not a board; how many digests it has of n boards, and how many bytes after them, of S of a fragment and G of a share.
pub record Row : Type 0 where
  pub number : ℕ
  pub by_dealer : Bool
  pub digests : ℕ → ℕ
  pub bytes : ℕ → ℕ → ℕ

abbrev pub row : Kind → Row
row Send = record { number = number Send; by_dealer = true; digests = λ n. n; bytes = λ s g. s }
row Echo = record { number = number Echo; by_dealer = false; digests = λ n. n; bytes = λ s g. 0 }
row Ready = record { number = number Ready; by_dealer = false; digests = λ n. n; bytes = λ s g. 0 }
row Hash = record { number = number Hash; by_dealer = false; digests = λ n. 0; bytes = λ s g. g }
row Symbol = record { number = number Symbol; by_dealer = false; digests = λ n. 0; bytes = λ s g. s }

-- The party i sends frames of the kind k.
abbrev pub is_sender : Shape → Kind → ℕ → Bool
is_sender s k i = cond (row k).by_dealer (i == 0) (is_board s.faults i)

-- How many digests a frame of the kind k has, and how many bytes after them.
abbrev pub digests : Shape → Kind → ℕ
digests s k = (row k).digests (board_count s.faults)

abbrev pub bytes : Arithmetic → Shape → Kind → ℕ
bytes R s k = (row k).bytes (fragment_length (width R) s.rows) (share_length (width R) s.faults)

-- The length of a frame of the kind k: a byte each for kind, sender and count, the digests, two bytes of count, and the bytes after them.
abbrev pub frame_length : Arithmetic → Shape → Kind → ℕ
frame_length R s k = 5 + 32 * digests s k + bytes R s k

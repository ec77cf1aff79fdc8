-- What the protocol promises over every valid log, whatever the wire and the turned parties did.
use Rattle.std.specs.Prelude.{◌≡◌, ℕ, zero, suc, true, false, ◌⊎◌, Some, Option, ◌≢◌}
use Rattle.std.specs.Option.{option_map}
use Rattle.std.specs.List.{ContainsAt as Has}
use Rattle.protocol.specs.Messages.{Bytes}
use Rattle.protocol.specs.Setting.{Setting, Laws, IsBoard, Known}
use Rattle.protocol.specs.Fetcher.{shares, symbols, known, block}
use Rattle.protocol.specs.Log.{Log, is_turned, is_started, design, completed, ended, Sound, Valid, Quiet}
use Rattle.protocol.specs.Comparison.{hears, holding, own, used, judge, alike, differ, compared}

-- There is a value.
abbrev pub There : {A : Type 0} → Option A → Type 0
There {A = A} o = (a : A) × (o ≡ Some a)

-- Any two boards that have completed, sound or turned since, hold one vector; while the dealer is sound it is that of the block dealt.
pub record Agreement (S : Setting) (log : Log) : Type 0 where
  pub one_vector : (j k : ℕ) (v w : Bytes) → completed S log j ≡ Some v → completed S log k ≡ Some w → v ≡ w
  pub dealt_vector : is_turned log 0 ≡ false → (j : ℕ) (v : Bytes) → completed S log j ≡ Some v → (d : Bytes) × (design log ≡ Some d) × (v ≡ S.vector d)

-- Something has to come: a sound board has completed, or a sound dealer has dealt.
abbrev pub Begun : Setting → Log → Type 0
Begun S log = ((j : ℕ) × Sound S log j × There (completed S log j)) ⊎ ((is_turned log 0 ≡ false) × There (design log))

-- On a quiet floor where something has to come, all sound boards have completed and every started fetcher has ended.
pub record Totality (S : Setting) (log : Log) : Type 0 where
  pub boards_complete : Quiet S log → Begun S log → (j : ℕ) → Sound S log j → There (completed S log j)
  pub fetchers_end : Quiet S log → Begun S log → (f : ℕ) → is_started log f ≡ true → There (ended S log f)

-- At most one vector is known to a fetcher, a sound board has completed with it, and no board with another; the search finds it exactly when there is one.
pub record Knowledge (S : Setting) (log : Log) : Type 0 where
  pub one_known : (f : ℕ) (v w : Bytes) → Known S (shares (hears S log f)) v → Known S (shares (hears S log f)) w → v ≡ w
  pub known_sound : (f : ℕ) (v : Bytes) → Known S (shares (hears S log f)) v → (j : ℕ) × Sound S log j × (completed S log j ≡ Some v)
  pub known_completed : (f j : ℕ) (v w : Bytes) → Known S (shares (hears S log f)) v → completed S log j ≡ Some w → v ≡ w
  pub found : (f : ℕ) (v : Bytes) → known S (hears S log f) ≡ Some v → Known S (shares (hears S log f)) v
  pub finds : (f : ℕ) (v : Bytes) → Known S (shares (hears S log f)) v → known S (hears S log f) ≡ Some v

-- Who can be compared: a sound dealer who has dealt, and fetchers that have ended.
abbrev pub Comparable : Setting → Log → ℕ → Type 0
Comparable S log zero = (is_turned log 0 ≡ false) × There (design log)
Comparable S log (suc f) = There (ended S log (suc f))

-- Two different fragments of one board with one digest.
pub record Clash (S : Setting) (j : ℕ) (x y : Bytes) : Type 0 where
  pub board : IsBoard S j
  pub apart : x ≡ y → ⊥
  pub one_digest : S.digest j x ≡ S.digest j y

-- Why a comparison of a and b answers that they differ: of the party that judges it shows its own fragment of a board, and of the other the one that it used.
pub record Explained (S : Setting) (log : Log) (a b : ℕ) : Type 0 where
  pub judging : ℕ
  pub other : ℕ
  pub named : judge S log a b ≡ Some (judging, other)
  pub board : ℕ
  pub fragment : Bytes
  pub fragment_used : Bytes
  pub is_own : option_map (λ c. S.fragment c board) (own S log judging) ≡ Some fragment
  pub is_used : Has (used S log other) board × (symbols (hears S log other) board ≡ Some fragment_used)
  pub clash : Clash S board fragment fragment_used
  pub answer : compared S log a b ≡ differ board fragment fragment_used

-- A comparison answers alike exactly when both hold equal blocks or both hold mark; otherwise it shows such fragments. It never leaves a difference unexplained.
pub record Comparison (S : Setting) (log : Log) : Type 0 where
  pub alike_equal : (a b : ℕ) → Comparable S log a → Comparable S log b → compared S log a b ≡ alike → holding S log a ≡ holding S log b
  pub equal_alike : (a b : ℕ) → Comparable S log a → Comparable S log b → holding S log a ≡ holding S log b → compared S log a b ≡ alike
  pub explained : (a b : ℕ) → Comparable S log a → Comparable S log b → (holding S log a ≢ holding S log b) → Explained S log a b

-- All of it.
pub record Promises (S : Setting) (log : Log) : Type 0 where
  pub agreement : Agreement S log
  pub totality : Totality S log
  pub knowledge : Knowledge S log
  pub comparison : Comparison S log

-- All this can come to pass: with one board of four turned, a floor that has come to rest, where the sound boards have completed with the vector of the block dealt and a fetcher has read the block.
pub record Possible : Type 0 where
  pub setting : Setting
  pub laws : Laws setting
  pub log : Log
  pub valid : Valid setting log
  pub quiet : Quiet setting log
  pub one_fault : setting.t ≡ 1
  pub one_turned : is_turned log 4 ≡ true
  pub dealer_sound : is_turned log 0 ≡ false
  pub dealt : Bytes
  pub was_dealt : design log ≡ Some dealt
  pub completes : (j : ℕ) → Sound setting log j → completed setting log j ≡ Some (setting.vector dealt)
  pub ends : ended setting log 1 ≡ Some (block dealt)

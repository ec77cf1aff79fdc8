-- A board: what it has kept, issued and completed with, and what it answers, as functions of its history.
use Rattle.std.specs.Prelude.{ℕ, ◌+◌, Bool, true, cond, not, ◌&&◌, List, [], ◌∷◌, None, Option, ◌==◌, nat_le}
use Rattle.std.specs.Option.{option_map}
use Rattle.std.specs.Str.{bytes_eq}
use Rattle.kind.specs.declared.Kind.{Kind}
use Rattle.kind.specs.declared.Kind.TheVariants.{Send, Echo, Ready, Hash, Symbol}
use Rattle.protocol.specs.Optional.{first, only, passing, meets, missing}
use Rattle.protocol.specs.Counting.{count}
use Rattle.protocol.specs.Messages.{Bytes, Parcel, Message, send, echo, ready, hash, symbol, sender, sent, echoed, readied}
use Rattle.protocol.specs.Setting.{Setting, boards, quorum, support, fits}

-- The messages that a party has taken, the newest first. One that follows another of its kind and sender is ignored.
abbrev pub History : Type 0
History = List Message

-- What a message of sender i carries.
abbrev pub from : {A : Type 0} → ℕ → (Message → Option A) → Message → Option A
from i carried m = only (i == sender m) (carried m)

-- What was heard: what the first message carries that carries it.
unfoldable pub heard : {A : Type 0} → (Message → Option A) → History → Option A
heard carried [] = None
heard carried (m ∷ h) = first (heard carried h) (carried m)

-- What the message m adds to what was heard.
abbrev pub news : {A : Type 0} → (Message → Option A) → Message → History → Option A
news carried m h = only (missing (heard (from (sender m) carried) h)) (carried m)

-- How many boards' ECHO, or READY, is of the vector v.
abbrev pub voted : (Message → Option Bytes) → Bytes → History → ℕ → Bool
voted carried v h i = meets (λ w. bytes_eq w v) (heard (from i carried) h)

abbrev pub votes : Setting → (Message → Option Bytes) → Bytes → History → ℕ
votes S carried v h = count (voted carried v h) (boards S)

-- The vector and the fragment that the board j keeps: those of the first SEND, if the fragment fits.
unfoldable pub kept : Setting → ℕ → History → Option Parcel
kept S j h = passing (λ p. fits S j p.0 p.1) (heard sent h)

-- The vector of the READY that a board has issued: one of which it heard a quorum of ECHOs, or t + 1 READYs.
unfoldable pub ready_vector : Setting → History → Option Bytes
ready_vector S [] = None
ready_vector S (m ∷ h) =
    first (ready_vector S h)
    (first (passing (λ v. nat_le (quorum S) (votes S echoed v (m ∷ h))) (news echoed m h))
    (passing (λ v. nat_le (support S) (votes S readied v (m ∷ h))) (news readied m h)))

-- The vector that a board has completed with: one of which it heard a quorum of READYs.
unfoldable pub completed : Setting → History → Option Bytes
completed S [] = None
completed S (m ∷ h) = first (completed S h) (passing (λ v. nat_le (quorum S) (votes S readied v (m ∷ h))) (news readied m h))

-- The message of a kind that the board j has issued: SYMBOL only if it has completed with the vector that it keeps.
abbrev pub issued : Setting → ℕ → Kind → History → Option Message
issued S j Send h = None
issued S j Echo h = option_map (λ (p : Parcel). echo j p.0) (kept S j h)
issued S j Ready h = option_map (ready j) (ready_vector S h)
issued S j Hash h = option_map (λ v. hash j (S.share v j)) (completed S h)
issued S j Symbol h = option_map (λ (p : Parcel). symbol j p.1) (passing (λ (p : Parcel). meets (bytes_eq p.0) (completed S h)) (kept S j h))

-- A message of this kind and sender was heard before, or a board takes none of this kind.
abbrev pub stale : Message → History → Bool
stale (send v x) h = not (missing (heard sent h))
stale (echo i v) h = not (missing (heard (from i echoed) h))
stale (ready i v) h = not (missing (heard (from i readied) h))
stale (hash i s) h = true
stale (symbol i x) h = true

-- What is added to an answer for something that has come to be.
abbrev pub gained : {A : Type 0} → Option A → Option A → ℕ → ℕ
gained before after n = cond (missing before && not (missing after)) n 0

-- What the board j answers to m: 0 if it does not hear it, otherwise 1, and 2 if ECHO is issued by it, 4 if READY is, 8 if the board completes.
unfoldable pub answer : Setting → ℕ → History → Message → ℕ
answer S j h m =
    cond (stale m h) 0
    (1
    + gained (kept S j h) (kept S j (m ∷ h)) 2
    + gained (ready_vector S h) (ready_vector S (m ∷ h)) 4
    + gained (completed S h) (completed S (m ∷ h)) 8)

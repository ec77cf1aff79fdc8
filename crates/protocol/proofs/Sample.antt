-- The promises are not empty: a setting in which every board keeps a copy of the block, and a log in which all comes to its end.
use Rattle.std.proofs.Common.{◌≡◌, ℕ, zero, suc, ◌+◌, ◌*◌, ◌≤◌, Bool, true, false, not, leb, List, [], ◌∷◌, ◌++◌, length, Some, None, Option, unwrap_or, sym, refl, ap, ◌∙◌, subst, inl, inr, arith, lit<, lit≤}
use Rattle.std.specs.List.{AllByRecursion}
use Rattle.std.specs.Str.{bytes_eq}
use Rattle.std.proofs.lemmas.List.{length-take-le}
use Rattle.std.proofs.lemmas.Bool.{leb-true, le-leb, cases_eq, both_ways, cond-true, not-true}
use Rattle.kind.specs.declared.Kind.{Kind}
use Rattle.kind.specs.declared.Kind.TheVariants.{Send, Echo, Ready, Hash, Symbol}
use Rattle.protocol.specs.Optional.{first, passing, meets}
use Rattle.protocol.specs.Counting.{count, every, those, lowest}
use Rattle.protocol.specs.Messages.{Bytes, Message, send, echo, ready, hash, symbol}
use Rattle.protocol.specs.Setting.{Setting, Laws, IsBoard, IsFetcher}
use Rattle.protocol.specs.Board.{heard}
use Rattle.protocol.specs.Board as board
use Rattle.protocol.specs.Fetcher.{settled, listened, block}
use Rattle.protocol.specs.Fetcher as fetcher
use Rattle.protocol.specs.Log.{turned, dealt, started, delivered, Log, inbox, is_turned, is_started, design, completed, ended, is_open, due, Goes, Sound, Valid, Quiet, answer}
use Rattle.protocol.specs.Comparison.{first_at}
use Rattle.protocol.specs.Promises.{Possible}
use Rattle.protocol.proofs.Optional.{Was, none_some, some_inj, first_either, first_was, first_some, passing_some, passing-from, meets_true, same_eq}
use Rattle.protocol.proofs.Counting.{count_some, count_none, quorums}
use Rattle.protocol.proofs.Lowest.{those-length}
use Rattle.protocol.proofs.Delivered.{due_allowed}

-- The first of the words of k boards that passes a test.
unfoldable look : (Bytes → Bool) → (ℕ → Option Bytes) → ℕ → Option Bytes
look test words zero = None
look test words (suc k) = first (look test words k) (passing test (words (suc k)))

abbrev backed : ℕ → (ℕ → Option Bytes) → Bytes → Bool
backed t words v = leb (2 * t + 1) (count (λ i. meets (bytes_eq v) (words i)) (3 * t + 1))

-- Every fragment, every share and the vector are the block itself, and so are digests.
abbrev copies : ℕ → ℕ → Setting
copies t f = record {
  t = t;
  fetchers = f;
  is_block = λ d. true;
  is_rows = λ c. true;
  is_vector = λ v. true;
  is_fragment = λ x. true;
  is_share = λ s. true;
  digest = λ j x. x;
  entry = λ v j. v;
  fragment = λ c j. c;
  vector = λ c. c;
  share = λ v j. v;
  find = λ words. look (backed t words) words (3 * t + 1);
  interpolate = λ js x. unwrap_or (first_at (λ j. Some (x j)) js) [];
}

look_passes : (test : Bytes → Bool) (words : ℕ → Option Bytes) (k : ℕ) (v : Bytes) → look test words k ≡ Some v → test v ≡ true
unfolding look
look_passes test words zero v e = absurd (none_some e)
look_passes test words (suc k) v e = elim (first_either (look test words k) (passing test (words (suc k))) v e) [
  | inl x ↦ look_passes test words k v x
  | inr x ↦ (passing_some test (words (suc k)) v x).1
]

look_finds : (test : Bytes → Bool) (words : ℕ → Option Bytes) (k i : ℕ) (v : Bytes) → 1 ≤ i → i ≤ k → words i ≡ Some v → test v ≡ true → Was (look test words k)
unfolding look
look_finds test words zero i v low high e p = absurd (omega arith)
look_finds test words (suc k) i v low high e p = elim (cases_eq i (suc k)) [
  | inl last ↦ first_some (look test words k) (passing test (words (suc k))) (v, passing-from test (words (suc k)) v (ap words (sym last) ∙ e) p)
  | inr before ↦ first_was (look test words k) (passing test (words (suc k))) (look_finds test words k i v low (omega arith) e p)
]

backed-one : (t : ℕ) (words : ℕ → Option Bytes) (v w : Bytes) → backed t words v ≡ true → backed t words w ≡ true → v ≡ w
backed-one t words v w p q =
    let few : count (λ i. false) (3 * t + 1) ≡ 0 = count_none (λ i. false) (3 * t + 1) (λ i _ _. refl) in
    let r = quorums t (λ i. meets (bytes_eq v) (words i)) (λ i. meets (bytes_eq w) (words i)) (λ i. false) (omega arith) (leb-true _ _ p) (leb-true _ _ q) in
    let a = meets_true (bytes_eq v) (words r.0) r.3 in
    let b = meets_true (bytes_eq w) (words r.0) r.4 in
    same_eq v a.0 a.2 ∙ some_inj (sym a.1 ∙ b.1) ∙ sym (same_eq w b.0 b.2)

copies-find : (t : ℕ) (words : ℕ → Option Bytes) (v : Bytes) → backed t words v ≡ true → look (backed t words) words (3 * t + 1) ≡ Some v
copies-find t words v p =
    let r = count_some (λ i. meets (bytes_eq v) (words i)) (3 * t + 1) (omega (arith, leb-true (2 * t + 1) _ p)) in
    let m = meets_true (bytes_eq v) (words r.0) r.3 in
    let is : words r.0 ≡ Some v = m.1 ∙ ap Some (sym (same_eq v m.0 m.2)) in
    let w = look_finds (backed t words) words (3 * t + 1) r.0 v r.1 r.2 is p in
    w.1 ∙ ap Some (backed-one t words w.0 v (look_passes (backed t words) words (3 * t + 1) w.0 w.1) p)

first_of : (js : List ℕ) (x : ℕ → Bytes) (c : Bytes) → 1 ≤ length js → AllByRecursion (λ j. x j ≡ c) js → unwrap_or (first_at (λ j. Some (x j)) js) [] ≡ c
first_of [] x c some all = absurd (omega arith)
first_of (j ∷ js) x c some all = all.0

copies_laws : (t f : ℕ) → Laws (copies t f)
copies_laws t f = record {
  block_rows = λ d p. refl;
  block_vector = λ d p. refl;
  block_fragment = λ d p j q. refl;
  block_entry = λ d p j q. refl;
  vector_share = λ v p j q. refl;
  shares_fix = λ v w p q many. same_eq v w (count_some (λ i. bytes_eq v w) (3 * t + 1) (omega (arith, many))).3;
  found = λ words v e. (refl, leb-true _ _ (look_passes (backed t words) words (3 * t + 1) v e));
  finds = λ words v k. copies-find t words v (le-leb _ _ k.1);
  interpolated_rows = λ A x many all. refl;
  interpolated_back =
      λ A x c many p all.
      first_of (lowest (t + 1) A (3 * t + 1)) x c
      (omega (arith, length-take-le (t + 1) (those A (3 * t + 1)) (omega (arith, many, those-length A (3 * t + 1))))) all;
}

abbrev S : Setting
S = copies 1 1

-- A message on its way.
record Way : Type 0 where
  k : Kind
  i : ℕ
  r : ℕ
  goes : Goes S k i r

-- It is delivered if it is due and the receiver open.
abbrev taken : Log → ℕ → Bool → Option Message → Log
taken log r true (Some m) = delivered r m ∷ log
taken log r true None = log
taken log r false (Some m) = log
taken log r false None = log

unfoldable carried : List Way → Log → Log
carried [] log = log
carried (p ∷ ps) log = carried ps (taken log p.r (is_open S log p.r) (due S log p.k p.i p.r))

taken_valid : (p : Way) (log : Log) → Valid S log → (b : Bool) (o : Option Message) → is_open S log p.r ≡ b → due S log p.k p.i p.r ≡ o → Valid S (taken log p.r b o)
taken_valid p log ok true (Some m) e h = (due_allowed S log p.k p.i p.r m p.goes e h, ok)
taken_valid p log ok true None e h = ok
taken_valid p log ok false (Some m) e h = ok
taken_valid p log ok false None e h = ok

carried_valid : (ps : List Way) (log : Log) → Valid S log → Valid S (carried ps log)
unfolding carried
carried_valid [] log ok = ok
carried_valid (p ∷ ps) log ok = carried_valid ps _ (taken_valid p log ok (is_open S log p.r) (due S log p.k p.i p.r) refl refl)

-- The sound boards, and the fetcher.
abbrev trio : List ((j : ℕ) × IsBoard S j)
trio = (1, (lit≤ tt, lit≤ tt)) ∷ ((2, (lit≤ tt, lit≤ tt)) ∷ ((3, (lit≤ tt, lit≤ tt)) ∷ []))

abbrev each : {A : Type 0} → (A → List Way) → List A → List Way
each ways [] = []
each ways (a ∷ as') = ways a ++ each ways as'

abbrev ways : List Way
ways =
    each (λ q. record { k = Send; i = 0; r = q.0; goes = (refl, q.1) } ∷ []) trio
    ++ (each (λ p. each (λ q. record { k = Echo; i = p.0; r = q.0; goes = (p.1, q.1) } ∷ []) trio) trio
    ++ (each (λ p. each (λ q. record { k = Ready; i = p.0; r = q.0; goes = (p.1, q.1) } ∷ []) trio) trio
    ++ (each (λ p. record { k = Hash; i = p.0; r = 5; goes = (p.1, (lit< tt, lit≤ tt)) } ∷ []) trio
    ++ each (λ p. record { k = Symbol; i = p.0; r = 5; goes = (p.1, (lit< tt, lit≤ tt)) } ∷ []) trio)))

abbrev begun : Log
begun = started 1 ∷ (dealt (7 ∷ []) ∷ (turned 4 ∷ []))

abbrev log : Log
log = carried ways begun

begun_valid : Valid S begun
unfolding is_turned is_started design count
begun_valid = ((lit≤ tt, lit≤ tt, refl), ((refl, refl, refl), ((refl, lit≤ tt, λ p. lit< tt), tt)))

one_turned : is_turned log 4 ≡ true
unfolding carried is_turned is_started design inbox heard board.kept board.ready_vector board.completed count
one_turned = refl

-- Boards 1 to 3 are all that are sound.
three : (P : ℕ → Type 0) → P 1 → P 2 → P 3 → (j : ℕ) → IsBoard S j → is_turned log j ≡ false → P j
three P a b c j at_j sound = elim (cases_eq j 1) [
  | inl e ↦ subst P (sym e) a
  | inr n1 ↦ elim (cases_eq j 2) [
    | inl e ↦ subst P (sym e) b
    | inr n2 ↦ elim (cases_eq j 3) [
      | inl e ↦ subst P (sym e) c
      | inr n3 ↦
          let four : j ≡ 4 = omega (arith, at_j.0, at_j.1) in
          absurd (both_ways (is_turned log 4) (ap (is_turned log) (sym four) ∙ sound) one_turned)
    ]
  ]
]

completes : (j : ℕ) → Sound S log j → completed S log j ≡ Some (7 ∷ [])
unfolding carried is_turned is_started design inbox heard board.kept board.ready_vector board.completed count
completes j sound = three (λ j. completed S log j ≡ Some (7 ∷ [])) refl refl refl j sound.0 sound.1

ends : ended S log 1 ≡ Some (block (7 ∷ []))
unfolding carried is_turned is_started design inbox heard board.kept board.ready_vector board.completed board.answer fetcher.settled fetcher.listened fetcher.answer count every those look
ends = refl

-- What is due is not heard again.
abbrev Calm : Kind → ℕ → ℕ → Type 0
Calm k i r = (m : Message) → due S log k i r ≡ Some m → answer S log r m ≡ 0

calm : (k : Kind) (i r : ℕ) (n : Message) → due S log k i r ≡ Some n → answer S log r n ≡ 0 → Calm k i r
calm k i r n is silent m e = subst (λ x. answer S log r x ≡ 0) (some_inj (sym is ∙ e)) silent

abbrev SoundCalm : Kind → ℕ → Type 0
SoundCalm k i = (r : ℕ) → IsBoard S r → is_turned log r ≡ false → Calm k i r

sends : SoundCalm Send 0
unfolding carried is_turned is_started design inbox heard board.kept board.ready_vector board.completed board.answer fetcher.settled fetcher.listened fetcher.answer count every those look
sends =
    let c : (r : ℕ) → due S log Send 0 r ≡ Some (send (7 ∷ []) (7 ∷ [])) → answer S log r (send (7 ∷ []) (7 ∷ [])) ≡ 0 → Calm Send 0 r = λ r. calm Send 0 r (send (7 ∷ []) (7 ∷ [])) in
    three (Calm Send 0) (c 1 refl refl) (c 2 refl refl) (c 3 refl refl)

-- A message that each sound board has issued for all.
to_all : (k : Kind) (make : ℕ → Message) (i : ℕ) → due S log k i 1 ≡ Some (make i) → due S log k i 2 ≡ Some (make i) → due S log k i 3 ≡ Some (make i) →
    answer S log 1 (make i) ≡ 0 → answer S log 2 (make i) ≡ 0 → answer S log 3 (make i) ≡ 0 → SoundCalm k i
to_all k make i p q r a b c = three (Calm k i) (calm k i 1 (make i) p a) (calm k i 2 (make i) q b) (calm k i 3 (make i) r c)

echoes : (i : ℕ) → IsBoard S i → is_turned log i ≡ false → SoundCalm Echo i
unfolding carried is_turned is_started design inbox heard board.kept board.ready_vector board.completed board.answer fetcher.settled fetcher.listened fetcher.answer count every those look
echoes =
    let all : ℕ → Message = λ i. echo i (7 ∷ []) in
    three (SoundCalm Echo)
    (to_all Echo all 1 refl refl refl refl refl refl) (to_all Echo all 2 refl refl refl refl refl refl) (to_all Echo all 3 refl refl refl refl refl refl)

readies : (i : ℕ) → IsBoard S i → is_turned log i ≡ false → SoundCalm Ready i
unfolding carried is_turned is_started design inbox heard board.kept board.ready_vector board.completed board.answer fetcher.settled fetcher.listened fetcher.answer count every those look
readies =
    let all : ℕ → Message = λ i. ready i (7 ∷ []) in
    three (SoundCalm Ready)
    (to_all Ready all 1 refl refl refl refl refl refl) (to_all Ready all 2 refl refl refl refl refl refl) (to_all Ready all 3 refl refl refl refl refl refl)

hashes : (i : ℕ) → IsBoard S i → is_turned log i ≡ false → Calm Hash i 5
unfolding carried is_turned is_started design inbox heard board.kept board.ready_vector board.completed board.answer fetcher.settled fetcher.listened fetcher.answer count every those look
hashes =
    let c : (i : ℕ) → due S log Hash i 5 ≡ Some (hash i (7 ∷ [])) → answer S log 5 (hash i (7 ∷ [])) ≡ 0 → Calm Hash i 5 = λ i. calm Hash i 5 (hash i (7 ∷ [])) in
    three (λ i. Calm Hash i 5) (c 1 refl refl) (c 2 refl refl) (c 3 refl refl)

symbols : (i : ℕ) → IsBoard S i → is_turned log i ≡ false → Calm Symbol i 5
unfolding carried is_turned is_started design inbox heard board.kept board.ready_vector board.completed board.answer fetcher.settled fetcher.listened fetcher.answer count every those look
symbols =
    let c : (i : ℕ) → due S log Symbol i 5 ≡ Some (symbol i (7 ∷ [])) → answer S log 5 (symbol i (7 ∷ [])) ≡ 0 → Calm Symbol i 5 = λ i. calm Symbol i 5 (symbol i (7 ∷ [])) in
    three (λ i. Calm Symbol i 5) (c 1 refl refl) (c 2 refl refl) (c 3 refl refl)

open_sound : (r : ℕ) → IsBoard S r → is_open S log r ≡ true → is_turned log r ≡ false
open_sound r at-r e = not-true (is_turned log r) (sym (cond-true (leb r 4) (not (is_turned log r)) _ (le-leb r 4 at-r.1)) ∙ e)

last : (r : ℕ) → IsFetcher S r → r ≡ 5
last r at-r = omega (arith, at-r.0, at-r.1)

quiet : Quiet S log
quiet Send i r m goes sound opens h =
    sends r goes.1 (open_sound r goes.1 opens) m (ap (λ n. due S log Send n r) (sym goes.0) ∙ h)
quiet Echo i r m goes sound opens h = echoes i goes.0 sound r goes.1 (open_sound r goes.1 opens) m h
quiet Ready i r m goes sound opens h = readies i goes.0 sound r goes.1 (open_sound r goes.1 opens) m h
quiet Hash i r m goes sound opens h = subst (λ q. Calm Hash i q) (sym (last r goes.1)) (hashes i goes.0 sound) m h
quiet Symbol i r m goes sound opens h = subst (λ q. Calm Symbol i q) (sym (last r goes.1)) (symbols i goes.0 sound) m h

dealer_sound : is_turned log 0 ≡ false
unfolding carried is_turned is_started design inbox heard board.kept board.ready_vector board.completed board.answer fetcher.settled fetcher.listened fetcher.answer count every those look
dealer_sound = refl

was_dealt : design log ≡ Some (7 ∷ [])
unfolding carried is_turned is_started design inbox heard board.kept board.ready_vector board.completed board.answer fetcher.settled fetcher.listened fetcher.answer count every those look
was_dealt = refl

pub possible : Possible
possible = record {
  setting = S;
  laws = copies_laws 1 1;
  log = log;
  valid = carried_valid ways begun begun_valid;
  quiet = quiet;
  one_fault = refl;
  one_turned = one_turned;
  dealer_sound = dealer_sound;
  dealt = 7 ∷ [];
  was_dealt = was_dealt;
  completes = completes;
  ends = ends;
}

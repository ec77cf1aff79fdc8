-- Fetchers: at most one vector is known, it is the completed one, and on a quiet floor each started fetcher has ended.
use Rattle.std.proofs.Common.{◌≡◌, ℕ, ◌+◌, ◌-◌, ◌≤◌, Bool, true, false, cond, not, ◌&&◌, leb, [], ◌∷◌, Some, Option, sym, refl, ap, ◌∙◌, inl, inr, arith}
use Rattle.std.specs.Str.{bytes_eq}
use Rattle.std.proofs.lemmas.Bool.{and_parts, or_cases, not-true, leb-true, le-leb, lt-leb, eqb-true, cond-true, cond-false, cases_Bool, both_ways, true≢false}
use Rattle.kind.specs.declared.Kind.{Kind}
use Rattle.kind.specs.declared.Kind.TheVariants.{Hash, Symbol}
use Rattle.protocol.specs.Optional.{missing}
use Rattle.protocol.specs.Counting.{count}
use Rattle.protocol.specs.Messages.{Bytes, Message, hash, symbol, echoed, hashed, symboled}
use Rattle.protocol.specs.Setting.{Setting, Laws, boards, quorum, support, IsFetcher, fits, agrees, Known}
use Rattle.protocol.specs.Board.{History, from, heard, voted, kept}
use Rattle.protocol.specs.Board as board
use Rattle.protocol.specs.Fetcher.{shares, symbols, known, fitting, settled, listened, stale, response}
use Rattle.protocol.specs.Fetcher as fetcher
use Rattle.protocol.specs.Log.{Event, turned, dealt, started, delivered, Log, inbox, is_turned, is_started, starts, is_open, completed, due, Goes, Sound, Allowed, Valid, Quiet}
use Rattle.protocol.proofs.Optional.{Was, some_inj, passing_some, passing-from, meets_true, meets-from, missing_was, renamed, same_eq, eq_same}
use Rattle.protocol.proofs.Counting.{count_le, count_both, count-minus, one_of}
use Rattle.protocol.proofs.Heard.{heard_keep, kept_is}
use Rattle.protocol.proofs.Delivered.{hashed_is, symboled_is, hash-due, symbol-due, due-hash, due-symbol}
use Rattle.protocol.proofs.Agreement.{turned_few, heard-issued, echo-kept, completed_rooted, agreement}
use Rattle.protocol.proofs.Formed.{completed-vector}
use Rattle.protocol.proofs.Totality.{sound_many, totality}

-- A fetcher that has not ended has heard all that it took.
pub listening : (S : Setting) (h : History) → missing (settled S (listened S h)) ≡ true → listened S h ≡ h
unfolding listened
listening S [] e = refl
listening S (m ∷ h) e = elim (cases_Bool (missing (settled S (listened S h)))) [
  | inl going ↦ cond-true _ (m ∷ listened S h) (listened S h) going ∙ ap (λ g. m ∷ g) (listening S h going)
  | inr over ↦
      let same : listened S (m ∷ h) ≡ listened S h = cond-false _ (m ∷ listened S h) (listened S h) over in
      absurd (both_ways (missing (settled S (listened S h))) over (ap (λ g. missing (settled S g)) (sym same) ∙ e))
]

-- What it heard before it ended is what it heard first.
pub listened-heard : {A : Type 0} (S : Setting) (carried : Message → Option A) (h : History) (a : A) → heard carried (listened S h) ≡ Some a → heard carried h ≡ Some a
unfolding listened
listened-heard S carried [] a e = e
listened-heard S carried (m ∷ h) a e = elim (cases_Bool (missing (settled S (listened S h)))) [
  | inl going ↦ ap (heard carried) (sym (cond-true _ (m ∷ listened S h) (listened S h) going ∙ ap (λ g. m ∷ g) (listening S h going))) ∙ e
  | inr over ↦ heard_keep carried m h a (listened-heard S carried h a (ap (heard carried) (sym (cond-false _ (m ∷ listened S h) (listened S h) over)) ∙ e))
]

-- At most one vector is known.
pub known-one : (S : Setting) → Laws S → (hs : ℕ → Option Bytes) (v w : Bytes) → Known S hs v → Known S hs w → v ≡ w
known-one S laws hs v w p q =
    let both : count (λ i. agrees S hs v i && agrees S hs w i) (boards S) ≤ count (λ i. bytes_eq (S.share v i) (S.share w i)) (boards S) =
    count_le (λ i. agrees S hs v i && agrees S hs w i) (λ i. bytes_eq (S.share v i) (S.share w i)) (boards S)
    (λ i _ _ h.
    let x = and_parts (agrees S hs v i) (agrees S hs w i) h in
    let a = meets_true (bytes_eq (S.share v i)) (hs i) x.0 in
    let b = meets_true (bytes_eq (S.share w i)) (hs i) x.1 in
    eq_same _ _ (same_eq _ _ a.2 ∙ some_inj (sym a.1 ∙ b.1) ∙ sym (same_eq _ _ b.2))) in
    laws.shares_fix v w p.0 q.0 (omega (arith, p.1, q.1, both, count_both (agrees S hs v) (agrees S hs w) (boards S)))

pub settled-known : (S : Setting) (h : History) (v : Bytes) → settled S h ≡ Some v → (known S h ≡ Some v) × (support S ≤ count (fitting S v (symbols h)) (boards S))
unfolding settled
settled-known S h v e =
    let p = passing_some (λ v. leb (support S) (count (fitting S v (symbols h)) (boards S))) (known S h) v e in
    (p.0, leb-true _ _ p.1)

pub known-settled : (S : Setting) (h : History) (v : Bytes) → known S h ≡ Some v → support S ≤ count (fitting S v (symbols h)) (boards S) → settled S h ≡ Some v
unfolding settled
known-settled S h v e many = passing-from (λ v. leb (support S) (count (fitting S v (symbols h)) (boards S))) (known S h) v e (le-leb _ _ many)

module _ (S : Setting) (log : Log) (ok : Valid S log) where
  -- What a fetcher heard from a sound board is what that board issued.
  hash-issued : (r i : ℕ) (s : Bytes) → is_turned log i ≡ false → shares (listened S (inbox r log)) i ≡ Some s →
      (v : Bytes) × (completed S log i ≡ Some v) × (s ≡ S.share v i)
  hash-issued r i s sound h =
      hash-due S log r i s (heard-issued S log ok hash hashed hashed_is r i s sound (listened-heard S (from i hashed) (inbox r log) s h))

  symbol-issued : (r i : ℕ) (x : Bytes) → is_turned log i ≡ false → symbols (listened S (inbox r log)) i ≡ Some x →
      (v : Bytes) × (completed S log i ≡ Some v) × (kept S i (inbox i log) ≡ Some (v, x))
  symbol-issued r i x sound h =
      symbol-due S log r i x (heard-issued S log ok symbol symboled symboled_is r i x sound (listened-heard S (from i symboled) (inbox r log) x h))

  module _ (laws : Laws S) where
    -- A known vector is that of every board that has completed,
    pub known_completed : (r a : ℕ) (w v : Bytes) → Known S (shares (listened S (inbox r log))) w → completed S log a ≡ Some v → w ≡ v
    known_completed r a w v knows h =
        let hs : ℕ → Option Bytes = shares (listened S (inbox r log)) in
        let sound_share : count (λ i. agrees S hs w i && not (is_turned log i)) (boards S) ≤ count (λ i. bytes_eq (S.share w i) (S.share v i)) (boards S) =
        count_le (λ i. agrees S hs w i && not (is_turned log i)) (λ i. bytes_eq (S.share w i) (S.share v i)) (boards S)
        (λ i _ _ b.
        let x = and_parts (agrees S hs w i) (not (is_turned log i)) b in
        let m = meets_true (bytes_eq (S.share w i)) (hs i) x.0 in
        let c = hash-issued r i m.0 (not-true _ x.1) m.1 in
        let e : c.0 ≡ v = agreement S log ok i a c.0 v c.1 h in
        eq_same _ _ (same_eq _ _ m.2 ∙ c.2 ∙ ap (λ u. S.share u i) e)) in
        laws.shares_fix w v knows.0 (completed-vector S laws log ok a v h)
        (omega (arith, sound_share, knows.1, count-minus (agrees S hs w) (is_turned log) (boards S), turned_few S log ok))

    -- and a sound board has completed with it.
    pub known_sound : (r : ℕ) (w : Bytes) → Known S (shares (listened S (inbox r log))) w → (i : ℕ) × Sound S log i × (completed S log i ≡ Some w)
    known_sound r w knows =
        let hs : ℕ → Option Bytes = shares (listened S (inbox r log)) in
        let q = one_of S.t (boards S) (agrees S hs w) (is_turned log) (turned_few S log ok) (omega (arith, knows.1)) in
        let m = meets_true (bytes_eq (S.share w q.0)) (hs q.0) q.3 in
        let c = hash-issued r q.0 m.0 q.4 m.1 in
        let e : w ≡ c.0 = known_completed r q.0 w c.0 knows c.1 in
        (q.0, ((q.1, q.2), q.4), renamed (completed S log q.0) c.0 w c.1 e)

pub started_range : (S : Setting) (log : Log) (f : ℕ) → Valid S log → is_started log f ≡ true → (1 ≤ f) × (f ≤ S.fetchers)
unfolding is_started
started_range S [] f ok h = absurd (true≢false (sym h))
started_range S (e ∷ log) f ok h = elim (or_cases (starts f e) (is_started log f) h) [
  | inl x ↦ newest e ok.0 x
  | inr x ↦ started_range S log f ok.1 x
]
  where
    newest : (e : Event) → Allowed S log e → starts f e ≡ true → (1 ≤ f) × (f ≤ S.fetchers)
    newest (turned p) a x = absurd (true≢false (sym x))
    newest (dealt d) a x = absurd (true≢false (sym x))
    newest (started g) a x = let e = eqb-true f g x in (omega (arith, a.0), omega (arith, a.1))
    newest (delivered r m) a x = absurd (true≢false (sym x))

pub started_open : (S : Setting) (log : Log) (f : ℕ) → 1 ≤ f → is_started log f ≡ true → is_open S log (boards S + f) ≡ true
started_open S log f low h =
    let at : boards S + f - boards S ≡ f = omega arith in
    cond-false (leb (boards S + f) (boards S)) _ (is_started log (boards S + f - boards S)) (lt-leb _ _ (omega arith)) ∙ ap (is_started log) at ∙ h

-- On a quiet floor.
module _ (S : Setting) (log : Log) (ok : Valid S log) (laws : Laws S) (quiet : Quiet S log) (a : ℕ) (v : Bytes) (done : completed S log a ≡ Some v) (f : ℕ) (going : is_started log f ≡ true) where
  abbrev r : ℕ
  r = boards S + f

  abbrev h : History
  h = listened S (inbox r log)

  module _ (waiting : missing (settled S h) ≡ true) where
    -- A fetcher that waits has heard what is due to it.
    not_new : (k : Kind) (i : ℕ) (m : Message) → Goes S k i r → is_turned log i ≡ false → due S log k i r ≡ Some m → stale m h ≡ true
    unfolding fetcher.answer
    not_new k i m goes sound is =
        let range = started_range S log f ok going in
        let no_board : leb r (boards S) ≡ false = lt-leb r (boards S) (omega (arith, range.0)) in
        let zero : fetcher.answer S (inbox r log) m ≡ 0 =
        sym (cond-false (leb r (boards S)) (board.answer S r (inbox r log) m) (fetcher.answer S (inbox r log) m) no_board)
        ∙ quiet k i r m goes sound (started_open S log f range.0 going) is in
        elim (or_cases (stale m h) (not (missing (settled S h))) (quiet_test _ _ _ zero)) [
          | inl x ↦ x
          | inr x ↦ absurd (both_ways (missing (settled S h)) (not-true _ x) waiting)
        ]
      where
        quiet_test : (b : Bool) (x y : ℕ) → cond b 0 (1 + x + y) ≡ 0 → b ≡ true
        quiet_test true x y e = refl
        quiet_test false x y e = absurd (omega arith)

    is_fetcher : IsFetcher S r
    is_fetcher = let range = started_range S log f ok going in (omega (arith, range.0), omega (arith, range.1))

    hears-hash : (i : ℕ) → Sound S log i → agrees S (shares h) v i ≡ true
    hears-hash i at_i =
        let new = not_new Hash i (hash i (S.share v i)) (at_i.0, is_fetcher) at_i.1 (due-hash S log r i v (totality S log ok quiet a v done i at_i)) in
        let w = missing_was (shares h i) (not-true _ new) in
        let c = hash-issued S log ok r i w.0 at_i.1 w.1 in
        let e : c.0 ≡ v = agreement S log ok i a c.0 v c.1 done in
        meets-from (bytes_eq (S.share v i)) (shares h i) w.0 w.1 (eq_same _ _ (sym (c.2 ∙ ap (λ u. S.share u i) e)))

    hears-symbol : (i : ℕ) (x : Bytes) → Sound S log i → kept S i (inbox i log) ≡ Some (v, x) → fitting S v (symbols h) i ≡ true
    hears-symbol i x at_i k =
        let new = not_new Symbol i (symbol i x) (at_i.0, is_fetcher) at_i.1 (due-symbol S log r i v x (totality S log ok quiet a v done i at_i) k) in
        let w = missing_was (symbols h i) (not-true _ new) in
        let c = symbol-issued S log ok r i w.0 at_i.1 w.1 in
        let e : c.0 ≡ v = agreement S log ok i a c.0 v c.1 done in
        let fit : fits S i c.0 w.0 ≡ true = (kept_is S i (inbox i log) (c.0, w.0) c.2).1 in
        meets-from (fits S i v) (symbols h i) w.0 w.1 (ap (λ u. fits S i u w.0) (sym e) ∙ fit)

    settles : settled S h ≡ Some v
    settles =
        let enough : quorum S ≤ count (agrees S (shares h) v) (boards S) =
        omega (
          arith,
          sound_many S log ok quiet,
          count_le (λ i. not (is_turned log i)) (agrees S (shares h) v) (boards S) (λ i p q b. hears-hash i ((p, q), not-true _ b)),
        ) in
        let root = completed_rooted S log ok a v done in
        let echo_of : ℕ → Bool = voted echoed v (inbox root.0 log) in
        let served : count (λ i. echo_of i && not (is_turned log i)) (boards S) ≤ count (fitting S v (symbols h)) (boards S) =
        count_le (λ i. echo_of i && not (is_turned log i)) (fitting S v (symbols h)) (boards S)
        (λ i p q b.
        let x = and_parts (echo_of i) (not (is_turned log i)) b in
        let k = echo-kept S log ok root.0 i v (not-true _ x.1) x.0 in
        hears-symbol i k.0 ((p, q), not-true _ x.1) k.1) in
        let many : support S ≤ count (fitting S v (symbols h)) (boards S) =
        omega (arith, served, root.1, count-minus echo_of (is_turned log) (boards S), turned_few S log ok) in
        known-settled S h v (laws.finds (shares h) v (completed-vector S laws log ok a v done, enough)) many

  -- A started fetcher has ended.
  pub ends : Was (settled S h)
  ends = elim (cases_Bool (missing (settled S h))) [ inl e ↦ (v, settles e) | inr e ↦ missing_was (settled S h) e ]

-- Totality: on a quiet floor, once one board has completed or a sound dealer has dealt, every sound board has completed.
use Rattle.std.proofs.Common.{◌≡◌, ℕ, ◌+◌, ◌≤◌, Bool, true, false, cond, not, ◌&&◌, leb, Some, Option, sym, refl, ap, ◌∙◌, inl, inr, arith}
use Rattle.std.proofs.lemmas.Bool.{and_parts, not-true, not_from_false, le-leb, cond-true}
use Rattle.kind.specs.declared.Kind.{Kind}
use Rattle.kind.specs.declared.Kind.TheVariants.{Send, Echo, Ready}
use Rattle.protocol.specs.Optional.{missing}
use Rattle.protocol.specs.Counting.{count}
use Rattle.protocol.specs.Messages.{Bytes, Parcel, Message, send, echo, ready, sent, echoed, readied}
use Rattle.protocol.specs.Setting.{Setting, Laws, boards, quorum, support, fits}
use Rattle.protocol.specs.Board.{History, from, heard, voted, kept, stale}
use Rattle.protocol.specs.Board as board
use Rattle.protocol.specs.Fetcher as fetcher
use Rattle.protocol.specs.Log.{Log, inbox, is_turned, is_open, design, completed, due, Goes, Sound, Valid, Quiet}
use Rattle.protocol.proofs.Optional.{Was, some_inj, missing_was, eq_same}
use Rattle.protocol.proofs.Counting.{count_le, count-minus, count_not}
use Rattle.protocol.proofs.Heard.{heard_vote, kept_from, completed-votes, completed_reached, ready_reached}
use Rattle.protocol.proofs.Delivered.{design-block, due-send, due-echo, due-ready}
use Rattle.protocol.proofs.Agreement.{turned_few, echoes, readies, says, echo-kept, ready-issued, send-issued, ready_agree, completed-issued, rooted, rooted_dealt, agreement, agreement_dealt}

-- An answer of 0 says that the message was not heard.
zero_test : (b : Bool) (a c d : ℕ) → cond b 0 (1 + a + c + d) ≡ 0 → b ≡ true
zero_test true a c d e = refl
zero_test false a c d e = absurd (omega arith)

silent_stale : (S : Setting) (j : ℕ) (h : History) (m : Message) → board.answer S j h m ≡ 0 → stale m h ≡ true
unfolding board.answer
silent_stale S j h m e = zero_test (stale m h) _ _ _ e

told : {A : Type 0} (o : Option A) → not (missing o) ≡ true → Was o
told o e = missing_was o (not-true (missing o) e)

pub sound_open : (S : Setting) (log : Log) (j : ℕ) → Sound S log j → is_open S log j ≡ true
sound_open S log j s = cond-true (leb j (boards S)) (not (is_turned log j)) _ (le-leb j (boards S) s.0.1) ∙ not_from_false (is_turned log j) s.1

module _ (S : Setting) (log : Log) (ok : Valid S log) (quiet : Quiet S log) where
  pub sound_many : quorum S ≤ count (λ i. not (is_turned log i)) (boards S)
  sound_many = omega (arith, count_not (is_turned log) (boards S), turned_few S log ok)

  -- A sound board has heard what is due to it.
  not_new : (k : Kind) (i j : ℕ) (m : Message) → Goes S k i j → is_turned log i ≡ false → Sound S log j → due S log k i j ≡ Some m → stale m (inbox j log) ≡ true
  not_new k i j m goes sound at_j is =
      silent_stale S j (inbox j log) m
      (sym (cond-true (leb j (boards S)) (board.answer S j (inbox j log) m) (fetcher.answer S (inbox j log) m) (le-leb j (boards S) at_j.0.1))
      ∙ quiet k i j m goes sound (sound_open S log j at_j) is)

  hears-ready : (j i : ℕ) (v : Bytes) → Sound S log j → Sound S log i → says S log i ≡ Some v → voted readied v (inbox j log) i ≡ true
  hears-ready j i v at_j at_i h =
      let w = told (heard (from i readied) (inbox j log)) (not_new Ready i j (ready i v) (at_i.0, at_j.0) at_i.1 at_j (due-ready S log j i v h)) in
      let came : says S log i ≡ Some w.0 = ready-issued S log ok j i w.0 at_i.1 (heard_vote _ w.0 w.1) in
      heard_vote _ v (w.1 ∙ sym came ∙ h)

  hears-echo : (j i : ℕ) (v x : Bytes) → Sound S log j → Sound S log i → kept S i (inbox i log) ≡ Some (v, x) → voted echoed v (inbox j log) i ≡ true
  hears-echo j i v x at_j at_i h =
      let w = told (heard (from i echoed) (inbox j log)) (not_new Echo i j (echo i v) (at_i.0, at_j.0) at_i.1 at_j (due-echo S log j i v x h)) in
      let came = echo-kept S log ok j i w.0 at_i.1 (heard_vote _ w.0 w.1) in
      let e : w.0 ≡ v = ap (λ (p : Parcel). p.0) (some_inj (sym came.1 ∙ h)) in
      heard_vote _ v (w.1 ∙ ap Some e)

  -- Where all are ready, all complete;
  all_complete : (v : Bytes) → ((i : ℕ) → Sound S log i → says S log i ≡ Some v) → (j : ℕ) → Sound S log j → Was (completed S log j)
  all_complete v all j at_j =
      completed_reached S (inbox j log) v
      (omega (
        arith,
        sound_many,
        count_le (λ i. not (is_turned log i)) (voted readied v (inbox j log)) (boards S)
            (λ i p q h. let at_i : Sound S log i = ((p, q), not-true _ h) in hears-ready j i v at_j at_i (all i at_i)),
      ))

  -- where one has completed, all are ready.
  all-ready : (a : ℕ) (v : Bytes) → completed S log a ≡ Some v → (j : ℕ) → Sound S log j → says S log j ≡ Some v
  all-ready a v h j at_j =
      let told : count (λ i. voted readied v (inbox a log) i && not (is_turned log i)) (boards S) ≤ readies S log j v =
      count_le (λ i. voted readied v (inbox a log) i && not (is_turned log i)) (voted readied v (inbox j log)) (boards S)
      (λ i p q b.
      let x = and_parts (voted readied v (inbox a log) i) (not (is_turned log i)) b in
      let at_i : Sound S log i = ((p, q), not-true _ x.1) in
      hears-ready j i v at_j at_i (ready-issued S log ok a i v at_i.1 x.0)) in
      let many : support S ≤ readies S log j v =
      omega (arith, told, count-minus (voted readied v (inbox a log)) (is_turned log) (boards S), completed-votes S (inbox a log) v h, turned_few S log ok) in
      let w = ready_reached S (inbox j log) v (inr many) in
      let r = completed-issued S log ok a v h in
      w.1 ∙ ap Some (ready_agree S log ok j r.0 w.0 v w.1 r.2)

  pub totality : (a : ℕ) (v : Bytes) → completed S log a ≡ Some v → (j : ℕ) → Sound S log j → completed S log j ≡ Some v
  totality a v h j at_j =
      let w = all_complete v (all-ready a v h) j at_j in
      w.1 ∙ ap Some (agreement S log ok j a w.0 v w.1 h)

  module _ (laws : Laws S) (d : Bytes) (sound : is_turned log 0 ≡ false) (has-dealt : design log ≡ Some d) where
    all-kept : (j : ℕ) → Sound S log j → kept S j (inbox j log) ≡ Some (S.vector d, S.fragment d j)
    all-kept j at_j =
        let w = told (heard sent (inbox j log)) (not_new Send 0 j (send (S.vector d) (S.fragment d j)) (refl, at_j.0) sound at_j (due-send S log j d has-dealt)) in
        let s = send-issued S log ok j w.0.0 w.0.1 sound w.1 in
        let e : s.0 ≡ d = some_inj (sym s.1 ∙ has-dealt) in
        let a : w.0.0 ≡ S.vector d = s.2 ∙ ap S.vector e in
        let b : w.0.1 ≡ S.fragment d j = s.3 ∙ ap (λ x. S.fragment x j) e in
        let is : heard sent (inbox j log) ≡ Some (S.vector d, S.fragment d j) = w.1 ∙ (λ i. Some (a i, b i)) in
        let fit : fits S j (S.vector d) (S.fragment d j) ≡ true = eq_same _ _ (laws.block_entry d (design-block S log d ok has-dealt) j at_j.0) in
        kept_from S j (inbox j log) (S.vector d, S.fragment d j) is fit

    all-dealt : (j : ℕ) → Sound S log j → says S log j ≡ Some (S.vector d)
    all-dealt j at_j =
        let v : Bytes = S.vector d in
        let told : count (λ i. not (is_turned log i)) (boards S) ≤ echoes S log j v =
        count_le (λ i. not (is_turned log i)) (voted echoed v (inbox j log)) (boards S)
        (λ i p q h. let at_i : Sound S log i = ((p, q), not-true _ h) in hears-echo j i v (S.fragment d i) at_j at_i (all-kept i at_i)) in
        let w = ready_reached S (inbox j log) v (inl (omega (arith, told, sound_many))) in
        let r = rooted_dealt S log ok sound w.0 (rooted S log ok j w.0 w.1) in
        w.1 ∙ ap Some (r.2 ∙ ap S.vector (some_inj (sym r.1 ∙ has-dealt)))

    pub totality_dealt : (j : ℕ) → Sound S log j → completed S log j ≡ Some (S.vector d)
    totality_dealt j at_j =
        let w = all_complete (S.vector d) all-dealt j at_j in
        let r = agreement_dealt S log ok sound j w.0 w.1 in
        w.1 ∙ ap Some (r.2 ∙ ap S.vector (some_inj (sym r.1 ∙ has-dealt)))

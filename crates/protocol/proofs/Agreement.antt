-- Agreement: boards that have completed hold one vector, and with a sound dealer that of the block dealt.
use Rattle.std.proofs.Common.{◌≡◌, ℕ, zero, suc, ◌≤◌, Bool, true, false, ◌||◌, eqb, [], ◌∷◌, Some, Option, sym, refl, ap, ◌∙◌, subst, inl, inr, arith}
use Rattle.std.proofs.lemmas.Bool.{both_ways, ne_eqb}
use Rattle.protocol.specs.Counting.{count}
use Rattle.protocol.specs.Messages.{Bytes, Parcel, Message, echo, ready, kind, sender, sent, echoed, readied}
use Rattle.protocol.specs.Setting.{Setting, boards, quorum, support}
use Rattle.protocol.specs.Board.{from, heard, voted, votes, kept, ready_vector}
use Rattle.protocol.specs.Log.{Event, turned, dealt, started, delivered, Log, inbox, is_turned, design, completed, due, Valid}
use Rattle.protocol.proofs.Optional.{some_inj}
use Rattle.protocol.proofs.Counting.{count_le, count_none, count_or, count_single, one_of, quorums}
use Rattle.protocol.proofs.Heard.{vote_heard, votes_keep, completed-votes, kept_is, ready_reason, ready_none}
use Rattle.protocol.proofs.Delivered.{inbox_cases, inbox_none, turned_keep, Source, heard_source, heard_source_before, came_from, echoed_is, readied_is, send_came, echo-due, ready-due, send-due}

-- At most t boards are turned.
pub turned_few : (S : Setting) (log : Log) → Valid S log → count (is_turned log) (boards S) ≤ S.t
unfolding is_turned
turned_few S [] ok = omega (arith, count_none (is_turned []) (boards S) (λ i p q. refl))
turned_few S (turned zero ∷ log) ok =
    let grown : count (is_turned (turned zero ∷ log)) (boards S) ≤ count (λ i. eqb i zero || is_turned log i) (boards S) =
    count_le (is_turned (turned zero ∷ log)) (λ i. eqb i zero || is_turned log i) (boards S) (λ i p q h. h) in
    let no_board : count (λ i. eqb i zero) (boards S) ≡ 0 = count_none (λ i. eqb i zero) (boards S) (λ i p q. ne_eqb i zero (λ e. omega arith)) in
    omega (arith, count_or (λ i. eqb i zero) (is_turned log) (boards S), turned_few S log ok.1)
turned_few S (turned (suc p) ∷ log) ok =
    let grown : count (is_turned (turned (suc p) ∷ log)) (boards S) ≤ count (λ i. eqb i (suc p) || is_turned log i) (boards S) =
    count_le (is_turned (turned (suc p) ∷ log)) (λ i. eqb i (suc p) || is_turned log i) (boards S) (λ i p q h. h) in
    omega (arith, count_or (λ i. eqb i (suc p)) (is_turned log) (boards S), count_single (suc p) (boards S), ok.0.2 (omega arith))
turned_few S (dealt d ∷ log) ok = omega (arith, count_le (is_turned (dealt d ∷ log)) (is_turned log) (boards S) (λ i p q h. h), turned_few S log ok.1)
turned_few S (started f ∷ log) ok = omega (arith, count_le (is_turned (started f ∷ log)) (is_turned log) (boards S) (λ i p q h. h), turned_few S log ok.1)
turned_few S (delivered r m ∷ log) ok =
    omega (arith, count_le (is_turned (delivered r m ∷ log)) (is_turned log) (boards S) (λ i p q h. h), turned_few S log ok.1)

abbrev pub echoes : Setting → Log → ℕ → Bytes → ℕ
echoes S log j v = votes S echoed v (inbox j log)

abbrev pub readies : Setting → Log → ℕ → Bytes → ℕ
readies S log j v = votes S readied v (inbox j log)

-- The vector of which the board j has issued READY.
abbrev pub says : Setting → Log → ℕ → Option Bytes
says S log j = ready_vector S (inbox j log)

-- A vector of which some board has heard a quorum of ECHOs.
abbrev pub Rooted : Setting → Log → Bytes → Type 0
Rooted S log v = (k : ℕ) × (quorum S ≤ echoes S log k v)

rooted_keep : (S : Setting) (e : Event) (log : Log) (v : Bytes) → Rooted S log v → Rooted S (e ∷ log) v
rooted_keep S e log v r = elim (inbox_cases r.0 e log) [
  | inl x ↦ (r.0, subst (λ h. quorum S ≤ votes S echoed v h) (sym x) r.1)
  | inr x ↦ (r.0, subst (λ h. quorum S ≤ votes S echoed v h) (sym x.2) (omega (arith, r.1, votes_keep S echoed v x.0 (inbox r.0 log))))
]

-- Behind each READY stands such a quorum: of t + 1 READYs one came from a board that issued it before.
module _ (S : Setting) (bad : ℕ → Bool) (few : count bad (boards S) ≤ S.t) where
  issued_before : (e : Event) (log : Log) → Valid S (e ∷ log) → ((p : ℕ) → is_turned log p ≡ true → bad p ≡ true) → (j : ℕ) (v : Bytes) →
      support S ≤ readies S (e ∷ log) j v → (i : ℕ) × (says S log i ≡ Some v)
  issued_before e log ok covered j v many =
      let r = one_of S.t (boards S) (voted readied v (inbox j (e ∷ log))) bad few many in
      let i : ℕ = r.0 in
      let source : Source S log (from i readied) j v = heard_source_before S (from i readied) j e log v ok (vote_heard _ v r.3) in
      elim (came_from S log ready readied readied_is j i v source).1 [
        | inl x ↦ absurd (both_ways (bad i) r.4 (covered i x.0))
        | inr x ↦ (i, ready-due S log j i v x)
      ]

  rooted_step : (e : Event) (log : Log) → Valid S (e ∷ log) → ((p : ℕ) → is_turned log p ≡ true → bad p ≡ true) →
      ((j : ℕ) (v : Bytes) → says S log j ≡ Some v → Rooted S log v) → (j : ℕ) (v : Bytes) → says S (e ∷ log) j ≡ Some v → Rooted S (e ∷ log) v
  rooted_step e log ok covered ih j v h = elim (inbox_cases j e log) [
    | inl x ↦ rooted_keep S e log v (ih j v (ap (ready_vector S) (sym x) ∙ h))
    | inr x ↦ elim (ready_reason S x.0 (inbox j log) v (ap (ready_vector S) (sym x.2) ∙ h)) [
      | inl y ↦ rooted_keep S e log v (ih j v y)
      | inr (inl y) ↦ (j, subst (λ h. quorum S ≤ votes S echoed v h) (sym x.2) y)
      | inr (inr y) ↦
          let f = issued_before e log ok covered j v (subst (λ h. support S ≤ votes S readied v h) (sym x.2) y) in
          rooted_keep S e log v (ih f.0 v f.1)
    ]
  ]

  all_rooted : (log : Log) → Valid S log → ((p : ℕ) → is_turned log p ≡ true → bad p ≡ true) → (j : ℕ) (v : Bytes) → says S log j ≡ Some v → Rooted S log v
  all_rooted [] ok covered j v h = absurd (ready_none S v (ap (ready_vector S) (sym (inbox_none j)) ∙ h))
  all_rooted (e ∷ log) ok covered j v h =
      let before : (p : ℕ) → is_turned log p ≡ true → bad p ≡ true = λ p q. covered p (turned_keep e log p q) in
      rooted_step e log ok before (all_rooted log ok.1 before) j v h

module _ (S : Setting) (log : Log) (ok : Valid S log) where
  pub rooted : (j : ℕ) (v : Bytes) → says S log j ≡ Some v → Rooted S log v
  rooted = all_rooted S (is_turned log) (turned_few S log ok) log ok (λ p h. h)

  -- What was heard from a sender that is not turned is what it issued.
  pub heard-issued : (make : ℕ → Bytes → Message) (carried : Message → Option Bytes) → ((m : Message) (v : Bytes) → carried m ≡ Some v → m ≡ make (sender m) v) →
      (k i : ℕ) (v : Bytes) → is_turned log (sender (make i v)) ≡ false → heard (from i carried) (inbox k log) ≡ Some v →
      due S log (kind (make i v)) (sender (make i v)) k ≡ Some (make i v)
  heard-issued make carried is k i v sound h = elim (came_from S log make carried is k i v (heard_source S (from i carried) k log v ok h)).1 [
    | inl x ↦ absurd (both_ways (is_turned log (sender (make i v))) sound x.0)
    | inr x ↦ x
  ]

  pub echo-kept : (k i : ℕ) (v : Bytes) → is_turned log i ≡ false → voted echoed v (inbox k log) i ≡ true → (x : Bytes) × (kept S i (inbox i log) ≡ Some (v, x))
  echo-kept k i v sound h = echo-due S log k i v (heard-issued echo echoed echoed_is k i v sound (vote_heard _ v h))

  pub ready-issued : (k i : ℕ) (v : Bytes) → is_turned log i ≡ false → voted readied v (inbox k log) i ≡ true → says S log i ≡ Some v
  ready-issued k i v sound h = ready-due S log k i v (heard-issued ready readied readied_is k i v sound (vote_heard _ v h))

  -- Two quorums of ECHOs share a sound board, which echoed once.
  pub rooted_agree : (v w : Bytes) → Rooted S log v → Rooted S log w → v ≡ w
  rooted_agree v w a b =
      let q = quorums S.t (voted echoed v (inbox a.0 log)) (voted echoed w (inbox b.0 log)) (is_turned log) (turned_few S log ok) a.1 b.1 in
      let x = echo-kept a.0 q.0 v q.5 q.3 in
      let y = echo-kept b.0 q.0 w q.5 q.4 in
      ap (λ (p : Parcel). p.0) (some_inj (sym x.1 ∙ y.1))

  pub ready_agree : (j k : ℕ) (v w : Bytes) → says S log j ≡ Some v → says S log k ≡ Some w → v ≡ w
  ready_agree j k v w p q = rooted_agree v w (rooted j v p) (rooted k w q)

  -- A board completes only with a vector of which a sound board issued READY.
  pub completed-issued : (j : ℕ) (v : Bytes) → completed S log j ≡ Some v → (i : ℕ) × (is_turned log i ≡ false) × (says S log i ≡ Some v)
  completed-issued j v h =
      let many : support S ≤ readies S log j v = omega (arith, completed-votes S (inbox j log) v h) in
      let r = one_of S.t (boards S) (voted readied v (inbox j log)) (is_turned log) (turned_few S log ok) many in
      (r.0, r.4, ready-issued j r.0 v r.4 r.3)

  pub completed_rooted : (j : ℕ) (v : Bytes) → completed S log j ≡ Some v → Rooted S log v
  completed_rooted j v h = let r = completed-issued j v h in rooted r.0 v r.2

  pub agreement : (j k : ℕ) (v w : Bytes) → completed S log j ≡ Some v → completed S log k ≡ Some w → v ≡ w
  agreement j k v w p q = rooted_agree v w (completed_rooted j v p) (completed_rooted k w q)

  -- With a sound dealer.
  pub send-issued : (j : ℕ) (v x : Bytes) → is_turned log 0 ≡ false → heard sent (inbox j log) ≡ Some (v, x) →
      (d : Bytes) × (design log ≡ Some d) × (v ≡ S.vector d) × (x ≡ S.fragment d j)
  send-issued j v x sound h = elim (send_came S log ok j v x h) [
    | inl y ↦ absurd (both_ways (is_turned log 0) sound y.0)
    | inr y ↦ send-due S log j v x y
  ]

  pub rooted_dealt : is_turned log 0 ≡ false → (v : Bytes) → Rooted S log v → (d : Bytes) × (design log ≡ Some d) × (v ≡ S.vector d)
  rooted_dealt sound v r =
      let q = one_of S.t (boards S) (voted echoed v (inbox r.0 log)) (is_turned log) (turned_few S log ok) (omega (arith, r.1)) in
      let x = echo-kept r.0 q.0 v q.4 q.3 in
      let k = kept_is S q.0 (inbox q.0 log) (v, x.0) x.1 in
      let s = send-issued q.0 v x.0 sound k.0 in
      (s.0, s.1, s.2)

  pub agreement_dealt : is_turned log 0 ≡ false → (j : ℕ) (v : Bytes) → completed S log j ≡ Some v → (d : Bytes) × (design log ≡ Some d) × (v ≡ S.vector d)
  agreement_dealt sound j v h = rooted_dealt sound v (completed_rooted j v h)

-- What a board has heard, kept, issued and completed with: it stays as its history grows, and comes to be when enough was heard.
use Rattle.std.proofs.Common.{◌≡◌, ℕ, ◌≤◌, Bool, true, eqb, leb, ◌⊎◌, [], ◌∷◌, Some, None, Option, sym, refl, ap, ◌∙◌, inl, inr, arith}
use Rattle.std.specs.Str.{bytes_eq}
use Rattle.std.proofs.lemmas.Bool.{eqb-true, leb-true, le-leb, cases_Bool, both_ways}
use Rattle.protocol.specs.Optional.{first, passing, meets}
use Rattle.protocol.specs.Messages.{Bytes, Parcel, Message, sender, sent, echoed, readied}
use Rattle.protocol.specs.Setting.{Setting, boards, quorum, support, fits}
use Rattle.protocol.specs.Board.{History, from, heard, news, voted, votes, kept, ready_vector, completed}
use Rattle.protocol.proofs.Counting.{count_le, count_none}
use Rattle.protocol.proofs.Optional.{Was, none_some, first_left, first_either, first_was, first_some, only_some, passing_some, passing-from, meets_true, meets-from, same_eq, eq_same}

-- A vote for v is one that was heard.
pub vote_heard : (o : Option Bytes) (v : Bytes) → meets (λ w. bytes_eq w v) o ≡ true → o ≡ Some v
vote_heard o v h =
    let m = meets_true (λ w. bytes_eq w v) o h in
    m.1 ∙ ap Some (same_eq m.0 v m.2)

pub heard_vote : (o : Option Bytes) (v : Bytes) → o ≡ Some v → meets (λ w. bytes_eq w v) o ≡ true
heard_vote o v h = meets-from (λ w. bytes_eq w v) o v h (eq_same v v refl)

pub from_some : {A : Type 0} (i : ℕ) (carried : Message → Option A) (m : Message) (a : A) → from i carried m ≡ Some a → (i ≡ sender m) × (carried m ≡ Some a)
from_some i carried m a h = let o = only_some (eqb i (sender m)) (carried m) a h in (eqb-true i (sender m) o.0, o.1)

-- What stays.
pub heard_keep : {A : Type 0} (carried : Message → Option A) (m : Message) (h : History) (a : A) → heard carried h ≡ Some a → heard carried (m ∷ h) ≡ Some a
unfolding heard
heard_keep carried m h a e = first_left (heard carried h) (carried m) a e

pub heard_none : {A : Type 0} (carried : Message → Option A) (a : A) → heard carried [] ≡ Some a → ⊥
unfolding heard
heard_none carried a e = none_some e

pub heard_either : {A : Type 0} (carried : Message → Option A) (m : Message) (h : History) (a : A) → heard carried (m ∷ h) ≡ Some a →
    (heard carried h ≡ Some a) ⊎ (carried m ≡ Some a)
unfolding heard
heard_either carried m h a e = first_either (heard carried h) (carried m) a e

pub kept_is : (S : Setting) (j : ℕ) (h : History) (p : Parcel) → kept S j h ≡ Some p → (heard sent h ≡ Some p) × (fits S j p.0 p.1 ≡ true)
unfolding kept
kept_is S j h p e = passing_some (λ p. fits S j p.0 p.1) (heard sent h) p e

pub kept_from : (S : Setting) (j : ℕ) (h : History) (p : Parcel) → heard sent h ≡ Some p → fits S j p.0 p.1 ≡ true → kept S j h ≡ Some p
unfolding kept
kept_from S j h p e k = passing-from (λ p. fits S j p.0 p.1) (heard sent h) p e k

pub kept_keep : (S : Setting) (j : ℕ) (m : Message) (h : History) (p : Parcel) → kept S j h ≡ Some p → kept S j (m ∷ h) ≡ Some p
kept_keep S j m h p e = let k = kept_is S j h p e in kept_from S j (m ∷ h) p (heard_keep sent m h p k.0) k.1

pub ready_keep : (S : Setting) (m : Message) (h : History) (v : Bytes) → ready_vector S h ≡ Some v → ready_vector S (m ∷ h) ≡ Some v
unfolding ready_vector
ready_keep S m h v e = first_left (ready_vector S h) _ v e

pub completed_keep : (S : Setting) (m : Message) (h : History) (v : Bytes) → completed S h ≡ Some v → completed S (m ∷ h) ≡ Some v
unfolding completed
completed_keep S m h v e = first_left (completed S h) _ v e

module _ (S : Setting) (carried : Message → Option Bytes) (v : Bytes) where
  pub votes_keep : (m : Message) (h : History) → votes S carried v h ≤ votes S carried v (m ∷ h)
  votes_keep m h =
      count_le (voted carried v h) (voted carried v (m ∷ h)) (boards S)
      (λ i p q e. heard_vote _ v (heard_keep (from i carried) m h v (vote_heard _ v e)))

  pub votes_none : votes S carried v [] ≡ 0
  unfolding heard
  votes_none = count_none (voted carried v []) (boards S) (λ i p q. refl)

  newly : (m : Message) (h : History) (i : ℕ) (o : Option Bytes) → heard (from i carried) h ≡ o → first o (from i carried m) ≡ Some v →
      (heard (from i carried) h ≡ Some v) ⊎ (news carried m h ≡ Some v)
  newly m h i (Some a) p e = inl (p ∙ e)
  newly m h i None p e =
      let f = from_some i carried m v e in
      let silent : heard (from (sender m) carried) h ≡ None = ap (λ n. heard (from n carried) h) (sym f.0) ∙ p in
      inr (rw silent f.1)

  -- A number of votes that is reached by a message is reached by news of v, or was reached before.
  pub votes_reached : (k : ℕ) (m : Message) (h : History) → k ≤ votes S carried v (m ∷ h) → (news carried m h ≡ Some v) ⊎ (k ≤ votes S carried v h)
  unfolding heard
  votes_reached k m h many = elim (cases_Bool (meets (λ w. bytes_eq w v) (news carried m h))) [
    | inl new ↦ inl (vote_heard _ v new)
    | inr old ↦
        let fewer : votes S carried v (m ∷ h) ≤ votes S carried v h =
        count_le (voted carried v (m ∷ h)) (voted carried v h) (boards S)
        (λ i p q e.
        elim (newly m h i (heard (from i carried) h) refl (vote_heard _ v e)) [
          | inl x ↦ heard_vote _ v x
          | inr x ↦ absurd (both_ways (meets (λ w. bytes_eq w v) (news carried m h)) old (heard_vote _ v x))
        ]) in
        inr (omega arith)
  ]

-- A board that has completed heard a quorum of READYs,
pub completed-votes : (S : Setting) (h : History) (v : Bytes) → completed S h ≡ Some v → quorum S ≤ votes S readied v h
unfolding completed
completed-votes S [] v e = absurd (none_some e)
completed-votes S (m ∷ h) v e =
    let enough : Bytes → Bool = λ v. leb (quorum S) (votes S readied v (m ∷ h)) in
    elim (first_either (completed S h) (passing enough (news readied m h)) v e) [
      | inl x ↦ omega (arith, completed-votes S h v x, votes_keep S readied v m h)
      | inr x ↦ leb-true _ _ (passing_some enough (news readied m h) v x).1
    ]

-- and one that has heard a quorum of them has completed.
pub completed_reached : (S : Setting) (h : History) (v : Bytes) → quorum S ≤ votes S readied v h → Was (completed S h)
unfolding completed
completed_reached S [] v many = absurd (omega (arith, votes_none S readied v))
completed_reached S (m ∷ h) v many =
    let enough : Bytes → Bool = λ v. leb (quorum S) (votes S readied v (m ∷ h)) in
    let now : Option Bytes = passing enough (news readied m h) in
    elim (votes_reached S readied v (quorum S) m h many) [
      | inl x ↦ first_some (completed S h) now (v, passing-from enough (news readied m h) v x (le-leb _ _ many))
      | inr x ↦ first_was (completed S h) now (completed_reached S h v x)
    ]

-- Why a board issues READY of v.
abbrev pub Reason : Setting → Bytes → History → Type 0
Reason S v h = (quorum S ≤ votes S echoed v h) ⊎ (support S ≤ votes S readied v h)

module _ (S : Setting) (m : Message) (h : History) where
  abbrev by_echoes : Option Bytes
  by_echoes = passing (λ v. leb (quorum S) (votes S echoed v (m ∷ h))) (news echoed m h)

  abbrev by_readies : Option Bytes
  by_readies = passing (λ v. leb (support S) (votes S readied v (m ∷ h))) (news readied m h)

  pub ready_reason : (v : Bytes) → ready_vector S (m ∷ h) ≡ Some v → (ready_vector S h ≡ Some v) ⊎ Reason S v (m ∷ h)
  unfolding ready_vector
  ready_reason v e = elim (first_either (ready_vector S h) (first by_echoes by_readies) v e) [
    | inl x ↦ inl x
    | inr x ↦ elim (first_either by_echoes by_readies v x) [
      | inl y ↦ inr (inl (leb-true _ _ (passing_some (λ v. leb (quorum S) (votes S echoed v (m ∷ h))) (news echoed m h) v y).1))
      | inr y ↦ inr (inr (leb-true _ _ (passing_some (λ v. leb (support S) (votes S readied v (m ∷ h))) (news readied m h) v y).1))
    ]
  ]

pub ready_none : (S : Setting) (v : Bytes) → ready_vector S [] ≡ Some v → ⊥
unfolding ready_vector
ready_none S v e = none_some e

pub ready_reached : (S : Setting) (h : History) (v : Bytes) → Reason S v h → Was (ready_vector S h)
unfolding ready_vector
ready_reached S [] v (inl many) = absurd (omega (arith, votes_none S echoed v))
ready_reached S [] v (inr many) = absurd (omega (arith, votes_none S readied v))
ready_reached S (m ∷ h) v (inl many) =
    let before : Option Bytes = ready_vector S h in
    let now : Option Bytes = first (by_echoes S m h) (by_readies S m h) in
    elim (votes_reached S echoed v (quorum S) m h many) [
      | inl x ↦ first_some before now (first_was (by_echoes S m h) (by_readies S m h) (v, passing-from _ (news echoed m h) v x (le-leb _ _ many)))
      | inr x ↦ first_was before now (ready_reached S h v (inl x))
    ]
ready_reached S (m ∷ h) v (inr many) =
    let before : Option Bytes = ready_vector S h in
    let now : Option Bytes = first (by_echoes S m h) (by_readies S m h) in
    elim (votes_reached S readied v (support S) m h many) [
      | inl x ↦ first_some before now (first_some (by_echoes S m h) (by_readies S m h) (v, passing-from _ (news readied m h) v x (le-leb _ _ many)))
      | inr x ↦ first_was before now (ready_reached S h v (inr x))
    ]

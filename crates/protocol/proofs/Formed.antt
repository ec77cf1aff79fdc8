-- What is delivered has the form of its kind, and so has what boards keep, issue and complete with.
use Rattle.std.proofs.Common.{◌≡◌, ℕ, ◌≤◌, true, [], ◌∷◌, Some, Option, sym, refl, ap, ◌∙◌, subst, inl, inr, arith}
use Rattle.std.specs.List.{AllByRecursion}
use Rattle.std.proofs.lemmas.Bool.{and_parts, and_from}
use Rattle.protocol.specs.Messages.{Bytes, Message, send, echo, ready, hash, symbol, kind, sender, sent, echoed, readied}
use Rattle.protocol.specs.Setting.{Setting, Laws, boards, formed}
use Rattle.protocol.specs.Board.{History, from, heard, voted, votes, kept, ready_vector}
use Rattle.protocol.specs.Board as board
use Rattle.protocol.specs.Log.{delivered, Log, inbox, completed, due, Goes, Allowed, Valid}
use Rattle.protocol.proofs.Counting.{count_some}
use Rattle.protocol.proofs.Heard.{vote_heard, heard_none, heard_either, from_some, kept_is, completed-votes, ready_none, ready_reason}
use Rattle.protocol.proofs.Delivered.{inbox_cases, inbox_none, design-block, sent_is, echoed_is, readied_is, send-due, echo-due, ready-due, hash-due, symbol-due}

-- All messages of a history have the form of their kinds.
abbrev pub Clean : Setting → History → Type 0
Clean S = AllByRecursion (λ m. formed S m ≡ true)

-- What was heard came in such a message.
pub heard-formed : {A : Type 0} (S : Setting) (carried : Message → Option A) (h : History) (a : A) → Clean S h → heard carried h ≡ Some a →
    (m : Message) × (carried m ≡ Some a) × (formed S m ≡ true)
heard-formed S carried [] a clean e = absurd (heard_none carried a e)
heard-formed S carried (m ∷ h) a clean e = elim (heard_either carried m h a e) [
  | inl x ↦ heard-formed S carried h a clean.1 x
  | inr x ↦ (m, x, clean.0)
]

module _ (S : Setting) (h : History) (clean : Clean S h) where
  -- Votes are for vectors.
  voted-vector : (make : ℕ → Bytes → Message) (carried : Message → Option Bytes) → ((m : Message) (v : Bytes) → carried m ≡ Some v → m ≡ make (sender m) v) →
      ((i : ℕ) (v : Bytes) → formed S (make i v) ≡ S.is_vector v) → (v : Bytes) → 1 ≤ votes S carried v h → S.is_vector v ≡ true
  voted-vector make carried is form v some =
      let r = count_some (voted carried v h) (boards S) some in
      let f = heard-formed S (from r.0 carried) h v clean (vote_heard _ v r.3) in
      let m : Message = f.0 in
      sym (form (sender m) v) ∙ ap (formed S) (sym (is m v (from_some r.0 carried m v f.1).1)) ∙ f.2

  pub kept-formed : (j : ℕ) (v x : Bytes) → kept S j h ≡ Some (v, x) → (S.is_vector v ≡ true) × (S.is_fragment x ≡ true)
  kept-formed j v x e =
      let f = heard-formed S sent h (v, x) clean (kept_is S j h (v, x) e).0 in
      and_parts (S.is_vector v) (S.is_fragment x) (ap (formed S) (sym (sent_is f.0 v x f.1)) ∙ f.2)

  pub completed-formed : (v : Bytes) → board.completed S h ≡ Some v → S.is_vector v ≡ true
  completed-formed v e = voted-vector ready readied readied_is (λ i v. refl) v (omega (arith, completed-votes S h v e))

pub ready-formed : (S : Setting) (h : History) → Clean S h → (v : Bytes) → ready_vector S h ≡ Some v → S.is_vector v ≡ true
ready-formed S [] clean v e = absurd (ready_none S v e)
ready-formed S (m ∷ h) clean v e = elim (ready_reason S m h v e) [
  | inl x ↦ ready-formed S h clean.1 v x
  | inr (inl x) ↦ voted-vector S (m ∷ h) clean echo echoed echoed_is (λ i v. refl) v (omega arith)
  | inr (inr x) ↦ voted-vector S (m ∷ h) clean ready readied readied_is (λ i v. refl) v (omega arith)
]

module _ (S : Setting) (laws : Laws S) where
  pub due-formed : (log : Log) → Valid S log → ((r : ℕ) → Clean S (inbox r log)) → (r : ℕ) (m : Message) → Goes S (kind m) (sender m) r →
      due S log (kind m) (sender m) r ≡ Some m → formed S m ≡ true
  due-formed log ok clean r (send v x) goes h =
      let a = send-due S log r v x h in
      let b = design-block S log a.0 ok a.1 in
      and_from (S.is_vector v) (S.is_fragment x) (ap S.is_vector a.2 ∙ laws.block_vector a.0 b) (ap S.is_fragment a.3 ∙ laws.block_fragment a.0 b r goes.1)
  due-formed log ok clean r (echo i v) goes h = let a = echo-due S log r i v h in (kept-formed S (inbox i log) (clean i) i v a.0 a.1).0
  due-formed log ok clean r (ready i v) goes h = ready-formed S (inbox i log) (clean i) v (ready-due S log r i v h)
  due-formed log ok clean r (hash i s) goes h =
      let a = hash-due S log r i s h in
      ap S.is_share a.2 ∙ laws.vector_share a.0 (completed-formed S (inbox i log) (clean i) a.0 a.1) i goes.0
  due-formed log ok clean r (symbol i x) goes h = let a = symbol-due S log r i x h in (kept-formed S (inbox i log) (clean i) i a.0 x a.2).1

  allowed_formed : (log : Log) → Valid S log → ((r : ℕ) → Clean S (inbox r log)) → (r : ℕ) (m : Message) → Allowed S log (delivered r m) → formed S m ≡ true
  allowed_formed log ok clean r m a = elim a.2 [ inl y ↦ y.1 | inr y ↦ due-formed log ok clean r m a.0 y ]

  -- Every history is clean.
  pub inbox_clean : (log : Log) → Valid S log → (r : ℕ) → Clean S (inbox r log)
  inbox_clean [] ok r = subst (Clean S) (sym (inbox_none r)) tt
  inbox_clean (e ∷ log) ok r =
      let before : (q : ℕ) → Clean S (inbox q log) = inbox_clean log ok.1 in
      elim (inbox_cases r e log) [
        | inl x ↦ subst (Clean S) (sym x) (before r)
        | inr x ↦ subst (Clean S) (sym x.2) (allowed_formed log ok.1 before r x.0 (subst (λ z. Allowed S log z) x.1 ok.0), before r)
      ]

  pub completed-vector : (log : Log) → Valid S log → (j : ℕ) (v : Bytes) → completed S log j ≡ Some v → S.is_vector v ≡ true
  completed-vector log ok j v h = completed-formed S (inbox j log) (inbox_clean log ok j) v h

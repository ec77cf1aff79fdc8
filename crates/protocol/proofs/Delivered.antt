-- What stays as a log grows, and where what was delivered came from.
use Rattle.std.proofs.Common.{◌≡◌, ℕ, Bool, true, false, cond, eqb, ◌⊎◌, [], ◌∷◌, Some, Option, sym, refl, ap, ◌∙◌, subst, inl, inr}
use Rattle.std.specs.Str.{bytes_eq}
use Rattle.std.proofs.lemmas.Bool.{eqb-true, or_right}
use Rattle.kind.specs.declared.Kind.{Kind}
use Rattle.kind.specs.declared.Kind.TheVariants.{Send, Echo, Ready, Hash, Symbol}
use Rattle.protocol.specs.Optional.{passing, meets}
use Rattle.protocol.specs.Messages.{Bytes, Parcel, Message, send, echo, ready, hash, symbol, kind, sender, sent, echoed, readied, hashed, symboled}
use Rattle.protocol.specs.Setting.{Setting, formed}
use Rattle.protocol.specs.Board.{History, from, heard, kept, ready_vector}
use Rattle.protocol.specs.Board as board
use Rattle.protocol.specs.Log.{Event, turned, dealt, started, delivered, Log, inbox, turns, is_turned, deals, design, completed, due, Goes, is_open, Allowed, Valid}
use Rattle.protocol.proofs.Optional.{none_some, some_inj, first_left, first_either, passing_some, passing-from, meets_true, meets-from, mapped_some, mapped_from, same_eq, eq_same}
use Rattle.protocol.proofs.Heard.{heard_none, heard_either, from_some, kept_keep, ready_keep, completed_keep}

-- An event leaves a history as it was, or adds the message that it delivers.
pub inbox_cases : (r : ℕ) (e : Event) (log : Log) →
    (inbox r (e ∷ log) ≡ inbox r log) ⊎ ((m : Message) × (e ≡ delivered r m) × (inbox r (e ∷ log) ≡ m ∷ inbox r log))
unfolding inbox
inbox_cases r (turned p) log = inl refl
inbox_cases r (dealt d) log = inl refl
inbox_cases r (started f) log = inl refl
inbox_cases r (delivered q m) log = go (eqb r q) refl
  where
    go : (b : Bool) → eqb r q ≡ b →
        (cond (eqb r q) (m ∷ inbox r log) (inbox r log) ≡ inbox r log)
        ⊎ ((n : Message) × (delivered q m ≡ delivered r n) × (cond (eqb r q) (m ∷ inbox r log) (inbox r log) ≡ n ∷ inbox r log))
    go true e = inr (m, ap (λ x. delivered x m) (sym (eqb-true r q e)), rw e)
    go false e = inl (rw e)

pub inbox_none : (r : ℕ) → inbox r [] ≡ []
unfolding inbox
inbox_none r = refl

-- What messages keep in a history, events keep.
pub keeps : (P : History → Type 0) → ((m : Message) (h : History) → P h → P (m ∷ h)) → (r : ℕ) (e : Event) (log : Log) → P (inbox r log) → P (inbox r (e ∷ log))
keeps P keep r e log p = elim (inbox_cases r e log) [
  | inl x ↦ subst P (sym x) p
  | inr x ↦ subst P (sym x.2) (keep x.0 (inbox r log) p)
]

pub turned_keep : (e : Event) (log : Log) (p : ℕ) → is_turned log p ≡ true → is_turned (e ∷ log) p ≡ true
unfolding is_turned
turned_keep e log p h = or_right (turns p e) (is_turned log p) h

pub design_keep : (e : Event) (log : Log) (d : Bytes) → design log ≡ Some d → design (e ∷ log) ≡ Some d
unfolding design
design_keep e log d h = first_left (design log) (deals e) d h

pub design-block : (S : Setting) (log : Log) (d : Bytes) → Valid S log → design log ≡ Some d → S.is_block d ≡ true
unfolding design
design-block S [] d ok h = absurd (none_some h)
design-block S (e ∷ log) d ok h = elim (first_either (design log) (deals e) d h) [
  | inl x ↦ design-block S log d ok.1 x
  | inr x ↦ dealt-block e ok.0 x
]
  where
    dealt-block : (e : Event) → Allowed S log e → deals e ≡ Some d → S.is_block d ≡ true
    dealt-block (turned p) a x = absurd (none_some x)
    dealt-block (dealt b) a x = ap S.is_block (sym (some_inj x)) ∙ a.0
    dealt-block (started f) a x = absurd (none_some x)
    dealt-block (delivered r m) a x = absurd (none_some x)

-- What each message that is due says of its sender, and the other way round.
module _ (S : Setting) (log : Log) where
  pub send-due : (r : ℕ) (v x : Bytes) → due S log Send 0 r ≡ Some (send v x) → (d : Bytes) × (design log ≡ Some d) × (v ≡ S.vector d) × (x ≡ S.fragment d r)
  send-due r v x h =
      let a = mapped_some (λ d. send (S.vector d) (S.fragment d r)) (design log) (send v x) h in
      let e = a.2 in (a.0, a.1, cc, cc)

  pub echo-due : (r i : ℕ) (v : Bytes) → due S log Echo i r ≡ Some (echo i v) → (x : Bytes) × (kept S i (inbox i log) ≡ Some (v, x))
  echo-due r i v h =
      let a = mapped_some (λ (p : Parcel). echo i p.0) (kept S i (inbox i log)) (echo i v) h in
      let e : a.0.0 ≡ v = let same = a.2 in cc in
      (a.0.1, a.1 ∙ ap (λ w. Some (w, a.0.1)) e)

  pub ready-due : (r i : ℕ) (v : Bytes) → due S log Ready i r ≡ Some (ready i v) → ready_vector S (inbox i log) ≡ Some v
  ready-due r i v h =
      let a = mapped_some (ready i) (ready_vector S (inbox i log)) (ready i v) h in
      let e : a.0 ≡ v = let same = a.2 in cc in
      a.1 ∙ ap Some e

  pub hash-due : (r i : ℕ) (s : Bytes) → due S log Hash i r ≡ Some (hash i s) → (v : Bytes) × (completed S log i ≡ Some v) × (s ≡ S.share v i)
  hash-due r i s h =
      let a = mapped_some (λ v. hash i (S.share v i)) (completed S log i) (hash i s) h in
      let e = a.2 in (a.0, a.1, cc)

  abbrev served : ℕ → Parcel → Bool
  served i p = meets (bytes_eq p.0) (completed S log i)

  pub symbol-due : (r i : ℕ) (x : Bytes) → due S log Symbol i r ≡ Some (symbol i x) →
      (v : Bytes) × (completed S log i ≡ Some v) × (kept S i (inbox i log) ≡ Some (v, x))
  symbol-due r i x h =
      let a = mapped_some (λ (p : Parcel). symbol i p.1) (passing (served i) (kept S i (inbox i log))) (symbol i x) h in
      let k = passing_some (served i) (kept S i (inbox i log)) a.0 a.1 in
      let m = meets_true (bytes_eq a.0.0) (completed S log i) k.1 in
      let v : a.0.0 ≡ m.0 = same_eq a.0.0 m.0 m.2 in
      let e : a.0.1 ≡ x = let same = a.2 in cc in
      (a.0.0, m.1 ∙ ap Some (sym v), k.0 ∙ ap (λ y. Some (a.0.0, y)) e)

  pub due-send : (r : ℕ) (d : Bytes) → design log ≡ Some d → due S log Send 0 r ≡ Some (send (S.vector d) (S.fragment d r))
  due-send r d h = mapped_from (λ d. send (S.vector d) (S.fragment d r)) (design log) d h

  pub due-echo : (r i : ℕ) (v x : Bytes) → kept S i (inbox i log) ≡ Some (v, x) → due S log Echo i r ≡ Some (echo i v)
  due-echo r i v x h = mapped_from (λ (p : Parcel). echo i p.0) (kept S i (inbox i log)) (v, x) h

  pub due-ready : (r i : ℕ) (v : Bytes) → ready_vector S (inbox i log) ≡ Some v → due S log Ready i r ≡ Some (ready i v)
  due-ready r i v h = mapped_from (ready i) (ready_vector S (inbox i log)) v h

  pub due-hash : (r i : ℕ) (v : Bytes) → completed S log i ≡ Some v → due S log Hash i r ≡ Some (hash i (S.share v i))
  due-hash r i v h = mapped_from (λ v. hash i (S.share v i)) (completed S log i) v h

  pub due-symbol : (r i : ℕ) (v x : Bytes) → completed S log i ≡ Some v → kept S i (inbox i log) ≡ Some (v, x) → due S log Symbol i r ≡ Some (symbol i x)
  due-symbol r i v x h k =
      mapped_from (λ (p : Parcel). symbol i p.1) (passing (served i) (kept S i (inbox i log))) (v, x)
      (passing-from (served i) (kept S i (inbox i log)) (v, x) k (meets-from (bytes_eq v) (completed S log i) v h (eq_same v v refl)))

pub completes_keep : (S : Setting) (e : Event) (log : Log) (j : ℕ) (v : Bytes) → completed S log j ≡ Some v → completed S (e ∷ log) j ≡ Some v
completes_keep S e log j v h = keeps (λ x. board.completed S x ≡ Some v) (λ m x. completed_keep S m x v) j e log h

-- What is due stays due.
pub due_keep : (S : Setting) (e : Event) (log : Log) (r : ℕ) (m : Message) → due S log (kind m) (sender m) r ≡ Some m → due S (e ∷ log) (kind m) (sender m) r ≡ Some m
due_keep S e log r (send v x) h =
    let a = send-due S log r v x h in
    due-send S (e ∷ log) r a.0 (design_keep e log a.0 a.1) ∙ (λ k. Some (send (sym a.2 k) (sym a.3 k)))
due_keep S e log r (echo i v) h =
    let a = echo-due S log r i v h in
    due-echo S (e ∷ log) r i v a.0 (keeps (λ x. kept S i x ≡ Some (v, a.0)) (λ m x. kept_keep S i m x (v, a.0)) i e log a.1)
due_keep S e log r (ready i v) h =
    due-ready S (e ∷ log) r i v (keeps (λ x. ready_vector S x ≡ Some v) (λ m x. ready_keep S m x v) i e log (ready-due S log r i v h))
due_keep S e log r (hash i s) h =
    let a = hash-due S log r i s h in
    due-hash S (e ∷ log) r i a.0 (completes_keep S e log i a.0 a.1) ∙ ap (λ y. Some (hash i y)) (sym a.2)
due_keep S e log r (symbol i x) h =
    let a = symbol-due S log r i x h in
    due-symbol S (e ∷ log) r i a.0 x (completes_keep S e log i a.0 a.1)
    (keeps (λ y. kept S i y ≡ Some (a.0, x)) (λ m y. kept_keep S i m y (a.0, x)) i e log a.2)

-- A message that was delivered was forged, in the form of its kind, or issued.
abbrev pub Came : Setting → Log → ℕ → Message → Type 0
Came S log r m = ((is_turned log (sender m) ≡ true) × (formed S m ≡ true)) ⊎ (due S log (kind m) (sender m) r ≡ Some m)

came_keep : (S : Setting) (e : Event) (log : Log) (r : ℕ) (m : Message) → Came S log r m → Came S (e ∷ log) r m
came_keep S e log r m (inl h) = inl (turned_keep e log (sender m) h.0, h.1)
came_keep S e log r m (inr h) = inr (due_keep S e log r m h)

-- What was heard, with the message that brought it.
abbrev pub Source : {A : Type 0} → Setting → Log → (Message → Option A) → ℕ → A → Type 0
Source S log carried r a = (m : Message) × (carried m ≡ Some a) × Goes S (kind m) (sender m) r × Came S log r m

-- Before the newest event.
source_step : {A : Type 0} (S : Setting) (carried : Message → Option A) (r : ℕ) (e : Event) (log : Log) (a : A) → Allowed S log e →
    (heard carried (inbox r log) ≡ Some a → Source S log carried r a) → heard carried (inbox r (e ∷ log)) ≡ Some a → Source S log carried r a
source_step S carried r e log a ok ih h = elim (inbox_cases r e log) [
  | inl x ↦ ih (ap (heard carried) (sym x) ∙ h)
  | inr x ↦ elim (heard_either carried x.0 (inbox r log) a (ap (heard carried) (sym x.2) ∙ h)) [
    | inl y ↦ ih y
    | inr y ↦ let b : Allowed S log (delivered r x.0) = subst (λ z. Allowed S log z) x.1 ok in (x.0, y, b.0, b.2)
  ]
]

pub heard_source : {A : Type 0} (S : Setting) (carried : Message → Option A) (r : ℕ) (log : Log) (a : A) → Valid S log → heard carried (inbox r log) ≡ Some a →
    Source S log carried r a
heard_source S carried r [] a ok h = absurd (heard_none carried a (ap (heard carried) (sym (inbox_none r)) ∙ h))
heard_source S carried r (e ∷ log) a ok h =
    let f = source_step S carried r e log a ok.0 (heard_source S carried r log a ok.1) h in
    (f.0, f.1, f.2, came_keep S e log r f.0 f.3)

pub heard_source_before : {A : Type 0} (S : Setting) (carried : Message → Option A) (r : ℕ) (e : Event) (log : Log) (a : A) → Valid S (e ∷ log) →
    heard carried (inbox r (e ∷ log)) ≡ Some a → Source S log carried r a
heard_source_before S carried r e log a ok h = source_step S carried r e log a ok.0 (heard_source S carried r log a ok.1) h

-- Which message carries what was heard.
pub sent_is : (m : Message) (v x : Bytes) → sent m ≡ Some (v, x) → m ≡ send v x
sent_is (send w y) v x e = let p = some_inj e in λ i. send (p i).0 (p i).1
sent_is (echo i w) v x e = absurd (none_some e)
sent_is (ready i w) v x e = absurd (none_some e)
sent_is (hash i s) v x e = absurd (none_some e)
sent_is (symbol i y) v x e = absurd (none_some e)

pub echoed_is : (m : Message) (v : Bytes) → echoed m ≡ Some v → m ≡ echo (sender m) v
echoed_is (send w y) v e = absurd (none_some e)
echoed_is (echo i w) v e = ap (echo i) (some_inj e)
echoed_is (ready i w) v e = absurd (none_some e)
echoed_is (hash i s) v e = absurd (none_some e)
echoed_is (symbol i y) v e = absurd (none_some e)

pub readied_is : (m : Message) (v : Bytes) → readied m ≡ Some v → m ≡ ready (sender m) v
readied_is (send w y) v e = absurd (none_some e)
readied_is (echo i w) v e = absurd (none_some e)
readied_is (ready i w) v e = ap (ready i) (some_inj e)
readied_is (hash i s) v e = absurd (none_some e)
readied_is (symbol i y) v e = absurd (none_some e)

pub hashed_is : (m : Message) (s : Bytes) → hashed m ≡ Some s → m ≡ hash (sender m) s
hashed_is (send w y) s e = absurd (none_some e)
hashed_is (echo i w) s e = absurd (none_some e)
hashed_is (ready i w) s e = absurd (none_some e)
hashed_is (hash i r) s e = ap (hash i) (some_inj e)
hashed_is (symbol i y) s e = absurd (none_some e)

pub symboled_is : (m : Message) (x : Bytes) → symboled m ≡ Some x → m ≡ symbol (sender m) x
symboled_is (send w y) x e = absurd (none_some e)
symboled_is (echo i w) x e = absurd (none_some e)
symboled_is (ready i w) x e = absurd (none_some e)
symboled_is (hash i r) x e = absurd (none_some e)
symboled_is (symbol i y) x e = ap (symbol i) (some_inj e)

module _ (S : Setting) (log : Log) where
  -- What was heard from the sender i came as the message that carries it.
  pub came_from : (make : ℕ → Bytes → Message) (carried : Message → Option Bytes) → ((m : Message) (v : Bytes) → carried m ≡ Some v → m ≡ make (sender m) v) →
      (r i : ℕ) (v : Bytes) → Source S log (from i carried) r v → Goes S (kind (make i v)) (sender (make i v)) r × Came S log r (make i v)
  came_from make carried is r i v f =
      let p = from_some i carried f.0 v f.1 in
      let e : f.0 ≡ make i v = is f.0 v p.1 ∙ ap (λ n. make n v) (sym p.0) in
      subst (λ x. Goes S (kind x) (sender x) r × Came S log r x) e (f.2, f.3)

  pub send_came : Valid S log → (r : ℕ) (v x : Bytes) → heard sent (inbox r log) ≡ Some (v, x) → Came S log r (send v x)
  send_came ok r v x h =
      let f = heard_source S sent r log (v, x) ok h in
      subst (λ y. Came S log r y) (sent_is f.0 v x f.1) f.3

-- A message that is due is of its kind and sender, so that it may be delivered where its kind goes.
due_is : (S : Setting) (log : Log) (k : Kind) (i r : ℕ) (m : Message) → Goes S k i r → due S log k i r ≡ Some m → (kind m ≡ k) × (sender m ≡ i)
due_is S log Send i r m goes h =
    let a = mapped_some (λ d. send (S.vector d) (S.fragment d r)) (design log) m h in
    (ap kind (sym a.2), ap sender (sym a.2) ∙ sym goes.0)
due_is S log Echo i r m goes h =
    let a = mapped_some (λ (p : Parcel). echo i p.0) (kept S i (inbox i log)) m h in
    (ap kind (sym a.2), ap sender (sym a.2))
due_is S log Ready i r m goes h =
    let a = mapped_some (ready i) (ready_vector S (inbox i log)) m h in
    (ap kind (sym a.2), ap sender (sym a.2))
due_is S log Hash i r m goes h =
    let a = mapped_some (λ v. hash i (S.share v i)) (completed S log i) m h in
    (ap kind (sym a.2), ap sender (sym a.2))
due_is S log Symbol i r m goes h =
    let a = mapped_some (λ (p : Parcel). symbol i p.1) (passing (served S log i) (kept S i (inbox i log))) m h in
    (ap kind (sym a.2), ap sender (sym a.2))

pub due_allowed : (S : Setting) (log : Log) (k : Kind) (i r : ℕ) (m : Message) → Goes S k i r → is_open S log r ≡ true → due S log k i r ≡ Some m →
    Allowed S log (delivered r m)
due_allowed S log k i r m goes opens h =
    let e = due_is S log k i r m goes h in (
      subst (λ n. Goes S (kind m) n r) (sym e.1) (subst (λ k. Goes S k i r) (sym e.0) goes),
      opens,
      inr (subst (λ n. due S log (kind m) n r ≡ Some m) (sym e.1) (subst (λ k. due S log k i r ≡ Some m) (sym e.0) h)),
    )

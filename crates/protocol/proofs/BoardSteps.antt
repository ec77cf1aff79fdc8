-- A board as a machine does what its history says.
use Rattle.std.proofs.Common.{◌≡◌, ℕ, ◌+◌, Bool, true, false, cond, not, eqb, leb, [], ◌∷◌, Some, None, Option, sym, refl, ap, ◌∙◌, ap₂, inl, inr, arith}
use Rattle.std.proofs.lemmas.Bool.{cases_eq, cases_Bool, ne_eqb, cond-true, cond-false, not_from_true, not_from_false}
use Rattle.protocol.specs.Optional.{first, only, passing, missing}
use Rattle.protocol.specs.Messages.{Bytes, Parcel, Message, send, echo, ready, hash, symbol, sender, sent, echoed, readied}
use Rattle.protocol.specs.Setting.{Setting, quorum, support, fits}
use Rattle.protocol.specs.Board.{History, from, heard, news, votes, gained, answer}
use Rattle.protocol.specs.Board as board
use Rattle.protocol.specs.Machines.{Board, put, tally, latch, latched, new_board, hear_send, hear_echo, hear_ready, board_step, board_after}
use Rattle.protocol.proofs.Optional.{first_none, first_taken, only_none, missing_none}

add_none : {A : Type 0} (o : Option A) (b : Bool) → first o (only b None) ≡ o
add_none o true = first_none o
add_none o false = first_none o

pub gained_same : {A : Type 0} (o : Option A) (n : ℕ) → gained o o n ≡ 0
gained_same (Some a) n = refl
gained_same None n = refl

gained-latched : (o : Option Bytes) (b : Bool) (v : Bytes) (n : ℕ) → gained o (latch o b v) n ≡ latched o b n
gained-latched (Some w) b v n = refl
gained-latched None true v n = refl
gained-latched None false v n = refl

-- What a message that carries nothing, or nothing new, adds to what was heard from each board.
module _ (carried : Message → Option Bytes) (m : Message) (h : History) where
  pub heard_other : carried m ≡ None → (i : ℕ) → heard (from i carried) (m ∷ h) ≡ heard (from i carried) h
  unfolding heard
  heard_other e i = ap (λ o. first (heard (from i carried) h) (only (eqb i (sender m)) o)) e ∙ add_none (heard (from i carried) h) (eqb i (sender m))

  pub heard_again : missing (heard (from (sender m) carried) h) ≡ false → (i : ℕ) → heard (from i carried) (m ∷ h) ≡ heard (from i carried) h
  unfolding heard
  heard_again old i = elim (cases_eq i (sender m)) [
    | inl e ↦ first_taken (heard (from i carried) h) _ (ap (λ n. missing (heard (from n carried) h)) e ∙ old)
    | inr ne ↦ ap (λ b. first (heard (from i carried) h) (only b (carried m))) (ne_eqb i (sender m) ne) ∙ first_none (heard (from i carried) h)
  ]

  pub heard-more : (i : ℕ) → heard (from i carried) (m ∷ h) ≡ first (heard (from i carried) h) (only (eqb i (sender m)) (carried m))
  unfolding heard
  heard-more i = refl

  news_other : carried m ≡ None → news carried m h ≡ None
  news_other e = ap (only (missing (heard (from (sender m) carried) h))) e ∙ only_none (missing (heard (from (sender m) carried) h))

  news_again : missing (heard (from (sender m) carried) h) ≡ false → news carried m h ≡ None
  news_again old = ap (λ b. only b (carried m)) old

  news_new : missing (heard (from (sender m) carried) h) ≡ true → news carried m h ≡ carried m
  news_new new = ap (λ b. only b (carried m)) new

sent-first : (m : Message) (h : History) → heard sent h ≡ None → heard sent (m ∷ h) ≡ sent m
unfolding heard
sent-first m h none = ap (λ o. first o (sent m)) none

-- What news of ECHOs and READYs makes of the vectors of a board.
module _ (S : Setting) (m : Message) (h : History) where
  ready_by : (e r : Option Bytes) → news echoed m h ≡ e → news readied m h ≡ r →
      board.ready_vector S (m ∷ h)
      ≡ first (board.ready_vector S h) (first (passing (λ v. leb (quorum S) (votes S echoed v (m ∷ h))) e) (passing (λ v. leb (support S) (votes S readied v (m ∷ h))) r))
  unfolding board.ready_vector
  ready_by e r p q =
      ap₂ (λ e r. first (board.ready_vector S h) (first (passing (λ v. leb (quorum S) (votes S echoed v (m ∷ h))) e) (passing (λ v. leb (support S) (votes S readied v (m ∷ h))) r))) p q

  completed_by : (r : Option Bytes) → news readied m h ≡ r → board.completed S (m ∷ h) ≡ first (board.completed S h) (passing (λ v. leb (quorum S) (votes S readied v (m ∷ h))) r)
  unfolding board.completed
  completed_by r q = ap (λ r. first (board.completed S h) (passing (λ v. leb (quorum S) (votes S readied v (m ∷ h))) r)) q

  ready_same : news echoed m h ≡ None → news readied m h ≡ None → board.ready_vector S (m ∷ h) ≡ board.ready_vector S h
  ready_same p q = ready_by None None p q ∙ first_none (board.ready_vector S h)

  completed_same : news readied m h ≡ None → board.completed S (m ∷ h) ≡ board.completed S h
  completed_same q = completed_by None q ∙ first_none (board.completed S h)

module _ (S : Setting) (j : ℕ) where
  pub board_new : board_after S j [] ≡ new_board
  unfolding board_after heard board.kept board.ready_vector board.completed
  board_new = refl

  kept_same : (m : Message) (h : History) → heard sent (m ∷ h) ≡ heard sent h → board.kept S j (m ∷ h) ≡ board.kept S j h
  unfolding board.kept
  kept_same m h e = ap (passing (λ (p : Parcel). fits S j p.0 p.1)) e

  kept_send : (v x : Bytes) (h : History) → heard sent (send v x ∷ h) ≡ Some (v, x) → board.kept S j (send v x ∷ h) ≡ only (fits S j v x) (Some (v, x))
  unfolding board.kept
  kept_send v x h e = ap (passing (λ (p : Parcel). fits S j p.0 p.1)) e

  kept_none : (h : History) → heard sent h ≡ None → board.kept S j h ≡ None
  unfolding board.kept
  kept_none h e = ap (passing (λ (p : Parcel). fits S j p.0 p.1)) e

module _ (S : Setting) (j : ℕ) (m : Message) (h : History) where
  -- A message of which a board hears nothing leaves it as it was.
  unchanged : heard sent (m ∷ h) ≡ heard sent h →
      ((i : ℕ) → heard (from i echoed) (m ∷ h) ≡ heard (from i echoed) h) → ((i : ℕ) → heard (from i readied) (m ∷ h) ≡ heard (from i readied) h) →
      news echoed m h ≡ None → news readied m h ≡ None → board_after S j (m ∷ h) ≡ board_after S j h
  unfolding board_after
  unchanged s e r p q = λ k. record {
    sent_heard = not (missing (s k));
    parcel = kept_same S j m h s k;
    echo_of = λ i. e i k;
    ready_of = λ i. r i k;
    ready_vector = ready_same S m h p q k;
    completed = completed_same S m h q k;
  }

  sent_other : sent m ≡ None → heard sent (m ∷ h) ≡ heard sent h
  unfolding heard
  sent_other e = ap (first (heard sent h)) e ∙ first_none (heard sent h)

  sent_again : missing (heard sent h) ≡ false → heard sent (m ∷ h) ≡ heard sent h
  unfolding heard
  sent_again old = first_taken (heard sent h) (sent m) old

  -- The step of a board is what its longer history says.
  abbrev Steps : ℕ × Board → Type 0
  Steps after = after ≡ (answer S j h m, board_after S j (m ∷ h))

  unheard : board.stale m h ≡ true → board_after S j (m ∷ h) ≡ board_after S j h → Steps (0, board_after S j h)
  unfolding answer
  unheard e same = ap₂ (λ a B. (a, B)) (sym (cond-true (board.stale m h) 0 _ e)) (sym same)

  -- The answer to a message that is heard.
  answered : board.stale m h ≡ false → (a b c : ℕ) → gained (board.kept S j h) (board.kept S j (m ∷ h)) 2 ≡ a →
      gained (board.ready_vector S h) (board.ready_vector S (m ∷ h)) 4 ≡ b → gained (board.completed S h) (board.completed S (m ∷ h)) 8 ≡ c → answer S j h m ≡ 1 + a + b + c
  unfolding answer
  answered new a b c p q r = cond-false (board.stale m h) 0 _ new ∙ (λ k. 1 + p k + q k + r k)

gained-kept : (b : Bool) (p : Parcel) → gained None (only b (Some p)) 2 ≡ cond b 2 0
gained-kept true p = refl
gained-kept false p = refl

module _ (S : Setting) (j : ℕ) (h : History) where
  new_send : (v x : Bytes) → missing (heard sent h) ≡ true → Steps S j (send v x) h (hear_send S j (board_after S j h) v x)
  unfolding board_after
  new_send v x new =
      let m : Message = send v x in
      let none : heard sent h ≡ None = missing_none (heard sent h) new in
      let is : heard sent (m ∷ h) ≡ Some (v, x) = sent-first m h none in
      let kept = kept_send S j v x h is in
      let no_echo = news_other echoed m h refl in
      let no_ready = news_other readied m h refl in
      let a : answer S j h m ≡ 1 + cond (fits S j v x) 2 0 + 0 + 0 =
      answered S j m h (not_from_true _ new) (cond (fits S j v x) 2 0) 0 0
      (ap₂ (λ o p. gained o p 2) (kept_none S j h none) kept ∙ gained-kept (fits S j v x) (v, x))
      (ap (λ o. gained (board.ready_vector S h) o 4) (ready_same S m h no_echo no_ready) ∙ gained_same (board.ready_vector S h) 4)
      (ap (λ o. gained (board.completed S h) o 8) (completed_same S m h no_ready) ∙ gained_same (board.completed S h) 8) in
      let b : answer S j h m ≡ 1 + cond (fits S j v x) 2 0 = omega arith in
      sym (λ k. (
        b k,
        record {
          sent_heard = not (missing (is k));
          parcel = kept k;
          echo_of = λ i. heard_other echoed m h refl i k;
          ready_of = λ i. heard_other readied m h refl i k;
          ready_vector = ready_same S m h no_echo no_ready k;
          completed = completed_same S m h no_ready k;
        },
      ))

  new_echo : (i : ℕ) (v : Bytes) → missing (heard (from i echoed) h) ≡ true → Steps S j (echo i v) h (hear_echo S (board_after S j h) i v)
  unfolding board_after
  new_echo i v new =
      let m : Message = echo i v in
      let no_ready = news_other readied m h refl in
      let many : Bool = leb (quorum S) (tally S (put (λ k. heard (from k echoed) h) i v) v) in
      let words : (k : ℕ) → heard (from k echoed) (m ∷ h) ≡ put (λ k. heard (from k echoed) h) i v k = λ k. heard-more echoed m h k in
      let votes_are : leb (quorum S) (votes S echoed v (m ∷ h)) ≡ many = λ k. leb (quorum S) (tally S (λ n. words n k) v) in
      let says : board.ready_vector S (m ∷ h) ≡ latch (board.ready_vector S h) many v =
      ready_by S m h (Some v) None (news_new echoed m h new) no_ready
      ∙ ap (λ b. first (board.ready_vector S h) (first (only b (Some v)) None)) votes_are
      ∙ ap (first (board.ready_vector S h)) (first_none (only many (Some v))) in
      let kept = kept_same S j m h (sent_other S j m h refl) in
      let a : answer S j h m ≡ 1 + 0 + latched (board.ready_vector S h) many 4 + 0 =
      answered S j m h (not_from_true _ new) 0 (latched (board.ready_vector S h) many 4) 0
      (ap (λ o. gained (board.kept S j h) o 2) kept ∙ gained_same (board.kept S j h) 2)
      (ap (λ o. gained (board.ready_vector S h) o 4) says ∙ gained-latched (board.ready_vector S h) many v 4)
      (ap (λ o. gained (board.completed S h) o 8) (completed_same S m h no_ready) ∙ gained_same (board.completed S h) 8) in
      let b : answer S j h m ≡ 1 + latched (board.ready_vector S h) many 4 = omega arith in
      sym (λ k. (
        b k,
        record {
          sent_heard = not (missing (sent_other S j m h refl k));
          parcel = kept k;
          echo_of = λ n. words n k;
          ready_of = λ n. heard_other readied m h refl n k;
          ready_vector = says k;
          completed = completed_same S m h no_ready k;
        },
      ))

  new_ready : (i : ℕ) (v : Bytes) → missing (heard (from i readied) h) ≡ true → Steps S j (ready i v) h (hear_ready S (board_after S j h) i v)
  unfolding board_after
  new_ready i v new =
      let m : Message = ready i v in
      let no_echo = news_other echoed m h refl in
      let news_is : news readied m h ≡ Some v = news_new readied m h new in
      let count_now : ℕ = tally S (put (λ k. heard (from k readied) h) i v) v in
      let words : (k : ℕ) → heard (from k readied) (m ∷ h) ≡ put (λ k. heard (from k readied) h) i v k = λ k. heard-more readied m h k in
      let votes_are : votes S readied v (m ∷ h) ≡ count_now = λ k. tally S (λ n. words n k) v in
      let says : board.ready_vector S (m ∷ h) ≡ latch (board.ready_vector S h) (leb (support S) count_now) v =
      ready_by S m h None (Some v) no_echo news_is ∙ ap (λ n. first (board.ready_vector S h) (only (leb (support S) n) (Some v))) votes_are in
      let done : board.completed S (m ∷ h) ≡ latch (board.completed S h) (leb (quorum S) count_now) v =
      completed_by S m h (Some v) news_is ∙ ap (λ n. first (board.completed S h) (only (leb (quorum S) n) (Some v))) votes_are in
      let kept = kept_same S j m h (sent_other S j m h refl) in
      let four : ℕ = latched (board.ready_vector S h) (leb (support S) count_now) 4 in
      let eight : ℕ = latched (board.completed S h) (leb (quorum S) count_now) 8 in
      let a : answer S j h m ≡ 1 + 0 + four + eight =
      answered S j m h (not_from_true _ new) 0 four eight
      (ap (λ o. gained (board.kept S j h) o 2) kept ∙ gained_same (board.kept S j h) 2)
      (ap (λ o. gained (board.ready_vector S h) o 4) says ∙ gained-latched (board.ready_vector S h) (leb (support S) count_now) v 4)
      (ap (λ o. gained (board.completed S h) o 8) done ∙ gained-latched (board.completed S h) (leb (quorum S) count_now) v 8) in
      let b : answer S j h m ≡ 1 + four + eight = omega arith in
      sym (λ k. (
        b k,
        record {
          sent_heard = not (missing (sent_other S j m h refl k));
          parcel = kept k;
          echo_of = λ n. heard_other echoed m h refl n k;
          ready_of = λ n. words n k;
          ready_vector = says k;
          completed = done k;
        },
      ))

  -- A message that is not heard: one of its kind and sender was, or a board takes none of this kind.
  old_send : (v x : Bytes) → missing (heard sent h) ≡ false → board_after S j (send v x ∷ h) ≡ board_after S j h
  old_send v x old =
      let m : Message = send v x in
      unchanged S j m h (sent_again S j m h old) (heard_other echoed m h refl) (heard_other readied m h refl) (news_other echoed m h refl) (news_other readied m h refl)

  old_echo : (i : ℕ) (v : Bytes) → missing (heard (from i echoed) h) ≡ false → board_after S j (echo i v ∷ h) ≡ board_after S j h
  old_echo i v old =
      let m : Message = echo i v in
      unchanged S j m h (sent_other S j m h refl) (heard_again echoed m h old) (heard_other readied m h refl) (news_again echoed m h old) (news_other readied m h refl)

  old_ready : (i : ℕ) (v : Bytes) → missing (heard (from i readied) h) ≡ false → board_after S j (ready i v ∷ h) ≡ board_after S j h
  old_ready i v old =
      let m : Message = ready i v in
      unchanged S j m h (sent_other S j m h refl) (heard_other echoed m h refl) (heard_again readied m h old) (news_other echoed m h refl) (news_again readied m h old)

  other : (m : Message) → sent m ≡ None → echoed m ≡ None → readied m ≡ None → board_after S j (m ∷ h) ≡ board_after S j h
  other m s e r = unchanged S j m h (sent_other S j m h s) (heard_other echoed m h e) (heard_other readied m h r) (news_other echoed m h e) (news_other readied m h r)

  pub board_steps : (m : Message) → Steps S j m h (board_step S j (board_after S j h) m)
  unfolding board_after
  board_steps (send v x) = elim (cases_Bool (missing (heard sent h))) [
    | inl new ↦ cond-false (not (missing (heard sent h))) _ _ (not_from_true _ new) ∙ new_send v x new
    | inr old ↦ cond-true (not (missing (heard sent h))) _ _ (not_from_false _ old) ∙ unheard S j (send v x) h (not_from_false _ old) (old_send v x old)
  ]
  board_steps (echo i v) = elim (cases_Bool (missing (heard (from i echoed) h))) [
    | inl new ↦ cond-true (missing (heard (from i echoed) h)) _ _ new ∙ new_echo i v new
    | inr old ↦ cond-false (missing (heard (from i echoed) h)) _ _ old ∙ unheard S j (echo i v) h (not_from_false _ old) (old_echo i v old)
  ]
  board_steps (ready i v) = elim (cases_Bool (missing (heard (from i readied) h))) [
    | inl new ↦ cond-true (missing (heard (from i readied) h)) _ _ new ∙ new_ready i v new
    | inr old ↦ cond-false (missing (heard (from i readied) h)) _ _ old ∙ unheard S j (ready i v) h (not_from_false _ old) (old_ready i v old)
  ]
  board_steps (hash i s) = unheard S j (hash i s) h refl (other (hash i s) refl refl refl)
  board_steps (symbol i x) = unheard S j (symbol i x) h refl (other (symbol i x) refl refl refl)

-- A fetcher as a machine does what its history says.
use Rattle.std.proofs.Common.{◌≡◌, ℕ, ◌+◌, ◌≤◌, true, false, cond, not, ◌&&◌, ◌||◌, [], ◌∷◌, Some, None, Option, sym, refl, ap, ◌∙◌, ap₂, inl, inr, arith}
use Rattle.std.specs.Option.{option_map}
use Rattle.std.specs.Str.{bytes_eq}
use Rattle.std.proofs.lemmas.Bool.{cases_Bool, cond-true, cond-false, not_from_true, not_from_false, or_left, or_right, or_from}
use Rattle.protocol.specs.Optional.{first, missing}
use Rattle.protocol.specs.Counting.{count}
use Rattle.protocol.specs.Messages.{Bytes, Message, send, echo, ready, hash, symbol, hashed, symboled}
use Rattle.protocol.specs.Setting.{Setting, Laws, boards, agrees}
use Rattle.protocol.specs.Board.{History, heard, gained}
use Rattle.protocol.specs.Fetcher.{shares, symbols, known, settling, settled, listened, outcome, stale, response, answer}
use Rattle.protocol.specs.Machines.{Fetcher, put, new_fetcher, fetched, fetcher_step, fetcher_after}
use Rattle.protocol.proofs.Optional.{first_left, meets_true, meets-from}
use Rattle.protocol.proofs.Counting.{count_le, count_none}
use Rattle.protocol.proofs.BoardSteps.{heard_other, heard_again, heard-more}

missing_mapped : {A B : Type 0} (f : A → B) (o : Option A) → missing (option_map f o) ≡ missing o
missing_mapped f (Some a) = refl
missing_mapped f None = refl

gained_mapped : {A B : Type 0} (f g : A → B) (o p : Option A) (n : ℕ) → gained (option_map f o) (option_map g p) n ≡ gained o p n
gained_mapped f g o p n = ap₂ (λ a b. cond (a && not b) n 0) (missing_mapped f o) (missing_mapped g p)

first_again : (S : Setting) (o : Option Bytes) (p : Option Bytes) → ((v : Bytes) → o ≡ Some v → p ≡ Some v) → first o p ≡ p
first_again S (Some v) p stays = sym (stays v refl)
first_again S None p stays = refl

-- A vector that is known stays known as shares are added.
known_stays : (S : Setting) → Laws S → (before after : ℕ → Option Bytes) → ((i : ℕ) (s : Bytes) → before i ≡ Some s → after i ≡ Some s) →
    (v : Bytes) → S.find before ≡ Some v → S.find after ≡ Some v
known_stays S laws before after more v h =
    let k = laws.found before v h in
    let grown : count (agrees S before v) (boards S) ≤ count (agrees S after v) (boards S) =
    count_le (agrees S before v) (agrees S after v) (boards S)
    (λ i p q e.
    let m = meets_true (bytes_eq (S.share v i)) (before i) e in
    meets-from (bytes_eq (S.share v i)) (after i) m.0 (more i m.0 m.1) m.2) in
    laws.finds after v (k.0, omega (arith, k.1))

-- What a fetcher holds that has heard g.
abbrev holds : Setting → History → Fetcher
holds S g = record { share_of = shares g; symbol_of = symbols g; known = known S g; ended = option_map (outcome S (symbols g)) (settled S g) }

after_holds : (S : Setting) (h : History) → fetcher_after S h ≡ holds S (listened S h)
unfolding fetcher_after
after_holds S h = refl

holds_same : (S : Setting) (g k : History) → ((i : ℕ) → shares g i ≡ shares k i) → ((i : ℕ) → symbols g i ≡ symbols k i) → holds S g ≡ holds S k
unfolding settled
holds_same S g k p q = λ n. record {
  share_of = λ i. p i n;
  symbol_of = λ i. q i n;
  known = S.find (λ i. p i n);
  ended = option_map (outcome S (λ i. q i n)) (settling S (λ i. q i n) (S.find (λ i. p i n)));
}

module _ (S : Setting) (g : History) (m : Message) where
  -- The step of a fetcher that has heard g, and not ended, is what its longer history says.
  abbrev Steps : ℕ × Fetcher → Type 0
  Steps after = after ≡ (response S g m, holds S (m ∷ g))

  unheard : stale m g ≡ true → ((i : ℕ) → shares (m ∷ g) i ≡ shares g i) → ((i : ℕ) → symbols (m ∷ g) i ≡ symbols g i) → Steps (0, holds S g)
  unheard e p q =
      ap₂ (λ a B. (a, B)) (sym (cond-true (stale m g || not (missing (settled S g))) 0 _ (or_left (stale m g) (not (missing (settled S g))) e))) (sym (holds_same S (m ∷ g) g p q))

  -- New words.
  heard-words : (share_of symbol_of : ℕ → Option Bytes) → stale m g ≡ false → missing (settled S g) ≡ true →
      ((i : ℕ) → shares (m ∷ g) i ≡ share_of i) → ((i : ℕ) → symbols (m ∷ g) i ≡ symbol_of i) →
      first (known S g) (S.find share_of) ≡ S.find share_of → Steps (fetched S (holds S g) share_of symbol_of)
  unfolding settled
  heard-words share_of symbol_of new waiting p q keeps =
      let now : Option Bytes = first (known S g) (S.find share_of) in
      let knows : known S (m ∷ g) ≡ now = (λ n. S.find (λ i. p i n)) ∙ sym keeps in
      let settles : settled S (m ∷ g) ≡ settling S symbol_of now = λ n. settling S (λ i. q i n) (knows n) in
      let a : response S g m ≡ 1 + gained (known S g) now 2 + gained (settled S g) (settling S symbol_of now) 4 =
      cond-false (stale m g || not (missing (settled S g))) 0 _ (or_from (stale m g) (not (missing (settled S g))) new (not_from_true (missing (settled S g)) waiting))
      ∙ ap₂ (λ k s. 1 + gained (known S g) k 2 + gained (settled S g) s 4) knows settles in
      let b = gained_mapped (outcome S (symbols g)) (outcome S symbol_of) (settled S g) (settling S symbol_of now) 4 in
      let answer_is : response S g m ≡ 1 + gained (known S g) now 2 + gained (option_map (outcome S (symbols g)) (settled S g)) (option_map (outcome S symbol_of) (settling S symbol_of now)) 4 =
      a ∙ ap (λ n. 1 + gained (known S g) now 2 + n) (sym b) in
      sym (λ n. (
        answer_is n,
        record {
          share_of = λ i. p i n;
          symbol_of = λ i. q i n;
          known = knows n;
          ended = option_map (outcome S (λ i. q i n)) (settles n);
        },
      ))

module _ (S : Setting) (laws : Laws S) (g : History) (waiting : missing (settled S g) ≡ true) where
  hash_steps : (i : ℕ) (s : Bytes) → Steps S g (hash i s) (cond (missing (shares g i)) (fetched S (holds S g) (put (shares g) i s) (symbols g)) (0, holds S g))
  hash_steps i s = elim (cases_Bool (missing (shares g i))) [
    | inl new ↦
        cond-true (missing (shares g i)) _ _ new
        ∙ heard-words S g (hash i s) (put (shares g) i s) (symbols g) (not_from_true _ new) waiting (heard-more hashed (hash i s) g) (heard_other symboled (hash i s) g refl)
        (first_again S (known S g) _ (known_stays S laws (shares g) (put (shares g) i s) (λ k w e. first_left (shares g k) _ w e)))
    | inr old ↦
        cond-false (missing (shares g i)) _ _ old
        ∙ unheard S g (hash i s) (not_from_false _ old) (heard_again hashed (hash i s) g old) (heard_other symboled (hash i s) g refl)
  ]

  symbol_steps : (i : ℕ) (x : Bytes) → Steps S g (symbol i x) (cond (missing (symbols g i)) (fetched S (holds S g) (shares g) (put (symbols g) i x)) (0, holds S g))
  symbol_steps i x = elim (cases_Bool (missing (symbols g i))) [
    | inl new ↦
        cond-true (missing (symbols g i)) _ _ new
        ∙ heard-words S g (symbol i x) (shares g) (put (symbols g) i x) (not_from_true _ new) waiting (heard_other hashed (symbol i x) g refl) (heard-more symboled (symbol i x) g)
        (first_again S (known S g) _ (λ v e. e))
    | inr old ↦
        cond-false (missing (symbols g i)) _ _ old
        ∙ unheard S g (symbol i x) (not_from_false _ old) (heard_other hashed (symbol i x) g refl) (heard_again symboled (symbol i x) g old)
  ]

  ended_none : missing (option_map (outcome S (symbols g)) (settled S g)) ≡ true
  ended_none = missing_mapped (outcome S (symbols g)) (settled S g) ∙ waiting

  going : (m : Message) → Steps S g m (fetcher_step S (holds S g) m)
  going (send v x) = unheard S g (send v x) refl (heard_other hashed (send v x) g refl) (heard_other symboled (send v x) g refl)
  going (echo i v) = unheard S g (echo i v) refl (heard_other hashed (echo i v) g refl) (heard_other symboled (echo i v) g refl)
  going (ready i v) = unheard S g (ready i v) refl (heard_other hashed (ready i v) g refl) (heard_other symboled (ready i v) g refl)
  going (hash i s) =
      ap (λ b. cond (b && missing (shares g i)) (fetched S (holds S g) (put (shares g) i s) (symbols g)) (0, holds S g)) ended_none ∙ hash_steps i s
  going (symbol i x) =
      ap (λ b. cond (b && missing (symbols g i)) (fetched S (holds S g) (shares g) (put (symbols g) i x)) (0, holds S g)) ended_none ∙ symbol_steps i x

-- A fetcher that has ended does nothing.
over : (S : Setting) (g : History) → missing (settled S g) ≡ false → (m : Message) → fetcher_step S (holds S g) m ≡ (response S g m, holds S g)
over S g done m = stopped m ∙ ap (λ a. (a, holds S g)) (sym (cond-true (stale m g || not (missing (settled S g))) 0 _ (or_right (stale m g) (not (missing (settled S g))) (not_from_false _ done))))
  where
    ended_some : missing (option_map (outcome S (symbols g)) (settled S g)) ≡ false
    ended_some = missing_mapped (outcome S (symbols g)) (settled S g) ∙ done

    stopped : (m : Message) → fetcher_step S (holds S g) m ≡ (0, holds S g)
    stopped (send v x) = refl
    stopped (echo i v) = refl
    stopped (ready i v) = refl
    stopped (hash i s) = ap (λ b. cond (b && missing (shares g i)) (fetched S (holds S g) (put (shares g) i s) (symbols g)) (0, holds S g)) ended_some
    stopped (symbol i x) = ap (λ b. cond (b && missing (symbols g i)) (fetched S (holds S g) (shares g) (put (symbols g) i x)) (0, holds S g)) ended_some

module _ (S : Setting) (h : History) (m : Message) where
  listened-more : missing (settled S (listened S h)) ≡ true → listened S (m ∷ h) ≡ m ∷ listened S h
  unfolding listened
  listened-more e = cond-true (missing (settled S (listened S h))) _ _ e

  listened_same : missing (settled S (listened S h)) ≡ false → listened S (m ∷ h) ≡ listened S h
  unfolding listened
  listened_same e = cond-false (missing (settled S (listened S h))) _ _ e

  pub fetcher_steps : Laws S → fetcher_step S (fetcher_after S h) m ≡ (answer S h m, fetcher_after S (m ∷ h))
  unfolding answer
  fetcher_steps laws =
      let g : History = listened S h in
      ap (λ B. fetcher_step S B m) (after_holds S h)
      ∙ (elim (cases_Bool (missing (settled S g))) [
        | inl waiting ↦ going S laws g waiting m ∙ ap (λ k. (response S g m, holds S k)) (sym (listened-more waiting))
        | inr done ↦ over S g done m ∙ ap (λ k. (response S g m, holds S k)) (sym (listened_same done))
      ])
      ∙ ap (λ B. (response S g m, B)) (sym (after_holds S (m ∷ h)))

-- It begins with nothing: no vector is known by no shares.
pub fetcher_new : (S : Setting) → Laws S → fetcher_after S [] ≡ new_fetcher
unfolding fetcher_after listened heard settled
fetcher_new S laws = λ n. record {
  share_of = λ i. None;
  symbol_of = λ i. None;
  known = unknown n;
  ended = option_map (outcome S (λ i. None)) (settling S (λ i. None) (unknown n));
}
  where
    none : (o : Option Bytes) → S.find (λ i. None) ≡ o → o ≡ None
    none (Some v) e =
        let k = laws.found (λ i. None) v e in
        absurd (omega (arith, k.1, count_none (agrees S (λ i. None) v) (boards S) (λ i p q. refl)))
    none None e = refl

    unknown : S.find (λ i. None) ≡ None
    unknown = none (S.find (λ i. None)) refl

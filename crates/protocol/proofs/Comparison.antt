-- A comparison of two parties that hold something is never unexplained.
use Rattle.std.proofs.Common.{◌≡◌, ℕ, zero, suc, ◌+◌, ◌≤◌, Bool, true, false, cond, not, ◌&&◌, eqb, ◌⊎◌, List, [], ◌∷◌, Some, None, Option, unwrap_or, sym, refl, ap, ◌∙◌, subst, inl, inr, arith}
use Rattle.std.specs.Option.{option_map}
use Rattle.std.specs.List.{ContainsAt as Has, AllByRecursion}
use Rattle.std.specs.Str.{bytes_eq}
use Rattle.std.proofs.ByRecursion.{All-weaker, all-has}
use Rattle.std.proofs.lemmas.Bool.{and_from, and_left, both_ways, cases_Bool, cond-true, cond-false, ne_eqb, not_from_true, not_from_false, false≢true}
use Rattle.protocol.specs.Optional.{first, only, meets}
use Rattle.protocol.specs.Counting.{count}
use Rattle.protocol.specs.Messages.{Bytes, symboled}
use Rattle.protocol.specs.Setting.{Setting, Laws, boards, support, IsBoard, fits, formed, Known}
use Rattle.protocol.specs.Board.{History, from}
use Rattle.protocol.specs.Fetcher.{shares, symbols, fitting, settled, chosen, coefficients, matches, consistent, Ending, block, mark, ending, outcome}
use Rattle.protocol.specs.Log.{Log, inbox, is_turned, design, ended, Valid}
use Rattle.protocol.specs.Comparison.{hears, holding, own, is_sure, used, used_fragment, alike, differ, unexplained, same_holding, judge, first_at, clash, judged, compared}
use Rattle.protocol.specs.Promises.{There, Comparable, Clash, Explained}
use Rattle.protocol.proofs.Optional.{some_inj, meets_true, mapped_some, mapped_from, same_eq, eq_same}
use Rattle.protocol.proofs.Counting.{every_at, every-from}
use Rattle.protocol.proofs.Lowest.{Passing, lowest_pass}
use Rattle.protocol.proofs.Heard.{from_some}
use Rattle.protocol.proofs.Delivered.{design-block, symboled_is}
use Rattle.protocol.proofs.Formed.{Clean, heard-formed, inbox_clean}
use Rattle.protocol.proofs.Agreement.{agreement_dealt}
use Rattle.protocol.proofs.Knowledge.{listened-heard, settled-known, known_completed, known_sound}

-- Equal holdings.
pub same_holding_eq : (x y : Option Ending) → same_holding x y ≡ true → x ≡ y
same_holding_eq (Some (block a)) (Some (block b)) e = ap (λ c. Some (block c)) (same_eq a b e)
same_holding_eq (Some (block a)) (Some mark) e = absurd (false≢true e)
same_holding_eq (Some (block a)) None e = absurd (false≢true e)
same_holding_eq (Some mark) (Some (block b)) e = absurd (false≢true e)
same_holding_eq (Some mark) (Some mark) e = refl
same_holding_eq (Some mark) None e = absurd (false≢true e)
same_holding_eq None (Some (block b)) e = absurd (false≢true e)
same_holding_eq None (Some mark) e = absurd (false≢true e)
same_holding_eq None None e = refl

same_holding_refl : (x : Option Ending) → same_holding x x ≡ true
same_holding_refl (Some (block a)) = eq_same a a refl
same_holding_refl (Some mark) = refl
same_holding_refl None = refl

pub equal_alike : (S : Setting) (log : Log) (a b : ℕ) → holding S log a ≡ holding S log b → compared S log a b ≡ alike
unfolding compared
equal_alike S log a b e =
    cond-true (same_holding (holding S log a) (holding S log b)) alike (judged S log (judge S log a b))
    (ap (same_holding (holding S log a)) (sym e) ∙ same_holding_refl (holding S log a))

unequal_judged : (S : Setting) (log : Log) (a b : ℕ) → (holding S log a ≡ holding S log b → ⊥) → compared S log a b ≡ judged S log (judge S log a b)
unfolding compared
unequal_judged S log a b ne = elim (cases_Bool (same_holding (holding S log a) (holding S log b))) [
  | inl e ↦ absurd (ne (same_holding_eq (holding S log a) (holding S log b) e))
  | inr e ↦ cond-false (same_holding (holding S log a) (holding S log b)) alike (judged S log (judge S log a b)) e
]

-- Of fragments that have one digest with those made of the coefficients w, all are these, or the first that is not is found.
pub record Seen (S : Setting) (w : List ℕ) (x : ℕ → Bytes) (js : List ℕ) : Type 0 where
  pub board : ℕ
  pub among : Has js board
  pub apart : S.fragment w board ≡ x board → ⊥
  pub answer : first_at (clash S w x) js ≡ Some (differ board (S.fragment w board) (x board))

later : (j : ℕ) (js : List ℕ) (i : ℕ) → Has js i → Has (j ∷ js) i
later j js i h = (suc h.0, omega (arith, h.1), h.2)

seek : (S : Setting) (w : List ℕ) (x : ℕ → Bytes) (js : List ℕ) → AllByRecursion (λ j. S.digest j (S.fragment w j) ≡ S.digest j (x j)) js →
    AllByRecursion (λ j. x j ≡ S.fragment w j) js ⊎ Seen S w x js
seek S w x [] one = inl tt
seek S w x (j ∷ js) one = go (bytes_eq (S.fragment w j) (x j)) refl (seek S w x js one.1)
  where
    go : (b : Bool) → bytes_eq (S.fragment w j) (x j) ≡ b → AllByRecursion (λ j. x j ≡ S.fragment w j) js ⊎ Seen S w x js →
        AllByRecursion (λ j. x j ≡ S.fragment w j) (j ∷ js) ⊎ Seen S w x (j ∷ js)
    go true e (inl all) = inl (sym (same_eq _ _ e), all)
    go true e (inr s) =
        inr
        record {
          board = s.board;
          among = later j js s.board s.among;
          apart = s.apart;
          answer = ap (λ b. first (only b (Some (differ j (S.fragment w j) (x j)))) (first_at (clash S w x) js)) (and_left (not (bytes_eq (S.fragment w j) (x j))) _ (not_from_true _ e)) ∙ s.answer;
        }
    go false e rest =
        inr
        record {
          board = j;
          among = (0, omega arith, λ d. refl);
          apart = λ same. both_ways (bytes_eq (S.fragment w j) (x j)) e (eq_same _ _ same);
          answer = ap (λ b. first (only b (Some (differ j (S.fragment w j) (x j)))) (first_at (clash S w x) js)) (and_from _ _ (not_from_false _ e) (eq_same _ _ one.0));
        }

-- The fragment that a fetcher has heard from the board j.
abbrev heard_fragment : (ℕ → Option Bytes) → ℕ → Bytes
heard_fragment xs j = unwrap_or (xs j) []

-- It is there, and fits the vector.
abbrev Fit : Setting → Bytes → (ℕ → Option Bytes) → ℕ → Type 0
Fit S v xs j = IsBoard S j × (fits S j v (heard_fragment xs j) ≡ true) × (xs j ≡ Some (heard_fragment xs j))

chosen_fit : (S : Setting) (v : Bytes) (xs : ℕ → Option Bytes) → AllByRecursion (Fit S v xs) (chosen S v xs)
chosen_fit S v xs =
    All-weaker (Passing (fitting S v xs) (boards S)) (Fit S v xs)
    (λ j p.
    let m = meets_true (fits S j v) (xs j) p.2 in
    let x : heard_fragment xs j ≡ m.0 = ap (λ o. unwrap_or o []) m.1 in
    ((p.0, p.1), ap (fits S j v) x ∙ m.2, m.1 ∙ ap Some (sym x)))
    (chosen S v xs)
    (lowest_pass (fitting S v xs) (support S) (boards S))

module _ (S : Setting) (laws : Laws S) (v : Bytes) (xs : ℕ → Option Bytes) (many : support S ≤ count (fitting S v xs) (boards S)) where
  -- What a fetcher interpolates are coefficients, since all that it heard has the form of its kind.
  pub own_rows : (all : History) → Clean S all → ((j : ℕ) (x : Bytes) → xs j ≡ Some x → symbols all j ≡ Some x) → S.is_rows (coefficients S v xs) ≡ true
  own_rows all clean inside =
      laws.interpolated_rows (fitting S v xs) (heard_fragment xs) many
      (All-weaker (Fit S v xs) (λ j. S.is_fragment (heard_fragment xs j) ≡ true)
      (λ j p.
      let x : Bytes = heard_fragment xs j in
      let f = heard-formed S (from j symboled) all x clean (inside j x p.2) in
      ap (formed S) (sym (symboled_is f.0 x (from_some j symboled f.0 x f.1).1)) ∙ f.2)
      (chosen S v xs) (chosen_fit S v xs))

  module _ (w : List ℕ) (rows : S.is_rows w ≡ true) (match : matches S v w ≡ true) where
    pub one_digest : (j : ℕ) → Fit S v xs j → S.digest j (S.fragment w j) ≡ S.digest j (heard_fragment xs j)
    one_digest j p =
        let fit : fits S j v (S.fragment w j) ≡ true = every_at (λ i. fits S i v (S.fragment w i)) (boards S) match j p.0.0 p.0.1 in
        sym (same_eq (S.entry v j) (S.digest j (S.fragment w j)) fit) ∙ same_eq (S.entry v j) (S.digest j (heard_fragment xs j)) p.1

    -- Coefficients whose fragments are those that a fetcher used are its own; otherwise a fragment is found.
    pub against : (coefficients S v xs ≡ w) ⊎ Seen S w (heard_fragment xs) (chosen S v xs)
    against = elim (seek S w (heard_fragment xs) (chosen S v xs) (All-weaker (Fit S v xs) _ one_digest (chosen S v xs) (chosen_fit S v xs))) [
      | inl all ↦ inl (laws.interpolated_back (fitting S v xs) (heard_fragment xs) w many rows all)
      | inr s ↦ inr s
    ]

-- What a party holds that can be compared: the vector v, and coefficients w.
pub record Party (S : Setting) (log : Log) (p : ℕ) (v : Bytes) : Type 0 where
  pub coefs : List ℕ
  pub owns : own S log p ≡ Some coefs
  pub rows : S.is_rows coefs ≡ true
  pub holds : holding S log p ≡ Some (ending S v coefs)
  pub sure : is_sure S log p ≡ matches S v coefs

module _ (S : Setting) (laws : Laws S) (log : Log) (ok : Valid S log) where
  -- A fetcher that has ended knows one vector.
  abbrev Settled : ℕ → Bytes → Type 0
  Settled f v = settled S (hears S log f) ≡ Some v

  settles : (f : ℕ) → There (ended S log f) → (v : Bytes) × Settled f v
  settles f h =
      let m = mapped_some (outcome S (symbols (hears S log f))) (settled S (hears S log f)) h.0 h.1 in
      (m.0, m.1)

  knows : (f : ℕ) (v : Bytes) → Settled f v → Known S (shares (hears S log f)) v
  knows f v h = laws.found (shares (hears S log f)) v (settled-known S (hears S log f) v h).0

  one_vector : (f g : ℕ) (v w : Bytes) → Settled f v → Settled g w → w ≡ v
  one_vector f g v w p q =
      let c = known_sound S log ok laws (boards S + f) v (knows f v p) in
      known_completed S log ok laws (boards S + g) c.0 w v (knows g w q) c.2

  dealt_vector : (d : Bytes) → is_turned log 0 ≡ false → design log ≡ Some d → (f : ℕ) (v : Bytes) → Settled f v → v ≡ S.vector d
  dealt_vector d sound has-dealt f v p =
      let c = known_sound S log ok laws (boards S + f) v (knows f v p) in
      let r = agreement_dealt S log ok sound c.0 v c.2 in
      r.2 ∙ ap S.vector (some_inj (sym r.1 ∙ has-dealt))

  many_fit : (f : ℕ) (v : Bytes) → Settled f v → support S ≤ count (fitting S v (symbols (hears S log f))) (boards S)
  many_fit f v p = (settled-known S (hears S log f) v p).1

  fetcher_holds : (f : ℕ) (v : Bytes) → Settled (suc f) v → holding S log (suc f) ≡ Some (outcome S (symbols (hears S log (suc f))) v)
  fetcher_holds f v p = mapped_from (outcome S (symbols (hears S log (suc f)))) (settled S (hears S log (suc f))) v p

  fetcher_party : (f : ℕ) (v : Bytes) → Settled (suc f) v → Party S log (suc f) v
  fetcher_party f v p =
      let h : History = hears S log (suc f) in
      let all : History = inbox (boards S + suc f) log in
      record {
        coefs = coefficients S v (symbols h);
        owns = mapped_from (λ v. coefficients S v (symbols h)) (settled S h) v p;
        rows = own_rows S laws v (symbols h) (many_fit (suc f) v p) all (inbox_clean S laws log ok (boards S + suc f)) (λ j x e. listened-heard S (from j symboled) all x e);
        holds = fetcher_holds f v p;
        sure = ap (meets (consistent S (symbols h))) p;
      }

  dealer_party : (d : Bytes) → design log ≡ Some d → Party S log 0 (S.vector d)
  dealer_party d has-dealt =
      let good : S.is_block d ≡ true = design-block S log d ok has-dealt in
      let match : matches S (S.vector d) d ≡ true =
      every-from (λ i. fits S i (S.vector d) (S.fragment d i)) (boards S) (λ i p q. eq_same _ _ (laws.block_entry d good i (p, q))) in
      record {
        coefs = d;
        owns = has-dealt;
        rows = laws.block_rows d good;
        holds = mapped_from block (design log) d has-dealt ∙ ap Some (sym (cond-true (matches S (S.vector d) d && S.is_block d) (block d) mark (and_from _ _ match good)));
        sure = sym match;
      }

  -- A party that is sure, against a fetcher that holds something else.
  abbrev Shown : ℕ → ℕ → Type 0
  Shown c d =
      (w : List ℕ) × (own S log c ≡ Some w) × (j : ℕ) × Has (used S log d) j × (symbols (hears S log d) j ≡ Some (used_fragment S log d j))
      × Clash S j (S.fragment w j) (used_fragment S log d j) × (judged S log (Some (c, d)) ≡ differ j (S.fragment w j) (used_fragment S log d j))

  shown : (c g : ℕ) (v : Bytes) → Party S log c v → is_sure S log c ≡ true → Settled (suc g) v → (holding S log c ≡ holding S log (suc g) → ⊥) → Shown c (suc g)
  shown c g v one sure p ne =
      let h : History = hears S log (suc g) in
      let w : List ℕ = one.coefs in
      let match : matches S v w ≡ true = sym one.sure ∙ sure in
      let uses : used S log (suc g) ≡ chosen S v (symbols h) = ap (λ o. unwrap_or (option_map (λ v. chosen S v (symbols h)) o) []) p in
      elim (against S laws v (symbols h) (many_fit (suc g) v p) w one.rows match) [
        | inl same ↦ absurd (ne (one.holds ∙ ap (λ c. Some (ending S v c)) (sym same) ∙ sym (fetcher_holds g v p)))
        | inr s ↦
            let fit : Fit S v (symbols h) s.board = all-has (Fit S v (symbols h)) (chosen S v (symbols h)) s.board (chosen_fit S v (symbols h)) s.among in (
              w,
              one.owns,
              s.board,
              subst (λ js. Has js s.board) (sym uses) s.among,
              fit.2,
              record { board = fit.0; apart = s.apart; one_digest = one_digest S laws v (symbols h) (many_fit (suc g) v p) w one.rows match s.board fit },
              ap (λ o. unwrap_or (first_at (clash S (unwrap_or o []) (heard_fragment (symbols h))) (used S log (suc g))) unexplained) one.owns
                  ∙ ap (λ js. unwrap_or (first_at (clash S w (heard_fragment (symbols h))) js) unexplained) uses
                  ∙ ap (λ o. unwrap_or o unexplained) s.answer,
            )
      ]

  explain : (a b c d : ℕ) → judge S log a b ≡ Some (c, d) → (holding S log a ≡ holding S log b → ⊥) → Shown c d → Explained S log a b
  explain a b c d named ne s =
      record {
        judging = c;
        other = d;
        named = named;
        board = s.2;
        fragment = S.fragment s.0 s.2;
        fragment_used = used_fragment S log d s.2;
        is_own = mapped_from (λ w. S.fragment w s.2) (own S log c) s.0 s.1;
        is_used = (s.3, s.4);
        clash = s.5;
        answer = unequal_judged S log a b ne ∙ ap (judged S log) named ∙ s.6;
      }

  marked : (f : ℕ) (v : Bytes) (one : Party S log f v) → is_sure S log f ≡ false → holding S log f ≡ Some mark
  marked f v one unsure =
      one.holds ∙ ap Some (cond-false (matches S v one.coefs && S.is_block one.coefs) (block one.coefs) mark (and_left _ _ (sym one.sure ∙ unsure)))

  abbrev Unequal : ℕ → ℕ → Type 0
  Unequal a b = holding S log a ≡ holding S log b → ⊥

  pub explained : (a b : ℕ) → Comparable S log a → Comparable S log b → Unequal a b → Explained S log a b
  explained zero zero x y ne = absurd (ne refl)
  explained zero (suc g) x y ne =
      let q = settles (suc g) y in
      let e = dealt_vector x.1.0 x.0 x.1.1 (suc g) q.0 q.1 in
      explain 0 (suc g) 0 (suc g) refl ne (shown 0 g (S.vector x.1.0) (dealer_party x.1.0 x.1.1) refl (q.1 ∙ ap Some e) ne)
  explained (suc f) zero x y ne =
      let p = settles (suc f) x in
      let e = dealt_vector y.1.0 y.0 y.1.1 (suc f) p.0 p.1 in
      explain (suc f) 0 0 (suc f) (cond-false (eqb (suc f) 0) _ _ (ne_eqb (suc f) 0 (λ z. omega arith))) ne
      (shown 0 f (S.vector y.1.0) (dealer_party y.1.0 y.1.1) refl (p.1 ∙ ap Some e) (λ z. ne (sym z)))
  explained (suc f) (suc g) x y ne = go (is_sure S log (suc f)) (is_sure S log (suc g)) refl refl
    where
      p : (v : Bytes) × Settled (suc f) v
      p = settles (suc f) x

      q : Settled (suc g) p.0
      q = let s = settles (suc g) y in s.1 ∙ ap Some (one_vector (suc f) (suc g) p.0 s.0 p.1 s.1)

      fetchers : judge S log (suc f) (suc g) ≡ cond (is_sure S log (suc f)) (Some (suc f, suc g)) (cond (is_sure S log (suc g)) (Some (suc g, suc f)) None)
      fetchers =
          cond-false (eqb (suc f) 0) _ _ (ne_eqb (suc f) 0 (λ z. omega arith)) ∙ cond-false (eqb (suc g) 0) _ _ (ne_eqb (suc g) 0 (λ z. omega arith))

      go : (b c : Bool) → is_sure S log (suc f) ≡ b → is_sure S log (suc g) ≡ c → Explained S log (suc f) (suc g)
      go true c u w =
          explain (suc f) (suc g) (suc f) (suc g) (fetchers ∙ cond-true _ _ _ u) ne (shown (suc f) g p.0 (fetcher_party f p.0 p.1) u q ne)
      go false true u w =
          explain (suc f) (suc g) (suc g) (suc f) (fetchers ∙ cond-false _ _ _ u ∙ cond-true _ _ _ w) ne
          (shown (suc g) f p.0 (fetcher_party g p.0 q) w p.1 (λ z. ne (sym z)))
      go false false u w = absurd (ne (marked (suc f) p.0 (fetcher_party f p.0 p.1) u ∙ sym (marked (suc g) p.0 (fetcher_party g p.0 q) w)))

  pub alike_equal : (a b : ℕ) → Comparable S log a → Comparable S log b → compared S log a b ≡ alike → holding S log a ≡ holding S log b
  alike_equal a b x y e = elim (cases_Bool (same_holding (holding S log a) (holding S log b))) [
    | inl same ↦ same_holding_eq (holding S log a) (holding S log b) same
    | inr apart ↦
        let ne : Unequal a b = λ z. both_ways (same_holding (holding S log a) (holding S log b)) apart (ap (same_holding (holding S log a)) (sym z) ∙ same_holding_refl (holding S log a)) in
        let s = explained a b x y ne in
        absurd (never (sym e ∙ s.answer))
  ]
    where
      never : {j : ℕ} {u w : Bytes} → alike ≡ differ j u w → ⊥
      never h = let z : ◌≡◌ {A = ℕ} 0 1 = cc in omega arith

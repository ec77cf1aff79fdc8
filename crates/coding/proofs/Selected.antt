-- The chosen boards and their fragments.
use Rattle.std.proofs.Common.{◌≡◌, ℕ, ◌+◌, ◌-◌, ◌*◌, ◌/◌, ◌<◌, ◌≤◌, Bool, true, false, MatchBool, cond, ◌&&◌, eqb, ltb, leb, List, [], ◌∷◌, length, get_or, drop, is_some, Some, None, Decides, Option, sym, refl, ap, ◌∙◌, subst, arith}
use Rattle.std.proofs.lemmas.Nat.{div-mul-add}
use Rattle.std.proofs.ByRecursion.{All-get_or, All-from_get_or}
use Rattle.std.proofs.lemmas.List.{length-drop, length-take-le}
use Rattle.std.proofs.lemmas.Bool.{and_parts, and_from, eqb-true, leb-true, ltb-true, le-leb, lt-ltb, cond-true}
use Rattle.std.specs.List.{AllWithin, HoldsAt}
use Rattle.field.specs.Laws.{Arithmetic, RingLaws, width}
use Rattle.field.proofs.Widths.{width_least}
use Rattle.shape.specs.declared.Shape.{Shape}
use Rattle.shape.specs.Lengths.{board_count, row_length, block_length, fragment_length}
use Rattle.elements.specs.Element.{element, Elements}
use Rattle.coding.specs.Code.{Chosen}
use Rattle.polynomial.specs.Interpolation.{rising, admitted}
use Rattle.coding.specs.Decoding.{are_chosen, held, Sound}
use Rattle.coding.specs.Shaped.{is_block, fragments_length}
use Rattle.elements.proofs.Pieces.{piece_end}
use Rattle.coding.proofs.Tried.{decided_not}
use Rattle.polynomial.proofs.Risen.{rising-from, rising_below, rising_distinct}

-- A list that rises within bounds rises within wider ones.
rising_wider : (low high less more : ℕ) (xs : List ℕ) → less ≤ low → high ≤ more → rising low high xs ≡ true → rising less more xs ≡ true
rising_wider low high less more [] l m e = refl
rising_wider low high less more (x ∷ xs) l m e =
    let p = and_parts (leb low x && ltb x high) (rising (x + 1) high xs) e in
    let q = and_parts (leb low x) (ltb x high) p.0 in
    let a = leb-true low x q.0 in
    let b = ltb-true x high q.1 in
    and_from (leb less x && ltb x more) (rising (x + 1) more xs)
    (and_from (leb less x) (ltb x more) (le-leb less x (omega arith)) (lt-ltb x more (omega arith)))
    (rising_wider (x + 1) high (x + 1) more xs (omega arith) m p.1)

module _ (s : Shape) (js : List ℕ) (yes! : are_chosen s js ≡ true) where
  parts : (eqb (length js) (row_length s.faults) ≡ true) × (rising 1 (board_count s.faults + 1) js ≡ true)
  parts = and_parts (eqb (length js) (row_length s.faults)) (rising 1 (board_count s.faults + 1) js) yes!

  pub chosen_many : length js ≡ row_length s.faults
  chosen_many = eqb-true (length js) (row_length s.faults) parts.0

  pub chosen_at : (i : ℕ) → i < length js → (1 ≤ get_or js i 0) × (get_or js i 0 ≤ board_count s.faults)
  chosen_at i h =
      let low = All-get_or (λ j. 1 ≤ j) js i 0 h (rising-from 1 (board_count s.faults + 1) js parts.1) in
      let high = All-get_or (λ j. j < board_count s.faults + 1) js i 0 h (rising_below 1 (board_count s.faults + 1) js parts.1) in
      (low, omega arith)

  pub chosen : Chosen s.faults js
  chosen = record {
    enough = chosen_many;
    boards = All-from_get_or (λ j. (1 ≤ j) × (j ≤ board_count s.faults)) js 0 chosen_at;
    distinct = rising_distinct 1 (board_count s.faults + 1) js parts.1;
  }

  -- There is a basis at the chosen boards.
  pub chosen-admitted : (R : Arithmetic) → RingLaws R → admitted R js ≡ true
  chosen-admitted R L =
      let n = chosen_many in
      let least = s.faults_least in
      let most = s.faults_most in
      and_from (leb 1 (length js) && leb (length js) 6) (rising 0 R.size js)
      (and_from (leb 1 (length js)) (leb (length js) 6) (le-leb 1 (length js) (omega arith)) (le-leb (length js) 6 (omega arith)))
      (rising_wider 1 (board_count s.faults + 1) 0 R.size js (omega arith) (omega (arith, L.least)) parts.1)

module _ (R : Arithmetic) (s : Shape) (fragments : List ℕ) (long : length fragments ≡ fragments_length R s) where
  pub held_end : (j : ℕ) → 1 ≤ j → j ≤ board_count s.faults → (j - 1) * fragment_length (width R) s.rows + fragment_length (width R) s.rows ≤ length fragments
  held_end j low high = omega (arith, piece_end (j - 1) (board_count s.faults) (fragment_length (width R) s.rows) (omega arith))

  pub held_long : (j : ℕ) → 1 ≤ j → j ≤ board_count s.faults → length (held R s fragments j) ≡ s.rows * width R
  held_long j low high =
      let S = fragment_length (width R) s.rows in
      length-take-le S (drop ((j - 1) * S) fragments) (omega (arith, held_end j low high, length-drop ((j - 1) * S) fragments))

  pub held_elements : (j : ℕ) → 1 ≤ j → j ≤ board_count s.faults → length (held R s fragments j) / width R ≡ s.rows
  held_elements j low high =
      let w = width_least R in
      let e : length (held R s fragments j) ≡ s.rows * width R + 0 = omega (arith, held_long j low high) in
      ap (λ n. n / width R) e ∙ div-mul-add s.rows (width R) 0 (omega arith)

module _ (R : Arithmetic) (s : Shape) (fragments : List ℕ) (long : length fragments ≡ fragments_length R s) (js : List ℕ) (yes! : are_chosen s js ≡ true) where
  count : (m : ℕ) → m < length js → length (held R s fragments (get_or js m 0)) / width R ≡ s.rows
  count m h = let b = chosen_at s js yes! m h in held_elements R s fragments long (get_or js m 0) b.0 b.1

  -- Fragments whose elements are codes, each tried in turn, are sound together.
  pub sound_decided : (r : Bool) → let Coded : ℕ → Type 0 = λ j. Elements R (held R s fragments j) (length (held R s fragments j) / width R) in
      MatchBool r (AllWithin Coded js 0 (length js)) ((k : ℕ) × (k < length js) × HoldsAt (λ j. Coded j → ⊥) js k) → Decides r (Sound R s fragments js)
  sound_decided true all = (
    (λ e.
        All-from_get_or (λ j. Elements R (held R s fragments j) s.rows) js 0
        (λ k h. subst (Elements R (held R s fragments (get_or js k 0))) (count k h) (all k 0 (omega arith) h))),
    (λ p. refl),
  )
  sound_decided false one =
      decided_not (Sound R s fragments js)
      (λ all.
      one.2 0
      (subst (Elements R (held R s fragments (get_or js one.0 0))) (sym (count one.0 one.1))
      (All-get_or (λ j. Elements R (held R s fragments j) s.rows) js one.0 0 one.1 all)))

  -- An element of its fragment is read.
  pub value_there : Sound R s fragments js → (m i : ℕ) → m < length js → i < s.rows → (x : List ℕ) → x ≡ held R s fragments (get_or js m 0) → (r : Option ℕ) →
      r ≡ cond (ltb i (length x / width R) && ltb (element R x i) R.size) (Some (element R x i)) None → is_some r ≡ true
  value_there sound m i h hi x e r is =
      let code : element R x i < R.size = subst (λ y. element R y i < R.size) (sym e) (All-get_or (λ j. Elements R (held R s fragments j) s.rows) js m 0 h sound i hi) in
      let n : length x / width R ≡ s.rows = ap (λ x. length x / width R) e ∙ count m h in
      ap is_some
      (is ∙ cond-true (ltb i (length x / width R) && ltb (element R x i) R.size) (Some (element R x i)) None
      (and_from (ltb i (length x / width R)) (ltb (element R x i) R.size) (lt-ltb i (length x / width R) (omega arith)) (lt-ltb (element R x i) R.size code)))

-- The rows of as many bytes as boards are chosen fill the block.
pub block_long : (s : Shape) (js : List ℕ) → are_chosen s js ≡ true → (block : List ℕ) → is_block s block ≡ true → length block ≡ s.rows * length js
block_long s js yes! block e = eqb-true (length block) (block_length s.faults s.rows) e ∙ ap (λ k. s.rows * k) (sym (chosen_many s js yes!))

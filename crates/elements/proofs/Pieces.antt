-- Byte strings made of pieces of one length.
use Rattle.std.proofs.Common.{◌≡◌, ℕ, zero, suc, ◌+◌, ◌*◌, ◌<◌, ◌≤◌, List, [], ◌++◌, length, take, drop, sym, refl, ap, ◌∙◌, ap₂, ⊎_elim, suc-mul, add-mul, one-mul, zero-mul, add-one, arith, take-add}
use borrow.Rule.Slice.PartMut.{put_mid}
use Rattle.std.proofs.lemmas.Nat.{mul-le}
use Rattle.std.proofs.lemmas.List.{append_assoc, length-append, length-drop, take_all, take-append-le, take_at, drop-append-le, drop_at, drop-drop}
use Rattle.std.proofs.lemmas.Bool.{cases_lt}
use Rattle.elements.specs.Pieces.{piece, laid}

-- The piece i of n lies within them.
pub piece_end : (i n w : ℕ) → i < n → i * w + w ≤ n * w
piece_end i n w h = omega (arith, mul-le (i + 1) w n w (omega arith) (omega arith), add-mul i 1 w, one-mul w)

pub laid_none : (f : ℕ → List ℕ) → laid f 0 ≡ []
unfolding laid
laid_none f = refl

pub laid_more : (f : ℕ → List ℕ) (n : ℕ) → laid f (n + 1) ≡ laid f n ++ f n
unfolding laid
laid_more f n = rw add-one

pub laid_same : (f g : ℕ → List ℕ) (n : ℕ) → ((i : ℕ) → i < n → f i ≡ g i) → laid f n ≡ laid g n
unfolding laid
laid_same f g zero same = refl
laid_same f g (suc n) same = ap₂ ◌++◌ (laid_same f g n (λ i h. same i (omega arith))) (same n (omega arith))

module _ (f : ℕ → List ℕ) (w : ℕ) where
  pub length-laid : (n : ℕ) → ((i : ℕ) → i < n → length (f i) ≡ w) → length (laid f n) ≡ n * w
  unfolding laid
  length-laid zero long = sym (zero-mul w)
  length-laid (suc n) long =
      length-append (laid f n) (f n)
      ∙ ap₂ ◌+◌ (length-laid n (λ i h. long i (omega arith))) (long n (omega arith))
      ∙ sym (suc-mul n w)

  pub piece-laid : (n i : ℕ) → i < n → ((i : ℕ) → i < n → length (f i) ≡ w) → piece w (laid f n) i ≡ f i
  unfolding laid
  piece-laid zero i h long = absurd (omega arith)
  piece-laid (suc n) i h long =
      let front = laid f n in
      let before : (i : ℕ) → i < n → length (f i) ≡ w = λ i h. long i (omega arith) in
      let l : length front ≡ n * w = length-laid n before in
      let here : length (f n) ≡ w = long n (omega arith) in
      ⊎_elim
      (λ lt.
      let e = piece_end i n w lt in
      ap (take w) (drop-append-le (i * w) front (f n) (omega arith))
      ∙ take-append-le w (drop (i * w) front) (f n) (omega (arith, length-drop (i * w) front))
      ∙ piece-laid n i lt before)
      (λ ge.
      let last : i ≡ n = omega arith in
      ap (λ k. piece w (front ++ f n) k) last
      ∙ ap (take w) (drop_at front (f n) (n * w) l)
      ∙ take_all w (f n) (omega arith)
      ∙ ap f (sym last))
      (cases_lt i n)

-- A string is the row of its pieces.
pub laid_pieces : (w : ℕ) (xs : List ℕ) (n : ℕ) → laid (piece w xs) n ≡ take (n * w) xs
unfolding laid
laid_pieces w xs zero = ap (λ k. take k xs) (sym (zero-mul w))
laid_pieces w xs (suc n) =
    ap (λ l. l ++ piece w xs n) (laid_pieces w xs n)
    ∙ sym (take-add (n * w) w xs)
    ∙ ap (λ k. take k xs) (sym (suc-mul n w))

pub laid_whole : (w : ℕ) (xs : List ℕ) (n : ℕ) → length xs ≡ n * w → laid (piece w xs) n ≡ xs
laid_whole w xs n l = laid_pieces w xs n ∙ take_all (n * w) xs (omega arith)

-- One more piece, written straight into its part of a memory that has the pieces before it.
pub laid_part : (f : ℕ → List ℕ) (w i k : ℕ) (was memory part : List ℕ) → ((i : ℕ) → length (f i) ≡ w) → i * w + w ≤ length was → k ≡ w →
    memory ≡ laid f i ++ drop (i * w) was → part ≡ f i → put_mid (i * w) k memory part ≡ laid f (i + 1) ++ drop ((i + 1) * w) was
laid_part f w i k was memory part long fits kw is made =
    let front = laid f i in
    let a = i * w in
    let l : length front ≡ a = length-laid f w i (λ i h. long i) in
    let n : a + w ≡ (i + 1) * w = sym (add-mul i 1 w ∙ ap (λ b. a + b) (one-mul w)) in
    ap₂ (λ m p. put_mid a k m p) is made
    ∙ ap (λ k. put_mid a k (front ++ drop a was) (f i)) kw
    ∙ ap₂ (λ u v. u ++ (f i ++ drop w v)) (take_at front (drop a was) a l) (drop_at front (drop a was) a l)
    ∙ sym (append_assoc front (f i) (drop w (drop a was)))
    ∙ ap₂ ◌++◌ (sym (laid_more f i)) (drop-drop w a was ∙ ap (λ m. drop m was) n)

pub laid_start : (f : ℕ → List ℕ) (w : ℕ) (memory : List ℕ) → memory ≡ laid f 0 ++ drop (0 * w) memory
laid_start f w memory = ap₂ (λ u n. u ++ drop n memory) (sym (laid_none f)) (sym (zero-mul w))

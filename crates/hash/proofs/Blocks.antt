-- The pieces of a message, as blocks, columns and words, and what a tail changes. Assumes nothing.
use Rattle.std.proofs.Common.{bit_xor, map, set, ◌∷◌, ◌≡◌, ℕ, w32, zero, suc, ◌+◌, ◌*◌, ◌/◌, ◌<◌, ◌≤◌, List, [], ◌++◌, length, get_or, take, drop, sym, refl, ap, ◌∙◌, le_of_suc-le-suc, not-suc-le-zero, mul-zero, mul-suc, add-zero, slice_index, arith}
use Rattle.std.specs.Int.{from_be_bytes}
use Rattle.std.specs.List.{range_with_len}
use Rattle.std.specs.Simd.{first_chunks}
use Rattle.std.proofs.lemmas.List.FromFn.{map-range_with_len_more}
use Rattle.std.proofs.lemmas.List.{take_more_set, append_assoc, get_or-take, get_or-drop, drop-drop, drop-append-le, take-append-le, take_all, drop_all, length-drop, length-append}
use Rattle.hash.specs.Fold.{column}
use Rattle.hash.specs.Columns.{column-more}
use Rattle.hash.specs.Sha256.{hashed, compress, block, word}
use Rattle.hash.proofs.Steps.{hashed_more}

-- element i of the k pieces of n that a list is cut into
chunked_at : (n k i : ℕ) (xs d : List ℕ) → i < k → get_or (first_chunks n k xs) i d ≡ take n (drop (n * i) xs)
chunked_at n zero i xs d h = absurd (not-suc-le-zero h)
chunked_at n (suc k) zero xs d h = rw mul-zero
chunked_at n (suc k) (suc i) xs d h =
    chunked_at n k i (drop n xs) d (le_of_suc-le-suc h) ∙ ap (take n) (drop-drop (n * i) n xs ∙ ap (λ j. drop j xs) (omega (arith, mul-suc n i)))

-- piece i of a list that is cut into as many whole pieces as it has
pub chunk_at :
    (n i : ℕ) (m : List ℕ) (pieces : List (List ℕ)) → pieces ≡ first_chunks n (length m / n) m → i < length m / n
    → get_or pieces i [] ≡ take n (drop (n * i) m)
chunk_at n i m pieces cut within = ap (λ v. get_or v i []) cut ∙ chunked_at n (length m / n) i m [] within

-- the hash value after one more of the whole blocks
pub hashed_next :
    (m : List ℕ) (i : ℕ) (pieces : List (List ℕ)) → pieces ≡ first_chunks 64 (length m / 64) m → i < length m / 64
    → compress (hashed i m) (get_or pieces i []) ≡ hashed (i + 1) m
hashed_next m i pieces cut within = ap (compress (hashed i m)) (chunk_at 64 i m pieces cut within) ∙ sym (hashed_more i m)

-- a column of one piece more
pub column_next :
    (m : List ℕ) (k i : ℕ) (pieces : List (List ℕ)) → pieces ≡ first_chunks 32 (length m / 32) m → k < length m / 32 → i < 32
    → bit_xor (column m k i) (slice_index (get_or pieces k []) i) ≡ column m (k + 1) i
column_next m k i pieces cut within below =
    ap (λ v. bit_xor (column m k i) (slice_index v i)) (chunk_at 32 k m pieces cut within)
    ∙ ap (bit_xor (column m k i)) (get_or-take 32 (drop (32 * k) m) i 0 below ∙ get_or-drop (32 * k) m i 0)
    ∙ sym (column-more m k i)

-- a word of a block, which stands in four bytes of it
word_of : (i : ℕ) (m bytes : List ℕ) → bytes ≡ take 4 (drop i m) → from_be_bytes w32 bytes ≡ word m i
word_of i m bytes is =
    let at : (k : ℕ) → k < 4 → slice_index bytes k ≡ slice_index m (i + k) =
    λ k h. ap (λ v. get_or v k 0) is ∙ get_or-take 4 (drop i m) k 0 h ∙ get_or-drop i m k 0 in
    let first : slice_index bytes 0 ≡ slice_index m i = at 0 (omega arith) ∙ ap (slice_index m) (add-zero i) in
    omega (arith, at 1 (omega arith), at 2 (omega arith), at 3 (omega arith))

-- the words of a block as far as place t
abbrev pub first_words : List ℕ → ℕ → List ℕ
first_words m t = map (λ k. word m (4 * k)) (range_with_len 0 t)

-- one word more of a block
pub words_more :
    (m w : List ℕ) (pieces : List (List ℕ)) (t x : ℕ) → pieces ≡ first_chunks 4 (length m / 4) m → t < length m / 4 → t < length w
    → x ≡ from_be_bytes w32 (get_or pieces t []) → take t w ≡ first_words m t → take (t + 1) (set w t x) ≡ first_words m (t + 1)
words_more m w pieces t x cut within room is before =
    take_more_set w t x room
    ∙ ap (λ v. v ++ (x ∷ [])) before
    ∙ ap (λ v. first_words m t ++ (v ∷ [])) (is ∙ word_of (4 * t) m (get_or pieces t []) (chunk_at 4 t m pieces cut within))
    ∙ sym (map-range_with_len_more (λ k. word m (4 * k)) 0 t t (omega arith))

-- a whole block does not see a tail
block_front : (i : ℕ) (m t : List ℕ) → 64 * (i + 1) ≤ length m → block (m ++ t) i ≡ block m i
block_front i m t h =
    ap (take 64) (drop-append-le (64 * i) m t (omega arith))
    ∙ take-append-le 64 (drop (64 * i) m) t (simp length-drop (omega arith))

-- nor does the hash value after whole blocks
pub hashed_front : (n : ℕ) (m t : List ℕ) → 64 * n ≤ length m → hashed n (m ++ t) ≡ hashed n m
unfolding hashed
hashed_front zero m t h = refl
hashed_front (suc i) m t h =
    ap (λ s. compress s (block (m ++ t) i)) (hashed_front i m t (omega arith))
    ∙ ap (compress (hashed i m)) (block_front i m t (omega arith))

-- a tail that fills a block up
pub hashed_tail :
    (n : ℕ) (m t : List ℕ) → 64 * n ≤ length m → length m + length t ≡ 64 * (n + 1)
    → hashed (n + 1) (m ++ t) ≡ compress (hashed n m) (drop (64 * n) m ++ t)
hashed_tail n m t low full =
    let whole : length (drop (64 * n) m ++ t) ≤ 64 = simp (length-append, length-drop) (omega arith) in
    let last : block (m ++ t) n ≡ drop (64 * n) m ++ t =
    ap (take 64) (drop-append-le (64 * n) m t low) ∙ take_all 64 (drop (64 * n) m ++ t) whole in
    hashed_more n (m ++ t) ∙ ap (λ s. compress s (block (m ++ t) n)) (hashed_front n m t low) ∙ ap (compress (hashed n m)) last

-- a tail that fills a block up, and a block more
pub hashed_tails :
    (n : ℕ) (m t u : List ℕ) → 64 * n ≤ length m → length m + length t ≡ 64 * (n + 1) → length u ≡ 64
    → hashed (n + 2) (m ++ (t ++ u)) ≡ compress (compress (hashed n m) (drop (64 * n) m ++ t)) u
hashed_tails n m t u low full more =
    let len : length (m ++ t) ≡ 64 * (n + 1) = length-append m t ∙ full in
    let two : n + 2 ≡ (n + 1) + 1 = omega arith in
    let none : drop (64 * (n + 1)) (m ++ t) ≡ [] = drop_all (64 * (n + 1)) (m ++ t) (omega arith) in
    ap (λ k. hashed k (m ++ (t ++ u))) two
    ∙ ap (hashed (n + 1 + 1)) (sym (append_assoc m t u))
    ∙ hashed_tail (n + 1) (m ++ t) u (omega arith) (omega arith)
    ∙ ap (λ s. compress s (drop (64 * (n + 1)) (m ++ t) ++ u)) (hashed_tail n m t low full)
    ∙ ap (λ v. compress (compress (hashed n m) (drop (64 * n) m ++ t)) (v ++ u)) none

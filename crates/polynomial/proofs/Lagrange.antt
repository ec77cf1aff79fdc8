-- The coefficients that a Lagrange basis makes of values, as sums of products, are those of the polynomial with these values.
use Rattle.std.proofs.Common.{◌≡◌, ℕ, zero, suc, ◌<◌, ◌≤◌, ◌≢◌, List, [], ◌∷◌, map, length, get_or, replicate, sym, refl, ap, ◌∙◌, ap₂, zero-add, arith}
use Rattle.std.specs.List.{range_with_len, AllByRecursion}
use Rattle.std.proofs.lemmas.List.{ext_get_or, get_or-replicate, get_or-map, get_or-set_same, get_or-set_other, get_or-take, length-map, length-replicate, length-set}
use Rattle.std.proofs.ByRecursion.{All-from_get_or, All-get_or, All-set}
use Rattle.std.proofs.lemmas.List.FromFn.{get_or-map-range_with_len, length-map-range_with_len}
use Rattle.field.specs.Laws.{Arithmetic, RingLaws, FieldLaws}
use Rattle.field.proofs.Rings.{zero_code, one_code, zero-add as zero-plus, mul-zero}
use Rattle.polynomial.specs.Polynomial.{Codes, Distinct, eval, interpolated, dot, unit, basis, column, IsBasis}
use Rattle.polynomial.proofs.Evaluation.{eval_code, eval_zeros, zeros_codes}
use Rattle.polynomial.proofs.Roots.{unique}
use Rattle.polynomial.proofs.Newton.{interpolated-length, interpolated_codes, through, map_codes}

-- The sum of two polynomials with as many coefficients.
abbrev plus : Arithmetic → List ℕ → List ℕ → List ℕ
plus R [] ws = []
plus R (v ∷ vs) [] = []
plus R (v ∷ vs) (w ∷ ws) = R.add v w ∷ plus R vs ws

-- The sum of the polynomials bs, of k coefficients, each times one of vs.
abbrev weighted : Arithmetic → ℕ → List ℕ → List (List ℕ) → List ℕ
weighted R k [] bs = replicate k 0
weighted R k (v ∷ vs) [] = replicate k 0
weighted R k (v ∷ vs) (b ∷ bs) = plus R (map (R.mul v) b) (weighted R k vs bs)

abbrev Long : ℕ → List (List ℕ) → Type 0
Long k = AllByRecursion (λ b. length b ≡ k)

plus-length : (R : Arithmetic) (p q : List ℕ) → length p ≡ length q → length (plus R p q) ≡ length q
plus-length R [] [] n = refl
plus-length R [] (c ∷ q) n = absurd (omega arith)
plus-length R (b ∷ p) [] n = absurd (omega arith)
plus-length R (b ∷ p) (c ∷ q) n = ap suc (plus-length R p q (omega arith))

weighted-length : (R : Arithmetic) (k : ℕ) (vs : List ℕ) (bs : List (List ℕ)) → Long k bs → length (weighted R k vs bs) ≡ k
weighted-length R k [] bs n = length-replicate k 0
weighted-length R k (v ∷ vs) [] n = length-replicate k 0
weighted-length R k (v ∷ vs) (b ∷ bs) n =
    let m = weighted-length R k vs bs n.1 in
    plus-length R (map (R.mul v) b) (weighted R k vs bs) (length-map b (R.mul v) ∙ n.0 ∙ sym m) ∙ m

plus_at : (R : Arithmetic) (p q : List ℕ) (i : ℕ) → i < length p → length p ≡ length q → get_or (plus R p q) i 0 ≡ R.add (get_or p i 0) (get_or q i 0)
plus_at R [] q i h n = absurd (omega arith)
plus_at R (b ∷ p) [] i h n = absurd (omega arith)
plus_at R (b ∷ p) (c ∷ q) zero h n = refl
plus_at R (b ∷ p) (c ∷ q) (suc i) h n = plus_at R p q i (omega arith) (omega arith)

weighted_at : (R : Arithmetic) (k : ℕ) (vs : List ℕ) (bs : List (List ℕ)) (i : ℕ) → i < k → Long k bs →
    get_or (weighted R k vs bs) i 0 ≡ dot R vs (column i bs)
weighted_at R k [] bs i h n = get_or-replicate k i 0 0 h
weighted_at R k (v ∷ vs) [] i h n = get_or-replicate k i 0 0 h
weighted_at R k (v ∷ vs) (b ∷ bs) i h n =
    let m = length-map b (R.mul v) in
    let l = weighted-length R k vs bs n.1 in
    let e = n.0 in
    plus_at R (map (R.mul v) b) (weighted R k vs bs) i (omega arith) (omega arith)
    ∙ ap₂ R.add (get_or-map (R.mul v) b i 0 0 (omega arith)) (weighted_at R k vs bs i h n.1)

dot_same : (R : Arithmetic) (vs us bs : List ℕ) → length vs ≤ length us → length vs ≤ length bs → ((j : ℕ) → j < length vs → get_or us j 0 ≡ get_or bs j 0) →
    dot R vs us ≡ dot R vs bs
dot_same R [] us bs n m h = refl
dot_same R (v ∷ vs) [] bs n m h = absurd (omega arith)
dot_same R (v ∷ vs) (a ∷ us) [] n m h = absurd (omega arith)
dot_same R (v ∷ vs) (a ∷ us) (b ∷ bs) n m h =
    ap₂ (λ x y. R.add (R.mul v x) y) (h 0 (omega arith)) (dot_same R vs us bs (omega arith) (omega arith) (λ j l. h (suc j) (omega arith)))

pub unit-length : (k j : ℕ) → length (unit k j) ≡ k
unit-length k j = length-set (replicate k 0) j 1 ∙ length-replicate k 0

module _ (R : Arithmetic) (L : RingLaws R) where
  -- (a + b) + (c + d) is (a + c) + (b + d)
  swap : (a b c d : ℕ) → a < R.size → b < R.size → c < R.size → d < R.size →
      R.add (R.add a b) (R.add c d) ≡ R.add (R.add a c) (R.add b d)
  swap a b c d ha hb hc hd =
      L.add_assoc a b (R.add c d) ha hb (L.sums.code c d)
      ∙ ap (R.add a) (sym (L.add_assoc b c d hb hc hd) ∙ ap (λ x. R.add x d) (L.add_comm b c hb hc) ∙ L.add_assoc c b d hc hb hd)
      ∙ sym (L.add_assoc a c (R.add b d) ha hc (L.sums.code b d))

  eval-plus : (p q : List ℕ) (x : ℕ) → x < R.size → Codes R p → Codes R q → length p ≡ length q →
      eval R (plus R p q) x ≡ R.add (eval R p x) (eval R q x)
  eval-plus [] [] x hx hp hq n = sym (L.add-zero 0 (zero_code R L))
  eval-plus [] (c ∷ q) x hx hp hq n = absurd (omega arith)
  eval-plus (b ∷ p) [] x hx hp hq n = absurd (omega arith)
  eval-plus (b ∷ p) (c ∷ q) x hx hp hq n =
      let P = eval R p x in
      let Q = eval R q x in
      ap (λ y. R.add (R.add b c) (R.mul x y)) (eval-plus p q x hx hp.1 hq.1 (omega arith))
      ∙ ap (R.add (R.add b c)) (L.mul-add x P Q hx (eval_code R L p x) (eval_code R L q x))
      ∙ swap b c (R.mul x P) (R.mul x Q) hp.0 hq.0 (L.products.code x P) (L.products.code x Q)

  eval_scaled : (v : ℕ) (p : List ℕ) (x : ℕ) → v < R.size → x < R.size → Codes R p → eval R (map (R.mul v) p) x ≡ R.mul v (eval R p x)
  eval_scaled v [] x hv hx hp = sym (mul-zero R L v hv)
  eval_scaled v (c ∷ p) x hv hx hp =
      let P = eval R p x in
      let hP : P < R.size = eval_code R L p x in
      ap (λ y. R.add (R.mul v c) (R.mul x y)) (eval_scaled v p x hv hx hp.1)
      ∙ ap (R.add (R.mul v c)) (sym (L.mul_assoc x v P hx hv hP) ∙ ap (λ y. R.mul y P) (L.mul_comm x v hx hv) ∙ L.mul_assoc v x P hv hx hP)
      ∙ sym (L.mul-add v c (R.mul x P) hv hp.0 (L.products.code x P))

  plus_codes : (p q : List ℕ) → Codes R (plus R p q)
  plus_codes [] q = tt
  plus_codes (b ∷ p) [] = tt
  plus_codes (b ∷ p) (c ∷ q) = (L.sums.code b c, plus_codes p q)

  weighted_codes : (k : ℕ) (vs : List ℕ) (bs : List (List ℕ)) → Codes R (weighted R k vs bs)
  weighted_codes k [] bs = zeros_codes R L k
  weighted_codes k (v ∷ vs) [] = zeros_codes R L k
  weighted_codes k (v ∷ vs) (b ∷ bs) = plus_codes (map (R.mul v) b) (weighted R k vs bs)

  eval-weighted : (k : ℕ) (vs : List ℕ) (bs : List (List ℕ)) (x : ℕ) → x < R.size → Codes R vs → AllByRecursion (Codes R) bs → Long k bs →
      eval R (weighted R k vs bs) x ≡ dot R vs (map (λ b. eval R b x) bs)
  eval-weighted k [] bs x hx hv hb n = eval_zeros R L k x hx
  eval-weighted k (v ∷ vs) [] x hx hv hb n = eval_zeros R L k x hx
  eval-weighted k (v ∷ vs) (b ∷ bs) x hx hv hb n =
      eval-plus (map (R.mul v) b) (weighted R k vs bs) x hx (map_codes R.size (R.mul v) b (L.products.code v)) (weighted_codes k vs bs)
      (length-map b (R.mul v) ∙ n.0 ∙ sym (weighted-length R k vs bs n.1))
      ∙ ap₂ R.add (eval_scaled v b x hv.0 hx hb.0) (eval-weighted k vs bs x hx hv.1 hb.1 n.1)

  dot_zeros : (vs ws : List ℕ) → Codes R vs → ((j : ℕ) → j < length ws → get_or ws j 0 ≡ 0) → dot R vs ws ≡ 0
  dot_zeros [] ws hv z = refl
  dot_zeros (v ∷ vs) [] hv z = refl
  dot_zeros (v ∷ vs) (w ∷ ws) hv z =
      ap₂ R.add (ap (R.mul v) (z 0 (omega arith)) ∙ mul-zero R L v hv.0) (dot_zeros vs ws hv.1 (λ j h. z (suc j) (omega arith)))
      ∙ L.add-zero 0 (zero_code R L)

  -- The products with a unit leave the value at its place.
  dot-one : (vs ws : List ℕ) (i : ℕ) → Codes R vs → length vs ≡ length ws → i < length vs → get_or ws i 0 ≡ 1 →
      ((j : ℕ) → j < length ws → j ≢ i → get_or ws j 0 ≡ 0) → dot R vs ws ≡ get_or vs i 0
  dot-one [] ws i hv n h o z = absurd (omega arith)
  dot-one (v ∷ vs) [] i hv n h o z = absurd (omega arith)
  dot-one (v ∷ vs) (w ∷ ws) zero hv n h o z =
      ap₂ R.add (ap (R.mul v) o ∙ L.mul-one v hv.0) (dot_zeros vs ws hv.1 (λ j hj. z (suc j) (omega arith) (omega arith)))
      ∙ L.add-zero v hv.0
  dot-one (v ∷ vs) (w ∷ ws) (suc i) hv n h o z =
      ap₂ R.add (ap (R.mul v) (z 0 (omega arith) (omega arith)) ∙ mul-zero R L v hv.0)
      (dot-one vs ws i hv.1 (omega arith) (omega arith) o (λ j hj ne. z (suc j) (omega arith) (omega arith)))
      ∙ zero-plus R L (get_or vs i 0) (All-get_or (λ a. a < R.size) vs i 0 (omega arith) hv.1)

  unit_codes : (k j : ℕ) → Codes R (unit k j)
  unit_codes k j = All-set (λ a. a < R.size) (replicate k 0) j 1 (one_code R L) (zeros_codes R L k)

-- The row at j of the basis at xs.
abbrev row : Arithmetic → (ℕ → ℕ) → List ℕ → ℕ → List ℕ
row R inv xs j = interpolated R inv xs (unit (length xs) j)

module _ (R : Arithmetic) (inv : ℕ → ℕ) (I : FieldLaws R inv) (xs : List ℕ) (hx : Codes R xs) (ne : Distinct xs) where
  -- The value at the code at i of the polynomial with the values vs.
  at_code : (vs : List ℕ) (i : ℕ) → length vs ≡ length xs → Codes R vs → i < length xs → eval R (interpolated R inv xs vs) (get_or xs i 0) ≡ get_or vs i 0
  at_code vs i n hv h =
      sym (get_or-map (eval R (interpolated R inv xs vs)) xs i 0 0 h) ∙ ap (λ l. get_or l i 0) (through R inv I xs vs n hx hv ne)

  basis-length : length (basis R inv xs) ≡ length xs
  basis-length = length-map-range_with_len (row R inv xs) 0 (length xs)

  basis_at : (j : ℕ) → j < length xs → get_or (basis R inv xs) j [] ≡ row R inv xs j
  basis_at j h = get_or-map-range_with_len (row R inv xs) 0 (length xs) j j [] h (zero-add j)

  -- The polynomials of the basis at the code at i: a unit.
  entry : (i j : ℕ) → i < length xs → j < length xs →
      get_or (map (λ b. eval R b (get_or xs i 0)) (basis R inv xs)) j 0 ≡ get_or (unit (length xs) j) i 0
  entry i j hi hj =
      let n = basis-length in
      get_or-map (λ b. eval R b (get_or xs i 0)) (basis R inv xs) j [] 0 (omega arith)
      ∙ ap (λ b. eval R b (get_or xs i 0)) (basis_at j hj)
      ∙ at_code (unit (length xs) j) i (unit-length (length xs) j) (unit_codes R I.ring (length xs) j) hi

  rows_long : (js : List ℕ) → Long (length xs) (map (row R inv xs) js)
  rows_long [] = tt
  rows_long (j ∷ js) = (interpolated-length R inv xs (unit (length xs) j) (unit-length (length xs) j), rows_long js)

  rows_codes : (js : List ℕ) → AllByRecursion (Codes R) (map (row R inv xs) js)
  rows_codes [] = tt
  rows_codes (j ∷ js) = (interpolated_codes R inv I xs (unit (length xs) j) (unit_codes R I.ring (length xs) j), rows_codes js)

  long : Long (length xs) (basis R inv xs)
  long = rows_long (range_with_len 0 (length xs))

  sums : (vs : List ℕ) (i : ℕ) → length vs ≡ length xs → Codes R vs → i < length xs →
      eval R (weighted R (length xs) vs (basis R inv xs)) (get_or xs i 0) ≡ get_or vs i 0
  sums vs i n hv h =
      let ws = map (λ b. eval R b (get_or xs i 0)) (basis R inv xs) in
      let m : length ws ≡ length xs = length-map (basis R inv xs) (λ b. eval R b (get_or xs i 0)) ∙ basis-length in
      eval-weighted R I.ring (length xs) vs (basis R inv xs) (get_or xs i 0) (All-get_or (λ a. a < R.size) xs i 0 h hx) hv (rows_codes (range_with_len 0 (length xs))) long
      ∙ dot-one R I.ring vs ws i hv (omega arith) (omega arith)
      (entry i i h h ∙ get_or-set_same (replicate (length xs) 0) i 1 0 (omega (arith, length-replicate {A = ℕ} (length xs) 0)))
      (λ j hj ji. entry i j h (omega arith) ∙ get_or-set_other (replicate (length xs) 0) j i 1 0 (λ e. ji (sym e)) ∙ get_or-replicate (length xs) i 0 0 h)

  by_basis : (vs cs : List ℕ) → length vs ≡ length xs → length cs ≡ length xs → Codes R vs →
      ((i : ℕ) → i < length xs → get_or cs i 0 ≡ dot R vs (column i (basis R inv xs))) → cs ≡ interpolated R inv xs vs
  by_basis vs cs n m hv at =
      let B = basis R inv xs in
      let l = weighted-length R (length xs) vs B long in
      ext_get_or 0 cs (weighted R (length xs) vs B) (omega arith)
      (λ i h. at i (omega arith) ∙ sym (weighted_at R (length xs) vs B i (omega arith) long))
      ∙ unique R inv I xs (weighted R (length xs) vs B) (interpolated R inv xs vs) l (interpolated-length R inv xs vs n)
      (weighted_codes R I.ring (length xs) vs B) (interpolated_codes R inv I xs vs hv) hx ne
      (All-from_get_or (λ x. eval R (weighted R (length xs) vs B) x ≡ eval R (interpolated R inv xs vs) x) xs 0
      (λ i h. sums vs i n hv h ∙ sym (at_code vs i n hv h)))

  -- The same for a table of arrays, of which the first rows and places are the basis.
  pub by_rows : (vs cs : List ℕ) (rows : List (List ℕ)) → length vs ≡ length xs → length cs ≡ length xs → length xs ≤ length rows → Codes R vs →
      IsBasis R inv xs rows → ((i : ℕ) → i < length xs → get_or cs i 0 ≡ dot R vs (column i rows)) → cs ≡ interpolated R inv xs vs
  by_rows vs cs rows n m w hv table at =
      let B = basis R inv xs in
      let b = basis-length in
      by_basis vs cs n m hv (λ i hi.
      let c1 : length (column i rows) ≡ length rows = length-map rows (λ b. get_or b i 0) in
      let c2 : length (column i B) ≡ length B = length-map B (λ b. get_or b i 0) in
      at i hi ∙ dot_same R vs (column i rows) (column i B) (omega arith) (omega arith)
      (λ j hj.
      get_or-map (λ b. get_or b i 0) rows j [] 0 (omega arith)
      ∙ sym (get_or-take (length xs) (get_or rows j []) i 0 hi)
      ∙ ap (λ b. get_or b i 0) (table j (omega arith) ∙ sym (basis_at j (omega arith)))
      ∙ sym (get_or-map (λ b. get_or b i 0) B j [] 0 (omega arith))))

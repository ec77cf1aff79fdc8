-- Polynomials over the codes of a field, as lists of coefficients with the constant one first; their values, and the polynomial through given points.
use Rattle.std.specs.Prelude.{◌≡◌, ℕ, ◌<◌, List, [], ◌∷◌, map, length, take, replicate, ◌≢◌, slice_index, slice_index_or, slice_set}
use Rattle.std.specs.List.{range_with_len, AllByRecursion}
use Rattle.field.specs.Laws.{Arithmetic}

abbrev pub Codes : Arithmetic → List ℕ → Type 0
Codes R = AllByRecursion (λ a. a < R.size)

-- No two elements are equal.
abbrev pub Distinct : List ℕ → Type 0
Distinct [] = Unit {0}
Distinct (x ∷ xs) = AllByRecursion (λ y. y ≢ x) xs × Distinct xs

-- The value at x of the polynomial with these coefficients.
abbrev pub eval : Arithmetic → List ℕ → ℕ → ℕ
eval R [] x = 0
eval R (c ∷ cs) x = R.add c (R.mul x (eval R cs x))

-- The values at each of xs.
abbrev pub values : Arithmetic → List ℕ → List ℕ → List ℕ
values R cs = map (eval R cs)

-- The divided difference of two points.
abbrev pub slope : Arithmetic → (ℕ → ℕ) → ℕ × ℕ → ℕ × ℕ → ℕ
slope R inv p q = R.mul (inv (R.sub q.0 p.0)) (R.sub q.1 p.1)

-- The polynomial through the points (x, v), after Newton: v + (X - x) Q, where Q goes through the slopes of the other points.
abbrev pub slopes : Arithmetic → (ℕ → ℕ) → ℕ × ℕ → List ℕ → List ℕ → List ℕ
slopes R inv p [] ws = []
slopes R inv p (y ∷ ys) [] = []
slopes R inv p (y ∷ ys) (w ∷ ws) = slope R inv p (y, w) ∷ slopes R inv p ys ws

-- The coefficients of v + (X - x) Q, from v and those of Q.
abbrev pub raised : Arithmetic → ℕ → ℕ → List ℕ → List ℕ
raised R x v [] = v ∷ []
raised R x v (c ∷ cs) = R.sub v (R.mul x c) ∷ raised R x c cs

abbrev pub lifted : Arithmetic → ℕ → List ℕ → List ℕ
lifted R x [] = []
lifted R x (v ∷ cs) = raised R x v cs

abbrev pub interpolated : Arithmetic → (ℕ → ℕ) → List ℕ → List ℕ → List ℕ
interpolated R inv [] vs = []
interpolated R inv (x ∷ xs) [] = []
interpolated R inv (x ∷ xs) (v ∷ vs) = raised R x v (interpolated R inv xs (slopes R inv (x, v) xs vs))

-- What interpolation makes of the values vs at the codes xs: coefficients cs that have these values,
-- and the only ones, of as many as there are codes, that have them.
pub record Interpolates (R : Arithmetic) (xs vs cs : List ℕ) : Type 0 where
  pub as_many : length cs ≡ length xs
  pub codes : Codes R cs
  pub right : values R cs xs ≡ vs
  pub only : (p : List ℕ) → length p ≡ length xs → Codes R p → values R p xs ≡ vs → p ≡ cs

-- The sum of the products, place by place.
abbrev pub dot : Arithmetic → List ℕ → List ℕ → ℕ
dot R [] ws = 0
dot R (v ∷ vs) [] = 0
dot R (v ∷ vs) (w ∷ ws) = R.add (R.mul v w) (dot R vs ws)

-- 1 at the place j of k, and 0 elsewhere.
abbrev pub unit : ℕ → ℕ → List ℕ
unit k j = slice_set (replicate k 0) j 1

-- The coefficients of each polynomial that is 1 at one of the codes xs, and 0 at the others: the basis after Lagrange.
abbrev pub basis : Arithmetic → (ℕ → ℕ) → List ℕ → List (List ℕ)
basis R inv xs = map (λ j. interpolated R inv xs (unit (length xs) j)) (range_with_len 0 (length xs))

-- The coefficients at the place i.
abbrev pub column : ℕ → List (List ℕ) → List ℕ
column i = map (λ b. slice_index b i)

-- A table of which the first rows and places are the basis.
abbrev pub IsBasis : Arithmetic → (ℕ → ℕ) → List ℕ → List (List ℕ) → Type 0
IsBasis R inv xs rows = (j : ℕ) → j < length xs → take (length xs) (slice_index_or rows j []) ≡ interpolated R inv xs (unit (length xs) j)

-- What a board holds of a byte string: row by row, as the code writes it.
use Rattle.std.proofs.Common.{◌≡◌, ℕ, zero, suc, ◌+◌, ◌-◌, ◌*◌, ◌/◌, ◌<◌, ◌≤◌, Bool, true, false, ◌&&◌, ◌↔◌, Ok, Err, Result, OnOk, List, [], ◌∷◌, ◌++◌, length, take, drop, replicate, sym, refl, ap, ◌∙◌, ⊎_elim, zero-mul, append-nil, arith}
use Rattle.std.proofs.lemmas.List.{length-replicate, take_all, drop_all, take-replicate, drop-replicate}
use Rattle.std.proofs.Math.Nat.{div_self}
use Rattle.std.proofs.lemmas.Bool.{cases_lt}
use Rattle.field.proofs.Widths.{width_least}
use Rattle.field.specs.Laws.{Arithmetic, RingLaws, width}
use Rattle.elements.specs.Pieces.{piece, filled, put}
use Rattle.elements.specs.Numbers.{written}
use Rattle.polynomial.specs.Polynomial.{eval}
use Rattle.coding.specs.Code.{coded}
use Rattle.coding.specs.Shaped.{answered}
use Rattle.elements.specs.declared.Unwritten.{Unwritten}
use Rattle.elements.specs.declared.Unwritten.TheVariants.{Outside, Overrun}
use Rattle.coding.specs.declared.encoding.Unencodable.{Unencodable}
use Rattle.polynomial.proofs.Evaluation.{eval-filled}
use Rattle.elements.proofs.Pieces.{laid_same, length-laid}
use Rattle.elements.proofs.Written.{written-length}

-- What is filled up with zeros and cut begins with what is cut, and goes on with zeros.
drop-filled : (a : ℕ) (xs : List ℕ) (z : ℕ) → (m : ℕ) × (drop a (xs ++ replicate z 0) ≡ drop a xs ++ replicate m 0)
drop-filled zero xs z = (z, refl)
drop-filled (suc a) [] z = (z - suc a, drop-replicate (suc a) z 0)
drop-filled (suc a) (x ∷ xs) z = drop-filled a xs z

take-filled : (k : ℕ) (xs : List ℕ) (z : ℕ) → (m : ℕ) × (take k (xs ++ replicate z 0) ≡ take k xs ++ replicate m 0)
take-filled zero xs z = (0, refl)
take-filled (suc k) [] z = ⊎_elim
    (λ short. (z, take_all (suc k) (replicate z 0) (omega (arith, length-replicate {A = ℕ}))))
    (λ long. (suc k, take-replicate (suc k) z 0 long))
    (cases_lt z (suc k))
take-filled (suc k) (x ∷ xs) z = let m = take-filled k xs z in (m.0, ap (λ l. x ∷ l) m.1)

-- Filling the source up with zeros changes no value.
pub coded-filled : (R : Arithmetic) (L : RingLaws R) (k q n : ℕ) (xs : List ℕ) (j : ℕ) → j < R.size → coded R k q xs j ≡ coded R k q (filled n xs) j
coded-filled R L k q n xs j hj =
    laid_same (λ i. written (width R) (eval R (piece k xs i) j)) (λ i. written (width R) (eval R (piece k (filled n xs) i) j)) q
    (λ i h.
    let d = drop-filled (i * k) xs (n - length xs) in
    let t = take-filled k (drop (i * k) xs) d.0 in
    ap (written (width R)) (sym (eval-filled R L (piece k xs i) t.0 j hj) ∙ ap (λ p. eval R p j) (sym (ap (take k) d.1 ∙ t.1))))

pub coded-length : (R : Arithmetic) (k q : ℕ) (xs : List ℕ) (j : ℕ) → length (coded R k q xs j) ≡ q * width R
coded-length R k q xs j = length-laid (λ i. written (width R) (eval R (piece k xs i) j)) (width R) q (λ i h. written-length (width R) (eval R (piece k xs i) j))

-- A code is written where its element is the whole part.
pub element-put : (R : Arithmetic) (v : ℕ) (part now : List ℕ) (r : Result (Unit {0}) Unwritten) → length part ≡ width R → v < R.size →
    (r ≡ Err Outside ↔ length part / width R ≤ 0) → (r ≡ Err Overrun ↔ (0 < length part / width R) × (R.size ≤ v)) →
    OnOk r (now ≡ put part (0 * width R) (written (width R) v)) → now ≡ written (width R) v
element-put R v part now (Ok _) long code outside overrun is =
    let w = width R in
    let new = written w v in
    is
    ∙ ap (λ a. put part a new) (zero-mul w)
    ∙ ap (λ l. new ++ l) (drop_all (0 + length new) part (omega (arith, written-length w v)))
    ∙ append-nil new
element-put R v part now (Err Outside) long code outside overrun is = let past = outside.0 refl in absurd (omega (arith, ap (λ n. n / width R) long ∙ div_self (width_least R)))
element-put R v part now (Err Overrun) long code outside overrun is = let over = (overrun.0 refl).1 in absurd (omega arith)

-- What is known of an answer that nothing refused.
pub when_fit : {P Q : Type 0} (r : Result (Unit {0}) Unencodable) (there source part : Bool) → r ≡ answered (there && source && part) there → OnOk r P → (there ≡ true → P → Q) → OnOk r Q
when_fit (Ok u) true source part e p f = f refl p
when_fit (Ok u) false source part e p f = absurd cc
when_fit (Err x) there source part e p f = tt

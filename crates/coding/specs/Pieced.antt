-- What calls leave in the parts of a place.
use Rattle.std.specs.Prelude.{◌≡◌, ℕ, ◌<◌, List, length}
use Rattle.std.specs.Borrow.{MutBor}
use Rattle.std.specs.Fn.{Shared}

-- Each piece has size bytes, and a call with an i below count and a part of that size leaves piece i there.
pub record Leaves {W : Type 0} (g : Shared W (ℕ × (MutBor (List ℕ) × Unit {0})) (Unit {0} × (MutBor (List ℕ) × Unit {0}))) (write : W) (size count : ℕ) (piece : ℕ → List ℕ) : Type 0 where
  pub long : (i : ℕ) → length (piece i) ≡ size
  pub left : (i : ℕ) (x y : MutBor (List ℕ)) → i < count → length x.now ≡ size → g.post write (i, (x, tt)) (tt, (y, tt)) → y.now ≡ piece i

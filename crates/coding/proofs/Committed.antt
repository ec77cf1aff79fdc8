-- The entries of a commitment vector are digests.
use Rattle.std.proofs.Common.{◌≡◌, ℕ, ◌-◌, ◌*◌, ◌<◌, List, length, get_or, drop}
use Rattle.std.proofs.ByRecursion.{All-take, All-drop, All-from_get_or}
use Rattle.field.specs.Laws.{Arithmetic, width}
use Rattle.hash.specs.Bytes.{Bytes, Digest}
use Rattle.shape.specs.declared.Shape.{Shape}
use Rattle.coding.specs.Commitment.{fragment_digest}
use Rattle.coding.specs.Decoding.{held}
use Rattle.shape.specs.Lengths.{fragment_length}

pub entry_long : (hash : List ℕ → List ℕ) → ((m : List ℕ) → Bytes m → Digest (hash m)) → (R : Arithmetic) (s : Shape) (fragments : List ℕ) → ((i : ℕ) → get_or fragments i 0 < 256) →
    (j : ℕ) → length (fragment_digest hash j (held R s fragments j)) ≡ 32
entry_long hash sound R s fragments bytes j =
    let S = fragment_length (width R) s.rows in
    (sound (held R s fragments j)
    (All-take (λ b. b < 256) S (drop ((j - 1) * S) fragments) (All-drop (λ b. b < 256) ((j - 1) * S) fragments (All-from_get_or (λ b. b < 256) fragments 0 (λ i h. bytes i))))).0

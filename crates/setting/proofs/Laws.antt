-- The laws that the protocol asks of its setting, over every field and every hash.
use Rattle.std.proofs.Common.{ℕ, ◌*◌, ◌≤◌, List}
use Rattle.field.specs.Laws.{Arithmetic, FieldLaws}
use Rattle.hash.specs.Bytes.{Bytes, Digest}
use Rattle.shape.specs.Lengths.{row_length, block_length, share_rows}
use Rattle.elements.specs.Pieces.{filled}
use Rattle.protocol.specs.Setting.{Laws}
use Rattle.setting.specs.Concrete.{setting}
use Rattle.setting.proofs.Forms.{coded_part}
use Rattle.setting.proofs.Blocks.{block_rows, block_fragment, block_vector, block_entry}
use Rattle.setting.proofs.Vectors.{shares_fix, found, finds}
use Rattle.setting.proofs.Rows.{interpolated_rows, interpolated_back}

pub laws : (R : Arithmetic) (inv : ℕ → ℕ) (hash : List ℕ → List ℕ) → FieldLaws R inv → ((m : List ℕ) → Bytes m → Digest (hash m)) → (t r f : ℕ) → t ≤ 5 → Laws (setting R inv hash t r f)
laws R inv hash I sound t r f small = record {
  block_rows = block_rows R inv I (block_length t r);
  block_vector = λ d e. block_vector R inv I t r d hash sound;
  block_fragment = λ d e j b. block_fragment R inv I t r d j;
  block_entry = λ d e j b. block_entry R inv I t r d hash sound j b.0 b.1;
  vector_share = λ v e j b. coded_part R I.ring (row_length t) (share_rows t) (filled (share_rows t * row_length t) v) j;
  shares_fix = shares_fix R inv I t small;
  found = found R inv I t small;
  finds = finds R inv I t small;
  interpolated_rows = interpolated_rows R inv I t r;
  interpolated_back = λ A x c many e same. interpolated_back R inv I t r A x many small c e same;
}

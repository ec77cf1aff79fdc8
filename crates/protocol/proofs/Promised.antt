-- The promises hold over every valid log.
use Rattle.std.proofs.Common.{◌≡◌, ℕ, ◌+◌, true, not, Some, inl, inr, arith}
use Rattle.std.proofs.lemmas.Bool.{not-true}
use Rattle.protocol.specs.Messages.{Bytes}
use Rattle.protocol.specs.Setting.{Setting, Laws, boards}
use Rattle.protocol.specs.Fetcher.{shares, symbols, settled, outcome}
use Rattle.protocol.specs.Log.{Log, is_turned, is_started, completed, ended, Sound, Valid, Quiet}
use Rattle.protocol.specs.Comparison.{hears}
use Rattle.protocol.specs.Promises.{There, Begun, Promises}
use Rattle.protocol.proofs.Optional.{mapped_from}
use Rattle.protocol.proofs.Counting.{count_some}
use Rattle.protocol.proofs.Agreement.{agreement, agreement_dealt}
use Rattle.protocol.proofs.Totality.{sound_many, totality, totality_dealt}
use Rattle.protocol.proofs.Knowledge.{known-one, known_sound, known_completed, ends}
use Rattle.protocol.proofs.Comparison.{equal_alike, alike_equal, explained}

module _ (S : Setting) (laws : Laws S) (log : Log) (ok : Valid S log) where
  -- On a quiet floor where something has to come, all sound boards have completed with one vector.
  all_complete : Quiet S log → Begun S log → (v : Bytes) × ((j : ℕ) → Sound S log j → completed S log j ≡ Some v)
  all_complete quiet (inl b) = (b.2.0, totality S log ok quiet b.0 b.2.0 b.2.1)
  all_complete quiet (inr b) = (S.vector b.1.0, totality_dealt S log ok quiet laws b.1.0 b.0 b.1.1)

  all_end : Quiet S log → Begun S log → (f : ℕ) → is_started log f ≡ true → There (ended S log f)
  all_end quiet begun f going =
      let c = all_complete quiet begun in
      let one = count_some (λ i. not (is_turned log i)) (boards S) (omega (arith, sound_many S log ok quiet)) in
      let w = ends S log ok laws quiet one.0 c.0 (c.1 one.0 ((one.1, one.2), not-true _ one.3)) f going in
      let h = hears S log f in
      (outcome S (symbols h) w.0, mapped_from (outcome S (symbols h)) (settled S h) w.0 w.1)

pub kept : (S : Setting) → Laws S → (log : Log) → Valid S log → Promises S log
kept S laws log ok = record {
  agreement = record { one_vector = agreement S log ok; dealt_vector = agreement_dealt S log ok };
  totality = record {
    boards_complete = λ quiet begun j sound. let c = all_complete S laws log ok quiet begun in (c.0, c.1 j sound);
    fetchers_end = all_end S laws log ok;
  };
  knowledge = record {
    one_known = λ f. known-one S laws (shares (hears S log f));
    known_sound = λ f. known_sound S log ok laws (boards S + f);
    known_completed = λ f j v w. known_completed S log ok laws (boards S + f) j v w;
    found = λ f. laws.found (shares (hears S log f));
    finds = λ f. laws.finds (shares (hears S log f));
  };
  comparison = record {
    alike_equal = alike_equal S laws log ok;
    equal_alike = λ a b x y. equal_alike S log a b;
    explained = explained S laws log ok;
  };
}

use Rattle.std.proofs.Common.{length, ◌≡◌, ◌%◌, ◌≤◌}
use Rattle.hash.specs.Schedule.{Reached}
use Rattle.hash.specs.Sha256.{rounds, schedule, words}
use Rattle.hash.proofs.sha2.State.compress.Given as goal

abbrev pub invariant-loop-t : goal.invariant-loop-t
invariant-loop-t l = record {
  long : length l.schedule.words ≡ 64;
  even : l.t % 2 ≡ 0;
  within : l.t ≤ 48;
  reached : Reached l.t (words l.block) l.self l.s l.schedule.words;
}

abbrev pub invariant-loop-t-2 : goal.invariant-loop-t-2
invariant-loop-t-2 l = record {
  even : l.t % 2 ≡ 0;
  within : l.t ≤ 64;
  filled : l.schedule.words ≡ schedule 48 (words l.block);
  reached : l.s ≡ rounds l.t l.self l.schedule.words;
}

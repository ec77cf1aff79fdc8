-- The refusal and the place that a fault stands for.
use Rattle.std.specs.Prelude.{ℕ}
use Rattle.refusal.specs.declared.Refusal.{Refusal}
use Rattle.refusal.specs.declared.Refusal.TheVariants.{Torn as TornRefusal, Overrun}
use Rattle.fault.specs.declared.FrameFault.{FrameFault}
use Rattle.fault.specs.declared.FrameFault.TheVariants.{Torn, Field}

-- A fault from below is carried up whole.
abbrev pub refusal : FrameFault → Refusal
refusal (Torn place) = TornRefusal
refusal (Field fault) = Overrun

abbrev pub place : FrameFault → ℕ
place (Torn at) = at
place (Field fault) = fault.place

-- What the steps of reading a frame answer.
use Rattle.std.specs.Prelude.{◌≡◌, ℕ, ◌*◌, Ok, Err, Result}
use Rattle.std.specs.Borrow.{Bor}
use Rattle.field.specs.Laws.{Arithmetic}
use Rattle.shape.specs.declared.Shape.{Shape}
use Rattle.protocol.specs.Messages.{Bytes}
use Rattle.fault.specs.declared.FrameFault.{FrameFault}
use Rattle.layout.specs.declared.Layout.{Layout}
use Rattle.layout.specs.Kinds.{digests, bytes}
use Rattle.frame.specs.Front.{Front}
use Rattle.frame.specs.Reading.{reads, sectioned}

-- The layout, the sender and what follows the count of digests, or why there are none.
abbrev pub Fronts : Shape → Bytes → Result (Layout × ℕ × Bor Bytes) FrameFault → Type 0
Fronts s b (Ok p) = (p.0.shape ≡ s) × Front p.0.shape b p.0.kind p.1 p.2.now
Fronts s b (Err e) = (R : Arithmetic) → reads R s b ≡ Err e

-- The sections of a layout in what follows the count of digests.
abbrev pub sections_of : Arithmetic → Layout → Bytes → Result (Bytes × Bytes) FrameFault
sections_of R l rest = sectioned (32 * digests l.shape l.kind) (bytes R l.shape l.kind) rest

-- The two sections, or why there are none.
abbrev pub Sections : Arithmetic → Layout → Bytes → Result (Bor Bytes × Bor Bytes) FrameFault → Type 0
Sections R l rest (Ok p) = sections_of R l rest ≡ Ok (p.0.now, p.1.now)
Sections R l rest (Err e) = sections_of R l rest ≡ Err e

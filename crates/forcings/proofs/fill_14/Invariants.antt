use Prim.Native.Nat.{suc, ◌+◌, ◌*◌, ◌≤◌}
use mathlib.Core.Path.{◌≡◌}
use lib.ListN.{length}
use Rattle.frames.specs.Reading.{float}
use Rattle.frames.specs.Texts.{line_at}
use Rattle.forcings.specs.Forcings.{forcing_lines}
use Rattle.forcings.proofs.RoomLaws.{filled_to}
use Rattle.forcings.proofs.fill_14.Given as goal

abbrev pub invariant-loop-i : goal.invariant-loop-i
invariant-loop-i l = (l.i ≤ l.n) × (length l.room ≡ 1 + 2 * l.n) × (l.room ≡ filled_to l.n (λ k. float (line_at forcing_lines l.text (suc k)) 3) (λ k. float (line_at forcing_lines l.text (suc k)) 11) l.initial.room l.i)

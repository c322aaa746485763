use Prim.Native.Nat.{◌+◌, ◌*◌, ◌≤◌}
use mathlib.Core.Path.{◌≡◌}
use lib.ListN.{length}
use Rattle.frames.specs.Reading.{float}
use Rattle.forcings.proofs.RoomLaws.{filled_to}
use Rattle.forcings.proofs.fill_10.Given as goal

abbrev pub invariant-loop-i : goal.invariant-loop-i
invariant-loop-i l = (l.i ≤ l.n) × (length l.room ≡ 1 + 2 * l.n) × (l.room ≡ filled_to l.n (λ _. float l.text 11) (λ _. float l.text 19) l.initial.room l.i)

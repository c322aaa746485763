use mathlib.Core.Path.{◌≡◌}
use lib.ListN.{get_or}
use lib.Ieee.{nan}
use Rattle.keeping.specs.Record.{all_noted}
use Rattle.keeping.proofs.note_all.Given as goal

abbrev pub invariant-loop-g : goal.invariant-loop-g
invariant-loop-g l = l.kept ≡ all_noted (λ k. get_or l.level k nan) l.step l.g l.initial.kept

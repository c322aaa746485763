use Prim.Native.Nat.{◌≤◌, ◌*◌}
use mathlib.Core.Path.{◌≡◌}
use lib.ListN.{length}
use Rattle.lines.specs.Building.{longest, laid}
use Rattle.lines.proofs.BuildLaws.{hex}
use Rattle.lines.proofs.Line.append.Given as goal

abbrev pub invariant-loop-k : goal.invariant-loop-k
invariant-loop-k l = (l.k ≤ 2 * l.width) × (length l.bytes ≡ longest) × (laid l.bytes l.at (hex l.k l.rest) ≡ laid l.initial.bytes l.at (hex (2 * l.width) l.value))

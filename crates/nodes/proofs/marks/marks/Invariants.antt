use Prim.Native.Nat.{ℕ, ◌<◌}
use mathlib.Core.Path.{◌≡◌}
use mathlib.Core.Bool.{false}
use lib.ListN.{length, get_or}
use Rattle.nodes.proofs.MarkLaws.{named_by}
use Rattle.nodes.proofs.marks.marks.Given as goal

-- the marks are those of the nodes that the first j numbers name
abbrev pub invariant-loop-j : goal.invariant-loop-j
invariant-loop-j l = (length l.seen ≡ 4096) × ((i : ℕ) → i < 4096 → get_or l.seen i false ≡ named_by l.tri l.j i)

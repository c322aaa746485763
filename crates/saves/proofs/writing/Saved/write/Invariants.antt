use Prim.Native.Nat.{◌-◌, ◌≤◌}
use mathlib.Core.Path.{◌≡◌}
use Rattle.saves.specs.Private.{saved_by}
use Rattle.saves.proofs.WriteLaws.{reached, so_far}
use Rattle.saves.proofs.writing.Saved.write.Given as goal

abbrev pub invariant-loop-j : goal.invariant-loop-j
invariant-loop-j l = let s = saved_by l.self in
    (l.j ≤ l.count) × (l.at ≡ reached s l.j) × (l.text ≡ so_far s l.initial.text l.j)

abbrev pub decreases-loop-j : goal.decreases-loop-j
decreases-loop-j l = l.count - l.j

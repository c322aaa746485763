use Prim.Native.Nat.{ℕ, ◌<◌}
use mathlib.Core.Path.{◌≡◌}
use mathlib.Core.Bool.{false}
use Rattle.rows.specs.Scan.{accepted, some}
use Rattle.rows.specs.Refusals.{answered}
use Rattle.legs.specs.Legs.{leg_seen, row6}
use Rattle.legs.proofs.leg_rows.Given as goal

abbrev pub invariant-loop-j : goal.invariant-loop-j
invariant-loop-j l = (answered l.answer ≡ accepted) × ((q : ℕ) → q < l.j → leg_seen l.tri l.t q l.s ≡ false)

abbrev pub invariant-loop-s : goal.invariant-loop-s
invariant-loop-s l = (answered l.answer ≡ accepted) × ((q : ℕ) → q < l.s → some (λ j. leg_seen l.tri l.t j q) 3 ≡ false)

abbrev pub invariant-pairs : goal.invariant-pairs
invariant-pairs l = (answered l.answer ≡ accepted) × ((q : ℕ) → q < l.t → (row6 l.tri q).number ≡ 0)

use mathlib.Core.Path.{ap, ◌∙◌}
use lib.IntN.{ℤ}
use lib.Ieee.{binary64, of_int}
use mir.Syntax.{w64}
use mir.Val.{to_z, of_z}
use Rattle.geometry.specs.Geometry.{floats}
use Rattle.geometry.proofs.GeometryLaws.{AllSmall, all_small, small_exact, small_float}
use Rattle.passes.proofs.reading.floats_of.Goals as goal
use Rattle.passes.proofs.reading.floats_of.Goals.{Start}

small : (s : Start) → AllSmall s.args.s
small s = all_small _ s.requires

pub exact-requires : goal.exact-requires
exact-requires c = small_exact (small (goal.at.exact-requires c).Start).a1

pub exact-requires-2 : goal.exact-requires-2
exact-requires-2 c = small_exact (small (goal.at.exact-requires-2 c).Start).a2

pub exact-requires-3 : goal.exact-requires-3
exact-requires-3 c = small_exact (small (goal.at.exact-requires-3 c).Start).a3

pub exact-requires-4 : goal.exact-requires-4
exact-requires-4 c = small_exact (small (goal.at.exact-requires-4 c).Start).b1

pub exact-requires-5 : goal.exact-requires-5
exact-requires-5 c = small_exact (small (goal.at.exact-requires-5 c).Start).b2

pub exact-requires-6 : goal.exact-requires-6
exact-requires-6 c = small_exact (small (goal.at.exact-requires-6 c).Start).b3

pub exact-requires-7 : goal.exact-requires-7
exact-requires-7 c = rw c.twice_area.ensures (small_exact (small (goal.at.exact-requires-7 c).Start).d)

pub returns : goal.returns
unfolding floats
returns c =
    let s = small (goal.at.returns c).Start in
    λ i. record {
      a1 = small_float s.a1 c.exact.ensures i;
      a2 = small_float s.a2 c.exact-2.ensures i;
      a3 = small_float s.a3 c.exact-3.ensures i;
      b1 = small_float s.b1 c.exact-4.ensures i;
      b2 = small_float s.b2 c.exact-5.ensures i;
      b3 = small_float s.b3 c.exact-6.ensures i;
      d = small_float s.d (c.exact-7.ensures ∙ ap (λ (z : ℤ). of_int binary64 (to_z w64 (of_z w64 z))) c.twice_area.ensures) i;
    }

pub twice_area-requires : goal.twice_area-requires
twice_area-requires c = c.requires

use Rattle.std.proofs.Common.{◌≡◌, ℕ, ◌/◌, ◌^◌, ◌<◌, Option, unwrap_or, List, length, set, ℤ, ap, ◌∙◌, arith, to_z-of_z, w32, to_z, of_z}
use lib.Signed.{mag}
use lib.Ieee.{Float, of_bits}
use Rattle.rows.specs.Numbers.{plus0}
use Rattle.rows.specs.Scan.{accepted}
use Rattle.lists.specs.Table.{table}
use Rattle.lists.specs.Runs.{in_run}
use Rattle.location.specs.declared.seeking.Sighting.{Sighting}
use Rattle.location.specs.Location.{sighted}
use Rattle.location.specs.Survey.{point_of, seen}
use Rattle.location.proofs.FillLaws.{fill_none, fill_put, fill_all}
use Rattle.location.proofs.SightLaws.{seen_or_outside}
use Rattle.location.proofs.at_points.Invariants.{triangle_at, level_at}
use Rattle.location.proofs.at_points.Goals as goal
use Rattle.location.proofs.at_points.Goals.{After-unwrap_or-seen}

pub loop-g-init : goal.loop-g-init
unfolding table of_bits
loop-g-init c =
    let a = c.args in
    let m = a.m.now in
    (fill_none 64 (triangle_at a.ps m.x.now m.y.now m.tri.now a.state.now) 0, fill_none 64 (level_at a.ps m.x.now m.y.now m.tri.now a.state.now) plus0)

pub sight-requires : goal.sight-requires
sight-requires c = record { same = c.requires.0.sized.y; state_len = c.requires.1; by_index = c.requires.0.triangles }

-- a coordinate of a point, which was handed on as bits
back : (v : ℤ) → mag v < 2 ^ 31 → to_z w32 (of_z w32 v) ≡ v
back v ok = to_z-of_z {w = w32} {z = v} (record { sfits = ok })

-- what is seen at point g
its : (c : After-unwrap_or-seen) →
    let m = c.args.m.now in
    c.unwrap_or-seen.result ≡ sighted m.x.now m.y.now m.tri.now (point_of c.args.ps c.loop-g.g) (in_run (length m.x.now) 1 c.args.state.now)
unfolding of_bits
its c =
    let m = c.args.m.now in
    let p = point_of c.args.ps c.loop-g.g in
    let z = in_run (length m.x.now) 1 c.args.state.now in
    let x : mag p.x < 2 ^ 31 = omega arith in
    let y : mag p.y < 2 ^ 31 = omega arith in
    c.unwrap_or-seen.ensures
    ∙ ap (λ (o : Option Sighting). unwrap_or o (record { triangle = length m.tri.now / 3; level = plus0 })) c.sight.ensures
    ∙ seen_or_outside _ _ _ _ z
    ∙ (λ i. sighted m.x.now m.y.now m.tri.now (record { x = back p.x x i; y = back p.y y i }) z)

pub loop-g-preserved : goal.loop-g-preserved
unfolding sighted
loop-g-preserved c =
    let a = c.args in
    let m = a.m.now in
    let g = c.loop-g.g in
    let r = c.loop-g.invariant in
    let e = its (goal.at.loop-g-preserved c).After-unwrap_or-seen in (
      ap (λ (t : List ℕ). set t g c.unwrap_or-seen.result.triangle) r.0
          ∙ fill_put 64 (triangle_at a.ps m.x.now m.y.now m.tri.now a.state.now) 0 g (ap (λ (s : Sighting). s.triangle) e),
      ap (λ (t : List Float). set t g c.unwrap_or-seen.result.level) r.1
          ∙ fill_put 64 (level_at a.ps m.x.now m.y.now m.tri.now a.state.now) plus0 g (ap (λ (s : Sighting). s.level) e),
    )

pub returns : goal.returns
unfolding seen
returns c =
    let r = c.loop-g.invariant in
    let done = (let all : c.loop-g.g ≡ c.min-g-end.result = omega arith in all ∙ c.min-g-end.ensures) in
    λ i. record { answer = accepted; triangle = (r.0 ∙ fill_all 64 _ 0 _ done) i; level = (r.1 ∙ fill_all 64 _ plus0 _ done) i }

use Prim.Native.Nat.{◌*◌}
use native.Mathlib.Omega.{arith}
use mathlib.Core.Path.{◌≡◌, ap, ◌∙◌}
use native.Mathlib.Nat.{le_antisymm}
use lib.Dec.{lit<}
use lib.ListN.{length}
use lib.Ieee.{Float, nan}
use Rattle.lists.specs.Gather.{Three, gathered}
use Rattle.lists.specs.Private.{Below, past, spread}
use Rattle.lists.proofs.RunLaws.{runs_length}
use Rattle.geometry.specs.Geometry.{nodes_of}
use Rattle.mesh.specs.Lent.{E}
use Rattle.mesh.proofs.SideLaws.{corners_read}
use Rattle.passes.specs.Equations.{Given, corners_of, floating}
use Rattle.passes.specs.Settle.{work_runs}
use Rattle.passes.specs.Private.{given_of, Fits}
use Rattle.passes.proofs.PassLaws.{run_fits, slopes_to, in_run_lem, inside, its_near, its_floats, slope_more}
use Rattle.passes.proofs.velocities.slopes.Goals as goal
use Rattle.passes.proofs.velocities.slopes.Goals.{After-corners_at-c, At-loop-t, In-loop-t, Start}

abbrev here : At-loop-t → Given
here l = given_of l.args.g.now

abbrev after : After-corners_at-c → Given
after c = given_of c.args.g.now

fits : (l : At-loop-t) → Fits (here l)
fits l = l.requires.fits

long : (l : At-loop-t) → length l.loop-t.work ≡ work_runs * length l.args.g.now.mesh.x.now
long l = ap length l.loop-t.invariant.1 ∙ runs_length _ _

-- the corners that were read are those of triangle t
corner : (c : After-corners_at-c) → nodes_of c.corners_at-c.result ≡ corners_of (after c) c.loop-t.t
corner c = corners_read _ _ c.loop-t-test.true c.corners_at-c.ensures

below : (c : After-corners_at-c) → Below (nodes_of c.corners_at-c.result) (length c.args.g.now.mesh.x.now)
below c =
    let z : Fits (after c) = c.requires.fits in
    inside _ z _ c.loop-t-test.true (corners_read _ _ c.loop-t-test.true c.corners_at-c.ensures)

pub loop-t-init : goal.loop-t-init
unfolding gathered
loop-t-init c = (omega arith, c.requires.work_value)

pub floats_of-s-requires : goal.floats_of-s-requires
floats_of-s-requires c =
    let w = goal.at.floats_of-s-requires c in
    its_near _ (fits w.At-loop-t) _ c.loop-t-test.true (corner w.After-corners_at-c) c.places_at.ensures c.sides_of.ensures

pub loop-t-preserved : goal.loop-t-preserved
loop-t-preserved c =
    let w = goal.at.loop-t-preserved c in
    let h = c.loop-t-test.true in
    let n = length c.args.g.now.mesh.x.now in
    let at = nodes_of c.corners_at-c.result in
    let g = here w.At-loop-t in
    let z = fits w.At-loop-t in
    let its = corner w.After-corners_at-c in (
      omega arith,
      c.spread-in-loop-t.ensures
          ∙ (λ i. spread floating nan (past (2 * n) at) (c.alike-in-loop-t.ensures i) ((c.spread.ensures ∙ ap (λ (a : Three Float). spread floating nan (past (1 * n) at) a c.loop-t.work) c.alike.ensures) i))
          ∙ slope_more g z _ h its c.loop-t.invariant.1 (its_floats g z _ h its c.places_at.ensures c.sides_of.ensures c.floats_of-s.ensures) c.slope_of-v.ensures,
    )

pub returns : goal.returns
returns c =
    let g = here (goal.at.returns c).At-loop-t in
    let end : c.loop-t.t ≡ E g.mesh = le_antisymm c.loop-t.invariant.0 c.loop-t-test.false in
    c.loop-t.invariant.1 ∙ ap (slopes_to g) end

pub places_at-requires : goal.places_at-requires
places_at-requires c =
    let w = goal.at.places_at-requires c in
    ((fits w.At-loop-t).shape.sized.y, below w.After-corners_at-c)

pub slope_of-v-requires : goal.slope_of-v-requires
slope_of-v-requires c =
    let w = goal.at.slope_of-v-requires c in
    (below w.After-corners_at-c, (fits w.At-loop-t).state, long w.At-loop-t)

pub overflow_mul-n : goal.overflow_mul-n
overflow_mul-n c = run_fits 1 tt (fits (goal.at.overflow_mul-n c).At-loop-t).shape.sized.most_nodes

pub spread-requires : goal.spread-requires
spread-requires c =
    let w = goal.at.spread-requires c in
    rw (long w.At-loop-t) (in_run_lem 1 work_runs (lit< tt) (below w.After-corners_at-c))

pub spread-requires-in-loop-t : goal.spread-requires-in-loop-t
spread-requires-in-loop-t c =
    let w = goal.at.spread-requires-in-loop-t c in
    rw (c.spread.auto.work ∙ long w.At-loop-t) (in_run_lem 2 work_runs (lit< tt) (below w.After-corners_at-c))

pub overflow_mul-n-in-loop-t : goal.overflow_mul-n-in-loop-t
overflow_mul-n-in-loop-t c = run_fits 2 tt (fits (goal.at.overflow_mul-n-in-loop-t c).At-loop-t).shape.sized.most_nodes

use Prim.Native.Nat.{ℕ, ◌*◌}
use mathlib.Core.Path.{◌≡◌, ap, ◌∙◌}
use native.Mathlib.Omega.{arith}
use lib.Dec.{lit<}
use lib.ListN.{length}
use lib.Ieee.{nan}
use Rattle.lists.specs.Table.{table}
use Rattle.lists.specs.Private.{past, spread}
use Rattle.lists.proofs.TableLaws.{length_table}
use Rattle.lists.proofs.RunLaws.{runs_length}
use Rattle.geometry.specs.Geometry.{nodes_of}
use Rattle.mesh.specs.Lent.{E}
use Rattle.mesh.proofs.SideLaws.{corners_read}
use Rattle.passes.specs.Equations.{Given, count, corners_of, floating, three_of}
use Rattle.passes.specs.Settle.{work_runs}
use Rattle.passes.specs.Private.{given_of, Fits}
use Rattle.passes.proofs.PassLaws.{run_fits, sums_to, S_to, in_run_lem, inside, its_near, its_turn, its_floats, its_area, its_means, its_shares, sum_more, area_more, S_room, sum_none, S_none}
use Rattle.passes.proofs.SettleLaws.{cleared_room}
use Rattle.passes.proofs.elevations.assemble.Goals as goal
use Rattle.passes.proofs.elevations.assemble.Goals.{After-corners_at-c, At-loop-t, In-loop-t, Start}

abbrev its : Start → Given
its s = given_of s.args.g.now

abbrev here : At-loop-t → Given
here l = given_of l.args.g.now

abbrev read : After-corners_at-c → Given
read c = given_of c.args.g.now

fits : (l : At-loop-t) → Fits (here l)
fits l = l.requires.fits

long : (l : At-loop-t) → length l.loop-t.work ≡ work_runs * length l.args.g.now.mesh.x.now
long l = ap length l.loop-t.invariant.1.0 ∙ runs_length _ _

sums_long : (l : At-loop-t) → length l.loop-t.sums ≡ length l.args.g.now.mesh.x.now
sums_long l = ap length l.loop-t.invariant.1.1 ∙ length_table _ _

-- the corners that were read are those of triangle t
corner : (c : After-corners_at-c) → nodes_of c.corners_at-c.result ≡ corners_of (read c) c.loop-t.t
corner c = corners_read _ _ c.loop-t-test.true c.corners_at-c.ensures

pub loop-t-init : goal.loop-t-init
loop-t-init c =
    let w = goal.at.loop-t-init c in
    (omega arith, (cleared_room (its w.Start) _ c.requires.work_len.0 c.clear.ensures ∙ sum_none (its w.Start), c.clear_whole.ensures ∙ ap (λ (n : ℕ). table n (λ _. 0)) c.requires.work_len.1 ∙ S_none (its w.Start)))

pub places_at-q-requires : goal.places_at-q-requires
places_at-q-requires c =
    let w = goal.at.places_at-q-requires c in
    let z = fits w.At-loop-t in
    (z.shape.sized.y, inside _ z _ c.loop-t-test.true (corner w.After-corners_at-c))

pub floats_of-s-requires : goal.floats_of-s-requires
floats_of-s-requires c =
    let w = goal.at.floats_of-s-requires c in
    its_near _ (fits w.At-loop-t) _ c.loop-t-test.true (corner w.After-corners_at-c) c.places_at-q.ensures c.sides_of-whole.ensures

pub means_at-m-requires : goal.means_at-m-requires
means_at-m-requires c =
    let w = goal.at.means_at-m-requires c in
    let z = fits w.At-loop-t in
    (inside _ z _ c.loop-t-test.true (corner w.After-corners_at-c), z.shape.sized.h, z.state)

pub spread_advection-requires : goal.spread_advection-requires
spread_advection-requires c =
    let w = goal.at.spread_advection-requires c in
    (inside _ (fits w.At-loop-t) _ c.loop-t-test.true (corner w.After-corners_at-c), long w.At-loop-t)

pub spread-requires : goal.spread-requires
spread-requires c =
    let w = goal.at.spread-requires c in
    rw (c.spread_advection.auto.work ∙ long w.At-loop-t) (in_run_lem 0 work_runs (lit< tt) (inside _ (fits w.At-loop-t) _ c.loop-t-test.true (corner w.After-corners_at-c)))

pub area_of-requires : goal.area_of-requires
area_of-requires c =
    let w = goal.at.area_of-requires c in
    let z = fits w.At-loop-t in
    let h = c.loop-t-test.true in
    (its_near _ z _ h (corner w.After-corners_at-c) c.places_at-q.ensures c.sides_of-whole.ensures, its_turn _ z _ h (corner w.After-corners_at-c) c.places_at-q.ensures c.sides_of-whole.ensures)

pub spread_area-requires : goal.spread_area-requires
spread_area-requires c =
    let w = goal.at.spread_area-requires c in
    let h = c.loop-t-test.true in
    let d = its_area _ (fits w.At-loop-t) _ h (corner w.After-corners_at-c) c.places_at-q.ensures c.sides_of-whole.ensures c.area_of.ensures in
    record {
      below = rw (sums_long w.At-loop-t) (inside _ (fits w.At-loop-t) _ h (corner w.After-corners_at-c));
      by_index = λ i. S_room _ (fits w.At-loop-t) c.loop-t.t i h d c.loop-t.invariant.1.1;
    }

pub loop-t-preserved : goal.loop-t-preserved
loop-t-preserved c =
    let w = goal.at.loop-t-preserved c in
    let n = length c.args.g.now.mesh.x.now in
    let at = nodes_of c.corners_at-c.result in
    let h = c.loop-t-test.true in
    let z = fits w.At-loop-t in
    let inv = c.loop-t.invariant.1 in
    let s = its_floats _ z _ h (corner w.After-corners_at-c) c.places_at-q.ensures c.sides_of-whole.ensures c.floats_of-s.ensures in (
      omega arith,
      (
        c.spread.ensures
            ∙ ap (spread floating nan (past (0 * n) at) (three_of c.shares.result)) c.spread_advection.ensures
            ∙ sum_more _ z _ h (corner w.After-corners_at-c) (its_shares _ z _ h (corner w.After-corners_at-c) s c.means_at-m.ensures c.shares.ensures) (its_means _ z _ h (corner w.After-corners_at-c) s c.means_at-m.ensures) inv.0,
        c.spread_area.ensures
            ∙ area_more _ z _ h (corner w.After-corners_at-c) (its_area _ z _ h (corner w.After-corners_at-c) c.places_at-q.ensures c.sides_of-whole.ensures c.area_of.ensures) inv.1,
      ),
    )

pub returns : goal.returns
returns c =
    let g = its (goal.at.returns c).Start in
    let end : c.loop-t.t ≡ E g.mesh = omega arith in
    let v = c.loop-t.invariant.1 in
    (v.0 ∙ ap (sums_to g) end, v.1 ∙ ap (λ (t : ℕ). table (count g) (S_to g t)) end)

pub overflow_mul-n : goal.overflow_mul-n
overflow_mul-n c = run_fits 0 tt (fits (goal.at.overflow_mul-n c).At-loop-t).shape.sized.most_nodes

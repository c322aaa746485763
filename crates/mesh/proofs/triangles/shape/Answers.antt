use Prim.Native.Nat.{ℕ}
use mathlib.Core.Path.{◌≡◌, ap, ◌∙◌}
use mathlib.Core.Bool.{Bool}
use lib.IntN.{ℤ, pos}
use lib.Signed.{lt_z}
use mir.Syntax.{w64}
use mir.Val.{to_z, of_z}
use lib.ListN.{length}
use Rattle.lists.specs.Gather.{Three}
use Rattle.rows.specs.Scan.{row}
use Rattle.rows.proofs.ScanLaws.{row_passed}
use Rattle.rows.proofs.RefusalLaws.{stopped, went, accepts}
use Rattle.mesh.specs.Lent.{corners}
use Rattle.geometry.specs.Geometry.{all_near, near_d, nodes_of}
use Rattle.mesh.specs.Geometry.{sides}
use Rattle.mesh.specs.Rows.{all_below, row3, row4, row5, triangle_rows}
use Rattle.geometry.proofs.SizeLaws.{kept}
use Rattle.geometry.proofs.GeometryLaws.{near_d_lem}
use Rattle.mesh.proofs.SideLaws.{corners_read, sides_read}
use Rattle.mesh.proofs.RowLaws.{below_all}
use Rattle.mesh.proofs.triangles.shape.Goals as goal
use Rattle.mesh.proofs.triangles.shape.Goals.{After-corners_at-c, After-sides_of-s, After-all_near, After-twice_area}

-- the corners are those of triangle t
same : (c : After-corners_at-c) → nodes_of c.corners_at-c.result ≡ corners c.args.m.now.tri.now c.args.t
same c = corners_read _ _ c.requires.1 c.corners_at-c.ensures

-- and so what is asked of them is row 3
asked_3 : (c : After-corners_at-c) → let m = c.args.m.now in
    row (all_below (nodes_of c.corners_at-c.result) (length m.x.now)) 3 c.args.t ≡ row3 m.x.now m.y.now m.tri.now c.args.t
unfolding row3
asked_3 c = ap (λ (k : Three ℕ). row (all_below k (length c.args.m.now.x.now)) 3 c.args.t) (same c)

-- the sides are those of triangle t, and what is asked of them is row 4
its_sides : (c : After-sides_of-s) → let m = c.args.m.now in c.sides_of-s.result ≡ sides m.x.now m.y.now (corners m.tri.now c.args.t)
its_sides c = c.sides_of-s.ensures ∙ sides_read _ _ _ _ _ c.places_at.ensures (corners_read _ _ c.requires.1 c.corners_at-c.ensures)

asked_4 : (c : After-all_near) (e : let m = c.args.m.now in c.sides_of-s.result ≡ sides m.x.now m.y.now (corners m.tri.now c.args.t))
    → let m = c.args.m.now in row c.all_near.result 4 c.args.t ≡ row4 m.x.now m.y.now m.tri.now c.args.t
unfolding row4
asked_4 c e = ap (λ (b : Bool). row b 4 c.args.t) (c.all_near.ensures ∙ ap all_near e)

-- where row 4 accepts, D is what is asked of row 5
asked_5 : (c : After-twice_area) → let m = c.args.m.now in let s = sides m.x.now m.y.now (corners m.tri.now c.args.t) in
    c.sides_of-s.result ≡ s → (row4 m.x.now m.y.now m.tri.now c.args.t).number ≡ 0
    → row (lt_z (pos 0) (to_z w64 (of_z w64 c.twice_area.result))) 5 c.args.t ≡ row5 m.x.now m.y.now m.tri.now c.args.t
unfolding row4 row5
asked_5 c e accepted =
    let d = kept c.twice_area.type_inv (c.twice_area.ensures ∙ ap near_d e ∙ near_d_lem _ (row_passed _ 3 c.args.t accepted)) in
    ap (λ (v : ℤ). row (lt_z (pos 0) v) 5 c.args.t) d

pub places_at-requires : goal.places_at-requires
unfolding all_below
places_at-requires c = (c.requires.0, below_all _ _ (row_passed _ 2 c.args.t (accepts c.in_ok-tested.ensures)))

pub returns-in_err-tested : goal.returns-in_err-tested
unfolding triangle_rows all_below
returns-in_err-tested c = stopped _ _ _ c.from_residual.ensures.1 (c.in_err-tested.ensures ∙ asked_3 (goal.at.returns-in_err-tested c).After-corners_at-c)

pub returns-in_err-tested-2 : goal.returns-in_err-tested-2
unfolding triangle_rows all_below
returns-in_err-tested-2 c =
    let at = goal.at.returns-in_err-tested-2 c in
    let row_4 = asked_4 at.After-all_near (its_sides at.After-sides_of-s) in
    went (c.in_ok-tested.ensures ∙ asked_3 at.After-corners_at-c) (stopped _ _ _ c.from_residual-in_err-tested-2.ensures.1 (c.in_err-tested-2.ensures ∙ row_4))

pub returns : goal.returns
unfolding triangle_rows all_below
returns c =
    let at = goal.at.returns c in
    let its = its_sides at.After-sides_of-s in
    let row_4 = c.in_ok-tested-2.ensures ∙ asked_4 at.After-all_near its in
    went (c.in_ok-tested.ensures ∙ asked_3 at.After-corners_at-c) (went row_4 (c.tested-3.ensures ∙ asked_5 at.After-twice_area its (accepts row_4)))

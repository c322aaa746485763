use Prim.Native.Nat.{ℕ}
use mathlib.Core.Path.{◌≡◌, refl, sym, ap, ◌∙◌}
use mathlib.Core.List.{List}
use native.Mathlib.Omega.{arith}
use borrow.Author.Tests.{le-leb, lt-leb}
use mathlib.Core.Bool.{Bool, cond}
use mir.Syntax.{w32}
use Rattle.geometry.proofs.SizeLaws.{kept_as}
use Rattle.lists.specs.Table.{table}
use Rattle.lists.proofs.TableLaws.{up_none, fill_more, fill_all}
use Rattle.location.specs.declared.seeking.Point.{Point}
use Rattle.keeping.specs.Record.{east_field, north_field, count_in, point_in, points_in}
use Rattle.keeping.proofs.points.Invariants.{each}
use Rattle.keeping.proofs.points.Goals as goal
use Rattle.keeping.proofs.points.Goals.{After-loop-g}

pub loop-g-preserved : goal.loop-g-preserved
unfolding point_in
loop-g-preserved c =
    let i = c.loop-g.invariant in
    let here = c.point_at-q.ensures in
    let told = c.point_at-q.type_inv.1.1 in (
      omega arith,
      i.1,
      i.2,
      fill_more _ _ _ i.3 (omega arith) (kept_as w32 (record { sfits = told.0.1 }) (ap (λ (p : Point). p.x) here)),
      fill_more _ _ _ i.4 (omega arith) (kept_as w32 (record { sfits = told.1.0.1 }) (ap (λ (p : Point). p.y) here)),
    )

-- all 64 rows are read
abbrev b : (c : After-loop-g) → List ℕ
b c = c.args.kept.now

done : (c : After-loop-g) → c.loop-g.g ≡ 64
done c = omega arith

east : (c : After-loop-g) → c.loop-g.x ≡ table 64 (each (b c) east_field)
east c = fill_all _ _ _ c.loop-g.invariant.3 c.loop-g.invariant.1 (done c)

north : (c : After-loop-g) → c.loop-g.y ≡ table 64 (each (b c) north_field)
north c = fill_all _ _ _ c.loop-g.invariant.4 c.loop-g.invariant.2 (done c)

pub returns-then-all-le64 : goal.returns-then-all-le64
unfolding points_in
returns-then-all-le64 c =
    let n = c.count-all.ensures.0 in
    λ i. record {
      count = (n ∙ ap (λ (few : Bool). cond few (count_in (b (goal.at.returns-then-all-le64 c).After-loop-g)) 0) (sym (le-leb (count_in (b (goal.at.returns-then-all-le64 c).After-loop-g)) 64 (omega (arith, n, c.if-all-le64.true))))) i;
      x = east (goal.at.returns-then-all-le64 c).After-loop-g i;
      y = north (goal.at.returns-then-all-le64 c).After-loop-g i;
    }

pub returns-else-all-le64 : goal.returns-else-all-le64
unfolding points_in
returns-else-all-le64 c =
    let n = c.count-all.ensures.0 in
    λ i. record {
      count = sym (ap (λ (few : Bool). cond few (count_in (b (goal.at.returns-else-all-le64 c).After-loop-g)) 0) (lt-leb (count_in (b (goal.at.returns-else-all-le64 c).After-loop-g)) 64 (omega (arith, n, c.if-all-le64.false)))) i;
      x = east (goal.at.returns-else-all-le64 c).After-loop-g i;
      y = north (goal.at.returns-else-all-le64 c).After-loop-g i;
    }

pub loop-g-init : goal.loop-g-init
loop-g-init c = (omega arith, refl, refl, sym (up_none _ _), sym (up_none _ _))

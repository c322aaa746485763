use mathlib.Core.Path.{◌≡◌, ap, ◌∙◌}
use mathlib.Core.Bool.{Bool}
use Rattle.rows.specs.declared.Answer.{Answer}
use Rattle.rows.specs.Refusals.{answered_by}
use Rattle.rows.specs.Scan.{row, ◌then◌}
use Rattle.rows.proofs.ScanLaws.{then_rest}
use Rattle.rows.proofs.RefusalLaws.{stopped_by, made_by, went, accepts}
use Rattle.mesh.specs.Lent.{mesh_of}
use Rattle.nodes.specs.Rows.{mesh_rows}
use Rattle.mesh.proofs.ShapedLaws.{shaped, shaped_asked}
use Rattle.nodes.proofs.PartLaws.{mesh_parts}
use Rattle.bounds.specs.State.{row1_state, run_rows}
use Rattle.bounds.proofs.StateLaws.{long_state}
use Rattle.bounds.proofs.run_rows.Goals as goal
use Rattle.bounds.proofs.run_rows.Goals.{After-first}

-- what is asked before the mesh's rows
before : (g : _) (c : After-first g) → let a = c.args in let says = g.E.Says.says in
    mesh_rows (answered_by says c.first.result) (mesh_of a.m.now) a.p ≡ mesh_rows (answered_by says a.asked then row1_state (mesh_of a.m.now) a.state.now) (mesh_of a.m.now) a.p
before g c =
    let a = c.args in
    let long = c.tested-long.ensures ∙ ap (λ (b : Bool). row b 1 0) c.is_runs.ensures in
    ap (λ (b : Answer). mesh_rows b (mesh_of a.m.now) a.p) (c.first.ensures ∙ ap (λ (b : Answer). answered_by g.E.Says.says a.asked then b) long)

pub returns-in_err-mesh_rows : goal.returns-in_err-mesh_rows
unfolding run_rows
returns-in_err-mesh_rows g c =
    stopped_by g.met.E.Says.laws _ _ _ c.from_residual.ensures.1 (c.in_err-mesh_rows.ensures ∙ before g (goal.at.returns-in_err-mesh_rows g c).After-first)

pub nodes-requires : goal.nodes-requires
nodes-requires g c =
    let m = mesh_of c.args.m.now in
    let s = (mesh_parts _ m _ (accepts (c.in_ok-mesh_rows.ensures ∙ before g (goal.at.nodes-requires g c).After-first))).0 in
    ((shaped _ m s).sized.h, long_state m c.args.state.now (then_rest _ _ (shaped_asked _ m s)))

pub returns-in_err-nodes : goal.returns-in_err-nodes
unfolding run_rows
returns-in_err-nodes g c =
    went (c.in_ok-mesh_rows.ensures ∙ before g (goal.at.returns-in_err-nodes g c).After-first)
    (made_by g.met.E.Says.laws _ _ c.from_residual-in_err-nodes.ensures.1 c.in_err-nodes.ensures)

pub returns : goal.returns
unfolding run_rows
returns g c = went (c.in_ok-mesh_rows.ensures ∙ before g (goal.at.returns g c).After-first) c.in_ok-nodes.ensures

use mathlib.Core.Path.{◌∙◌}
use Rattle.rows.proofs.RefusalLaws.{stopped_by, made_by, went, accepts}
use Rattle.mesh.proofs.RowLaws.{sizes_of, lent_first_lem}
use Rattle.mesh.proofs.ShapedLaws.{lent_sized}
use Rattle.mesh.proofs.shape_rows.Goals as goal

pub returns-in_err-size_rows : goal.returns-in_err-size_rows
returns-in_err-size_rows g c =
    stopped_by g.met.E.Says.laws _ _ _ c.from_residual.ensures.1 (c.in_err-size_rows.ensures ∙ sizes_of _ _) ∙ lent_first_lem _ _

pub shapes-requires : goal.shapes-requires
shapes-requires g c = (lent_sized _ _ (accepts (c.in_ok-size_rows.ensures ∙ sizes_of _ _))).y

pub returns-in_err-shapes : goal.returns-in_err-shapes
returns-in_err-shapes g c =
    went (c.in_ok-size_rows.ensures ∙ sizes_of _ _)
    (made_by g.met.E.Says.laws _ _ c.from_residual-in_err-shapes.ensures.1 c.in_err-shapes.ensures)
    ∙ lent_first_lem _ _

pub returns : goal.returns
returns g c = went (c.in_ok-size_rows.ensures ∙ sizes_of _ _) c.in_ok-shapes.ensures ∙ lent_first_lem _ _

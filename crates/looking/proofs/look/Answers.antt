use Prim.Native.Nat.{◌*◌}
use mathlib.Core.Path.{◌≡◌, refl, sym, ap, ◌∙◌}
use mathlib.Core.Bool.{Bool}
use lib.Dec.{eqb}
use lib.ListN.{length}
use lib.Ieee.{binary64, of_bits}
use Rattle.rows.specs.declared.Answer.{Answer}
use Rattle.rows.specs.Scan.{row, ◌then◌}
use Rattle.rows.specs.Refusals.{answered}
use Rattle.rows.proofs.RefusalLaws.{refuses, accepts}
use Rattle.crossing.specs.Crossing.{signed}
use Rattle.mesh.specs.Rows.{size_rows}
use Rattle.location.specs.Survey.{sightings_of, survey_of}
use Rattle.location.proofs.SightLaws.{handed_back}
use Rattle.looking.specs.Lent.{lent_of, mesh_in, state_in}
use Rattle.looking.specs.Looking.{look_of}
use Rattle.looking.proofs.LookLaws.{elements_length, sizes_in, sizes_stop, sizes_fit}
use Rattle.looking.proofs.look.Goals as goal
use Rattle.looking.proofs.look.Goals.{After-size_rows}

-- rows 1 and 2 as they are asked
its : (c : After-size_rows) → answered c.size_rows.result ≡ sizes_in (lent_of c.args.lent.now)
its c =
    let b = lent_of c.args.lent.now in
    let nx = sym (elements_length 4 signed b.x) in
    let ns = sym (elements_length 8 (of_bits binary64) b.state) in
    let long = c.tested.ensures ∙ ap (λ (q : Bool). row q 1 0) (c.is_runs-long.ensures ∙ (λ i. eqb (ns i) (6 * nx i))) in
    let whole = c.whole_row-whole.ensures in
    c.size_rows.ensures
    ∙ (λ i. size_rows ((c.first.ensures ∙ (λ j. whole j then long j)) i) (nx i) (sym (elements_length 4 signed b.y) i) (sym (elements_length 2 (λ n. n) b.tri) i) (sym (elements_length 8 (of_bits binary64) b.h) i) (length b.kind))

pub returns-in_err-size_rows : goal.returns-in_err-size_rows
returns-in_err-size_rows c =
    let said = sym (ap answered c.in_err-size_rows.was) ∙ its (goal.at.returns-in_err-size_rows c).After-size_rows in
    ap sightings_of (handed_back _ _ c.from_residual.ensures.1)
    ∙ sizes_stop (lent_of c.args.lent.now) c.args.ps said (refuses c.in_err-size_rows.field-0.0 refl)

pub at_full_size-requires : goal.at_full_size-requires
at_full_size-requires c =
    sizes_fit (lent_of c.args.lent.now) (accepts (sym (ap answered c.in_ok-size_rows.was) ∙ its (goal.at.at_full_size-requires c).After-size_rows))

pub returns : goal.returns
unfolding look_of
returns c =
    let b = lent_of c.args.lent.now in
    c.at_full_size.ensures ∙ ap (λ (a : Answer). survey_of a (mesh_in b) b.p (state_in b) c.args.ps) c.whole_row-whole.ensures

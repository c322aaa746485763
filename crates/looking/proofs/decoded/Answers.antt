use mathlib.Core.Path.{◌∙◌}
use lib.Ieee.{binary64, of_bits}
use Rattle.rows.specs.Refusals.{answered}
use Rattle.mesh.specs.Lent.{mesh}
use Rattle.crossing.specs.Crossing.{signed}
use Rattle.location.specs.Survey.{survey_of}
use Rattle.looking.proofs.LookLaws.{part_whole}
use Rattle.looking.proofs.decoded.Goals as goal

pub returns : goal.returns
returns c =
    let a = c.args in
    let l = a.lent.now in
    let k = c.requires in
    c.survey.ensures
    ∙ (λ i.
    survey_of (answered a.asked)
    (mesh (part_whole 4 signed l.x.now _ c.ints_into.ensures k.holds_x i) (part_whole 4 signed l.y.now _ c.ints_into-2.ensures k.holds_y i)
    (part_whole 2 (λ n. n) l.tri.now _ c.words_into.ensures k.holds_tri i) (part_whole 8 (of_bits binary64) l.h.now _ c.floats_into.ensures k.holds_h i) l.kind.now)
    l.p (part_whole 8 (of_bits binary64) l.state.now _ c.floats_into-2.ensures k.holds_state i) a.ps)

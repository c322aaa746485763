use Rattle.std.proofs.Common.{drop_of_length-le, sym, ◌∙◌, arith}
use Rattle.grids.proofs.LeftLaws.{line_more, line_last, line_end}
use Rattle.grids.proofs.scanning.past_line.Goals as goal

pub returns-then-text-at-eq10 : goal.returns-then-text-at-eq10
returns-then-text-at-eq10 c = sym (line_last _ _ c.loop-at-test.true c.if-text-at-eq10.true) ∙ c.loop-at.invariant

pub loop-at-preserved : goal.loop-at-preserved
loop-at-preserved c = sym (line_more _ _ c.loop-at-test.true c.if-text-at-eq10.false) ∙ c.loop-at.invariant

pub returns : goal.returns
returns c =
    let text = c.args.text.now in
    drop_of_length-le text (omega arith) ∙ sym (drop_of_length-le text c.loop-at-test.false) ∙ sym (line_end _ _ c.loop-at-test.false) ∙ c.loop-at.invariant

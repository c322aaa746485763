use Rattle.std.proofs.Common.{drop, sym, refl, ap, ◌∙◌, arith, below_none, below_more}
use Rattle.grids.specs.Numbers.{after_first}
use Rattle.grids.specs.Grid.{node_line_rows}
use Rattle.grids.specs.Private.{after_lines}
use Rattle.grids.proofs.TextLaws.{ask_more, ask_hit, ask_none, after_more}
use Rattle.grids.proofs.RowLaws.{line_stands}
use Rattle.grids.proofs.asking.node_rows.Goals as goal

pub loop-i-init : goal.loop-i-init
unfolding after_lines
loop-i-init c = (refl, below_none _)

pub returns-in_err-at-clause-answer : goal.returns-in_err-at-clause-answer
returns-in_err-at-clause-answer c =
    let t = drop c.args.from c.args.text.now in
    line_stands _ _ c.from_residual.ensures.1
    (ask_hit node_line_rows t c.loop-i.i c.loop-i.invariant.0 _ c.in_err-at.ensures.answer c.args.n c.loop-i-test.true c.loop-i.invariant.1)

pub loop-i-preserved : goal.loop-i-preserved
loop-i-preserved c =
    let t = drop c.args.from c.args.text.now in (
      c.in_ok-at.ensures.left ∙ ap (after_first 10) c.loop-i.invariant.0 ∙ sym (after_more c.loop-i.i t),
      below_more _ _ c.loop-i.invariant.1 (ask_more node_line_rows t c.loop-i.i c.loop-i.invariant.0 c.in_ok-at.ensures.answer),
    )

pub returns-clause-answer : goal.returns-clause-answer
returns-clause-answer c = ask_none node_line_rows (drop c.args.from c.args.text.now) c.args.n (λ k h. c.loop-i.invariant.1 k (omega arith))

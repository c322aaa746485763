use Rattle.std.proofs.Common.{drop, sym, refl, ap, ◌∙◌, arith, below_none, below_more}
use Rattle.rows.proofs.RefusalLaws.{stands}
use Rattle.grids.specs.Numbers.{after_first}
use Rattle.grids.specs.Grid.{triangle_line_rows}
use Rattle.grids.specs.Private.{after_lines}
use Rattle.grids.proofs.TextLaws.{ask_more, ask_hit, ask_none, after_more}
use Rattle.grids.proofs.asking.triangle_rows.Goals as goal

pub loop-k-init : goal.loop-k-init
unfolding after_lines
loop-k-init c = (refl, below_none _)

pub returns-in_err-at : goal.returns-in_err-at
returns-in_err-at c =
    let a = c.args in
    stands _ _ c.from_residual.ensures.1
    (ask_hit (triangle_line_rows a.n) (drop a.from a.text.now) c.loop-k.k c.loop-k.invariant.0 _ c.in_err-at.ensures.answer a.e c.loop-k-test.true
    c.loop-k.invariant.1)

pub loop-k-preserved : goal.loop-k-preserved
loop-k-preserved c =
    let a = c.args in
    let t = drop a.from a.text.now in (
      c.in_ok-at.ensures.left ∙ ap (after_first 10) c.loop-k.invariant.0 ∙ sym (after_more c.loop-k.k t),
      below_more _ _ c.loop-k.invariant.1 (ask_more (triangle_line_rows a.n) t c.loop-k.k c.loop-k.invariant.0 c.in_ok-at.ensures.answer),
    )

pub returns : goal.returns
returns c =
    let a = c.args in
    ask_none (triangle_line_rows a.n) (drop a.from a.text.now) a.e (λ k h. c.loop-k.invariant.1 k (omega arith))

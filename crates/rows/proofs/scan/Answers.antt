use mathlib.Core.Path.{◌≡◌, sym, ap, ◌∙◌}
use native.Mathlib.Omega.{arith}
use borrow.Author.Count.{below_more}
use Rattle.rows.specs.Refusals.{answered}
use Rattle.rows.proofs.ScanLaws.{scan_none, scan_hit}
use Rattle.rows.proofs.RefusalLaws.{stands, refuses, accepts}
use Rattle.rows.proofs.scan.Goals as goal

pub returns-in_err-ask : goal.returns-in_err-ask
returns-in_err-ask g c f says =
    let i = c.loop-i.i in
    let here : answered c.ask.result ≡ f i = says i _ c.loop-i-test.true c.ask.ensures in
    let said = sym (ap answered c.in_err-ask.was) ∙ here in
    stands _ _ c.from_residual.ensures.1 said
    ∙ sym (scan_hit f c.args.n i c.loop-i-test.true (c.loop-i.invariant f says) (refuses _ said))

pub loop-i-preserved : goal.loop-i-preserved
loop-i-preserved g c f says =
    below_more _ _ (c.loop-i.invariant f says)
    (accepts (sym (ap answered c.in_ok-ask.was) ∙ says c.loop-i.i _ c.loop-i-test.true c.ask.ensures))

pub returns : goal.returns
returns g c f says = sym (scan_none f c.args.n (λ k h. c.loop-i.invariant f says k (omega arith)))

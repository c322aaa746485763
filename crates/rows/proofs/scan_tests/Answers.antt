use Prim.Native.Nat.{ℕ}
use mathlib.Core.Path.{◌≡◌, ap, ◌∙◌}
use native.Mathlib.Omega.{arith}
use lib.Dec.{eqb}
use Rattle.rows.specs.declared.Answer.{Answer}
use Rattle.rows.specs.Scan.{scan}
use Rattle.rows.proofs.ScanLaws.{all_none, all_more, all_accept}
use Rattle.rows.proofs.RefusalLaws.{answered_ok}
use Rattle.rows.proofs.scan_tests.Goals as goal

pub loop-i-init : goal.loop-i-init
loop-i-init g c f says = all_none f

pub loop-i-preserved : goal.loop-i-preserved
loop-i-preserved g c f says =
    all_more f c.loop-i.i (c.loop-i.invariant f says)
    (c.is_ok-all.ensures.value ∙ answered_ok _ ∙ ap (λ (a : Answer). eqb a.number 0) (says c.loop-i.i _ c.loop-i-test.true c.ask.ensures))

pub returns-then-all : goal.returns-then-all
returns-then-all g c f says =
    let whole : c.loop-i.i ≡ c.args.n = omega arith in
    all_accept f c.args.n (c.loop-i.invariant f says ∙ ap (λ (k : ℕ). eqb (scan f k).number 0) whole) c.if-all.true

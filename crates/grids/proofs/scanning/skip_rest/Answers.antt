use Rattle.std.proofs.Common.{◌≡◌, ℕ, length, drop, sym, ap, ◌∙◌, arith}
use Rattle.grids.proofs.LeftLaws.{space_more, space_none, space_end, front_there, front_end}
use Rattle.grids.proofs.scanning.skip_rest.Goals as goal

pub returns-then-byte-ne32 : goal.returns-then-byte-ne32
returns-then-byte-ne32 c =
    record {
      left = sym (space_none _ _ c.loop-at-test.true c.if-byte-ne32.true) ∙ c.loop-at.invariant;
      stop = front_there _ _ c.loop-at-test.true;
      within = omega arith;
    }

pub loop-at-preserved : goal.loop-at-preserved
loop-at-preserved c = sym (space_more _ _ c.loop-at-test.true c.if-byte-ne32.false) ∙ c.loop-at.invariant

pub returns : goal.returns
returns c =
    let text = c.args.text.now in
    let over : length text ≡ c.loop-at.at = omega arith in
    record {
      left = ap (λ (k : ℕ). drop k text) over ∙ sym (space_end _ _ c.loop-at-test.false) ∙ c.loop-at.invariant;
      stop = front_end text (length text) (omega arith);
      within = omega arith;
    }

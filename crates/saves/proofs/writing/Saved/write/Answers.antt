use mathlib.Core.Path.{◌≡◌, refl, ap, ◌∙◌}
use native.Mathlib.Omega.{arith}
use lib.ListN.{length}
use Rattle.frames.specs.Texts.{lines_to}
use Rattle.editions.specs.Lines.{edition2, line_count}
use Rattle.saves.specs.Private.{saved_by}
use Rattle.saves.proofs.LineLaws.{save_long}
use Rattle.saves.proofs.WriteLaws.{lines_start, so_far_long, put_next}
use Rattle.saves.proofs.writing.Saved.write.Goals as goal

pub loop-j-init : goal.loop-j-init
unfolding lines_to
loop-j-init c = (omega arith, refl, refl)

pub loop-j-preserved : goal.loop-j-preserved
loop-j-preserved c =
    let i = c.loop-j.invariant in
    put_next (saved_by c.args.self.now) c.args.text.now (omega arith) c.loop-j.j (omega arith) i.2 i.1 c.line_of.ensures c.put-at.ensures

pub shape_of-text : goal.shape_of-text
shape_of-text c =
    ap length c.loop-j.invariant.2 ∙ so_far_long (saved_by c.args.self.now) c.args.text.now (omega arith) c.loop-j.j (omega arith)

pub returns : goal.returns
returns c =
    let last : c.loop-j.j ≡ line_count edition2 c.args.self.now.n = omega arith in
    c.loop-j.invariant.2 ∙ rw (last, lines_start (saved_by c.args.self.now) (line_count edition2 c.args.self.now.n), save_long c.args.self.now.n)

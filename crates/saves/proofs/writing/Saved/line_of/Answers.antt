use mathlib.Core.Path.{refl, ap, ◌∙◌}
use native.Mathlib.Omega.{arith}
use Rattle.frames.specs.Frames.{text}
use Rattle.lines.specs.Building.{holding}
use Rattle.saves.specs.Private.{saved_by}
use Rattle.saves.proofs.LineLaws.{node_line_lem, end_line}
use Rattle.saves.proofs.writing.Saved.line_of.Goals as goal

pub returns-then-j-eq0 : goal.returns-then-j-eq0
returns-then-j-eq0 c = rw (c.head_line.ensures, c.if-j-eq0.true) refl

pub returns-then-j-eq1 : goal.returns-then-j-eq1
returns-then-j-eq1 c = rw (c.run_line.ensures, c.if-j-eq1.true) refl

pub returns-then-j-self : goal.returns-then-j-self
returns-then-j-self c =
    c.node_line.ensures ∙ ap (λ f. holding (text f)) (node_line_lem (saved_by c.args.self.now) c.args.j (omega arith) (omega arith))

pub returns-else-j-self : goal.returns-else-j-self
returns-else-j-self c =
    c.end_line.ensures ∙ ap (λ f. holding (text f)) (end_line (saved_by c.args.self.now) c.args.j (omega arith))

pub node_line-requires : goal.node_line-requires
node_line-requires c = (omega arith, c.requires.0, c.requires.1)

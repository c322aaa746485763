use mathlib.Core.List.{[], ◌∷◌}
use lib.Dec.{lit<}
use Rattle.frames.specs.Frames.{line}
use Rattle.lines.specs.Building.{with_fields}
use Rattle.lines.proofs.WholeLaws.{built}
use Rattle.editions.specs.Lines.{head2}
use Rattle.saves.proofs.writing.Saved.head_line.Goals as goal

pub returns : goal.returns
unfolding with_fields
returns c =
    let a = c.args.self.now in
    rw (c.seal.ensures, c.append-2.ensures, c.append-counts.ensures, c.append.ensures, c.begin.ensures, c.byte.ensures)
    (built (line head2 0 (a.n ∷ a.e ∷ a.clock.step ∷ [])) (lit< tt))

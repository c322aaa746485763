use Prim.Native.Nat.{◌+◌}
use mathlib.Core.List.{[], ◌∷◌}
use lib.Dec.{lit<}
use Rattle.frames.specs.Frames.{line}
use Rattle.lines.specs.Building.{with_fields}
use Rattle.lines.proofs.WholeLaws.{built}
use Rattle.editions.specs.Lines.{end_layout}
use Rattle.saves.proofs.writing.Saved.end_line.Goals as goal

pub returns : goal.returns
unfolding with_fields
returns c =
    let n = c.args.self.now.n in
    rw (c.seal.ensures, c.append.ensures, c.begin.ensures, c.byte.ensures) (built (line end_layout (n + 2) (n ∷ [])) (lit< tt))

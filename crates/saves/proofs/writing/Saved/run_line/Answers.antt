use lib.Dec.{lit<}
use Rattle.frames.specs.Frames.{line}
use Rattle.lines.specs.Building.{with_fields}
use Rattle.lines.proofs.WholeLaws.{built}
use Rattle.editions.specs.Lines.{run2}
use Rattle.saves.specs.Save.{run_values}
use Rattle.saves.proofs.writing.Saved.run_line.Goals as goal

-- each place is named for the parameter that was appended there last
pub returns : goal.returns
unfolding with_fields
returns c =
    let a = c.args.self.now in
    rw (c.seal.ensures, c.append.ensures, c.append-f.ensures, c.pattern_of-4.ensures, c.append-k.ensures, c.pattern_of-3.ensures)
    (rw (c.append-tau.ensures, c.pattern_of-2.ensures, c.append-dt.ensures, c.pattern_of.ensures, c.begin.ensures, c.byte.ensures)
    (built (line run2 1 (run_values a.p a.sum)) (lit< tt)))

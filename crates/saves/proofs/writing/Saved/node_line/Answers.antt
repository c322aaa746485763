use Prim.Native.Nat.{◌+◌}
use lib.Dec.{lit<}
use Rattle.frames.specs.Frames.{line}
use Rattle.lines.specs.Building.{with_fields}
use Rattle.lines.proofs.WholeLaws.{built}
use Rattle.editions.specs.Lines.{node2}
use Rattle.saves.specs.Save.{state_values}
use Rattle.saves.proofs.writing.Saved.node_line.Goals as goal

-- each place is named for the value that was appended there last
pub returns : goal.returns
unfolding with_fields
returns c =
    let a = c.args.self.now in
    rw (c.seal.ensures, c.append.ensures, c.pattern_of-6.ensures, c.append-wx.ensures, c.pattern_of-5.ensures)
    (rw (c.append-v.ensures, c.pattern_of-4.ensures, c.append-u.ensures, c.pattern_of-3.ensures)
    (rw (c.append-z.ensures, c.pattern_of-2.ensures, c.append-earlier.ensures, c.pattern_of.ensures, c.begin-begun.ensures, c.byte.ensures)
    (built (line node2 (c.args.i + 2) (state_values a.n a.state.now c.args.i)) (lit< tt))))

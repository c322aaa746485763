use Rattle.editions.specs.Editions.{lines_of}
use Rattle.loads.proofs.EditionLaws.{node_line_lem}
use Rattle.loads.proofs.loading.SaveText.node_text.Goals as goal

pub returns : goal.returns
returns c =
    let s = c.args.self.now in
    let its = c.measures_of-its.ensures in
    rw (c.part.ensures, its.head_bytes s.n, its.node_bytes) (node_line_lem (lines_of s.edition) s.n s.text.now c.args.i c.requires.0)

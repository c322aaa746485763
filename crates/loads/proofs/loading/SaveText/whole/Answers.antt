use mathlib.Core.Path.{sym}
use Rattle.editions.specs.Editions.{lines_of}
use Rattle.loads.proofs.EditionLaws.{all_lines}
use Rattle.loads.proofs.loading.SaveText.whole.Goals as goal

pub returns : goal.returns
returns c =
    let s = c.args.self.now in
    let its = c.measures_of-its.ensures in
    rw (its.head_bytes s.n, its.node_bytes) (sym (all_lines (lines_of s.edition) s.n))

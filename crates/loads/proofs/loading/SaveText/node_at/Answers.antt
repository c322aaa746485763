use Rattle.frames.specs.Reading.{values}
use Rattle.loads.proofs.EditionLaws.{node_fields_lem}
use Rattle.loads.proofs.loading.SaveText.node_at.Goals as goal

pub returns : goal.returns
unfolding values
returns c =
    let a = c.args in
    let s = a.self.now in
    rw (c.float_of-4.ensures, c.float_of-3.ensures, c.float_of-2.ensures, c.float_of.ensures, c.node_wind-wind.ensures, c.values-values.ensures, c.node_text.ensures, c.requires.3)
    (node_fields_lem s.edition s.n s.text.now a.h.now a.i)

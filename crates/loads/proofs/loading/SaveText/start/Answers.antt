use mathlib.Core.Path.{sym}
use native.Mathlib.Omega.{arith}
use Rattle.editions.specs.Editions.{lines_of}
use Rattle.loads.proofs.EditionLaws.{start_from, start_head}
use Rattle.loads.proofs.loading.SaveText.start.Goals as goal

pub returns-then-j-its : goal.returns-then-j-its
returns-then-j-its c =
    let s = c.args.self.now in
    start_head s.edition s.n c.args.j (omega (arith, c.if-j-its.true, c.measures_of-its.ensures.heads))

pub returns : goal.returns
returns c =
    let s = c.args.self.now in
    let its = c.measures_of-its.ensures in
    rw (its.head_bytes s.n, its.node_bytes, its.heads)
    (sym (start_from (lines_of s.edition) s.n c.args.j (omega (arith, c.if-j-its.false, its.heads)) c.requires.1))

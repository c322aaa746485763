use Rattle.std.proofs.Common.{sym, ◌∙◌, arith, below_none, below_more}
use Rattle.location.specs.Location.{triangle_of}
use Rattle.location.proofs.LowestLaws.{lowest_hit}
use Rattle.location.proofs.SightLaws.{found_there, found_nowhere, is_there, is_nowhere}
use Rattle.location.proofs.seeking.locate.Goals as goal

pub contains-requires : goal.contains-requires
contains-requires c = record { same = c.requires.same; there = c.loop-t-test.true; sound = c.requires.by_index _ c.loop-t-test.true }

pub returns-then-contains : goal.returns-then-contains
unfolding triangle_of
returns-then-contains c =
    let lowest = lowest_hit _ _ _ c.loop-t-test.true c.loop-t.invariant (sym c.contains.ensures ∙ c.if-contains.true) in
    found_there (is_there _ _ _ _ lowest c.loop-t-test.true) lowest

pub loop-t-preserved : goal.loop-t-preserved
loop-t-preserved c =
    below_more _ _ c.loop-t.invariant (sym c.contains.ensures ∙ c.if-contains.false)

pub returns : goal.returns
returns c = found_nowhere _ (is_nowhere _ _ _ _ (λ k h. c.loop-t.invariant k (omega arith)))

pub loop-t-init : goal.loop-t-init
loop-t-init c = below_none _

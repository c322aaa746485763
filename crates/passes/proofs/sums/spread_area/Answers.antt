use Prim.Native.Nat.{ℕ, ◌+◌, ◌*◌, ◌^◌, ◌<◌}
use mathlib.Core.Path.{◌≡◌, ap, ◌∙◌}
use native.Mathlib.Omega.{arith}
use lib.ListN.{length, get_or}
use Rattle.lists.specs.Gather.{whole}
use Rattle.lists.specs.Private.{spread}
use Rattle.lists.proofs.GatherLaws.{length_added, added_le}
use Rattle.passes.proofs.sums.spread_area.Goals as goal
use Rattle.passes.proofs.sums.spread_area.Goals.{After-add_area, After-add_area-2}

-- ---- the list after one addition and after two: its length, and what is still free at each place
long1 : (c : After-add_area) → length c.add_area.new.sums ≡ length c.args.sums.now
long1 c = ap length c.add_area.ensures ∙ length_added whole 0 _ _ _

free1 : (c : After-add_area) (i : ℕ) → get_or c.add_area.new.sums i 0 + 2 * c.args.d < 2 ^ 53
free1 c i =
    rw c.add_area.ensures (omega (arith, added_le c.args.sums.now c.args.c.n1 c.args.d i c.requires.below.first, c.requires.by_index i))

long2 : (c : After-add_area-2) → length c.add_area-2.new.sums ≡ length c.args.sums.now
long2 c =
    let long1 : length c.add_area.new.sums ≡ length c.args.sums.now = ap length c.add_area.ensures ∙ length_added whole 0 _ _ _ in
    ap length c.add_area-2.ensures ∙ length_added whole 0 _ _ _ ∙ long1

free2 : (c : After-add_area-2) (i : ℕ) → get_or c.add_area-2.new.sums i 0 + c.args.d < 2 ^ 53
free2 c i =
    let long1 : length c.add_area.new.sums ≡ length c.args.sums.now = ap length c.add_area.ensures ∙ length_added whole 0 _ _ _ in
    let free1 : get_or c.add_area.new.sums i 0 + 2 * c.args.d < 2 ^ 53 = rw c.add_area.ensures (omega (arith, added_le c.args.sums.now c.args.c.n1 c.args.d i c.requires.below.first, c.requires.by_index i)) in
    rw c.add_area-2.ensures (omega (arith, added_le c.add_area.new.sums c.args.c.n2 c.args.d i (rw long1 c.requires.below.second), free1))

pub add_area-requires : goal.add_area-requires
add_area-requires c = (c.requires.below.first, omega (arith, c.requires.by_index c.args.c.n1))

pub add_area-requires-2 : goal.add_area-requires-2
add_area-requires-2 c =
    let w = goal.at.add_area-requires-2 c in
    (rw (long1 w.After-add_area) c.requires.below.second, omega (arith, free1 w.After-add_area c.args.c.n2))

pub add_area-requires-3 : goal.add_area-requires-3
add_area-requires-3 c =
    let w = goal.at.add_area-requires-3 c in
    (rw (long2 w.After-add_area-2) c.requires.below.third, free2 w.After-add_area-2 c.args.c.n3)

pub returns : goal.returns
unfolding spread
returns c =
    c.add_area-3.ensures ∙ rw (c.add_area-2.ensures, c.add_area.ensures)

-- Row 10 of a node: its six tests, together and apart.
use mathlib.Core.Path.{◌≡◌}
use mathlib.Core.Bool.{true, ◌&&◌}
use lib.Ieee.{le}
use Rattle.rows.specs.Numbers.{in_size}
use Rattle.rows.proofs.ScanLaws.{both_left, both_right}
use Rattle.quantities.specs.declared.Node.{Node}
use Rattle.quantities.specs.Operations.{◌⊕◌}
use Rattle.quantities.specs.Constants.{tenth}
use Rattle.limits.specs.Limits.{is_calm, held, in_bounds}

pub record Bounded (c : Node) : Type 0 where
  pub earlier : in_size 30 c.earlier ≡ true
  pub z : in_size 30 c.z ≡ true
  pub column : le tenth (c.h ⊕ c.z) ≡ true
  pub u : in_size 20 c.u ≡ true
  pub v : in_size 20 c.v ≡ true
  pub wind : is_calm (held c) ≡ true

pub all_bounded : (c : Node) → Bounded c → in_bounds c ≡ true
unfolding in_bounds
all_bounded c b = rw (b.earlier, b.z, b.column, b.u, b.v, b.wind)

pub each_bounded : (c : Node) → in_bounds c ≡ true → Bounded c
unfolding in_bounds
each_bounded c h =
    let a = in_size 30 c.earlier in
    let b = in_size 30 c.z in
    let deep = le tenth (c.h ⊕ c.z) in
    let u = in_size 20 c.u in
    let v = in_size 20 c.v in
    let calm = is_calm (held c) in
    let five = both_left (a && b && deep && u && v) calm h in
    let four = both_left (a && b && deep && u) v five in
    let three = both_left (a && b && deep) u four in
    let two = both_left (a && b) deep three in
    record {
      earlier = both_left a b two;
      z = both_right a b two;
      column = both_right (a && b) deep three;
      u = both_right (a && b && deep) u four;
      v = both_right (a && b && deep && u) v five;
      wind = both_right (a && b && deep && u && v) calm h;
    }

use Rattle.std.proofs.Common.{ℕ, ◌*◌, ◌≤◌, mul-le-mul, arith}
use Rattle.grids.proofs.fields.thousandths.Goals as goal

-- the decimals make less than a whole
below : (d u : ℕ) → d ≤ 999 → u ≤ 1000 → d * u ≤ 999000
below d u h k = mul-le-mul h k

pub returns : goal.returns
returns c =
    let b = below c.args.decimals c.unit.result (omega (arith, c.requires.1)) c.unit.ensures.1 in
    (rw c.unit.ensures.0, omega (arith, b, c.requires.0))

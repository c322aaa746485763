use Prim.Native.Nat.{ℕ, ◌^◌, ◌<◌}
use mathlib.Core.Path.{◌≡◌, ◌∙◌}
use mathlib.Core.Bool.{cond}
use native.Mathlib.Omega.{arith}
use borrow.Author.Tests.{lt-ltb, le-ltb}
use lib.Dec.{ltb}
use Rattle.std.specs.Prelude.{Option, Some, None, SomeIff}
use Rattle.std.specs.Option.{unwrap_or}
use Rattle.forcelog.specs.Log.{later}
use Rattle.forcelog.proofs.later.Goals as goal

counted : (o : Option ℕ) (lines n : ℕ) → SomeIff o (n < 2 ^ 64) n → unwrap_or o lines ≡ cond (ltb n (2 ^ 64)) n lines
counted None lines n h = rw (le-ltb n (2 ^ 64) (omega (arith, h)))
counted (Some k) lines n h = rw (lt-ltb n (2 ^ 64) h.0, h.1)

pub returns : goal.returns
unfolding later
returns c = c.unwrap_or.ensures ∙ counted c.checked_add.result c.args.lines _ c.checked_add.ensures

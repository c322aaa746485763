use Prim.Native.Nat.{ℕ, ◌<◌}
use mathlib.Core.Path.{◌≡◌}
use lib.Dec.{eqb}
use Rattle.rows.specs.declared.Answer.{Answer}
use Rattle.rows.specs.Scan.{scan}
use Rattle.rows.specs.Refusals.{answered}
use Rattle.rows.proofs.scan_tests.Given as goal

-- whatever the places answer, all is whether those before this one accept
abbrev pub invariant-loop-i : goal.invariant-loop-i
invariant-loop-i g l =
    (f : ℕ → Answer) → ((i : ℕ) (r : _) → i < l.n → goal.F-post g l.ask i r → answered r ≡ f i) → l.all ≡ eqb (scan f l.i).number 0

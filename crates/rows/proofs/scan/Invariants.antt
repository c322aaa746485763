use Prim.Native.Nat.{ℕ, ◌<◌}
use mathlib.Core.Path.{◌≡◌}
use Rattle.rows.specs.declared.Answer.{Answer}
use Rattle.rows.specs.Refusals.{answered}
use Rattle.rows.proofs.scan.Given as goal

-- whatever the places answer, those before this one accept
abbrev pub invariant-loop-i : goal.invariant-loop-i
invariant-loop-i g l =
    (f : ℕ → Answer) → ((i : ℕ) (r : _) → i < l.n → goal.F-post g l.ask i r → answered r ≡ f i) → (k : ℕ) → k < l.i → (f k).number ≡ 0

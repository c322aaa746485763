use Prim.Native.Nat.{ℕ, ◌+◌, ◌≤◌}
use mathlib.Core.Path.{◌≡◌}
use lib.ListN.{length}
use Rattle.lists.specs.Private.{up_to}
use Rattle.crossing.specs.Crossing.{number_at}
use Rattle.crossing.proofs.CrossLaws.{element}
use Rattle.crossing.proofs.decoded_into.Given as goal

abbrev pub invariant-loop-i : goal.invariant-loop-i
invariant-loop-i g l =
    (f : ℕ → _) → ((at : ℕ) (r : _) → at + l.width ≤ length l.from → goal.F-post g l.read at r → r ≡ f (number_at l.from at l.width))
    → l.to ≡ up_to l.i (element l.width f l.from) l.initial.to

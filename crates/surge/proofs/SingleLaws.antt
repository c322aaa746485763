-- A step, as a single call, is what the passes leave with the clock beside it: so a list of steps is a list of settlings.
use Prim.Native.Nat.{ℕ}
use mathlib.Core.Path.{◌≡◌, refl, ap}
use mathlib.Core.Bool.{Bool, true, false}
use mathlib.Core.List.{List}
use borrow.Author.Tests.{eqb-true, eqb-false}
use lib.Dec.{eqb}
use lib.Ieee.{Float}
use Rattle.quantities.specs.declared.Parameters.{Parameters}
use Rattle.limits.specs.Limits.{row11}
use Rattle.mesh.specs.Lent.{Mesh}
use Rattle.passes.specs.Settle.{Rooms, settle_of}
use Rattle.passes.specs.InTurn.{Called}
use Rattle.passes.specs.SettleAll.{settling}
use Rattle.surge.specs.Lent.{run}
use Rattle.surge.specs.Step.{StepOut}
use Rattle.surge.specs.StepAll.{single_step}
use Rattle.surge.proofs.StepLaws.{made}

module _ (m : Mesh) (p : Parameters) where
  single_at : (state : List Float) (step : ℕ) (f : List Float) (r : Rooms) → settling m p state step f r ≡ single_step m p state step f r
  single_at state step f r = go (eqb (settle_of m p state f (row11 step) r).answer.number 0) refl
    where
      called : StepOut → Called
      called o = record { answer = o.reply.answer; step = o.reply.clock.step; rooms = o.rooms }

      go : (b : Bool) → eqb (settle_of m p state f (row11 step) r).answer.number 0 ≡ b → settling m p state step f r ≡ single_step m p state step f r
      go true e = rw e (ap called ((made m p (run state (record { step = step })) f r).accepted (eqb-true _ _ e)).1)
      go false e = rw e (ap called ((made m p (run state (record { step = step })) f r).refused (eqb-false _ _ e)))

  pub same_single : settling m p ≡ single_step m p
  same_single = λ i state step f r. single_at state step f r i

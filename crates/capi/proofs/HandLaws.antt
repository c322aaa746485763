-- A reply that was handed back number by number stands for the reply of the call.
use Prim.Native.Nat.{ℕ}
use mathlib.Core.Path.{◌≡◌, ap, ◌∙◌}
use mathlib.Core.List.{List}
use lib.Ieee.{Float}
use Rattle.surge.specs.Lent.{Reply, After, after}
use Rattle.surge.specs.Step.{StepOut, step_out}
use Rattle.surge.specs.StepAll.{list_out}
use Rattle.passes.specs.InTurn.{Turns}
use Rattle.capi.specs.Numbers.{list_reply}

module _ (handed r : Reply) (same : handed ≡ r) where
  pub after_handed : (state : List Float) (out : After) → after r state ≡ out → after handed state ≡ out
  after_handed state out e = ap (λ (k : Reply). after k state) same ∙ e

  pub step_handed : (next work : List Float) (sums : List ℕ) (out : StepOut) → step_out r next work sums ≡ out → step_out handed next work sums ≡ out
  step_handed next work sums out e = ap (λ (k : Reply). step_out k next work sums) same ∙ e

  pub list_handed : (accepted : ℕ) (next work : List Float) (sums : List ℕ) (out : Turns) → list_out (list_reply r accepted) next work sums ≡ out
      → list_out (list_reply handed accepted) next work sums ≡ out
  list_handed accepted next work sums out e = ap (λ (k : Reply). list_out (list_reply k accepted) next work sums) same ∙ e

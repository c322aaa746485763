-- What a function's contract says, as it is read from the source: its clauses, one assertion each, at the closed model of the logic. An assertion that a clause
-- of this product makes is a plain fact; several clauses are joined, and a function with none says nothing.
use base.Logic.{SProp, sep, emp}
use contract.Monad.{Fun, fact}
use denote.Triple.Clauses.{Ended, Clauses, AtExit}
use denote.Triple.Entry.{Args, Res}
use contract.Lifetimes.{Lfts}
use prog.Memory.{Memory}
use prog.Routine.{Routine}
use types.Logic.{Logic}
use borrow.Fn.World.{Pr, w₀}

-- an assertion by what it says
pub data Plain : Pr w₀ → Type 2 where
  says : (φ : Type 0) → Plain (fact w₀.𝓤 φ)
  both : {P Q : Pr w₀} → Plain P → Plain Q → Plain (sep w₀.𝓤 P Q)
  nothing : Plain (emp w₀.𝓤)

-- and the fact that it says
abbrev pub told : {P : Pr w₀} → Plain P → Type 0
told (says φ) = φ
told (both p q) = told p × told q
told nothing = Unit {0}

-- the closed model, as a contract takes it
abbrev pub 𝓛₀ : Logic w₀.𝓤
𝓛₀ = w₀.𝓛

abbrev pub mem₀ : Memory → SProp w₀.𝓤
mem₀ = w₀.𝓜.mem

abbrev pub run₀ : Routine → Fun w₀.𝓤
run₀ = w₀.𝓡.returns

-- T is a function's parameters and result, and c its contract: κs are its lifetimes, a its arguments, g a ghost value (there is one: none), x its result and s
-- the arguments as they are left. What its `requires` and its `ensures` say
module _ (T : Ended) (c : Clauses w₀.𝓤 T) where
  abbrev pub Requires : Type 2
  Requires = (κs : Lfts T.signature.lifetimes) (a : Args T.signature κs) (g : (c κs a).ghost) → Plain ((c κs a).requires g)

  abbrev pub Ensures : Type 2
  Ensures = (κs : Lfts T.signature.lifetimes) (a : Args T.signature κs) (g : (c κs a).ghost) (x : Res T.signature κs) (s : AtExit T κs)
      → Plain ((c κs a).ensures g x s)

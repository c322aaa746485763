-- Demand 2: "An accepted step gives, at each node and to the last bit, the elevation and velocity of the 2004 ADCIRC report's equations in our lumped
-- explicit form, taken in the operation order we wrote down. A saved text is the one our frame rules give, and loading it on the same mesh with the same
-- parameters returns the same bits."
-- What a call leaves is its definition, on all inputs: each outcome that meets the contract of the product's call, or of the call for C, is the one that
-- the definition gives. What an accepted one gives is read in Demand1 (`next_state`, `accepted`), that a load returns the same bits in RoundTrip.
use Rattle.std.specs.Prelude.{ℕ, ◌^◌, ◌≤◌, ◌<◌, ◌≡◌, List, pos, nat_abs, Float}
use Rattle.quantities.specs.declared.Parameters.{Parameters}
use Rattle.geometry.specs.declared.WholeSides.{WholeSides}
use Rattle.geometry.specs.Geometry.{D, Lossless}
use Rattle.mesh.specs.Lent.{Mesh, E, corners}
use Rattle.mesh.specs.Geometry.{sides, S}
use Rattle.surge.specs.Open.{open_answer, open_of}
use Rattle.surge.specs.Step.{step_of}
use Rattle.surge.specs.StepAll.{step_all_of}
use Rattle.saves.specs.Save.{save_of}
use Rattle.loads.specs.Load.{load_of}
use Rattle.forcings.specs.Forcings.{taken_of}
use Rattle.demands.specs.CallContracts.{Opening, Stepping, SteppingAll, Saving, Loading, Reading, OpeningC, SteppingC, SteppingAllC, SavingC, LoadingC, ReadingC}
use Rattle.demands.specs.Demand1.{Accepts}

pub record Demand2 : Type 0 where
  pub surge_open : Opening (λ m p state o. o ≡ open_of m p state)
  pub surge_step : Stepping (λ m p s f r o. o ≡ step_of m p s f r)
  pub surge_step_all : SteppingAll (λ m p s l r o. o ≡ step_all_of m p s l r)
  pub saves_save : Saving (λ m p state k t o. o ≡ save_of m p state k t)
  pub loads_load : Loading (λ m p t state k o. o ≡ load_of m p t state k)
  pub forcings_read_forcing : Reading (λ room t expected o. o ≡ taken_of room t expected)
  pub capi_surge_open : OpeningC (λ m p state o. o ≡ open_of m p state)
  pub capi_surge_step : SteppingC (λ m p s f r o. o ≡ step_of m p s f r)
  pub capi_surge_step_all : SteppingAllC (λ m p s l r o. o ≡ step_all_of m p s l r)
  pub capi_surge_save : SavingC (λ m p state k t o. o ≡ save_of m p state k t)
  pub capi_surge_load : LoadingC (λ m p t state k o. o ≡ load_of m p t state k)
  pub capi_surge_read_forcing : ReadingC (λ room t expected o. o ≡ taken_of room t expected)

-- ---- "Each |a|, |b| is at most 100,000, so D is at most 2·10^10, a node's sum S of D over its triangles fits 53 bits, and all become floats without loss."

pub record SidesLossless (s : WholeSides) : Type 0 where
  pub a1 : Lossless s.a1
  pub a2 : Lossless s.a2
  pub a3 : Lossless s.a3
  pub b1 : Lossless s.b1
  pub b2 : Lossless s.b2
  pub b3 : Lossless s.b3
  pub d : Lossless (D s)
  pub d_size : nat_abs (D s) ≤ 20000000000

-- on a mesh that opening accepts: of every triangle, and of every node
pub record MeshLossless (m : Mesh) : Type 0 where
  pub triangles : (t : ℕ) → t < E m → SidesLossless (sides m.x m.y (corners m.tri t))
  pub sums : (i : ℕ) → (S m.x m.y m.tri i < 2 ^ 53) × Lossless (pos (S m.x m.y m.tri i))

abbrev pub FloatsWithoutLoss : Type 0
FloatsWithoutLoss = (m : Mesh) (p : Parameters) (state : List Float) → Accepts (open_answer m p state) → MeshLossless m

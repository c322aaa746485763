-- Document 02, #104: "A digit now means the same in either case, in forcing lines and in loads. We still write upper case. A save has many readable
-- spellings and one written form." Demand 3 "still speaks of texts saved by us and unaltered": nothing here touches it.
use Rattle.std.specs.Prelude.{ℕ, ◌*◌, ◌≡◌, List, length, Float}
use Rattle.quantities.specs.declared.Parameters.{Parameters}
use Rattle.frames.specs.Spelling.{Spells}
use Rattle.surge.specs.declared.Clock.{Clock}
use Rattle.mesh.specs.Lent.{Mesh, N}
use Rattle.bounds.specs.State.{state_runs}
use Rattle.forcings.specs.Forcings.{taken_of}
use Rattle.editions.specs.Lines.{edition2, edition_of}
use Rattle.saves.specs.Save.{saved_of, save_text, save_of}
use Rattle.loads.specs.Load.{load_of}
use Rattle.loads.specs.Storable.{StorableState, StorableClock, StorableParameters}
use Rattle.demands.specs.CallContracts.{Loading, Reading, LoadingC, ReadingC}
use Rattle.demands.specs.Demand1.{Accepts}
use Rattle.demands.specs.RoundTrip.{written, gives}

-- "A digit now means the same in either case, in forcing lines and in loads": every outcome that meets the contract of a call that reads a text, or of the
-- call for C, is the one that each spelling of the text has. The text may be anyone's, right or damaged, and all else lent anything.
pub record EitherCase : Type 0 where
  pub loads_load : Loading (λ m p t state k o. (s : List ℕ) → Spells s t → o ≡ load_of m p s state k)
  pub forcings_read_forcing : Reading (λ room t expected o. (s : List ℕ) → Spells s t → o ≡ taken_of room s expected)
  pub capi_surge_load : LoadingC (λ m p t state k o. (s : List ℕ) → Spells s t → o ≡ load_of m p s state k)
  pub capi_surge_read_forcing : ReadingC (λ room t expected o. (s : List ℕ) → Spells s t → o ≡ taken_of room s expected)

-- ---- "A save has many readable spellings and one written form."
-- The texts that load to a run's bits, over every state of 6N and every clock.
abbrev pub LoadsTo : Mesh → Parameters → List Float → Clock → List ℕ → Type 0
LoadsTo m p state k t = (old : List Float) (other : Clock) → length old ≡ state_runs * N m → load_of m p t old other ≡ gives state k

-- The texts that a save writes: on a mesh, of a run whose numbers are a program's and into a room, whichever.
pub record SaveWrites (t : List ℕ) : Type 0 where
  pub mesh : Mesh
  pub parameters : Parameters
  pub state : List Float
  pub clock : Clock
  pub room : List ℕ
  pub storable_state : StorableState (N mesh) state
  pub storable_clock : StorableClock clock
  pub storable_parameters : StorableParameters parameters
  pub accepts : Accepts (save_of mesh parameters state clock room).answer
  pub text : written (save_of mesh parameters state clock room) ≡ t

-- Of all texts that load to a run's bits w is the one that a save writes.
pub record OnlyForm (m : Mesh) (p : Parameters) (state : List Float) (k : Clock) (w : List ℕ) : Type 0 where
  pub is_written : SaveWrites w
  pub is_loaded : LoadsTo m p state k w
  pub no_other : (t : List ℕ) → SaveWrites t → LoadsTo m p state k t → t ≡ w
  -- The texts of edition 2 that load to the run's bits are the spellings of w: each of them does, and no other text.
  pub every_spelling : (t : List ℕ) → Spells t w → LoadsTo m p state k t
  pub no_other_spelling : (t : List ℕ) → edition_of t ≡ edition2 → LoadsTo m p state k t → Spells t w

pub record ManySpellingsOneForm : Type 0 where
  -- Every spelling of a saved text loads as that text does, on all meshes, states and clocks, those of other runs among them.
  pub spellings : (m : Mesh) (p : Parameters) (state : List Float) (k : Clock) (room : List ℕ) (t : List ℕ) → Spells t (written (save_of m p state k room))
      → (m' : Mesh) (p' : Parameters) (old : List Float) (other : Clock) → load_of m' p' t old other ≡ load_of m' p' (written (save_of m p state k room)) old other
  -- A run to which any text loads, whoever wrote it and in either edition, has one form: the text of edition 2's rules.
  pub one_form : (m : Mesh) (p : Parameters) (state : List Float) (k : Clock) (t : List ℕ) → StorableParameters p → LoadsTo m p state k t
      → OnlyForm m p state k (save_text (saved_of m p state k))

-- The round trip: a save and a load give back the run, bit by bit. Two floats are the same here where they have the same pattern (+0 is not -0, and all
-- NaN are one); StorableState, StorableClock and StorableParameters say of a run that its numbers are binary64 and its step number a u32, as every f64 and u32 of a
-- program is.
use Rattle.std.specs.Prelude.{ℕ, ◌*◌, ◌≤◌, ◌≡◌, List, length, take, Float}
use Rattle.rows.specs.Scan.{accepted}
use Rattle.quantities.specs.declared.Parameters.{Parameters}
use Rattle.surge.specs.declared.Clock.{Clock}
use Rattle.mesh.specs.Lent.{Mesh, N}
use Rattle.bounds.specs.State.{state_runs}
use Rattle.surge.specs.Lent.{After, after}
use Rattle.editions.specs.Lines.{save_length}
use Rattle.saves.specs.Save.{Saved, SaveOut, save_text, save_of, wrote}
use Rattle.loads.specs.Load.{load_of}
use Rattle.loads.specs.Storable.{StorableState, StorableClock, StorableParameters}
use Rattle.demands.specs.Demand1.{Accepts}

-- the text that a save wrote: as many bytes as its place says
abbrev pub written : SaveOut → List ℕ
written o = take o.answer.place o.text

-- what a load leaves that gives this run
abbrev pub gives : List Float → Clock → After
gives state k = after (record { answer = accepted; clock = k }) state

-- The text of an accepted save, loaded over any state of 6N and any clock, is accepted, and gives the state and the clock that were saved.
abbrev pub SavedIsLoaded : Type 0
SavedIsLoaded =
    (m : Mesh) (p : Parameters) (state : List Float) (k : Clock) (room : List ℕ) (old : List Float) (other : Clock) →
    StorableState (N m) state → StorableClock k → StorableParameters p → length old ≡ state_runs * N m → Accepts (save_of m p state k room).answer →
    load_of m p (written (save_of m p state k room)) old other ≡ gives state k

-- Two runs on meshes of N nodes that have the same text are the same run: a save leaves nothing out.
abbrev pub SameTextSameRun : Type 0
SameTextSameRun =
    (a b : Saved) → a.n ≡ b.n →
    StorableState a.n a.state → StorableState b.n b.state → StorableClock a.clock → StorableClock b.clock →
    save_text a ≡ save_text b → (a.state ≡ b.state) × (a.clock ≡ b.clock)

-- Whatever an accepted load gives, whoever wrote its text and in either edition, is saved into any room of 127+105N or more, and loaded again.
abbrev pub LoadedIsSaved : Type 0
LoadedIsSaved =
    (m : Mesh) (p : Parameters) (t : List ℕ) (state : List Float) (k : Clock) (room : List ℕ) (old : List Float) (other : Clock) →
    Accepts (load_of m p t state k).reply.answer → save_length (N m) ≤ length room → length old ≡ state_runs * N m → StorableParameters p →
    let run = load_of m p t state k in
    let save = save_of m p run.state run.reply.clock room in
    (save.answer ≡ wrote (save_length (N m))) × (load_of m p (written save) old other ≡ gives run.state run.reply.clock)

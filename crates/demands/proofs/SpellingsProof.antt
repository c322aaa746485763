-- #104: what reads a text reads it as it reads the text in upper case; and what a load takes is, in upper case, the save of what it gives.
use Prim.Native.Nat.{ℕ, ◌*◌}
use mathlib.Core.Path.{◌≡◌, sym, ap, subst, ◌∙◌}
use mathlib.Core.List.{List}
use native.Mathlib.Omega.{arith}
use lib.ListN.{length}
use lib.Ieee.{Float}
use Rattle.lists.proofs.TableLaws.{length_table}
use Rattle.quantities.specs.declared.Parameters.{Parameters}
use Rattle.frames.specs.Spelling.{in_upper, Spells}
use Rattle.frames.proofs.SpellingLaws.{alike}
use Rattle.surge.specs.declared.Clock.{Clock}
use Rattle.mesh.specs.Lent.{Mesh, N}
use Rattle.bounds.specs.State.{state_runs}
use Rattle.surge.specs.Lent.{After, cold_state, cold_clock}
use Rattle.forcings.specs.Forcings.{taken_of}
use Rattle.forcings.proofs.SpellingLaws.{taken_upper}
use Rattle.editions.specs.Lines.{edition2, edition_of}
use Rattle.saves.specs.Save.{saved_of, save_text}
use Rattle.saves.proofs.SaveLaws.{text_long, save_accepts, save_text_lem}
use Rattle.loads.specs.Load.{clock_in, load_answer, state_in, load_of}
use Rattle.loads.specs.Storable.{StorableParameters}
use Rattle.loads.proofs.LoadLaws.{took_text, load_took, loaded_rows}
use Rattle.loads.proofs.BackLaws.{edition_2}
use Rattle.loads.proofs.StorableLaws.{clock_storable, state_storable}
use Rattle.loads.proofs.OwnLaws as own
use Rattle.loads.proofs.SpellingLaws.{load_upper}
use Rattle.loads.proofs.WrittenLaws.{text_written}
use Rattle.demands.specs.RoundTrip.{gives}
use Rattle.demands.specs.Spellings.{EitherCase, LoadsTo, SaveWrites, OnlyForm, ManySpellingsOneForm}

-- ---- spellings of one text are read alike
load_alike : (m : Mesh) (p : Parameters) (s t : List ℕ) (state : List Float) (k : Clock) → Spells s t → load_of m p s state k ≡ load_of m p t state k
load_alike m p s t state k = alike (λ (u : List ℕ). load_of m p u state k) (λ u. load_upper m p u state k) s t

read_alike : (room : List Float) (s t : List ℕ) (expected : ℕ) → Spells s t → taken_of room s expected ≡ taken_of room t expected
read_alike room s t expected = alike (λ (u : List ℕ). taken_of room u expected) (λ u. taken_upper room u expected) s t

pub either_case : EitherCase
either_case = record {
  loads_load = λ κs a g x v met k s same. met k ∙ sym (load_alike _ _ _ _ _ _ same);
  forcings_read_forcing = λ κs a g x v met s same. met ∙ sym (read_alike _ _ _ _ same);
  capi_surge_load = λ κs a g x v met s same. met ∙ sym (load_alike _ _ _ _ _ _ same);
  capi_surge_read_forcing = λ κs a g x v met s same. met ∙ sym (read_alike _ _ _ _ same);
}

-- ---- a text that loads to a run
module _ (m : Mesh) (p : Parameters) (state : List Float) (k : Clock) (t : List ℕ) (loads : LoadsTo m p state k t) where
  abbrev n : ℕ
  n = N m

  long : length (cold_state n) ≡ state_runs * n
  long = length_table (state_runs * n) _

  -- loaded over a cold start
  given : load_of m p t (cold_state n) cold_clock ≡ gives state k
  given = loads (cold_state n) cold_clock long

  took : ((load_answer m p t (cold_state n)).number ≡ 0) × (load_of m p t (cold_state n) cold_clock ≡ took_text m p t (cold_state n))
  took = load_took m p t (cold_state n) cold_clock (rw given)

  -- the run is the one that is read of the text, in its edition
  its_run : (P : List Float → Clock → Type 0) → P (state_in (edition_of t) n t m.h) (clock_in (edition_of t) n t) → P state k
  its_run P h = subst (λ (r : After). P r.state r.reply.clock) (sym took.1 ∙ given) h

  -- in upper case a text of edition 2 is the run's save
  in_upper_lem : edition_of t ≡ edition2 → in_upper t ≡ save_text (saved_of m p state k)
  in_upper_lem two =
      its_run (λ (s : List Float) (c : Clock). in_upper t ≡ save_text (saved_of m p s c))
      (rw two (text_written m p t (cold_state n) two took.0))

  -- such a run is saved into any room that is long enough, and its save is loaded over any state of the right length
  module _ (sp : StorableParameters p) where
    saves_it : SaveWrites (save_text (saved_of m p state k))
    saves_it = its_run (λ (s : List Float) (c : Clock). SaveWrites (save_text (saved_of m p s c))) (
        let d = edition_of t in
        let s = state_in d n t m.h in
        let c = clock_in d n t in
        let room = save_text (saved_of m p s c) in
        let rows = loaded_rows m p t (cold_state n) took.0 in
        let done = save_accepts m p s c room rows (omega (arith, text_long (saved_of m p s c))) in
        record {
          mesh = m;
          parameters = p;
          state = s;
          clock = c;
          room = room;
          storable_state = state_storable d n t m.h;
          storable_clock = clock_storable d n t;
          storable_parameters = sp;
          accepts = done;
          text = save_text_lem m p s c room done;
        })

    loads_it : LoadsTo m p state k (save_text (saved_of m p state k))
    loads_it = its_run (λ (s : List Float) (c : Clock). LoadsTo m p s c (save_text (saved_of m p s c))) (
        let d = edition_of t in
        λ old other enough.
        own.load_own m p old enough _ _ (state_storable d n t m.h) (clock_storable d n t) sp (loaded_rows m p t (cold_state n) took.0) other)

-- ---- a text that a save writes is of edition 2, and in upper case: it is the save of what it loads to
module _ (t : List ℕ) (w : SaveWrites t) where
  its_text : save_text (saved_of w.mesh w.parameters w.state w.clock) ≡ t
  its_text = sym (save_text_lem w.mesh w.parameters w.state w.clock w.room w.accepts) ∙ w.text

  written_two : edition_of t ≡ edition2
  written_two = subst (λ (u : List ℕ). edition_of u ≡ edition2) its_text (edition_2 (saved_of w.mesh w.parameters w.state w.clock))

  written_loads : LoadsTo w.mesh w.parameters w.state w.clock t
  written_loads old other enough =
      let m = w.mesh in
      let p = w.parameters in
      ap (λ (u : List ℕ). load_of m p u old other) (sym w.text)
      ∙ own.saved_loaded m p old enough w.state w.clock w.storable_state w.storable_clock w.storable_parameters w.room w.accepts other

  written_upper : in_upper t ≡ t
  written_upper = in_upper_lem w.mesh w.parameters w.state w.clock t written_loads written_two ∙ its_text

only_form : (m : Mesh) (p : Parameters) (state : List Float) (k : Clock) (t : List ℕ) → StorableParameters p → LoadsTo m p state k t
    → OnlyForm m p state k (save_text (saved_of m p state k))
only_form m p state k t sp loads =
    let w = save_text (saved_of m p state k) in
    let its = loads_it m p state k t loads sp in
    let written = saves_it m p state k t loads sp in
    record {
      is_written = written;
      is_loaded = its;
      no_other = λ s is loads-s. sym (written_upper s is) ∙ in_upper_lem m p state k s loads-s (written_two s is);
      every_spelling = λ s same old other enough. load_alike m p s w old other same ∙ its old other enough;
      no_other_spelling = λ s two loads-s. in_upper_lem m p state k s loads-s two ∙ sym (in_upper_lem m p state k w its (written_two w written));
    }

pub many_spellings_one_form : ManySpellingsOneForm
many_spellings_one_form = record { spellings = λ m p state k room t same m' p' old other. load_alike m' p' t _ old other same; one_form = only_form }

-- The sequence of calls on mesh T that saves one text twice is as its statement says: each call worked out from the run before it.
use Prim.Native.Nat.{ℕ, ◌*◌}
use mathlib.Core.Path.{◌≡◌, refl, sym, ap, subst, ◌∙◌}
use mathlib.Core.Bool.{true, cond}
use mathlib.Core.List.{List, [], ◌∷◌, map}
use mathlib.Core.Option
use mathlib.Core.Option.{some, IsSome}
use lib.Dec.{T as Holds, eqb}
use lib.ListN.{length, take, get_or}
use lib.Ieee.{nan, eq}
use Rattle.rows.specs.Numbers.{decimal}
use Rattle.bounds.specs.State.{state_runs}
use Rattle.surge.specs.Lent.{Run}
use Rattle.saves.specs.Save.{save_of, wrote}
use Rattle.history.specs.History.{Reply, Written, step, save, load, Saved, History, begun, nth, latest, AllOwn, along, history}
use Rattle.history.proofs.Demand3.{latest_here, latest_past}
use Rattle.demands.specs.Demand3.{Weather, accepts, other, loaded, saved}
use Rattle.worked.specs.Examples.{T, T_parameters, T_rooms}
use Rattle.worked.specs.Computed.{on_t, east, lull, high, text_room, cold_text, east_text, sevens, twice, LatestHolds}
use Rattle.demands.proofs.Demand3Proof.{demand3_at_surge, any_save_at_surge, own_saves_load}
use Rattle.worked.proofs.ComputedProof.{T_storable, first, lulled, went, stepping, to_first, to_lulled, saves, having, to, is_1}
use Rattle.worked.proofs.Computing.{arithmetic, tables, the_rows, the_formulas, the_equations, the_calls}

-- ---- the calls
to_high : stepping on_t.cold high ≡ went first
unfolding arithmetic tables the_rows the_formulas the_equations the_calls
to_high = refl

cold_saves : (save_of T T_parameters on_t.cold.state on_t.cold.clock text_room).answer ≡ wrote 442
unfolding arithmetic tables the_rows the_calls
cold_saves = refl

cold_written : saved T T_parameters on_t.cold text_room ≡ record { accepted = true; text = cold_text }
unfolding cold_text
cold_written = λ i. record { accepted = accepts (cold_saves i); text = (saved T T_parameters on_t.cold text_room).text }

east_written : saved T T_parameters first text_room ≡ record { accepted = true; text = east_text }
unfolding east_text
east_written = λ i. record { accepted = accepts (saves i); text = (saved T T_parameters (sym is_1 i).held text_room).text }

-- each text loaded into the other slice, whatever run is held
sevens_long : length sevens ≡ state_runs * 3
unfolding tables
sevens_long = refl

gives_cold : (q : Run) → loaded T T_parameters q cold_text (other sevens) ≡ record { accepted = true; held = on_t.cold }
gives_cold q =
    ap (λ (w : Written). loaded T T_parameters q w.text (other sevens)) (sym cold_written)
    ∙ own_saves_load T T_parameters T_storable [] text_room q (other sevens) (ap (λ (w : Written). w.accepted) cold_written) sevens_long

gives_first : (q : Run) → loaded T T_parameters q east_text (other sevens) ≡ record { accepted = true; held = first }
unfolding east_text
gives_first q =
    own_saves_load T T_parameters T_storable (step east T_rooms ∷ []) text_room q (other sevens)
    (ap (λ (h : History on_t). (saved T T_parameters h.held text_room).accepted) is_1 ∙ ap (λ (w : Written). w.accepted) east_written) sevens_long
    ∙ ap (λ (h : History on_t). record { accepted = true; held = h.held }) is_1

-- the two texts differ, since their runs' step numbers do
differ : cold_text ≡ east_text → ⊥
differ e =
    let same : on_t.cold.clock.step ≡ first.clock.step =
    ap (λ (r : Reply Run). r.held.clock.step) (sym (gives_cold first) ∙ ap (λ (t : List ℕ). loaded T T_parameters first t (other sevens)) e ∙ gives_first first) in
    subst (λ (n : ℕ). Holds (eqb 0 n)) same tt

-- ---- the histories in turn
abbrev saving : History on_t → Written → History on_t
saving a w = record { held = a.held; path = a.path; saved = cond w.accepted (record { text = w.text; path = a.path } ∷ a.saved) a.saved }

abbrev cold_entry : Saved on_t
cold_entry = record { text = cold_text; path = [] }

abbrev entry : Weather → Saved on_t
entry f = record { text = east_text; path = f ∷ [] }

abbrev held_with : Run → List Weather → List (Saved on_t) → History on_t
held_with r p s = record { held = r; path = p; saved = s }

abbrev one : List (Saved on_t)
one = cold_entry ∷ []

abbrev two : List (Saved on_t)
two = entry east ∷ one

abbrev three : List (Saved on_t)
three = entry high ∷ two

abbrev up_to : ℕ → History on_t
up_to k = history on_t (take k twice)

is_saved_cold : up_to 1 ≡ held_with on_t.cold [] one
is_saved_cold = ap (saving (begun on_t)) cold_written

is_east : up_to 2 ≡ held_with first (east ∷ []) one
is_east = to (step east T_rooms) is_saved_cold ∙ ap (having (held_with on_t.cold [] one) east) to_first

is_saved_east : up_to 3 ≡ held_with first (east ∷ []) two
is_saved_east = to (save text_room) is_east ∙ ap (saving (held_with first (east ∷ []) one)) east_written

-- back to the cold start: its text is past the one that was saved after it
cold_found : latest on_t cold_text two ≡ some []
cold_found = latest_past on_t cold_text east_text (east ∷ []) one differ ∙ latest_here on_t cold_text [] []

is_cold_again : up_to 4 ≡ held_with on_t.cold [] two
is_cold_again =
    to (load cold_text (other sevens)) is_saved_east
    ∙ (λ i. held_with (gives_cold first i).held (cond (gives_cold first i).accepted (Option.get_or (cold_found i) (east ∷ [])) (east ∷ [])) two)

is_high : up_to 5 ≡ held_with first (high ∷ []) two
is_high = to (step high T_rooms) is_cold_again ∙ ap (having (held_with on_t.cold [] two) high) to_high

is_saved_high : up_to 6 ≡ held_with first (high ∷ []) three
is_saved_high = to (save text_room) is_high ∙ ap (saving (held_with first (high ∷ []) two)) east_written

is_lulled : up_to 7 ≡ held_with lulled (high ∷ lull ∷ []) three
is_lulled = to (step lull T_rooms) is_saved_high ∙ ap (having (held_with first (high ∷ []) three) lull) to_lulled

high_found : latest on_t east_text three ≡ some (high ∷ [])
high_found = latest_here on_t east_text (high ∷ []) two

is_end_lem : history on_t twice ≡ held_with first (high ∷ []) three
is_end_lem =
    to (load east_text (other sevens)) is_lulled
    ∙ (λ i. held_with (gives_first lulled i).held (cond (gives_first lulled i).accepted (Option.get_or (high_found i) (high ∷ lull ∷ [])) (high ∷ lull ∷ [])) three)

-- ---- the statement
own_twice : AllOwn on_t (begun on_t) twice
own_twice =
    let cold_there : IsSome (latest on_t cold_text (up_to 3).saved) =
    subst (λ (h : History on_t). IsSome (latest on_t cold_text h.saved)) (sym is_saved_east) (rw cold_found tt) in
    let high_there : IsSome (latest on_t east_text (up_to 7).saved) =
    subst (λ (h : History on_t). IsSome (latest on_t east_text h.saved)) (sym is_lulled) (rw high_found tt) in
    (tt, (tt, (tt, ((λ _. cold_there), (tt, (tt, (tt, ((λ _. high_there), tt))))))))

path_is : (history on_t twice).path ≡ high ∷ []
path_is = ap (λ (h : History on_t). h.path) is_end_lem

-- the elevations of the two forcings are 1 and 0
two_forcings : high ≡ east → ⊥
unfolding arithmetic
two_forcings e = subst (λ (w : Weather). Holds (eq (get_or w.forcing 0 nan) (decimal 1 1))) e tt

pub latest_holds : LatestHolds
latest_holds = record {
  own = own_twice;
  texts = ap (λ (h : History on_t). map (λ (s : Saved on_t). s.text) h.saved) is_end_lem;
  paths = ap (λ (h : History on_t). map (λ (s : Saved on_t). s.path) h.saved) is_end_lem;
  two_paths = two_forcings;
  path = path_is;
  held = demand3_at_surge T T_parameters T_storable twice own_twice ∙ ap (along on_t) path_is;
  same = any_save_at_surge T T_parameters T_storable twice own_twice 0 1 (entry high) (entry east) first_entries.0 first_entries.1 refl;
}
  where
    first_entries : (nth on_t 0 (history on_t twice).saved ≡ some (entry high)) × (nth on_t 1 (history on_t twice).saved ≡ some (entry east))
    first_entries = (ap (λ (h : History on_t). nth on_t 0 h.saved) is_end_lem, ap (λ (h : History on_t). nth on_t 1 h.saved) is_end_lem)

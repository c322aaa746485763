-- The sequence of calls on mesh T is as its statement says, by computation: each run in numbers, and each call worked out from the run before it.
use mathlib.Core.Path.{◌≡◌, refl, sym, ap, subst, ◌∙◌}
use mathlib.Core.Bool.{true, false, cond}
use mathlib.Core.List.{List, [], ◌∷◌, ◌++◌}
use mathlib.Core.Option
use mathlib.Core.Option.{some, IsSome}
use lib.IntN.{negsuc}
use lib.ListN.{get_or}
use lib.Ieee.{Float, fin, nan}
use Rattle.rows.specs.declared.Answer.{Answer}
use Rattle.lists.specs.Table.{table}
use Rattle.rows.specs.Numbers.{plus0, decimal}
use Rattle.rows.specs.Scan.{accepted, refused}
use Rattle.surge.specs.Lent.{Run, run, After}
use Rattle.surge.specs.Open.{open_of}
use Rattle.surge.specs.Step.{StepOut, step_of, step_out}
use Rattle.frames.specs.Frames.{bits}
use Rattle.saves.specs.Save.{save_of, wrote}
use Rattle.loads.specs.Load.{load_of}
use Rattle.loads.specs.Storable.{StorableParameters}
use Rattle.history.specs.History.{Written, Call, step, save, load, Saved, History, begun, latest, after, AllOwn, along}
use Rattle.history.proofs.Demand3.{latest_here}
use Rattle.demands.specs.Demand3.{Weather, accepts, itself, saved}
use Rattle.demands.specs.RoundTrip.{gives}
use Rattle.worked.specs.Examples.{Outcome, stepped, T, T_parameters, T_rooms}
use Rattle.worked.specs.Computed.{on_t, decimal_fits, east, north, lull, flood, text_room, text, calls, at, end, answer, ComputedHolds}
use Rattle.demands.proofs.Demand3Proof.{demand3_at_surge}
use Rattle.worked.proofs.Computing.{arithmetic, tables, the_rows, the_formulas, the_equations, the_frames, the_calls}

-- T's parameters are binary64
pub T_storable : StorableParameters T_parameters
T_storable = record { dt = decimal_fits 1 1; tau = decimal_fits 0 1; k = decimal_fits 0 1; f = decimal_fits 0 1 }

-- ---- the runs in numbers
abbrev three : Float → List Float
three v = v ∷ v ∷ v ∷ []

-- after the first step: U is 1/1024
abbrev pub first : Run
first = record {
  state = three plus0 ++ three plus0 ++ three (fin false 1 (negsuc 9)) ++ three plus0 ++ three (fin false 1 (negsuc 5)) ++ three plus0;
  clock = record { step = 1 };
}

abbrev z_second : List Float
z_second = fin true 1080863910568919 (negsuc 60) ∷ fin false 1080863910568919 (negsuc 60) ∷ plus0 ∷ []

abbrev u_second : Float
u_second = fin false 4397566877743685 (negsuc 60)

abbrev v_second : Float
v_second = fin true 6786095976115901 (negsuc 67)

-- after a second step without wind
abbrev pub lulled : Run
lulled = record {
  state = three plus0 ++ z_second ++ three u_second ++ three v_second ++ three plus0 ++ three plus0;
  clock = record { step = 2 };
}

-- after a second step with a wind at node 1 alone
abbrev turned : Run
turned = record {
  state = three plus0 ++ z_second ++ three u_second ++ (v_second ∷ fin false 8794606020827991 (negsuc 62) ∷ v_second ∷ [])
      ++ three plus0 ++ (plus0 ∷ fin false 1 (negsuc 5) ∷ plus0 ∷ []);
  clock = record { step = 2 };
}

-- a step's outcome where it is accepted: the run is taken up, and the work room is zero as it was
abbrev pub went : Run → StepOut
went r = step_out (record { answer = accepted; clock = r.clock }) r.state T_rooms.work T_rooms.sums

-- ---- each call, from the run before it in numbers
abbrev pub stepping : Run → Weather → StepOut
stepping r f = step_of T T_parameters r f.forcing T_rooms

opens : open_of T T_parameters (table 18 (λ _. decimal 7 1)) ≡ gives on_t.cold.state on_t.cold.clock
unfolding arithmetic tables the_rows the_calls
opens = refl

pub to_first : stepping on_t.cold east ≡ went first
unfolding arithmetic tables the_rows the_formulas the_equations the_calls
to_first = refl

floods : stepping first flood ≡ step_out (record { answer = refused 12 1; clock = first.clock }) T_rooms.next T_rooms.work T_rooms.sums
unfolding arithmetic tables the_rows the_calls
floods = refl

pub saves : (save_of T T_parameters first.state first.clock text_room).answer ≡ wrote 442
unfolding arithmetic tables the_rows the_calls
saves = refl

pub to_lulled : stepping first lull ≡ went lulled
unfolding arithmetic tables the_rows the_formulas the_equations the_calls
to_lulled = refl

loads : load_of T T_parameters (saved T T_parameters first text_room).text lulled.state lulled.clock ≡ gives first.state first.clock
unfolding arithmetic tables the_rows the_frames the_calls
loads = refl

to_turned : stepping first north ≡ went turned
unfolding arithmetic tables the_rows the_formulas the_equations the_calls
to_turned = refl

pattern_is : bits (get_or turned.state 6 nan) ≡ 4566437956654429322
unfolding arithmetic
pattern_is = refl

-- ---- the histories in turn
-- what is held after a step that leaves o
abbrev pub having : History on_t → Weather → StepOut → History on_t
having a f o =
    let ok = accepts o.reply.answer in
    record { held = run (cond ok o.rooms.next a.held.state) o.reply.clock; path = cond ok (a.path ++ (f ∷ [])) a.path; saved = a.saved }

pub to : (c : Call on_t) {a b : History on_t} → a ≡ b → after on_t a c ≡ after on_t b c
to c e = ap (λ (h : History on_t). after on_t h c) e

abbrev pub stepped_first : History on_t
stepped_first = record { held = first; path = east ∷ []; saved = [] }

is_0 : at 0 ≡ begun on_t
is_0 = refl

pub is_1 : at 1 ≡ stepped_first
is_1 = ap (having (begun on_t) east) to_first

is_2 : at 2 ≡ stepped_first
is_2 = to (step flood T_rooms) is_1 ∙ ap (having stepped_first flood) floods

-- the text is that of the first run
text_is : text ≡ (saved T T_parameters first text_room).text
unfolding text
text_is = ap (λ (h : History on_t). (saved T T_parameters h.held text_room).text) is_2

written : saved T T_parameters first text_room ≡ record { accepted = true; text = text }
written = λ i. record { accepted = accepts (saves i); text = sym text_is i }

abbrev kept : List (Saved on_t)
kept = record { text = text; path = east ∷ [] } ∷ []

abbrev saved_first : History on_t
saved_first = record { held = first; path = east ∷ []; saved = kept }

is_3 : at 3 ≡ saved_first
is_3 =
    to (save text_room) is_2
    ∙ ap (λ (w : Written). record { held = first; path = east ∷ []; saved = cond w.accepted (record { text = w.text; path = east ∷ [] } ∷ []) [] }) written

abbrev stepped_lull : History on_t
stepped_lull = record { held = lulled; path = east ∷ lull ∷ []; saved = kept }

is_4 : at 4 ≡ stepped_lull
is_4 = to (step lull T_rooms) is_3 ∙ ap (having saved_first lull) to_lulled

-- the text is found among what was saved
found : latest on_t text kept ≡ some (east ∷ [])
found = latest_here on_t text (east ∷ []) []

did_load : load_of T T_parameters text lulled.state lulled.clock ≡ gives first.state first.clock
did_load = rw text_is loads

is_5 : at 5 ≡ saved_first
is_5 =
    to (load text itself) is_4
    ∙ (λ i. record {
      held = run (did_load i).state (did_load i).reply.clock;
      path = cond (accepts (did_load i).reply.answer) (Option.get_or (found i) (east ∷ lull ∷ [])) (east ∷ lull ∷ []);
      saved = kept;
    })

is_6 : end ≡ record { held = turned; path = east ∷ north ∷ []; saved = kept }
is_6 = to (step north T_rooms) is_5 ∙ ap (having saved_first north) to_turned

-- ---- the statement
own_calls : AllOwn on_t (begun on_t) calls
own_calls =
    let here : IsSome (latest on_t text (at 4).saved) = subst (λ (h : History on_t). IsSome (latest on_t text h.saved)) (sym is_4) (rw found tt) in
    (tt, (tt, (tt, (tt, ((λ _. here), (tt, tt))))))

-- a line of the table
says : (c : Call on_t) {a a' b b' : History on_t} {s : Answer} → a ≡ a' → answer a'.held c ≡ s → b ≡ b'
    → stepped (answer a.held c) b.held.clock.step ≡ stepped s b'.held.clock.step
says c p q r = λ i. stepped ((ap (λ (h : History on_t). answer h.held c) p ∙ q) i) (r i).held.clock.step

also : {x y : Outcome} {xs ys : List Outcome} → x ≡ y → xs ≡ ys → ◌≡◌ {A = List Outcome} (x ∷ xs) (y ∷ ys)
also p ps = λ i. p i ∷ ps i

abbrev of_step : StepOut → Answer
of_step o = o.reply.answer

path_is : end.path ≡ east ∷ north ∷ []
path_is = ap (λ (h : History on_t). h.path) is_6

pub computed_holds : ComputedHolds
computed_holds = record {
  opens = opens;
  own = own_calls;
  answered =
      also (says (step east T_rooms) is_0 (ap of_step to_first) is_1)
      (also (says (step flood T_rooms) is_1 (ap of_step floods) is_2)
      (also (says (save text_room) is_2 saves is_3)
      (also (says (step lull T_rooms) is_3 (ap of_step to_lulled) is_4)
      (also (says (load text itself) is_4 (ap (λ (o : After). o.reply.answer) did_load) is_5)
      (also (says (step north T_rooms) is_5 (ap of_step to_turned) is_6) refl)))));
  refused_step = is_2 ∙ sym is_1;
  loaded_run = is_5 ∙ sym is_3;
  path = path_is;
  held = demand3_at_surge T T_parameters T_storable calls own_calls ∙ ap (along on_t) path_is;
  second = ap (λ (h : History on_t). h.held.clock.step) is_6;
  pattern = ap (λ (h : History on_t). bits (get_or h.held.state 6 nan)) is_6 ∙ pattern_is;
}

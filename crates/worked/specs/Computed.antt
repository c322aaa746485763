-- Three sequences of calls on mesh T, worked out call by call in the words of demand 3, so that what is said there of every sequence is seen to be said of one
-- that steps, is refused a step, saves, steps, loads what it saved, and steps again; of one that saves the same text twice, at different paths; and of one
-- that steps through a list (document 02, #107), which is refused on the way.
use Rattle.std.specs.Prelude.{ℕ, zero, suc, ◌<◌, ◌≡◌, false, List, [], ◌∷◌, ◌++◌, map, T as Holds, length, replicate, take, get_or, Float}
use Rattle.std.proofs.Common.{arith}
use Rattle.std.specs.Float.{binary64, nan}
use Rattle.std.specs.Float.Ieee.{fits}
use Rattle.std.specs.Float.Ieee.Fits.{nan-fits, round-fits}
use Rattle.rows.specs.declared.Answer.{Answer}
use Rattle.lists.specs.Table.{table, zeros}
use Rattle.rows.specs.Scan.{accepted, refused}
use Rattle.rows.specs.Numbers.{decimal}
use Rattle.surge.specs.Open.{open_of}
use Rattle.surge.specs.Lent.{Run}
use Rattle.surge.specs.Step.{step_of}
use Rattle.surge.specs.StepAll.{step_all_of}
use Rattle.passes.specs.Settle.{Rooms, lent_rooms}
use Rattle.frames.specs.Frames.{bits}
use Rattle.saves.specs.Save.{wrote, save_of}
use Rattle.loads.specs.Load.{load_of}
use Rattle.history.specs.History.{Calls, Call, step, save, load, step_all, Saved, History, begun, after, history, AllOwn, along}
use Rattle.demands.specs.Demand3.{Weather, WeatherList, itself, other, lent, saved, surge}
use Rattle.demands.specs.RoundTrip.{gives}
use Rattle.worked.specs.Examples.{Outcome, stepped, T, T_parameters, T_rooms}

-- demand 3's calls, of a run on T
abbrev pub on_t : Calls
on_t = surge T T_parameters

-- ---- the forcings
-- the binary64 nearest n / d is a binary64
pub decimal_fits : (n d : ℕ) → Holds (fits binary64 (decimal n d))
unfolding decimal
decimal_fits n d = round-fits binary64 false n d

-- a forcing of T: the elevation in whole metres, then Wx' and Wy' of its three nodes in 64ths
abbrev pub forcing_of : ℕ → List ℕ → List Float
forcing_of z winds = decimal z 1 ∷ map (λ (w : ℕ). decimal w 64) winds

-- and so is each of these
pub winds_fit : (winds : List ℕ) (j : ℕ) → Holds (fits binary64 (get_or (map (λ (w : ℕ). decimal w 64) winds) j nan))
winds_fit [] j = nan-fits binary64
winds_fit (w ∷ winds) zero = decimal_fits w 64
winds_fit (w ∷ winds) (suc j) = winds_fit winds j

pub forcing_fits : (z : ℕ) (winds : List ℕ) (j : ℕ) → Holds (fits binary64 (get_or (forcing_of z winds) j nan))
forcing_fits z winds zero = decimal_fits z 1
forcing_fits z winds (suc j) = winds_fit winds j

abbrev pub weather : ℕ → List ℕ → Weather
weather z winds = record { forcing = forcing_of z winds; values = λ j _. forcing_fits z winds j }

-- a wind of 1/64 to the east at every node, one to the north at node 1 alone, none, and an elevation beyond 30
abbrev pub east : Weather
east = weather 0 (1 ∷ 1 ∷ 1 ∷ 0 ∷ 0 ∷ 0 ∷ [])

abbrev pub north : Weather
north = weather 0 (0 ∷ 0 ∷ 0 ∷ 0 ∷ 1 ∷ 0 ∷ [])

abbrev pub lull : Weather
lull = weather 0 (replicate 6 0)

abbrev pub flood : Weather
flood = weather 31 (replicate 6 0)

-- ---- the calls
-- a room of 450 bytes, and the text that a save of the run held after the first two calls writes to it
abbrev pub text_room : List ℕ
text_room = replicate 450 0

unfoldable pub text : List ℕ
text = (saved T T_parameters (history on_t (step east T_rooms ∷ step flood T_rooms ∷ [])).held text_room).text

-- a call, and beside it what it answers, with the step number of the run that is held after it
pub record Line : Type 0 where
  pub call : Call on_t
  pub says : Outcome

abbrev pub line : Call on_t → Outcome → Line
line c s = record { call = c; says = s }

abbrev pub computed : List Line
computed =
    line (step east T_rooms) (stepped accepted 1)
    -- an elevation of 31 is refused
    ∷ line (step flood T_rooms) (stepped (refused 12 1) 1)
    -- 442 bytes are written
    ∷ line (save text_room) (stepped (wrote 442) 1)
    ∷ line (step lull T_rooms) (stepped accepted 2)
    -- back to the step number of the save
    ∷ line (load text itself) (stepped accepted 1)
    ∷ line (step north T_rooms) (stepped accepted 2)
    ∷ []

abbrev pub calls : List (Call on_t)
calls = map (λ (l : Line). l.call) computed

-- what is held after the first k of the calls (the run, its path, and what was saved), and after all of them
abbrev pub at : ℕ → History on_t
at k = history on_t (take k calls)

abbrev pub end : History on_t
end = history on_t calls

-- what a call answers on the run r, and what each call of a sequence answers in turn, with the step number of the run that is held after it
abbrev pub answer : Run → Call on_t → Answer
answer r (step f rooms) = (step_of T T_parameters r f.forcing rooms).reply.answer
answer r (save room) = (save_of T T_parameters r.state r.clock room).answer
answer r (load t into) = (load_of T T_parameters t (lent r into) r.clock).reply.answer
answer r (step_all l rooms) = (step_all_of T T_parameters r l.list rooms).last.answer

abbrev pub answers : History on_t → List (Call on_t) → List Outcome
answers a [] = []
answers a (c ∷ cs) = let b = after on_t a c in stepped (answer a.held c) b.held.clock.step ∷ answers b cs

-- ---- the statement
pub record ComputedHolds : Type 0 where
  -- opening T, over eighteen sevens, is accepted and hands back the cold run, from which demand 3 begins
  pub opens : open_of T T_parameters (table 18 (λ _. decimal 7 1)) ≡ gives on_t.cold.state on_t.cold.clock
  -- demand 3's premise holds of the calls: the text that is loaded was saved before, and is not altered
  pub own : AllOwn on_t (begun on_t) calls
  -- each call answers what stands beside it
  pub answered : answers (begun on_t) calls ≡ map (λ (l : Line). l.says) computed
  -- the refused step leaves the run held and its path
  pub refused_step : at 2 ≡ at 1
  -- the load gives back the run as it was after the save, and puts its path back
  pub loaded_run : at 5 ≡ at 3
  -- the path at the end has neither the forcing that was refused nor the one of the step before the load
  pub path : end.path ≡ east ∷ north ∷ []
  -- the run held at the end is what the equations give from the cold start along that path
  pub held : end.held ≡ along on_t (east ∷ north ∷ [])
  -- it is not the cold run: its step number is 2, and U of node 0 has the pattern 3F5F3F20A73F748A, as in example 13
  pub second : end.held.clock.step ≡ 2
  pub pattern : bits (get_or end.held.state 6 nan) ≡ 4566437956654429322

-- ---- one text, saved twice at different paths
-- T has no open node, so that an elevation of 1 gives the run that one of 0 gives, along another path
abbrev pub high : Weather
high = weather 1 (1 ∷ 1 ∷ 1 ∷ 0 ∷ 0 ∷ 0 ∷ [])

-- the texts of the cold run, and of the run after the first step
unfoldable pub cold_text : List ℕ
cold_text = (saved T T_parameters on_t.cold text_room).text

unfoldable pub east_text : List ℕ
east_text = (saved T T_parameters (history on_t (step east T_rooms ∷ [])).held text_room).text

-- another slice of 6N than the state held, with sevens in it
abbrev pub sevens : List Float
sevens = table 18 (λ _. decimal 7 1)

abbrev pub twice : List (Call on_t)
twice =
    save text_room
    ∷ step east T_rooms
    ∷ save text_room
    -- back to the cold start, and by the other forcing to the same run
    ∷ load cold_text (other sevens)
    ∷ step high T_rooms
    ∷ save text_room
    ∷ step lull T_rooms
    ∷ load east_text (other sevens)
    ∷ []

pub record LatestHolds : Type 0 where
  -- demand 3's premise holds of the calls
  pub own : AllOwn on_t (begun on_t) twice
  -- three texts were saved, the latest first: the two after a step are the same text, at two paths
  pub texts : map (λ (s : Saved on_t). s.text) (history on_t twice).saved ≡ east_text ∷ east_text ∷ cold_text ∷ []
  pub paths : map (λ (s : Saved on_t). s.path) (history on_t twice).saved ≡ (high ∷ []) ∷ (east ∷ []) ∷ [] ∷ []
  pub two_paths : high ≡ east → ⊥
  -- "A load puts the path back to what it was at the latest save of that text": the path goes by it
  pub path : (history on_t twice).path ≡ high ∷ []
  -- and the run does not: along either path it is the same
  pub held : (history on_t twice).held ≡ along on_t (high ∷ [])
  pub same : along on_t (high ∷ []) ≡ along on_t (east ∷ [])

-- ---- a list of three forcings, the second of which is refused
pub joined_fit : (a b : List Float)
    → ((j : ℕ) → j < length a → Holds (fits binary64 (get_or a j nan))) → ((j : ℕ) → j < length b → Holds (fits binary64 (get_or b j nan)))
    → (j : ℕ) → j < length (a ++ b) → Holds (fits binary64 (get_or (a ++ b) j nan))
joined_fit [] b p q j h = q j h
joined_fit (x ∷ a) b p q zero h = p 0 (omega arith)
joined_fit (x ∷ a) b p q (suc j) h = joined_fit a b (λ i l. p (suc i) (omega arith)) q j (omega arith)

abbrev pub storm : WeatherList
storm = record {
  list = east.forcing ++ (flood.forcing ++ north.forcing);
  values = joined_fit east.forcing (flood.forcing ++ north.forcing) east.values (joined_fit flood.forcing north.forcing flood.values north.values);
}

-- 6N, 11N and N places, with sevens in them
abbrev pub list_rooms : Rooms
list_rooms = lent_rooms sevens (table 33 (λ _. decimal 7 1)) (table 3 (λ _. 7))

abbrev pub catch_up : List (Call on_t)
catch_up = step_all storm list_rooms ∷ []

pub record CaughtHolds : Type 0 where
  -- the forcings are those of three single steps: the wind to the east, the elevation beyond 30, and the wind to the north
  pub offered : map (λ (w : Weather). w.forcing) (on_t.forcings storm) ≡ east.forcing ∷ flood.forcing ∷ north.forcing ∷ []
  -- the call answers for the second, as a single step does, and the run held after it is at step 1
  pub answered : answers (begun on_t) catch_up ≡ stepped (refused 12 1) 1 ∷ []
  -- the path has the first forcing alone, and the run held is that of a single step with it
  pub path : map (λ (w : Weather). w.forcing) (history on_t catch_up).path ≡ east.forcing ∷ []
  pub held : (history on_t catch_up).held ≡ (history on_t (step east T_rooms ∷ [])).held
  -- "all of it is zero once a step has been accepted": though the call refuses, nothing of the sevens is left in the 11N or in the sums
  pub work : let o = (step_all_of T T_parameters on_t.cold storm.list list_rooms).last.rooms in (o.work ≡ zeros 33) × (o.sums ≡ table 3 (λ _. 0))

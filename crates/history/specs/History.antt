-- Demand 3, for any run, sentence by sentence; demands/specs/Demand3 has its words as a whole. No mesh, no frame and no formula stands here: `Calls` is
-- handed them.
use Rattle.std.specs.Prelude.{ℕ, zero, suc, ◌≡◌, Bool, true, false, cond, take}
use Rattle.std.proofs.Math.Decide.{ℕ_discrete}
use mathlib.Core.List.{List, [], ◌∷◌, ◌++◌, foldl, List-discrete}
use Rattle.std.proofs.Math.Logic.{ite}
use Rattle.std.proofs.Math.Option.{Option, none, some, get_or, IsSome}

-- what a step or a load hands back: whether it accepts, and the run (state and clock) that is held after it
pub record Reply (Run : Type 0) : Type 0 where
  pub accepted : Bool
  pub held : Run

-- what a save hands back: whether it accepts, and the text that it wrote. The run is lent to it to be read
pub record Written : Type 0 where
  pub accepted : Bool
  pub text : List ℕ

-- what a call on a list of forcings hands back (document 02, #107: "Overnight catch_up"): "the count of accepted steps", and the run that is held after it
pub record Caught (Run : Type 0) : Type 0 where
  pub accepted : ℕ
  pub held : Run

-- The calls of a run, its cold start, and beside them `advance`: what the equations alone give from a run and a forcing.
-- A room is whatever else is lent to a call, of any size and with anything in it: for a load, the slice that it may write.
-- #107: "a lent list of forcings" is whatever the caller lends for one; `forcings` are those that it has, in their order.
pub record Calls : Type 1 where
  pub Run : Type 0
  pub Forcing : Type 0
  pub StepRoom : Type 0
  pub SaveRoom : Type 0
  pub LoadRoom : Type 0
  pub Lists : Type 0
  pub ListRoom : Type 0
  pub forcings : Lists → List Forcing
  pub cold : Run
  pub advance : Run → Forcing → Run
  pub step : Run → Forcing → StepRoom → Reply Run
  pub save : Run → SaveRoom → Written
  pub load : Run → List ℕ → LoadRoom → Reply Run
  pub step_all : Run → Lists → ListRoom → Caught Run

module _ (M : Calls) where
  pub data Call : Type 0 where
    step : M.Forcing → M.StepRoom → Call
    save : M.SaveRoom → Call
    load : List ℕ → M.LoadRoom → Call
    step_all : M.Lists → M.ListRoom → Call

  -- a text that was saved, and the path as it was at that save
  pub record Saved : Type 0 where
    pub text : List ℕ
    pub path : List M.Forcing

  -- the run held, its path, and what was saved so far, the latest first
  pub record History : Type 0 where
    pub held : M.Run
    pub path : List M.Forcing
    pub saved : List Saved

  -- "Take one run from a cold start"
  abbrev pub begun : History
  begun = record { held = M.cold; path = []; saved = [] }

  -- entry i of what was saved, if there are so many
  abbrev pub nth : ℕ → List Saved → Option Saved
  nth i [] = none
  nth zero (s ∷ rest) = some s
  nth (suc i) (s ∷ rest) = nth i rest

  -- "what it was at the latest save of that text": the path there, if t was saved
  abbrev pub latest : List ℕ → List Saved → Option (List M.Forcing)
  latest t [] = none
  latest t (s ∷ rest) = ite (List-discrete ℕ_discrete t s.text) (some s.path) (latest t rest)

  -- One call. The run held is what the call hands back. "An accepted step adds its forcing to the path. A load puts the path back to what it was at the
  -- latest save of that text. Saves and refused calls change nothing in it." #107, of a list: "the call adds exactly the accepted forcings to the path; once a
  -- step has been accepted, a later refusal in the list doesn't make it a refused call": the path goes by the count alone, and not by the answer.
  abbrev pub after : History → Call → History
  after a (step f room) =
      let r = M.step a.held f room in
      record { held = r.held; path = cond r.accepted (a.path ++ (f ∷ [])) a.path; saved = a.saved }
  after a (save room) =
      let w = M.save a.held room in
      record { held = a.held; path = a.path; saved = cond w.accepted (record { text = w.text; path = a.path } ∷ a.saved) a.saved }
  after a (load t room) =
      let r = M.load a.held t room in
      record { held = r.held; path = cond r.accepted (get_or (latest t a.saved) a.path) a.path; saved = a.saved }
  after a (step_all l room) =
      let r = M.step_all a.held l room in
      record { held = r.held; path = a.path ++ take r.accepted (M.forcings l); saved = a.saved }

  -- "After any sequence of steps, saves and loads, refused ones among them"
  abbrev pub history : List Call → History
  history = foldl after begun

  -- The premise on a call: "each text loaded was saved earlier in that sequence and not altered". Of a text that the load refuses nothing is asked: such a
  -- load is a refused call like any other.
  abbrev pub Own : History → Call → Type 0
  Own a (step f room) = Unit {0}
  Own a (save room) = Unit {0}
  Own a (load t room) = (M.load a.held t room).accepted ≡ true → IsSome (latest t a.saved)
  Own a (step_all l room) = Unit {0}

  abbrev pub AllOwn : History → List Call → Type 0
  AllOwn a [] = Unit {0}
  AllOwn a (c ∷ cs) = Own a c × AllOwn (after a c) cs

  -- what the equations give "from the cold start, forcing by forcing, along" a path
  abbrev pub along : List M.Forcing → M.Run
  along = foldl M.advance M.cold

  -- "the run held, state and clock, is what the equations of demand 2 give from the cold start, forcing by forcing, along its path"
  abbrev pub Demand3 : Type 0
  Demand3 = (cs : List Call) → AllOwn begun cs → (history cs).held ≡ along (history cs).path

  -- Where one text was saved more than once, at different paths, the latest decides the path. The run does not go by it: the equations give the same run
  -- along each of them.
  abbrev pub AnySaveOfAText : Type 0
  AnySaveOfAText =
      (cs : List Call) → AllOwn begun cs → (i j : ℕ) (s t : Saved) →
      nth i (history cs).saved ≡ some s → nth j (history cs).saved ≡ some t → s.text ≡ t.text → along s.path ≡ along t.path

-- What has to be known of the calls, for demand 3 to follow. `Good` is said of the runs that the calls can hold; a load keeps it, whatever the text.
pub record Laws (M : Calls) : Type 1 where
  pub Good : M.Run → Type 0
  pub cold_good : Good M.cold
  pub step_accepted :
      (r : M.Run) (f : M.Forcing) (room : M.StepRoom) → Good r → (M.step r f room).accepted ≡ true →
      ((M.step r f room).held ≡ M.advance r f) × Good (M.advance r f)
  pub step_refused : (r : M.Run) (f : M.Forcing) (room : M.StepRoom) → (M.step r f room).accepted ≡ false → (M.step r f room).held ≡ r
  -- a list, whatever it answers: the run along the forcings that were accepted
  pub step_all_accepted :
      (r : M.Run) (l : M.Lists) (room : M.ListRoom) → Good r →
      let o = M.step_all r l room in (o.held ≡ foldl M.advance r (take o.accepted (M.forcings l))) × Good o.held
  pub load_accepted :
      (r : M.Run) (t : List ℕ) (room : M.LoadRoom) → (M.load r t room).accepted ≡ true → Good (M.load r t room).held
  pub load_refused : (r : M.Run) (t : List ℕ) (room : M.LoadRoom) → (M.load r t room).accepted ≡ false → (M.load r t room).held ≡ r
  -- a text that was saved gives the run that was saved, wherever its load is accepted; and two runs that have one text are one
  pub load_saved :
      (r q : M.Run) (room : M.SaveRoom) (lent : M.LoadRoom) → Good r → Good q → (M.save r room).accepted ≡ true →
      (M.load q (M.save r room).text lent).accepted ≡ true → (M.load q (M.save r room).text lent).held ≡ r
  pub same_text :
      (r q : M.Run) (room other : M.SaveRoom) → Good r → Good q → (M.save r room).accepted ≡ true → (M.save q other).accepted ≡ true →
      (M.save r room).text ≡ (M.save q other).text → r ≡ q

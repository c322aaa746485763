-- Demand 3 holds of any calls that have the laws, and every run that is held is a good one.
use Prim.Native.Nat.{ℕ, zero, suc}
use native.Mathlib.Decide.{ℕ_discrete}
use mathlib.Core.Path.{◌≡◌, refl, sym, ap, subst, ◌∙◌}
use mathlib.Core.Bool.{Bool, true, false, cond}
use mathlib.Core.List.{List, [], ◌∷◌, ◌++◌, foldl, foldl-append, List-discrete}
use mathlib.Core.Logic.{ite}
use mathlib.Core.Option.{Option, some, get_or, IsSome}
use lib.ListN.{take}
use Rattle.history.specs.History.{Calls, Call, step, save, load, step_all, Saved, History, begun, nth, latest, after, history, Own, AllOwn, along, Demand3, AnySaveOfAText, Laws}

-- ---- the latest save of a text
module _ (M : Calls) where
  -- a text that was saved last is its own latest save
  pub latest_here : (t : List ℕ) (p : List M.Forcing) (rest : List (Saved M)) → latest M t (record { text = t; path = p } ∷ rest) ≡ some p
  latest_here t p rest = go (List-discrete ℕ_discrete t t)
    where
      go : (d : Dec (t ≡ t)) → ite d (some p) (latest M t rest) ≡ some p
      go (yes e) = refl
      go (no n) = absurd (n refl)

  -- a save of another text is passed over
  pub latest_past : (t u : List ℕ) (p : List M.Forcing) (rest : List (Saved M)) → (t ≡ u → ⊥) → latest M t (record { text = u; path = p } ∷ rest) ≡ latest M t rest
  latest_past t u p rest other = go (List-discrete ℕ_discrete t u)
    where
      go : (d : Dec (t ≡ u)) → ite d (some p) (latest M t rest) ≡ latest M t rest
      go (yes e) = absurd (other e)
      go (no n) = refl

module _ (M : Calls) (L : Laws M) where
  -- ---- every run held is a good one, whatever is loaded
  step_good : (r : M.Run) (f : M.Forcing) (room : M.StepRoom) → L.Good r → (b : Bool) → (M.step r f room).accepted ≡ b → L.Good (M.step r f room).held
  step_good r f room g true e = let law = L.step_accepted r f room g e in rw law.0 law.1
  step_good r f room g false e = rw (L.step_refused r f room e) g

  load_good :
      (r : M.Run) (t : List ℕ) (room : M.LoadRoom) → L.Good r → (b : Bool) → (M.load r t room).accepted ≡ b → L.Good (M.load r t room).held
  load_good r t room g true e = L.load_accepted r t room e
  load_good r t room g false e = rw (L.load_refused r t room e) g

  after_good : (a : History M) (c : Call M) → L.Good a.held → L.Good (after M a c).held
  after_good a (step f room) g = step_good a.held f room g _ refl
  after_good a (save room) g = g
  after_good a (load t room) g = load_good a.held t room g _ refl
  after_good a (step_all l room) g = (L.step_all_accepted a.held l room g).1

  calls_good : (a : History M) (cs : List (Call M)) → L.Good a.held → L.Good (foldl (after M) a cs).held
  calls_good a [] g = g
  calls_good a (c ∷ cs) g = calls_good (after M a c) cs (after_good a c g)

  pub held_good : (cs : List (Call M)) → L.Good (history M cs).held
  held_good cs = calls_good (begun M) cs L.cold_good

  -- ---- the run held is the one along its path
  -- what was saved is the text of the run along its path
  record Sound (s : Saved M) : Type 0 where
    good : L.Good (along M s.path)
    room : M.SaveRoom
    saved : (M.save (along M s.path) room).accepted ≡ true
    text : s.text ≡ (M.save (along M s.path) room).text

  abbrev AllSound : List (Saved M) → Type 0
  AllSound [] = Unit {0}
  AllSound (s ∷ rest) = Sound s × AllSound rest

  record Holds (a : History M) : Type 0 where
    held : a.held ≡ along M a.path
    good : L.Good a.held
    saved : AllSound a.saved

  after_step_lem :
      (a : History M) (f : M.Forcing) (room : M.StepRoom) → Holds a → (b : Bool) → (M.step a.held f room).accepted ≡ b →
      (M.step a.held f room).held ≡ along M (cond (M.step a.held f room).accepted (a.path ++ (f ∷ [])) a.path)
  after_step_lem a f room h true e =
      rw e (
      (L.step_accepted a.held f room h.good e).0
      ∙ ap (λ (r : M.Run). M.advance r f) h.held
      ∙ sym (foldl-append M.advance M.cold a.path (f ∷ [])))
  after_step_lem a f room h false e = rw e (L.step_refused a.held f room e ∙ h.held)

  after_save :
      (a : History M) (room : M.SaveRoom) → Holds a → (b : Bool) → (M.save a.held room).accepted ≡ b → AllSound (after M a (save room)).saved
  after_save a room h true e =
      rw e (
        record {
          good = subst L.Good h.held h.good;
          room = room;
          saved = subst (λ (r : M.Run). (M.save r room).accepted ≡ true) h.held e;
          text = ap (λ (r : M.Run). (M.save r room).text) h.held;
        },
        h.saved,
      )
  after_save a room h false e = rw e h.saved

  -- the path of the latest save of a text is that of a save of it
  found : (t : List ℕ) (l : List (Saved M)) (p : List M.Forcing) → IsSome (latest M t l) → AllSound l
      → Sound (record { text = t; path = get_or (latest M t l) p })
  found t [] p i h = elim i [ ]
  found t (s ∷ l) p i h = go (List-discrete ℕ_discrete t s.text) i (λ j. found t l p j h.1)
    where
      go : (d : Dec (t ≡ s.text)) → IsSome (ite d (some s.path) (latest M t l))
          → (IsSome (latest M t l) → Sound (record { text = t; path = get_or (latest M t l) p }))
          → Sound (record { text = t; path = get_or (ite d (some s.path) (latest M t l)) p })
      go (yes e) j earlier = record { good = h.0.good; room = h.0.room; saved = h.0.saved; text = e ∙ h.0.text }
      go (no n) j earlier = earlier j

  -- a load of a text that was saved, where it is accepted, gives the run along the path of that save
  sound_load : (q : M.Run) (s : Saved M) (room : M.LoadRoom) → L.Good q → Sound s → (M.load q s.text room).accepted ≡ true
      → (M.load q s.text room).held ≡ along M s.path
  sound_load q s room g h e =
      rw h.text (L.load_saved (along M s.path) q h.room room h.good g h.saved (subst (λ (t : List ℕ). (M.load q t room).accepted ≡ true) h.text e))

  after_load :
      (a : History M) (t : List ℕ) (room : M.LoadRoom) → Own M a (load t room) → Holds a → (b : Bool) → (M.load a.held t room).accepted ≡ b →
      (M.load a.held t room).held ≡ along M (cond (M.load a.held t room).accepted (get_or (latest M t a.saved) a.path) a.path)
  after_load a t room i h true e = rw e (sound_load a.held _ room h.good (found t a.saved a.path (i e) h.saved) e)
  after_load a t room i h false e = rw e (L.load_refused a.held t room e ∙ h.held)

  after_list : (a : History M) (l : M.Lists) (room : M.ListRoom) → Holds a → let o = M.step_all a.held l room in
      o.held ≡ along M (a.path ++ take o.accepted (M.forcings l))
  after_list a l room h =
      let k = (M.step_all a.held l room).accepted in
      (L.step_all_accepted a.held l room h.good).0
      ∙ ap (λ (r : M.Run). foldl M.advance r (take k (M.forcings l))) h.held
      ∙ sym (foldl-append M.advance M.cold a.path (take k (M.forcings l)))

  after_call : (a : History M) (c : Call M) → Own M a c → Holds a → Holds (after M a c)
  after_call a (step f room) i h = record { held = after_step_lem a f room h _ refl; good = after_good a (step f room) h.good; saved = h.saved }
  after_call a (save room) i h = record { held = h.held; good = h.good; saved = after_save a room h _ refl }
  after_call a (load t room) i h = record { held = after_load a t room i h _ refl; good = after_good a (load t room) h.good; saved = h.saved }
  after_call a (step_all l room) i h = record { held = after_list a l room h; good = after_good a (step_all l room) h.good; saved = h.saved }

  after_calls : (a : History M) (cs : List (Call M)) → AllOwn M a cs → Holds a → Holds (foldl (after M) a cs)
  after_calls a [] i h = h
  after_calls a (c ∷ cs) i h = after_calls (after M a c) cs i.1 (after_call a c i.0 h)

  all_holds : (cs : List (Call M)) → AllOwn M (begun M) cs → Holds (history M cs)
  all_holds cs i = after_calls (begun M) cs i (record { held = refl; good = L.cold_good; saved = tt })

  pub demand3 : Demand3 M
  demand3 cs i = (all_holds cs i).held

  -- ---- each save of one text is of one run
  sound_nth : (i : ℕ) (l : List (Saved M)) (s : Saved M) → AllSound l → nth M i l ≡ some s → Sound s
  sound_nth i [] s h e = absurd (subst IsSome (sym e) tt)
  sound_nth zero (t ∷ l) s h e = subst Sound (ap (λ (o : Option (Saved M)). get_or o s) e) h.0
  sound_nth (suc i) (t ∷ l) s h e = sound_nth i l s h.1 e

  pub any_save_of_a_text : AnySaveOfAText M
  any_save_of_a_text cs own i j s t es et e =
      let h = (all_holds cs own).saved in
      let hs = sound_nth i (history M cs).saved s h es in
      let ht = sound_nth j (history M cs).saved t h et in
      L.same_text (along M s.path) (along M t.path) hs.room ht.room hs.good ht.good hs.saved ht.saved (sym hs.text ∙ e ∙ ht.text)

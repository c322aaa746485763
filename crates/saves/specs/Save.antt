-- Document 02, #105: a save, of edition 2. "A save goes on with 10, 12 (held wind only), 24": row 12 is the forcing's alone now.
use Rattle.std.specs.Prelude.{ℕ, cond, List, [], ◌∷◌, ◌++◌, eqb, leb, length, drop, Result, Ok, Err, Float}
use Rattle.rows.specs.declared.Answer.{Answer}
use Rattle.rows.specs.declared.Refusal.{Refusal}
use Rattle.rows.specs.Numbers.{plus0}
use Rattle.rows.specs.Scan.{accepted, row, ◌then◌}
use Rattle.rows.specs.Refusals.{answered}
use Rattle.lists.specs.Runs.{in_run, runs_of}
use Rattle.quantities.specs.declared.Parameters.{Parameters}
use Rattle.quantities.specs.declared.Wind.{Wind}
use Rattle.frames.specs.Frames.{bits}
use Rattle.surge.specs.declared.Clock.{Clock}
use Rattle.mesh.specs.Lent.{Mesh, N, E}
use Rattle.areas.specs.Areas.{sum_d}
use Rattle.bounds.specs.State.{run_rows}
use Rattle.editions.specs.Lines.{Values, edition1, edition2, text_of, save_length}

-- ---- what is saved: N and E, the sum of all D, the parameters, state and clock
pub record Saved : Type 0 where
  pub n : ℕ
  pub e : ℕ
  pub sum : ℕ
  pub p : Parameters
  pub state : List Float
  pub clock : Clock

abbrev pub saved_of : Mesh → Parameters → List Float → Clock → Saved
saved_of m p state k = record { n = N m; e = E m; sum = sum_d m; p = p; state = state; clock = k }

-- the values of line 05: "dt, tau, K, f, and the sum of all D"
abbrev pub run_values : Parameters → ℕ → List ℕ
run_values p sum = bits p.dt ∷ bits p.tau ∷ bits p.k ∷ bits p.f ∷ sum ∷ []

module _ (n : ℕ) (state : List Float) (i : ℕ) where
  -- "node lines 06 with six values", as the state has them
  abbrev pub state_values : List ℕ
  state_values =
      bits (in_run n 0 state i)
      ∷ bits (in_run n 1 state i)
      ∷ bits (in_run n 2 state i)
      ∷ bits (in_run n 3 state i)
      ∷ bits (in_run n 4 state i)
      ∷ bits (in_run n 5 state i)
      ∷ []

  -- and the four of edition 1
  abbrev pub state_values1 : List ℕ
  state_values1 = bits (in_run n 0 state i) ∷ bits (in_run n 1 state i) ∷ bits (in_run n 2 state i) ∷ bits (in_run n 3 state i) ∷ []

abbrev pub values2 : Saved → Values
values2 s = record {
  heads = (s.n ∷ s.e ∷ s.clock.step ∷ []) ∷ run_values s.p s.sum ∷ [];
  node = state_values s.n s.state;
}

abbrev pub save_text : Saved → List ℕ
save_text s = text_of edition2 s.n (values2 s)

-- the text that document 01's own rules give for a run with this wind: edition 1 is read, and no longer written
abbrev pub values1 : ℕ → ℕ → List Float → ℕ → Wind → Values
values1 n e state step w = record {
  heads = (n ∷ e ∷ step ∷ bits w.x ∷ bits w.y ∷ []) ∷ [];
  node = state_values1 n state;
}

abbrev pub save_text1 : ℕ → ℕ → List Float → ℕ → Wind → List ℕ
save_text1 n e state step w = text_of edition1 n (values1 n e state step w)

-- a run of document 01 as it is held now: its four runs, and its wind at every node
abbrev pub with_wind : ℕ → List Float → Wind → List Float
with_wind n state w = runs_of n (in_run n 0 state ∷ in_run n 1 state ∷ in_run n 2 state ∷ in_run n 3 state ∷ (λ _. w.x) ∷ (λ _. w.y) ∷ [])

-- ---- the call
-- | 24 | text room below 70+73N | 70+73N |; #105: "A save is then 127+105N bytes, and row 24 reads so"
unfoldable pub row24 : ℕ → List ℕ → Answer
row24 n t = row (leb (save_length n) (length t)) 24 (save_length n)

unfoldable pub save_answer : Mesh → Parameters → List Float → List ℕ → Answer
save_answer m p state t = run_rows accepted m p state then row24 (N m) t

pub record SaveOut : Type 0 where
  pub answer : Answer
  pub text : List ℕ

abbrev pub save_out : Answer → List ℕ → SaveOut
save_out a t = record { answer = a; text = t }

-- "a save's place is the bytes it wrote"
abbrev pub wrote : ℕ → Answer
wrote bytes = record { number = 0; place = bytes; value = plus0 }

-- a call's result, with the bytes that it wrote, as its answer
abbrev pub saved : Result ℕ Refusal → Answer
saved (Ok bytes) = wrote bytes
saved (Err refusal) = answered (Err refusal)

-- "Text room past a save keeps its bytes"; a refusal leaves the text as found
unfoldable pub save_of : Mesh → Parameters → List Float → Clock → List ℕ → SaveOut
save_of m p state k t =
    let a = save_answer m p state t in
    cond (eqb a.number 0) (save_out (wrote (save_length (N m))) (save_text (saved_of m p state k) ++ drop (save_length (N m)) t)) (save_out a t)

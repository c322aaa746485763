-- What a call leaves, read off its own contract: a statement that holds of every outcome that meets a call's `ensures`. Each call's outcome is put
-- together here once, from its arguments as they were lent, its result and the slices as they are left; the statements on it stand in Demand1 and Demand2.
use Rattle.std.specs.Prelude.{ℕ, List, Float}
use contract.Lifetimes.{Lfts}
use denote.Triple.Entry.{Args, Res}
use denote.Triple.Clauses.{Ended, Clauses, Lasts, at_exit}
use borrow.Fn.World.{w₀}
use Rattle.quantities.specs.declared.Parameters.{Parameters}
use Rattle.surge.specs.declared.Clock.{Clock}
use Rattle.rows.specs.Refusals.{answered}
use Rattle.mesh.specs.Lent.{Mesh, mesh, mesh_of}
use Rattle.surge.specs.Lent.{Run, run, replied, After, after}
use Rattle.surge.specs.Open.{open_replied}
use Rattle.surge.specs.Step.{StepOut, step_out}
use Rattle.surge.specs.StepAll.{list_replied, list_out}
use Rattle.passes.specs.InTurn.{Turns}
use Rattle.passes.specs.Settle.{Rooms, lent_rooms}
use Rattle.forcings.specs.Forcings.{Taken, taken}
use Rattle.saves.specs.Save.{SaveOut, saved, save_out}
use Rattle.capi.specs.Numbers as C
use Rattle.demands.specs.Ensured.{Ensures, told, says, 𝓛₀, mem₀, run₀}
use Rattle.surge.specs.contracts.open as open_contract
use Rattle.surge.specs.contracts.step as step_contract
use Rattle.surge.specs.contracts.step_all as step_all_contract
use Rattle.saves.specs.contracts.save as save_contract
use Rattle.loads.specs.contracts.load as load_contract
use Rattle.forcings.specs.contracts.read_forcing as read_forcing_contract
use Rattle.capi.specs.contracts.surge_open as surge_open_contract
use Rattle.capi.specs.contracts.surge_step as surge_step_contract
use Rattle.capi.specs.contracts.surge_step_all as surge_step_all_contract
use Rattle.capi.specs.contracts.surge_save as surge_save_contract
use Rattle.capi.specs.contracts.surge_load as surge_load_contract
use Rattle.capi.specs.contracts.surge_read_forcing as surge_read_forcing_contract

-- T and c are a function's parameters and contract, and r reads its `ensures` (Ensured). Whatever the arguments a, the result x and the lent slices as they are
-- left, v: where they meet the `ensures`, Says holds of them
abbrev pub Keeps : (T : Ended) (c : Clauses w₀.𝓤 T) → Ensures T c
    → ((κs : Lfts T.signature.lifetimes) (a : Args T.signature κs) (x : Res T.signature κs) → Lasts T κs a → Type 0) → Type 0
Keeps T c r Says =
    (κs : Lfts T.signature.lifetimes) (a : Args T.signature κs) (g : (c κs a).ghost) (x : Res T.signature κs) (v : Lasts T κs a) →
    told (r κs a g x (at_exit T κs a v)) → Says κs a x v

-- ---- the product's calls

-- open(state, m, p): of the mesh, the parameters, the state as it was lent, and what is left
abbrev pub Opening : (Mesh → Parameters → List Float → After → Type 0) → Type 0
Opening Says =
    Keeps open_contract.ended (open_contract.clauses 𝓛₀ mem₀ run₀) (λ κs a g x s. says _)
    (λ κs (state, (m, (p, _))) reply left. Says (mesh_of m.now) p state.now (after (open_replied reply) left.0))

-- step(next, work, sums, state, f, m, p, clock): of the mesh, the parameters, the run, the forcing, the rooms as they were lent, and what is left
abbrev pub Stepping : (Mesh → Parameters → Run → List Float → Rooms → StepOut → Type 0) → Type 0
Stepping Says =
    Keeps step_contract.ended (step_contract.clauses 𝓛₀ mem₀ run₀) (λ κs a g x s. says _)
    (λ κs (next, (work, (sums, (state, (f, (m, (p, (clock, _)))))))) result left.
    Says (mesh_of m.now) p (run state.now clock) f.now (lent_rooms next.now work.now sums.now)
    (step_out (replied clock result) left.0 left.1.0 left.1.1.0))

-- step_all(next, work, sums, state, list, m, p, clock): of the mesh, the parameters, the run, the list, the rooms as they were lent, and what is left
abbrev pub SteppingAll : (Mesh → Parameters → Run → List Float → Rooms → Turns → Type 0) → Type 0
SteppingAll Says =
    Keeps step_all_contract.ended (step_all_contract.clauses 𝓛₀ mem₀ run₀) (λ κs a g x s. says _)
    (λ κs (next, (work, (sums, (state, (list, (m, (p, (clock, _)))))))) reply left.
    Says (mesh_of m.now) p (run state.now clock) list.now (lent_rooms next.now work.now sums.now)
    (list_out (list_replied reply) left.0 left.1.0 left.1.1.0))

-- save(text, state, m, p, clock): of the mesh, the parameters, the state, the clock, the text room as it was lent, and what is left
abbrev pub Saving : (Mesh → Parameters → List Float → Clock → List ℕ → SaveOut → Type 0) → Type 0
Saving Says =
    Keeps save_contract.ended (save_contract.clauses 𝓛₀ mem₀ run₀) (λ κs a g x s. says _)
    (λ κs (text, (state, (m, (p, (clock, _))))) result left. Says (mesh_of m.now) p state.now clock text.now (save_out (saved result) left.0))

-- load(state, text, m, p): of the mesh, the parameters, the text, the state as it was and whatever clock is held, and what is left
abbrev pub Loading : (Mesh → Parameters → List ℕ → List Float → Clock → After → Type 0) → Type 0
Loading Says =
    Keeps load_contract.ended (load_contract.clauses 𝓛₀ mem₀ run₀) (λ κs a g x s. says _)
    (λ κs (state, (text, (m, (p, _)))) result left.
    (clock : Clock) → Says (mesh_of m.now) p text.now state.now clock (after (replied clock result) left.0))

-- read_forcing(room, text, expected): of the room as it was lent, the text, the sequence number that is due, and what is left
abbrev pub Reading : (List Float → List ℕ → ℕ → Taken → Type 0) → Type 0
Reading Says =
    Keeps read_forcing_contract.ended (read_forcing_contract.clauses 𝓛₀ mem₀ run₀) (λ κs a g x s. says _)
    (λ κs (room, (text, (expected, _))) result left. Says room.now text.now expected (taken (answered result) left.0))

-- ---- the calls for C: the number is the result, and all else that comes back goes through pointers

-- surge_open(state, place, value, step, x, y, tri, h, kind, dt, tau, k, f, advection)
abbrev pub OpeningC : (Mesh → Parameters → List Float → After → Type 0) → Type 0
OpeningC Says =
    Keeps surge_open_contract.ended (surge_open_contract.clauses 𝓛₀ mem₀ run₀) (λ κs a g x s. says _)
    (λ κs (state, (_, (_, (_, (x, (y, (tri, (h, (kind, (dt, (tau, (k, (f, (on, _)))))))))))))) number (state', (place, (value, (step, _)))).
    Says (mesh x.now y.now tri.now h.now kind.now) (C.parameters dt tau k f on) state.now
    (after (C.reply (C.answer number place value) (C.clock step)) state'))

-- surge_step(next, work, sums, place, value, step, state, forcing, x, y, tri, h, kind, dt, tau, k, f, advection)
abbrev pub SteppingC : (Mesh → Parameters → Run → List Float → Rooms → StepOut → Type 0) → Type 0
SteppingC Says =
    Keeps surge_step_contract.ended (surge_step_contract.clauses 𝓛₀ mem₀ run₀) (λ κs a g x s. says _)
    (λ κs
    (next, (work, (sums, (_, (_, (step, (state, (forcing, (x, (y, (tri, (h, (kind, (dt, (tau, (k, (f, (on, _))))))))))))))))))
    number (next', (work', (sums', (place, (value, (step', _)))))).
    Says (mesh x.now y.now tri.now h.now kind.now) (C.parameters dt tau k f on) (run state.now (C.clock step.now)) forcing.now
    (lent_rooms next.now work.now sums.now) (step_out (C.reply (C.answer number place value) (C.clock step')) next' work' sums'))

-- surge_step_all(next, work, sums, place, value, step, accepted, state, forcings, x, y, tri, h, kind, dt, tau, k, f, advection)
abbrev pub SteppingAllC : (Mesh → Parameters → Run → List Float → Rooms → Turns → Type 0) → Type 0
SteppingAllC Says =
    Keeps surge_step_all_contract.ended (surge_step_all_contract.clauses 𝓛₀ mem₀ run₀) (λ κs a g x s. says _)
    (λ κs
    (next, (work, (sums, (_, (_, (step, (_, (state, (forcings, (x, (y, (tri, (h, (kind, (dt, (tau, (k, (f, (on, _)))))))))))))))))))
    number (next', (work', (sums', (place, (value, (step', (accepted, _))))))).
    Says (mesh x.now y.now tri.now h.now kind.now) (C.parameters dt tau k f on) (run state.now (C.clock step.now)) forcings.now
    (lent_rooms next.now work.now sums.now)
    (list_out (C.list_reply (C.reply (C.answer number place value) (C.clock step')) accepted) next' work' sums'))

-- surge_save(text, place, value, state, x, y, tri, h, kind, dt, tau, k, f, advection, step)
abbrev pub SavingC : (Mesh → Parameters → List Float → Clock → List ℕ → SaveOut → Type 0) → Type 0
SavingC Says =
    Keeps surge_save_contract.ended (surge_save_contract.clauses 𝓛₀ mem₀ run₀) (λ κs a g x s. says _)
    (λ κs (text, (_, (_, (state, (x, (y, (tri, (h, (kind, (dt, (tau, (k, (f, (on, (step, _))))))))))))))) number (text', (place, (value, _))).
    Says (mesh x.now y.now tri.now h.now kind.now) (C.parameters dt tau k f on) state.now (C.clock step) text.now
    (save_out (C.answer number place value) text'))

-- surge_load(state, place, value, step, text, x, y, tri, h, kind, dt, tau, k, f, advection)
abbrev pub LoadingC : (Mesh → Parameters → List ℕ → List Float → Clock → After → Type 0) → Type 0
LoadingC Says =
    Keeps surge_load_contract.ended (surge_load_contract.clauses 𝓛₀ mem₀ run₀) (λ κs a g x s. says _)
    (λ κs
    (state, (_, (_, (step, (text, (x, (y, (tri, (h, (kind, (dt, (tau, (k, (f, (on, _)))))))))))))))
    number (state', (place, (value, (step', _)))).
    Says (mesh x.now y.now tri.now h.now kind.now) (C.parameters dt tau k f on) text.now state.now
    (C.clock step.now) (after (C.reply (C.answer number place value) (C.clock step')) state'))

-- surge_read_forcing(forcing, place, value, text, expected)
abbrev pub ReadingC : (List Float → List ℕ → ℕ → Taken → Type 0) → Type 0
ReadingC Says =
    Keeps surge_read_forcing_contract.ended (surge_read_forcing_contract.clauses 𝓛₀ mem₀ run₀) (λ κs a g x s. says _)
    (λ κs (room, (_, (_, (text, (expected, _))))) number (room', (place, (value, _))).
    Says room.now text.now expected (taken (C.answer number place value) room'))

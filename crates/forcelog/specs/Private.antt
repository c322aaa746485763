-- What a log is between two forcings, for laws and for the contracts of private functions. No public contract cites it.
use Rattle.std.specs.Prelude.{ℕ, ◌*◌, ◌≤◌, ◌≡◌}
use Rattle.rows.specs.declared.Refusal.{Refusal}
use Rattle.rows.specs.Scan.{accepted}
use Rattle.bounds.specs.State.{run_rows}
use Rattle.forcelog.specs.declared.Log.{Log}
use Rattle.forcelog.specs.MeshT.{T, T_parameters}

-- A log whose run can be saved: its state is in range. Its clock has counted the forcings, each of which has at most four lines.
pub record Savable (log : Log) : Type 0 where
  pub rows : (run_rows accepted T T_parameters log.state).number ≡ 0
  pub steps : log.clock.step ≤ 4294967295
  pub lines : log.lines ≤ 4 * log.clock.step

-- a refusal at an input line
abbrev pub at_line : ℕ → Refusal → Refusal
at_line line r = record { row = r.row; place = line; value = r.value }

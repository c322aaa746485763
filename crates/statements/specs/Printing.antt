-- The printing program: what it prints is a definition over the whole input, cut at its line feeds and grouped into forcings (forcelog/specs/Printed).
use Rattle.std.specs.Prelude.{ℕ, ◌≡◌, List, [], length}
use Rattle.frames.specs.Spelling.{Spells}
use Rattle.forcelog.specs.Log.{cold_log}
use Rattle.forcelog.specs.Printed.{printed, taking, wholes}
use Rattle.forcelog.specs.Empty.{six_lines}
use Rattle.forcelog.specs.MeshT as M
use Rattle.worked.specs.Examples.{T, T_parameters}

pub record PrintingHolds : Type 0 where
  -- The mesh and the parameters that it holds are those of the examples.
  pub mesh : M.T ≡ T
  pub parameters : M.T_parameters ≡ T_parameters
  -- Taking the input by whole forcings, 57 bytes where the next two are 10 and else 148, as the program does, prints the same as taking it line by line, on
  -- every input.
  pub by_wholes : (input : List ℕ) → printed input ≡ taking (wholes input) cold_log
  -- Document 02, #104: what is printed does not depend on the case of the digits of the input, on every input.
  pub either_case : (s t : List ℕ) → Spells s t → printed s ≡ printed t
  -- "442, which is also what the printing program gives on empty input, in six lines", written out.
  pub empty : printed [] ≡ six_lines
  pub six_lines_long : length six_lines ≡ 442

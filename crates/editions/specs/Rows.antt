-- Document 01, "Refusal table": row 23 of one line of a save, and document 02, #105: row 25. Both go by the kind that is due there.
use Rattle.std.specs.Prelude.{ℕ, Bool, true, cond, not, ◌&&◌, ◌||◌, List, eqb}
use Rattle.rows.specs.declared.Answer.{Answer}
use Rattle.rows.specs.Scan.{row}
use Rattle.quantities.specs.declared.Parameters.{Parameters}
use Rattle.frames.specs.Frames.{bits, byte_of}
use Rattle.frames.specs.Reading.{value}
use Rattle.editions.specs.Lines.{head2, run2, end_layout}

-- | 23 | N or E differs | line |: at a head for N or E, at the end line for N
abbrev pub is_head : ℕ → Bool
is_head kind = eqb kind 1 || eqb kind 4

module _ (n e : ℕ) (line : List ℕ) where
  -- N and E stand at the same bytes of both heads
  abbrev pub counts_right : Bool
  counts_right = eqb (value line (byte_of head2.widths 0) 2) n && eqb (value line (byte_of head2.widths 1) 2) e

  unfoldable pub row23 : ℕ → ℕ → Answer
  row23 kind j = row (cond (is_head kind) counts_right (cond (eqb kind 3) (eqb (value line (byte_of end_layout.widths 0) 2) n) true)) 23 j

-- "25 when a field of line 05 differs in any bit from the run's, after 23, line as place"
module _ (p : Parameters) (sum : ℕ) (line : List ℕ) where
  abbrev pub run_right : Bool
  run_right =
      let at = byte_of run2.widths in
      eqb (value line (at 0) 8) (bits p.dt)
      && eqb (value line (at 1) 8) (bits p.tau)
      && eqb (value line (at 2) 8) (bits p.k)
      && eqb (value line (at 3) 8) (bits p.f)
      && eqb (value line (at 4) 8) sum

  unfoldable pub row25 : ℕ → ℕ → Answer
  row25 kind j = row (not (eqb kind 5) || run_right) 25 j

-- Document 02, #104: a forcing is read as its text in upper case is, into every room.
use Prim.Native.Nat.{ℕ, suc, ◌+◌}
use mathlib.Core.Path.{◌≡◌, ap, ◌∙◌}
use mathlib.Core.List.{List, [], ◌∷◌}
use lib.Dec.{lit<}
use lib.ListN.{length-map}
use lib.Ieee.{Float, binary64, of_bits}
use Rattle.rows.proofs.ScanLaws.{scan_same}
use Rattle.lists.specs.Runs.{runs_of}
use Rattle.frames.specs.Reading.{float}
use Rattle.frames.specs.Texts.{line_at}
use Rattle.frames.specs.Spelling.{upper, in_upper}
use Rattle.frames.proofs.SpellingLaws.{value_upper, starts_upper, line_at_upper}
use Rattle.faults.specs.Faults.{line_fault}
use Rattle.faults.proofs.SpellingLaws.{fault_upper, line_fault_upper}
use Rattle.forcings.specs.Forcings.{forcing_lines, of_kind10, nodes_of, forcing_answer, forcing10, forcing14, forcing_of, taken_of}

float_upper : (line : List ℕ) (at : ℕ) → float (in_upper line) at ≡ float line at
float_upper line at = ap (of_bits binary64) (value_upper line at 8)

module _ (t : List ℕ) where
  kind_upper : of_kind10 (in_upper t) ≡ of_kind10 t
  kind_upper = starts_upper 49 48 (lit< tt) (lit< tt) t

  line_float : (j at : ℕ) → float (line_at forcing_lines (in_upper t) j) at ≡ float (line_at forcing_lines t j) at
  line_float j at = ap (λ (line : List ℕ). float line at) (line_at_upper forcing_lines t j) ∙ float_upper (line_at forcing_lines t j) at

  upper_10 : (n : ℕ) → forcing10 n (in_upper t) ≡ forcing10 n t
  unfolding forcing10
  upper_10 n = λ q. float_upper t 3 q ∷ runs_of n ((λ _. float_upper t 11 q) ∷ (λ _. float_upper t 19 q) ∷ [])

  upper_14 : (n : ℕ) → forcing14 n (in_upper t) ≡ forcing14 n t
  unfolding forcing14
  upper_14 n = λ q. line_float 0 3 q ∷ runs_of n ((λ i. line_float (suc i) 3 q) ∷ (λ i. line_float (suc i) 11 q) ∷ [])

  forcing_upper : (n : ℕ) → forcing_of n (in_upper t) ≡ forcing_of n t
  unfolding forcing_of
  forcing_upper n = rw (kind_upper, upper_10 n, upper_14 n)

module _ (room : List Float) (t : List ℕ) (expected : ℕ) where
  answer_upper : forcing_answer room (in_upper t) expected ≡ forcing_answer room t expected
  unfolding forcing_answer
  answer_upper =
      let lines = scan_same (line_fault forcing_lines (in_upper t)) (line_fault forcing_lines t) (nodes_of room + 1) (λ j _. line_fault_upper forcing_lines t j) in
      rw (kind_upper t, fault_upper t 56 16 expected 0, lines, length-map t upper)

  pub taken_upper : taken_of room (in_upper t) expected ≡ taken_of room t expected
  unfolding taken_of
  taken_upper = rw (answer_upper, forcing_upper t (nodes_of room))

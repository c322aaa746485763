-- Document 01, "The printing program", and document 02, #105: what it prints, from all the bytes of its input.
use Rattle.std.specs.Prelude.{ℕ, zero, suc, cond, List, [], ◌∷◌, ◌++◌, eqb, length, take, drop}
use Rattle.frames.specs.Frames.{line_feed}
use Rattle.forcings.specs.Forcings.{forcing_length, of_kind10}
use Rattle.saves.specs.Save.{saved_of, save_text}
use Rattle.refusals.specs.Refusals.{refusal}
use Rattle.forcelog.specs.declared.Log.{Log}
use Rattle.forcelog.specs.MeshT.{T, T_parameters}
use Rattle.forcelog.specs.Log.{cold_log, take_of}

-- ---- the whole
-- "prints one save at the end"
abbrev pub ending : Log → List ℕ
ending log = save_text (saved_of T T_parameters log.state log.clock)

-- from the texts of the forcings: "steps, and prints one save at the end. At a refusal it prints only `refused R at P`"
unfoldable pub taking : List (List ℕ) → Log → List ℕ
taking [] log = ending log
taking (text ∷ texts) log =
    let t = take_of text log in
    cond (eqb t.answer.number 0) (taking texts t.log) (refusal t.answer)

-- the input cut into lines: a line is the bytes up to and with the first line feed, which the last line may lack
abbrev pub longer : ℕ → List (List ℕ) → List (List ℕ)
longer b [] = (b ∷ []) ∷ []
longer b (line ∷ lines) = (b ∷ line) ∷ lines

unfoldable pub lines_of : List ℕ → List (List ℕ)
lines_of [] = []
lines_of (b ∷ bs) = cond (eqb b line_feed) ((b ∷ []) ∷ lines_of bs) (longer b (lines_of bs))

-- and the lines grouped into forcings: a line that starts with `10` where a forcing is due is one, any other is one with the next three lines, as many of
-- them as there are. The number is how many lines the forcing still takes that is open; at 0 a forcing is due
abbrev pub joined : List ℕ → List (List ℕ) → List (List ℕ)
joined line [] = line ∷ []
joined line (text ∷ texts) = (line ++ text) ∷ texts

unfoldable pub grouped : ℕ → List (List ℕ) → List (List ℕ)
grouped left [] = []
grouped zero (line ∷ lines) = cond (of_kind10 line) (line ∷ grouped zero lines) (joined line (grouped 3 lines))
grouped (suc zero) (line ∷ lines) = line ∷ grouped zero lines
grouped (suc (suc left)) (line ∷ lines) = joined line (grouped (suc left) lines)

abbrev pub forcings_of : List (List ℕ) → List (List ℕ)
forcings_of lines = grouped zero lines

-- "It reads forcing lines from standard input"
unfoldable pub printed : List ℕ → List ℕ
printed input = taking (forcings_of (lines_of input)) cold_log

-- ---- the input read by whole forcings: one that starts with `10` has 57 bytes, any other those of T's three nodes
unfoldable pub due_of : List ℕ → ℕ
due_of s = cond (of_kind10 s) 57 (forcing_length 3)

-- the forcings of the first n bytes or more
unfoldable pub wholes_of : ℕ → List ℕ → List (List ℕ)
wholes_of zero s = []
wholes_of (suc n) [] = []
wholes_of (suc n) (b ∷ s) = take (due_of (b ∷ s)) (b ∷ s) ∷ wholes_of n (drop (due_of (b ∷ s)) (b ∷ s))

unfoldable pub wholes : List ℕ → List (List ℕ)
wholes s = wholes_of (length s) s

-- Document 02, #104: what is printed for an input is what is printed for it in upper case.
use Prim.Native.Nat.{ℕ, zero, suc}
use mathlib.Core.Path.{◌≡◌, refl, sym, ap, ◌∙◌}
use mathlib.Core.Bool.{Bool, true, false, cond}
use mathlib.Core.List.{List, [], ◌∷◌, map, map-append}
use lib.Dec.{eqb, lit<}
use Rattle.lists.specs.Table.{zeros}
use Rattle.frames.specs.Frames.{line_feed}
use Rattle.frames.specs.Spelling.{upper, in_upper}
use Rattle.frames.proofs.SpellingLaws.{feed_upper, starts_upper}
use Rattle.forcings.specs.Forcings.{of_kind10}
use Rattle.forcings.proofs.SpellingLaws.{taken_upper}
use Rattle.forcelog.specs.declared.Log.{Log}
use Rattle.forcelog.specs.Log.{cold_log, expected, take_of}
use Rattle.forcelog.specs.Printed.{taking, longer, lines_of, joined, grouped, printed}

-- ---- the lines
longer_upper : (b : ℕ) (lines : List (List ℕ)) → longer (upper b) (map in_upper lines) ≡ map in_upper (longer b lines)
longer_upper b [] = refl
longer_upper b (line ∷ lines) = refl

lines_upper : (s : List ℕ) → lines_of (in_upper s) ≡ map in_upper (lines_of s)
unfolding lines_of
lines_upper [] = refl
lines_upper (b ∷ s) = rw (feed_upper b, lines_upper s) (go (eqb b line_feed))
  where
    go : (t : Bool) → cond t ((upper b ∷ []) ∷ map in_upper (lines_of s)) (longer (upper b) (map in_upper (lines_of s)))
        ≡ map in_upper (cond t ((b ∷ []) ∷ lines_of s) (longer b (lines_of s)))
    go true = refl
    go false = longer_upper b (lines_of s)

-- ---- the forcings that they are grouped into
kind_upper : (text : List ℕ) → of_kind10 (in_upper text) ≡ of_kind10 text
kind_upper text = starts_upper 49 48 (lit< tt) (lit< tt) text

joined_upper : (line : List ℕ) (texts : List (List ℕ)) → joined (in_upper line) (map in_upper texts) ≡ map in_upper (joined line texts)
joined_upper line [] = refl
joined_upper line (text ∷ texts) = ap (λ (l : List ℕ). l ∷ map in_upper texts) (sym (map-append upper line text))

grouped_upper : (left : ℕ) (lines : List (List ℕ)) → grouped left (map in_upper lines) ≡ map in_upper (grouped left lines)
unfolding grouped
grouped_upper left [] = refl
grouped_upper zero (line ∷ lines) = rw (kind_upper line, grouped_upper zero lines, grouped_upper 3 lines) (go (of_kind10 line))
  where
    go : (t : Bool) → cond t (in_upper line ∷ map in_upper (grouped zero lines)) (joined (in_upper line) (map in_upper (grouped 3 lines)))
        ≡ map in_upper (cond t (line ∷ grouped zero lines) (joined line (grouped 3 lines)))
    go true = refl
    go false = joined_upper line (grouped 3 lines)
grouped_upper (suc zero) (line ∷ lines) = ap (λ (l : List (List ℕ)). in_upper line ∷ l) (grouped_upper zero lines)
grouped_upper (suc (suc left)) (line ∷ lines) = ap (joined (in_upper line)) (grouped_upper (suc left) lines) ∙ joined_upper line (grouped (suc left) lines)

-- ---- a forcing taken
take_upper : (text : List ℕ) (log : Log) → take_of (in_upper text) log ≡ take_of text log
unfolding take_of
take_upper text log = rw (taken_upper (zeros 7) text (expected log), kind_upper text)

taking_upper : (texts : List (List ℕ)) (log : Log) → taking (map in_upper texts) log ≡ taking texts log
unfolding taking
taking_upper [] log = refl
taking_upper (text ∷ texts) log = rw (take_upper text log, taking_upper texts (take_of text log).log)

pub printed_upper : (s : List ℕ) → printed (in_upper s) ≡ printed s
unfolding printed
printed_upper s =
    ap (λ (l : List (List ℕ)). taking (grouped zero l) cold_log) (lines_upper s)
    ∙ ap (λ (l : List (List ℕ)). taking l cold_log) (grouped_upper zero (lines_of s))
    ∙ taking_upper (grouped zero (lines_of s)) cold_log

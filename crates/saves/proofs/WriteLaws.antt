-- A text with the first lines of a save written over it, and the next line put into it.
use Prim.Native.Nat.{ℕ, suc, ◌+◌, ◌<◌, ◌≤◌}
use mathlib.Core.Path.{◌≡◌, sym, ap, ◌∙◌}
use mathlib.Core.List.{List, ◌++◌}
use native.Mathlib.Numerals.{add-one}
use native.Mathlib.Omega.{arith}
use lib.ListN.{length, drop, length-append, length-drop}
use Rattle.frames.specs.Frames.{Frame, text}
use Rattle.lines.specs.declared.Line.{Line}
use Rattle.lines.specs.Building.{Put, holding, put_out, put_of}
use Rattle.lines.proofs.BuildLaws.{put_holding}
use Rattle.lines.proofs.LaidLaws.{laid_next}
use Rattle.frames.specs.Texts.{start_of, lines_to}
use Rattle.frames.proofs.TextLaws.{lines_long}
use Rattle.editions.specs.Lines.{edition2, layout_at, line_count, line_of, save_length}
use Rattle.saves.specs.Save.{Saved, values2}
use Rattle.saves.proofs.LineLaws.{fit2, line_long, start_below}

module _ (s : Saved) where
  abbrev line : ℕ → Frame
  line = line_of edition2 s.n (values2 s)

  pub lines_start : (j : ℕ) → length (lines_to line j) ≡ start_of (layout_at edition2 s.n) j
  lines_start = lines_long (layout_at edition2 s.n) line (line_long edition2 s.n (values2 s) (fit2 s))

  -- where line j starts
  abbrev pub reached : ℕ → ℕ
  reached j = length (lines_to line j)

  module _ (t : List ℕ) where
    -- the text with the lines before line j written
    abbrev pub so_far : ℕ → List ℕ
    so_far j = lines_to line j ++ drop (reached j) t

    module _ (h : save_length s.n ≤ length t) where
      pub so_far_long : (j : ℕ) → j ≤ line_count edition2 s.n → length (so_far j) ≡ length t
      so_far_long j l =
          length-append (lines_to line j) (drop (reached j) t)
          ∙ rw (length-drop, lines_start j) (omega (arith, h, start_below s.n j l))

      fits : (j : ℕ) → j < line_count edition2 s.n → reached j + length (text (line j)) ≤ length (so_far j)
      unfolding lines_to
      fits j l =
          rw (so_far_long j (omega arith), ← length-append (lines_to line j) (text (line j)), lines_start (suc j))
          (omega (arith, h, start_below s.n (suc j) l))

      -- line j put into the text at its place
      pub put_next : (j : ℕ) → j < line_count edition2 s.n → {old new : List ℕ} {at next : ℕ} {put : Line}
          → old ≡ so_far j → at ≡ reached j → put ≡ holding (text (line j)) → put_out next new ≡ put_of old at put
          → (j + 1 ≤ line_count edition2 s.n) × (next ≡ reached (j + 1)) × (new ≡ so_far (j + 1))
      unfolding lines_to
      put_next j l its-old its-at its-line its-put =
          let done = lines_to line j in
          let more = text (line j) in
          let laid = put_holding (so_far j) (reached j) more (fits j l) ∙ (λ i. put_out (sym (length-append done more) i) (laid_next done t more i)) in
          let z = its-put ∙ (λ i. put_of (its-old i) (its-at i) (its-line i)) ∙ laid in
          rw add-one (l, ap (λ (x : Put). x.next) z, ap (λ (x : Put). x.text) z)

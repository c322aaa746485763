-- Laws of a text of lines: where a line starts, and that each of the lines that were written one after the other is found at its place.
use Rattle.std.proofs.Common.{◌≡◌, ℕ, zero, suc, ◌+◌, ◌<◌, ◌≤◌, List, [], ◌++◌, length, take, sym, refl, ◌∙◌, ⊎_elim, append_assoc, append-nil, le_of_suc-le-suc, not-suc-le-zero, eq-or-lt_of_le, arith, length-append, take_all, take_at, take-add, drop_at}
use Rattle.frames.specs.Frames.{Frame, Layout, text}
use Rattle.frames.specs.Texts.{due, start_of, line_at, lines_to}

-- ---- where a line starts
module _ (layout : ℕ → Layout) where
  pub start_next : (j : ℕ) → start_of layout (suc j) ≡ start_of layout j + (due layout j + 1)
  unfolding start_of
  start_next j = refl

-- ---- lines of these layouts, one after the other
module _ (layout : ℕ → Layout) (line : ℕ → Frame) (long : (j : ℕ) → length (text (line j)) ≡ due layout j + 1) where
  pub lines_long : (j : ℕ) → length (lines_to line j) ≡ start_of layout j
  unfolding lines_to start_of
  lines_long zero = refl
  lines_long (suc j) = length-append (lines_to line j) (text (line j)) ∙ rw (lines_long j, long j)

  -- line j of the first m lines, whatever follows them
  line_among : (m j : ℕ) (rest : List ℕ) → j < m → line_at layout (lines_to line m ++ rest) j ≡ text (line j)
  unfolding lines_to
  line_among zero j rest h = absurd (not-suc-le-zero h)
  line_among (suc m) j rest h =
      rw append_assoc (⊎_elim here (λ l. line_among m j (text (line m) ++ rest) l) (eq-or-lt_of_le (le_of_suc-le-suc h)))
    where
      here : j ≡ m → line_at layout (lines_to line m ++ (text (line m) ++ rest)) j ≡ text (line j)
      here q = rw (q, drop_at _ _ _ (lines_long m), take_at _ _ _ (long m))

  pub line_back : (m j : ℕ) → j < m → line_at layout (lines_to line m) j ≡ text (line j)
  line_back m j h = rw append-nil at (line_among m j [] h)

-- ---- a text each of whose lines is one of these, and that has no more, is these lines
module _ (layout : ℕ → Layout) (line : ℕ → Frame) (t : List ℕ) where
  front_lines : (m : ℕ) → ((j : ℕ) → j < m → line_at layout t j ≡ text (line j)) → take (start_of layout m) t ≡ lines_to line m
  unfolding start_of lines_to
  front_lines zero h = refl
  front_lines (suc m) h =
      take-add (start_of layout m) (due layout m + 1) t ∙ (λ i. front_lines m (λ j b. h j (omega arith)) i ++ h m (omega arith) i)

  pub text_lines : (m : ℕ) → length t ≤ start_of layout m → ((j : ℕ) → j < m → line_at layout t j ≡ text (line j)) → t ≡ lines_to line m
  text_lines m l h = sym (take_all (start_of layout m) t l) ∙ front_lines m h

-- Laws of lines and fields: lines that are written field by field are read as those fields.
use Prim.Native.Nat.{ℕ, zero, suc, ◌≤◌, ◌<◌}
use mathlib.Core.Path.{◌≡◌, refl}
use mathlib.Core.List.{List, [], ◌∷◌, ◌++◌}
use native.Mathlib.Omega.{arith}
use borrow.Author.Tests.{eq-eqb, ne_eqb}
use lib.ListN.{length, get_or}
use Rattle.lists.specs.Table.{table}
use Rattle.grids.specs.Text.{cut, pieces_of, line_of, filled, fields_of}
use Rattle.gridtext.specs.Written.{spaced, lines_text}

-- ---- what every element of a list meets
abbrev pub All : {A : Type 0} → (A → Type 0) → List A → Type 0
All P [] = Unit
All P (x ∷ l) = P x × All P l

module _ {A : Type 0} (P : A → Type 0) where
  pub all_join : (a b : List A) → All P a → All P b → All P (a ++ b)
  all_join [] b p q = q
  all_join (x ∷ a) b p q = (p.0, all_join a b p.1 q)

  pub all_table : (n : ℕ) (f : ℕ → A) → ((i : ℕ) → P (f i)) → All P (table n f)
  unfolding table
  all_table zero f h = tt
  all_table (suc n) f h = (h 0, all_table n (λ k. f (suc k)) (λ i. h (suc i)))

  pub all_so : (Q : A → Type 0) (l : List A) → ((x : A) → P x → Q x) → All P l → All Q l
  all_so Q [] h p = tt
  all_so Q (x ∷ l) h p = (h x p.0, all_so Q l h p.1)

-- bytes above k, and one or more of them: a field is a word above the space
abbrev pub Above : ℕ → List ℕ → Type 0
Above k l = All (λ b. k < b) l

abbrev pub Word : ℕ → List ℕ → Type 0
Word k l = (0 < length l) × Above k l

abbrev pub Fields : List (List ℕ) → Type 0
Fields fs = All (Word 32) fs

pub word_less : (j k : ℕ) (l : List ℕ) → j ≤ k → Word k l → Word j l
word_less j k l h p = (p.0, all_so (λ b. k < b) (λ b. j < b) l (λ b q. omega (arith, q)) p.1)

-- ---- a piece ends at its end, and the last field at the line's
piece_first : (end : ℕ) (l t : List ℕ) → Above end l → pieces_of end (l ++ end ∷ t) ≡ l ∷ pieces_of end t
unfolding pieces_of cut
piece_first end [] t p = rw (eq-eqb end end refl)
piece_first end (b ∷ l) t p = rw (ne_eqb b end (omega arith), piece_first end l t p.1)

field_last : (f : List ℕ) → Word 32 f → pieces_of 32 f ≡ f ∷ []
unfolding pieces_of cut
field_last [] p = absurd (omega arith)
field_last (b ∷ []) p = rw (ne_eqb b 32 (omega arith))
field_last (b ∷ c ∷ f) p = rw (ne_eqb b 32 (omega arith), field_last (c ∷ f) (omega arith, p.1.1))

-- ---- a line is read as the fields that are written, and a text as its lines
fields_back : (fs : List (List ℕ)) → Fields fs → fields_of (spaced fs) ≡ fs
unfolding spaced pieces_of filled
fields_back [] p = refl
fields_back ([] ∷ fs) p = absurd (omega arith)
fields_back ((b ∷ f) ∷ []) p = rw (field_last (b ∷ f) p.0)
fields_back ((b ∷ f) ∷ g ∷ fs) p = rw (piece_first 32 (b ∷ f) (spaced (g ∷ fs)) p.0.1, fields_back (g ∷ fs) p.1)

-- no byte of a line is a line feed
no_feed : (fs : List (List ℕ)) → Fields fs → Above 10 (spaced fs)
unfolding spaced
no_feed [] p = tt
no_feed (f ∷ []) p = (word_less 10 32 f (omega arith) p.0).1
no_feed (f ∷ g ∷ fs) p = all_join _ f _ (word_less 10 32 f (omega arith) p.0).1 (omega arith, no_feed (g ∷ fs) p.1)

pub lines_back : (lines : List (List (List ℕ))) (j : ℕ) → All Fields lines → fields_of (line_of (lines_text lines) j) ≡ get_or lines j []
unfolding lines_text pieces_of filled
lines_back [] j p = refl
lines_back (fs ∷ lines) zero p = rw (piece_first 10 (spaced fs) (lines_text lines) (no_feed fs p.0), fields_back fs p.0)
lines_back (fs ∷ lines) (suc j) p = rw (piece_first 10 (spaced fs) (lines_text lines) (no_feed fs p.0), lines_back lines j p.1)

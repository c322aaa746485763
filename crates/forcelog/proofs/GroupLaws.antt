-- The lines of an input grouped into forcings: a forcing is the next lines joined, and starts as what is left of the input does.
use Prim.Native.Nat.{ℕ, zero, suc, ◌≤◌}
use mathlib.Core.Path.{◌≡◌, refl, sym, ap, ◌∙◌}
use mathlib.Core.Bool.{Bool, true, false, cond, ◌&&◌}
use mathlib.Core.List.{List, [], ◌∷◌, ◌++◌, append-nil, append_assoc}
use native.Mathlib.Omega.{arith}
use borrow.Author.Tests.{eqb-true, le-leb}
use lib.Dec.{lit≤, eqb, leb}
use lib.ListN.{length, drop}
use Rattle.rows.proofs.ScanLaws.{both_left, both_right}
use Rattle.frames.specs.Frames.{line_feed}
use Rattle.forcings.specs.Forcings.{of_kind10}
use Rattle.forcelog.specs.Printed.{longer, lines_of, joined, grouped, due_of}

-- ---- lines joined: the first k, and all
abbrev pub front : ℕ → List (List ℕ) → List ℕ
front zero lines = []
front (suc k) [] = []
front (suc k) (line ∷ lines) = line ++ front k lines

abbrev whole : List (List ℕ) → List ℕ
whole [] = []
whole (line ∷ lines) = line ++ whole lines

front_rest : (k : ℕ) (lines : List (List ℕ)) → front k lines ++ whole (drop k lines) ≡ whole lines
front_rest zero lines = refl
front_rest (suc k) [] = refl
front_rest (suc k) (line ∷ lines) = append_assoc line (front k lines) (whole (drop k lines)) ∙ ap (λ (l : List ℕ). line ++ l) (front_rest k lines)

longer_whole : (b : ℕ) (lines : List (List ℕ)) → whole (longer b lines) ≡ b ∷ whole lines
longer_whole b [] = refl
longer_whole b (line ∷ lines) = refl

lines_whole : (s : List ℕ) → whole (lines_of s) ≡ s
unfolding lines_of
lines_whole [] = refl
lines_whole (b ∷ s) = go (eqb b line_feed) ∙ ap (λ (l : List ℕ). b ∷ l) (lines_whole s)
  where
    go : (t : Bool) → whole (cond t ((b ∷ []) ∷ lines_of s) (longer b (lines_of s))) ≡ b ∷ whole (lines_of s)
    go true = refl
    go false = longer_whole b (lines_of s)

-- the first lines of an input, and what follows them
pub front_whole : (k : ℕ) (s : List ℕ) → front k (lines_of s) ++ whole (drop k (lines_of s)) ≡ s
front_whole k s = front_rest k (lines_of s) ∙ lines_whole s

-- ---- a text that starts with `10`
pub kind_is : (t : List ℕ) → of_kind10 t ≡ true → t ≡ 49 ∷ 48 ∷ drop 2 t
kind_is [] h = absurd (let z : ◌≡◌ {A = ℕ} 0 1 = cc h in omega arith)
kind_is (a ∷ []) h = absurd (let z : ◌≡◌ {A = ℕ} 0 1 = cc h in omega arith)
kind_is (a ∷ b ∷ t) h =
    let both = both_right (leb 2 (length (a ∷ b ∷ t))) (eqb a 49 && eqb b 48) h in
    λ i. eqb-true a 49 (both_left (eqb a 49) (eqb b 48) both) i ∷ eqb-true b 48 (both_right (eqb a 49) (eqb b 48) both) i ∷ t

pub kind_starts : (t : List ℕ) → of_kind10 (49 ∷ 48 ∷ t) ≡ true
kind_starts t = rw (le-leb 2 (length (49 ∷ 48 ∷ t)) (omega arith))

-- what is due fits the room that the program reads into
pub due_fits : (t : List ℕ) {n : ℕ} → n ≡ due_of t → (57 ≤ n) × (n ≤ 148)
unfolding due_of
due_fits t e = rw e (go (of_kind10 t))
  where
    go : (b : Bool) → (57 ≤ cond b 57 148) × (cond b 57 148 ≤ 148)
    go true = (lit≤ tt, lit≤ tt)
    go false = (lit≤ tt, lit≤ tt)

same_test : (a b : Bool) → (a ≡ true → b ≡ true) → (b ≡ true → a ≡ true) → a ≡ b
same_test true b f g = sym (f refl)
same_test false true f g = g refl
same_test false false f g = refl

-- the start of a text is of kind 10 where the text is, if it has the text's first two characters where these are `10`
pub kind_same : (p x t : List ℕ) → p ++ x ≡ t → (of_kind10 t ≡ true → of_kind10 p ≡ true) → of_kind10 p ≡ of_kind10 t
kind_same p x t e back = same_test (of_kind10 p) (of_kind10 t) (λ h. rw (← e, kind_is p h) (kind_starts (drop 2 p ++ x))) back

-- and the first lines of an input have them
kind_front : (k : ℕ) (s : List ℕ) → of_kind10 (front (suc k) (lines_of (49 ∷ 48 ∷ s))) ≡ true
unfolding lines_of
kind_front k s = go (lines_of s)
  where
    go : (l : List (List ℕ)) → of_kind10 (front (suc k) (longer 49 (longer 48 l))) ≡ true
    go [] = kind_starts (front k [])
    go (line ∷ lines) = kind_starts (line ++ front k lines)

pub kind_lines : (k : ℕ) (s : List ℕ) → of_kind10 (front (suc k) (lines_of s)) ≡ of_kind10 s
kind_lines k s = kind_same (front (suc k) (lines_of s)) _ s (front_whole (suc k) s) (λ h. rw (kind_is s h) (kind_front k (drop 2 s)))

-- ---- a forcing is the next lines joined
open_rest : (k : ℕ) (line : List ℕ) (lines : List (List ℕ))
    → joined line (grouped (suc k) lines) ≡ (line ++ front (suc k) lines) ∷ grouped zero (drop (suc k) lines)
unfolding grouped
open_rest k line [] = rw append-nil
open_rest zero line (l ∷ lines) = rw append-nil
open_rest (suc k) line (l ∷ lines) = ap (joined line) (open_rest k l lines)

abbrev Next : ℕ → List (List ℕ) → Type 0
Next k lines = grouped zero lines ≡ front k lines ∷ grouped zero (drop k lines)

one_line : (lines : List (List ℕ)) → of_kind10 (front 1 lines) ≡ true → Next 1 lines
unfolding grouped
one_line [] h = absurd (let z : ◌≡◌ {A = ℕ} 0 1 = cc h in omega arith)
one_line (line ∷ lines) h = let k : of_kind10 line ≡ true = rw append-nil at h in rw (k, append-nil)

four_lines : (lines : List (List ℕ)) → of_kind10 (front 1 lines) ≡ false → (lines ≡ [] → ⊥) → Next 4 lines
unfolding grouped
four_lines [] h more = absurd (more refl)
four_lines (line ∷ lines) h more = let k : of_kind10 line ≡ false = rw append-nil at h in rw k (open_rest 2 line lines)

-- of an input: one line where it starts with `10`, else four
pub next_10 : (s : List ℕ) → of_kind10 s ≡ true → Next 1 (lines_of s)
next_10 s h = one_line (lines_of s) (kind_lines 0 s ∙ h)

pub next_14 : (b : ℕ) (s : List ℕ) → of_kind10 (b ∷ s) ≡ false → Next 4 (lines_of (b ∷ s))
next_14 b s h =
    let none : lines_of (b ∷ s) ≡ [] → ⊥ = λ e. let z = ap length (sym (ap whole e) ∙ lines_whole (b ∷ s)) in absurd (omega (arith, z)) in
    four_lines (lines_of (b ∷ s)) (kind_lines 0 (b ∷ s) ∙ h) none

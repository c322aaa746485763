-- The lines of a text as a reader meets them, one after the other, and rows that are asked line by line.
use Rattle.std.proofs.Common.{◌≡◌, ℕ, zero, suc, ◌+◌, ◌<◌, Bool, true, false, cond, eqb, List, [], ◌∷◌, get_or, sym, refl, ap, ◌∙◌, suc-add, zero-add, add-one}
use Rattle.std.specs.Prelude.{Err}
use Rattle.rows.specs.declared.Answer.{Answer}
use Rattle.rows.specs.declared.Refusal.{Refusal}
use Rattle.rows.specs.Scan.{accepted, scan}
use Rattle.rows.specs.Refusals.{answered}
use Rattle.rows.proofs.ScanLaws.{scan_hit, scan_none}
use Rattle.rows.proofs.RefusalLaws.{refuses, accepts}
use Rattle.grids.specs.Text.{cut, pieces_of, line_of}
use Rattle.grids.specs.Numbers.{before_first, after_first}
use Rattle.grids.specs.Private.{present, after_lines}

-- ---- the first piece of a text, and those that follow it
cut_head : (b : ℕ) (ps : List (List ℕ)) → get_or (cut false b ps) 0 [] ≡ b ∷ get_or ps 0 []
unfolding cut
cut_head b [] = refl
cut_head b (p ∷ ps) = refl

cut_rest : (b i : ℕ) (ps : List (List ℕ)) → get_or (cut false b ps) (suc i) [] ≡ get_or ps (suc i) []
unfolding cut
cut_rest b i [] = refl
cut_rest b i (p ∷ ps) = refl

piece_first : (end : ℕ) (t : List ℕ) → get_or (pieces_of end t) 0 [] ≡ before_first end t
unfolding cut pieces_of before_first
piece_first end [] = refl
piece_first end (b ∷ t) = go (eqb b end) (piece_first end t)
  where
    go : (c : Bool) → get_or (pieces_of end t) 0 [] ≡ before_first end t → get_or (cut c b (pieces_of end t)) 0 [] ≡ cond c [] (b ∷ before_first end t)
    go true more = refl
    go false more = cut_head b (pieces_of end t) ∙ ap (λ (p : List ℕ). b ∷ p) more

piece_next : (end i : ℕ) (t : List ℕ) → get_or (pieces_of end t) (suc i) [] ≡ get_or (pieces_of end (after_first end t)) i []
unfolding cut pieces_of after_first
piece_next end i [] = refl
piece_next end i (b ∷ t) = go (eqb b end) (piece_next end i t)
  where
    go : (c : Bool) → get_or (pieces_of end t) (suc i) [] ≡ get_or (pieces_of end (after_first end t)) i []
        → get_or (cut c b (pieces_of end t)) (suc i) [] ≡ get_or (pieces_of end (cond c t (after_first end t))) i []
    go true more = refl
    go false more = cut_rest b i (pieces_of end t) ∙ more

-- ---- line i is what is present after i lines
pub line_at : (i : ℕ) (t : List ℕ) → line_of t i ≡ present (after_lines i t)
unfolding after_lines
line_at zero t = piece_first 10 t
line_at (suc i) t = piece_next 10 i t ∙ line_at i (after_first 10 t)

after_suc : (i : ℕ) (t : List ℕ) → after_lines (suc i) t ≡ after_first 10 (after_lines i t)
unfolding after_lines
after_suc zero t = refl
after_suc (suc i) t = after_suc i (after_first 10 t)

pub after_more : (i : ℕ) (t : List ℕ) → after_lines (i + 1) t ≡ after_first 10 (after_lines i t)
after_more i t = ap (λ (k : ℕ). after_lines k t) (add-one i) ∙ after_suc i t

pub after_add : (m i : ℕ) (t : List ℕ) → after_lines (m + i) t ≡ after_lines i (after_lines m t)
unfolding after_lines
after_add zero i t = ap (λ (k : ℕ). after_lines k t) (zero-add i)
after_add (suc m) i t = ap (λ (k : ℕ). after_lines k t) (suc-add m i) ∙ after_add m i (after_first 10 t)

pub lines_add : (m i : ℕ) (t : List ℕ) → line_of t (m + i) ≡ line_of (after_lines m t) i
lines_add m i t = line_at (m + i) t ∙ ap present (after_add m i t) ∙ sym (line_at i (after_lines m t))

-- ---- rows asked line by line: the first line that refuses, or none
module _ (rows : ℕ → List ℕ → Answer) (t : List ℕ) where
  abbrev pub asked : ℕ → Answer
  asked i = rows i (line_of t i)

  module _ (i : ℕ) {left : List ℕ} (at : left ≡ after_lines i t) where
    asked_is : {a : Answer} → a ≡ rows i (present left) → a ≡ asked i
    asked_is is = is ∙ ap (rows i) (ap present at ∙ sym (line_at i t))

    pub ask_more : accepted ≡ rows i (present left) → (asked i).number ≡ 0
    ask_more is = accepts (asked_is is)

    pub ask_hit : (x : Refusal) → answered (Err x) ≡ rows i (present left) → (n : ℕ) → i < n → ((k : ℕ) → k < i → (asked k).number ≡ 0)
        → answered (Err x) ≡ scan asked n
    ask_hit x is n l h = asked_is is ∙ sym (scan_hit asked n i l h (refuses x (asked_is is)))

  pub ask_none : (n : ℕ) → ((k : ℕ) → k < n → (asked k).number ≡ 0) → accepted ≡ scan asked n
  ask_none n h = sym (scan_none asked n h)

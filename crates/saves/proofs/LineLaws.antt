-- Which line of a save is which, and how long they are.
use Prim.Native.Nat.{ℕ, zero, suc, ◌+◌, ◌-◌, ◌*◌, ◌≤◌}
use mathlib.Core.Path.{◌≡◌, refl, sym, ap, ◌∙◌}
use mathlib.Core.Bool.{Bool, true, false, cond}
use mathlib.Core.List.{List, [], ◌∷◌}
use mathlib.Core.Logic.{⊎_elim}
use native.Mathlib.Nat.{le_of_suc-le-suc, eq-or-lt_of_le}
use native.Mathlib.Omega.{arith}
use borrow.Author.Tests.{lt-ltb, le-ltb}
use lib.Dec.{ltb}
use lib.ListN.{length}
use lib.Ieee.{Float}
use Rattle.quantities.specs.declared.Wind.{Wind}
use Rattle.frames.specs.Frames.{Layout, line, text, laid_out, digits_of}
use Rattle.frames.specs.Private.{widths_of}
use Rattle.frames.specs.Texts.{due, start_of}
use Rattle.frames.proofs.FrameLaws.{text_length}
use Rattle.frames.proofs.TextLaws.{start_next}
use Rattle.editions.specs.Lines.{Edition, Values, node1, node2, end_layout, edition1, edition2, layout_at, node_line, line_count, values_from, line_of, save_length}
use Rattle.editions.proofs.LineLaws.{past_next, past_due}
use Rattle.saves.specs.Save.{Saved, state_values, state_values1, values1, values2}

-- ---- where each line starts
module _ (layout : ℕ → Layout) where
  start_mono : (j k : ℕ) → j ≤ k → start_of layout j ≤ start_of layout k
  start_mono j zero h = let e : j ≡ 0 = omega arith in rw e (omega arith)
  start_mono j (suc k) h = ⊎_elim (λ e. rw e (omega arith)) (λ l. rw (start_next layout k) (omega (arith, start_mono j k (le_of_suc-le-suc l)))) (eq-or-lt_of_le h)

module _ (d : Edition) (n : ℕ) where
  pub start_node : (i : ℕ) → i ≤ n → start_of (layout_at d n) (node_line d i) ≡ start_of (layout_at d n) (node_line d 0) + (digits_of d.node.widths + 1) * i
  start_node zero h = omega arith
  start_node (suc i) h =
      ap (start_of (layout_at d n)) (past_next d.heads i)
      ∙ start_next (layout_at d n) (node_line d i)
      ∙ rw (past_due d.heads d.node n i, lt-ltb i n (omega arith), start_node i (omega arith)) (omega arith)

  pub start_last : start_of (layout_at d n) (node_line d (suc n)) ≡ start_of (layout_at d n) (node_line d 0) + (digits_of d.node.widths + 1) * n + 13
  start_last =
      ap (start_of (layout_at d n)) (past_next d.heads n)
      ∙ start_next (layout_at d n) (node_line d n)
      ∙ rw (past_due d.heads d.node n n, le-ltb n n (omega arith), start_node n (omega arith)) (omega arith)

-- "127+105N bytes"
pub save_long : (n : ℕ) → start_of (layout_at edition2 n) (line_count edition2 n) ≡ save_length n
unfolding start_of
save_long n =
    let last : line_count edition2 n ≡ node_line edition2 (suc n) = omega arith in
    ap (start_of (layout_at edition2 n)) last ∙ start_last edition2 n ∙ omega arith

-- no line starts past the end
pub start_below : (n j : ℕ) → j ≤ line_count edition2 n → start_of (layout_at edition2 n) j ≤ save_length n
start_below n j h = rw (← save_long n) (start_mono (layout_at edition2 n) j (line_count edition2 n) h)

-- ---- how long they are: a line has as many values as its layout has fields
pub all_laid : (ws vs : List ℕ) → length vs ≡ length ws → widths_of (laid_out ws vs) ≡ ws
all_laid [] vs h = refl
all_laid (w ∷ ws) [] h = absurd (omega arith)
all_laid (w ∷ ws) (v ∷ vs) h = ap (λ (l : List ℕ). w ∷ l) (all_laid ws vs (omega arith))

abbrev pub Fitting : Edition → ℕ → Values → Type 0
Fitting d n v = (j : ℕ) → length (values_from v.heads v.node n j) ≡ length (layout_at d n j).widths

pub line_long : (d : Edition) (n : ℕ) (v : Values) → Fitting d n v → (j : ℕ) → length (text (line_of d n v j)) ≡ due (layout_at d n) j + 1
line_long d n v fit j = text_length (line_of d n v j) ∙ ap (λ (ws : List ℕ). digits_of ws + 1) (all_laid (layout_at d n j).widths _ (fit j))

-- past the heads: a node's line or the end
fit_past : (node : Layout) (n : ℕ) (values : List ℕ) → length values ≡ length node.widths → (b : Bool)
    → length (cond b values (n ∷ [])) ≡ length (cond b node end_layout).widths
fit_past node n values e true = e
fit_past node n values e false = refl

pub fit2 : (s : Saved) → Fitting edition2 s.n (values2 s)
fit2 s zero = refl
fit2 s (suc zero) = refl
fit2 s (suc (suc i)) = fit_past node2 s.n (state_values s.n s.state i) refl (ltb i s.n)

pub fit1 : (n e : ℕ) (state : List Float) (step : ℕ) (w : Wind) → Fitting edition1 n (values1 n e state step w)
fit1 n e state step w zero = refl
fit1 n e state step w (suc i) = fit_past node1 n (state_values1 n state i) refl (ltb i n)

-- ---- edition 2's node lines and its end line, by their number
pub node_line_lem : (s : Saved) (j : ℕ) → 2 ≤ j → j ≤ s.n + 1 → line node2 (j - 2 + 2) (state_values s.n s.state (j - 2)) ≡ line_of edition2 s.n (values2 s) j
node_line_lem s j low high =
    let i = j - 2 in
    let q : suc (suc i) ≡ j = omega arith in
    let e : i + 2 ≡ suc (suc i) = omega arith in
    ap (λ (k : ℕ). line node2 k (state_values s.n s.state i)) e
    ∙ go i (lt-ltb i s.n (omega arith))
    ∙ ap (line_of edition2 s.n (values2 s)) q
  where
    go : (i : ℕ) → ltb i s.n ≡ true → line node2 (suc (suc i)) (state_values s.n s.state i) ≡ line_of edition2 s.n (values2 s) (suc (suc i))
    go i b = rw b refl

pub end_line : (s : Saved) (j : ℕ) → j ≡ s.n + 2 → line end_layout (s.n + 2) (s.n ∷ []) ≡ line_of edition2 s.n (values2 s) j
end_line s j h =
    let e : s.n + 2 ≡ suc (suc s.n) = omega arith in
    ap (λ (k : ℕ). line end_layout k (s.n ∷ [])) e
    ∙ go (le-ltb s.n s.n (omega arith))
    ∙ ap (line_of edition2 s.n (values2 s)) (sym (h ∙ e))
  where
    go : ltb s.n s.n ≡ false → line end_layout (suc (suc s.n)) (s.n ∷ []) ≡ line_of edition2 s.n (values2 s) (suc (suc s.n))
    go b = rw b refl

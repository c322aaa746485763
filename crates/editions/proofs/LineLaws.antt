-- Which line of a save is a node's and which the end, by its number; and that the code's editions are told apart by their lines.
use Prim.Native.Nat.{ℕ, suc, ◌-◌, ◌<◌, ◌≤◌, ◌+◌}
use mathlib.Core.Path.{◌≡◌, refl, ap, ◌∙◌}
use mathlib.Core.Bool.{cond}
use mathlib.Core.List.{List, [], ◌∷◌}
use native.Mathlib.Omega.{arith}
use borrow.Author.Tests.{lt-ltb, le-ltb}
use lib.Dec.{ltb}
use lib.ListN.{length}
use Rattle.frames.specs.Frames.{Layout}
use Rattle.editions.specs.declared.Edition as code
use Rattle.editions.specs.declared.Edition.TheVariants.{One, Two}
use Rattle.editions.specs.Lines.{Edition, end_layout, layout_from, layout_at, past, node_line}
use Rattle.editions.specs.Editions.{lines_of}

pub past_next : (ls : List Layout) (i : ℕ) → past ls (suc i) ≡ suc (past ls i)
past_next [] i = refl
past_next (l ∷ ls) i = ap suc (past_next ls i)

pub past_due : (ls : List Layout) (node : Layout) (n i : ℕ) → layout_from ls node n (past ls i) ≡ cond (ltb i n) node end_layout
past_due [] node n i = refl
past_due (l ∷ ls) node n i = past_due ls node n i

past_sum : (ls : List Layout) (i : ℕ) → past ls i ≡ length ls + i
past_sum [] i = omega arith
past_sum (l ∷ ls) i = omega (arith, past_sum ls i)

module _ (d : Edition) (n : ℕ) where
  -- a line past the heads is a node's, or the end
  pub its_node : (j : ℕ) → length d.heads ≤ j → j ≡ node_line d (j - length d.heads)
  its_node j h = omega (arith, past_sum d.heads (j - length d.heads))

  pub node_due : (i : ℕ) → i < n → layout_at d n (node_line d i) ≡ d.node
  node_due i l = rw (past_due d.heads d.node n i, lt-ltb i n l)

  pub at_node : (j : ℕ) → length d.heads ≤ j → j - length d.heads < n → layout_at d n j ≡ d.node
  at_node j h l = ap (layout_at d n) (its_node j h) ∙ node_due (j - length d.heads) l

  pub at_end : (j : ℕ) → length d.heads ≤ j → n ≤ j - length d.heads → layout_at d n j ≡ end_layout
  at_end j h l = ap (layout_at d n) (its_node j h) ∙ rw (past_due d.heads d.node n (j - length d.heads), le-ltb (j - length d.heads) n l)

-- two editions of the same lines are one
pub lines_apart : (a b : code.Edition) → lines_of a ≡ lines_of b → a ≡ b
lines_apart One One e = refl
lines_apart One Two e = absurd (omega (arith, ap (λ (d : Edition). length d.heads) e))
lines_apart Two One e = absurd (omega (arith, ap (λ (d : Edition). length d.heads) e))
lines_apart Two Two e = refl

-- Row 7: the marks after the first j numbers of the triangle list.
use Prim.Native.Nat.{ℕ, ◌+◌, ◌<◌}
use mathlib.Core.Path.{◌≡◌, refl, sym, ap, subst, ◌∙◌}
use mathlib.Core.Bool.{Bool, true, false, ◌||◌}
use mathlib.Core.List.{List}
use borrow.Author.Tests.{eqb-true, eqb-false}
use lib.Dec.{eqb}
use lib.ListN.{length, get_or, set}
use lib.Seq.{get_or-set_same, get_or-set_other}
use Rattle.rows.specs.Scan.{some}
use Rattle.rows.proofs.ScanLaws.{some_more}

abbrev pub named_by : List ℕ → ℕ → ℕ → Bool
named_by tri j i = some (λ k. eqb (get_or tri k 0) i) j

or_false : (b : Bool) → b ≡ (b || false)
or_false true = refl
or_false false = refl

or_true : (b : Bool) → (b || true) ≡ true
or_true true = refl
or_true false = refl

-- one more number marks its node and leaves the other marks
pub mark_more : (tri : List ℕ) (seen : List Bool) (i j : ℕ) → get_or tri j 0 < length seen → get_or seen i false ≡ named_by tri j i
    → get_or (set seen (get_or tri j 0) true) i false ≡ named_by tri (j + 1) i
mark_more tri seen i j l h = go (eqb v i) refl ∙ sym (some_more (λ k. eqb (get_or tri k 0) i) j)
  where
    v : ℕ
    v = get_or tri j 0

    go : (b : Bool) → eqb v i ≡ b → get_or (set seen v true) i false ≡ (named_by tri j i || eqb v i)
    go true q =
        subst (λ (k : ℕ). get_or (set seen v true) k false ≡ true) (eqb-true v i q) (get_or-set_same seen v true false l)
        ∙ sym (ap (λ (b : Bool). named_by tri j i || b) q ∙ or_true (named_by tri j i))
    go false q =
        get_or-set_other seen v i true false (λ (p : i ≡ v). eqb-false v i q (sym p))
        ∙ h
        ∙ or_false (named_by tri j i)
        ∙ sym (ap (λ (b : Bool). named_by tri j i || b) q)

-- One gauge's readings, and one more of them: what its mark is then. The last law is where what replaces a mark is found to be higher.
use mathlib.Core.Path.{◌≡◌, refl, sym, ap, ◌∙◌}
use mathlib.Core.Bool.{Bool, true, false, cond, false≢true}
use mathlib.Core.List.Memᴰ
use mathlib.Core.List.{List, [], ◌∷◌, ◌++◌, append_assoc, Memᴰ}
use mathlib.Core.Logic.{◌⊎◌, inl, inr}
use lib.Ieee.{le}
use Rattle.rows.specs.Numbers.{in_size}
use Rattle.peaks.specs.Peaks.{Mark, unmarked, Reading, marked, noted, FirstHighest}
use Rattle.peaks.proofs.OrderLaws.{le_reflexive, le_transitive, le_total}

-- ---- one gauge: a reading more at the end
pub each_more : (P : Reading → Type 0) (l : List Reading) (r : Reading) → ((s : Reading) → Memᴰ s l → P s) → P r → (s : Reading) → Memᴰ s (l ++ (r ∷ [])) → P s
each_more P l r h i s m = go (Memᴰ.append_cases l m)
  where
    go : Memᴰ s l ⊎ Memᴰ s (r ∷ []) → P s
    go (inl k) = h s k
    go (inr k) = rw (Memᴰ.eq_of_singleton k) i

-- no elevation is beyond 30
abbrev pub Sized : List Reading → Type 0
Sized l = (r : Reading) → Memᴰ r l → in_size 30 r.level ≡ true

-- the first reading is marked, and a later one is where it is not at most the peak
pub noted_first : (r : Reading) → noted unmarked r ≡ marked r
unfolding noted
noted_first r = refl

noted_next : (top r : Reading) → noted (marked top) r ≡ cond (le r.level top.level) (marked top) (marked r)
unfolding noted
noted_next top r = refl

pub first_highest : (r : Reading) → in_size 30 r.level ≡ true → FirstHighest (r ∷ []) (marked r)
first_highest r i =
    record {
      before = [];
      top = r;
      rest = [];
      among = refl;
      kept = refl;
      highest = λ s k. rw (Memᴰ.eq_of_singleton k) (le_reflexive r.level i);
      first = λ s k. absurd (Memᴰ.not-nil k);
    }

module _ (l : List Reading) (m : Mark) (r : Reading) (h : FirstHighest l m) where
  stays : le r.level h.top.level ≡ true → FirstHighest (l ++ (r ∷ [])) m
  stays e =
      record {
        before = h.before;
        top = h.top;
        rest = h.rest ++ (r ∷ []);
        among = ap (λ (k : List Reading). k ++ (r ∷ [])) h.among ∙ append_assoc h.before (h.top ∷ h.rest) (r ∷ []);
        kept = h.kept;
        highest = each_more (λ s. le s.level h.top.level ≡ true) l r h.highest e;
        first = h.first;
      }

  module _ (sized : Sized l) (i : in_size 30 r.level ≡ true) where
    top_sized : in_size 30 h.top.level ≡ true
    top_sized = sized h.top (rw h.among (Memᴰ.append_right h.before (Memᴰ.head refl)))

    replaces : le r.level h.top.level ≡ false → FirstHighest (l ++ (r ∷ [])) (marked r)
    replaces e =
        record {
          before = l;
          top = r;
          rest = [];
          among = refl;
          kept = refl;
          highest = each_more (λ s. le s.level r.level ≡ true) l r under (le_reflexive r.level i);
          first = λ s k. lower s k (le r.level s.level) refl;
        }
      where
        under : (s : Reading) → Memᴰ s l → le s.level r.level ≡ true
        under s k =
            le_transitive s.level h.top.level r.level (sized s k) top_sized i (h.highest s k) (le_total r.level h.top.level i top_sized e)

        lower : (s : Reading) → Memᴰ s l → (b : Bool) → le r.level s.level ≡ b → le r.level s.level ≡ false
        lower s k true f = absurd (false≢true (sym e ∙ le_transitive r.level s.level h.top.level i (sized s k) top_sized f (h.highest s k)))
        lower s k false f = f

    pub next_highest : (b : Bool) → le r.level h.top.level ≡ b → FirstHighest (l ++ (r ∷ [])) (noted m r)
    next_highest true e = rw (h.kept, noted_next, e, ← h.kept) (stays e)
    next_highest false e = rw (h.kept, noted_next, e) (replaces e)

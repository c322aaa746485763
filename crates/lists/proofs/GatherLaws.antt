-- Laws of `gathered`: how a list of sums takes in one triangle after another, and how large a sum of whole numbers can be.
use Prim.Native.Nat.{ℕ, zero, suc, ◌+◌, ◌*◌, ◌<◌, ◌≤◌}
use mathlib.Core.Path.{◌≡◌, refl, sym, ap, ◌∙◌}
use mathlib.Core.List.{List}
use mathlib.Core.Bool.{Bool, true, false, cond}
use mathlib.Core.Logic.{◌⊎◌, inl, inr}
use native.Mathlib.Nat.{mul-suc}
use native.Mathlib.Numerals.{add-one}
use native.Mathlib.Omega.{arith}
use borrow.Author.Tests.{eqb-true, eqb-false}
use lib.Dec.{eqb}
use lib.ListN.{length, get_or, set, length-set}
use lib.Seq.{get_or-set_same, get_or-set_other}
use Rattle.lists.specs.Table.{table}
use Rattle.lists.specs.Runs.{runs_of}
use Rattle.lists.specs.Gather.{Three, Adding, whole, plus_if, joined, gathered}
use Rattle.lists.specs.Private.{Below, past, added_at, spread}
use Rattle.lists.proofs.TableLaws.{put_at, get_d_table, set_table}
use Rattle.lists.proofs.RunLaws.{run_read, run_write}

module _ {A : Type 0} (add : Adding A) (none : A) where
  pub length_added : (l : List A) (i : ℕ) (v : A) → length (added_at add none l i v) ≡ length l
  unfolding added_at
  length_added l i v = simp length-set

  -- ---- one value, and three, added to a table
  put_plus : (f : ℕ → A) (m : ℕ) (v : A) → put_at m (add.plus (f m) v) f ≡ (λ i. plus_if add (eqb i m) (f i) v)
  put_plus f m v = λ j i. at i (eqb i m) refl j
    where
      at : (i : ℕ) (b : Bool) → eqb i m ≡ b → cond b (add.plus (f m) v) (f i) ≡ plus_if add b (f i) v
      at i true e = ap (λ (k : ℕ). add.plus (f k) v) (sym (eqb-true i m e))
      at i false e = refl

  added_table : (n : ℕ) (f : ℕ → A) (m : ℕ) (v : A) → m < n → added_at add none (table n f) m v ≡ table n (λ i. plus_if add (eqb i m) (f i) v)
  unfolding added_at
  added_table n f m v p = rw (get_d_table n f m none p, set_table n f m (add.plus (f m) v)) (ap (table n) (put_plus f m v))

  pub spread_table : (n : ℕ) (c : Three ℕ) (v : Three A) (f : ℕ → A) → Below c n → spread add none c v (table n f) ≡ table n (λ i. joined add c v i (f i))
  unfolding spread joined
  spread_table n c v f p =
      rw (added_table n f c.first v.first p.first)
      (rw (added_table n (λ i. plus_if add (eqb i c.first) (f i) v.first) c.second v.second p.second)
      (added_table n (λ i. plus_if add (eqb i c.second) (plus_if add (eqb i c.first) (f i) v.first) v.second) c.third v.third p.third))

  -- ---- triangle e takes the sums on to e + 1
  gather_suc : (n : ℕ) (corners : ℕ → Three ℕ) (give : ℕ → Three A) (e : ℕ) → Below (corners e) n
      → spread add none (corners e) (give e) (table n (gathered add corners give e)) ≡ table n (gathered add corners give (suc e))
  unfolding gathered
  gather_suc n corners give e p = spread_table n (corners e) (give e) (gathered add corners give e) p

  pub gather_more : (n : ℕ) (corners : ℕ → Three ℕ) (give : ℕ → Three A) (e : ℕ) → Below (corners e) n
      → spread add none (corners e) (give e) (table n (gathered add corners give e)) ≡ table n (gathered add corners give (e + 1))
  gather_more n corners give e p = rw (add-one e) (gather_suc n corners give e p)

-- ---- the same in run c of several
module _ {A : Type 0} (add : Adding A) (none : A) (n : ℕ) (fs : List (ℕ → A)) (c : ℕ) (h : c < length fs) where
  added_run : (f : ℕ → A) (m : ℕ) (v : A) → m < n
      → added_at add none (runs_of n (set fs c f)) (c * n + m) v ≡ runs_of n (set fs c (λ i. plus_if add (eqb i m) (f i) v))
  unfolding added_at
  added_run f m v l =
      let here : c < length (set fs c f) = simp length-set h in
      rw (run_read n (set fs c f) c m none here l, get_or-set_same fs c f (λ _. none) h, run_write n fs c f m (add.plus (f m) v) h l)
      (ap (λ (g : ℕ → A). runs_of n (set fs c g)) (put_plus add none f m v))

  pub spread_run : (k : Three ℕ) (v : Three A) (f : ℕ → A) → Below k n
      → spread add none (past (c * n) k) v (runs_of n (set fs c f)) ≡ runs_of n (set fs c (λ i. joined add k v i (f i)))
  unfolding spread joined
  spread_run k v f p =
      rw (added_run f k.first v.first p.first)
      (rw (added_run (λ i. plus_if add (eqb i k.first) (f i) v.first) k.second v.second p.second)
      (added_run (λ i. plus_if add (eqb i k.second) (plus_if add (eqb i k.first) (f i) v.first) v.second) k.third v.third p.third))

  pub gather_run : (corners : ℕ → Three ℕ) (give : ℕ → Three A) (e : ℕ) → Below (corners e) n
      → spread add none (past (c * n) (corners e)) (give e) (runs_of n (set fs c (gathered add corners give e)))
      ≡ runs_of n (set fs c (gathered add corners give (e + 1)))
  unfolding gathered
  gather_run corners give e p = rw (add-one e) (spread_run (corners e) (give e) (gathered add corners give e) p)

-- ---- a node's sum depends only on the triangles that name it
abbrev pub Names : Three ℕ → ℕ → Type 0
Names c i = (i ≡ c.first) ⊎ ((i ≡ c.second) ⊎ (i ≡ c.third))

module _ {A : Type 0} (add : Adding A) where
  joined_named : (c : Three ℕ) (v w : Three A) (i : ℕ) (s : A) → (Names c i → v ≡ w) → joined add c v i s ≡ joined add c w i s
  unfolding joined
  joined_named c v w i s h = go (eqb i c.first) refl (eqb i c.second) refl (eqb i c.third) refl
    where
      named : Names c i → joined add c v i s ≡ joined add c w i s
      named n = ap (λ (x : Three A). joined add c x i s) (h n)

      go : (a : Bool) → eqb i c.first ≡ a → (b : Bool) → eqb i c.second ≡ b → (d : Bool) → eqb i c.third ≡ d → joined add c v i s ≡ joined add c w i s
      go true p b q d r = named (inl (eqb-true _ _ p))
      go false p true q d r = named (inr (inl (eqb-true _ _ q)))
      go false p false q true r = named (inr (inr (eqb-true _ _ r)))
      go false p false q false r = rw (p, q, r)

  pub gathered_named : (corners : ℕ → Three ℕ) (f g : ℕ → Three A) (e i : ℕ) → ((k : ℕ) → k < e → Names (corners k) i → f k ≡ g k)
      → gathered add corners f e i ≡ gathered add corners g e i
  unfolding gathered
  gathered_named corners f g zero i h = refl
  gathered_named corners f g (suc e) i h =
      joined_named (corners e) (f e) (g e) i _ (h e (omega arith))
      ∙ ap (joined add (corners e) (g e) i) (gathered_named corners f g e i (λ k l. h k (omega arith)))

-- ---- whole numbers
pub record AtMost (b : ℕ) (v : Three ℕ) : Type 0 where
  pub first : v.first ≤ b
  pub second : v.second ≤ b
  pub third : v.third ≤ b

plus_le : (t : Bool) (s v b : ℕ) → v ≤ b → plus_if whole t s v ≤ s + b
plus_le true s v b h = omega arith
plus_le false s v b h = omega arith

-- one addition raises no place by more than what is added
pub added_le : (l : List ℕ) (i d v : ℕ) → i < length l → get_or (added_at whole 0 l i d) v 0 ≤ get_or l v 0 + d
unfolding added_at
added_le l i d v h = go (eqb v i) refl
  where
    go : (b : Bool) → eqb v i ≡ b → get_or (set l i (get_or l i 0 + d)) v 0 ≤ get_or l v 0 + d
    go true e = rw (eqb-true v i e, get_or-set_same l i (get_or l i 0 + d) 0 h) (omega arith)
    go false e = rw (get_or-set_other l i v (get_or l i 0 + d) 0 (eqb-false v i e)) (omega arith)

joined_le : (b : ℕ) (c v : Three ℕ) (i s : ℕ) → AtMost b v → joined whole c v i s ≤ s + 3 * b
unfolding joined
joined_le b c v i s h =
    let one = plus_if whole (eqb i c.first) s v.first in
    let two = plus_if whole (eqb i c.second) one v.second in
    omega (
      arith,
      plus_le (eqb i c.first) s v.first b h.first,
      plus_le (eqb i c.second) one v.second b h.second,
      plus_le (eqb i c.third) two v.third b h.third,
    )

-- a sum of values that are at most b is at most 3 · b for each triangle
pub gathered_le : (b : ℕ) (corners give : ℕ → Three ℕ) (e i : ℕ) → ((k : ℕ) → k < e → AtMost b (give k)) → gathered whole corners give e i ≤ 3 * b * e
unfolding gathered
gathered_le b corners give zero i h = omega arith
gathered_le b corners give (suc e) i h =
    rw (mul-suc (3 * b) e)
    (omega (arith, joined_le b (corners e) (give e) i (gathered whole corners give e i) (h e (omega arith)), gathered_le b corners give e i (λ k l. h k (omega arith))))

-- A loop over the first places of a table, that writes some of them: those that it has not come to, and those that it passes over, hold what all held first.
use Rattle.std.proofs.Common.{◌≡◌, ℕ, ◌+◌, ◌<◌, Bool, true, false, cond, eqb, ltb, set, sym, refl, ap, ◌∙◌, arith, ltb-false, ltb-true, le-ltb, lt-ltb, eqb-true}
use Prim.Native.Nat.{min}
use borrow.Author.Tests.{eqb-false}
use Rattle.lists.specs.Table.{table}
use Rattle.lists.proofs.TableLaws.{put_at, set_table, table_same}

module _ {A : Type 0} (n : ℕ) (f : ℕ → A) (o : A) where
  -- the places below g are f's, and the others hold o
  abbrev pub filled : ℕ → ℕ → A
  filled g k = cond (ltb k g) (f k) o

  filled_next : (g k : ℕ) {v : A} → v ≡ f g → put_at g v (filled g) k ≡ filled (g + 1) k
  filled_next g k {v} q = go (eqb k g) refl (ltb k g) refl
    where
      go : (b : Bool) → eqb k g ≡ b → (c : Bool) → ltb k g ≡ c → cond b v (cond c (f k) o) ≡ filled (g + 1) k
      go true e c d = rw (lt-ltb k (g + 1) (omega (arith, eqb-true k g e))) (q ∙ ap f (sym (eqb-true k g e)))
      go false e true d = rw (lt-ltb k (g + 1) (omega (arith, ltb-true k g d)))
      go false e false d = rw (le-ltb k (g + 1) (omega (arith, eqb-false k g e, ltb-false k g d)))

  filled_same : (g k : ℕ) → f g ≡ o → filled g k ≡ filled (g + 1) k
  filled_same g k q = go (eqb k g) refl (ltb k g) refl
    where
      go : (b : Bool) → eqb k g ≡ b → (c : Bool) → ltb k g ≡ c → cond c (f k) o ≡ filled (g + 1) k
      go b e true d = rw (lt-ltb k (g + 1) (omega (arith, ltb-true k g d)))
      go true e false d = rw (lt-ltb k (g + 1) (omega (arith, eqb-true k g e))) (sym (ap f (eqb-true k g e) ∙ q))
      go false e false d = rw (le-ltb k (g + 1) (omega (arith, eqb-false k g e, ltb-false k g d)))

  pub fill_none : table n (λ _. o) ≡ table n (filled 0)
  fill_none = table_same n (λ _. o) (filled 0) (λ k l. sym (ap (λ (b : Bool). cond b (f k) o) (le-ltb k 0 (omega arith))))

  pub fill_put : (g : ℕ) {v : A} → v ≡ f g → set (table n (filled g)) g v ≡ table n (filled (g + 1))
  fill_put g q = set_table n (filled g) g _ ∙ table_same n _ (filled (g + 1)) (λ k l. filled_next g k q)

  pub fill_skip : (g : ℕ) → f g ≡ o → table n (filled g) ≡ table n (filled (g + 1))
  fill_skip g q = table_same n (filled g) (filled (g + 1)) (λ k l. filled_same g k q)

  pub fill_whole : table n (filled n) ≡ table n f
  fill_whole = table_same n (filled n) f (λ k l. ap (λ (b : Bool). cond b (f k) o) (lt-ltb k n l))

  -- the first `count` of them, as far as there are so many
  below_both : (count k : ℕ) → k < n → ltb k (min count n) ≡ ltb k count
  below_both count k l = go (ltb k count) refl
    where
      go : (b : Bool) → ltb k count ≡ b → ltb k (min count n) ≡ b
      go true e = let h = ltb-true k count e in lt-ltb k (min count n) (omega arith)
      go false e = let h = ltb-false k count e in le-ltb k (min count n) (omega arith)

  pub fill_all : (count : ℕ) {g : ℕ} → g ≡ min count n → table n (filled g) ≡ table n (filled count)
  fill_all count e =
      ap (λ (g : ℕ). table n (filled g)) e
      ∙ table_same n (filled (min count n)) (filled count) (λ k l. ap (λ (b : Bool). cond b (f k) o) (below_both count k l))

-- Laws of `table`, `up_to` and `copied`.
use Prim.Native.Nat.{ℕ, zero, suc, ◌+◌, ◌<◌, ◌≤◌}
use mathlib.Core.Path.{◌≡◌, refl, sym, ap, ◌∙◌}
use mathlib.Core.List.{List, [], ◌∷◌, ◌++◌, append-nil}
use mathlib.Core.Logic.{◌⊎◌, inl, inr, ⊎_elim}
use native.Mathlib.Nat.{not-suc-le-zero, le_of_suc-le-suc, zero-add, suc-add}
use native.Mathlib.Omega.{arith}
use native.Mathlib.Numerals.{add-one}
use mathlib.Core.Bool.{Bool, true, false, cond}
use borrow.Author.Tests.{eqb-true, eqb-false}
use lib.Dec.{eqb}
use lib.ListN.{length, take, drop, get_or, set, length-set}
use Rattle.std.specs.Prelude.{replicate}
use lib.Seq.{ext_get_or, get_or-set_same, get_or-set_other, take-length, drop-length}
use Rattle.lists.specs.Table.{table, copied}
use Rattle.lists.specs.Private.{up_to}

module _ {A : Type 0} where
  pub length_table : (n : ℕ) (f : ℕ → A) → length (table n f) ≡ n
  unfolding table
  length_table zero f = refl
  length_table (suc n) f = ap suc (length_table n (λ k. f (suc k)))

  pub get_d_table : (n : ℕ) (f : ℕ → A) (i : ℕ) (d : A) → i < n → get_or (table n f) i d ≡ f i
  unfolding table
  get_d_table zero f i d h = absurd (not-suc-le-zero h)
  get_d_table (suc n) f zero d h = refl
  get_d_table (suc n) f (suc i) d h = get_d_table n (λ k. f (suc k)) i d (le_of_suc-le-suc h)

  -- a list of n places that are those of f is f's table
  pub is_table : (d : A) (n : ℕ) (f : ℕ → A) (l : List A) → length l ≡ n → ((i : ℕ) → i < n → get_or l i d ≡ f i) → l ≡ table n f
  is_table d n f l e h =
      ext_get_or d l (table n f) (e ∙ sym (length_table n f)) (λ i p. h i (rw e at p) ∙ sym (get_d_table n f i d (rw e at p)))

  -- one place written anew
  abbrev pub put_at : ℕ → A → (ℕ → A) → ℕ → A
  put_at i v f k = cond (eqb k i) v (f k)

  put_at_lem : (n : ℕ) (f : ℕ → A) (i k : ℕ) (v : A) → k < n → (b : Bool) → eqb k i ≡ b → get_or (set (table n f) i v) k v ≡ cond b v (f k)
  put_at_lem n f i k v h true e =
      ap (λ (m : ℕ). get_or (set (table n f) m v) k v) (sym (eqb-true k i e)) ∙ get_or-set_same (table n f) k v v (rw (length_table n f) h)
  put_at_lem n f i k v h false e = get_or-set_other (table n f) i k v v (eqb-false k i e) ∙ get_d_table n f k v h

  pub set_table : (n : ℕ) (f : ℕ → A) (i : ℕ) (v : A) → set (table n f) i v ≡ table n (put_at i v f)
  set_table n f i v =
      is_table v n (put_at i v f) (set (table n f) i v) (length-set (table n f) i v ∙ length_table n f) (λ k h. put_at_lem n f i k v h (eqb k i) refl)

  pub table_same : (n : ℕ) (f g : ℕ → A) → ((i : ℕ) → i < n → f i ≡ g i) → table n f ≡ table n g
  unfolding table
  table_same zero f g h = refl
  table_same (suc n) f g h = λ j. h 0 (omega arith) j ∷ table_same n (λ k. f (suc k)) (λ k. g (suc k)) (λ i l. h (suc i) (omega arith)) j

  -- the same at each place
  pub table_join : (n m : ℕ) (c : A) → table n (λ _. c) ++ table m (λ _. c) ≡ table (n + m) (λ _. c)
  unfolding table
  table_join zero m c = rw (zero-add m)
  table_join (suc n) m c = rw (suc-add n m) (ap (λ (t : List A). c ∷ t) (table_join n m c))

  -- ---- a loop that writes the places 0, 1, .. in turn
  pub up_none : (f : ℕ → A) (l : List A) → up_to 0 f l ≡ l
  unfolding up_to table
  up_none f l = refl

  up_suc : (i : ℕ) (f : ℕ → A) (l : List A) → i < length l → set (up_to i f l) i (f i) ≡ up_to (suc i) f l
  unfolding up_to table
  up_suc i f [] h = absurd (not-suc-le-zero h)
  up_suc zero f (x ∷ l) h = refl
  up_suc (suc i) f (x ∷ l) h = ap (λ (t : List A). f zero ∷ t) (up_suc i (λ k. f (suc k)) l (le_of_suc-le-suc h))

  pub up_more : (i : ℕ) (f : ℕ → A) (l : List A) → i < length l → set (up_to i f l) i (f i) ≡ up_to (i + 1) f l
  up_more i f l h = rw (add-one, up_suc i f l h)

  pub up_length : (i : ℕ) (f : ℕ → A) (l : List A) → i ≤ length l → length (up_to i f l) ≡ length l
  unfolding up_to table
  up_length zero f l h = refl
  up_length (suc i) f [] h = absurd (not-suc-le-zero h)
  up_length (suc i) f (x ∷ l) h = ap suc (up_length i (λ k. f (suc k)) l (le_of_suc-le-suc h))

  pub up_all : (f : ℕ → A) (l : List A) → up_to (length l) f l ≡ table (length l) f
  unfolding up_to table
  up_all f [] = refl
  up_all f (x ∷ l) = ap (λ (t : List A). f zero ∷ t) (up_all (λ k. f (suc k)) l)

  -- the same of the list that the loop has made
  module _ (i : ℕ) (f : ℕ → A) (l₀ : List A) {l : List A} (filled : l ≡ up_to i f l₀) where
    pub fill_more : {v : A} → i < length l₀ → v ≡ f i → set l i v ≡ up_to (i + 1) f l₀
    fill_more h e = (λ j. set (filled j) i (e j)) ∙ up_more i f l₀ h

    pub fill_length : i ≤ length l₀ → length l ≡ length l₀
    fill_length h = ap length filled ∙ up_length i f l₀ h

    -- once all n places are written
    pub fill_all : {n : ℕ} → length l₀ ≡ n → i ≡ n → l ≡ table n f
    fill_all h e = filled ∙ ap (λ (k : ℕ). up_to k f l₀) (e ∙ sym h) ∙ up_all f l₀ ∙ ap (λ (k : ℕ). table k f) h

  -- what is not yet written is as it was
  pub up_ahead : (i : ℕ) (f : ℕ → A) (l : List A) (k : ℕ) (d : A) → i ≤ k → i ≤ length l → get_or (up_to i f l) k d ≡ get_or l k d
  unfolding up_to table
  up_ahead zero f l k d h g = refl
  up_ahead (suc i) f [] k d h g = absurd (not-suc-le-zero g)
  up_ahead (suc i) f (x ∷ l) zero d h g = absurd (not-suc-le-zero h)
  up_ahead (suc i) f (x ∷ l) (suc k) d h g = up_ahead i (λ j. f (suc j)) l k d (le_of_suc-le-suc h) (le_of_suc-le-suc g)

  -- ---- a copy
  -- all the places that both have are written in turn
  pub up_copied : (d : A) (from to : List A) (n : ℕ) → n ≤ length to → n ≤ length from → (length to ≤ n) ⊎ (length from ≤ n)
      → up_to n (λ i. get_or from i d) to ≡ copied from to
  unfolding up_to copied table
  up_copied d [] [] zero h g e = refl
  up_copied d [] (y ∷ to) zero h g e = refl
  up_copied d (x ∷ from) [] zero h g e = refl
  up_copied d (x ∷ from) (y ∷ to) zero h g e = ⊎_elim (λ u. absurd (not-suc-le-zero u)) (λ u. absurd (not-suc-le-zero u)) e
  up_copied d from [] (suc n) h g e = absurd (not-suc-le-zero h)
  up_copied d [] (y ∷ to) (suc n) h g e = absurd (not-suc-le-zero g)
  up_copied d (x ∷ from) (y ∷ to) (suc n) h g e =
      ap (λ (t : List A). x ∷ t)
      (up_copied d from to n (le_of_suc-le-suc h) (le_of_suc-le-suc g) (⊎_elim (λ u. inl (le_of_suc-le-suc u)) (λ u. inr (le_of_suc-le-suc u)) e))

  -- the same of a table
  pub up_table : (m : ℕ) (f : ℕ → A) (to : List A) (n : ℕ) → n ≤ length to → n ≤ m → (length to ≤ n) ⊎ (m ≤ n) → up_to n f to ≡ copied (table m f) to
  unfolding up_to
  up_table m f to n h g e =
      ap (λ (t : List A). t ++ drop n to) (table_same n f (λ i. get_or (table m f) i (f 0)) (λ i k. sym (get_d_table m f i (f 0) (omega arith))))
      ∙ up_copied (f 0) (table m f) to n h (rw (length_table m f) g) (rw (length_table m f) e)

  -- as many places as the shorter has
  pub cut_copied : (from to : List A) (n : ℕ) → n ≤ length to → n ≤ length from → (length to ≤ n) ⊎ (length from ≤ n) → take n from ++ drop n to ≡ copied from to
  unfolding copied
  cut_copied [] [] zero h g e = refl
  cut_copied (x ∷ from) [] zero h g e = refl
  cut_copied [] (y ∷ to) zero h g e = refl
  cut_copied (x ∷ from) (y ∷ to) zero h g e = ⊎_elim (λ u. absurd (not-suc-le-zero u)) (λ u. absurd (not-suc-le-zero u)) e
  cut_copied from [] (suc n) h g e = absurd (not-suc-le-zero h)
  cut_copied [] (y ∷ to) (suc n) h g e = absurd (not-suc-le-zero g)
  cut_copied (x ∷ from) (y ∷ to) (suc n) h g e =
      ap (λ (t : List A). x ∷ t)
      (cut_copied from to n (le_of_suc-le-suc h) (le_of_suc-le-suc g) (⊎_elim (λ u. inl (le_of_suc-le-suc u)) (λ u. inr (le_of_suc-le-suc u)) e))

  -- n times the same
  pub replicate_table : (n : ℕ) (v : A) → replicate n v ≡ table n (λ _. v)
  unfolding table
  replicate_table zero v = refl
  replicate_table (suc n) v = ap (λ (t : List A). v ∷ t) (replicate_table n v)

  -- between lists of one length it is the whole
  pub copied_whole : (from to : List A) → length to ≡ length from → copied from to ≡ from
  unfolding copied
  copied_whole from to e = rw (e, take-length from, ← e, drop-length to, append-nil)

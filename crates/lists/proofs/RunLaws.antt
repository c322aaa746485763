-- Laws of `runs_of`, over run c of any number of runs: how long it is, what is read at a place, and what a run that is written anew makes of it.
use Prim.Native.Nat.{ℕ, zero, suc, ◌+◌, ◌-◌, ◌*◌, ◌/◌, ◌%◌, ◌<◌, ◌≤◌}
use mathlib.Core.Path.{◌≡◌, refl, sym, ap, ◌∙◌}
use mathlib.Core.List.{List, [], ◌∷◌, ◌++◌, append_assoc}
use native.Mathlib.Nat.{not-suc-le-zero, le_of_suc-le-suc, suc-mul, add_comm, add_assoc, add-zero, zero-mul, zero-add, suc-add, div-add-mod, mul-div_right, mul-mod_right}
use native.Mathlib.Omega.{arith}
use mathlib.Core.Bool.{Bool, true, false, ◌&&◌, cond}
use borrow.Author.Tests.{ltb-true, ltb-false, eqb-true, eqb-false, eq-eqb, ne_eqb, lt-ltb, le-ltb}
use lib.Dec.{eqb, ltb}
use lib.ListN.{length, get_or, set, take, drop, length-append, length-drop, take-append-drop, get_or-append}
use lib.Seq.{get_or-append-add, set-append_left, take-append-add, drop_at, drop-drop, get_or-take, get_or-drop, length-take-le}
use borrow.Rule.Slice.PartMut.{mid_of, put_mid, Post-is}
use Rattle.lists.specs.Table.{table, copied}
use Rattle.lists.specs.Runs.{is_runs, runs_of}
use Rattle.lists.specs.Private.{with_run}
use Rattle.lists.proofs.TableLaws.{length_table, get_d_table, is_table, table_same, table_join, set_table, copied_whole, put_at}

-- the next run starts n further on
next : (n k : ℕ) → suc k * n ≡ n + k * n
next n k = suc-mul k n ∙ add_comm (k * n) n

place : (n k i : ℕ) → suc k * n + i ≡ n + (k * n + i)
place n k i = ap (λ (m : ℕ). m + i) (next n k) ∙ add_assoc n (k * n) i

-- a place of run c of k lies within the k runs
pub in_runs : (n c k i : ℕ) → c < k → i < n → c * n + i < k * n
in_runs n c zero i h l = absurd (not-suc-le-zero h)
in_runs n zero (suc k) i h l = rw (zero-mul n, next n k) (omega arith)
in_runs n (suc c) (suc k) i h l = rw (place n c i, next n k) (omega (arith, in_runs n c k i (le_of_suc-le-suc h) l))

positive : (k : ℕ) → (k ≡ 0 → ⊥) → 0 < k
positive zero h = absurd (h refl)
positive (suc k) h = omega arith

-- a length that k divides with the quotient n
pub runs_test : (long k n : ℕ) → (k ≡ 0 → ⊥) → (eqb (long % k) 0 && eqb (long / k) n) ≡ is_runs long k n
runs_test long k n h = go (eqb (long % k) 0) refl (eqb (long / k) n) refl
  where
    whole : k * (long / k) + long % k ≡ long
    whole = div-add-mod long k

    go : (a : Bool) → eqb (long % k) 0 ≡ a → (b : Bool) → eqb (long / k) n ≡ b → (a && b) ≡ is_runs long k n
    go true p true q =
        let r : long % k ≡ 0 = eqb-true _ _ p in
        let s : long / k ≡ n = eqb-true _ _ q in
        sym (eq-eqb long (k * n) (rw (r, s, add-zero) at (sym whole)))
    go true p false q = sym (ne_eqb long (k * n) (λ e. eqb-false (long / k) n q (rw e (mul-div_right n (positive k h)))))
    go false p b q = sym (ne_eqb long (k * n) (λ e. eqb-false (long % k) 0 p (rw e (mul-mod_right k n))))

module _ {A : Type 0} (n : ℕ) where
  pub runs_length : (fs : List (ℕ → A)) → length (runs_of n fs) ≡ length fs * n
  unfolding runs_of
  runs_length [] = sym (zero-mul n)
  runs_length (f ∷ fs) = rw (length-append, length_table n f, runs_length fs, next n (length fs))

  -- what stands past the first run
  past_read : (f : ℕ → A) (l : List A) (j : ℕ) (d : A) → get_or (table n f ++ l) (n + j) d ≡ get_or l j d
  past_read f l j d = ap (λ (m : ℕ). get_or (table n f ++ l) (m + j) d) (sym (length_table n f)) ∙ get_or-append-add (table n f) l j d

  -- place i of run c
  pub run_read : (fs : List (ℕ → A)) (c i : ℕ) (d : A) → c < length fs → i < n → get_or (runs_of n fs) (c * n + i) d ≡ get_or fs c (λ _. d) i
  unfolding runs_of
  run_read [] c i d h l = absurd (not-suc-le-zero h)
  run_read (f ∷ fs) zero i d h l =
      rw (zero-mul n, zero-add i) (get_or-append (table n f) (runs_of n fs) d i (rw (length_table n f) l) ∙ get_d_table n f i d l)
  run_read (f ∷ fs) (suc c) i d h l = rw (place n c i) (past_read f (runs_of n fs) (c * n + i) d ∙ run_read fs c i d (le_of_suc-le-suc h) l)

  -- a store at place i of run c
  past_set : (r l : List A) (j : ℕ) (v : A) → set (r ++ l) (length r + j) v ≡ r ++ set l j v
  past_set [] l j v = rw (zero-add j)
  past_set (x ∷ r) l j v = rw (suc-add (length r) j) (ap (λ (t : List A). x ∷ t) (past_set r l j v))

  pub run_write : (fs : List (ℕ → A)) (c : ℕ) (f : ℕ → A) (i : ℕ) (v : A) → c < length fs → i < n
      → set (runs_of n (set fs c f)) (c * n + i) v ≡ runs_of n (set fs c (put_at i v f))
  unfolding runs_of
  run_write [] c f i v h l = absurd (not-suc-le-zero h)
  run_write (g ∷ fs) zero f i v h l =
      rw (zero-mul n, zero-add i, set-append_left (table n f) (runs_of n fs) i v (rw (length_table n f) l), set_table n f i v)
  run_write (g ∷ fs) (suc c) f i v h l =
      rw (place n c i)
      (ap (λ (m : ℕ). set (table n g ++ runs_of n (set fs c f)) (m + (c * n + i)) v) (sym (length_table n g))
      ∙ past_set (table n g) (runs_of n (set fs c f)) (c * n + i) v
      ∙ ap (λ (t : List A). table n g ++ t) (run_write fs c f i v (le_of_suc-le-suc h) l))

  -- a whole run written anew
  past_drop : (f : ℕ → A) (l : List A) (k : ℕ) → drop (suc k * n) (table n f ++ l) ≡ drop (k * n) l
  past_drop f l k = rw (next n k, ← drop-drop (k * n) n (table n f ++ l), drop_at (table n f) l n (length_table n f))

  front_take : (f : ℕ → A) (l : List A) (k : ℕ) → take (suc k * n) (table n f ++ l) ≡ table n f ++ take (k * n) l
  front_take f l k =
      ap (λ (m : ℕ). take m (table n f ++ l)) (next n k ∙ ap (λ (m : ℕ). m + k * n) (sym (length_table n f))) ∙ take-append-add (table n f) l (k * n)

  pub run_put : (fs : List (ℕ → A)) (c : ℕ) (f : ℕ → A) → c < length fs → with_run n c f (runs_of n fs) ≡ runs_of n (set fs c f)
  unfolding runs_of with_run
  run_put [] c f h = absurd (not-suc-le-zero h)
  run_put (g ∷ fs) zero f h = rw (zero-mul, past_drop g (runs_of n fs) 0, zero-mul)
  run_put (g ∷ fs) (suc c) f h =
      rw (front_take g (runs_of n fs) c, past_drop g (runs_of n fs) (suc c), append_assoc)
      (ap (λ (t : List A). table n g ++ t) (run_put fs c f (le_of_suc-le-suc h)))

  -- runs that agree below n, in one of them
  pub run_same : (fs : List (ℕ → A)) (c : ℕ) (f g : ℕ → A) → ((i : ℕ) → i < n → f i ≡ g i) → runs_of n (set fs c f) ≡ runs_of n (set fs c g)
  unfolding runs_of
  run_same [] c f g h = refl
  run_same (r ∷ fs) zero f g h = ap (λ (t : List A). t ++ runs_of n fs) (table_same n f g h)
  run_same (r ∷ fs) (suc c) f g h = ap (λ (t : List A). table n r ++ t) (run_same fs c f g h)

  -- the same at each place
  pub runs_alike : (k : ℕ) (v : A) → table (k * n) (λ _. v) ≡ runs_of n (table k (λ _ _. v))
  unfolding runs_of table
  runs_alike zero v = rw (zero-mul n)
  runs_alike (suc k) v = rw (next n k) (sym (table_join n (k * n) v) ∙ ap (λ (t : List A). table n (λ _. v) ++ t) (runs_alike k v))

  -- a list of k runs of n
  none : (l : List A) → length l ≡ 0 → l ≡ []
  none [] e = refl
  none (x ∷ l) e = absurd (omega (arith, e))

  pub as_runs : (d : A) (k : ℕ) (l : List A) → length l ≡ k * n → l ≡ runs_of n (table k (λ c i. get_or l (c * n + i) d))
  unfolding runs_of table
  as_runs d zero l e = none l (e ∙ zero-mul n)
  as_runs d (suc k) l e =
      let first : take n l ≡ table n (λ i. get_or l (0 * n + i) d) =
      is_table d n _ (take n l) (length-take-le n l (omega (arith, next n k))) (λ i h. get_or-take n l i d h ∙ ap (λ (m : ℕ). get_or l m d) (sym (rw (zero-mul n) (zero-add i)))) in
      let rest : length (drop n l) ≡ k * n = simp length-drop (omega (arith, next n k)) in
      sym (take-append-drop n l)
      ∙ (λ j. first j ++ as_runs d k (drop n l) rest j)
      ∙ ap (λ (g : ℕ → ℕ → A). table n (λ i. get_or l (0 * n + i) d) ++ runs_of n (table k g))
      (λ j c i. (get_or-drop n l (c * n + i) d ∙ ap (λ (m : ℕ). get_or l m d) (sym (place n c i))) j)

  -- run e of one list copied to run c of another, each lent as a part
  part_run : (d : A) (c : ℕ) (l : List A) → suc c * n ≤ length l → take ((c * n + n) - c * n) (drop (c * n) l) ≡ table n (λ i. get_or l (c * n + i) d)
  part_run d c l h =
      let wide : (c * n + n) - c * n ≡ n = omega arith in
      let rest : n ≤ length (drop (c * n) l) = simp length-drop (omega (arith, suc-mul c n)) in
      ap (λ (m : ℕ). take m (drop (c * n) l)) wide
      ∙ is_table d n _ _ (length-take-le n (drop (c * n) l) rest) (λ i p. get_or-take n (drop (c * n) l) i d p ∙ get_or-drop (c * n) l i d)

  pub run_copied : (d : A) (c e : ℕ) (to from : List A) {r : List A} → suc c * n ≤ length to → suc e * n ≤ length from
      → r ≡ copied (take ((e * n + n) - e * n) (drop (e * n) from)) (mid_of (c * n) ((c * n + n) - c * n) to)
      → put_mid (c * n) ((c * n + n) - c * n) to r ≡ with_run n c (λ i. get_or from (e * n + i) d) to
  unfolding with_run
  run_copied d c e to from {r} h k q =
      let its = part_run d e from k in
      let here = part_run d c to h in
      let same = ap length here ∙ length_table n _ ∙ sym (ap length its ∙ length_table n _) in
      let le : c * n ≤ c * n + n = omega arith in
      (λ i. take (c * n) to ++ ((q ∙ copied_whole _ _ same ∙ its) i ++ Post-is (c * n) (c * n + n) to le i))
      ∙ ap (λ (m : ℕ). take (c * n) to ++ (table n (λ i. get_or from (e * n + i) d) ++ drop m to)) (sym (suc-mul c n))

-- ---- a loop that writes the places of a run in turn: the run `old`, written anew by `new` before place i
abbrev pub turned : {A : Type 0} → ℕ → (ℕ → A) → (ℕ → A) → ℕ → A
turned i new old k = cond (ltb k i) (new k) (old k)

module _ {A : Type 0} (new old : ℕ → A) where
  by : (k : ℕ) {a b : Bool} → a ≡ b → cond a (new k) (old k) ≡ cond b (new k) (old k)
  by k e = ap (λ (t : Bool). cond t (new k) (old k)) e

  pub turn_none : turned 0 new old ≡ old
  turn_none = λ j k. by k (le-ltb k 0 (omega arith)) j

  -- place i is not yet written
  pub turn_here : (i : ℕ) → turned i new old i ≡ old i
  turn_here i = by i (le-ltb i i (omega arith))

  pub turn_more : (i : ℕ) → put_at i (new i) (turned i new old) ≡ turned (i + 1) new old
  turn_more i = λ j k. at k (eqb k i) refl (ltb k i) refl j
    where
      at : (k : ℕ) (a : Bool) → eqb k i ≡ a → (b : Bool) → ltb k i ≡ b → cond a (new i) (cond b (new k) (old k)) ≡ turned (i + 1) new old k
      at k true e b q = ap new (sym (eqb-true k i e)) ∙ sym (by k (lt-ltb k (i + 1) (omega (arith, eqb-true k i e))))
      at k false e true q = sym (by k (lt-ltb k (i + 1) (omega (arith, ltb-true k i q))))
      at k false e false q = sym (by k (le-ltb k (i + 1) (far (eqb-false k i e) (ltb-false k i q))))
        where
          far : (k ≡ i → ⊥) → i ≤ k → i + 1 ≤ k
          far d l = omega arith

  -- every place is written
  pub turn_all : (n i : ℕ) → i < n → turned n new old i ≡ new i
  turn_all n i h = by i (lt-ltb i n h)

-- one turn of such a loop, in run c
pub run_turn : {A : Type 0} (n : ℕ) (fs : List (ℕ → A)) (c : ℕ) (new old : ℕ → A) (i : ℕ) (v : A) → c < length fs → i < n → v ≡ new i
    → set (runs_of n (set fs c (turned i new old))) (c * n + i) v ≡ runs_of n (set fs c (turned (i + 1) new old))
run_turn {A = A} n fs c new old i v h l e =
    ap (λ (w : A). set (runs_of n (set fs c (turned i new old))) (c * n + i) w) e
    ∙ run_write n fs c (turned i new old) i (new i) h l
    ∙ ap (λ (f : ℕ → A). runs_of n (set fs c f)) (turn_more new old i)

-- Laws of `row`, `_then_`, `scan` and `some`, which the proof of each row cites.
use Prim.Native.Nat.{ℕ, zero, suc, ◌+◌, ◌<◌}
use mathlib.Core.Path.{◌≡◌, refl, sym, ap, subst, ◌∙◌}
use mathlib.Core.Bool.{Bool, true, false, ◌||◌, ◌&&◌}
use mathlib.Core.Logic.{⊎_elim}
use native.Mathlib.Nat.{not-suc-le-zero, le_of_suc-le-suc, eq-or-lt_of_le}
use native.Mathlib.Numerals.{add-one}
use native.Mathlib.Omega.{arith}
use borrow.Author.Tests.{eqb-true, eqb-false, eq-eqb, ne_eqb}
use lib.Dec.{eqb}
use Rattle.rows.specs.declared.Answer.{Answer}
use Rattle.rows.specs.Scan.{accepted, refused, row, ◌then◌, scan, some}

-- ---- one row
pub row_holds : {test : Bool} (number place : ℕ) → test ≡ true → row test number place ≡ accepted
unfolding row
row_holds number place e = rw e

pub row_fails : {test : Bool} (number place : ℕ) → test ≡ false → row test number place ≡ refused number place
unfolding row
row_fails number place e = rw e

-- a row that accepts has a test that holds
pub row_passed : (test : Bool) (number place : ℕ) → (row test (suc number) place).number ≡ 0 → test ≡ true
unfolding row
row_passed true number place e = refl
row_passed false number place e = absurd (omega arith)

-- ---- rows in order
pub then_stop : (a b : Answer) → (a.number ≡ 0 → ⊥) → (a then b) ≡ a
unfolding ◌then◌
then_stop a b h = go a.number refl
  where
    go : (n : ℕ) → a.number ≡ n → (a then b) ≡ a
    go zero e = absurd (h e)
    go (suc n) e = rw e

pub then_next : (a b : Answer) → a.number ≡ 0 → (a then b) ≡ b
unfolding ◌then◌
then_next a b e = rw e

-- where two rows in order accept, each accepts
pub then_first : (a b : Answer) → (a then b).number ≡ 0 → a.number ≡ 0
then_first a b h = go a.number refl
  where
    go : (n : ℕ) → a.number ≡ n → a.number ≡ 0
    go zero e = e
    go (suc n) e = sym (ap (λ (x : Answer). x.number) (then_stop a b (λ z. absurd (omega (arith, e, z))))) ∙ h

pub then_rest : (a b : Answer) → (a then b).number ≡ 0 → b.number ≡ 0
then_rest a b h = sym (ap (λ (x : Answer). x.number) (then_next a b (then_first a b h))) ∙ h

-- what follows an answer counts only where that accepts
pub then_same : (a b c : Answer) → (a.number ≡ 0 → b ≡ c) → (a then b) ≡ (a then c)
then_same a b c h = go a.number refl
  where
    go : (n : ℕ) → a.number ≡ n → (a then b) ≡ (a then c)
    go zero e = ap (λ (r : Answer). a then r) (h e)
    go (suc n) e = let no : a.number ≡ 0 → ⊥ = λ z. absurd (omega (arith, e, z)) in then_stop a b no ∙ sym (then_stop a c no)

-- ---- the first place
pub scan_none : (f : ℕ → Answer) (n : ℕ) → ((k : ℕ) → k < n → (f k).number ≡ 0) → scan f n ≡ accepted
unfolding scan
scan_none f zero h = refl
scan_none f (suc n) h = then_next _ _ (h 0 (omega arith)) ∙ scan_none (λ k. f (suc k)) n (λ k l. h (suc k) (omega arith))

pub scan_hit : (f : ℕ → Answer) (n i : ℕ) → i < n → ((k : ℕ) → k < i → (f k).number ≡ 0) → ((f i).number ≡ 0 → ⊥) → scan f n ≡ f i
unfolding scan
scan_hit f zero i l h e = absurd (not-suc-le-zero l)
scan_hit f (suc n) zero l h e = then_stop _ _ e
scan_hit f (suc n) (suc i) l h e =
    then_next _ _ (h 0 (omega arith)) ∙ scan_hit (λ k. f (suc k)) n i (omega arith) (λ k m. h (suc k) (omega arith)) e

-- where a scan accepts, no place refuses
pub scan_clean : (f : ℕ → Answer) (n : ℕ) → (scan f n).number ≡ 0 → (k : ℕ) → k < n → (f k).number ≡ 0
unfolding scan
scan_clean f zero e k l = absurd (not-suc-le-zero l)
scan_clean f (suc n) e zero l = then_first (f 0) (scan (λ k. f (suc k)) n) e
scan_clean f (suc n) e (suc k) l = scan_clean (λ k. f (suc k)) n (then_rest (f 0) (scan (λ k. f (suc k)) n) e) k (omega arith)

pub scan_same : (f g : ℕ → Answer) (n : ℕ) → ((k : ℕ) → k < n → f k ≡ g k) → scan f n ≡ scan g n
unfolding scan
scan_same f g zero h = refl
scan_same f g (suc n) h = λ i. h 0 (omega arith) i then scan_same (λ k. f (suc k)) (λ k. g (suc k)) n (λ k l. h (suc k) (omega arith)) i

-- ---- tests joined
pub both_left : (a b : Bool) → (a && b) ≡ true → a ≡ true
both_left true b e = refl
both_left false b e = e

pub both_right : (a b : Bool) → (a && b) ≡ true → b ≡ true
both_right true b e = e
both_right false true e = refl
both_right false false e = e

-- ---- a loop that asks every place and is not left: whether all those that were asked accept
and-true : (b : Bool) → (b && true) ≡ b
and-true true = refl
and-true false = refl

and_assoc : (a b c : Bool) → (a && (b && c)) ≡ ((a && b) && c)
and_assoc true b c = refl
and_assoc false b c = refl

then_accepts : (a b : Answer) → eqb (a then b).number 0 ≡ (eqb a.number 0 && eqb b.number 0)
then_accepts a b = go a.number refl
  where
    go : (n : ℕ) → a.number ≡ n → eqb (a then b).number 0 ≡ (eqb a.number 0 && eqb b.number 0)
    go zero e = rw (then_next a b e, eq-eqb a.number 0 e)
    go (suc n) e = let r : a.number ≡ 0 → ⊥ = λ z. absurd (omega (arith, e, z)) in rw (then_stop a b r, ne_eqb a.number 0 r)

scan_accepts : (f : ℕ → Answer) (n : ℕ) → eqb (scan f (suc n)).number 0 ≡ (eqb (scan f n).number 0 && eqb (f n).number 0)
unfolding scan
scan_accepts f zero = then_accepts (f 0) accepted ∙ and-true _
scan_accepts f (suc n) =
    let g : ℕ → Answer = λ k. f (suc k) in
    then_accepts (f 0) (scan g (suc n))
    ∙ ap (λ (b : Bool). eqb (f 0).number 0 && b) (scan_accepts g n)
    ∙ and_assoc (eqb (f 0).number 0) (eqb (scan g n).number 0) (eqb (g n).number 0)
    ∙ ap (λ (b : Bool). b && eqb (g n).number 0) (sym (then_accepts (f 0) (scan g n)))

pub all_none : (f : ℕ → Answer) → true ≡ eqb (scan f 0).number 0
unfolding scan
all_none f = refl

module _ (f : ℕ → Answer) (n : ℕ) {all : Bool} (e : all ≡ eqb (scan f n).number 0) where
  pub all_more : {holds : Bool} → holds ≡ eqb (f n).number 0 → (all && holds) ≡ eqb (scan f (n + 1)).number 0
  all_more h = (λ i. e i && h i) ∙ sym (scan_accepts f n) ∙ rw add-one

  pub all_accept : all ≡ true → accepted ≡ scan f n
  all_accept h = sym (scan_none f n (scan_clean f n (eqb-true _ _ (sym e ∙ h))))

-- ---- a row of one number, with a place for each turn: it accepts where its test holds
module _ (test : ℕ → Bool) (number : ℕ) (place : ℕ → ℕ) where
  abbrev row_of : ℕ → Answer
  row_of i = row (test i) (suc number) (place i)

  pub row_accepts : (i : ℕ) → test i ≡ eqb (row_of i).number 0
  unfolding row
  row_accepts i = go (test i)
    where
      go : (b : Bool) → b ≡ eqb (row b (suc number) (place i)).number 0
      go true = refl
      go false = sym (ne_eqb (suc number) 0 (λ e. absurd (omega (arith, e))))

  met : {n : ℕ} → ((k : ℕ) → k < n → test k ≡ true) → (k : ℕ) → k < n → (row_of k).number ≡ 0
  met h k l = ap (λ (a : Answer). a.number) (row_holds (suc number) (place k) (h k l))

  -- a loop that is left at the first place whose test fails
  pub row_hit : {n i : ℕ} → i < n → ((k : ℕ) → k < i → test k ≡ true) → test i ≡ false → refused (suc number) (place i) ≡ scan row_of n
  row_hit {n} {i} l h e =
      let q = row_fails (suc number) (place i) e in
      sym q ∙ sym (scan_hit row_of n i l (met h) (λ z. absurd (omega (arith, ap (λ (a : Answer). a.number) q, z))))

  pub row_none : {n : ℕ} → ((k : ℕ) → k < n → test k ≡ true) → accepted ≡ scan row_of n
  row_none h = sym (scan_none row_of _ (met h))

-- ---- some place
or_true : (b : Bool) → (b || true) ≡ true
or_true true = refl
or_true false = refl

module _ (test : ℕ → Bool) where
  pub some_more : (n : ℕ) → some test (n + 1) ≡ (some test n || test n)
  unfolding some
  some_more n = rw add-one

  pub some_none : (n : ℕ) → ((k : ℕ) → k < n → test k ≡ false) → some test n ≡ false
  unfolding some
  some_none zero h = refl
  some_none (suc n) h = rw (some_none n (λ k l. h k (omega arith)), h n (omega arith))

  pub some_hit : (n k : ℕ) → k < n → test k ≡ true → some test n ≡ true
  unfolding some
  some_hit zero k l e = absurd (not-suc-le-zero l)
  some_hit (suc n) k l e = ⊎_elim (λ q. rw (← q, e) (or_true (some test k))) (λ q. rw (some_hit n k q e)) (eq-or-lt_of_le (le_of_suc-le-suc l))

-- ---- a call's answer and the definition that it meets
pub same_number : {a b : Answer} → a ≡ b → a.number ≡ 0 → b.number ≡ 0
same_number e h = ap (λ (x : Answer). x.number) (sym e) ∙ h

pub other_number : {a b : Answer} → a ≡ b → (a.number ≡ 0 → ⊥) → b.number ≡ 0 → ⊥
other_number e h z = h (ap (λ (x : Answer). x.number) e ∙ z)

-- an answer that refuses stands, and one that accepts hands on to what follows
pub stops : {a b : Answer} (rest : Answer) → a ≡ b → (a.number ≡ 0 → ⊥) → a ≡ (b then rest)
stops {a} {b} rest e h = e ∙ sym (then_stop b rest (other_number e h))

pub goes : {a : Answer} (b : Answer) {rest : Answer} → b.number ≡ 0 → a ≡ rest → a ≡ (b then rest)
goes b {rest} h e = e ∙ sym (then_next b rest h)

pub then_assoc : (a b c : Answer) → ((a then b) then c) ≡ (a then (b then c))
then_assoc a b c = go a.number refl
  where
    go : (n : ℕ) → a.number ≡ n → ((a then b) then c) ≡ (a then (b then c))
    go zero e = ap (λ (x : Answer). x then c) (then_next a b e) ∙ sym (then_next a (b then c) e)
    go (suc n) e =
        let r : a.number ≡ 0 → ⊥ = λ z. absurd (omega (arith, e, z)) in
        ap (λ (x : Answer). x then c) (then_stop a b r) ∙ then_stop a c r ∙ sym (then_stop a (b then c) r)

-- ---- the number of an answer is below what those of its rows are below
pub then_below : (n : ℕ) (a b : Answer) → a.number < n → b.number < n → (a then b).number < n
then_below n a b k l = go (eqb a.number 0) refl
  where
    go : (z : Bool) → eqb a.number 0 ≡ z → (a then b).number < n
    go true z = subst (λ (x : Answer). x.number < n) (sym (then_next a b (eqb-true a.number 0 z))) l
    go false z = subst (λ (x : Answer). x.number < n) (sym (then_stop a b (eqb-false a.number 0 z))) k

pub row_below : (n : ℕ) (b : Bool) (number place : ℕ) → 0 < n → number < n → (row b number place).number < n
unfolding row
row_below n true number place k l = k
row_below n false number place k l = l

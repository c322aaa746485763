-- Laws of a record: its rows, and what a gauge notes.
use Prim.Native.Nat.{ℕ, zero, suc, ◌+◌, ◌<◌, ◌≤◌}
use mathlib.Core.Path.{◌≡◌, refl, sym, ap, ◌∙◌}
use mathlib.Core.Bool.{Bool, true, false, ◌&&◌}
use mathlib.Core.List.{List}
use native.Mathlib.Numerals.{add-one}
use native.Mathlib.Omega.{arith}
use borrow.Author.Tests.{eqb-true, leb-true, eq-eqb, ne_eqb, le-leb, lt-leb}
use lib.Dec.{eqb, leb}
use lib.ListN.{length}
use lib.Ieee.{Float}
use Rattle.std.specs.Prelude.{Result, Err}
use Rattle.std.specs.Result.{IsErrAnd}
use Rattle.std.proofs.lemmas.Result.{err_from_is_err_and}
use Rattle.rows.specs.declared.Refusal.{Refusal}
use Rattle.rows.specs.declared.Answer.{Answer}
use Rattle.rows.specs.Refusals.{said}
use Rattle.rows.specs.Says.{SaysOf}
use Rattle.rows.specs.Scan.{accepted, refused, row, ◌then◌, scan}
use Rattle.rows.proofs.ScanLaws.{row_fails, row_holds, row_passed, then_stop, then_next, then_first, same_number, other_number, both_left, both_right}
use Rattle.rows.proofs.RefusalLaws.{refuses_by}
use Rattle.crossing.proofs.CrossLaws.{written_length}
use Rattle.location.specs.declared.seeking.Point.{Point}
use Rattle.location.specs.Survey.{most}
use Rattle.keeping.specs.Record.{Field, peak_field, step_field, place_of, with_field, record_bytes, field_in, seen_field, count_in, mark_in, with_mark, added, keeps, noted, all_noted, row43}
use Rattle.keeping.specs.Keeping.{if_accepted, given_by, add_out, add_answer, add_of, update_out, update_of}

-- ---- row 43
module _ (b : List ℕ) where
  -- its length and its count are those of a record
  abbrev shaped : Bool
  shaped = eqb (length b) record_bytes && leb (count_in b) most

  abbrev pub seen_fine : ℕ → Bool
  seen_fine g = leb (field_in b seen_field g) 1

  abbrev seen_rows : Answer
  seen_rows = scan (λ g. row (seen_fine g) 43 g) most

  misshapen : shaped ≡ false → refused 43 0 ≡ row43 b
  unfolding row43
  misshapen e = sym (ap (λ (a : Answer). a then seen_rows) (row_fails 43 0 e) ∙ then_stop (refused 43 0) seen_rows (λ z. absurd (omega (arith, z))))

  pub of_another_length : (length b ≡ record_bytes → ⊥) → refused 43 0 ≡ row43 b
  of_another_length h = misshapen (rw (ne_eqb _ _ h))

  pub of_too_many : length b ≡ record_bytes → most < count_in b → refused 43 0 ≡ row43 b
  of_too_many h k = misshapen (rw (eq-eqb _ _ h, lt-leb _ _ k))

  pub row_by_row : length b ≡ record_bytes → count_in b ≤ most → row43 b ≡ seen_rows
  unfolding row43
  row_by_row h k =
      ap (λ (a : Answer). a then seen_rows) (row_holds {test = shaped} 43 0 (rw (eq-eqb _ _ h, le-leb _ _ k))) ∙ then_next _ seen_rows refl

  -- what it leaves of a record that it accepts
  module _ (ok : (row43 b).number ≡ 0) where
    well_shaped : shaped ≡ true
    unfolding row43
    well_shaped = row_passed _ 42 0 (then_first _ _ ok)

    pub record_long : length b ≡ record_bytes
    record_long = eqb-true _ _ (both_left (eqb (length b) record_bytes) (leb (count_in b) most) well_shaped)

    pub count_most : count_in b ≤ most
    count_most = leb-true _ most (both_right (eqb (length b) record_bytes) (leb (count_in b) most) well_shaped)

-- ---- what a gauge notes
module _ (g : ℕ) (level : Float) (step : ℕ) (b : List ℕ) where
  pub noted_kept : keeps (mark_in b g) level ≡ true → noted g level step b ≡ b
  unfolding noted
  noted_kept e = rw e

  pub noted_anew : keeps (mark_in b g) level ≡ false → noted g level step b ≡ with_mark g 1 level step b
  unfolding noted
  noted_anew e = rw e

-- ---- nothing changes a record's length
field_length : (f : Field) (g v : ℕ) (b : List ℕ) → length (with_field f g v b) ≡ length b
field_length f g v b = written_length b (place_of f g) f.width v

pub mark_length : (g seen : ℕ) (peak : Float) (step : ℕ) (b : List ℕ) → length (with_mark g seen peak step b) ≡ length b
unfolding with_mark
mark_length g seen peak step b = field_length step_field g step _ ∙ field_length peak_field g _ _ ∙ field_length seen_field g seen b

noted_length : (g : ℕ) (level : Float) (step : ℕ) (b : List ℕ) → length (noted g level step b) ≡ length b
noted_length g level step b = go (keeps (mark_in b g) level) refl
  where
    go : (c : Bool) → keeps (mark_in b g) level ≡ c → length (noted g level step b) ≡ length b
    go true e = ap length (noted_kept g level step b e)
    go false e = ap length (noted_anew g level step b e) ∙ mark_length g 1 level step b

pub all_length : (level : ℕ → Float) (step g : ℕ) (b : List ℕ) → length (all_noted level step g b) ≡ length b
unfolding all_noted
all_length level step zero b = refl
all_length level step (suc g) b = noted_length g (level g) step (all_noted level step g b) ∙ all_length level step g b

-- ---- one gauge after the other
pub noted_none : (level : ℕ → Float) (step : ℕ) (b : List ℕ) → all_noted level step 0 b ≡ b
unfolding all_noted
noted_none level step b = refl

pub noted_more : (level : ℕ → Float) (step g : ℕ) (b : List ℕ) → noted g (level g) step (all_noted level step g b) ≡ all_noted level step (g + 1) b
unfolding all_noted
noted_more level step g b = rw add-one

pub all_same : (l m : ℕ → Float) (step n : ℕ) (b : List ℕ) → ((g : ℕ) → g < n → l g ≡ m g) → all_noted l step n b ≡ all_noted m step n b
unfolding all_noted
all_same l m step zero b h = refl
all_same l m step (suc n) b h = λ i. noted n (h n (omega arith) i) step (all_same l m step n b (λ g k. h g (omega arith)) i)

-- ---- what a call leaves, by its answer
module _ {A : Type 0} {a b : Answer} (e : a ≡ b) where
  pub if_refused : (found left : A) → (a.number ≡ 0 → ⊥) → left ≡ if_accepted b found left
  if_refused found left h = rw (ne_eqb _ _ (other_number e h))

  pub if_accepted_lem : {v : A} (found left : A) → a.number ≡ 0 → v ≡ found → v ≡ if_accepted b found left
  if_accepted_lem found left h q = q ∙ rw (eq-eqb _ _ (same_number e h))

module _ (asked : Answer) (inside : Bool) (q : Point) (b : List ℕ) {a : Answer} (e : a ≡ add_answer asked inside b) where
  pub add_refused : (a.number ≡ 0 → ⊥) → add_out (record { answer = a; gauge = 0 }) b ≡ add_of asked inside q b
  unfolding add_of
  add_refused h = λ i. add_out (record { answer = e i; gauge = if_refused e (count_in b) 0 h i }) (if_refused e (added q b) b h i)

  pub add_accepted : {g : ℕ} {left : List ℕ} → a.number ≡ 0 → g ≡ count_in b → left ≡ added q b → add_out (record { answer = a; gauge = g }) left ≡ add_of asked inside q b
  unfolding add_of
  add_accepted h n l = λ i. add_out (record { answer = e i; gauge = if_accepted_lem e (count_in b) 0 h n i }) (if_accepted_lem e (added q b) b h l i)

-- what the call tests before accepts, and so do the record's rows behind it
pub add_went : (asked : Answer) (inside : Bool) (q : Point) (b : List ℕ) {g : ℕ} {left : List ℕ} → accepted ≡ asked → accepted ≡ add_answer accepted inside b → g ≡ count_in b
    → left ≡ added q b → add_out (record { answer = accepted; gauge = g }) left ≡ add_of asked inside q b
add_went asked inside q b before it n l = add_accepted asked inside q b (it ∙ ap (λ (a : Answer). add_answer a inside b) before) refl n l

-- by what `?` hands back in place of a number: what the call tests before, or what the record's rows say behind it
module _ {E : Type 0} {made : Refusal → E → Type 0} {says : E → Answer} (law : SaysOf made says) (asked : Answer) (inside : Bool) (q : Point) (b : List ℕ) where
  pub add_stopped : (r : Result ℕ E) (e : E) → IsErrAnd r (λ y. y ≡ e) → says e ≡ asked → add_out (given_by says r) b ≡ add_of asked inside q b
  unfolding add_answer
  add_stopped r e h it =
      let p = err_from_is_err_and r h in
      ap (λ (v : Result ℕ E). add_out (given_by says v) b) (p.1 ∙ ap Err p.2)
      ∙ add_refused asked inside q b (it ∙ sym (then_stop asked _ (refuses_by law e it))) (law.refuses e)

  pub add_turned : (r : Result ℕ E) (x : Refusal) → IsErrAnd r (made x) → accepted ≡ asked → said x ≡ add_answer accepted inside b
      → add_out (given_by says r) b ≡ add_of asked inside q b
  add_turned r x h before it =
      let p = err_from_is_err_and r h in
      ap (λ (v : Result ℕ E). add_out (given_by says v) b) p.1
      ∙ add_refused asked inside q b (law.refusal x p.0 p.2 ∙ it ∙ ap (λ (a : Answer). add_answer a inside b) before) (law.refuses p.0)

module _ (asked also : Answer) (level : ℕ → Float) (step : ℕ) (b : List ℕ) {a : Answer} (e : a ≡ (asked then row43 b then also)) where
  pub update_refused : (a.number ≡ 0 → ⊥) → update_out a b ≡ update_of asked also level step b
  unfolding update_of
  update_refused h = λ i. update_out (e i) (if_refused e (all_noted level step (count_in b) b) b h i)

  pub update_accepted : {n : ℕ} {left : List ℕ} → a.number ≡ 0 → n ≡ count_in b → left ≡ all_noted level step n b → update_out a left ≡ update_of asked also level step b
  unfolding update_of
  update_accepted h k l =
      λ i. update_out (e i) (if_accepted_lem e (all_noted level step (count_in b) b) b h (l ∙ ap (λ (n : ℕ). all_noted level step n b) k) i)

-- ---- what is done with a record goes by the answer alone
pub add_same : (asked other : Answer) (inside found : Bool) (q : Point) (b : List ℕ) → add_answer asked inside b ≡ add_answer other found b
    → add_of asked inside q b ≡ add_of other found q b
unfolding add_of
add_same asked other inside found q b e =
    ap (λ (a : Answer). add_out (record { answer = a; gauge = if_accepted a (count_in b) 0 }) (if_accepted a (added q b) b)) e

pub update_same : (asked also other too : Answer) (l m : ℕ → Float) (step : ℕ) (b : List ℕ) → (e : (asked then row43 b then also) ≡ (other then row43 b then too))
    → ((asked then row43 b then also).number ≡ 0 → (g : ℕ) → g < count_in b → l g ≡ m g) → update_of asked also l step b ≡ update_of other too m step b
unfolding update_of
update_same asked also other too l m step b e h = go a.number refl ∙ ap (λ (r : Answer). update_out r (if_accepted r (all_noted m step (count_in b) b) b)) e
  where
    a : Answer
    a = asked then row43 b then also

    go : (n : ℕ) → a.number ≡ n → update_out a (if_accepted a (all_noted l step (count_in b) b) b) ≡ update_out a (if_accepted a (all_noted m step (count_in b) b) b)
    go zero z = ap (λ (r : List ℕ). update_out a (if_accepted a r b)) (all_same l m step (count_in b) b (h z))
    go (suc n) z = rw (ne_eqb a.number 0 (λ y. absurd (omega (arith, z, y))))

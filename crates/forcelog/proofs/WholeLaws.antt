-- The input read by whole forcings, and the input cut at its line feeds: the same is printed, whatever the bytes are. Where a line has not its due length
-- both readings answer 20 at that line, after the same earlier lines; where all lines have it both texts are the same.
use Prim.Native.Nat.{ℕ, zero, suc, ◌+◌, ◌≤◌}
use mathlib.Core.Path.{◌≡◌, refl, sym, ap, ◌∙◌}
use mathlib.Core.Bool.{Bool, true, false}
use mathlib.Core.List.{List, [], ◌∷◌, ◌++◌, append-nil}
use native.Mathlib.Omega.{arith}
use borrow.Author.Tests.{eqb-true, eqb-false, ne_eqb}
use lib.Dec.{eqb, leb}
use lib.ListN.{length, take, drop, length-drop, take-append-drop}
use lib.Seq.{take_all, take_at, drop_at, take-add, drop-drop}
use Rattle.rows.specs.declared.Answer.{Answer}
use Rattle.rows.specs.Scan.{accepted, refused, row, ◌then◌, scan}
use Rattle.rows.proofs.ScanLaws.{then_stop, then_first, then_rest, stops, other_number}
use Rattle.frames.specs.Texts.{due, start_of}
use Rattle.faults.specs.Faults.{fault, line_fault}
use Rattle.forcings.specs.Forcings.{forcing_lines, forcing_length, of_kind10, rows10, rows14}
use Rattle.refusals.specs.Refusals.{refusal}
use Rattle.forcelog.specs.declared.Log.{Log}
use Rattle.forcelog.specs.Log.{cold_log, expected, reading, take_of}
use Rattle.forcelog.specs.Printed.{taking, lines_of, grouped, printed, due_of, wholes_of, wholes}
use Rattle.forcelog.proofs.LogLaws.{reading_10, reading_14, unread, not_read}
use Rattle.forcelog.proofs.LineLaws.{fine, fine_long, due_line, fine_more, broken}
use Rattle.forcelog.proofs.GroupLaws.{front, front_whole, kind_is, kind_starts, kind_same, kind_lines, next_10, next_14}

-- ---- the first k lines of an input and its first bytes, as many as those lines should have: read alike, and where they are accepted, the same
record Alike (answer : List ℕ → Answer) (k bytes : ℕ) (s : List ℕ) : Type 0 where
  answers : answer (front k (lines_of s)) ≡ answer (take bytes s)
  texts : (answer (take bytes s)).number ≡ 0 → front k (lines_of s) ≡ take bytes s
  rests : (answer (take bytes s)).number ≡ 0 → drop k (lines_of s) ≡ lines_of (drop bytes s)

-- both broken
apart : (answer : List ℕ → Answer) (k bytes : ℕ) (s : List ℕ) (place : ℕ) → refused 20 place ≡ answer (front k (lines_of s))
    → refused 20 place ≡ answer (take bytes s) → Alike answer k bytes s
apart answer k bytes s place l r =
    let bad : (answer (take bytes s)).number ≡ 0 → ⊥ = other_number r (λ z. absurd (omega (arith, z))) in
    record { answers = sym l ∙ r; texts = λ h. absurd (bad h); rests = λ h. absurd (bad h) }

-- the start of a text has not the line due where the text has not
module _ (d : ℕ) (p x s : List ℕ) (e : p ++ x ≡ s) (h : fine d (take (d + 1) s) ≡ false) where
  not_fine : fine d (take (d + 1) p) ≡ false
  not_fine = go (fine d (take (d + 1) p)) refl
    where
      go : (t : Bool) → fine d (take (d + 1) p) ≡ t → t ≡ false
      go false q = refl
      go true q = sym q ∙ ap (fine d) (sym (fine_more d p x q) ∙ ap (take (d + 1)) e) ∙ h

  -- nor is it that line
  not_it : fine d p ≡ false
  not_it = go (fine d p) refl
    where
      go : (t : Bool) → fine d p ≡ t → t ≡ false
      go false q = refl
      go true q = sym q ∙ ap (fine d) (sym (take_all (d + 1) p (omega (arith, fine_long d p q)))) ∙ not_fine

-- ---- a line of kind 10
alike_10 : (sequence : ℕ) (s : List ℕ) → Alike (λ t. rows10 t sequence) 1 57 s
alike_10 sequence s = go (fine 56 (take 57 s)) refl
  where
    go : (b : Bool) → fine 56 (take 57 s) ≡ b → Alike (λ t. rows10 t sequence) 1 57 s
    go true h =
        let cut = due_line 56 s h in
        let line : front 1 (lines_of s) ≡ take 57 s = ap (front 1) cut ∙ append-nil (take 57 s) in
        record { answers = ap (λ (t : List ℕ). rows10 t sequence) line; texts = λ _. line; rests = λ _. ap (drop 1) cut }
    go false h =
        apart _ 1 57 s 0 (broken 56 (front 1 (lines_of s)) 16 sequence 0 (not_it 56 (front 1 (lines_of s)) _ s (front_whole 1 s) h))
        (broken 56 (take 57 s) 16 sequence 0 h)

-- ---- lines of kinds 14 and 15: m lines from line j on, and the bytes that they should have
abbrev from : ℕ → ℕ → List ℕ → Answer
from j zero t = accepted
from j (suc m) t =
    fault (take (due forcing_lines j + 1) t) (due forcing_lines j) (forcing_lines j).kind j j
    then from (suc j) m (drop (due forcing_lines j + 1) t)

abbrev bytes_from : ℕ → ℕ → ℕ
bytes_from j zero = 0
bytes_from j (suc m) = due forcing_lines j + 1 + bytes_from (suc j) m

scan_from : (t : List ℕ) (m j : ℕ) (f : ℕ → Answer) → ((k i : ℕ) → k + j ≡ i → f k ≡ line_fault forcing_lines t i)
    → scan f m ≡ from j m (drop (start_of forcing_lines j) t)
unfolding scan line_fault start_of
scan_from t zero j f same = refl
scan_from t (suc m) j f same =
    rw (same 0 j (omega arith), scan_from t m (suc j) (λ k. f (suc k)) (λ k i e. same (suc k) i (omega (arith, e))), ← drop-drop (due forcing_lines j + 1) (start_of forcing_lines j) t)

module _ (m j : ℕ) (s : List ℕ) (again : Alike (from (suc j) m) m (bytes_from (suc j) m) (drop (due forcing_lines j + 1) s)) where
  abbrev d : ℕ
  d = due forcing_lines j

  abbrev p : List ℕ
  p = take (d + 1) s

  abbrev left : List ℕ
  left = drop (d + 1) s

  abbrev bytes : ℕ
  bytes = bytes_from (suc j) m

  -- the line due is there, and then the rest is read alike
  module _ (h : fine d p ≡ true) where
    cut : lines_of s ≡ p ∷ lines_of left
    cut = due_line d s h

    joins : front (suc m) (lines_of s) ≡ p ++ front m (lines_of left)
    joins = ap (front (suc m)) cut

    reads : (x : List ℕ) → from j (suc m) (p ++ x) ≡ (fault p d (forcing_lines j).kind j j then from (suc j) m x)
    reads x = let long = fine_long d p h in rw (take_at p x (d + 1) long, drop_at p x (d + 1) long)

    took : from j (suc m) (take (d + 1 + bytes) s) ≡ (fault p d (forcing_lines j).kind j j then from (suc j) m (take bytes left))
    took = ap (from j (suc m)) (take-add (d + 1) bytes s) ∙ reads (take bytes left)

    more : (from j (suc m) (take (d + 1 + bytes) s)).number ≡ 0 → (from (suc j) m (take bytes left)).number ≡ 0
    more ok = then_rest _ _ (ap (λ (a : Answer). a.number) (sym took) ∙ ok)

    goes_on : Alike (from j (suc m)) (suc m) (d + 1 + bytes) s
    goes_on = record {
      answers = ap (from j (suc m)) joins ∙ reads (front m (lines_of left)) ∙ ap (λ (a : Answer). fault p d (forcing_lines j).kind j j then a) again.answers ∙ sym took;
      texts = λ ok. joins ∙ ap (λ (l : List ℕ). p ++ l) (again.texts (more ok)) ∙ sym (take-add (d + 1) bytes s);
      rests = λ ok. ap (drop (suc m)) cut ∙ again.rests (more ok) ∙ ap lines_of (drop-drop bytes (d + 1) s);
    }

  -- it is not there, and so in no text that the input starts with
  module _ (h : fine d p ≡ false) where
    twenty : (q x : List ℕ) → q ++ x ≡ s → refused 20 j ≡ from j (suc m) q
    twenty q x e = stops _ (broken d (take (d + 1) q) (forcing_lines j).kind j j (not_fine d q x s e h)) (λ z. absurd (omega (arith, z)))

    ends : Alike (from j (suc m)) (suc m) (d + 1 + bytes) s
    ends =
        apart _ (suc m) (d + 1 + bytes) s j (twenty (front (suc m) (lines_of s)) _ (front_whole (suc m) s))
        (twenty (take (d + 1 + bytes) s) _ (take-append-drop (d + 1 + bytes) s))

  one_more : (b : Bool) → fine d p ≡ b → Alike (from j (suc m)) (suc m) (d + 1 + bytes) s
  one_more true h = goes_on h
  one_more false h = ends h

alike_from : (m j : ℕ) (s : List ℕ) → Alike (from j m) m (bytes_from j m) s
alike_from zero j s = record { answers = refl; texts = λ _. refl; rests = λ _. refl }
alike_from (suc m) j s = one_more m j s (alike_from m (suc j) (drop (due forcing_lines j + 1) s)) _ refl

-- and the bytes after the last: where the lines are all accepted there are none in either text
rows_from : (t : List ℕ) → rows14 3 t ≡ (from 0 4 t then row (leb (length t) (forcing_length 3)) 20 4)
unfolding start_of
rows_from t =
    let same : (k i : ℕ) → k + 0 ≡ i → line_fault forcing_lines t k ≡ line_fault forcing_lines t i = λ k i e. ap (line_fault forcing_lines t) (omega (arith, e)) in
    ap (λ (a : Answer). a then row (leb (length t) (forcing_length 3)) 20 4) (scan_from t 4 0 (line_fault forcing_lines t) same)

alike_14 : (s : List ℕ) → Alike (rows14 3) 4 148 s
alike_14 s = go (eqb (from 0 4 (take 148 s)).number 0) refl
  where
    its : Alike (from 0 4) 4 148 s
    its = alike_from 4 0 s

    stop : (t : List ℕ) → ((from 0 4 t).number ≡ 0 → ⊥) → rows14 3 t ≡ from 0 4 t
    stop t bad = rows_from t ∙ then_stop _ _ bad

    go : (b : Bool) → eqb (from 0 4 (take 148 s)).number 0 ≡ b → Alike (rows14 3) 4 148 s
    go true e =
        let ok = eqb-true _ _ e in
        record { answers = ap (rows14 3) (its.texts ok); texts = λ _. its.texts ok; rests = λ _. its.rests ok }
    go false e =
        let bad = eqb-false _ _ e in
        let same = stop (front 4 (lines_of s)) (other_number (sym its.answers) bad) ∙ its.answers ∙ sym (stop (take 148 s) bad) in
        let never : (rows14 3 (take 148 s)).number ≡ 0 → ⊥ = λ ok. bad (then_first _ _ (ap (λ (a : Answer). a.number) (sym (rows_from (take 148 s))) ∙ ok)) in
        record { answers = same; texts = λ ok. absurd (never ok); rests = λ ok. absurd (never ok) }

-- ---- a forcing that is read alike is taken alike, and so is what follows it
stop_at : (t : List ℕ) (ts : List (List ℕ)) (log : Log) (a : Answer) → a ≡ (reading t log).answer → (a.number ≡ 0 → ⊥) → taking (t ∷ ts) log ≡ refusal (unread a log).answer
unfolding taking
stop_at t ts log a e bad =
    let took : take_of t log ≡ unread a log = sym (not_read t log (reading t log) refl (other_number e bad)) ∙ ap (λ (b : Answer). unread b log) (sym e) in
    rw (took, ne_eqb _ _ bad)

go_on : (t : List ℕ) (ts us : List (List ℕ)) (log : Log) → ((l : Log) → taking ts l ≡ taking us l) → taking (t ∷ ts) log ≡ taking (t ∷ us) log
unfolding taking
go_on t ts us log same = rw (same (take_of t log).log)

module _ (answer : List ℕ → Answer) (k bytes : ℕ) (s : List ℕ) (log : Log) (a : Alike answer k bytes s)
    (l : answer (front k (lines_of s)) ≡ (reading (front k (lines_of s)) log).answer) (r : answer (take bytes s) ≡ (reading (take bytes s) log).answer) (ts : List (List ℕ))
    (again : (l : Log) → taking (grouped zero (lines_of (drop bytes s))) l ≡ taking ts l) where
  taken_alike : taking (front k (lines_of s) ∷ grouped zero (drop k (lines_of s))) log ≡ taking (take bytes s ∷ ts) log
  taken_alike = go (eqb (answer (take bytes s)).number 0) refl
    where
      go : (b : Bool) → eqb (answer (take bytes s)).number 0 ≡ b → taking (front k (lines_of s) ∷ grouped zero (drop k (lines_of s))) log ≡ taking (take bytes s ∷ ts) log
      go true e =
          let ok = eqb-true _ _ e in
          rw (a.texts ok, a.rests ok) (go_on (take bytes s) _ ts log again)
      go false e =
          let bad = eqb-false _ _ e in
          stop_at (front k (lines_of s)) _ log _ l (other_number (sym a.answers) bad)
          ∙ ap (λ (b : Answer). refusal (unread b log).answer) a.answers
          ∙ sym (stop_at (take bytes s) ts log _ r bad)

-- ---- the whole
kind_take : (n : ℕ) (s : List ℕ) → of_kind10 (take (suc (suc n)) s) ≡ of_kind10 s
kind_take n s =
    kind_same (take (suc (suc n)) s) _ s (take-append-drop (suc (suc n)) s) (λ h. rw (kind_is s h) (kind_starts (take n (drop 2 s))))

module _ (n b : ℕ) (s : List ℕ) (log : Log) (short : length (b ∷ s) ≤ suc n)
    (again : (t : List ℕ) (l : Log) → length t ≤ n → taking (grouped zero (lines_of t)) l ≡ taking (wholes_of n t) l) where
  fewer : (k : ℕ) → length (drop (suc k) (b ∷ s)) ≤ n
  fewer k = rw (length-drop k s) (omega (arith, short))

  by_kind : (kind : Bool) → of_kind10 (b ∷ s) ≡ kind → taking (grouped zero (lines_of (b ∷ s))) log ≡ taking (wholes_of (suc n) (b ∷ s)) log
  unfolding wholes_of due_of
  by_kind true e =
      rw (e, next_10 (b ∷ s) e)
      (taken_alike _ 1 57 (b ∷ s) log (alike_10 (expected log) (b ∷ s)) (reading_10 _ log (kind_lines 0 (b ∷ s) ∙ e)) (reading_10 _ log (kind_take 55 (b ∷ s) ∙ e)) _
      (λ l. again (drop 57 (b ∷ s)) l (fewer 56)))
  by_kind false e =
      rw (e, next_14 b s e)
      (taken_alike _ 4 148 (b ∷ s) log (alike_14 (b ∷ s)) (reading_14 _ log (kind_lines 3 (b ∷ s) ∙ e)) (reading_14 _ log (kind_take 146 (b ∷ s) ∙ e)) _
      (λ l. again (drop 148 (b ∷ s)) l (fewer 147)))

same : (n : ℕ) (s : List ℕ) (log : Log) → length s ≤ n → taking (grouped zero (lines_of s)) log ≡ taking (wholes_of n s) log
unfolding wholes_of lines_of grouped
same zero [] log h = refl
same zero (b ∷ s) log h = absurd (omega arith)
same (suc n) [] log h = refl
same (suc n) (b ∷ s) log h = by_kind n b s log h (same n) (of_kind10 (b ∷ s)) refl

-- what is printed for an input that is read by whole forcings, up to the first refusal
pub by_wholes : (input : List ℕ) → printed input ≡ taking (wholes input) cold_log
unfolding wholes printed
by_wholes input = same (length input) input cold_log (omega arith)

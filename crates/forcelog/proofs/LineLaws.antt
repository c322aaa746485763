-- The lines of an input: what is cut at line feeds is the line that is due, wherever that one passes row 20.
use Prim.Native.Nat.{ℕ, zero, suc, ◌+◌, ◌*◌, ◌/◌, ◌%◌}
use mathlib.Core.Path.{◌≡◌, sym, ap, ◌∙◌}
use mathlib.Core.Bool.{Bool, true, false, ◌&&◌}
use mathlib.Core.List.{List, [], ◌∷◌, ◌++◌}
use native.Mathlib.Omega.{arith}
use borrow.Author.Tests.{eqb-true, eq-eqb, ne_eqb}
use lib.Dec.{eqb}
use lib.ListN.{length, take, drop, get_or, length-take, take-append-drop}
use lib.Seq.{take-append-le}
use Rattle.rows.specs.Scan.{refused}
use Rattle.rows.proofs.ScanLaws.{row_fails, stops, both_left, both_right}
use Rattle.frames.specs.Bytes.{worth, is_digit, all_digits}
use Rattle.frames.specs.Frames.{line_feed}
use Rattle.faults.specs.Faults.{is_framed, row20, fault}
use Rattle.forcelog.specs.Printed.{longer, lines_of}

-- ---- a line that row 20 passes has its only line feed at its end
no_feed : (a : ℕ) → is_digit a ≡ true → eqb a line_feed ≡ false
unfolding worth
no_feed a h = ne_eqb a line_feed (λ e. let no = rw e at h in let z : ◌≡◌ {A = ℕ} 0 1 = cc no in omega arith)

clean : (k : ℕ) (p t : List ℕ) → length p ≡ 2 * k + 1 → all_digits p ≡ true → get_or p (2 * k) 0 ≡ line_feed → lines_of (p ++ t) ≡ p ∷ lines_of t
unfolding lines_of all_digits
clean k [] t h d e = absurd (omega arith)
clean zero (a ∷ []) t h d e = rw (eq-eqb a line_feed e)
clean (suc k) (a ∷ []) t h d e = absurd (omega arith)
clean zero (a ∷ b ∷ p) t h d e = absurd (omega arith)
clean (suc k) (a ∷ b ∷ p) t h d e =
    let both = both_left (is_digit a && is_digit b) (all_digits p) d in
    let place : 2 * suc k ≡ suc (suc (2 * k)) = omega arith in
    let rest = clean k p t (omega arith) (both_right (is_digit a && is_digit b) (all_digits p) d) (rw place at e) in
    rw (no_feed a (both_left (is_digit a) (is_digit b) both), no_feed b (both_right (is_digit a) (is_digit b) both)) (ap (λ (l : List (List ℕ)). longer a (longer b l)) rest)

-- ---- by the digits due: the test of row 20
module _ (due : ℕ) where
  abbrev pub fine : List ℕ → Bool
  fine line = is_framed line due && all_digits line

  record Framed (p : List ℕ) : Type 0 where
    long : length p ≡ due + 1
    even : due % 2 ≡ 0
    ended : get_or p due 0 ≡ line_feed
    right : all_digits p ≡ true

  framed : (p : List ℕ) → fine p ≡ true → Framed p
  unfolding is_framed
  framed p h =
      let long = eqb (length p) (due + 1) in
      let even = eqb (due % 2) 0 in
      let ended = eqb (get_or p due 0) line_feed in
      let f = both_left (long && even && ended) (all_digits p) h in
      let e = both_left (long && even) ended f in
      record {
        long = eqb-true _ _ (both_left long even e);
        even = eqb-true _ _ (both_right long even e);
        ended = eqb-true _ _ (both_right (long && even) ended f);
        right = both_right (long && even && ended) (all_digits p) h;
      }

  pub fine_long : (p : List ℕ) → fine p ≡ true → length p ≡ due + 1
  fine_long p h = (framed p h).long

  -- where the bytes due are fine, they are the first line
  pub due_line : (s : List ℕ) → fine (take (due + 1) s) ≡ true → lines_of s ≡ take (due + 1) s ∷ lines_of (drop (due + 1) s)
  due_line s h =
      let p = take (due + 1) s in
      let f = framed p h in
      let half : due ≡ 2 * (due / 2) = omega (arith, f.even) in
      rw (take-append-drop (due + 1) s) at
      (clean (due / 2) p (drop (due + 1) s) (f.long ∙ ap (λ (n : ℕ). n + 1) half) f.right (ap (λ (n : ℕ). get_or p n 0) (sym half) ∙ f.ended))

  -- of a text that is cut short they are fine only where they are fine in the whole
  pub fine_more : (p x : List ℕ) → fine (take (due + 1) p) ≡ true → take (due + 1) (p ++ x) ≡ take (due + 1) p
  fine_more p x h = take-append-le (due + 1) p x (omega (arith, length-take (due + 1) p, fine_long (take (due + 1) p) h))

  -- a line that row 20 refuses
  pub broken : (p : List ℕ) (kind sequence place : ℕ) → fine p ≡ false → refused 20 place ≡ fault p due kind sequence place
  unfolding fault row20
  broken p kind sequence place h = stops _ (sym (row_fails 20 place h)) (λ z. absurd (omega (arith, z)))

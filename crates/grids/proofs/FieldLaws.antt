-- Numbers, whole numbers and depths, as they are read digit by digit, and the fields that they are.
use Rattle.std.proofs.Common.{◌≡◌, ℕ, zero, suc, ◌+◌, ◌-◌, ◌*◌, ◌^◌, ◌<◌, ◌≤◌, min, Bool, true, false, cond, not, ◌&&◌, ◌||◌, eqb, ltb, leb, List, [], ◌∷◌, length, drop, sym, refl, ap, ◌∙◌, le_refl, mul_assoc, mul_comm, mul-le-mul, pow-suc, arith, drop-drop, le-ltb, lt-ltb, ne_eqb, leb-true}
use mathlib.Core.Bool.{and-true, and-false, and_assoc}
use native.Mathlib.Nat.{pow-le-pow_right}
use Rattle.rows.proofs.ScanLaws.{both_left, both_right}
use Rattle.grids.specs.Numbers.{is_digit, only_digits, is_number, number_from, number_of, starts_with, without, is_minus, unsigned, is_whole, before_first, after_first, has, whole_digits, decimals, is_depth, is_short, size_of}
use Rattle.grids.specs.Private.{unspaced, digits_of, is_end, most, capped_from, capped, GapSeen, DigitsSeen, closed, first, Seen, NumberSeen, WholeSeen, DepthSeen}
use Rattle.grids.specs.declared.scanning.Gap.{Gap}
use Rattle.grids.specs.declared.scanning.Digits.{Digits}
use Rattle.grids.proofs.LeftLaws.{digit_range, ends_front, starts_front, past_left}
use Rattle.grids.proofs.WordLaws.{word, beyond, inside, digit_inside, never, nothing, first_word, seen_word}

-- ---- what is left after the digits
abbrev pub tail : List ℕ → List ℕ
tail u = drop (length (digits_of u)) u

-- a run of digits is the whole word where a field ends after it, and else the word is no number
pub record Run (u : List ℕ) : Type 0 where
  pub ends : is_end (tail u) ≡ only_digits (word u)
  pub all : is_end (tail u) ≡ true → digits_of u ≡ word u
  pub rest : is_end (tail u) ≡ true → tail u ≡ beyond u

pub run : (u : List ℕ) → Run u
unfolding digits_of is_end only_digits word beyond
run [] = record { ends = refl; all = λ e. refl; rest = λ e. refl }
run (b ∷ t) = go (is_digit b) refl (run t)
  where
    stop : (c : Bool) → is_end (b ∷ t) ≡ c → is_digit b ≡ false → Run (b ∷ t)
    stop true e d = record { ends = rw (d, e); all = λ _. rw (d, e); rest = λ _. rw (d, e) }
    stop false e d = record { ends = rw (d, e, d); all = λ f. absurd (never (sym (rw d at f) ∙ e)); rest = λ f. absurd (never (sym (rw d at f) ∙ e)) }

    go : (c : Bool) → is_digit b ≡ c → Run t → Run (b ∷ t)
    go true d more =
        let i = digit_inside b t d in
        record {
          ends = rw (d, i, d) more.ends;
          all = λ f. rw (d, i) (ap (λ (l : List ℕ). b ∷ l) (more.all (rw d at f)));
          rest = λ f. rw (d, i) (more.rest (rw d at f));
        }
    go false d more = stop (is_end (b ∷ t)) refl d

pub digits_only : (u : List ℕ) → only_digits (digits_of u) ≡ true
unfolding digits_of only_digits
digits_only [] = refl
digits_only (b ∷ t) = go (is_digit b) refl (digits_only t)
  where
    go : (c : Bool) → is_digit b ≡ c → only_digits (digits_of t) ≡ true → only_digits (cond c (b ∷ digits_of t) []) ≡ true
    go true d more = rw d more
    go false d more = refl

digits_done : (u : List ℕ) → digits_of (tail u) ≡ []
unfolding digits_of
digits_done [] = refl
digits_done (b ∷ t) = go (is_digit b) refl (digits_done t)
  where
    go : (c : Bool) → is_digit b ≡ c → digits_of (tail t) ≡ [] → digits_of (drop (length (cond c (b ∷ digits_of t) [])) (b ∷ t)) ≡ []
    go true d more = more
    go false d more = rw d

-- ---- a number, up to the limit and by its digits
capped_from_lem : (v : ℕ) (t : List ℕ) → capped_from (min v most) t ≡ min (number_from v t) most
unfolding capped_from number_from
capped_from_lem v [] = refl
capped_from_lem v (b ∷ t) =
    let turn : min (10 * min v most + (b - 48)) most ≡ min (10 * v + (b - 48)) most = omega arith in
    ap (λ (w : ℕ). capped_from w t) turn ∙ capped_from_lem (10 * v + (b - 48)) t

pub number_capped : (t : List ℕ) → capped_from 0 t ≡ capped (number_of t)
number_capped t = capped_from_lem 0 t

number_below : (t : List ℕ) (v : ℕ) → only_digits t ≡ true → number_from v t < (v + 1) * 10 ^ length t
unfolding only_digits number_from
number_below [] v d = omega arith
number_below (b ∷ t) v d =
    let r = digit_range b (both_left _ (only_digits t) d) in
    let p = 10 ^ length t in
    let more : number_from (10 * v + (b - 48)) t < (10 * v + (b - 48) + 1) * p = number_below t (10 * v + (b - 48)) (both_right (is_digit b) _ d) in
    let top : (10 * v + (b - 48) + 1) * p ≤ ((v + 1) * 10) * p = mul-le-mul (omega (arith, r.1)) (le_refl p) in
    let same : ((v + 1) * 10) * p ≡ (v + 1) * 10 ^ suc (length t) = mul_assoc (v + 1) 10 p ∙ ap (λ (q : ℕ). (v + 1) * q) (mul_comm 10 p ∙ sym (pow-suc 10 (length t))) in
    omega (arith, more, top, same)

number_short : (t : List ℕ) (k : ℕ) → only_digits t ≡ true → length t ≤ k → number_of t < 10 ^ k
number_short t k d l =
    let below = number_below t 0 d in
    let grows : 10 ^ length t ≤ 10 ^ k = pow-le-pow_right (omega arith) l in
    omega (arith, below, grows)

-- ---- the optional minus
minus_word : (u : List ℕ) → is_minus (word u) ≡ is_minus u
unfolding starts_with word
minus_word [] = refl
minus_word (b ∷ t) = go (is_end (b ∷ t)) refl (eqb b 45) refl
  where
    go : (c : Bool) → is_end (b ∷ t) ≡ c → (m : Bool) → eqb b 45 ≡ m → starts_with 45 (cond c [] (b ∷ word t)) ≡ eqb b 45
    go false e m q = refl
    go true e false q = sym q
    go true e true q = absurd (never (sym e ∙ inside b 45 t q (λ p. absurd (omega (arith, p))) (λ p. absurd (omega (arith, p)))))

record Signed (u : List ℕ) : Type 0 where
  digits : unsigned (word u) ≡ word (unsigned u)
  rest : beyond u ≡ beyond (unsigned u)

sign : (u : List ℕ) → Signed u
unfolding without word beyond
sign [] = record { digits = refl; rest = refl }
sign (b ∷ t) = go (eqb b 45) refl (is_end (b ∷ t)) refl
  where
    go : (m : Bool) → eqb b 45 ≡ m → (c : Bool) → is_end (b ∷ t) ≡ c → Signed (b ∷ t)
    go true q c e =
        let i = inside b 45 t q (λ p. absurd (omega (arith, p))) (λ p. absurd (omega (arith, p))) in
        record { digits = rw (i, q); rest = rw (i, q) }
    go false q true e = record { digits = rw (q, e); rest = rw q }
    go false q false e = record { digits = rw (q, e, q); rest = rw q }

-- ---- digits read from a place on are a number, or the word is none
run_number : (u : List ℕ) → (ltb 0 (length (digits_of u)) && is_end (tail u)) ≡ is_number (word u)
unfolding is_number
run_number u = go (is_end (tail u)) refl
  where
    go : (c : Bool) → is_end (tail u) ≡ c → (ltb 0 (length (digits_of u)) && is_end (tail u)) ≡ is_number (word u)
    go true e = rw ((run u).ends, (run u).all e)
    go false e = rw (← (run u).ends, e) (and-false (ltb 0 (length (digits_of u))) ∙ sym (and-false (ltb 0 (length (word u)))))

longer : (from n : ℕ) → ltb from (from + n) ≡ ltb 0 n
longer from zero = le-ltb from (from + 0) (omega arith)
longer from (suc n) = lt-ltb from (from + suc n) (omega arith) ∙ sym (lt-ltb 0 (suc n) (omega arith))

module _ (text : List ℕ) (from end : ℕ) (long : end ≡ from + length (digits_of (drop from text))) where
  run_left : drop end text ≡ tail (drop from text)
  run_left = ap (λ (k : ℕ). drop k text) long ∙ sym (drop-drop (length (digits_of (drop from text))) from text)

  module _ {e : Bool} (ends : e ≡ is_end (drop end text)) where
    run_fine : (ltb from end && e) ≡ is_number (word (drop from text))
    run_fine =
        (λ i. ltb from (long i) && ends i)
        ∙ (λ i. longer from (length (digits_of (drop from text))) i && is_end (run_left i))
        ∙ run_number (drop from text)

    at_end : (ltb from end && e) ≡ true → is_end (tail (drop from text)) ≡ true
    at_end f = ap is_end (sym run_left) ∙ sym ends ∙ both_right (ltb from end) e f

    run_all : (ltb from end && e) ≡ true → digits_of (drop from text) ≡ word (drop from text)
    run_all f = (run (drop from text)).all (at_end f)

    run_rest : (ltb from end && e) ≡ true → drop end text ≡ beyond (drop from text)
    run_rest f = run_left ∙ (run (drop from text)).rest (at_end f)

no_number : is_number [] ≡ false
unfolding is_number
no_number = refl

no_whole : is_whole [] ≡ false
unfolding is_number without
no_whole = refl

-- what is read from a byte of a text on
module _ {text : List ℕ} {from : ℕ} {g : Gap} (gap : GapSeen text from g) where
  abbrev t : List ℕ
  t = drop from text

  -- a number
  pub number_seen : {r : Digits} {fine : Bool} → DigitsSeen text g.end 0 r → fine ≡ closed g.end r → NumberSeen t fine r.value (drop r.end text)
  number_seen {r} run is =
      let ends = ap (λ (b : ℕ). eqb b 32 || eqb b 10) run.stop ∙ ends_front (drop r.end text) in
      record {
        seen =
            seen_word t is_number no_number (is ∙ run_fine text g.end r.end run.end ends ∙ ap (λ (u : List ℕ). is_number (word u)) gap.left)
            (λ f. run_rest text g.end r.end run.end ends (sym is ∙ f) ∙ ap beyond gap.left);
        value_is = λ f.
            run.value
            ∙ ap (capped_from 0) (run_all text g.end r.end run.end ends (sym is ∙ f) ∙ ap word gap.left ∙ sym (first_word t))
            ∙ number_capped (first t);
      }

  -- a number after an optional minus
  pub minus_is : eqb g.stop 45 ≡ is_minus (first t)
  minus_is =
      ap (λ (b : ℕ). eqb b 45) gap.stop
      ∙ starts_front 45 refl (drop g.end text)
      ∙ ap is_minus gap.left
      ∙ sym (minus_word (unspaced t))
      ∙ ap is_minus (sym (first_word t))

  pub whole_seen : {start : ℕ} {r : Digits} {fine : Bool} → start ≡ cond (eqb g.stop 45) (g.end + 1) g.end → DigitsSeen text start 0 r → fine ≡ closed start r
      → WholeSeen t fine (eqb g.stop 45) r.value (drop r.end text)
  whole_seen {start} {r} past run is =
      let ends = ap (λ (b : ℕ). eqb b 32 || eqb b 10) run.stop ∙ ends_front (drop r.end text) in
      let digits : drop start text ≡ unsigned (unspaced t) = past_left 45 refl text g.end gap.stop past ∙ ap unsigned gap.left in
      let words : word (drop start text) ≡ unsigned (word (unspaced t)) = ap word digits ∙ sym (sign (unspaced t)).digits in
      record {
        seen =
            seen_word t is_whole no_whole (is ∙ run_fine text start r.end run.end ends ∙ ap is_number words)
            (λ f. run_rest text start r.end run.end ends (sym is ∙ f) ∙ ap beyond digits ∙ sym (sign (unspaced t)).rest);
        minus_is = λ f. minus_is;
        size_is = λ f.
            run.value
            ∙ ap (capped_from 0) (run_all text start r.end run.end ends (sym is ∙ f) ∙ words ∙ ap unsigned (sym (first_word t)))
            ∙ number_capped (unsigned (first t));
      }

-- ---- a depth: digits, a point, decimals
record Point (u : List ℕ) : Type 0 where
  there : starts_with 46 (tail u) ≡ true
      → (before_first 46 (word u) ≡ digits_of u) × (has 46 (word u) ≡ true) × (after_first 46 (word u) ≡ word (without 46 (tail u)))
      × (beyond u ≡ beyond (without 46 (tail u)))
  missing : starts_with 46 (tail u) ≡ false → is_end (tail u) ≡ true
      → (before_first 46 (word u) ≡ digits_of u) × (has 46 (word u) ≡ false) × (after_first 46 (word u) ≡ [])
  other : starts_with 46 (tail u) ≡ false → is_end (tail u) ≡ false → only_digits (before_first 46 (word u)) ≡ false

point : (u : List ℕ) → Point u
unfolding starts_with without digits_of only_digits word beyond before_first after_first has
point [] = record {
  there = λ f. absurd (never (sym f));
  missing = λ f e. (refl, refl, refl);
  other = λ f e. absurd (nothing e);
}
point (b ∷ t) = go (is_digit b) refl (point t)
  where
    stop : is_digit b ≡ false → (p : Bool) → eqb b 46 ≡ p → Point (b ∷ t)
    stop d true q =
        let i = inside b 46 t q (λ p. absurd (omega (arith, p))) (λ p. absurd (omega (arith, p))) in
        record {
          there = λ f. (rw (d, i, q), rw (i, q), rw (d, i, q), rw (d, i, q));
          missing = λ f. absurd (never (sym q ∙ rw d at f));
          other = λ f. absurd (never (sym q ∙ rw d at f));
        }
    stop d false q = record {
      there = λ f. absurd (never (sym (rw d at f) ∙ q));
      missing = λ f e. let i = rw d at e in (rw (d, i), rw i, rw i);
      other = λ f e. let i = rw d at e in rw (i, q, d);
    }

    go : (c : Bool) → is_digit b ≡ c → Point t → Point (b ∷ t)
    go true d more =
        let i = digit_inside b t d in
        let q : eqb b 46 ≡ false = ne_eqb b 46 (λ p. absurd (omega (arith, (digit_range b d).0, p))) in
        record {
          there = λ f. let m = more.there (rw d at f) in (rw (d, i, q) (ap (λ (l : List ℕ). b ∷ l) m.0), rw (i, q) m.1, rw (d, i, q) m.2, rw (d, i) m.3);
          missing = λ f e. let m = more.missing (rw d at f) (rw d at e) in (rw (d, i, q) (ap (λ (l : List ℕ). b ∷ l) m.0), rw (i, q) m.1, rw (i, q) m.2);
          other = λ f e. rw (i, q, d) (more.other (rw d at f) (rw d at e));
        }
    go false d more = stop d (eqb b 46) refl

-- the decimals that are read: those after a point, and none where there is none
abbrev pub after : List ℕ → List ℕ
after u = without 46 (tail u)

stays : (mark : ℕ) (t : List ℕ) → starts_with mark t ≡ false → without mark t ≡ t
unfolding starts_with without
stays mark [] e = refl
stays mark (b ∷ t) e = rw e

abbrev is_pointed : List ℕ → Bool
is_pointed v = is_number (before_first 46 v) && (not (has 46 v) || is_number (after_first 46 v))

abbrev pub is_read : List ℕ → Bool
is_read u = (ltb 0 (length (digits_of u)) && (not (starts_with 46 (tail u)) || ltb 0 (length (digits_of (after u))))) && is_end (tail (after u))

pub record Decimal (u : List ℕ) : Type 0 where
  pub fine : is_read u ≡ is_pointed (word u)
  pub digits : is_read u ≡ true → before_first 46 (word u) ≡ digits_of u
  pub decimals : is_read u ≡ true → after_first 46 (word u) ≡ digits_of (after u)
  pub rest : is_read u ≡ true → tail (after u) ≡ beyond u

digits_number : (u : List ℕ) → is_number (digits_of u) ≡ ltb 0 (length (digits_of u))
unfolding is_number
digits_number u = rw (digits_only u) (and-true (ltb 0 (length (digits_of u))))

not_number : (f : List ℕ) (b : Bool) → only_digits f ≡ false → (is_number f && b) ≡ false
unfolding is_number
not_number f b e = rw (e, and-false (ltb 0 (length f)))

pub decimal_run : (u : List ℕ) → Decimal u
decimal_run u = go (starts_with 46 (tail u)) refl (is_end (tail u)) refl
  where
    closed : is_read u ≡ true → is_end (tail (after u)) ≡ true
    closed r = both_right (ltb 0 (length (digits_of u)) && (not (starts_with 46 (tail u)) || ltb 0 (length (digits_of (after u))))) (is_end (tail (after u))) r

    go : (p : Bool) → starts_with 46 (tail u) ≡ p → (e : Bool) → is_end (tail u) ≡ e → Decimal u
    go true q e f =
        let m = (point u).there q in
        record {
          fine =
              rw (q, m.1, m.0, m.2, digits_number u, ← run_number (after u))
              (and_assoc (ltb 0 (length (digits_of u))) (ltb 0 (length (digits_of (after u)))) (is_end (tail (after u))));
          digits = λ r. m.0;
          decimals = λ r. m.2 ∙ sym ((run (after u)).all (closed r));
          rest = λ r. (run (after u)).rest (closed r) ∙ sym m.3;
        }
    go false q e f =
        let same : after u ≡ tail u = stays 46 (tail u) q in
        let none : digits_of (after u) ≡ [] = ap digits_of same ∙ digits_done u in
        let left : tail (after u) ≡ tail u = λ i. drop (length (none i)) (same i) in
        plain e f none left
      where
        plain : (e : Bool) → is_end (tail u) ≡ e → digits_of (after u) ≡ [] → tail (after u) ≡ tail u → Decimal u
        plain true f none left =
            let m = (point u).missing q f in
            record {
              fine = rw (q, left, f, m.0, m.1, digits_number u) (and-true (ltb 0 (length (digits_of u)) && true));
              digits = λ r. m.0;
              decimals = λ r. m.2 ∙ sym none;
              rest = λ r. left ∙ (run u).rest f;
            }
        plain false f none left =
            let refused : is_read u ≡ false = rw (left, f) (and-false (ltb 0 (length (digits_of u)) && (not (starts_with 46 (tail u)) || ltb 0 (length (digits_of (after u)))))) in
            record {
              fine = refused ∙ sym (not_number (before_first 46 (word u)) (not (has 46 (word u)) || is_number (after_first 46 (word u))) ((point u).other q f));
              digits = λ r. absurd (never (sym r ∙ refused));
              decimals = λ r. absurd (never (sym r ∙ refused));
              rest = λ r. absurd (never (sym r ∙ refused));
            }

-- a run of few digits has a small value, which the limit does not touch
pub run_below : (u : List ℕ) (k : ℕ) {v : ℕ} → v ≡ capped_from 0 (digits_of u) → length (digits_of u) ≤ k → v < 10 ^ k
run_below u k is few = omega (arith, is, number_capped (digits_of u), number_short (digits_of u) k (digits_only u) few)

run_exact : (u : List ℕ) {v : ℕ} → v ≡ capped_from 0 (digits_of u) → length (digits_of u) ≤ 9 → v ≡ number_of (digits_of u)
run_exact u is few = omega (arith, is, number_capped (digits_of u), number_short (digits_of u) 9 (digits_only u) few)

-- where the digits of a depth, its point and its decimals were found
pub record Found (text : List ℕ) (from mid point end : ℕ) : Type 0 where
  pub digits : mid ≡ from + length (digits_of (drop from text))
  pub pointed : drop point text ≡ without 46 (drop mid text)
  pub decimals : end ≡ point + length (digits_of (drop point text))

module _ {text : List ℕ} {from mid point end : ℕ} (found : Found text from mid point end) where
  found_after : drop point text ≡ after (drop from text)
  found_after = found.pointed ∙ ap (without 46) (run_left text from mid found.digits)

  found_left : drop end text ≡ tail (after (drop from text))
  found_left = run_left text point end found.decimals ∙ ap tail found_after

  pub found_digits : mid - from ≡ length (digits_of (drop from text))
  found_digits = omega (arith, found.digits)

  pub found_places : end - point ≡ length (digits_of (drop point text))
  found_places = omega (arith, found.decimals)

no_depth : is_depth [] ≡ false
unfolding is_depth is_number without before_first
no_depth = refl

-- a depth
module _ (t text : List ℕ) (start : ℕ) (skipped : drop start text ≡ unspaced t) {from mid point end : ℕ} (signless : drop from text ≡ without 45 (drop start text))
    (found : Found text from mid point end) where
  its_digits : drop from text ≡ unsigned (unspaced t)
  its_digits = signless ∙ ap unsigned skipped

  its_word : word (drop from text) ≡ unsigned (first t)
  its_word = ap word its_digits ∙ sym (sign (unspaced t)).digits ∙ ap unsigned (sym (first_word t))

  read : (p e : Bool) → p ≡ starts_with 46 (drop mid text) → e ≡ is_end (drop end text)
      → ((ltb 0 (mid - from) && (not p || ltb 0 (end - point))) && e) ≡ is_read (drop from text)
  read p e pointed ends =
      let d = ap (λ (n : ℕ). ltb 0 n) (found_digits found) in
      let m : p ≡ starts_with 46 (tail (drop from text)) = pointed ∙ ap (starts_with 46) (run_left text from mid found.digits) in
      let k : ltb 0 (end - point) ≡ ltb 0 (length (digits_of (after (drop from text)))) =
      ap (λ (n : ℕ). ltb 0 n) (found_places found) ∙ ap (λ (u : List ℕ). ltb 0 (length (digits_of u))) (found_after found) in
      λ i. (d i && (not (m i) || k i)) && (ends ∙ ap is_end (found_left found)) i

  module _ (p e : Bool) (pointed : p ≡ starts_with 46 (drop mid text)) (ends : e ≡ is_end (drop end text)) where
    abbrev fine : Bool
    fine = (ltb 0 (mid - from) && (not p || ltb 0 (end - point))) && e

    words : word (drop from text) ≡ unsigned (word (unspaced t))
    words = ap word its_digits ∙ sym (sign (unspaced t)).digits

    depth_field : Seen is_depth t fine (drop end text)
    unfolding is_depth
    depth_field =
        let run = decimal_run (drop from text) in
        let here = read p e pointed ends in
        seen_word t is_depth no_depth (here ∙ run.fine ∙ ap is_pointed words)
        (λ f. found_left found ∙ run.rest (sym here ∙ f) ∙ ap beyond its_digits ∙ sym (sign (unspaced t)).rest)

    pub depth_none : fine ≡ false → false ≡ is_depth (first t)
    depth_none off = sym off ∙ depth_field.holds

    pub depth_seen : fine ≡ true → (minus : Bool) (whole parts size : ℕ) → minus ≡ starts_with 45 (drop start text)
        → whole ≡ capped_from 0 (digits_of (drop from text)) → parts ≡ capped_from 0 (digits_of (drop point text))
        → ((leb (mid - from) 9 && leb (end - point) 3) ≡ true → size ≡ whole * 1000 + parts * 10 ^ (3 - (end - point))) → size ≤ 2 ^ 53
        → DepthSeen t (record { minus = minus; short = leb (mid - from) 9 && leb (end - point) 3; size = size; next = end }) (drop end text)
    unfolding is_short size_of
    depth_seen on minus whole parts size signed is_whole_lem is-parts sized small =
        let u = drop from text in
        let run = decimal_run u in
        let r : is_read u ≡ true = sym (read p e pointed ends) ∙ on in
        let its_whole : whole_digits (first t) ≡ digits_of u = ap (before_first 46) (sym its_word) ∙ run.digits r in
        let its_decimals : decimals (first t) ≡ digits_of (drop point text) =
        ap (after_first 46) (sym its_word) ∙ run.decimals r ∙ ap digits_of (sym (found_after found)) in
        let few : mid - from ≡ length (whole_digits (first t)) = found_digits found ∙ ap length (sym its_whole) in
        let places : end - point ≡ length (decimals (first t)) = found_places found ∙ ap length (sym its_decimals) in
        record {
          seen = rw on at depth_field;
          minus = signed ∙ ap is_minus skipped ∙ sym (minus_word (unspaced t)) ∙ ap is_minus (sym (first_word t));
          short = λ i. leb (few i) 9 && leb (places i) 3;
          size = λ s.
              let nine = leb-true (mid - from) 9 (both_left (leb (mid - from) 9) (leb (end - point) 3) s) in
              let three = leb-true (end - point) 3 (both_right (leb (mid - from) 9) (leb (end - point) 3) s) in
              let a : whole ≡ number_of (whole_digits (first t)) =
              run_exact u is_whole_lem (omega (arith, found_digits found, nine)) ∙ ap number_of (sym its_whole) in
              let b : parts ≡ number_of (decimals (first t)) =
              run_exact (drop point text) is-parts (omega (arith, found_places found, three)) ∙ ap number_of (sym its_decimals) in
              sized s ∙ (λ i. a i * 1000 + b i * 10 ^ (3 - places i));
          small = small;
        }

-- What is left of a text from a byte on: its next byte, and what the functions of a text's front make of it.
use Rattle.std.proofs.Common.{◌≡◌, ℕ, ◌+◌, ◌-◌, ◌*◌, ◌%◌, ◌^◌, ◌<◌, ◌≤◌, min, Bool, true, false, cond, ◌&&◌, ◌||◌, eqb, leb, List, [], ◌∷◌, length, get_or, drop, sym, refl, ap, ◌∙◌, true≢false, pow-suc, add-one, arith, length-drop, drop_of_length-le, drop-cons, drop-drop, eq-eqb, ne_eqb, le-leb, leb-true}
use native.Mathlib.Nat.{pow-le-pow_right}
use Rattle.rows.proofs.ScanLaws.{both_left, both_right}
use Rattle.grids.specs.Numbers.{is_digit, starts_with, without, after_first}
use Rattle.grids.specs.Private.{unspaced, digits_of, is_end, is_line_end, most, capped_from, front, DigitsSeen}
use Rattle.grids.specs.declared.scanning.Digits.{Digits}

-- a test that a byte meets or not
is_yes : {a b : ℕ} → a ≡ b → eqb a b ≡ true
is_yes {a} {b} e = eq-eqb a b e

is_no : {a b : ℕ} → (a ≡ b → ⊥) → eqb a b ≡ false
is_no {a} {b} n = ne_eqb a b n

pub digit_range : (b : ℕ) → is_digit b ≡ true → (48 ≤ b) × (b ≤ 57)
digit_range b e = (leb-true 48 b (both_left _ (leb b 57) e), leb-true b 57 (both_right (leb 48 b) _ e))

module _ (t : List ℕ) (at : ℕ) where
  left : at < length t → drop at t ≡ get_or t at 0 ∷ drop (at + 1) t
  left l = rw add-one (drop-cons t at 0 l)

  none : length t ≤ at → drop at t ≡ []
  none l = drop_of_length-le t l

  -- spaces
  pub space_more : at < length t → get_or t at 0 ≡ 32 → unspaced (drop at t) ≡ unspaced (drop (at + 1) t)
  unfolding unspaced
  space_more l e = rw (left l, is_yes e)

  pub space_none : at < length t → (get_or t at 0 ≡ 32 → ⊥) → unspaced (drop at t) ≡ drop at t
  unfolding unspaced
  space_none l n = rw (left l, is_no n)

  pub space_end : length t ≤ at → unspaced (drop at t) ≡ drop at t
  unfolding unspaced
  space_end l = rw (none l)

  -- a run of digits: its value goes on from v, and it is as long as what follows and one more
  digit_value : (v : ℕ) → at < length t → is_digit (get_or t at 0) ≡ true
      → capped_from v (digits_of (drop at t)) ≡ capped_from (min (10 * v + (get_or t at 0 - 48)) most) (digits_of (drop (at + 1) t))
  unfolding digits_of capped_from
  digit_value v l e = rw (left l, e)

  digit_count : at < length t → is_digit (get_or t at 0) ≡ true → length (digits_of (drop at t)) ≡ 1 + length (digits_of (drop (at + 1) t))
  unfolding digits_of
  digit_count l e = rw (left l, e) (omega arith)

  pub digit_none : at < length t → is_digit (get_or t at 0) ≡ false → digits_of (drop at t) ≡ []
  unfolding digits_of
  digit_none l e = rw (left l, e)

  pub digit_end : length t ≤ at → digits_of (drop at t) ≡ []
  unfolding digits_of
  digit_end l = rw (none l)

  -- lines
  pub line_more : at < length t → (get_or t at 0 ≡ 10 → ⊥) → after_first 10 (drop at t) ≡ after_first 10 (drop (at + 1) t)
  unfolding after_first
  line_more l n = rw (left l, is_no n)

  pub line_last : at < length t → get_or t at 0 ≡ 10 → after_first 10 (drop at t) ≡ drop (at + 1) t
  unfolding after_first
  line_last l e = rw (left l, is_yes e)

  pub line_end : length t ≤ at → after_first 10 (drop at t) ≡ drop at t
  unfolding after_first
  line_end l = rw (none l)

  -- the byte that stands first
  pub front_there : at < length t → get_or t at 0 ≡ front (drop at t)
  unfolding front
  front_there l = rw (left l)

  pub front_end : length t ≤ at → 10 ≡ front (drop at t)
  unfolding front
  front_end l = rw (none l)

-- ---- digits are read one after the other: those that are left go on from the value, and end where all end
pub record Going (text : List ℕ) (from v value at : ℕ) : Type 0 where
  pub on : capped_from value (digits_of (drop at text)) ≡ capped_from v (digits_of (drop from text))
  pub to : at + length (digits_of (drop at text)) ≡ from + length (digits_of (drop from text))

pub going_starts : (text : List ℕ) (from v : ℕ) → Going text from v v from
going_starts text from v = record { on = refl; to = refl }

module _ {text : List ℕ} {from v value at : ℕ} (g : Going text from v value at) where
  pub going_more : {w next : ℕ} → at < length text → is_digit (get_or text at 0) ≡ true → w ≡ min (10 * value + (get_or text at 0 - 48)) most → next ≡ at + 1
      → Going text from v w next
  going_more l digit is step = record {
    on = (λ i. capped_from (is i) (digits_of (drop (step i) text))) ∙ sym (digit_value text at value l digit) ∙ g.on;
    to = (λ i. step i + length (digits_of (drop (step i) text))) ∙ omega (arith, digit_count text at l digit, g.to);
  }

  pub going_same : {w next : ℕ} → w ≡ value → next ≡ at → Going text from v w next
  going_same is there = record {
    on = (λ i. capped_from (is i) (digits_of (drop (there i) text))) ∙ g.on;
    to = (λ i. there i + length (digits_of (drop (there i) text))) ∙ g.to;
  }

  pub going_ends : {stop : ℕ} → digits_of (drop at text) ≡ [] → stop ≡ front (drop at text) → at ≤ length text
      → DigitsSeen text from v (record { value = value; end = at; stop = stop })
  unfolding capped_from
  going_ends e first l = record { value = rw e at g.on; end = omega (arith, ap length e, g.to); stop = first; within = l }

  pub going_through : {r : Digits} → DigitsSeen text at value r → DigitsSeen text from v r
  going_through s = record { value = s.value ∙ g.on; end = s.end ∙ g.to; stop = s.stop; within = s.within }

-- a byte less 48, modulo 2^64, is at most 9 for a digit alone
pub digit_yes : (b d : ℕ) → (d + 48) % 2 ^ 64 ≡ b → d ≤ 9 → (is_digit b ≡ true) × (d ≡ b - 48)
digit_yes b d e l =
    let is : b ≡ d + 48 = omega (arith, e, l) in
    ((λ i. le-leb 48 b (omega (arith, is)) i && le-leb b 57 (omega (arith, is, l)) i), omega (arith, is))

pub digit_no : (b d : ℕ) → (d + 48) % 2 ^ 64 ≡ b → d < 2 ^ 64 → 9 < d → is_digit b ≡ false
digit_no b d e fits l = go (is_digit b) refl
  where
    go : (c : Bool) → is_digit b ≡ c → is_digit b ≡ false
    go false q = q
    go true q = let r = digit_range b q in absurd (omega (arith, e, fits, l, r.0, r.1))

-- few digits make a small value
pub grown : (j v d : ℕ) → v < 10 ^ j → d ≤ 9 → 10 * v + d < 10 ^ (j + 1)
grown j v d below digit =
    let more : 10 ^ (j + 1) ≡ 10 ^ j * 10 = ap (λ (k : ℕ). 10 ^ k) (add-one j) ∙ pow-suc 10 j in
    omega (arith, more, below)

pub few : (j v : ℕ) → v < 10 ^ j → j ≤ 5 → v < 100000
few j v below l = let top : 10 ^ j ≤ 10 ^ 5 = pow-le-pow_right (omega arith) l in omega (arith, top, below)

-- ---- what the first byte tells
pub ends_front : (u : List ℕ) → (eqb (front u) 32 || eqb (front u) 10) ≡ is_end u
unfolding front is_end
ends_front [] = refl
ends_front (b ∷ t) = refl

pub line_front : (u : List ℕ) → eqb (front u) 10 ≡ is_line_end u
unfolding front is_line_end
line_front [] = refl
line_front (b ∷ t) = refl

-- past a mark that is no line feed, where it stands first
module _ (mark : ℕ) (other : eqb 10 mark ≡ false) where
  pub starts_front : (u : List ℕ) → eqb (front u) mark ≡ starts_with mark u
  unfolding front starts_with
  starts_front [] = other
  starts_front (b ∷ t) = refl

  some : (u : List ℕ) → eqb (front u) mark ≡ true → 0 < length u
  unfolding front
  some [] e = absurd (true≢false (sym e ∙ other))
  some (b ∷ t) e = omega arith

  stripped : (u : List ℕ) → cond (eqb (front u) mark) (drop 1 u) u ≡ without mark u
  unfolding front without
  stripped [] = rw other
  stripped (b ∷ t) = refl

  module _ (text : List ℕ) (at : ℕ) {stop r : ℕ} (first : stop ≡ front (drop at text)) (is : r ≡ cond (eqb stop mark) (at + 1) at) where
    pub past_left : drop r text ≡ without mark (drop at text)
    past_left = ap (λ (k : ℕ). drop k text) is ∙ go (eqb stop mark) ∙ ap (λ (b : ℕ). cond (eqb b mark) (drop 1 (drop at text)) (drop at text)) first ∙ stripped (drop at text)
      where
        go : (c : Bool) → drop (cond c (at + 1) at) text ≡ cond c (drop 1 (drop at text)) (drop at text)
        go true = sym (drop-drop 1 at text)
        go false = refl

    pub past_within : at ≤ length text → r ≤ length text
    past_within l = go (eqb stop mark) refl
      where
        go : (c : Bool) → eqb stop mark ≡ c → r ≤ length text
        go true e = omega (arith, rw e at is, some (drop at text) (ap (λ (b : ℕ). eqb b mark) (sym first) ∙ e), length-drop at text)
        go false e = omega (arith, rw e at is, l)

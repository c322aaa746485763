-- Laws of a record's rows: what each holds after something was written, after a gauge was added, and after a state was noted at every gauge.
use Prim.Native.Nat.{ℕ, zero, suc, ◌+◌, ◌^◌, ◌<◌, ◌≤◌}
use mathlib.Core.Path.{◌≡◌, refl, ap, ◌∙◌}
use mathlib.Core.Bool.{Bool, true, false, cond, ◌&&◌, ◌||◌}
use mathlib.Core.List.{List}
use mathlib.Core.Logic.{◌⊎◌, inl, inr, ⊎_elim}
use native.Mathlib.Nat.{not-suc-le-zero, le_of_suc-le-suc, eq-or-lt_of_le, le_refl}
use native.Mathlib.Numerals.{add-one}
use native.Mathlib.Omega.{arith}
use borrow.Author.Tests.{leb-true, le-leb, ltb-true, ltb-false, eqb-true, eqb-false}
use lib.Dec.{T, leb, ltb, eqb, lit<, lit≤}
use lib.ListN.{length}
use lib.Ieee.{Float, binary64, fits, of_bits, to_bits}
use mir.Syntax.{w32}
use mir.Val.{SFits}
use Rattle.rows.specs.declared.Answer.{Answer}
use Rattle.rows.specs.Numbers.{plus0}
use Rattle.rows.proofs.ScanLaws.{row_holds, row_passed, then_rest, scan_none, scan_clean, both_left, both_right}
use Rattle.patterns.proofs.PatternLaws.{pattern_fits, float_back}
use Rattle.crossing.specs.Crossing.{written_at, signed, unsigned}
use Rattle.crossing.proofs.CrossLaws.{written_length, number_written, number_elsewhere, unsigned_small, signed_back}
use Rattle.location.specs.declared.seeking.Point.{Point}
use Rattle.location.specs.Survey.{most}
use Rattle.keeping.specs.declared.Mark.{Mark}
use Rattle.keeping.specs.Record.{Field, east_field, north_field, seen_field, peak_field, step_field, row_bytes, record_bytes, place_of, field_in, with_field, count_in, point_in, mark_in, with_mark, with_point, added, keeps, noted, all_noted, row43}
use Rattle.keeping.proofs.RecordLaws.{row_by_row, record_long, count_most, mark_length, all_length}

-- ---- one field
-- it stands within its row, and is read whole
abbrev pub is_field : Field → Bool
is_field f = leb (f.offset + f.width) row_bytes && leb f.width 8

-- two fields of a row do not overlap
abbrev pub are_apart : Field → Field → Bool
are_apart f h = leb (f.offset + f.width) h.offset || leb (h.offset + h.width) f.offset

either : (m n p q : ℕ) → (leb m n || leb p q) ≡ true → (m ≤ n) ⊎ (p ≤ q)
either m n p q e = go (leb m n) refl e
  where
    go : (t : Bool) → leb m n ≡ t → (t || leb p q) ≡ true → (m ≤ n) ⊎ (p ≤ q)
    go true d e = inl (leb-true m n d)
    go false d e = inr (leb-true p q e)

in_row : (f : Field) → is_field f ≡ true → f.offset + f.width ≤ row_bytes
in_row f ok = leb-true _ row_bytes (both_left (leb (f.offset + f.width) row_bytes) (leb f.width 8) ok)

module _ (f : Field) (ok : is_field f ≡ true) where
  -- what is written is read back
  pub field_back : (g v : ℕ) (b : List ℕ) → length b ≡ record_bytes → g < most → v < 256 ^ f.width → field_in (with_field f g v b) f g ≡ v
  field_back g v b long l h =
      let few = leb-true _ 8 (both_right (leb (f.offset + f.width) row_bytes) (leb f.width 8) ok) in
      number_written b (place_of f g) f.width v (omega (arith, in_row f ok)) few h

  -- the count stays, and a field of row k does where it is another row's, or stands apart from the one that is written
  pub field_count : (g v : ℕ) (b : List ℕ) → count_in (with_field f g v b) ≡ count_in b
  field_count g v b = number_elsewhere b (place_of f g) f.width v 0 1 (inl (omega arith))

  module _ (h : Field) (okay : is_field h ≡ true) (g k : ℕ) (apart : k ≡ g → are_apart f h ≡ true) where
    order : (place_of h k + h.width ≤ place_of f g) ⊎ (place_of f g + f.width ≤ place_of h k)
    order = go (ltb k g) (ltb g k) refl refl
      where
        go : (p q : Bool) → ltb k g ≡ p → ltb g k ≡ q → (place_of h k + h.width ≤ place_of f g) ⊎ (place_of f g + f.width ≤ place_of h k)
        go true q d e = inl (omega (arith, ltb-true k g d, in_row f ok, in_row h okay))
        go false true d e = inr (omega (arith, ltb-true g k e, in_row f ok, in_row h okay))
        go false false d e =
            let same : k ≡ g = omega (arith, ltb-false k g d, ltb-false g k e) in
            ⊎_elim (λ (r : f.offset + f.width ≤ h.offset). inr (omega (arith, same))) (λ (r : h.offset + h.width ≤ f.offset). inl (omega (arith, same)))
            (either _ _ _ _ (apart same))

    pub field_elsewhere : (v : ℕ) (b : List ℕ) → field_in (with_field f g v b) h k ≡ field_in b h k
    field_elsewhere v b = number_elsewhere b (place_of f g) f.width v (place_of h k) h.width order

-- ---- rows
-- row k has the same in both
pub record SameRow (b c : List ℕ) (k : ℕ) : Type 0 where
  pub fields : (f : Field) → is_field f ≡ true → field_in c f k ≡ field_in b f k

module _ {b c : List ℕ} {k : ℕ} (same : SameRow b c k) where
  pub row_point : point_in c k ≡ point_in b k
  unfolding point_in
  row_point = λ i. record { x = signed (same.fields east_field refl i); y = signed (same.fields north_field refl i) }

  pub row_mark : mark_in c k ≡ mark_in b k
  unfolding mark_in
  row_mark = λ i. record { seen = same.fields seen_field refl i; peak = of_bits binary64 (same.fields peak_field refl i); step = same.fields step_field refl i }

abbrev pub mark : ℕ → Float → ℕ → Mark
mark seen peak step = record { seen = seen; peak = peak; step = step }

-- ---- a point that is written
module _ (g : ℕ) (q : Point) (b : List ℕ) where
  pub point_length : length (with_point g q b) ≡ length b
  unfolding with_point
  point_length = written_length _ _ _ _ ∙ written_length b _ _ _

  pub point_count : count_in (with_point g q b) ≡ count_in b
  unfolding with_point
  point_count = field_count north_field refl g _ _ ∙ field_count east_field refl g _ b

  pub point_other : (k : ℕ) → (k ≡ g → ⊥) → SameRow b (with_point g q b) k
  unfolding with_point
  point_other k n = record {
    fields = λ f ok. field_elsewhere north_field refl f ok g k (λ e. absurd (n e)) _ _ ∙ field_elsewhere east_field refl f ok g k (λ e. absurd (n e)) _ b;
  }

  pub point_back : length b ≡ record_bytes → g < most → SFits w32 q.x → SFits w32 q.y → point_in (with_point g q b) g ≡ q
  unfolding with_point point_in
  point_back long l hx hy =
      let before = field_back east_field refl g (unsigned q.x) b long l (unsigned_small q.x hx) in
      let east = field_elsewhere north_field refl east_field refl g g (λ _. refl) (unsigned q.y) _ ∙ before in
      let north = field_back north_field refl g (unsigned q.y) _ (written_length b _ _ _ ∙ long) l (unsigned_small q.y hy) in
      λ i. record { x = (ap signed east ∙ signed_back q.x hx) i; y = (ap signed north ∙ signed_back q.y hy) i }

-- ---- a mark that is written
module _ (g seen : ℕ) (peak : Float) (step : ℕ) (b : List ℕ) where
  pub mark_count : count_in (with_mark g seen peak step b) ≡ count_in b
  unfolding with_mark
  mark_count = field_count step_field refl g _ _ ∙ field_count peak_field refl g _ _ ∙ field_count seen_field refl g _ b

  module _ (f : Field) (ok : is_field f ≡ true) (k : ℕ) (apart : k ≡ g → (are_apart seen_field f && are_apart peak_field f && are_apart step_field f) ≡ true) where
    mark_elsewhere : field_in (with_mark g seen peak step b) f k ≡ field_in b f k
    unfolding with_mark
    mark_elsewhere =
        let s = are_apart seen_field f in
        let p = are_apart peak_field f in
        field_elsewhere step_field refl f ok g k (λ e. both_right (s && p) _ (apart e)) _ _
        ∙ field_elsewhere peak_field refl f ok g k (λ e. both_right s p (both_left (s && p) _ (apart e))) _ _
        ∙ field_elsewhere seen_field refl f ok g k (λ e. both_left s p (both_left (s && p) _ (apart e))) _ b

  pub mark_other : (k : ℕ) → (k ≡ g → ⊥) → SameRow b (with_mark g seen peak step b) k
  mark_other k n = record { fields = λ f ok. mark_elsewhere f ok k (λ e. absurd (n e)) }

  pub mark_point : (k : ℕ) → point_in (with_mark g seen peak step b) k ≡ point_in b k
  unfolding point_in
  mark_point k =
      λ i. record { x = signed (mark_elsewhere east_field refl k (λ _. refl) i); y = signed (mark_elsewhere north_field refl k (λ _. refl) i) }

  pub mark_back : length b ≡ record_bytes → g < most → seen < 256 → T (fits binary64 peak) → step < 2 ^ 32
      → mark_in (with_mark g seen peak step b) g ≡ mark seen peak step
  unfolding with_mark mark_in
  mark_back long l s p t =
      let one = with_field seen_field g seen b in
      let two = with_field peak_field g (to_bits binary64 peak) one in
      let long1 : length one ≡ record_bytes = written_length b _ _ _ ∙ long in
      let past : (f : Field) → is_field f ≡ true → are_apart step_field f ≡ true → field_in (with_field step_field g step two) f g ≡ field_in two f g =
      λ f ok a. field_elsewhere step_field refl f ok g g (λ _. a) step two in
      let first =
      past seen_field refl refl ∙ field_elsewhere peak_field refl seen_field refl g g (λ _. refl) _ one ∙ field_back seen_field refl g seen b long l s in
      let second = past peak_field refl refl ∙ field_back peak_field refl g _ one long1 l (pattern_fits peak p) in
      let third = field_back step_field refl g step two (written_length one _ _ _ ∙ long1) l t in
      λ i. record { seen = first i; peak = (ap (of_bits binary64) second ∙ float_back peak p) i; step = third i }

-- ---- a gauge that is added
rows_on : {b c d : List ℕ} {k : ℕ} → SameRow b c k → SameRow c d k → SameRow b d k
rows_on p q = record { fields = λ f ok. q.fields f ok ∙ p.fields f ok }

-- the count that is written
counted_row : (b : List ℕ) (v k : ℕ) → SameRow b (written_at b 0 1 v) k
counted_row b v k = record { fields = λ f ok. number_elsewhere b 0 1 v (place_of f k) f.width (inr (omega arith)) }

module _ (q : Point) (b : List ℕ) where
  abbrev pointed : List ℕ
  pointed = with_point (count_in b) q b

  abbrev unseen : List ℕ
  unseen = with_mark (count_in b) 0 plus0 0 pointed

  unseen_length : length unseen ≡ length b
  unseen_length = mark_length _ 0 plus0 0 pointed ∙ point_length _ q b

  pub added_length : length (added q b) ≡ length b
  unfolding added
  added_length = written_length unseen 0 1 _ ∙ unseen_length

  last_row : (k : ℕ) → SameRow unseen (added q b) k
  unfolding added
  last_row k = counted_row unseen (count_in b + 1) k

  pub added_other : (k : ℕ) → (k ≡ count_in b → ⊥) → SameRow b (added q b) k
  added_other k n = rows_on (point_other (count_in b) q b k n) (rows_on (mark_other (count_in b) 0 plus0 0 pointed k n) (last_row k))

  module _ (long : length b ≡ record_bytes) (l : count_in b < most) where
    pub added_count : count_in (added q b) ≡ suc (count_in b)
    unfolding added
    added_count = number_written unseen 0 1 (count_in b + 1) (omega (arith, unseen_length)) (lit≤ tt) (omega arith) ∙ add-one (count_in b)

    pub added_mark : mark_in (added q b) (count_in b) ≡ mark 0 plus0 0
    unfolding fits
    added_mark = row_mark (last_row (count_in b)) ∙ mark_back (count_in b) 0 plus0 0 pointed (point_length _ q b ∙ long) l (lit< tt) tt (lit< tt)

    pub added_point : SFits w32 q.x → SFits w32 q.y → point_in (added q b) (count_in b) ≡ q
    added_point hx hy = row_point (last_row (count_in b)) ∙ mark_point (count_in b) 0 plus0 0 pointed (count_in b) ∙ point_back (count_in b) q b long l hx hy

-- ---- a state that is noted
-- what a gauge's mark is then
abbrev pub noted_mark : Mark → Float → ℕ → Mark
noted_mark k level step = cond (keeps k level) k (mark 1 level step)

module _ (g : ℕ) (level : Float) (step : ℕ) (b : List ℕ) where
  -- what holds of the record and of the one with a mark anew
  noted_either : (P : List ℕ → Type 0) → P b → P (with_mark g 1 level step b) → P (noted g level step b)
  unfolding noted
  noted_either P p q = go (keeps (mark_in b g) level)
    where
      go : (c : Bool) → P (cond c b (with_mark g 1 level step b))
      go true = p
      go false = q

  pub noted_count : count_in (noted g level step b) ≡ count_in b
  noted_count = noted_either (λ c. count_in c ≡ count_in b) refl (mark_count g 1 level step b)

  pub noted_point : (k : ℕ) → point_in (noted g level step b) k ≡ point_in b k
  noted_point k = noted_either (λ c. point_in c k ≡ point_in b k) refl (mark_point g 1 level step b k)

  pub noted_other : (k : ℕ) → (k ≡ g → ⊥) → SameRow b (noted g level step b) k
  noted_other k n = noted_either (λ c. SameRow b c k) (record { fields = λ f ok. refl }) (mark_other g 1 level step b k n)

  pub noted_back : length b ≡ record_bytes → g < most → T (fits binary64 level) → step < 2 ^ 32 → mark_in (noted g level step b) g ≡ noted_mark (mark_in b g) level step
  unfolding noted
  noted_back long l p t = go (keeps (mark_in b g) level)
    where
      go : (c : Bool) → mark_in (cond c b (with_mark g 1 level step b)) g ≡ cond c (mark_in b g) (mark 1 level step)
      go true = refl
      go false = mark_back g 1 level step b long l (lit< tt) p t

module _ (level : ℕ → Float) (step : ℕ) (b : List ℕ) where
  pub all_count : (n : ℕ) → count_in (all_noted level step n b) ≡ count_in b
  unfolding all_noted
  all_count zero = refl
  all_count (suc n) = noted_count n (level n) step (all_noted level step n b) ∙ all_count n

  pub all_points : (n k : ℕ) → point_in (all_noted level step n b) k ≡ point_in b k
  unfolding all_noted
  all_points zero k = refl
  all_points (suc n) k = noted_point n (level n) step (all_noted level step n b) k ∙ all_points n k

  -- the rows from n on
  pub all_other : (n k : ℕ) → n ≤ k → SameRow b (all_noted level step n b) k
  unfolding all_noted
  all_other zero k l = record { fields = λ f ok. refl }
  all_other (suc n) k l = rows_on (all_other n k (omega arith)) (noted_other n (level n) step (all_noted level step n b) k (λ e. omega arith))

  module _ (long : length b ≡ record_bytes) (fit : (g : ℕ) → T (fits binary64 (level g))) (t : step < 2 ^ 32) where
    pub all_marks : (n k : ℕ) → n ≤ most → k < n → mark_in (all_noted level step n b) k ≡ noted_mark (mark_in b k) (level k) step
    unfolding all_noted
    all_marks zero k m l = absurd (not-suc-le-zero l)
    all_marks (suc n) k m l =
        let before = all_noted level step n b in
        ⊎_elim
        (λ (e : k ≡ n).
        rw e
        (noted_back n (level n) step before (all_length level step n b ∙ long) m (fit n) t
        ∙ ap (λ (x : Mark). noted_mark x (level n) step) (row_mark (all_other n n (le_refl n)))))
        (λ (less : k < n). row_mark (noted_other n (level n) step before k (λ e. omega arith)) ∙ all_marks n k (omega arith) less)
        (eq-or-lt_of_le (le_of_suc-le-suc l))

-- ---- row 43 accepts it again
pub seen_most : (b : List ℕ) → (row43 b).number ≡ 0 → (k : ℕ) → k < most → (mark_in b k).seen ≤ 1
unfolding row43 mark_in
seen_most b ok k l = leb-true _ 1 (row_passed _ 42 k (scan_clean _ most (then_rest _ _ ok) k l))

all_seen : (b : List ℕ) → length b ≡ record_bytes → count_in b ≤ most → ((k : ℕ) → k < most → (mark_in b k).seen ≤ 1) → (row43 b).number ≡ 0
unfolding mark_in
all_seen b long m h =
    let number : Answer → ℕ = λ a. a.number in
    ap number (row_by_row b long m ∙ scan_none _ most (λ k l. ap number (row_holds 43 k (le-leb _ 1 (h k l)))))

pub added_fine : (q : Point) (b : List ℕ) → (row43 b).number ≡ 0 → count_in b < most → (row43 (added q b)).number ≡ 0
added_fine q b ok l = all_seen (added q b) (added_length q b ∙ long) (rw (added_count q b long l) l) (λ k m. go k m (eqb k (count_in b)) refl)
  where
    long : length b ≡ record_bytes
    long = record_long b ok

    go : (k : ℕ) → k < most → (c : Bool) → eqb k (count_in b) ≡ c → (mark_in (added q b) k).seen ≤ 1
    go k m true e = rw (eqb-true k (count_in b) e, added_mark q b long l) (omega arith)
    go k m false e = rw (row_mark (added_other q b k (eqb-false k (count_in b) e))) (seen_most b ok k m)

pub all_fine : (level : ℕ → Float) (step n : ℕ) (b : List ℕ) → (row43 b).number ≡ 0 → ((g : ℕ) → T (fits binary64 (level g))) → step < 2 ^ 32 → n ≤ most
    → (row43 (all_noted level step n b)).number ≡ 0
all_fine level step n b ok fit t m =
    all_seen (all_noted level step n b) (all_length level step n b ∙ long) (rw (all_count level step b n) (count_most b ok)) (λ k l. go k l (ltb k n) refl)
  where
    long : length b ≡ record_bytes
    long = record_long b ok

    either_seen : (c : Bool) (x : Mark) (v : Float) → x.seen ≤ 1 → (cond c x (mark 1 v step)).seen ≤ 1
    either_seen true x v h = h
    either_seen false x v h = le_refl 1

    go : (k : ℕ) → k < most → (c : Bool) → ltb k n ≡ c → (mark_in (all_noted level step n b) k).seen ≤ 1
    go k l true e =
        rw (all_marks level step b long fit t n k m (ltb-true k n e))
        (either_seen (keeps (mark_in b k) (level k)) (mark_in b k) (level k) (seen_most b ok k l))
    go k l false e = rw (row_mark (all_other level step b n k (ltb-false k n e))) (seen_most b ok k l)

-- A line that is read field by field has exactly the fields that it is to have.
use Rattle.std.proofs.Common.{◌≡◌, ℕ, suc, ◌+◌, ◌<◌, ◌≤◌, Bool, true, false, ◌&&◌, eqb, List, [], ◌∷◌, length, get_or, drop, sym, refl, ap, ◌∙◌, arith, drop_of_length-le, drop-drop, eq-eqb, ne_eqb, eqb-true}
use borrow.Author.Tests.{eqb-false}
use Rattle.rows.proofs.ScanLaws.{both_left, both_right}
use Rattle.grids.specs.Text.{pieces_of, filled, fields_of, exactly}
use Rattle.grids.specs.Numbers.{number_of, starts_with, is_minus, unsigned, before_first, after_first, is_depth, is_short, size_of}
use Rattle.grids.specs.Grid.{count_tests, node_tests, is_three, triangle_tests}
use Rattle.grids.specs.Private.{unspaced, is_end, is_line_end, most, capped, GapSeen, present, first, its, Seen, NumberSeen, WholeSeen, DepthSeen, LineSeen, NoLine, CountsSeen, NodeSeen, TriangleSeen}
use Rattle.grids.specs.declared.scanning.Gap.{Gap}
use Rattle.grids.specs.declared.fields.Depth.{Depth}
use Rattle.grids.proofs.LeftLaws.{line_front}
use Rattle.grids.proofs.WordLaws.{spaces_fields, spaces_line, spaces_gone, word_more, word_none}

-- ---- the line's end
end_is : (u : List ℕ) → starts_with 32 u ≡ false → is_end u ≡ is_line_end u
unfolding starts_with is_end is_line_end
end_is [] s = refl
end_is (b ∷ t) s = rw s

no_more : (t : List ℕ) → is_line_end (unspaced t) ≡ exactly [] (fields_of (present t))
unfolding exactly
no_more t = go (is_line_end (unspaced t)) refl ∙ ap (exactly []) (sym (spaces_fields t))
  where
    is : is_end (unspaced t) ≡ is_line_end (unspaced t)
    is = end_is (unspaced t) (spaces_gone t)

    go : (c : Bool) → is_line_end (unspaced t) ≡ c → is_line_end (unspaced t) ≡ exactly [] (fields_of (present (unspaced t)))
    go true e = e ∙ ap (exactly []) (sym (word_none (unspaced t) (spaces_gone t) (is ∙ e)).0)
    go false e = e ∙ ap (exactly []) (sym (word_more (unspaced t) (is ∙ e)))

-- the line ends after its spaces: the next one starts after the byte there, and at the text's end nothing is left anyway
feed_past : (u : List ℕ) → is_line_end u ≡ true → drop 1 u ≡ after_first 10 u
unfolding is_line_end after_first
feed_past [] e = refl
feed_past (b ∷ t) e = rw e

module _ {text : List ℕ} {from : ℕ} {g : Gap} (gap : GapSeen text from g) where
  pub line_end : LineSeen [] (drop from text) (eqb g.stop 10) (drop (g.end + 1) text)
  line_end =
      let ends : eqb g.stop 10 ≡ is_line_end (drop g.end text) = ap (λ (b : ℕ). eqb b 10) gap.stop ∙ line_front (drop g.end text) in
      record {
        holds = ends ∙ ap is_line_end gap.left ∙ no_more (drop from text);
        after = λ f.
            sym (drop-drop 1 g.end text)
            ∙ feed_past (drop g.end text) (sym ends ∙ f)
            ∙ ap (after_first 10) gap.left
            ∙ sym (spaces_line (drop from text));
      }

-- ---- one field more
exactly_not : (is : List ℕ → Bool) (tests : List (List ℕ → Bool)) (fs : List (List ℕ)) → is (get_or fs 0 []) ≡ false → exactly (is ∷ tests) fs ≡ false
unfolding exactly
exactly_not is tests [] e = refl
exactly_not is tests (f ∷ fs) e = rw e

exactly_yes : (is : List ℕ → Bool) (tests : List (List ℕ → Bool)) (f : List ℕ) (fs : List (List ℕ)) → is f ≡ true
    → exactly tests fs ≡ exactly (is ∷ tests) (f ∷ fs)
unfolding exactly
exactly_yes is tests f fs e = rw e

module _ {is : List ℕ → Bool} {t : List ℕ} {fine : Bool} {rest : List ℕ} (s : Seen is t fine rest) where
  -- the other fields tell, where this one is what it is to be
  later : fine ≡ true → (tests : List (List ℕ → Bool)) {b : Bool} → b ≡ exactly tests (fields_of (present rest)) → b ≡ exactly (is ∷ tests) (fields_of (present t))
  later e tests o =
      o
      ∙ exactly_yes is tests (first t) (fields_of (present rest)) (sym s.holds ∙ e)
      ∙ ap (exactly (is ∷ tests)) (sym (s.fields e))

  pub not_here : fine ≡ false → (tests : List (List ℕ → Bool)) → false ≡ exactly (is ∷ tests) (fields_of (present t))
  not_here e tests = sym (exactly_not is tests (fields_of (present t)) (sym s.holds ∙ e))

  pub not_more : {others : Bool} → (fine && others) ≡ false → (tests : List (List ℕ → Bool)) → (others ≡ false → false ≡ exactly tests (fields_of (present rest)))
      → false ≡ exactly (is ∷ tests) (fields_of (present t))
  not_more {others} off tests h = go fine refl
    where
      go : (c : Bool) → fine ≡ c → false ≡ exactly (is ∷ tests) (fields_of (present t))
      go true e = later e tests (h (rw e at off))
      go false e = not_here e tests

  line_on : fine ≡ true → {tests : List (List ℕ → Bool)} {others : Bool} {next : List ℕ} → LineSeen tests rest others next → LineSeen (is ∷ tests) t others next
  line_on e {tests} l = record { holds = later e tests l.holds; after = λ f. l.after f ∙ s.line e }

  pub line_more : {tests : List (List ℕ → Bool)} {others : Bool} {next : List ℕ} → LineSeen tests rest others next → LineSeen (is ∷ tests) t (fine && others) next
  line_more {tests} {others} {next} l = record {
    holds = go fine refl;
    after = λ f. l.after (both_right fine others f) ∙ s.line (both_left fine others f);
  }
    where
      go : (c : Bool) → fine ≡ c → (fine && others) ≡ exactly (is ∷ tests) (fields_of (present t))
      go true e = ap (λ (b : Bool). b && others) e ∙ later e tests l.holds
      go false e = ap (λ (b : Bool). b && others) e ∙ not_here e tests

  -- the fields that follow are those of what is left
  its_more : fine ≡ true → (k : ℕ) → its t (suc k) ≡ its rest k
  its_more f k = ap (λ (fs : List (List ℕ)). get_or fs (suc k) []) (s.fields f)

-- at the text's end there is no field
pub not_there : (text : List ℕ) (from : ℕ) → length text ≤ from → (is : List ℕ → Bool) (tests : List (List ℕ → Bool))
    → false ≡ exactly (is ∷ tests) (fields_of (present (drop from text)))
unfolding exactly before_first pieces_of filled
not_there text from l is tests = rw (drop_of_length-le text l)

-- ---- numbers up to the limit compare as they are
pub capped_is : (v k : ℕ) → k < most → eqb (capped v) k ≡ eqb v k
capped_is v k l = go (eqb v k) refl
  where
    go : (c : Bool) → eqb v k ≡ c → eqb (capped v) k ≡ eqb v k
    go true e = eq-eqb (capped v) k (omega (arith, eqb-true v k e)) ∙ sym e
    go false e = ne_eqb (capped v) k (λ p. eqb-false v k e (omega (arith, p))) ∙ sym e

pub three_seen : {t : List ℕ} {fine : Bool} {value : ℕ} {rest : List ℕ} → NumberSeen t fine value rest → Seen is_three t (fine && eqb value 3) rest
three_seen {t} {fine} {value} {rest} n = record {
  holds = go fine refl;
  fields = λ f. n.seen.fields (both_left fine (eqb value 3) f);
  line = λ f. n.seen.line (both_left fine (eqb value 3) f);
}
  where
    go : (c : Bool) → fine ≡ c → (fine && eqb value 3) ≡ is_three (first t)
    go true e =
        rw (← n.seen.holds) (ap (λ (b : Bool). fine && b) (ap (λ (v : ℕ). eqb v 3) (n.value_is e) ∙ capped_is (number_of (first t)) 3 (omega arith)))
    go false e = rw (← n.seen.holds, e)

-- ---- the three kinds of line, each from its fields and its end
abbrev numbered : List ℕ → ℕ
numbered f = capped (number_of f)

module _ {t l m : List ℕ} {e n : ℕ} {e-fine n-fine : Bool} (first : NumberSeen t e-fine e l) (second : NumberSeen l n-fine n m) {ends : Bool} {next : List ℕ}
    (end : LineSeen [] m ends next) where
  counts_fields : LineSeen count_tests t (e-fine && (n-fine && ends)) next
  counts_fields = line_more first.seen (line_more second.seen end)

  pub counts_none : (e-fine && (n-fine && ends)) ≡ false → NoLine count_tests t
  counts_none off = sym off ∙ counts_fields.holds

  pub counts_line : (e-fine && (n-fine && ends)) ≡ true → (at : ℕ) → CountsSeen t (record { e = e; n = n; next = at }) next
  counts_line f at =
      let e-is = both_left e-fine (n-fine && ends) f in
      record {
        seen = rw f at counts_fields;
        e = first.value_is e-is;
        n = second.value_is (both_left n-fine ends (both_right e-fine (n-fine && ends) f)) ∙ ap numbered (sym (its_more first.seen e-is 0));
      }

module _ {t r₁ r₂ r₃ : List ℕ} {n x y : ℕ} {n-fine x-fine x_minus y-fine y_minus : Bool} (n_seen : NumberSeen t n-fine n r₁) (n-is : n-fine ≡ true)
    (x_seen : WholeSeen r₁ x-fine x_minus x r₂) (x-is : x-fine ≡ true) (y_seen : WholeSeen r₂ y-fine y_minus y r₃) (y-is : y-fine ≡ true) where
  node_second : first r₁ ≡ its t 1
  node_second = sym (its_more n_seen.seen n-is 0)

  node_third : first r₂ ≡ its t 2
  node_third = sym (its_more n_seen.seen n-is 1 ∙ its_more x_seen.seen x-is 0)

  node_fourth : first r₃ ≡ its t 3
  node_fourth = sym (its_more n_seen.seen n-is 2 ∙ its_more x_seen.seen x-is 1 ∙ its_more y_seen.seen y-is 0)

  pub no_depth_there : false ≡ is_depth (first r₃) → NoLine node_tests t
  no_depth_there off =
      let out = sym (exactly_not is_depth [] (fields_of (present r₃)) (sym off)) in
      later n_seen.seen n-is _ (later x_seen.seen x-is _ (later y_seen.seen y-is _ out))

  module _ {h : Depth} {r₄ : List ℕ} (h-seen : DepthSeen r₃ h r₄) {ends : Bool} {next : List ℕ} (end : LineSeen [] r₄ ends next) where
    node_fields : LineSeen node_tests t ends next
    node_fields = line_on n_seen.seen n-is (line_on x_seen.seen x-is (line_on y_seen.seen y-is (line_on h-seen.seen refl end)))

    pub node_none : ends ≡ false → NoLine node_tests t
    node_none off = sym off ∙ node_fields.holds

    pub node_line_lem : ends ≡ true → (at : ℕ)
        → NodeSeen t (record { number = n; x = record { minus = x_minus; size = x }; y = record { minus = y_minus; size = y }; h = h; next = at }) next
    node_line_lem f at = record {
      seen = rw f at node_fields;
      number = n_seen.value_is n-is;
      x_minus = x_seen.minus_is x-is ∙ ap is_minus node_second;
      x_size = x_seen.size_is x-is ∙ ap (λ (g : List ℕ). numbered (unsigned g)) node_second;
      y_minus = y_seen.minus_is y-is ∙ ap is_minus node_third;
      y_size = y_seen.size_is y-is ∙ ap (λ (g : List ℕ). numbered (unsigned g)) node_third;
      h_minus = h-seen.minus ∙ ap is_minus node_fourth;
      h_short = h-seen.short ∙ ap is_short node_fourth;
      h_size = λ s. h-seen.size s ∙ ap size_of node_fourth;
      h_small = h-seen.small;
    }

module _ {t r₁ r₂ r₃ r₄ : List ℕ} {n k p q : ℕ} {n-fine k-fine p-fine q-fine : Bool} (n_seen : NumberSeen t n-fine n r₁) (n-is : n-fine ≡ true)
    (k_seen : NumberSeen r₁ k-fine k r₂) (k-is : (k-fine && eqb k 3) ≡ true) (p-seen : NumberSeen r₂ p-fine p r₃) (q-seen : NumberSeen r₃ q-fine q r₄) where
  pub corners_none : (p-fine && q-fine) ≡ false → NoLine triangle_tests t
  corners_none off =
      later n_seen.seen n-is _ (later (three_seen k_seen) k-is _ (not_more p-seen.seen off _ (λ f. not_here q-seen.seen f _)))

  -- the field j places after the third
  triangle_its : (j : ℕ) → its r₂ j ≡ its t (suc (suc j))
  triangle_its j = sym (its_more n_seen.seen n-is (suc j) ∙ its_more (three_seen k_seen) k-is j)

  module _ (both : (p-fine && q-fine) ≡ true) {r : ℕ} {r-fine : Bool} {r₅ : List ℕ} (r-seen : NumberSeen r₄ r-fine r r₅) {ends : Bool} {next : List ℕ}
      (end : LineSeen [] r₅ ends next) where
    p_is : p-fine ≡ true
    p_is = both_left p-fine q-fine both

    q_is : q-fine ≡ true
    q_is = both_right p-fine q-fine both

    triangle_fields : LineSeen triangle_tests t (r-fine && ends) next
    triangle_fields =
        line_on n_seen.seen n-is (line_on (three_seen k_seen) k-is (line_on p-seen.seen p_is (line_on q-seen.seen q_is (line_more r-seen.seen end))))

    pub triangle_none : (r-fine && ends) ≡ false → NoLine triangle_tests t
    triangle_none off = sym off ∙ triangle_fields.holds

    pub triangle_line_lem : (r-fine && ends) ≡ true → (at : ℕ) → TriangleSeen t (record { first = p; number = n; second = q; next = at; third = r }) next
    triangle_line_lem f at = record {
      seen = rw f at triangle_fields;
      number = n_seen.value_is n-is;
      first = p-seen.value_is p_is ∙ ap numbered (triangle_its 0);
      second = q-seen.value_is q_is ∙ ap numbered (sym (its_more p-seen.seen p_is 0) ∙ triangle_its 1);
      third =
          r-seen.value_is (both_left r-fine ends f)
          ∙ ap numbered (sym (its_more p-seen.seen p_is 1 ∙ its_more q-seen.seen q_is 0) ∙ triangle_its 2);
    }

-- What is seen in a mesh and a state that are lent as bytes: their lengths, their elements, and what a call goes on with.
use Prim.Native.Nat.{ℕ, ◌-◌, ◌/◌, ◌≤◌, ◌<◌}
use mathlib.Core.Path.{◌≡◌, refl, sym, ap, ◌∙◌}
use mathlib.Core.Bool.{Bool, true, false, cond}
use mathlib.Core.List.{List}
use native.Mathlib.Nat.{sub-zero, le_trans}
use native.Mathlib.Omega.{arith}
use borrow.Author.Tests.{eq-eqb, ne_eqb, lt-ltb}
use lib.Dec.{eqb}
use lib.ListN.{length, take, drop, get_or}
use lib.Seq.{take_all, take-append_seam}
use Rattle.std.specs.Prelude.{Option, Some, None, is_some, Ok, Err}
use lib.Ieee.{Float, nan, binary64, of_bits}
use Rattle.rows.specs.declared.Answer.{Answer}
use Rattle.rows.specs.Numbers.{plus0}
use Rattle.rows.specs.declared.Refusal.{Refusal}
use Rattle.rows.specs.Scan.{accepted, ◌then◌}
use Rattle.rows.specs.Refusals.{answered}
use Rattle.rows.proofs.ScanLaws.{then_first, then_rest, stops}
use Rattle.lists.specs.Table.{copied}
use Rattle.lists.proofs.TableLaws.{length_table, get_d_table}
use Rattle.mesh.specs.Lent.{N, E}
use Rattle.mesh.specs.Rows.{size_rows}
use Rattle.mesh.proofs.RowLaws.{sizes_of, lent_first_lem}
use Rattle.mesh.proofs.ShapedLaws.{lent_sized}
use Rattle.nodes.specs.Rows.{mesh_rows}
use Rattle.bounds.specs.State.{row1_state, run_rows}
use Rattle.bounds.proofs.StateLaws.{long_state, accepted_run}
use Rattle.crossing.specs.Crossing.{signed, elements}
use Rattle.location.specs.declared.Points.{Points}
use Rattle.location.specs.declared.seeking.Point.{Point}
use Rattle.location.specs.declared.seeking.Sighting.{Sighting}
use Rattle.location.specs.Location.{triangle_of, sighted}
use Rattle.location.specs.Survey.{Sightings, most, present, point_of, seen, unseen, survey_of}
use Rattle.location.proofs.LowestLaws.{lowest_most}
use Rattle.location.proofs.SightLaws.{seen_outside, survey_refused, survey_accepted}
use Rattle.looking.specs.declared.Sight as code
use Rattle.looking.specs.Lent.{Lent, mesh_in, state_in, row1_bytes, lent_rows}
use Rattle.looking.specs.Looking.{Sight, found_in, look_of, is_on, triangle_at, level_at, sight_of}
use Rattle.looking.specs.Private.{Sizes}

-- ---- the elements of a slice
pub elements_length : {A : Type 0} (w : ℕ) (f : ℕ → A) (b : List ℕ) → length (elements w f b) ≡ length b / w
unfolding elements
elements_length w f b = length_table (length b / w) _

-- an array of full size that was filled with the elements of a slice has them in front
pub part_whole : {A : Type 0} (w : ℕ) (f : ℕ → A) (b : List ℕ) (to : List A) {filled : List A} → filled ≡ copied (elements w f b) to → length b / w ≤ length to
    → take (length b / w - 0) (drop 0 filled) ≡ elements w f b
unfolding copied
part_whole w f b to e h =
    let l = elements w f b in
    let n = elements_length w f b in
    rw (e, sub-zero, ← n, take_all (length to) l (omega (arith, n, h))) (take-append_seam l (drop (length l) to))

-- ---- rows 1 and 2 of the lengths
module _ (b : Lent) where
  -- what is asked before rows 1 and 2
  abbrev before : Answer
  before = row1_bytes b then row1_state (mesh_in b) (state_in b)

  abbrev pub sizes_in : Answer
  sizes_in = size_rows before (N (mesh_in b)) (length (mesh_in b).y) (length (mesh_in b).tri) (length (mesh_in b).h) (length (mesh_in b).kind)

  pub sizes_stop : {a : Answer} (ps : Points) → a ≡ sizes_in → (a.number ≡ 0 → ⊥) → unseen a ≡ look_of b ps
  unfolding look_of run_rows mesh_rows
  sizes_stop ps e h =
      let shape = stops _ (e ∙ sizes_of before (mesh_in b)) h ∙ lent_first_lem before (mesh_in b) in
      survey_refused _ _ _ _ _ (stops _ (stops _ shape h) h) h

  pub sizes_fit : sizes_in.number ≡ 0 → Sizes b 4096 4096 24576 4096 24576
  sizes_fit ok =
      let e = ap (λ (r : Answer). r.number) (sym (sizes_of before (mesh_in b))) ∙ ok in
      let s = lent_sized before (mesh_in b) e in
      let long = long_state (mesh_in b) (state_in b) (then_rest (row1_bytes b) _ (then_first before _ e)) in
      let nx = elements_length 4 signed b.x in
      let ny = elements_length 4 signed b.y in
      let nt = elements_length 2 (λ n. n) b.tri in
      let nh = elements_length 8 (of_bits binary64) b.h in
      let ns = elements_length 8 (of_bits binary64) b.state in
      record {
        holds_x = omega (arith, nx, s.most_nodes);
        holds_y = omega (arith, nx, ny, s.y, s.most_nodes);
        holds_tri = omega (arith, nt, s.tri, s.most_triangles);
        holds_h = omega (arith, nx, nh, s.h, s.most_nodes);
        holds_state = omega (arith, nx, ns, long, s.most_nodes);
      }

-- ---- what is seen at several points
module _ (b : Lent) (ps : Points) {s : Sightings} (e : s ≡ look_of b ps) where
  pub look_answer : s.answer ≡ lent_rows b
  unfolding look_of lent_rows survey_of seen unseen
  look_answer = ap (λ (v : Sightings). v.answer) e ∙ go (eqb (lent_rows b).number 0)
    where
      go : (c : Bool) → (cond c (seen (lent_rows b) (mesh_in b) (state_in b) ps) (unseen (lent_rows b))).answer ≡ lent_rows b
      go true = refl
      go false = refl

  module _ (ok : s.answer.number ≡ 0) (g : ℕ) (few : g < ps.count) (l : g < most) where
    its : s ≡ seen (lent_rows b) (mesh_in b) (state_in b) ps
    unfolding look_of lent_rows
    its = e ∙ sym (survey_accepted _ _ _ _ ps refl (ap (λ (a : Answer). a.number) (sym look_answer) ∙ ok))

    pub triangle_seen : get_or s.triangle g 0 ≡ triangle_at b (point_of ps g)
    unfolding seen
    triangle_seen = ap (λ (v : Sightings). get_or v.triangle g 0) its ∙ get_d_table most _ g 0 l ∙ rw (lt-ltb g ps.count few)

    pub level_seen : get_or s.level g nan ≡ level_at b (point_of ps g)
    unfolding seen
    level_seen = ap (λ (v : Sightings). get_or v.level g nan) its ∙ get_d_table most _ g nan l ∙ rw (lt-ltb g ps.count few)

-- ---- what is seen at one point
module _ (b : Lent) (q : Point) where
  abbrev sight : Answer → ℕ → Bool → Float → Sight
  sight a t inside level = record { answer = a; triangle = t; inside = inside; level = level }

  abbrev by : Answer → Bool → Sight
  by a c = cond c (sight a (triangle_at b q) (is_on b q) (level_at b q)) (sight a 0 false plus0)

  pub sight_refused : {a : Answer} → a ≡ lent_rows b → (a.number ≡ 0 → ⊥) → sight a 0 false plus0 ≡ sight_of b q
  unfolding sight_of
  sight_refused {a} e h = ap (by a) (sym (ne_eqb a.number 0 h)) ∙ ap (λ (r : Answer). by r (eqb r.number 0)) e

  pub sight_accepted : {a : Answer} {t : ℕ} {inside : Bool} {level : Float} → a ≡ lent_rows b → a.number ≡ 0 → t ≡ triangle_at b q → inside ≡ is_on b q → level ≡ level_at b q
      → sight a t inside level ≡ sight_of b q
  unfolding sight_of
  sight_accepted {a} e h et ei el =
      (λ i. sight a (et i) (ei i) (el i)) ∙ ap (by a) (sym (eq-eqb a.number 0 h)) ∙ ap (λ (r : Answer). by r (eqb r.number 0)) e

  -- where no triangle contains the point
  pub off_found : is_on b q ≡ false → (E (mesh_in b) ≡ triangle_at b q) × (plus0 ≡ level_at b q)
  unfolding sighted
  off_found h =
      let s = seen_outside _ _ _ q (present (mesh_in b) (state_in b)) h in
      (ap (λ (v : Sighting). v.triangle) s, ap (λ (v : Sighting). v.level) s)

  -- fewer than a 32-bit number holds
  pub few_triangles : (lent_rows b).number ≡ 0 → triangle_at b q ≤ 8192
  unfolding lent_rows triangle_of
  few_triangles ok =
      let a = accepted_run (row1_bytes b) (mesh_in b) b.p (state_in b) ok in
      le_trans (lowest_most _ (E (mesh_in b))) a.shape.sized.most_triangles

  module _ {s : Sight} (e : s ≡ sight_of b q) where
    pub sight_answer : s.answer ≡ lent_rows b
    unfolding sight_of
    sight_answer = ap (λ (v : Sight). v.answer) e ∙ go (eqb (lent_rows b).number 0)
      where
        go : (c : Bool) → (by (lent_rows b) c).answer ≡ lent_rows b
        go true = refl
        go false = refl

    pub sight_found : (lent_rows b).number ≡ 0 → s ≡ sight (lent_rows b) (triangle_at b q) (is_on b q) (level_at b q)
    unfolding sight_of
    sight_found ok = e ∙ ap (by (lent_rows b)) (eq-eqb (lent_rows b).number 0 ok)

-- ---- what a call that looks at one point hands back
module _ (b : Lent) (q : Point) where
  found_answer : (o : Option code.Sight) → (found_in b (Ok o)).answer ≡ accepted
  found_answer (Some _) = refl
  found_answer None = refl

  pub look_refuses : (x : Refusal) → found_in b (Err x) ≡ sight_of b q → answered (Err x) ≡ lent_rows b
  look_refuses x e = sight_answer b q e

  pub look_accepts : (o : Option code.Sight) → found_in b (Ok o) ≡ sight_of b q → accepted ≡ lent_rows b
  look_accepts o e = sym (found_answer o) ∙ sight_answer b q e

  found_all : (o : Option code.Sight) → found_in b (Ok o) ≡ sight_of b q → found_in b (Ok o) ≡ sight b q (lent_rows b) (triangle_at b q) (is_on b q) (level_at b q)
  found_all o e = sight_found b q e (ap (λ (a : Answer). a.number) (sym (look_accepts o e)))

  pub look_on : (o : Option code.Sight) → found_in b (Ok o) ≡ sight_of b q → is_some o ≡ is_on b q
  look_on (Some s) e = ap (λ (v : Sight). v.inside) (found_all (Some s) e)
  look_on None e = ap (λ (v : Sight). v.inside) (found_all None e)

  pub look_triangle : (s : code.Sight) → found_in b (Ok (Some s)) ≡ sight_of b q → s.triangle ≡ triangle_at b q
  look_triangle s e = ap (λ (v : Sight). v.triangle) (found_all (Some s) e)

  pub look_level : (s : code.Sight) → found_in b (Ok (Some s)) ≡ sight_of b q → s.level ≡ level_at b q
  look_level s e = ap (λ (v : Sight). v.level) (found_all (Some s) e)

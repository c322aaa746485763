-- How a turn of each pass of a step takes the work room on, and what the room is before the first turn and after the last.
use Prim.Native.Nat.{ℕ, ◌+◌, ◌*◌, ◌^◌, ◌<◌, ◌≤◌}
use mathlib.Core.Path.{◌≡◌, refl, sym, ap, ◌∙◌}
use mathlib.Core.List.{List, [], ◌∷◌}
use mathlib.Core.Bool.{Bool, true, false, cond}
use native.Mathlib.Nat.{mul-le-mul_right}
use native.Mathlib.Omega.{arith}
use borrow.Author.Tests.{ltb-true, ltb-false}
use lib.Dec.{T, leb, ltb, lit<, lit≤}
use lib.ListN.{get_or, set, get_or-eq_default}
use lib.IntN.{pos, nat_abs}
use lib.Ieee.{Float, nan, binary64, of_int}
use mir.Syntax.{w64}
use mir.Facts.{Fits-le}
use mir.Val
use Rattle.lists.specs.Table.{table}
use Rattle.lists.specs.Runs.{in_run, runs_of}
use Rattle.lists.specs.Gather.{Three, alike, whole, gathered}
use Rattle.lists.specs.Private.{past, Below, spread}
use Rattle.rows.specs.Scan.{scan}
use Rattle.rows.proofs.ScanLaws.{scan_same}
use Rattle.lists.proofs.TableLaws.{length_table, get_d_table}
use Rattle.lists.proofs.RunLaws.{in_runs, run_read, run_same, run_turn, turned, turn_none, turn_here, turn_all}
use Rattle.lists.proofs.GatherLaws.{gather_more, gather_run, gathered_le}
use Rattle.quantities.specs.declared.Node.{Node}
use Rattle.quantities.specs.declared.Flow.{Flow}
use Rattle.quantities.specs.declared.Sides.{Sides}
use Rattle.quantities.specs.declared.Shares.{Shares}
use Rattle.quantities.specs.Operations.{◌⊕◌, less_if}
use Rattle.triangle.specs.declared.Means.{Means}
use Rattle.triangle.specs.Triangle.{slope, means, advection}
use Rattle.elevation.specs.Elevation.{shares, rise_of}
use Rattle.geometry.specs.declared.Places.{Places}
use Rattle.geometry.specs.declared.Corners.{Corners}
use Rattle.geometry.specs.declared.WholeSides.{WholeSides}
use Rattle.geometry.specs.Geometry.{all_near, D, floats, sides_at, nodes_of}
use Rattle.mesh.specs.Lent.{E}
use Rattle.mesh.specs.Geometry.{places_of, sides, area}
use Rattle.mesh.specs.Private.{Sound}
use Rattle.mesh.proofs.SideLaws.{sides_read}
use Rattle.passes.specs.declared.velocities.Slope.{Slope}
use Rattle.velocity.specs.Velocity.{H, H', r, p, m, q, gx, gy, wx, wy, n, Rx, Ry, U' as flowU', V' as flowV', flow, flow_of, push_of}
use Rattle.passes.specs.Equations.{Given, count, node, new_wind, kind_of, corners_of, floats_at, floating, three_of, means_at, shares_at, R, S, float_s, rise, both, slope_x, slope_y, Px, Py, advection_u, advection_v, Au, Av, push_at, flow_at, U', V'}
use Rattle.outcomes.specs.Outcomes.{rise_row, flow_row}
use Rattle.passes.specs.Row13.{rise_rows, flow_rows}
use Rattle.passes.specs.Settle.{work_runs}
use Rattle.passes.specs.Private.{Fits, zero, if_on, advected, clear_room, sum_room, rise_room, slope_room, flow_room, both_of, slope_of, spread_both}

-- ---- the work room while a pass is made: the triangles below t, or the nodes below i, are done
module _ (g : Given) where
  abbrev pub advected_to : ℕ → List (ℕ → Float)
  advected_to t = if_on g (gathered floating (corners_of g) (advection_u g) t) ∷ if_on g (gathered floating (corners_of g) (advection_v g) t) ∷ []

  abbrev pub sums_to : ℕ → List Float
  sums_to t = runs_of (count g) (gathered floating (corners_of g) (shares_at g) t ∷ zero ∷ zero ∷ advected_to t)

  abbrev pub rises_to : ℕ → List Float
  rises_to i = runs_of (count g) (turned i (rise g) (R g) ∷ zero ∷ zero ∷ advected g)

  abbrev pub slopes_to : ℕ → List Float
  slopes_to t = runs_of (count g) (rise g ∷ gathered floating (corners_of g) (slope_x g) t ∷ gathered floating (corners_of g) (slope_y g) t ∷ advected g)

  abbrev pub flows_to : ℕ → List Float
  flows_to i = runs_of (count g) (rise g ∷ turned i (U' g) (Px g) ∷ turned i (V' g) (Py g) ∷ advected g)

  abbrev pub areas : ℕ → Three ℕ
  areas t = alike (area g.mesh.x g.mesh.y g.mesh.tri t)

  -- the sums S over the triangles below t
  abbrev pub S_to : ℕ → ℕ → ℕ
  S_to t = gathered whole (corners_of g) areas t

-- a triangle's corners in run k of several
pub in_run_lem : {c : Three ℕ} {n : ℕ} (k m : ℕ) → k < m → Below c n → Below (past (k * n) c) (m * n)
in_run_lem {c} {n} k m h b = record {
  first = in_runs n k m c.first h b.first;
  second = in_runs n k m c.second h b.second;
  third = in_runs n k m c.third h b.third;
}

-- ---- what the code asks at a place and at the end of a turn, as laws over variables: a `search` or an `omega` at the place itself goes through all that
-- is known there
-- place i of run k, of m runs of n in a room that is as long as it was lent: its numbers do not wrap, and it is within the room
pub record Place (k n i here : ℕ) : Type 0 where
  pub run : mir.Val.Fits w64 (k * n)
  pub at : mir.Val.Fits w64 (k * n + i)
  pub bytes : mir.Val.Fits w64 ((k * n + i) * 8)
  pub within : k * n + i < here

pub place : {n i here lent : ℕ} (k m : ℕ) → T (ltb k m) → i < n → here ≡ m * n → here ≡ lent → lent * 8 < 2 ^ 63 → Place k n i here
place {n} {i} k m h l long same bytes =
    let w = in_runs n k m i (lit< h) l in record {
      run = record { fits = omega arith };
      at = record { fits = omega arith };
      bytes = record { fits = omega arith };
      within = omega arith;
    }

-- after turn i of n
pub record Turned (n i : ℕ) : Type 0 where
  pub next : i + 1 ≤ n
  pub fits : mir.Val.Fits w64 (i + 1)

pub turn : {n i : ℕ} → i < n → n < 2 ^ 64 → Turned n i
turn h l = record { next = omega arith; fits = record { fits = omega arith } }

-- where a run starts
pub run_fits : {n : ℕ} (k : ℕ) → T (leb k work_runs) → n ≤ 4096 → mir.Val.Fits w64 (k * n)
run_fits {n} k h l = Fits-le (mul-le-mul_right n (lit≤ h)) (record { fits = omega arith })

module _ (g : Given) (z : Fits g) where
  -- ---- triangle t, as it is read
  module _ (t : ℕ) (h : t < E g.mesh) where
    pub sound : Sound g.mesh.x g.mesh.y g.mesh.tri t
    sound = z.shape.triangles t h

    module _ {c : Corners} (ec : nodes_of c ≡ corners_of g t) where
      pub inside : Below (nodes_of c) (count g)
      inside = rw ec sound.nodes

      module _ {q : Places} (eq : q ≡ places_of g.mesh.x g.mesh.y (nodes_of c)) {whole : WholeSides} (ew : whole ≡ sides_at q) where
        its_sides : whole ≡ sides g.mesh.x g.mesh.y (corners_of g t)
        its_sides = ew ∙ sides_read g.mesh.x g.mesh.y q (nodes_of c) (corners_of g t) eq ec

        pub its_near : all_near whole ≡ true
        its_near = rw its_sides sound.small

        pub its_turn : D whole ≡ pos (nat_abs (D whole))
        unfolding area
        its_turn = rw its_sides sound.turns

        pub its_floats : {s : Sides} → s ≡ floats whole → s ≡ floats_at g t
        its_floats es = es ∙ ap floats its_sides

        pub its_area : {d : ℕ} → d ≡ nat_abs (D whole) → alike d ≡ areas g t
        unfolding area
        its_area ed = ap alike (ed ∙ ap (λ (s : WholeSides). nat_abs (D s)) its_sides)

      -- its record, and what its corners receive
      module _ {s : Sides} {m : Means} (es : s ≡ floats_at g t) (em : m ≡ means (node g c.n1) (node g c.n2) (node g c.n3) s) where
        pub its_means : m ≡ means_at g t
        unfolding means_at
        its_means =
            em
            ∙ (λ i.
            let k = ec i in
            means (node g k.first) (node g k.second) (node g k.third) (es i))

        pub its_shares : {v : Shares} → v ≡ shares (less_if g.p.advection) g.p m s → three_of v ≡ shares_at g t
        unfolding shares_at
        its_shares ev = ap three_of ev ∙ (λ i. three_of (shares (sym z.setting i) g.p (its_means i) (es i)))

    -- z + z' of a corner, and what the triangle adds to Px and to Py
    both_read : {work : List Float} (fs : List (ℕ → Float)) (i : ℕ) → i < count g → work ≡ runs_of (count g) (rise g ∷ fs)
        → both_of (count g) g.state work i ≡ both g i
    both_read fs i l e = ap (λ (v : Float). (node g i).z ⊕ v) (ap (λ (w : List Float). in_run (count g) 0 w i) e ∙ run_read (count g) (rise g ∷ fs) 0 i nan (omega arith) l)

    its_slope : {work : List Float} (fs : List (ℕ → Float)) {c : Three ℕ} {s : Sides} {v : Slope} → work ≡ runs_of (count g) (rise g ∷ fs)
        → c ≡ corners_of g t → s ≡ floats_at g t → v ≡ slope_of (count g) g.state work c s
        → (alike v.x ≡ slope_x g t) × (alike v.y ≡ slope_y g t)
    unfolding slope_of slope_x slope_y
    its_slope {work = work} fs {v = v} ew ec es ev =
        let b = sound.nodes in
        let l = floats_at g t in
        let k = corners_of g t in
        let q : v ≡ slope_of (count g) g.state work k l = ev ∙ (λ i. slope_of (count g) g.state work (ec i) (es i)) in (
          ap (λ (u : Slope). alike u.x) q
              ∙ (λ j. alike (slope (both_read fs k.first b.first ew j) (both_read fs k.second b.second ew j) (both_read fs k.third b.third ew j) l.b1 l.b2 l.b3)),
          ap (λ (u : Slope). alike u.y) q
              ∙ (λ j. alike (slope (both_read fs k.first b.first ew j) (both_read fs k.second b.second ew j) (both_read fs k.third b.third ew j) l.a1 l.a2 l.a3)),
        )

    -- Au and Av, at either setting
    module _ (r : ℕ → Float) where
      abbrev room : Bool → ℕ → List Float
      room on k =
          runs_of (count g) (r ∷ zero ∷ zero ∷ cond on (gathered floating (corners_of g) (advection_u g) k) zero ∷ cond on (gathered floating (corners_of g) (advection_v g) k) zero ∷ [])

      advection_more : (on : Bool) → cond on (spread_both (count g) (corners_of g t) (advection (means_at g t)) (room on t)) (room on t) ≡ room on (t + 1)
      unfolding spread_both advection_u advection_v
      advection_more false = refl
      advection_more true =
          let au = gathered floating (corners_of g) (advection_u g) in
          let av = gathered floating (corners_of g) (advection_v g) in
          ap (spread floating nan (past (4 * count g) (corners_of g t)) (advection_v g t)) (gather_run floating nan (count g) (r ∷ zero ∷ zero ∷ zero ∷ av t ∷ []) 3 (lit< tt) (corners_of g) (advection_u g) t sound.nodes)
          ∙ gather_run floating nan (count g) (r ∷ zero ∷ zero ∷ au (t + 1) ∷ zero ∷ []) 4 (lit< tt) (corners_of g) (advection_v g) t sound.nodes

    -- ---- a turn of a pass over the triangles
    module _ {c : Three ℕ} (ec : c ≡ corners_of g t) where
      pub sum_more : {v : Three Float} {m : Means} {work : List Float} → v ≡ shares_at g t → m ≡ means_at g t → work ≡ sums_to g t
          → spread floating nan (past (0 * count g) c) v (cond g.p.advection (spread_both (count g) c (advection m) work) work) ≡ sums_to g (t + 1)
      sum_more {v} {m} {work} ev em ew =
          let r = gathered floating (corners_of g) (shares_at g) in
          let both : cond g.p.advection (spread_both (count g) c (advection m) work) work ≡ runs_of (count g) (r t ∷ zero ∷ zero ∷ advected_to g (t + 1)) =
          (λ i. cond g.p.advection (spread_both (count g) (ec i) (advection (em i)) (ew i)) (ew i)) ∙ advection_more (r t) g.p.advection in
          (λ i. spread floating nan (past (0 * count g) (ec i)) (ev i) (both i))
          ∙ gather_run floating nan (count g) (zero ∷ zero ∷ zero ∷ advected_to g (t + 1)) 0 (lit< tt) (corners_of g) (shares_at g) t sound.nodes

      pub slope_more : {work : List Float} {s : Sides} {v : Slope} → work ≡ slopes_to g t → s ≡ floats_at g t → v ≡ slope_of (count g) g.state work c s
          → spread floating nan (past (2 * count g) c) (alike v.y) (spread floating nan (past (1 * count g) c) (alike v.x) work) ≡ slopes_to g (t + 1)
      slope_more ew es ev =
          let px = gathered floating (corners_of g) (slope_x g) in
          let py = gathered floating (corners_of g) (slope_y g) in
          let its = its_slope (px t ∷ py t ∷ advected g) ew ec es ev in
          (λ i. spread floating nan (past (2 * count g) (ec i)) (its.1 i) (spread floating nan (past (1 * count g) (ec i)) (its.0 i) (ew i)))
          ∙ ap (spread floating nan (past (2 * count g) (corners_of g t)) (slope_y g t)) (gather_run floating nan (count g) (rise g ∷ zero ∷ py t ∷ advected g) 1 (lit< tt) (corners_of g) (slope_x g) t sound.nodes)
          ∙ gather_run floating nan (count g) (rise g ∷ px (t + 1) ∷ zero ∷ advected g) 2 (lit< tt) (corners_of g) (slope_y g) t sound.nodes

      pub area_more : {d : ℕ} {l : List ℕ} → alike d ≡ areas g t → l ≡ table (count g) (S_to g t) → spread whole 0 c (alike d) l ≡ table (count g) (S_to g (t + 1))
      area_more ed el = (λ i. spread whole 0 (ec i) (ed i) (el i)) ∙ gather_more whole 0 (count g) (corners_of g) (areas g) t sound.nodes

  -- ---- a sum S is small at each place, and past the end it is 0: so there is room for one more area at each corner
  small_sum : (t i : ℕ) → t ≤ E g.mesh → S_to g t i ≤ 60000000000 * t
  small_sum t i h =
      gathered_le 20000000000 (corners_of g) (areas g) t i
      (λ k l. let most = (z.shape.triangles k (omega arith)).most in record { first = most; second = most; third = most })

  S_small : (t i : ℕ) → t ≤ E g.mesh → get_or (table (count g) (S_to g t)) i 0 ≤ 60000000000 * t
  S_small t i h = go (ltb i (count g)) refl
    where
      go : (b : Bool) → ltb i (count g) ≡ b → get_or (table (count g) (S_to g t)) i 0 ≤ 60000000000 * t
      go true e = rw (get_d_table (count g) (S_to g t) i 0 (ltb-true i (count g) e)) (small_sum t i h)
      go false e =
          rw (get_or-eq_default (table (count g) (S_to g t)) 0 {n = i} (rw (length_table (count g) (S_to g t)) (ltb-false i (count g) e))) (omega arith)

  pub S_room : (t i : ℕ) {d : ℕ} {l : List ℕ} → t < E g.mesh → alike d ≡ areas g t → l ≡ table (count g) (S_to g t) → get_or l i 0 + 3 * d < 2 ^ 53
  S_room t i h ed el =
      let e = ap (λ (v : Three ℕ). v.first) ed in
      rw (el, e) (omega (arith, S_small t i (omega arith), (z.shape.triangles t h).most, z.shape.sized.most_triangles))

  -- ---- node i, as it is read, and a turn of a pass over the nodes
  module _ (i : ℕ) (h : i < count g) {sums : List ℕ} (es : sums ≡ table (count g) (S g)) where
    its_s : of_int binary64 (pos (get_or sums i 0)) ≡ float_s g i
    its_s = ap (λ (l : List ℕ). of_int binary64 (pos (get_or l i 0))) es ∙ ap (λ (k : ℕ). of_int binary64 (pos k)) (get_d_table (count g) (S g) i 0 h)

    pub its_rise : {work : List Float} {c : Node} {s v : Float} → work ≡ rises_to g i → c ≡ node g i → s ≡ of_int binary64 (pos (get_or sums i 0))
        → v ≡ rise_of g.p (kind_of g i) g.elevation c s (in_run (count g) 0 work i) → v ≡ rise g i
    unfolding rise
    its_rise ew ec eS ev =
        let r = ap (λ (l : List Float). in_run (count g) 0 l i) ew ∙ run_read (count g) (turned i (rise g) (R g) ∷ zero ∷ zero ∷ advected g) 0 i nan (lit< tt) h ∙ turn_here (rise g) (R g) i in
        ev ∙ (λ j. rise_of g.p (kind_of g i) g.elevation (ec j) ((eS ∙ its_s) j) (r j))

    -- off, Au and Av are not looked at
    unread : (on : Bool) (au av : ℕ → Float) → flow_of (less_if on) g.p (kind_of g i) (push_of (node g i) (new_wind g i) (float_s g i) (rise g i) (Px g i) (Py g i) (cond on au zero i) (cond on av zero i)) ≡ flow_of (less_if on) g.p (kind_of g i) (push_of (node g i) (new_wind g i) (float_s g i) (rise g i) (Px g i) (Py g i) (au i) (av i))
    unfolding flow_of flow flowU' flowV' Rx Ry n p q m r wx wy gx gy H H'
    unread true au av = refl
    unread false au av = refl

    pub its_flow : {work : List Float} {v : Flow} → work ≡ flows_to g i
        → v ≡ flow_of (less_if g.p.advection) g.p (kind_of g i) (push_of (node g i) (new_wind g i) (of_int binary64 (pos (get_or sums i 0))) (in_run (count g) 0 work i) (in_run (count g) 1 work i) (in_run (count g) 2 work i) (in_run (count g) 3 work i) (in_run (count g) 4 work i))
        → v ≡ flow_at g i
    unfolding flow_at
    its_flow {work} ew ev =
        let fs = rise g ∷ turned i (U' g) (Px g) ∷ turned i (V' g) (Py g) ∷ advected g in
        let read : (k : ℕ) → k < work_runs → in_run (count g) k work i ≡ get_or fs k (λ _. nan) i = λ k l. ap (λ (l : List Float). in_run (count g) k l i) ew ∙ run_read (count g) fs k i nan l h in
        let rz = read 0 (lit< tt) in
        let rx = read 1 (lit< tt) ∙ turn_here (U' g) (Px g) i in
        let ry = read 2 (lit< tt) ∙ turn_here (V' g) (Py g) i in
        let ru = read 3 (lit< tt) in
        let rv = read 4 (lit< tt) in
        ev
        ∙ (λ j. flow_of (less_if g.p.advection) g.p (kind_of g i) (push_of (node g i) (new_wind g i) (its_s j) (rz j) (rx j) (ry j) (ru j) (rv j)))
        ∙ unread g.p.advection (Au g) (Av g)
        ∙ (λ j. flow_of (sym z.setting j) g.p (kind_of g i) (push_at g i))

  module _ (i : ℕ) (h : i < count g) {work : List Float} where
    pub rise_more : {v : Float} → work ≡ rises_to g i → v ≡ rise g i → set work (0 * count g + i) v ≡ rises_to g (i + 1)
    rise_more {v} ew ev =
        ap (λ (l : List Float). set l (0 * count g + i) v) ew ∙ run_turn (count g) (zero ∷ zero ∷ zero ∷ advected g) 0 (rise g) (R g) i v (lit< tt) h ev

    pub flow_more : {v : Flow} → work ≡ flows_to g i → v ≡ flow_at g i → set (set work (1 * count g + i) v.u) (2 * count g + i) v.v ≡ flows_to g (i + 1)
    flow_more {v} ew ev =
        ap (λ (l : List Float). set (set l (1 * count g + i) v.u) (2 * count g + i) v.v) ew
        ∙ ap (λ (l : List Float). set l (2 * count g + i) v.v) (run_turn (count g) (rise g ∷ zero ∷ turned i (V' g) (Py g) ∷ advected g) 1 (U' g) (Px g) i v.u (lit< tt) h (ap (λ (f : Flow). f.u) ev))
        ∙ run_turn (count g) (rise g ∷ turned (i + 1) (U' g) (Px g) ∷ zero ∷ advected g) 2 (V' g) (Py g) i v.v (lit< tt) h (ap (λ (f : Flow). f.v) ev)

-- ---- before the first turn, and after the last
module _ (g : Given) where
  pub sum_none : clear_room g ≡ sums_to g 0
  unfolding gathered
  sum_none = go g.p.advection
    where
      go : (on : Bool) → clear_room g ≡ runs_of (count g) (zero ∷ zero ∷ zero ∷ cond on zero zero ∷ cond on zero zero ∷ [])
      go true = refl
      go false = refl

  pub S_none : table (count g) (λ _. 0) ≡ table (count g) (S_to g 0)
  unfolding gathered
  S_none = refl

  pub rise_none : sum_room g ≡ rises_to g 0
  rise_none = sym (ap (λ (f : ℕ → Float). runs_of (count g) (f ∷ zero ∷ zero ∷ advected g)) (turn_none (rise g) (R g)))

  pub rise_all : rises_to g (count g) ≡ rise_room g
  rise_all = run_same (count g) (zero ∷ zero ∷ zero ∷ advected g) 0 (turned (count g) (rise g) (R g)) (rise g) (turn_all (rise g) (R g) (count g))

  pub flow_none : slope_room g ≡ flows_to g 0
  flow_none = λ j. runs_of (count g) (rise g ∷ sym (turn_none (U' g) (Px g)) j ∷ sym (turn_none (V' g) (Py g)) j ∷ advected g)

  pub flow_all : flows_to g (count g) ≡ flow_room g
  flow_all =
      run_same (count g) (rise g ∷ zero ∷ turned (count g) (V' g) (Py g) ∷ advected g) 1 (turned (count g) (U' g) (Px g)) (U' g) (turn_all (U' g) (Px g) (count g))
      ∙ run_same (count g) (rise g ∷ U' g ∷ zero ∷ advected g) 2 (turned (count g) (V' g) (Py g)) (V' g) (turn_all (V' g) (Py g) (count g))

  -- row 13, as it is asked of the work room
  pub rises_read : {n : ℕ} {h work : List Float} → h ≡ g.mesh.h → work ≡ rise_room g → n ≡ count g
      → scan (λ i. rise_row (get_or h i nan) (in_run n 0 work i) i) n ≡ rise_rows g
  rises_read eh ew en =
      (λ j. scan (λ i. rise_row (get_or (eh j) i nan) (in_run (en j) 0 (ew j) i) i) (en j))
      ∙ scan_same _ _ (count g) (λ i l. ap (λ (v : Float). rise_row (node g i).h v i) (run_read (count g) (rise g ∷ zero ∷ zero ∷ advected g) 0 i nan (lit< tt) l))

  pub flows_read : {n : ℕ} {work : List Float} → work ≡ flow_room g → n ≡ count g
      → scan (λ i. flow_row (record { u = in_run n 1 work i; v = in_run n 2 work i }) i) n ≡ flow_rows g
  flows_read ew en =
      let fs = rise g ∷ U' g ∷ V' g ∷ advected g in
      (λ j. scan (λ i. flow_row (record { u = in_run (en j) 1 (ew j) i; v = in_run (en j) 2 (ew j) i }) i) (en j))
      ∙ scan_same _ _ (count g) (λ i l j. flow_row (record { u = run_read (count g) fs 1 i nan (lit< tt) l j; v = run_read (count g) fs 2 i nan (lit< tt) l j }) i)

-- #106: "It also keeps, per gauge, the highest elevation so far and the first step that had it". Said of any record of gauges, after any sequence of calls. No
-- byte, no mesh and no formula stands here: `Board` is handed them.
use Rattle.std.specs.Prelude.{ℕ, suc, ◌<◌, ◌≡◌, Bool, true, false, cond, not, ◌&&◌, eqb, length, Float}
use mathlib.Core.List.{List, [], ◌∷◌, ◌++◌, map, foldl, Memᴰ}
use Rattle.std.proofs.Math.Option.{some}
use Rattle.std.proofs.Math.ListN.{get_elem?}
use Rattle.std.specs.Float.Ieee.{le}
use Rattle.rows.specs.Numbers.{plus0, in_size}

-- ---- one gauge
-- what the record keeps of a gauge beside its point: "seen (1), peak (8), step (4)"
pub record Mark : Type 0 where
  pub seen : ℕ
  pub peak : Float
  pub step : ℕ

-- "all zero when fresh"
abbrev pub unmarked : Mark
unmarked = record { seen = 0; peak = plus0; step = 0 }

-- the elevation at a gauge in a state that was handed over, and the step number of that state
pub record Reading : Type 0 where
  pub level : Float
  pub step : ℕ

abbrev pub marked : Reading → Mark
marked r = record { seen = 1; peak = r.level; step = r.step }

-- One state more replaces the mark where the gauge is not seen, or unless the elevation is at most the peak, as floats: "an equal elevation doesn't replace the
-- first", -0 beside +0 too.
unfoldable pub noted : Mark → Reading → Mark
noted m r = cond (not (eqb m.seen 0) && le r.level m.peak) m (marked r)

-- m is the mark of one of the readings l, `top`
pub record FirstHighest (l : List Reading) (m : Mark) : Type 0 where
  pub before : List Reading
  pub top : Reading
  pub rest : List Reading
  pub among : l ≡ before ++ (top ∷ rest)
  pub kept : m ≡ marked top
  -- "the highest elevation so far"
  pub highest : (r : Reading) → Memᴰ r l → le r.level top.level ≡ true
  -- "and the first step that had it": before it every elevation was lower
  pub first : (r : Reading) → Memᴰ r before → le top.level r.level ≡ false

-- the mark after these readings, the earliest first
abbrev pub Highest : List Reading → Mark → Type 0
Highest [] m = m ≡ unmarked
Highest (r ∷ rest) m = FirstHighest (r ∷ rest) m

-- ---- the calls
-- what a call hands back: whether it accepts, and the record that is held after it
pub record Reply (Record : Type 0) : Type 0 where
  pub accepted : Bool
  pub held : Record

-- A record of gauges, and the two calls that write it. What is lent to a call beside the record is of any size and with anything in it: `Asked` to an add, the
-- point at which it asks for a gauge (`spot`) among it; `Handed` to an update, the state that it hands over and its step number among it. `level` is the
-- elevation at a point in that state.
pub record Board : Type 1 where
  pub Record : Type 0
  pub Point : Type 0
  pub Asked : Type 0
  pub Handed : Type 0
  pub fresh : Record
  pub count : Record → ℕ
  pub point : Record → ℕ → Point
  pub mark : Record → ℕ → Mark
  pub add : Record → Asked → Reply Record
  pub update : Record → Handed → Reply Record
  pub spot : Asked → Point
  pub level : Handed → Point → Float
  pub number : Handed → ℕ

module _ (B : Board) where
  -- "a load doesn't rewind it": the steps, saves and loads of a run do not name the record, and the other calls on gauges are lent it to be read alone.
  pub data Call : Type 0 where
    add : B.Asked → Call
    update : B.Handed → Call

  -- a gauge: its point, as it was added, and what was handed over since then, the earliest first
  pub record Gauge : Type 0 where
    pub point : B.Point
    pub states : List B.Handed

  abbrev pub reading : B.Point → B.Handed → Reading
  reading p h = record { level = B.level h p; step = B.number h }

  abbrev pub readings : Gauge → List Reading
  readings x = map (reading x.point) x.states

  -- the record held, and the gauges that were added, by number
  pub record Kept : Type 0 where
    pub held : B.Record
    pub gauges : List Gauge

  abbrev pub begun : Kept
  begun = record { held = B.fresh; gauges = [] }

  -- x with one state more
  abbrev pub with_state : B.Handed → Gauge → Gauge
  with_state h x = record { point = x.point; states = x.states ++ (h ∷ []) }

  -- One call. The record held is what the call hands back. "Each state handed over updates every gauge"; a refusal "leaves the peak record as found".
  abbrev pub after : Kept → Call → Kept
  after a (add q) =
      let r = B.add a.held q in
      record { held = r.held; gauges = cond r.accepted (a.gauges ++ (record { point = B.spot q; states = [] } ∷ [])) a.gauges }
  after a (update h) =
      let r = B.update a.held h in
      record { held = r.held; gauges = cond r.accepted (map (with_state h) a.gauges) a.gauges }

  abbrev pub kept : List Call → Kept
  kept = foldl after begun

  -- What the record held says: how many gauges there are, and of each, x with the number g, the point at which it was added, and its mark.
  pub record Says (a : Kept) : Type 0 where
    pub count : B.count a.held ≡ length a.gauges
    pub points : (g : ℕ) (x : Gauge) → get_elem? a.gauges g ≡ some x → B.point a.held g ≡ x.point
    pub marks : (g : ℕ) (x : Gauge) → get_elem? a.gauges g ≡ some x → Highest (readings x) (B.mark a.held g)

  -- after any sequence of calls, refused ones among them
  abbrev pub Peaks : Type 0
  Peaks = (cs : List Call) → Says (kept cs)

  -- ---- what has to be known of the calls
  -- r' is r with a gauge more, at p
  pub record Added (r : B.Record) (p : B.Point) (r' : B.Record) : Type 0 where
    pub count : B.count r' ≡ suc (B.count r)
    pub point : B.point r' (B.count r) ≡ p
    pub mark : B.mark r' (B.count r) ≡ unmarked
    pub points : (g : ℕ) → g < B.count r → B.point r' g ≡ B.point r g
    pub marks : (g : ℕ) → g < B.count r → B.mark r' g ≡ B.mark r g

  -- r' is r with the state h noted at every gauge, where no elevation is beyond 30 (row 10)
  pub record Updated (r : B.Record) (h : B.Handed) (r' : B.Record) : Type 0 where
    pub count : B.count r' ≡ B.count r
    pub points : (g : ℕ) → g < B.count r → B.point r' g ≡ B.point r g
    pub marks : (g : ℕ) → g < B.count r → B.mark r' g ≡ noted (B.mark r g) (reading (B.point r g) h)
    pub sized : (g : ℕ) → g < B.count r → in_size 30 (B.level h (B.point r g)) ≡ true

-- `Fine` is said of the records that are held.
pub record Laws (B : Board) : Type 1 where
  pub Fine : B.Record → Type 0
  pub fresh_fine : Fine B.fresh
  pub fresh_count : B.count B.fresh ≡ 0
  pub add_accepted :
      (r : B.Record) (q : B.Asked) → Fine r → (B.add r q).accepted ≡ true → Fine (B.add r q).held × Added B r (B.spot q) (B.add r q).held
  pub add_refused : (r : B.Record) (q : B.Asked) → (B.add r q).accepted ≡ false → (B.add r q).held ≡ r
  pub update_accepted :
      (r : B.Record) (h : B.Handed) → Fine r → (B.update r h).accepted ≡ true → Fine (B.update r h).held × Updated B r h (B.update r h).held
  pub update_refused : (r : B.Record) (h : B.Handed) → (B.update r h).accepted ≡ false → (B.update r h).held ≡ r

-- Document 02, #106: what is proved of the gauges. The calls are the definitions of gauges/specs/Calls; what is lent to them is of any size and with anything in it.
use Rattle.std.specs.Prelude.{ℕ, ◌^◌, ◌<◌, ◌≡◌, Bool, true, false, List, eqb}
use Rattle.std.specs.Int.{w32}
use Rattle.std.proofs.Common.{SFits}
use Rattle.rows.specs.declared.Answer.{Answer}
use Rattle.rows.specs.Numbers.{in_size}
use Rattle.rows.specs.Scan.{accepted, refused}
use Rattle.mesh.specs.Lent.{E}
use Rattle.location.specs.declared.seeking.Point.{Point}
use Rattle.location.specs.Location.{contains}
use Rattle.keeping.specs.declared.Mark as Keeping
use Rattle.keeping.specs.Record.{fresh, count_in, point_in, mark_in, row43, row41}
use Rattle.keeping.specs.Keeping.{number_rows}
use Rattle.looking.specs.Lent.{Lent, mesh_in, lent_rows}
use Rattle.looking.specs.Looking.{triangle_at, level_at}
use Rattle.gauges.specs.Calls.{locate_of, add_of, elevation_of, update_of}
use Rattle.peaks.specs.Peaks.{Mark, Board, Call, kept, Peaks}

-- ---- "then 40 exactly when no triangle contains the point"
module _ (b : Lent) (q : Point) where
  -- triangle t contains the point
  abbrev pub holds : ℕ → Bool
  holds = contains (mesh_in b).x (mesh_in b).y (mesh_in b).tri q

  abbrev pub Outside : Type 0
  Outside = (t : ℕ) → t < E (mesh_in b) → holds t ≡ false

  -- "it finds the lowest-numbered triangle that contains it"
  pub record Lowest (t : ℕ) : Type 0 where
    pub there : t < E (mesh_in b)
    pub inside : holds t ≡ true
    pub lower : (s : ℕ) → s < t → holds s ≡ false

  -- of an answer, and of the triangle that is found
  pub record Forty (place : ℕ) (a : Answer) : Type 0 where
    pub outside : Outside → a ≡ refused 40 place
    pub exactly : a.number ≡ 40 → Outside
    pub otherwise : (a.number ≡ 40 → ⊥) → (a ≡ accepted) × Lowest (triangle_at b q)

-- g is the first gauge of the record r whose point no triangle contains
pub record FirstOutside (b : Lent) (r : List ℕ) (g : ℕ) : Type 0 where
  pub given_out : g < count_in r
  pub outside : Outside b (point_in r g)
  pub before : (k : ℕ) → k < g → Lowest b (point_in r k) (triangle_at b (point_in r k))

pub record FortyFirst (b : Lent) (r : List ℕ) (a : Answer) : Type 0 where
  pub outside : (g : ℕ) → FirstOutside b r g → a ≡ refused 40 g
  pub exactly : a.number ≡ 40 → FirstOutside b r a.place
  pub otherwise : (a.number ≡ 40 → ⊥) → (a ≡ accepted) × ((g : ℕ) → g < count_in r → Lowest b (point_in r g) (triangle_at b (point_in r g)))

-- of each call that is lent a mesh, where what stands before 40 accepts ("An accepted call has number 0"): rows 1 to 10, and 43, 41 and 42 as far as it asks
-- for them; and the triangle that comes back is that one
pub record ExactlyForty : Type 0 where
  pub locate : (b : Lent) (q : Point) → (lent_rows b).number ≡ 0 → Forty b q 0 (locate_of b q).answer
  pub found : (b : Lent) (q : Point) → (locate_of b q).answer.number ≡ 0 → Lowest b q (locate_of b q).triangle
  pub add : (b : Lent) (r : List ℕ) (q : Point) → (lent_rows b).number ≡ 0 → (row43 r).number ≡ 0 → (row41 r).number ≡ 0
      → Forty b q (count_in r) (add_of b r q).given.answer
  pub elevation : (b : Lent) (r : List ℕ) (g : ℕ) → (lent_rows b).number ≡ 0 → (number_rows r g).number ≡ 0
      → Forty b (point_in r g) g (elevation_of b r g).answer
  pub update : (b : Lent) (r : List ℕ) (step : ℕ) → (lent_rows b).number ≡ 0 → (row43 r).number ≡ 0 → FortyFirst b r (update_of b r step).answer

-- ---- row 10: "either z beyond 30 in size". Where rows 1 to 10 accept and a triangle contains the point, no elevation of a gauge is beyond it either. Of the
-- three elevations at the corners nothing is said: rounded, it need not lie between them.
abbrev pub NeverBeyond30 : Type 0
NeverBeyond30 = (b : Lent) (q : Point) → (lent_rows b).number ≡ 0 → (t : ℕ) → t < E (mesh_in b) → holds b q t ≡ true → in_size 30 (level_at b q) ≡ true

-- ---- "each leaves the peak record as found": every byte of it. The other calls are lent the record to be read.
pub record RecordKept : Type 0 where
  pub add : (b : Lent) (r : List ℕ) (q : Point) → ((add_of b r q).given.answer.number ≡ 0 → ⊥) → (add_of b r q).left ≡ r
  pub update : (b : Lent) (r : List ℕ) (step : ℕ) → ((update_of b r step).answer.number ≡ 0 → ⊥) → (update_of b r step).left ≡ r

-- ---- "It also keeps, per gauge, the highest elevation so far and the first step that had it"
-- a gauge that is asked for: its point is of two 32-bit numbers, as a program's are
pub record Asked : Type 0 where
  pub lent : Lent
  pub spot : Point
  pub east : SFits w32 spot.x
  pub north : SFits w32 spot.y

-- a state that is handed over: its step number is a 32-bit unsigned one
pub record Handed : Type 0 where
  pub lent : Lent
  pub step : ℕ
  pub small : step < 2 ^ 32

-- a mark of the record, as the statement has it
abbrev pub as_mark : Keeping.Mark → Mark
as_mark k = record { seen = k.seen; peak = k.peak; step = k.step }

-- A record is its bytes, and what is held after a call is the bytes that it leaves. Meshes, states and parameters are any, and may be others at each call.
abbrev pub board : Board
board = record {
  Record = List ℕ;
  Point = Point;
  Asked = Asked;
  Handed = Handed;
  fresh = fresh;
  count = count_in;
  point = point_in;
  mark = λ r g. as_mark (mark_in r g);
  add = λ r q. let o = add_of q.lent r q.spot in record { accepted = eqb o.given.answer.number 0; held = o.left };
  update = λ r h. let o = update_of h.lent r h.step in record { accepted = eqb o.answer.number 0; held = o.left };
  spot = λ q. q.spot;
  level = λ h p. level_at h.lent p;
  number = λ h. h.step;
}

-- From a fresh record, after any sequence of calls, refused ones among them: the gauges are those that were added, each at its point, and the mark of each is
-- that of the first highest elevation of the states that were handed over since; of a gauge that had none, all zero.
abbrev pub PeaksAtGauges : Type 0
PeaksAtGauges = Peaks board

-- and 43 accepts each of these records
abbrev pub OwnRecordsPass : Type 0
OwnRecordsPass = (cs : List (Call board)) → (row43 (kept board cs).held).number ≡ 0

-- What the private functions read and write. No public contract cites it.
use Rattle.std.specs.Prelude.{ℕ, ◌+◌, ◌*◌, List, set, Float}
use Rattle.quantities.specs.declared.Node.{Node}
use Rattle.quantities.specs.declared.Wind.{Wind}
use Rattle.frames.specs.Frames.{byte_of}
use Rattle.frames.specs.Reading.{float}
use Rattle.editions.specs.Lines.{head1, Edition}
use Rattle.loads.specs.Load.{line_in}

-- the wind of an edition 1 head
unfoldable pub head_wind : Edition → ℕ → List ℕ → Wind
head_wind d n t =
    let at = byte_of head1.widths in
    record { x = float (line_in d n t 0) (at 3); y = float (line_in d n t 0) (at 4) }

-- node i's values stored in the six runs of a state
abbrev pub stored : ℕ → List Float → ℕ → Node → List Float
stored n s i c =
    set (set (set (set (set (set s (0 * n + i) c.earlier) (1 * n + i) c.z) (2 * n + i) c.u) (3 * n + i) c.v) (4 * n + i) c.wx) (5 * n + i) c.wy

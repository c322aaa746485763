use Prim.Native.Nat.{◌≤◌, ◌<◌, ◌+◌, ◌-◌}
use mathlib.Core.Path.{◌≡◌, refl}
use native.Mathlib.Omega.{arith}
use borrow.Author.Tests.{le-leb, lt-leb}
use lib.ListN.{length}
use lib.Seq.{take-length}
use Rattle.std.proofs.lemmas.Slice.{put_mid-paste}
use Rattle.lines.specs.Building.{laid}
use Rattle.refusals.specs.Refusals.{room_of_words}
use Rattle.refusals.specs.Private.{joined}
use Rattle.refusals.proofs.with.Goals as goal
use Rattle.refusals.proofs.with.Goals.{then-n-gt-ROOM-via-then-n-gt-ROOM, then-n-gt-ROOM-via-else-n-gt-ROOM+then-at-n}

pub returns-then-n-gt-ROOM : goal.returns-then-n-gt-ROOM
unfolding joined
returns-then-n-gt-ROOM c =
    let a = c.args in
    let none : room_of_words < a.text.len + length a.part.now = elim c.then-n-gt-ROOM.branch [
      | then-n-gt-ROOM-via-then-n-gt-ROOM w ↦ omega arith
      | then-n-gt-ROOM-via-else-n-gt-ROOM+then-at-n w ↦ omega arith
    ] in
    rw (lt-leb _ _ none)

pub returns : goal.returns
unfolding joined laid
returns c =
    let a = c.args in
    let some : a.text.len + length a.part.now ≤ room_of_words = omega arith in
    let wide : length a.part.now ≡ a.text.len + length a.part.now - a.text.len = omega arith in
    rw (le-leb _ _ some, put_mid-paste a.text.len _ a.text.bytes _ a.part.now _ c.copy_from_slice.ensures.after wide refl, take-length a.part.now)

-- How the words of a refusal are put together, for laws and for the contracts of private functions. No public contract cites it.
use Rattle.std.specs.Prelude.{ℕ, ◌+◌, cond, List, leb, length}
use Rattle.lines.specs.Building.{laid}
use Rattle.refusals.specs.declared.Words.{Words}
use Rattle.refusals.specs.Refusals.{room_of_words}

-- with t after it; unchanged where there is no room
unfoldable pub joined : Words → List ℕ → Words
joined w t =
    cond (leb (w.len + length t) room_of_words) (record { bytes = laid w.bytes w.len t; len = w.len + length t }) w

use Rattle.std.proofs.Common.{◌≡◌, ◌+◌, ◌*◌, ◌%◌, ◌&&◌, drop}
use Rattle.frames.specs.Bytes.{bytes, all_digits, sum}
use Rattle.frames.proofs.TallyLaws.{rest, rest_digits}
use Rattle.frames.proofs.digits.tallied.Given as goal

abbrev pub invariant-loop-c : goal.invariant-loop-c
invariant-loop-c l = (l.side ≡ l.c % 2 * 128) × ((l.sum + rest (l.c % 2) (drop l.c l.text)) % 256 ≡ sum (bytes l.text) % 256)
    × ((l.right && rest_digits (l.c % 2) (drop l.c l.text)) ≡ all_digits l.text)

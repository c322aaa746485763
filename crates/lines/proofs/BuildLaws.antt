-- Laws of a line while it is built, and of a line put into a text. Once, over the fields and over the text.
use Prim.Native.Nat.{ℕ, zero, suc, ◌+◌, ◌-◌, ◌*◌, ◌/◌, ◌%◌, ◌≤◌, ◌<◌}
use mathlib.Core.Path.{◌≡◌, refl, sym, ap, ◌∙◌}
use mathlib.Core.List.{List, [], ◌∷◌, ◌++◌, append_assoc}
use native.Mathlib.Nat.{div-div-eq-div-mul}
use native.Mathlib.Omega.{arith}
use borrow.Author.Tests.{le-leb, lt-leb}
use lib.ListN.{length, drop, set, replicate, length-append, length-replicate, replicate-append-replicate}
use lib.Seq.{drop_at, drop-append-add, take-append_seam}
use Rattle.frames.specs.Bytes.{digit, digits, bytes, field, sum, check}
use Rattle.frames.specs.Frames.{line_feed}
use Rattle.frames.proofs.ByteLaws.{digits_join, digits_length, field_length}
use Rattle.lines.specs.declared.Line.{Line}
use Rattle.lines.specs.Building.{longest, written, holding, laid, appended, sealed, put_out, put_of}
use Rattle.lines.proofs.LaidLaws.{laid_more, laid_last}

-- ---- one field
pub field_digits : (w v : ℕ) → length (digits (field w v)) ≡ 2 * w
field_digits w v = digits_length (field w v) ∙ rw (field_length w v)

-- its digits one by one
unfoldable pub hex : ℕ → ℕ → List ℕ
hex zero v = []
hex (suc k) v = hex k (v / 16) ++ (digit (v % 16) ∷ [])

nibbles : (v : ℕ) → (v / 16 % 16 ≡ v % 256 / 16) × (v % 16 ≡ v % 256 % 16)
nibbles v = (omega arith, omega arith)

pub hex_field : (w v : ℕ) → hex (2 * w) v ≡ digits (field w v)
unfolding hex field digits
hex_field zero v = refl
hex_field (suc w) v =
    let two : 2 * suc w ≡ suc (suc (2 * w)) = omega arith in
    rw (digits_join (field w (v / 256)) (v % 256 ∷ []), two, div-div-eq-div-mul v 16 16, (nibbles v).0, (nibbles v).1, hex_field w (v / 256), append_assoc)

hex_length : (k v : ℕ) → length (hex k v) ≡ k
unfolding hex
hex_length zero v = refl
hex_length (suc k) v = rw (length-append, hex_length k (v / 16)) (omega arith)

-- the last digit is written, and the rest of the field is left
pub hex_turn : (l : List ℕ) (at k v : ℕ) → at + k < length l → laid (set l (at + k) (digit (v % 16))) at (hex k (v / 16)) ≡ laid l at (hex (suc k) v)
unfolding hex
hex_turn l at k v h = rw hex_length at (laid_last l at (hex k (v / 16)) (digit (v % 16)) (rw hex_length h))

-- ---- appending, with and without longest
module _ (l : Line) (t : List ℕ) where
  pub appended_room : l.len + length t ≤ longest → appended l t ≡ record { bytes = laid l.bytes l.len t; len = l.len + length t }
  unfolding appended
  appended_room h = rw (le-leb (l.len + length t) longest h)

  pub appended_full : longest < l.len + length t → appended l t ≡ l
  unfolding appended
  appended_full h = rw (lt-leb (l.len + length t) longest h)

-- the check byte is a field of one byte, and the line feed stands after it
pub sealed_room : (l m : Line) → length l.bytes ≡ longest → l.len + 3 ≤ longest → m ≡ appended l (digits (field 1 (256 - sum (bytes (written l)) % 256)))
    → ◌≡◌ {A = Line} (record { bytes = set m.bytes (l.len + 2) line_feed; len = l.len + 3 }) (sealed l)
unfolding sealed digits field check
sealed_room l m n h e =
    let t = digits (field 1 (256 - sum (bytes (written l)) % 256)) in
    rw (e, appended_room l t (omega arith), appended_room l (t ++ (line_feed ∷ [])) h)
    (λ i. record { bytes = laid_more l.bytes l.len t line_feed (omega arith) i; len = l.len + 3 })

-- ---- a line that holds a text
pub written_holding : (t : List ℕ) → written (holding t) ≡ t
unfolding written holding
written_holding t = take-append_seam t (replicate (longest - length t) 0)

past : (n k : ℕ) → drop {A = ℕ} n (replicate (n + k) 0) ≡ replicate k 0
past n k = ap (drop {A = ℕ} n) (sym (replicate-append-replicate n k 0)) ∙ drop_at (replicate n 0) (replicate k 0) n (length-replicate n 0)

pub appended_holding : (t u : List ℕ) → length t + length u ≤ longest → appended (holding t) u ≡ holding (t ++ u)
unfolding holding laid
appended_holding t u h =
    let k = longest - (length t + length u) in
    let m : longest - length t ≡ length u + k = omega arith in
    appended_room (holding t) u h
    ∙ rw (length-append t u, take-append_seam t (replicate (longest - length t) 0), drop-append-add t (replicate (longest - length t) 0) (length u), m, past (length u) k)

-- ---- a line that holds t, put into a text
module _ (text : List ℕ) (at : ℕ) (l : Line) {t : List ℕ} (w : written l ≡ t) where
  pub put_fits : at + length t ≤ length text → put_of text at l ≡ put_out (at + length t) (laid text at t)
  unfolding put_of
  put_fits h = rw (w, le-leb (at + length t) (length text) h)

  pub put_not : length text < at + length t → put_of text at l ≡ put_out at text
  unfolding put_of
  put_not h = rw (w, lt-leb (at + length t) (length text) h)

pub put_holding : (text : List ℕ) (at : ℕ) (t : List ℕ) → at + length t ≤ length text → put_of text at (holding t) ≡ put_out (at + length t) (laid text at t)
put_holding text at t h = put_fits text at (holding t) (written_holding t) h

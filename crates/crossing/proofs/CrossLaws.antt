-- Laws of numbers in bytes: what is read, what is written, a signed number by its pattern, and a slice that is filled with the elements of another.
use Prim.Native.Nat.{ℕ, suc, ◌+◌, ◌-◌, ◌*◌, ◌/◌, ◌%◌, ◌^◌, ◌<◌, ◌≤◌, min}
use mathlib.Core.Path.{◌≡◌, refl, sym, ap, ◌∙◌}
use mathlib.Core.Bool.{Bool, true, false, cond, ◌&&◌}
use mathlib.Core.List.{List}
use mathlib.Core.Logic.{◌⊎◌, inl, inr, ⊎_elim}
use native.Mathlib.Nat.{one-le-pow, mul-le-mul_left, mul-div-le, min-le_left, min-le_right}
use native.Mathlib.Omega.{arith}
use borrow.Author.Tests.{le-leb, leb-true, leb-false, lt-ltb, le-ltb}
use lib.Dec.{leb, lit≤}
use lib.IntN.{ℤ, pos, negsuc, ◌+ℤ◌, ◌-ℤ◌}
use lib.ListN.{length, take, drop, set, length-drop}
use lib.Seq.{length-take-le, take-add, drop-drop}
use mir.Syntax.{w32, w64}
use mir.Val.{SFits, to_z, of_z}
use mir.Facts.{to_z-of_z, to_z_pos, sfits_to_z, sfits_widen}
use Rattle.lists.specs.Table.{copied}
use Rattle.lists.specs.Private.{up_to}
use Rattle.lists.proofs.TableLaws.{up_table}
use Rattle.frames.specs.Bytes.{number, field}
use Rattle.frames.proofs.ByteLaws.{field_length, number_back, number_join}
use Rattle.lines.specs.Building.{laid}
use Rattle.lines.proofs.LaidLaws.{laid_last, laid_length, laid_there, laid_before, laid_after}
use Rattle.crossing.specs.Crossing.{number_at, written_at, signed, unsigned, elements}

-- ---- one number
pub number_there : (b : List ℕ) (at w : ℕ) → w ≤ 8 → at + w ≤ length b → number_at b at w ≡ number (take w (drop at b))
unfolding number_at
number_there b at w h k = rw (le-leb w 8 h, le-leb (at + w) (length b) k)

-- the bytes in front, and those behind
pub number_in_two : (b : List ℕ) (at m n : ℕ) → m + n ≤ 8 → at + m + n ≤ length b → number_at b at m * 256 ^ n + number_at b (at + m) n ≡ number_at b at (m + n)
number_in_two b at m n h k =
    let rest : length (take n (drop m (drop at b))) ≡ n = length-take-le n _ (rw (length-drop, length-drop) (omega arith)) in
    rw (
      number_there b at m (omega arith) (omega arith),
      number_there b (at + m) n (omega arith) k,
      number_there b at (m + n) h (omega arith),
      take-add m n (drop at b),
      number_join,
      rest,
      drop-drop,
    )

pub number_none : (b : List ℕ) (at w : ℕ) → (leb w 8 && leb (at + w) (length b)) ≡ false → (0 ≡ number_at b at w) × (0 < 256 ^ w)
unfolding number_at
number_none b at w e = (rw e, one-le-pow w 256 (lit≤ tt))

-- the last byte is written, and the rest of the field is left
pub byte_turn : (b : List ℕ) (at w v : ℕ) {n last : ℕ} → at + w < length b → n ≡ suc w → last ≡ at + w
    → laid (set b last (v % 256)) at (field w (v / 256)) ≡ laid b at (field n v)
unfolding field
byte_turn b at w v h e l =
    ap (λ (k : ℕ). laid (set b k (v % 256)) at (field w (v / 256))) l
    ∙ (rw field_length at (laid_last b at (field w (v / 256)) (v % 256) (rw field_length h)))
    ∙ ap (λ (k : ℕ). laid b at (field k v)) (sym e)

-- ---- what is read of a slice with a number written into it
module _ (b : List ℕ) (at w v : ℕ) where
  room : at + w ≤ length b → at + length (field w v) ≤ length b
  room h = rw field_length h

  pub written_length : length (written_at b at w v) ≡ length b
  unfolding written_at
  written_length = go (leb (at + w) (length b)) refl
    where
      go : (c : Bool) → leb (at + w) (length b) ≡ c → length (cond c (laid b at (field w v)) b) ≡ length b
      go true e = laid_length b at (field w v) (room (leb-true _ _ e))
      go false e = refl

  pub number_written : at + w ≤ length b → w ≤ 8 → v < 256 ^ w → number_at (written_at b at w v) at w ≡ v
  unfolding written_at
  number_written h k l =
      number_there (written_at b at w v) at w k (rw written_length h)
      ∙ rw (le-leb (at + w) (length b) h) (ap number (rw field_length at (laid_there b at (field w v) (room h))) ∙ number_back w v l)

  -- a field that stands apart from it
  module _ (i n : ℕ) (apart : (i + n ≤ at) ⊎ (at + w ≤ i)) where
    seen : take n (drop i (written_at b at w v)) ≡ take n (drop i b)
    unfolding written_at
    seen = go (leb (at + w) (length b)) refl
      where
        go : (c : Bool) → leb (at + w) (length b) ≡ c → take n (drop i (cond c (laid b at (field w v)) b)) ≡ take n (drop i b)
        go true e =
            let h = room (leb-true _ _ e) in
            ⊎_elim (λ k. laid_before b at (field w v) h i n k) (λ k. ap (take n) (laid_after b at (field w v) h i (rw field_length k))) apart
        go false e = refl

    pub number_elsewhere : number_at (written_at b at w v) i n ≡ number_at b i n
    unfolding number_at
    number_elsewhere = rw (written_length, seen)

-- ---- a signed number of 32 bits
signed_is : (v : ℕ) → v < 2 ^ 32 → signed v ≡ to_z w32 v
unfolding signed
signed_is v h = rw (lt-ltb v (2 ^ 32) h)

pub signed_fits : (v : ℕ) → v < 2 ^ 32 → SFits w32 (signed v)
signed_fits v h = rw (signed_is v h) (sfits_to_z (record { fits = h }))

-- what was read, handed on as 32 bits
pub signed_kept : {v : ℕ} {z : ℤ} → v < 2 ^ 32 → z ≡ signed v → to_z w32 (of_z w32 z) ≡ signed v
signed_kept {v} h e = ap (λ (x : ℤ). to_z w32 (of_z w32 x)) e ∙ to_z-of_z (signed_fits v h)

-- from 2^31 on, as it is worked out in 64 bits
pub lowered : (v : ℕ) → 2 ^ 31 ≤ v → v < 2 ^ 32 → to_z w64 v -ℤ pos (2 ^ 32) ≡ signed v
unfolding signed
lowered v l h = rw (lt-ltb v (2 ^ 63) (omega arith), le-ltb v (2 ^ 31) l)

pub lowered_kept : (v : ℕ) → 2 ^ 31 ≤ v → v < 2 ^ 32 → to_z w64 (of_z w64 (to_z w64 v -ℤ pos (2 ^ 32))) ≡ signed v
lowered_kept v l h = rw (lowered v l h) (to_z-of_z {w = w64} (sfits_widen tt (signed_fits v h)))

-- ---- and its pattern
pub unsigned_small : (z : ℤ) → SFits w32 z → unsigned z < 2 ^ 32
unfolding unsigned
unsigned_small (pos n) h = let k = h.sfits in omega arith
unsigned_small (negsuc n) h = omega arith

pub signed_back : (z : ℤ) → SFits w32 z → signed (unsigned z) ≡ z
unfolding unsigned
signed_back (pos n) h = signed_is n (unsigned_small (pos n) h) ∙ to_z-of_z h
signed_back (negsuc n) h = signed_is (2 ^ 32 - suc n) (unsigned_small (negsuc n) h) ∙ to_z-of_z h

-- 2^32 more than a number, whose remainder modulo 2^32 is the pattern
abbrev pub raised : ℤ → ℕ
raised (pos n) = n + 2 ^ 32
raised (negsuc n) = 2 ^ 32 - suc n

pub raised_small : (z : ℤ) → SFits w32 z → raised z < 2 ^ 63
raised_small (pos n) h = let k = h.sfits in omega arith
raised_small (negsuc n) h = omega arith

pub raised_rest : (z : ℤ) → SFits w32 z → raised z % 2 ^ 32 ≡ unsigned z
unfolding unsigned
raised_rest (pos n) h = let k = h.sfits in omega arith
raised_rest (negsuc n) h = omega arith

plus_32 : (z : ℤ) → SFits w32 z → z +ℤ pos (2 ^ 32) ≡ pos (raised z)
plus_32 (pos n) h = refl
plus_32 (negsuc n) h = let k = h.sfits in rw (le-ltb (2 ^ 32) (suc n) (omega arith))

-- as it is worked out in 64 bits
pub raised_sum : (z : ℤ) → SFits w32 z → to_z w64 (of_z w64 (to_z w32 (of_z w32 z))) +ℤ pos (2 ^ 32) ≡ pos (raised z)
raised_sum z h = rw (to_z-of_z {w = w32} {z = z} h, to_z-of_z {w = w64} {z = z} (sfits_widen tt h)) (plus_32 z h)

pub raised_kept : (z : ℤ) → SFits w32 z → to_z w64 (of_z w64 (to_z w64 (of_z w64 (to_z w32 (of_z w32 z))) +ℤ pos (2 ^ 32))) ≡ pos (raised z)
raised_kept z h = rw (raised_sum z h) (to_z_pos w64 {n = raised z} (raised_small z h))

-- ---- a loop that fills a slice with the elements of w bytes each of another, as f reads them
-- an element that is one of those that b has is there whole
pub element_there : (w i n : ℕ) → i < n / w → w * i + w ≤ n
element_there w i n h = let k : w * suc i ≤ w * (n / w) = mul-le-mul_left w h in omega (arith, k, mul-div-le n w)

fewest : (m n : ℕ) → (m ≤ min m n) ⊎ (n ≤ min m n)
fewest m n = go (leb m n) refl
  where
    go : (c : Bool) → leb m n ≡ c → (m ≤ min m n) ⊎ (n ≤ min m n)
    go true e = let h = leb-true m n e in inl (omega arith)
    go false e = let h = leb-false m n e in inr (omega arith)

module _ {A : Type 0} (w : ℕ) (f : ℕ → A) (b : List ℕ) where
  -- what it is to write at place i
  abbrev pub element : ℕ → A
  element i = f (number_at b (w * i) w)

  pub filled_whole : (to : List A) {n : ℕ} → n ≡ min (length to) (length b / w) → up_to n element to ≡ copied (elements w f b) to
  unfolding elements
  filled_whole to e =
      ap (λ (n : ℕ). up_to n element to) e ∙ up_table (length b / w) element to _ (min-le_left _ _) (min-le_right _ _) (fewest _ _)

-- Laws of a list laid over another: one place at a time from either end, and what is seen in it.
use Prim.Native.Nat.{ℕ, suc, ◌+◌, ◌-◌, ◌<◌, ◌≤◌}
use mathlib.Core.Path.{◌≡◌, ◌∙◌}
use mathlib.Core.List.{List, [], ◌∷◌, ◌++◌, append_assoc, append-nil}
use native.Mathlib.Nat.{add-zero}
use native.Mathlib.Omega.{arith}
use lib.ListN.{length, take, drop, set, get_or, length-append, length-set, length-drop, take-append-drop}
use lib.Seq.{length-take-le, drop-cons, set_at, take-set-le, drop-set-lt, get_or-set_same, append_snoc, take-append_seam, take-append-le, drop-append-le, drop-append-add, drop_at, drop-drop}
use Rattle.frames.proofs.ByteLaws.{part_within}
use Rattle.lines.specs.Building.{laid}

module _ (l : List ℕ) (at : ℕ) where
  pub laid_none : laid l at [] ≡ l
  unfolding laid
  laid_none = rw (add-zero, append-nil, take-append-drop)

  module _ (t : List ℕ) (d : ℕ) where
    longer : at + length (t ++ (d ∷ [])) ≡ suc (at + length t)
    longer = rw (length-append t (d ∷ [])) (omega arith)

    -- with d after it: both are what stands before d, and d, and what stands after it
    spread : laid l at (t ++ (d ∷ [])) ≡ take at l ++ t ++ d ∷ drop (suc (at + length t)) l
    unfolding laid
    spread = rw (longer, ← append_assoc (take at l) t (d ∷ []), append_snoc)

    module _ (h : at + length t < length l) where
      pub laid_more : set (laid l at t) (at + length t) d ≡ laid l at (t ++ (d ∷ []))
      unfolding laid
      laid_more =
          let n : length (take at l ++ t) ≡ at + length t = length-append (take at l) t ∙ rw (length-take-le at l (omega arith)) in
          let k = at + length t in
          rw (spread, drop-cons l k 0 h) (set_at (take at l ++ t) (get_or l k 0) (drop (suc k) l) d k n)

      pub laid_last : laid (set l (at + length t) d) at t ≡ laid l at (t ++ (d ∷ []))
      unfolding laid
      laid_last =
          let k = at + length t in
          let m : k < length (set l k d) = rw length-set h in
          rw (spread, take-set-le at l k d (omega arith), drop-cons (set l k d) k 0 m, get_or-set_same l k d 0 h, drop-set-lt (suc k) l k d (omega arith))

-- ---- what is seen in a list with t laid over it
module _ (l : List ℕ) (at : ℕ) (t : List ℕ) (h : at + length t ≤ length l) where
  front : length (take at l) ≡ at
  front = length-take-le at l (omega arith)

  both : length (take at l ++ t) ≡ at + length t
  both = length-append (take at l) t ∙ rw front

  pub laid_length : length (laid l at t) ≡ length l
  unfolding laid
  laid_length = rw (length-append, both, length-drop) (omega arith)

  pub laid_there : take (length t) (drop at (laid l at t)) ≡ t
  unfolding laid
  laid_there = rw (append_assoc, drop_at (take at l) (t ++ drop (at + length t) l) at front) (take-append_seam t _)

  pub laid_before : (i n : ℕ) → i + n ≤ at → take n (drop i (laid l at t)) ≡ take n (drop i l)
  unfolding laid
  laid_before i n k =
      rw (
        append_assoc,
        drop-append-le i (take at l) (t ++ drop (at + length t) l) (rw front (omega arith)),
        take-append-le n (drop i (take at l)) (t ++ drop (at + length t) l) (rw (length-drop, front) (omega arith)),
      )
      (part_within i n at l k)

  pub laid_after : (i : ℕ) → at + length t ≤ i → drop i (laid l at t) ≡ drop i l
  unfolding laid
  laid_after i k =
      let end = at + length t in
      let e : i ≡ end + (i - end) = omega arith in
      rw (e, ← drop-drop (i - end) end (laid l at t), drop_at (take at l ++ t) (drop end l) end both, drop-drop)

-- a text whose first places are written, and the next part of it
pub laid_next : (done l t : List ℕ) → laid (done ++ drop (length done) l) (length done) t ≡ (done ++ t) ++ drop (length (done ++ t)) l
unfolding laid
laid_next done l t =
    rw (take-append_seam done (drop (length done) l), drop-append-add done (drop (length done) l) (length t), drop-drop, length-append)

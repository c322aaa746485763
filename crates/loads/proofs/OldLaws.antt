-- "An old build refuses a head 04 with 20, by its length": the head has a line feed where edition 1's has a digit.
use Prim.Native.Nat.{ℕ, suc, ◌≤◌}
use mathlib.Core.Path.{◌≡◌, refl, ap, ◌∙◌}
use mathlib.Core.Bool.{Bool, true, false, ◌&&◌}
use mathlib.Core.List.{List, [], ◌∷◌, ◌++◌, append_assoc}
use native.Mathlib.Omega.{arith}
use lib.ListN.{length, take, drop, length-drop}
use lib.Seq.{take-add}
use Rattle.rows.specs.declared.Answer.{Answer}
use Rattle.rows.specs.Scan.{refused}
use Rattle.rows.proofs.ScanLaws.{row_fails, then_stop}
use Rattle.frames.specs.Bytes.{digits, all_digits, worth}
use Rattle.frames.specs.Frames.{frame_bytes, text, line_feed}
use Rattle.frames.specs.Texts.{start_of}
use Rattle.frames.proofs.ByteLaws.{digits_right}
use Rattle.frames.proofs.FrameLaws.{frame_bytes_lem}
use Rattle.faults.specs.Faults.{is_framed, row20, fault, line_fault}
use Rattle.editions.specs.Lines.{edition1, edition2, layout_at, line_of}
use Rattle.saves.specs.Save.{Saved, values2, save_text}
use Rattle.saves.proofs.SaveLaws.{text_long}
use Rattle.loads.proofs.BackLaws.{found2}

-- a line feed among digits, with something after it
feed_inside : (r : List ℕ) → 1 ≤ length r → all_digits (line_feed ∷ r) ≡ false
unfolding all_digits worth
feed_inside [] h = absurd (omega arith)
feed_inside (c ∷ r) h = refl

some_taken : (k : ℕ) (u : List ℕ) → 1 ≤ length u → 1 ≤ length (take (suc k) u)
some_taken k [] h = absurd (omega arith)
some_taken k (c ∷ u) h = omega arith

and-false : (b : Bool) → (b && false) ≡ false
and-false true = refl
and-false false = refl

module _ (s : Saved) where
  -- the first 57 bytes: the head of 24 digits, its line feed, and what follows
  front : take 57 (save_text s) ≡ digits (frame_bytes (line_of edition2 s.n (values2 s) 0)) ++ (line_feed ∷ take 32 (drop 25 (save_text s)))
  unfolding start_of text
  front =
      take-add 25 32 (save_text s)
      ∙ ap (λ (l : List ℕ). l ++ take 32 (drop 25 (save_text s))) (found2 s 0 (omega arith))
      ∙ append_assoc (digits (frame_bytes (line_of edition2 s.n (values2 s) 0))) (line_feed ∷ []) (take 32 (drop 25 (save_text s)))

  not_digits : all_digits (take 57 (save_text s)) ≡ false
  not_digits =
      let f = line_of edition2 s.n (values2 s) 0 in
      let rest = drop 25 (save_text s) in
      let more : 1 ≤ length rest = simp length-drop (omega (arith, text_long s)) in
      ap all_digits front ∙ digits_right (frame_bytes f) (line_feed ∷ take 32 rest) (frame_bytes_lem f) ∙ feed_inside (take 32 rest) (some_taken 31 rest more)

  pub old_build : line_fault (layout_at edition1 s.n) (save_text s) 0 ≡ refused 20 0
  unfolding line_fault fault row20 start_of
  old_build =
      let l = take 57 (save_text s) in
      let bad : (is_framed l 56 && all_digits l) ≡ false = ap (λ (b : Bool). is_framed l 56 && b) not_digits ∙ and-false (is_framed l 56) in
      let stop = row_fails 20 0 bad in
      then_stop _ _ (λ z. absurd (omega (arith, ap (λ (a : Answer). a.number) stop, z))) ∙ stop

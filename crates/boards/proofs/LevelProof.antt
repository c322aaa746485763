-- The elevation of a gauge is a binary64, and never beyond 30 where rows 1 to 10 accept.
use Prim.Native.Nat.{ℕ, ◌<◌}
use mathlib.Core.Path.{◌≡◌}
use mathlib.Core.Bool.{true}
use lib.Dec.{T}
use lib.Ieee.{binary64, fits}
use lib.Ieee.Fits.{cond-fits, div-fits}
use Rattle.rows.specs.Numbers.{plus0, in_size}
use Rattle.mesh.specs.Lent.{N}
use Rattle.limits.proofs.BoundLaws.{each_bounded}
use Rattle.bounds.specs.State.{node_of}
use Rattle.bounds.proofs.StateLaws.{accepted_run}
use Rattle.location.specs.declared.seeking.Point.{Point}
use Rattle.location.specs.Location.{elevation, level_of}
use Rattle.location.specs.Survey.{present}
use Rattle.location.proofs.InsideLaws.{accepted_sound, accepted_inside}
use Rattle.peaks.proofs.LevelLaws.{level_bounded}
use Rattle.looking.specs.Lent.{Lent, mesh_in, state_in, row1_bytes, lent_rows}
use Rattle.looking.specs.Looking.{is_on, triangle_at, level_at}
use Rattle.boards.specs.Gauges.{NeverBeyond30}
use Rattle.boards.proofs.FortyProof.{on_lowest, held_on}

pub level_fits : (b : Lent) (q : Point) → T (fits binary64 (level_at b q))
unfolding level_of elevation fits
level_fits b q = cond-fits binary64 (is_on b q) _ plus0 (div-fits binary64 _ _) tt

module _ (b : Lent) (q : Point) (ok : (lent_rows b).number ≡ 0) where
  node_sized : (i : ℕ) → i < N (mesh_in b) → in_size 30 (present (mesh_in b) (state_in b) i) ≡ true
  unfolding lent_rows
  node_sized i l =
      (each_bounded (node_of (N (mesh_in b)) (mesh_in b).h (state_in b) i) ((accepted_run (row1_bytes b) (mesh_in b) b.p (state_in b) ok).bounds i l)).z

  pub level_sized : is_on b q ≡ true → in_size 30 (level_at b q) ≡ true
  unfolding lent_rows level_of elevation
  level_sized on =
      let l = on_lowest b q on in
      let t = triangle_at b q in
      let nodes = (accepted_sound (row1_bytes b) (mesh_in b) b.p (state_in b) ok t l.there).nodes in
      let w = accepted_inside (row1_bytes b) (mesh_in b) b.p (state_in b) ok t l.there q l.inside in
      rw (on, w.first, w.second, w.third, w.whole)
      (level_bounded w.u1 w.u2 w.u3 w.d _ _ _ w.above w.sum w.most (node_sized _ nodes.first) (node_sized _ nodes.second) (node_sized _ nodes.third))

pub never_beyond_30 : NeverBeyond30
never_beyond_30 b q ok t l e = level_sized b q ok (held_on b q t l e)

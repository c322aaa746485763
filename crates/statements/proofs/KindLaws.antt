-- No two kinds of lines have one kind byte.
use Prim.Native.Nat.{ℕ}
use mathlib.Core.Path.{◌≡◌, refl, sym, ap, ◌∙◌}
use mathlib.Core.Bool.{cond}
use lib.Dec.{eqb}
use Rattle.frames.specs.declared.Kind.{Kind}
use Rattle.frames.specs.declared.Kind.TheVariants.{Head1, Node1, End, Head2, Run, Node2, Forcing, Elevation, Wind}
use Rattle.frames.specs.Kinds.{kind_of}

kind_from : ℕ → Kind
kind_from n =
    cond (eqb n 0x01) Head1 (cond (eqb n 0x02) Node1 (cond (eqb n 0x03) End (cond (eqb n 0x04) Head2 (cond (eqb n 0x05) Run (cond (eqb n 0x06) Node2 (cond (eqb n 0x10) Forcing (cond (eqb n 0x14) Elevation Wind)))))))

kind_back : (k : Kind) → kind_from (kind_of k) ≡ k
unfolding kind_from
kind_back Head1 = refl
kind_back Node1 = refl
kind_back End = refl
kind_back Head2 = refl
kind_back Run = refl
kind_back Node2 = refl
kind_back Forcing = refl
kind_back Elevation = refl
kind_back Wind = refl

pub kind_same : (a b : Kind) → kind_of a ≡ kind_of b → a ≡ b
kind_same a b e = sym (kind_back a) ∙ ap kind_from e ∙ kind_back b

use Prim.Native.Nat.{ℕ, ◌+◌, ◌-◌, ◌≤◌, min}
use mathlib.Core.Path.{◌≡◌, sym, ◌∙◌}
use mathlib.Core.List.{List, append_assoc}
use mathlib.Core.Logic.{◌⊎◌, ⊎_elim}
use native.Mathlib.Omega.{arith}
use borrow.Author.Rules.{rules}
use borrow.Rule.Slice.PartMut.{put_mid}
use lib.ListN.{length, take}
use lib.Seq.{take_all, length-take-le, drop-drop}
use Rattle.lines.specs.declared.Line.{Line}
use Rattle.lines.specs.Building.{longest, written, laid}
use Rattle.lines.proofs.BuildLaws.{put_fits, put_not}
use Rattle.lines.proofs.put.Goals as goal

-- n bytes of the line are written, all of them where its length is past its longest
cut : (l : Line) (n : ℕ) → n ≡ min l.len longest → length l.bytes ≡ longest → written l ≡ take n l.bytes
unfolding written
cut l n m z =
    let either : (l.len ≤ longest) ⊎ (longest ≤ l.len) = grind arith in
    ⊎_elim
    (λ h. let e : n ≡ l.len = omega (arith, m, h) in rw e)
    (λ h. take_all l.len l.bytes (omega (arith, h, z)) ∙ sym (take_all n l.bytes (omega (arith, m, h, z))))
    either

long : (l : Line) (n : ℕ) → n ≡ min l.len longest → length l.bytes ≡ longest → length (take n l.bytes) ≡ n
long l n m z = length-take-le n l.bytes (omega (arith, m))

part : (text t new : List ℕ) (at n : ℕ) → new ≡ t → length t ≡ n → put_mid at ((at + n) - at) text new ≡ laid text at t
unfolding laid
part text t new at n e h = let k : (at + n) - at ≡ n = omega arith in rw (e, h, k, append_assoc, drop-drop)

pub returns : goal.returns
returns c =
    let a = c.args in
    let m = c.min-n.ensures in
    let n = c.min-n.result in
    let z : length a.line.bytes ≡ longest = search rules in
    let h = long a.line n m z in
    let e = part a.text.now (take n a.line.bytes) c.copy_from_slice.new.self a.at n c.copy_from_slice.ensures.after h in
    rw (put_fits a.text.now a.at a.line (cut a.line n m z) (rw h (omega arith)), h, e)

pub returns-then-text-n : goal.returns-then-text-n
returns-then-text-n c =
    let a = c.args in
    let m = c.min-n.ensures in
    let z : length a.line.bytes ≡ longest = search rules in
    sym (put_not _ _ _ (cut a.line c.min-n.result m z) (rw (long a.line c.min-n.result m z) (omega arith)))

pub returns-then-text-n-2 : goal.returns-then-text-n-2
returns-then-text-n-2 c =
    let a = c.args in
    let m = c.min-n.ensures in
    let z : length a.line.bytes ≡ longest = search rules in
    sym (put_not _ _ _ (cut a.line c.min-n.result m z) (rw (long a.line c.min-n.result m z) (omega arith)))

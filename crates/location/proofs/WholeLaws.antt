-- Sums, differences and products of whole numbers: what a differs from b by, times what c differs from d by, and what cancels.
use Rattle.std.proofs.Common.{◌≡◌, zero, suc, ℤ, pos, negsuc, ◌+ℤ◌, ◌-ℤ◌, ◌*ℤ◌, neg_ℤ, sym, refl, ap, ◌∙◌, subst}
use lib.IntN.{suc_ℤ, pred_ℤ, suc_ℤ-+ℤ, pred_ℤ-+ℤ, +ℤ_idl, +ℤ_idr, +ℤ_one, -ℤ_one, +ℤ_assoc, +ℤ_invr, +ℤ_comm, ℤ_ind, neg_ℤ-neg_ℤ, neg_ℤ-+ℤ, zero-*ℤ, suc_ℤ-*ℤ, pred_ℤ-*ℤ, *ℤ_comm}

-- ---- sums
pub plus_left_comm : (a b c : ℤ) → a +ℤ (b +ℤ c) ≡ b +ℤ (a +ℤ c)
plus_left_comm a b c = sym (+ℤ_assoc a b c) ∙ ap (λ (z : ℤ). z +ℤ c) (+ℤ_comm a b) ∙ +ℤ_assoc b a c

-- two differences, added and taken from one another
pub minus_plus : (a b c d : ℤ) → (a -ℤ b) +ℤ (c -ℤ d) ≡ (a +ℤ c) -ℤ (b +ℤ d)
minus_plus a b c d = rw (neg_ℤ-+ℤ b d) (simp (+ℤ_assoc, plus_left_comm))

pub minus_minus : (a b c d : ℤ) → (a -ℤ b) -ℤ (c -ℤ d) ≡ (a +ℤ d) -ℤ (b +ℤ c)
minus_minus a b c d = rw (neg_ℤ-+ℤ c (neg_ℤ d), neg_ℤ-neg_ℤ d, neg_ℤ-+ℤ b c) (simp (+ℤ_assoc, +ℤ_comm, plus_left_comm))

-- what is added on both sides of a difference
pub minus_cancel : (a b k : ℤ) → (a +ℤ k) -ℤ (b +ℤ k) ≡ a -ℤ b
minus_cancel a b k = sym (minus_plus a b k k) ∙ ap (λ (z : ℤ). (a -ℤ b) +ℤ z) (+ℤ_invr k) ∙ +ℤ_idr (a -ℤ b)

-- ---- products
abbrev Spread : ℤ → ℤ → ℤ → Type 0
Spread b k a = (a +ℤ b) *ℤ k ≡ a *ℤ k +ℤ b *ℤ k

spread_none : (b k : ℤ) → Spread b k (pos 0)
spread_none b k = ap (λ (z : ℤ). z *ℤ k) (+ℤ_idl b) ∙ sym (+ℤ_idl (b *ℤ k)) ∙ ap (λ (z : ℤ). z +ℤ b *ℤ k) (sym (zero-*ℤ k))

spread_up : (b k a : ℤ) → Spread b k a → Spread b k (suc_ℤ a)
spread_up b k a e =
    ap (λ (z : ℤ). z *ℤ k) (suc_ℤ-+ℤ a b)
    ∙ suc_ℤ-*ℤ (a +ℤ b) k
    ∙ ap (λ (z : ℤ). z +ℤ k) e
    ∙ +ℤ_assoc (a *ℤ k) (b *ℤ k) k
    ∙ ap (λ (z : ℤ). a *ℤ k +ℤ z) (+ℤ_comm (b *ℤ k) k)
    ∙ sym (+ℤ_assoc (a *ℤ k) k (b *ℤ k))
    ∙ ap (λ (z : ℤ). z +ℤ b *ℤ k) (sym (suc_ℤ-*ℤ a k))

spread_down : (b k a : ℤ) → Spread b k a → Spread b k (pred_ℤ a)
spread_down b k a e =
    ap (λ (z : ℤ). z *ℤ k) (pred_ℤ-+ℤ a b)
    ∙ pred_ℤ-*ℤ (a +ℤ b) k
    ∙ ap (λ (z : ℤ). z -ℤ k) e
    ∙ +ℤ_assoc (a *ℤ k) (b *ℤ k) (neg_ℤ k)
    ∙ ap (λ (z : ℤ). a *ℤ k +ℤ z) (+ℤ_comm (b *ℤ k) (neg_ℤ k))
    ∙ sym (+ℤ_assoc (a *ℤ k) (neg_ℤ k) (b *ℤ k))
    ∙ ap (λ (z : ℤ). z +ℤ b *ℤ k) (sym (pred_ℤ-*ℤ a k))

pub plus_times : (a b k : ℤ) → (a +ℤ b) *ℤ k ≡ a *ℤ k +ℤ b *ℤ k
plus_times a b k =
    ℤ_ind (Spread b k) (spread_none b k) (λ n e. subst (Spread b k) (sym (+ℤ_one (pos n))) (spread_up b k (pos n) e))
    (λ n e. subst (Spread b k) (sym (-ℤ_one (neg_ℤ (pos n)))) (spread_down b k (neg_ℤ (pos n)) e)) a

pub neg_times : (a k : ℤ) → neg_ℤ a *ℤ k ≡ neg_ℤ (a *ℤ k)
neg_times (pos zero) k = zero-*ℤ k ∙ sym (ap neg_ℤ (zero-*ℤ k))
neg_times (pos (suc a)) (pos b) = refl
neg_times (pos (suc a)) (negsuc b) = sym (neg_ℤ-neg_ℤ (pos (suc a) *ℤ pos (suc b)))
neg_times (negsuc a) (pos b) = sym (neg_ℤ-neg_ℤ (pos (suc a) *ℤ pos b))
neg_times (negsuc a) (negsuc b) = refl

minus_times : (a b k : ℤ) → (a -ℤ b) *ℤ k ≡ a *ℤ k -ℤ b *ℤ k
minus_times a b k = plus_times a (neg_ℤ b) k ∙ ap (λ (z : ℤ). a *ℤ k +ℤ z) (neg_times b k)

times_minus : (a c d : ℤ) → a *ℤ (c -ℤ d) ≡ a *ℤ c -ℤ a *ℤ d
times_minus a c d = *ℤ_comm a (c -ℤ d) ∙ minus_times c d a ∙ (λ i. *ℤ_comm c a i -ℤ *ℤ_comm d a i)

pub minus_times_minus : (a b c d : ℤ) → (a -ℤ b) *ℤ (c -ℤ d) ≡ (a *ℤ c +ℤ b *ℤ d) -ℤ (a *ℤ d +ℤ b *ℤ c)
minus_times_minus a b c d =
    minus_times a b (c -ℤ d) ∙ (λ i. times_minus a c d i -ℤ times_minus b c d i) ∙ minus_minus (a *ℤ c) (a *ℤ d) (b *ℤ c) (b *ℤ d)

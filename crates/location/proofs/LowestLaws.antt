-- Laws of `lowest`: the lowest number that passes a test.
use Rattle.std.proofs.Common.{◌≡◌, ℕ, zero, suc, ◌<◌, ◌≤◌, Bool, true, false, cond, sym, refl, ap, le_refl, le_of_suc-le-suc, not-suc-le-zero, arith}
use Rattle.location.specs.Location.{lowest}

-- a loop that is left at the first place that passes the test
pub lowest_hit : (test : ℕ → Bool) (n i : ℕ) → i < n → ((k : ℕ) → k < i → test k ≡ false) → test i ≡ true → i ≡ lowest test n
unfolding lowest
lowest_hit test zero i l h e = absurd (not-suc-le-zero l)
lowest_hit test (suc n) zero l h e = rw e
lowest_hit test (suc n) (suc i) l h e =
    rw (h 0 (omega arith)) (ap suc (lowest_hit (λ k. test (suc k)) n i (omega arith) (λ k m. h (suc k) (omega arith)) e))

pub lowest_all : (test : ℕ → Bool) (n : ℕ) → ((k : ℕ) → k < n → test k ≡ false) → lowest test n ≡ n
unfolding lowest
lowest_all test zero h = refl
lowest_all test (suc n) h = rw (h 0 (omega arith)) (ap suc (lowest_all (λ k. test (suc k)) n (λ k l. h (suc k) (omega arith))))

pub lowest_none : (test : ℕ → Bool) (n : ℕ) → ((k : ℕ) → k < n → test k ≡ false) → n ≡ lowest test n
lowest_none test n h = sym (lowest_all test n h)

pub lowest_most : (test : ℕ → Bool) (n : ℕ) → lowest test n ≤ n
unfolding lowest
lowest_most test zero = le_refl 0
lowest_most test (suc n) = go (test zero) (lowest_most (λ k. test (suc k)) n)
  where
    go : {m : ℕ} (b : Bool) → m ≤ n → cond b zero (suc m) ≤ suc n
    go true h = omega arith
    go false h = omega arith

pub lowest_at : (test : ℕ → Bool) (n : ℕ) → lowest test n < n → test (lowest test n) ≡ true
unfolding lowest
lowest_at test zero l = absurd (not-suc-le-zero l)
lowest_at test (suc n) l = go (test zero) refl (lowest_at (λ k. test (suc k)) n) l
  where
    go : {m : ℕ} (b : Bool) → test zero ≡ b → (m < n → test (suc m) ≡ true) → cond b zero (suc m) < suc n → test (cond b zero (suc m)) ≡ true
    go true e h l = e
    go false e h l = h (le_of_suc-le-suc l)

pub lowest_first : (test : ℕ → Bool) (n k : ℕ) → k < lowest test n → test k ≡ false
unfolding lowest
lowest_first test zero k l = absurd (not-suc-le-zero l)
lowest_first test (suc n) k l = go (test zero) refl (lowest_first (λ j. test (suc j)) n) k l
  where
    go : {m : ℕ} (b : Bool) → test zero ≡ b → ((k : ℕ) → k < m → test (suc k) ≡ false) → (k : ℕ) → k < cond b zero (suc m) → test k ≡ false
    go true e h k l = absurd (not-suc-le-zero l)
    go false e h zero l = e
    go false e h (suc k) l = h k (le_of_suc-le-suc l)

-- The next field of what is left of a line, as a reader of one byte after the other meets it: spaces, then the bytes up to the field's end.
use Rattle.std.proofs.Common.{◌≡◌, ℕ, Bool, true, false, cond, ◌||◌, eqb, List, [], ◌∷◌, get_or, sym, refl, ap, ◌∙◌, true≢false, arith, ne_eqb, eqb-true}
use Rattle.grids.specs.Text.{cut, pieces_of, filled, fields_of}
use Rattle.grids.specs.Numbers.{is_digit, starts_with, before_first, after_first}
use Rattle.grids.specs.Private.{unspaced, is_end, present, first, Seen}
use Rattle.grids.proofs.LeftLaws.{digit_range}

-- what stands before the next end of a field, and what is left from there on
unfoldable pub word : List ℕ → List ℕ
word [] = []
word (b ∷ t) = cond (is_end (b ∷ t)) [] (b ∷ word t)

unfoldable pub beyond : List ℕ → List ℕ
beyond [] = []
beyond (b ∷ t) = cond (is_end (b ∷ t)) (b ∷ t) (beyond t)

-- ---- one byte
-- a byte that is this one is not that one
apart : (b m k : ℕ) → eqb b m ≡ true → (m ≡ k → ⊥) → eqb b k ≡ false
apart b m k e n = ne_eqb b k (λ p. n (sym (eqb-true b m e) ∙ p))

not_or : {p q : Bool} → p ≡ false → q ≡ false → (p || q) ≡ false
not_or e f = rw (e, f)

or_first : (p q : Bool) → (p || q) ≡ false → p ≡ false
or_first true q e = e
or_first false q e = refl

or_second : (p q : Bool) → (p || q) ≡ false → q ≡ false
or_second true true e = e
or_second true false e = refl
or_second false q e = e

or_else : (p q : Bool) → q ≡ false → (p || q) ≡ true → p ≡ true
or_else true q f e = refl
or_else false q f e = sym f ∙ e

pub never : true ≡ false → ⊥
never e = true≢false e

or_other : (p q : Bool) → p ≡ false → (p || q) ≡ true → q ≡ true
or_other true q f e = absurd (never f)
or_other false q f e = e

pub nothing : is_end [] ≡ false → ⊥
unfolding is_end
nothing e = never e

pub inside : (b m : ℕ) (t : List ℕ) → eqb b m ≡ true → (m ≡ 32 → ⊥) → (m ≡ 10 → ⊥) → is_end (b ∷ t) ≡ false
unfolding is_end
inside b m t e n k = not_or (apart b m 32 e n) (apart b m 10 e k)

pub digit_inside : (b : ℕ) (t : List ℕ) → is_digit b ≡ true → is_end (b ∷ t) ≡ false
unfolding is_end
digit_inside b t e =
    let r = digit_range b e in
    not_or (ne_eqb b 32 (λ p. absurd (omega (arith, r.0, p)))) (ne_eqb b 10 (λ p. absurd (omega (arith, r.0, p))))

-- ---- spaces that lead change no field and no line
pub spaces_fields : (t : List ℕ) → fields_of (present t) ≡ fields_of (present (unspaced t))
unfolding unspaced before_first pieces_of cut filled
spaces_fields [] = refl
spaces_fields (b ∷ t) = go (eqb b 32) refl (spaces_fields t)
  where
    go : (c : Bool) → eqb b 32 ≡ c → fields_of (present t) ≡ fields_of (present (unspaced t))
        → fields_of (present (b ∷ t)) ≡ fields_of (present (cond c (unspaced t) (b ∷ t)))
    go true e more = rw (apart b 32 10 e (λ p. absurd (omega (arith, p))), e) more
    go false e more = refl

pub spaces_line : (t : List ℕ) → after_first 10 t ≡ after_first 10 (unspaced t)
unfolding unspaced after_first
spaces_line [] = refl
spaces_line (b ∷ t) = go (eqb b 32) refl (spaces_line t)
  where
    go : (c : Bool) → eqb b 32 ≡ c → after_first 10 t ≡ after_first 10 (unspaced t) → after_first 10 (b ∷ t) ≡ after_first 10 (cond c (unspaced t) (b ∷ t))
    go true e more = rw (apart b 32 10 e (λ p. absurd (omega (arith, p)))) more
    go false e more = refl

pub spaces_gone : (t : List ℕ) → starts_with 32 (unspaced t) ≡ false
unfolding unspaced starts_with
spaces_gone [] = refl
spaces_gone (b ∷ t) = go (eqb b 32) refl (spaces_gone t)
  where
    go : (c : Bool) → eqb b 32 ≡ c → starts_with 32 (unspaced t) ≡ false → starts_with 32 (cond c (unspaced t) (b ∷ t)) ≡ false
    go true e more = more
    go false e more = e

-- ---- a word is the first piece of the line, and the rest of the line has the other fields
record Pieces (u : List ℕ) : Type 0 where
  others : List (List ℕ)
  split : pieces_of 32 (present u) ≡ word u ∷ others
  fields : filled others ≡ fields_of (present (beyond u))

word_pieces : (u : List ℕ) → is_end u ≡ false → Pieces u
unfolding word beyond is_end before_first pieces_of cut filled
word_pieces [] e = absurd (let z : ◌≡◌ {A = Bool} true false = e in never z)
word_pieces (b ∷ t) e = go t (is_end t) refl (word_pieces t)
  where
    space : eqb b 32 ≡ false
    space = or_first (eqb b 32) (eqb b 10) e

    feed : eqb b 10 ≡ false
    feed = or_second (eqb b 32) (eqb b 10) e

    ended : (d : ℕ) (t : List ℕ) (c : Bool) → eqb d 10 ≡ c → is_end (d ∷ t) ≡ true → Pieces (b ∷ d ∷ t)
    ended d t true f q = record { others = []; split = rw (feed, space, q, f); fields = rw (space, feed, q, f) }
    ended d t false f q =
        let s : eqb d 32 ≡ true = or_else _ _ f q in
        record { others = pieces_of 32 (present t); split = rw (feed, space, q, f, s); fields = rw (space, feed, q, f, s) }

    go : (t : List ℕ) (c : Bool) → is_end t ≡ c → (is_end t ≡ false → Pieces t) → Pieces (b ∷ t)
    go t false q more =
        let p = more q in
        record { others = p.others; split = rw (feed, space, p.split); fields = rw (space, feed) p.fields }
    go [] true q more = record { others = []; split = rw (feed, space); fields = rw (space, feed) }
    go (d ∷ t) true q more = ended d t (eqb d 10) refl q

word_kept : (u : List ℕ) → is_end u ≡ false → (ps : List (List ℕ)) → filled (word u ∷ ps) ≡ word u ∷ filled ps
unfolding word filled
word_kept [] e ps = absurd (nothing e)
word_kept (b ∷ t) e ps = rw e

pub word_more : (u : List ℕ) → is_end u ≡ false → fields_of (present u) ≡ word u ∷ fields_of (present (beyond u))
word_more u e =
    let p = word_pieces u e in
    ap filled p.split ∙ word_kept u e p.others ∙ ap (λ (fs : List (List ℕ)). word u ∷ fs) p.fields

pub word_none : (u : List ℕ) → starts_with 32 u ≡ false → is_end u ≡ true → (fields_of (present u) ≡ []) × (word u ≡ [])
unfolding starts_with is_end word before_first pieces_of filled
word_none [] s e = (refl, refl)
word_none (b ∷ t) s e = let f : eqb b 10 ≡ true = or_other _ _ s e in (rw f, rw (e))

word_line : (u : List ℕ) → after_first 10 u ≡ after_first 10 (beyond u)
unfolding beyond is_end after_first
word_line [] = refl
word_line (b ∷ t) = go (is_end (b ∷ t)) refl (word_line t)
  where
    go : (c : Bool) → is_end (b ∷ t) ≡ c → after_first 10 t ≡ after_first 10 (beyond t) → after_first 10 (b ∷ t) ≡ after_first 10 (cond c (b ∷ t) (beyond t))
    go true e more = refl
    go false e more = rw (or_second (eqb b 32) (eqb b 10) e) more

-- ---- the first field of what is left
module _ (t : List ℕ) where
  pub first_word : first t ≡ word (unspaced t)
  first_word = ap (λ (fs : List (List ℕ)). get_or fs 0 []) (spaces_fields t) ∙ go (is_end (unspaced t)) refl
    where
      go : (c : Bool) → is_end (unspaced t) ≡ c → get_or (fields_of (present (unspaced t))) 0 [] ≡ word (unspaced t)
      go true e = let n = word_none (unspaced t) (spaces_gone t) e in ap (λ (fs : List (List ℕ)). get_or fs 0 []) n.0 ∙ sym n.1
      go false e = ap (λ (fs : List (List ℕ)). get_or fs 0 []) (word_more (unspaced t) e)

  -- a field that is what it is to be has been read where its end is that of the word
  pub seen_word : (is : List ℕ → Bool) → is [] ≡ false → {fine : Bool} {rest : List ℕ} → fine ≡ is (word (unspaced t))
      → (fine ≡ true → rest ≡ beyond (unspaced t)) → Seen is t fine rest
  seen_word is n {fine} {rest} e r = record {
    holds = e ∙ ap is (sym first_word);
    fields = λ f.
        spaces_fields t
        ∙ word_more (unspaced t) (inner (is_end (unspaced t)) refl f)
        ∙ both (sym first_word) (sym (r f));
    line = λ f. ap (after_first 10) (r f) ∙ sym (word_line (unspaced t)) ∙ sym (spaces_line t);
  }
    where
      both : {a b : List ℕ} {p q : List ℕ} → a ≡ b → p ≡ q → a ∷ fields_of (present p) ≡ b ∷ fields_of (present q)
      both e f = λ i. e i ∷ fields_of (present (f i))

      inner : (c : Bool) → is_end (unspaced t) ≡ c → fine ≡ true → is_end (unspaced t) ≡ false
      inner true q f = absurd (never (sym f ∙ e ∙ ap is (word_none (unspaced t) (spaces_gone t) q).1 ∙ n))
      inner false q f = q

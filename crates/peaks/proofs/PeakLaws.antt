-- Any record of gauges that has the laws has, after any sequence of calls, the first highest elevation of each gauge.
use Prim.Native.Nat.{ℕ, zero, suc, ◌<◌}
use native.Mathlib.Omega.{arith}
use mathlib.Core.Path.{◌≡◌, refl, sym, ap, subst, ◌∙◌}
use mathlib.Core.Bool.{Bool, true, false}
use mathlib.Core.List.Memᴰ
use mathlib.Core.List.{List, [], ◌∷◌, ◌++◌, map, foldl, map-append}
use mathlib.Core.Logic.{◌⊎◌, inl, inr}
use mathlib.Core.Option.{some, none-ne-some, some-injective}
use lib.ListN.{length, get_elem?, length-append, length-map}
use Rattle.rows.specs.Numbers.{in_size}
use Rattle.peaks.specs.Peaks.{Mark, Reading, noted, Highest, Board, Call, add, update, Gauge, reading, readings, Kept, begun, with_state, after, kept, Peaks, Added, Updated, Laws}
use Rattle.peaks.proofs.HighestLaws.{each_more, Sized, noted_first, first_highest, next_highest}

-- ---- one gauge: a reading more at the end
sized_more : (l : List Reading) (r : Reading) → Sized l → in_size 30 r.level ≡ true → Sized (l ++ (r ∷ []))
sized_more = each_more (λ s. in_size 30 s.level ≡ true)

pub highest_more : (l : List Reading) (m : Mark) (r : Reading) → Highest l m → Sized l → in_size 30 r.level ≡ true → Highest (l ++ (r ∷ [])) (noted m r)
highest_more [] m r h sized i = rw (h, noted_first) (first_highest r i)
highest_more (x ∷ l) m r h sized i = next_highest (x ∷ l) m r h sized i _ refl

-- ---- gauges by number
nth_below : {A : Type 0} (l : List A) (g : ℕ) (x : A) → get_elem? l g ≡ some x → g < length l
nth_below [] g x e = absurd (none-ne-some _ e)
nth_below (y ∷ l) zero x e = omega arith
nth_below (y ∷ l) (suc g) x e = omega (arith, nth_below l g x e)

nth_append : {A : Type 0} (l : List A) (y : A) (g : ℕ) (x : A) → get_elem? (l ++ (y ∷ [])) g ≡ some x → (get_elem? l g ≡ some x) ⊎ ((length l ≡ g) × (y ≡ x))
nth_append [] y zero x e = inr (refl, some-injective _ _ e)
nth_append [] y (suc g) x e = absurd (none-ne-some _ e)
nth_append (z ∷ l) y zero x e = inl e
nth_append (z ∷ l) y (suc g) x e = go (nth_append l y g x e)
  where
    go : (get_elem? l g ≡ some x) ⊎ ((length l ≡ g) × (y ≡ x)) → (get_elem? l g ≡ some x) ⊎ ((suc (length l) ≡ suc g) × (y ≡ x))
    go (inl k) = inl k
    go (inr k) = inr (ap suc k.0, k.1)

nth_map : {A B : Type 0} (f : A → B) (l : List A) (g : ℕ) (y : B) → get_elem? (map f l) g ≡ some y → (x : A) × (get_elem? l g ≡ some x) × (f x ≡ y)
nth_map f [] g y e = absurd (none-ne-some _ e)
nth_map f (x ∷ l) zero y e = (x, refl, some-injective _ _ e)
nth_map f (x ∷ l) (suc g) y e = nth_map f l g y e

module _ (B : Board) (L : Laws B) where
  -- ---- the record held, call by call
  readings_more : (x : Gauge B) (t : B.Handed) → readings B (with_state B t x) ≡ readings B x ++ (reading B x.point t ∷ [])
  readings_more x t = map-append (reading B x.point) x.states (t ∷ [])

  record Known (r : B.Record) (g : ℕ) (x : Gauge B) : Type 0 where
    point : B.point r g ≡ x.point
    mark : Highest (readings B x) (B.mark r g)
    sized : Sized (readings B x)

  record Holds (a : Kept B) : Type 0 where
    fine : L.Fine a.held
    count : B.count a.held ≡ length a.gauges
    each : (g : ℕ) (x : Gauge B) → get_elem? a.gauges g ≡ some x → Known a.held g x

  below : (a : Kept B) → Holds a → (g : ℕ) (x : Gauge B) → get_elem? a.gauges g ≡ some x → g < B.count a.held
  below a h g x e = rw h.count (nth_below a.gauges g x e)

  added : (a : Kept B) (p : B.Point) (r : B.Record) → Holds a → L.Fine r → Added B a.held p r → Holds (record { held = r; gauges = a.gauges ++ (record { point = p; states = [] } ∷ []) })
  added a p r h fine s =
      record {
        fine = fine;
        count = s.count ∙ ap suc h.count ∙ simp length-append (omega arith);
        each = λ g x e. go g x (nth_append a.gauges (record { point = p; states = [] }) g x e);
      }
    where
      go : (g : ℕ) (x : Gauge B) → (get_elem? a.gauges g ≡ some x) ⊎ ((length a.gauges ≡ g) × (record { point = p; states = [] } ≡ x)) → Known r g x
      go g x (inl e) =
          let k = h.each g x e in
          let lt = below a h g x e in
          record { point = s.points g lt ∙ k.point; mark = rw (s.marks g lt) k.mark; sized = k.sized }
      go g x (inr e) =
          rw (← e.0, ← e.1, ← h.count) (record { point = s.point; mark = s.mark; sized = λ q m. absurd (Memᴰ.not-nil m) })

  updated : (a : Kept B) (t : B.Handed) (r : B.Record) → Holds a → L.Fine r → Updated B a.held t r → Holds (record { held = r; gauges = map (with_state B t) a.gauges })
  updated a t r h fine s =
      record {
        fine = fine;
        count = s.count ∙ h.count ∙ sym (length-map a.gauges (with_state B t));
        each = λ g y e. let k = nth_map (with_state B t) a.gauges g y e in subst (Known r g) k.2 (go g k.0 k.1);
      }
    where
      go : (g : ℕ) (x : Gauge B) → get_elem? a.gauges g ≡ some x → Known r g (with_state B t x)
      go g x e =
          let k = h.each g x e in
          let lt = below a h g x e in
          let i = rw k.point at (s.sized g lt) in
          let q = reading B x.point t in
          record {
            point = s.points g lt ∙ k.point;
            mark = rw (s.marks g lt, k.point, readings_more x t) (highest_more (readings B x) (B.mark a.held g) q k.mark k.sized i);
            sized = rw (readings_more x t) (sized_more (readings B x) q k.sized i);
          }

  after_add : (a : Kept B) (s : B.Asked) → Holds a → (b : Bool) → (B.add a.held s).accepted ≡ b → Holds (after B a (add s))
  after_add a s h true e = let law = L.add_accepted a.held s h.fine e in rw e (added a (B.spot s) (B.add a.held s).held h law.0 law.1)
  after_add a s h false e = rw (e, L.add_refused a.held s e) h

  after_update : (a : Kept B) (t : B.Handed) → Holds a → (b : Bool) → (B.update a.held t).accepted ≡ b → Holds (after B a (update t))
  after_update a t h true e = let law = L.update_accepted a.held t h.fine e in rw e (updated a t (B.update a.held t).held h law.0 law.1)
  after_update a t h false e = rw (e, L.update_refused a.held t e) h

  after_call : (a : Kept B) (c : Call B) → Holds a → Holds (after B a c)
  after_call a (add s) h = after_add a s h _ refl
  after_call a (update t) h = after_update a t h _ refl

  after_calls : (a : Kept B) (cs : List (Call B)) → Holds a → Holds (foldl (after B) a cs)
  after_calls a [] h = h
  after_calls a (c ∷ cs) h = after_calls (after B a c) cs (after_call a c h)

  all_holds : (cs : List (Call B)) → Holds (kept B cs)
  all_holds cs = after_calls (begun B) cs (record { fine = L.fresh_fine; count = L.fresh_count; each = λ g x e. absurd (none-ne-some _ e) })

  -- every record that is held is a fine one
  pub held_fine : (cs : List (Call B)) → L.Fine (kept B cs).held
  held_fine cs = (all_holds cs).fine

  pub peaks : Peaks B
  peaks cs =
      let h = all_holds cs in
      record { count = h.count; points = λ g x e. (h.each g x e).point; marks = λ g x e. (h.each g x e).mark }

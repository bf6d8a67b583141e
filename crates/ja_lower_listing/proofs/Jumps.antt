-- More jumps than a listing has lines lead no further.
use Rattle.std.proofs.Common.{◌≡◌, ℕ, ◌+◌, ◌≤◌, ◌==◌, Bool, true, false, cond, List, [], ◌∷◌, length, zero, suc, Option, Some, None, unwrap_or, ◌⊎◌, inl, inr, refl, ap, sym, ◌∙◌, arith}
use Rattle.std.specs.List.{AllByRecursion}
use Rattle.std.specs.Option.{option_or, option_map_or}
use Rattle.ja_lower_listing.specs.declared.item.Spot.{Spot}
use Rattle.ja_lower_listing.specs.declared.item.Target.{Target}
use Rattle.ja_lower_listing.specs.declared.item.Target.TheVariants as target
use Rattle.ja_lower_listing.specs.declared.item.Item.{Item}
use Rattle.ja_lower_listing.specs.declared.item.Item.TheVariants as item
use Rattle.ja_lower_listing.specs.Listing.{behind, led, goes, leads, jump_of, way_on}

-- a target, or one that leads out because jumps weren't followed far enough
abbrev pub Below : Target → Target → Type 0
Below a b = (a ≡ target.Out) ⊎ (a ≡ b)

-- what is told of more spots
abbrev pub Extends : (Spot → Target) → (Spot → Target) → Type 0
Extends f g = (s : Spot) → Below (f s) (g s)

led_further : (first : ℕ) (f g : Spot → Target) → Extends f g → (a b : Target) → Below a b
    → (t : Target) → Below (led first f a t) (led first g b t)
led_further first f g more a b h (target.Node n) = inr refl
led_further first f g more a b h (target.Spot s) = more s
led_further first f g more a b h target.Behind = h
led_further first f g more a b h target.Out = inr refl

goes_further : (whole : List Item) (f g : Spot → Target) → Extends f g → (items : List Item)
    → Below (goes whole f items) (goes whole g items)
unfolding goes
goes_further whole f g more [] = inr refl
goes_further whole f g more (item.Node node other handler place ∷ items) = inr refl
goes_further whole f g more (item.Spot s ∷ items) = goes_further whole f g more items
goes_further whole f g more (item.Jump s ∷ items) = more s
goes_further whole f g more (item.Copy block ∷ items) =
    led_further _ f g more (goes whole f items) (goes whole g items)
    (goes_further whole f g more items) block.entry

behind_further : (whole : List Item) (f g : Spot → Target) → Extends f g
    → (s : Spot) (o : Option (List Item)) → Below (option_map_or (goes whole f) o (target.Spot s))
    (option_map_or (goes whole g) o (target.Spot s))
behind_further whole f g more s None = inr refl
behind_further whole f g more s (Some rest) = goes_further whole f g more rest

-- more jumps lead to the same node
pub leads_further : (whole : List Item) (n : ℕ) → Extends (leads whole n) (leads whole (suc n))
unfolding leads
leads_further whole zero s = inl refl
leads_further whole (suc n) s =
    behind_further whole (leads whole n) (leads whole (suc n)) (leads_further whole n) s
    (behind s whole)

-- ---- the spots of the jumps of a listing, and of the copies in it that begin with a jump

abbrev ahead : Target → List Spot → List Spot
ahead (target.Spot s) ss = s ∷ ss
ahead other ss = ss

abbrev spots : List Item → List Spot
spots [] = []
spots (item.Node node other handler place ∷ items) = spots items
spots (item.Spot s ∷ items) = spots items
spots (item.Jump s ∷ items) = s ∷ spots items
spots (item.Copy block ∷ items) = ahead block.entry (spots items)

ahead_few : (t : Target) (ss : List Spot) → length (ahead t ss) ≤ suc (length ss)
ahead_few (target.Node n) ss = omega arith
ahead_few (target.Spot s) ss = omega arith
ahead_few target.Behind ss = omega arith
ahead_few target.Out ss = omega arith

spots_few : (items : List Item) → length (spots items) ≤ length items
spots_few [] = omega arith
spots_few (item.Node node other handler place ∷ items) = omega (arith, spots_few items)
spots_few (item.Spot s ∷ items) = omega (arith, spots_few items)
spots_few (item.Jump s ∷ items) = omega (arith, spots_few items)
spots_few (item.Copy block ∷ items) =
    omega (arith, spots_few items, ahead_few block.entry (spots items))

module _ (P : Spot → Type 0) where
  behind_ahead : (t : Target) (ss : List Spot) → AllByRecursion P (ahead t ss) → AllByRecursion P ss
  behind_ahead (target.Node n) ss h = h
  behind_ahead (target.Spot s) ss h = h.1
  behind_ahead target.Behind ss h = h
  behind_ahead target.Out ss h = h

  at_spot : (o : Option (List Item)) (b : Bool) (items : List Item)
      → AllByRecursion P (spots (unwrap_or o [])) → AllByRecursion P (spots items)
      → AllByRecursion P (spots (unwrap_or (option_or o (cond b (Some items) None)) []))
  at_spot None true items later here = here
  at_spot None false items later here = tt
  at_spot (Some rest) b items later here = later

  -- the jumps behind a spot are jumps of the listing
  spots_behind : (s : Spot) (items : List Item) → AllByRecursion P (spots items)
      → AllByRecursion P (spots (unwrap_or (behind s items) []))
  unfolding behind
  spots_behind s [] h = tt
  spots_behind s (item.Node node other handler place ∷ items) h = spots_behind s items h
  spots_behind s (item.Spot t ∷ items) h =
      at_spot (behind s items) (t.0 == s.0) items (spots_behind s items h) h
  spots_behind s (item.Jump t ∷ items) h = spots_behind s items h.1
  spots_behind s (item.Copy block ∷ items) h =
      spots_behind s items (behind_ahead block.entry (spots items) h)

  all_of : ((s : Spot) → P s) → (ss : List Spot) → AllByRecursion P ss
  all_of each [] = tt
  all_of each (s ∷ ss) = (each s, all_of each ss)

module _ (f g : Spot → Target) where
  abbrev Same : Spot → Type 0
  Same s = f s ≡ g s

  led_alike : (first : ℕ) (a b : Target) (t : Target) (ss : List Spot)
      → AllByRecursion Same (ahead t ss) → (AllByRecursion Same ss → a ≡ b)
      → led first f a t ≡ led first g b t
  led_alike first a b (target.Node n) ss h same = refl
  led_alike first a b (target.Spot s) ss h same = h.0
  led_alike first a b target.Behind ss h same = same h
  led_alike first a b target.Out ss h same = refl

  goes_alike : (whole items : List Item) → AllByRecursion Same (spots items)
      → goes whole f items ≡ goes whole g items
  unfolding goes
  goes_alike whole [] h = refl
  goes_alike whole (item.Node node other handler place ∷ items) h = refl
  goes_alike whole (item.Spot s ∷ items) h = goes_alike whole items h
  goes_alike whole (item.Jump s ∷ items) h = h.0
  goes_alike whole (item.Copy block ∷ items) h =
      led_alike _ (goes whole f items) (goes whole g items) block.entry (spots items) h
      (goes_alike whole items)

  behind_alike : (whole : List Item) (o : Option (List Item)) (t : Target)
      → AllByRecursion Same (spots (unwrap_or o []))
      → option_map_or (goes whole f) o t ≡ option_map_or (goes whole g) o t
  behind_alike whole None t h = refl
  behind_alike whole (Some rest) t h = goes_alike whole rest h

-- ---- of how many spots something is told

abbrev one : Target → ℕ
one target.Out = 0
one other = 1

abbrev told : (Spot → Target) → List Spot → ℕ
told f [] = 0
told f (s ∷ ss) = one (f s) + told f ss

one_of : (t : Target) → (t ≡ target.Out) ⊎ (one t ≡ 1)
one_of (target.Node n) = inr refl
one_of (target.Spot s) = inr refl
one_of target.Behind = inr refl
one_of target.Out = inl refl

one_at_most : (t : Target) → one t ≤ 1
one_at_most t = by (one_of t)
  where
    by : (t ≡ target.Out) ⊎ (one t ≡ 1) → one t ≤ 1
    by (inl e) = omega (arith, ap one e)
    by (inr e) = omega (arith, e)

told_few : (f : Spot → Target) (ss : List Spot) → told f ss ≤ length ss
told_few f [] = omega arith
told_few f (s ∷ ss) = omega (arith, one_at_most (f s), told_few f ss)

-- the same is told of each spot, or of one more spot something is told
record Grows (f g : Spot → Target) (ss : List Spot) : Type 0 where
  either : AllByRecursion (λ s. f s ≡ g s) ss ⊎ (suc (told f ss) ≤ told g ss)
  no_less : told f ss ≤ told g ss

module _ (f g : Spot → Target) where
  grows_alike : (s : Spot) (ss : List Spot) → f s ≡ g s → Grows f g ss → Grows f g (s ∷ ss)
  grows_alike s ss e h = record { either = same h.either; no_less = omega (arith, here, h.no_less) }
    where
      here : one (f s) ≡ one (g s)
      here = ap one e

      same : AllByRecursion (λ t. f t ≡ g t) ss ⊎ (suc (told f ss) ≤ told g ss)
          → AllByRecursion (λ t. f t ≡ g t) (s ∷ ss) ⊎ (suc (told f (s ∷ ss)) ≤ told g (s ∷ ss))
      same (inl all) = inl (e, all)
      same (inr less) = inr (omega (arith, here, less))

  grows_at : (s : Spot) (ss : List Spot) → Below (f s) (g s) → (g s ≡ target.Out) ⊎ (one (g s) ≡ 1)
      → Grows f g ss → Grows f g (s ∷ ss)
  grows_at s ss (inr e) of h = grows_alike s ss e h
  grows_at s ss (inl e) (inl d) h = grows_alike s ss (e ∙ sym d) h
  grows_at s ss (inl e) (inr there) h =
      let here : one (f s) ≡ 0 = ap one e in
      record {
        either = inr (omega (arith, here, there, h.no_less));
        no_less = omega (arith, here, there, h.no_less);
      }

  grows : Extends f g → (ss : List Spot) → Grows f g ss
  grows more [] = record { either = inl tt; no_less = omega arith }
  grows more (s ∷ ss) = grows_at s ss (more s) (one_of (g s)) (grows more ss)

-- ---- turns

module _ (whole : List Item) where
  abbrev Steady : ℕ → Type 0
  Steady n = AllByRecursion (λ s. leads whole n s ≡ leads whole (suc n) s) (spots whole)

  -- where one jump more changes nothing for the jumps, no further one changes anything
  steady_spots : (n : ℕ) → Steady n → (s : Spot)
      → leads whole (suc n) s ≡ leads whole (suc (suc n)) s
  unfolding leads
  steady_spots n h s =
      behind_alike (leads whole n) (leads whole (suc n)) whole (behind s whole) (target.Spot s)
      (spots_behind (λ t. leads whole n t ≡ leads whole (suc n) t) s whole h)

  steady_further : (n : ℕ) → Steady n → Steady (suc n)
  steady_further n h =
      all_of (λ s. leads whole (suc n) s ≡ leads whole (suc (suc n)) s) (steady_spots n h)
      (spots whole)

  abbrev growing : (n : ℕ) → Grows (leads whole n) (leads whole (suc n)) (spots whole)
  growing n = grows (leads whole n) (leads whole (suc n)) (leads_further whole n) (spots whole)

  steady_or_more : (n : ℕ) → Steady n ⊎ (n ≤ told (leads whole n) (spots whole))
  steady_or_more zero = inr (omega arith)
  steady_or_more (suc n) = by (steady_or_more n) (growing n).either
    where
      by : Steady n ⊎ (n ≤ told (leads whole n) (spots whole))
          → Steady n ⊎ (suc (told (leads whole n) (spots whole))
          ≤ told (leads whole (suc n)) (spots whole))
          → Steady (suc n) ⊎ (suc n ≤ told (leads whole (suc n)) (spots whole))
      by (inl h) other = inl (steady_further n h)
      by (inr many) (inl h) = inl (steady_further n h)
      by (inr many) (inr less) = inr (omega (arith, many, less))

  steady_in_the_end : Steady (length whole)
  steady_in_the_end = by (steady_or_more (length whole)) (growing (length whole)).either
    where
      by : Steady (length whole) ⊎ (length whole ≤ told (leads whole (length whole)) (spots whole))
          → Steady (length whole) ⊎ (suc (told (leads whole (length whole)) (spots whole))
          ≤ told (leads whole (suc (length whole))) (spots whole)) → Steady (length whole)
      by (inl h) other = h
      by (inr many) (inl h) = h
      by (inr many) (inr less) =
          absurd (omega (
            arith,
            many,
            less,
            told_few (leads whole (suc (length whole)))
                (spots whole),
            spots_few whole,
          ))

  -- where a spot leads is where a run goes on behind it
  pub settled : (s : Spot) → jump_of whole s
      ≡ option_map_or (goes whole (jump_of whole)) (behind s whole) (target.Spot s)
  unfolding leads
  settled s = steady_spots (length whole) steady_in_the_end s

pub jumps_lead_on : (whole items : List Item) (s : Spot) → behind s whole ≡ Some items
    → jump_of whole s ≡ way_on whole items
jumps_lead_on whole items s e =
    settled whole s ∙ ap (λ o. option_map_or (goes whole (jump_of whole)) o (target.Spot s)) e

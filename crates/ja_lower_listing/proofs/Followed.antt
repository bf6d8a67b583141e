-- The ways that a pass from the end of a listing finds, followed, are those of the listing.
use Rattle.std.proofs.Common.{◌≡◌, ℕ, ◌+◌, ◌-◌, ◌==◌, Bool, true, false, cond, List, [], ◌∷◌, length, zero, suc, Option, Some, None, unwrap_or, inl, inr, refl, ap, sym, ◌∙◌}
use Rattle.std.specs.Option.{option_or, option_map_or}
use Rattle.ja_lower_listing.specs.declared.item.Spot.{Spot}
use Rattle.ja_lower_listing.specs.declared.item.Target.{Target}
use Rattle.ja_lower_listing.specs.declared.item.Target.TheVariants as target
use Rattle.ja_lower_listing.specs.declared.item.Item.{Item}
use Rattle.ja_lower_listing.specs.declared.item.Item.TheVariants as item
use Rattle.ja_lower_listing.specs.Listing.{node_count, behind, led, goes, leads, jump_of, way_on}
use Rattle.ja_lower_listing.specs.code.Passes.{Seen, seen, known, further, after, landed, followed, IsEnd}
use Rattle.ja_lower_listing.proofs.Jumps.{Below, leads_further, settled}

-- items behind one at the end of a listing are at its end
pub end_behind : (whole : List Item) (x : Item) (items : List Item) → IsEnd whole (x ∷ items)
    → IsEnd whole items
unfolding behind
end_behind whole (item.Node node other handler place) items h = h
end_behind whole (item.Jump s) items h = h
end_behind whole (item.Copy block) items h = h
end_behind whole (item.Spot t) items h =
    λ s rest e. h s rest (found s rest (behind s items) (cond (t.0 == s.0) (Some items) None) e)
  where
    found : (s : Spot) (rest : List Item) (o p : Option (List Item)) → o ≡ Some rest
        → option_or o p ≡ Some rest
    found s rest None p e = cc
    found s rest (Some other) p e = e

below_both : (a b c : Target) → Below a b → Below b c → Below a c
below_both a b c (inl e) h = inl e
below_both a b c (inr e) (inl d) = inl (e ∙ d)
below_both a b c (inr e) (inr d) = inr (e ∙ d)

module _ (whole : List Item) where
  abbrev final : Spot → Target
  final = jump_of whole

  abbrev Stands : Target → List Item → Type 0
  Stands (target.Spot t) items =
      (goes whole final items ≡ final t) × ((n : ℕ)
      → Below (goes whole (leads whole n) items) (leads whole n t))
  Stands other items = goes whole final items ≡ other

  -- what a pass tells of the spots, beside the lines behind them
  abbrev Knows : Option Target → Option (List Item) → Type 0
  Knows None None = Unit {0}
  Knows None (Some rest) = ⊥
  Knows (Some o) None = ⊥
  Knows (Some o) (Some rest) = Stands o rest

  knows_spot : (b : Bool) (o : Option Target) (p : Option (List Item)) (here : Target)
      (items : List Item) → Knows o p → Stands here items
      → Knows (option_or o (cond b (Some here) None)) (option_or p (cond b (Some items) None))
  knows_spot true None None here items k h = h
  knows_spot false None None here items k h = tt
  knows_spot b None (Some rest) here items k h = absurd k
  knows_spot b (Some o) None here items k h = absurd k
  knows_spot b (Some o) (Some rest) here items k h = k

  -- ---- lines that go on as others, or where a jump leads

  stands_alike : (o : Target) (items others : List Item)
      → goes whole final others ≡ goes whole final items
      → ((n : ℕ) → goes whole (leads whole n) others ≡ goes whole (leads whole n) items)
      → Stands o items → Stands o others
  stands_alike (target.Node m) items others e d h = e ∙ h
  stands_alike target.Behind items others e d h = e ∙ h
  stands_alike target.Out items others e d h = e ∙ h
  stands_alike (target.Spot t) items others e d h =
      (e ∙ h.0, λ n. below_both _ _ _ (inr (d n)) (h.1 n))

  -- what a spot leads to, where lines stand behind it
  led_by : (t : Spot) (rest : List Item) (f : Spot → Target) → behind t whole ≡ Some rest
      → option_map_or (goes whole f) (behind t whole) (target.Spot t) ≡ goes whole f rest
  led_by t rest f e = ap (λ x. option_map_or (goes whole f) x (target.Spot t)) e

  -- lines that go on where a jump to a spot leads
  stands_jump : (t : Spot) (items rest : List Item) (o : Target) → goes whole final items ≡ final t
      → ((n : ℕ) → goes whole (leads whole n) items ≡ leads whole n t) → behind t whole ≡ Some rest
      → Stands o rest → Stands o items
  unfolding leads
  stands_jump t items rest (target.Node m) e d b h =
      e ∙ (settled whole t ∙ (led_by t rest final b ∙ h))
  stands_jump t items rest target.Behind e d b h =
      e ∙ (settled whole t ∙ (led_by t rest final b ∙ h))
  stands_jump t items rest target.Out e d b h = e ∙ (settled whole t ∙ (led_by t rest final b ∙ h))
  stands_jump t items rest (target.Spot u) e d b h = (
    e ∙ (settled whole t ∙ (led_by t rest final b ∙ h.0)),
    λ n. below_both _ _ _ (inr (d n)) (below_both _ _ _ (leads_further whole n t)
        (below_both _ _ _ (inr (led_by t rest (leads whole n) b)) (h.1 n))),
  )

  stands_at : (t : Spot) (items lines : List Item) (o : Option Target) (p : Option (List Item))
      → goes whole final lines ≡ final t → ((n : ℕ)
      → goes whole (leads whole n) lines ≡ leads whole n t) → behind t items ≡ p → IsEnd whole items
      → Knows o p → Stands (unwrap_or o (target.Spot t)) lines
  stands_at t items lines None None e d b end k = (e, λ n. inr (d n))
  stands_at t items lines None (Some rest) e d b end k = absurd k
  stands_at t items lines (Some o) None e d b end k = absurd k
  stands_at t items lines (Some o) (Some rest) e d b end k =
      stands_jump t lines rest o e d (end t rest b) k

  abbrev IsSeen : Seen → List Item → Type 0
  IsSeen x items = Stands x.here items × ((s : Spot) → Knows (x.at s.0) (behind s items))

  -- lines that begin with a copy
  stands_copy : (first : ℕ) (items lines : List Item) (t : Target)
      → ((f : Spot → Target) → goes whole f lines ≡ led first f (goes whole f items) t)
      → IsEnd whole items → IsSeen (seen whole items) items
      → Stands (led first (known (seen whole items)) (seen whole items).here t) lines
  stands_copy first items lines (target.Node n) e end passed = e final
  stands_copy first items lines (target.Spot s) e end passed =
      stands_at s items lines ((seen whole items).at s.0) (behind s items) (e final)
      (λ n. e (leads whole n)) refl end (passed.1 s)
  stands_copy first items lines target.Behind e end passed =
      stands_alike (seen whole items).here items lines (e final) (λ n. e (leads whole n)) passed.0
  stands_copy first items lines target.Out e end passed = e final

  pub seen_stands : (items : List Item) → IsEnd whole items → IsSeen (seen whole items) items
  unfolding seen goes behind
  seen_stands [] end = (refl, λ s. tt)
  seen_stands (item.Node node other handler place ∷ items) end = (refl, (seen_stands items end).1)
  seen_stands (item.Spot t ∷ items) end =
      let passed = seen_stands items (end_behind whole (item.Spot t) items end) in (
        stands_alike (seen whole items).here items (item.Spot t ∷ items) refl (λ n. refl) passed.0,
        λ s. knows_spot (t.0 == s.0) ((seen whole items).at s.0) (behind s items)
            (seen whole items).here items (passed.1 s) passed.0,
      )
  seen_stands (item.Jump t ∷ items) end =
      let passed = seen_stands items end in (
        stands_at t items (item.Jump t ∷ items) ((seen whole items).at t.0) (behind t items) refl
            (λ n. refl) refl end (passed.1 t),
        passed.1,
      )
  seen_stands (item.Copy block ∷ items) end =
      let passed = seen_stands items end in (
        stands_copy (node_count whole - (length block.nodes + node_count items)) items
            (item.Copy block ∷ items) block.entry (λ f. refl) end passed,
        passed.1,
      )

  whole_end : IsEnd whole whole
  whole_end s rest e = e

  -- ---- ways that are followed

  abbrev goal : Target → Target
  goal (target.Spot t) = final t
  goal other = other

  -- so many jumps are enough
  abbrev Within : ℕ → Target → Type 0
  Within k (target.Spot t) = Below (final t) (leads whole k t)
  Within k other = Unit {0}

  abbrev at : Spot → Option Target
  at t = (seen whole whole).at t.0

  knows : (t : Spot) → Knows (at t) (behind t whole)
  knows t = (seen_stands whole whole_end).1 t

  -- a spot that stands nowhere leads around
  unknown_final : (t : Spot) → behind t whole ≡ None → final t ≡ target.Spot t
  unknown_final t e =
      settled whole t ∙ ap (λ x. option_map_or (goes whole final) x (target.Spot t)) e

  unknown_stays : (k : ℕ) (t : Spot) → at t ≡ None
      → landed whole (after whole k (target.Spot t)) ≡ target.Spot t
  unfolding after
  unknown_stays zero t e = ap (λ o. option_map_or (λ x. target.Out) o (target.Spot t)) e
  unknown_stays (suc k) t e =
      ap (λ o. landed whole (after whole k (unwrap_or o (target.Spot t)))) e ∙ unknown_stays k t e

  pub others_stay_at : (k : ℕ) (o : Target) → ((t : Spot) → o ≡ target.Spot t → ⊥)
      → after whole k o ≡ o
  unfolding after
  others_stay_at zero o h = refl
  others_stay_at (suc k) (target.Node n) h = others_stay_at k (target.Node n) h
  others_stay_at (suc k) (target.Spot t) h = absurd (h t refl)
  others_stay_at (suc k) target.Behind h = others_stay_at k target.Behind h
  others_stay_at (suc k) target.Out h = others_stay_at k target.Out h

  -- where no jump is left, one that is known leads out
  none_left : (t : Spot) → Below (final t) target.Out → final t ≡ target.Out
  none_left t (inl e) = e
  none_left t (inr e) = e

  within_further : (k : ℕ) (t : Spot) (o : Target) (rest : List Item) → behind t whole ≡ Some rest
      → Stands o rest → Within (suc k) (target.Spot t) → (goal o ≡ final t) × Within k o
  unfolding leads
  within_further k t (target.Node m) rest b h w =
      (sym h ∙ sym (settled whole t ∙ led_by t rest final b), tt)
  within_further k t target.Behind rest b h w =
      (sym h ∙ sym (settled whole t ∙ led_by t rest final b), tt)
  within_further k t target.Out rest b h w =
      (sym h ∙ sym (settled whole t ∙ led_by t rest final b), tt)
  within_further k t (target.Spot u) rest b h w =
      let same : final t ≡ final u = settled whole t ∙ (led_by t rest final b ∙ h.0) in (
        sym same,
        below_both _ _ _ (inr (sym same))
            (below_both _ _ _ w (below_both _ _ _ (inr (led_by t rest (leads whole k) b)) (h.1 k))),
      )

  -- from each target so many turns lead to the end
  abbrev Lands : ℕ → Type 0
  Lands k = (o : Target) → Within k o → landed whole (after whole k o) ≡ goal o

  abbrev LandsAt : ℕ → Type 0
  LandsAt k =
      (t : Spot) (o : Option Target) (p : Option (List Item)) → at t ≡ o → behind t whole ≡ p
      → Knows o p → Within k (target.Spot t)
      → landed whole (after whole k (target.Spot t)) ≡ final t

  lands_by : (k : ℕ) → LandsAt k → Lands k
  lands_by k spot (target.Node n) w =
      ap (landed whole) (others_stay_at k (target.Node n) (λ t e. cc))
  lands_by k spot target.Behind w = ap (landed whole) (others_stay_at k target.Behind (λ t e. cc))
  lands_by k spot target.Out w = ap (landed whole) (others_stay_at k target.Out (λ t e. cc))
  lands_by k spot (target.Spot t) w = spot t (at t) (behind t whole) refl refl (knows t) w

  lands_at : (k : ℕ) → LandsAt k
  unfolding after leads
  lands_at k t None None a b n w = unknown_stays k t a ∙ sym (unknown_final t b)
  lands_at k t None (Some rest) a b n w = absurd n
  lands_at k t (Some o) None a b n w = absurd n
  lands_at zero t (Some o) (Some rest) a b n w =
      ap (λ x. option_map_or (λ y. target.Out) x (target.Spot t)) a ∙ sym (none_left t w)
  lands_at (suc k) t (Some o) (Some rest) a b n w =
      let next = within_further k t o rest b n w in
      ap (λ x. landed whole (after whole k (unwrap_or x (target.Spot t)))) a
      ∙ (lands_by k (lands_at k) o next.1 ∙ next.0)

  lands : (k : ℕ) → Lands k
  lands k = lands_by k (lands_at k)

  goal_of : (o : Target) (items : List Item) → Stands o items → goal o ≡ way_on whole items
  goal_of (target.Node m) items h = sym h
  goal_of target.Behind items h = sym h
  goal_of target.Out items h = sym h
  goal_of (target.Spot t) items h = sym h.0

  within_all : (o : Target) → Within (suc (length whole)) o
  within_all (target.Node m) = tt
  within_all target.Behind = tt
  within_all target.Out = tt
  within_all (target.Spot t) = inr refl

  -- where a run goes on behind a node
  pub way_lands : (items : List Item) → IsEnd whole items
      → followed whole (seen whole items).here ≡ way_on whole items
  way_lands items end =
      lands (suc (length whole)) (seen whole items).here (within_all (seen whole items).here)
      ∙ goal_of (seen whole items).here items (seen_stands items end).0

  -- where lines are entered
  pub entry_lands : followed whole (seen whole whole).here ≡ way_on whole whole
  entry_lands = way_lands whole whole_end

  -- where a jump leads
  pub jump_lands : (s : Spot) → followed whole (target.Spot s) ≡ jump_of whole s
  jump_lands s = lands (suc (length whole)) (target.Spot s) (inr refl)

-- what is no spot is where it is
pub others_stay : (whole : List Item) (turns : ℕ) (o : Target)
    → ((t : Spot) → o ≡ target.Spot t → ⊥) → after whole turns o ≡ o
others_stay whole turns o h = others_stay_at whole turns o h

-- one turn more begins with one spot followed
pub one_turn : (whole : List Item) (turns left : ℕ) (o : Target) → turns ≡ suc left
    → after whole turns o ≡ after whole left (further whole o)
unfolding after
one_turn whole turns left o e = rw e refl

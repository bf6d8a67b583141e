-- Messages and links in order are so by the spots of their places.
use Rattle.std.specs.Prelude.{◌≡◌, ℕ, Bool, true, false, if◌then◌else◌, List, [], ◌∷◌, filter, map, Option, Some, None}
use Rattle.std.specs.List.{AllByRecursion}
use Rattle.std.specs.Option.{option_map}
use Rattle.std.proofs.Common.{◌∙◌, sym, ap, subst, inl, inr, arith}
use Rattle.ja_base.specs.declared.ids.FnId.{FnId}
use Rattle.ja_base.specs.declared.ids.Place.{Place}
use Rattle.ja_files.specs.declared.file.File.{File}
use Rattle.ja_files.specs.Files.{characters_of, spot_of}
use Rattle.ja_files.specs.Order.{IsUpTo}
use Rattle.ja_files.proofs.Kept.{order_kept}
use Rattle.ja_graph.specs.declared.program.Program.{Program}
use Rattle.ja_rows.specs.declared.table.Warning.{Warning}
use Rattle.ja_rows.specs.Table.{Table}
use Rattle.ja_rows.specs.Warning.{builtin_number, kind_number, numbers_of, AreOrdered, IsBelow as NumbersBelow}
use Rattle.ja_lint_top.specs.declared.links.Link.{Link}
use Rattle.ja_show.specs.declared.message.Link.{Link as ShownLink}
use Rattle.ja_show.specs.declared.message.Message.{Message}
use Rattle.ja_show.specs.Page as page
use Rattle.ja_show.specs.Page.{AreMessagesOrdered, Precedes}
use Rattle.ja_lint_top.specs.Calls.{AreLinksOrdered, IsBelow, IsLinkBelow}
use Rattle.ja_lint_top.specs.Lint.{link_in}
use Rattle.ja_lint_top.specs.Refusals.{lines_of}
use Rattle.ja_lint_top.specs.Telling.{AreTold, IsStanding, Tells}

-- ---- links

up_to : (a b : Place) → IsBelow a b → IsUpTo a b
up_to a b (inl line) = inl line
up_to a b (inr column) = inr (column.0, omega (arith, column.1))

same_up_to : (a b : Place) → a ≡ b → IsUpTo a b
same_up_to a b e =
    inr (ap (λ (x : Place). x.line) e, omega (arith, ap (λ (x : Place). x.column) e))

link_up_to : (a b : Link) → IsLinkBelow a b → IsUpTo a.from b.from
link_up_to a b (inl from) = up_to a.from b.from from
link_up_to a b (inr to) = same_up_to a.from b.from to.0

module _ (files : List File) where
  abbrev IsBehind : Link → ShownLink → Type 0
  IsBehind link next = Precedes (Some (spot_of (lines_of files) link.from)) (Some next.from)

  links_behind : (link : Link) (links : List Link) → AllByRecursion (IsLinkBelow link) links
      → AllByRecursion (IsBehind link) (map (link_in (lines_of files)) links)
  links_behind link [] below = tt
  links_behind link (next ∷ links) below = (
    order_kept (map characters_of files) link.from next.from (link_up_to link next below.0),
    links_behind link links below.1,
  )

  -- links in the order of their places are so by the spots of these
  pub links_ordered : (links : List Link) → AreLinksOrdered links
      → page.AreLinksOrdered (map (link_in (lines_of files)) links)
  links_ordered [] ordered = tt
  links_ordered (link ∷ links) ordered =
      (links_behind link links ordered.0, links_ordered links ordered.1)

-- ---- some of the warnings

both : (P : List Warning → Type 0) (b : Bool) (ws vs : List Warning) → P ws → P vs
    → P (if b then ws else vs)
both P true ws vs kept left = kept
both P false ws vs kept left = left

module _ (kept : Warning → Bool) where
  all_kept : (P : Warning → Type 0) (ws : List Warning) → AllByRecursion P ws
      → AllByRecursion P (filter kept ws)
  all_kept P [] all = tt
  all_kept P (w ∷ ws) all =
      let rest = all_kept P ws all.1 in
      both (AllByRecursion P) (kept w) (w ∷ filter kept ws) (filter kept ws) (all.0, rest) rest

  kept_ordered : (ws : List Warning) → AreOrdered ws → AreOrdered (filter kept ws)
  kept_ordered [] ordered = tt
  kept_ordered (w ∷ ws) ordered =
      let rest = kept_ordered ws ordered.1 in
      let first = all_kept (λ (v : Warning). NumbersBelow (numbers_of w) (numbers_of v)) ws
      ordered.0 in
      both AreOrdered (kept w) (w ∷ filter kept ws) (filter kept ws) (first, rest) rest

-- ---- messages

-- a warning in a built-in function has no place, any other its own
abbrev place_for : Option FnId → Place → Option Place
place_for None at = Some at
place_for (Some f) at = None

module _ (files : List File) where
  abbrev PlacesPrecede : Option Place → Option Place → Type 0
  PlacesPrecede a b = Precedes (option_map (spot_of (lines_of files)) a)
      (option_map (spot_of (lines_of files)) b)

  kept_up_to : (a b : Place) → IsUpTo a b → PlacesPrecede (Some a) (Some b)
  kept_up_to a b up = order_kept (map characters_of files) a b up

  numbers_precede : (a b : Option FnId) (x y : Place) (k l : ℕ)
      → NumbersBelow (builtin_number a ∷ x.line ∷ x.column ∷ k ∷ [])
      (builtin_number b ∷ y.line ∷ y.column ∷ l ∷ [])
      → PlacesPrecede (place_for a x) (place_for b y)
  numbers_precede None None x y k l (inl builtin) = absurd (omega (arith, builtin))
  numbers_precede None None x y k l (inr (same, inl line)) = kept_up_to x y (inl line)
  numbers_precede None None x y k l (inr (same, inr (line, inl column))) =
      kept_up_to x y (inr (line, omega (arith, column)))
  numbers_precede None None x y k l (inr (same, inr (line, inr (column, kind)))) =
      kept_up_to x y (inr (line, omega (arith, column)))
  numbers_precede None (Some g) x y k l below = tt
  numbers_precede (Some f) None x y k l (inl builtin) = absurd (omega (arith, builtin))
  numbers_precede (Some f) None x y k l (inr rest) = absurd (omega (arith, rest.0))
  numbers_precede (Some f) (Some g) x y k l below = tt

module _ (files : List File) (p : Program) (t : Table) where
  stands : (b : Option FnId) (w : Warning) (place : Option Place) (calls : List Place)
      → IsStanding p t b w.place place calls → place ≡ place_for b w.place
  stands None w place calls standing = standing.0
  stands (Some f) w place calls standing = standing.0

  spot_is : (w : Warning) (m : Message) → Tells files p t w m
      → m.spot ≡ option_map (spot_of (lines_of files)) (place_for w.builtin w.place)
  spot_is w m tells = tells.spot_is
      ∙ ap (option_map (spot_of (lines_of files)))
      (stands w.builtin w tells.place tells.calls tells.standing)

  told_precede : (w v : Warning) (m n : Message) → Tells files p t w m → Tells files p t v n
      → NumbersBelow (numbers_of w) (numbers_of v) → Precedes m.spot n.spot
  told_precede w v m n first second below =
      let spot = option_map (spot_of (lines_of files)) in
      subst (λ o. Precedes o n.spot) (sym (spot_is w m first))
      (subst (Precedes (spot (place_for w.builtin w.place))) (sym (spot_is v n second))
      (numbers_precede files w.builtin v.builtin w.place v.place (kind_number w.kind)
      (kind_number v.kind) below))

  behind : (w : Warning) (m : Message) → Tells files p t w m
      → (ws : List Warning) (ms : List Message)
      → AllByRecursion (λ (v : Warning). NumbersBelow (numbers_of w) (numbers_of v)) ws
      → AreTold files p t ws ms → AllByRecursion (λ (n : Message). Precedes m.spot n.spot) ms
  behind w m first [] ms below told =
      subst (AllByRecursion (λ (n : Message). Precedes m.spot n.spot)) (sym told) tt
  behind w m first (v ∷ ws) [] below told = absurd told
  behind w m first (v ∷ ws) (n ∷ ms) below told =
      (told_precede w v m n first told.0 below.0, behind w m first ws ms below.1 told.1)

  all_ordered : (ws : List Warning) (ms : List Message) → AreOrdered ws
      → AreTold files p t ws ms → AreMessagesOrdered ms
  all_ordered [] ms ordered told = subst AreMessagesOrdered (sym told) tt
  all_ordered (w ∷ ws) [] ordered told = absurd told
  all_ordered (w ∷ ws) (m ∷ ms) ordered told =
      (behind w m told.0 ws ms ordered.0 told.1, all_ordered ws ms ordered.1 told.1)

  -- the messages of some warnings in order are in the order of their spots, those without one last
  pub messages_ordered : (kept : Warning → Bool) (ws : List Warning) (ms : List Message)
      → AreOrdered ws → AreTold files p t (filter kept ws) ms → AreMessagesOrdered ms
  messages_ordered kept ws ms ordered told =
      all_ordered (filter kept ws) ms (kept_ordered kept ws ordered) told

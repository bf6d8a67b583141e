-- Callers of callers, and lists in order of the same elements.
use Rattle.std.specs.Prelude.{◌≡◌, ℕ, zero, suc, IsTrue, Contains, List, [], ◌∷◌, length}
use Rattle.std.specs.List.{AllByRecursion}
use Rattle.std.proofs.Common.{refl, sym, ap, subst, inl, inr, arith}
use Rattle.ja_base.specs.declared.ids.FnId.{FnId}
use Rattle.ja_base.specs.declared.ids.Place.{Place}
use Rattle.ja_files.specs.declared.file.File.{File}
use Rattle.ja_graph.specs.declared.program.Program.{Program}
use Rattle.ja_abstract.specs.Lists.{Member}
use Rattle.ja_rows.specs.declared.table.Edge.{Edge}
use Rattle.ja_rows.specs.declared.table.Warning.{Warning}
use Rattle.ja_rows.specs.Table.{Table}
use Rattle.ja_table.proofs.Ascending.{of_member, same_elements, Ascends}
use Rattle.ja_lint_top.specs.declared.links.Link.{Link}
use Rattle.ja_show.specs.declared.message.Message.{Message}
use Rattle.ja_lint_top.specs.Calls.{AreCallers, AreLinks, AreLinksOrdered, ArePlacesOrdered, IsBelow, IsCaller, IsLink, IsLinkBelow, IsOfText, Leads}
use Rattle.ja_lint_top.specs.Telling.{AreTold}

-- ---- callers

module _ (p : Program) (t : Table) (e : Edge) (edge_is : IsTrue (t.edge e))
    (built_in : IsOfText p e.caller.function → ⊥) where
  -- one call more
  leads_on : (n : ℕ) (g : FnId) → Leads p t n g e.caller.function
      → Leads p t (suc n) g e.callee.function
  leads_on zero g is =
      (e, edge_is, sym is, (λ of. built_in (subst (IsOfText p) is of)), refl)
  leads_on (suc n) g (d, d_is, caller, g_built_in, rest) =
      (d, d_is, caller, g_built_in, leads_on n d.callee.function rest)

  pub followed : (at : Place) → IsCaller p t e.caller.function at
      → IsCaller p t e.callee.function at
  followed at (g, n, calls, leads) = (g, suc n, calls, leads_on n g leads)

-- ---- lists in order

member_of : {X : Type 0} (x : X) (xs : List X) → Contains xs x → Member x xs
member_of x [] (k, within, is) = absurd (omega (arith, within))
member_of x (y ∷ xs) (zero, within, is) = inl is
member_of x (y ∷ xs) (suc k, within, is) = inr (member_of x xs (k, omega (arith, within), is))

one_list : {X : Type 0} (Below : X → X → Type 0) → ((x y : X) → Below x y → Below y x → ⊥)
    → (P : X → Type 0) (xs ys : List X) → Ascends Below xs → Ascends Below ys
    → AllByRecursion P xs → AllByRecursion P ys → ((x : X) → P x → Contains xs x)
    → ((x : X) → P x → Contains ys x) → xs ≡ ys
one_list Below one_way P xs ys xs_rise ys_rise xs_all ys_all xs_have ys_have =
    same_elements Below one_way xs ys xs_rise ys_rise
    (λ z m. member_of z ys (ys_have z (of_member P xs z xs_all m)))
    (λ z m. member_of z xs (xs_have z (of_member P ys z ys_all m)))

below_one_way : (a b : Place) → IsBelow a b → IsBelow b a → ⊥
below_one_way a b (inl l) (inl k) = omega (arith, l, k)
below_one_way a b (inl l) (inr k) = omega (arith, l, k.0)
below_one_way a b (inr l) (inl k) = omega (arith, l.0, k)
below_one_way a b (inr l) (inr k) = omega (arith, l.1, k.1)

not_below_itself : (a b : Place) → a ≡ b → IsBelow b a → ⊥
not_below_itself a b e below =
    let self : IsBelow a a = subst (λ x. IsBelow x a) (sym e) below in
    below_one_way a a self self

link_one_way : (a b : Link) → IsLinkBelow a b → IsLinkBelow b a → ⊥
link_one_way a b (inl l) (inl k) = below_one_way a.from b.from l k
link_one_way a b (inl l) (inr k) = not_below_itself b.from a.from k.0 l
link_one_way a b (inr l) (inl k) = not_below_itself a.from b.from l.0 k
link_one_way a b (inr l) (inr k) = below_one_way a.to b.to l.1 k.1

places_rise : (xs : List Place) → ArePlacesOrdered xs → Ascends IsBelow xs
places_rise [] ordered = tt
places_rise (x ∷ xs) ordered = (ordered.0, places_rise xs ordered.1)

links_rise : (xs : List Link) → AreLinksOrdered xs → Ascends IsLinkBelow xs
links_rise [] ordered = tt
links_rise (x ∷ xs) ordered = (ordered.0, links_rise xs ordered.1)

module _ (p : Program) (t : Table) where
  pub one_list_of_callers : (f : FnId) (xs ys : List Place) → AreCallers p t f xs
      → AreCallers p t f ys → xs ≡ ys
  one_list_of_callers f xs ys a b =
      one_list IsBelow below_one_way (IsCaller p t f) xs ys (places_rise xs a.ordered)
      (places_rise ys b.ordered) a.each b.each a.complete b.complete

  pub one_list_of_links : (xs ys : List Link) → AreLinks p t xs → AreLinks p t ys → xs ≡ ys
  one_list_of_links xs ys a b =
      one_list IsLinkBelow link_one_way (IsLink p t) xs ys (links_rise xs a.ordered)
      (links_rise ys b.ordered) a.each b.each a.complete b.complete

  -- ---- messages

  pub one_each : (files : List File) (ws : List Warning) (ms : List Message)
      → AreTold files p t ws ms → length ms ≡ length ws
  one_each files [] ms told = ap length told
  one_each files (w ∷ ws) [] told = absurd told
  one_each files (w ∷ ws) (m ∷ ms) told =
      omega (arith, one_each files ws ms told.1)

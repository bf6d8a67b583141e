-- A site of a node is one of arguments objects where that node makes them there, since no other
-- node has the site.
use Rattle.std.proofs.Common.{◌≡◌, ℕ, zero, suc, ◌+◌, ◌<◌, ◌≤◌, Bool, true, false, List, [], ◌∷◌, ◌++◌, length, map, Some, None, refl, sym, ap, ◌∙◌, subst, arith}
use Rattle.std.specs.Prelude.{slice_get, ◌||◌}
use Rattle.std.specs.Option.{is_some}
use Rattle.std.specs.List.{AllByRecursion, flat_map, list_any, range_with_len}
use Rattle.std.proofs.lemmas.Bool.{false≢true, ne_eqb}
use Rattle.std.proofs.Math.Bool.{or-false}
use Rattle.std.proofs.lemmas.List.{map-append}
use Rattle.std.proofs.lemmas.Option.{same_Some}
use Rattle.ja_base.specs.declared.ids.Site.{Site}
use Rattle.ja_base.proofs.Lists.{all_weaker}
use Rattle.ja_graph.specs.declared.node.Node.{Node}
use Rattle.ja_graph.specs.declared.node.Node.TheVariants as node
use Rattle.ja_graph.specs.declared.node.NodeInfo.{NodeInfo}
use Rattle.ja_graph.specs.declared.program.Function.{Function}
use Rattle.ja_graph.specs.declared.program.Program.{Program}
use Rattle.ja_graph.specs.Node.{Making, makings, makes_arguments}
use Rattle.ja_graph.specs.Program.{is_arguments_site}
use Rattle.ja_graph.specs.WellFormed.{IsWellFormed, OwnedMaking, owned, makings_of, makings_from}
use Rattle.ja_machine.proofs.Lists.{all_left, all_right, all_unmap, all_both}

-- sites that are numbered in order, from a number on
abbrev InRow : ℕ → List Site → Type 0
InRow n [] = Unit {0}
InRow n (s ∷ ss) = (s.0 ≡ n) × InRow (suc n) ss

-- none of them is this one
abbrev AreOther : Site → List Site → Type 0
AreOther s ss = AllByRecursion (λ (t : Site). t.0 ≡ s.0 → ⊥) ss

row_left : (xs ys : List Site) (n : ℕ) → InRow n (xs ++ ys) → InRow n xs
row_left [] ys n all = tt
row_left (x ∷ xs) ys n all = (all.0, row_left xs ys (suc n) all.1)

row_right : (xs ys : List Site) (n : ℕ) → InRow n (xs ++ ys) → InRow (n + length xs) ys
row_right [] ys n all = let e : n ≡ n + 0 = omega arith in subst (λ m. InRow m ys) e all
row_right (x ∷ xs) ys n all =
    let e : suc n + length xs ≡ n + suc (length xs) = omega arith in
    subst (λ m. InRow m ys) e (row_right xs ys (suc n) all.1)

row_from : (n : ℕ) (ss : List Site) → InRow n ss → AllByRecursion (λ (t : Site). n ≤ t.0) ss
row_from n [] all = tt
row_from n (s ∷ ss) all = (
  omega (arith, all.0),
  all_weaker (λ (t : Site). suc n ≤ t.0) (λ (t : Site). n ≤ t.0) (λ t l. omega (arith, l)) ss
      (row_from (suc n) ss all.1),
)

row_below : (n : ℕ) (ss : List Site) → InRow n ss
    → AllByRecursion (λ (t : Site). t.0 < n + length ss) ss
row_below n [] all = tt
row_below n (s ∷ ss) all = (
  omega (arith, all.0),
  all_weaker (λ (t : Site). t.0 < suc n + length ss) (λ (t : Site). t.0 < n + suc (length ss))
      (λ t l. omega (arith, l)) ss (row_below (suc n) ss all.1),
)

-- ---- of entries that have sites each

module _ {X : Type 0} (sites : X → List Site) where
  -- the sites of one are numbered in order
  row_of : (xs : List X) (i : ℕ) (x : X) (n : ℕ) → slice_get xs i ≡ Some x
      → InRow n (flat_map sites xs) → (m : ℕ) × InRow m (sites x)
  row_of [] i x n e all = absurd (false≢true (ap is_some e))
  row_of (y ∷ ys) zero x n e all = (
    n,
    subst (λ z. InRow n (sites z)) (same_Some y x e)
        (row_left (sites y) (flat_map sites ys) n all),
  )
  row_of (y ∷ ys) (suc i) x n e all =
      row_of ys i x (n + length (sites y)) e (row_right (sites y) (flat_map sites ys) n all)

  -- what holds of the sites of all holds of those of one
  of_entry : (P : Site → Type 0) (xs : List X) (i : ℕ) (x : X) → slice_get xs i ≡ Some x
      → AllByRecursion P (flat_map sites xs) → AllByRecursion P (sites x)
  of_entry P [] i x e all = absurd (false≢true (ap is_some e))
  of_entry P (y ∷ ys) zero x e all =
      subst (λ z. AllByRecursion P (sites z)) (same_Some y x e)
      (all_left P (sites y) (flat_map sites ys) all)
  of_entry P (y ∷ ys) (suc i) x e all =
      of_entry P ys i x e (all_right P (sites y) (flat_map sites ys) all)

  module _ (test : Site → X → Bool)
      (apart : (s : Site) (x : X) → AreOther s (sites x) → test s x ≡ false) where
    -- no entry passes at a site that none of them has
    none : (s : Site) (xs : List X) → AreOther s (flat_map sites xs) → list_any (test s) xs ≡ false
    none s [] all = refl
    none s (x ∷ xs) all =
        rw (apart s x (all_left (λ (t : Site). t.0 ≡ s.0 → ⊥) (sites x) (flat_map sites xs) all))
        (none s xs (all_right (λ (t : Site). t.0 ≡ s.0 → ⊥) (sites x) (flat_map sites xs) all))

    -- where they are numbered in order, the one that has a site alone decides
    only : (xs : List X) (i : ℕ) (x : X) (n : ℕ) → slice_get xs i ≡ Some x
        → InRow n (flat_map sites xs)
        → AllByRecursion (λ s. list_any (test s) xs ≡ test s x) (sites x)
    only [] i x n e all = absurd (false≢true (ap is_some e))
    only (y ∷ ys) zero x n e all =
        let others = row_from (n + length (sites y)) (flat_map sites ys)
        (row_right (sites y) (flat_map sites ys) n all) in
        let same : y ≡ x = same_Some y x e in
        subst (λ z. AllByRecursion (λ s. list_any (test s) (y ∷ ys) ≡ test s z) (sites z)) same
        (all_weaker (λ (s : Site). s.0 < n + length (sites y))
        (λ s. list_any (test s) (y ∷ ys) ≡ test s y)
        (λ s low. let rest : list_any (test s) ys ≡ false = none s ys
        (all_weaker (λ (t : Site). n + length (sites y) ≤ t.0) (λ (t : Site). t.0 ≡ s.0 → ⊥)
        (λ t high same_site. omega (arith, low, high, same_site)) (flat_map sites ys) others) in
        rw rest (or-false (test s y))) (sites y)
        (row_below n (sites y) (row_left (sites y) (flat_map sites ys) n all)))
    only (y ∷ ys) (suc i) x n e all =
        let behind = row_right (sites y) (flat_map sites ys) n all in
        let mine = row_below n (sites y) (row_left (sites y) (flat_map sites ys) n all) in
        let late = of_entry (λ (t : Site). n + length (sites y) ≤ t.0) ys i x e
        (row_from (n + length (sites y)) (flat_map sites ys) behind) in
        all_both (λ (s : Site). n + length (sites y) ≤ s.0)
        (λ s. list_any (test s) ys ≡ test s x)
        (λ s. list_any (test s) (y ∷ ys) ≡ test s x) (λ s high found.
        let not_first : test s y ≡ false = apart s y
        (all_weaker (λ (t : Site). t.0 < n + length (sites y)) (λ (t : Site). t.0 ≡ s.0 → ⊥)
        (λ t low same_site. omega (arith, low, high, same_site)) (sites y) mine) in
        rw not_first found) (sites x) late
        (only ys i x (n + length (sites y)) e behind)

-- ---- of nodes, and of functions

abbrev node_sites : NodeInfo → List Site
node_sites info = map (λ (m : Making). m.site) (makings info.node)

abbrev function_sites : Function → List Site
function_sites fn = flat_map node_sites fn.nodes

abbrev in_node : Site → NodeInfo → Bool
in_node s info = makes_arguments s info.node

abbrev in_function : Site → Function → Bool
in_function s fn = list_any (in_node s) fn.nodes

-- a node makes them at one of its sites
apart_node : (s : Site) (n : Node) → AreOther s (map (λ (m : Making). m.site) (makings n))
    → makes_arguments s n ≡ false
unfolding makings
apart_node s (node.Enter site (Some list)) other = ne_eqb list.0 s.0 other.1.0
apart_node s (node.Enter site None) other = refl
apart_node s n other = refl

apart_info : (s : Site) (info : NodeInfo) → AreOther s (node_sites info) → in_node s info ≡ false
apart_info s info other = apart_node s info.node other

apart_function : (s : Site) (fn : Function) → AreOther s (function_sites fn)
    → in_function s fn ≡ false
apart_function s fn other = none node_sites in_node apart_info s fn.nodes other

-- the sites of nodes, as the program numbers them
sites_of_owned : (f : ℕ) (ms : List Making)
    → map (λ (m : OwnedMaking). m.making.site) (map (owned f) ms) ≡ map (λ (m : Making). m.site) ms
sites_of_owned f [] = refl
sites_of_owned f (m ∷ ms) = ap (λ ss. m.site ∷ ss) (sites_of_owned f ms)

sites_of_nodes : (f : ℕ) (nodes : List NodeInfo)
    → map (λ (m : OwnedMaking). m.making.site) (makings_of f nodes) ≡ flat_map node_sites nodes
sites_of_nodes f [] = refl
sites_of_nodes f (info ∷ nodes) =
    map-append (λ (m : OwnedMaking). m.making.site) (map (owned f) (makings info.node))
    (makings_of f nodes)
    ∙ ap (λ ss. ss ++ map (λ (m : OwnedMaking). m.making.site) (makings_of f nodes))
    (sites_of_owned f (makings info.node))
    ∙ ap (λ ss. node_sites info ++ ss) (sites_of_nodes f nodes)

sites_of_functions : (f : ℕ) (fns : List Function)
    → map (λ (m : OwnedMaking). m.making.site) (makings_from f fns) ≡ flat_map function_sites fns
sites_of_functions f [] = refl
sites_of_functions f (fn ∷ fns) =
    map-append (λ (m : OwnedMaking). m.making.site) (makings_of f fn.nodes)
    (makings_from (suc f) fns)
    ∙ ap (λ ss. ss ++ map (λ (m : OwnedMaking). m.making.site) (makings_from (suc f) fns))
    (sites_of_nodes f fn.nodes)
    ∙ ap (λ ss. function_sites fn ++ ss) (sites_of_functions (suc f) fns)

row_numbered : (k n : ℕ) (ms : List OwnedMaking)
    → map (λ (m : OwnedMaking). m.making.site.0) ms ≡ range_with_len n k
    → InRow n (map (λ (m : OwnedMaking). m.making.site) ms)
row_numbered k n [] e = tt
row_numbered zero n (m ∷ ms) e = absurd (cc)
row_numbered (suc k) n (m ∷ ms) e =
    let first : m.making.site.0 ≡ n = cc in
    let rest : map (λ (m : OwnedMaking). m.making.site.0) ms ≡ range_with_len (n + 1) k = cc in
    let next : n + 1 ≡ suc n = omega arith in
    (first, row_numbered k (suc n) ms (rest ∙ ap (λ a. range_with_len a k) next))

module _ (p : Program) (good : IsWellFormed p) where
  all_in_row : InRow (length p.opening) (flat_map function_sites p.functions)
  all_in_row =
      subst (InRow (length p.opening)) (sites_of_functions 0 p.functions)
      (row_numbered _ (length p.opening) (makings_from 0 p.functions) good.numbered)

  -- a site without a node is none
  pub no_arguments : (s : Site) → s.0 < length p.opening → is_arguments_site p s ≡ false
  no_arguments s first =
      none function_sites in_function apart_function s p.functions
      (all_weaker (λ (t : Site). length p.opening ≤ t.0) (λ (t : Site). t.0 ≡ s.0 → ⊥)
      (λ t late same. omega (arith, first, late, same)) (flat_map function_sites p.functions)
      (row_from (length p.opening) (flat_map function_sites p.functions) all_in_row))

  -- a site of a node is one where the node makes them there
  pub node_arguments : (f : ℕ) (fn : Function) (n : ℕ) (info : NodeInfo)
      → slice_get p.functions f ≡ Some fn → slice_get fn.nodes n ≡ Some info
      → AllByRecursion (λ (m : Making). is_arguments_site p m.site
      ≡ makes_arguments m.site info.node) (makings info.node)
  node_arguments f fn n info fn_is info_is =
      let (first, in_row) = row_of function_sites p.functions f fn (length p.opening) fn_is
      all_in_row in
      let of_function = of_entry node_sites (λ s. list_any (in_function s) p.functions
      ≡ in_function s fn) fn.nodes n info info_is (only function_sites in_function apart_function
      p.functions f fn (length p.opening) fn_is all_in_row) in
      let of_node = only node_sites in_node apart_info fn.nodes n info first info_is in_row in
      all_unmap (λ s. is_arguments_site p s ≡ makes_arguments s info.node)
      (λ (m : Making). m.site) (makings info.node)
      (all_both (λ s. list_any (in_function s) p.functions ≡ in_function s fn)
      (λ s. in_function s fn ≡ in_node s info)
      (λ s. is_arguments_site p s ≡ makes_arguments s info.node)
      (λ s whole inside. whole ∙ inside) (node_sites info) of_function of_node)

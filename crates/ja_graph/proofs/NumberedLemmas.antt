-- Sites that are numbered in order, part by part.
use Rattle.std.proofs.Common.{◌≡◌, ℕ, zero, suc, ◌+◌, ◌-◌, ◌<◌, ◌≤◌, ◌↔◌, List, [], ◌∷◌, ◌++◌, length, get_or, map, drop, Some, None, refl, sym, ap, ◌∙◌, subst, arith}
use Rattle.std.specs.List.{AllByRecursion, range_with_len}
use Rattle.std.proofs.lemmas.List.{drop_more}
use Rattle.ja_graph.specs.declared.node.NodeInfo.{NodeInfo}
use Rattle.ja_graph.specs.declared.program.Function.{Function}
use Rattle.ja_graph.specs.declared.program.Program.{Program}
use Rattle.ja_graph.specs.Node.{Making, makings}
use Rattle.ja_graph.specs.code.Parts.{AreNumbered, EndsAt, AreSitesNumbered}
use Rattle.ja_graph.specs.WellFormed.{OwnedMaking, IsSiteTold, owned, makings_of, makings_from}

-- the number of a site
abbrev number : OwnedMaking → ℕ
number m = m.making.site.0

module _ (p : Program) where
  append-numbered : (a b c : ℕ) (xs ys : List OwnedMaking) → AreNumbered p a b xs
      → AreNumbered p b c ys → AreNumbered p a c (xs ++ ys)
  append-numbered a b c [] ys left right = let P : ℕ → Type 0 = λ n. AreNumbered p n c ys in
      subst P (sym left) right
  append-numbered a b c (x ∷ xs) ys left right =
      (left.0, left.1, append-numbered (a + 1) b c xs ys left.2 right)

  numbered-append : (a c : ℕ) (xs ys : List OwnedMaking) → AreNumbered p a c (xs ++ ys)
      → (b : ℕ) × AreNumbered p a b xs × AreNumbered p b c ys
  numbered-append a c [] ys all = (a, refl, all)
  numbered-append a c (x ∷ xs) ys all =
      let rest = numbered-append (a + 1) c xs ys all.2 in
      (rest.0, (all.0, all.1, rest.1), rest.2)

  -- a part that ends gives the way on
  pub ends_more : (a b last : ℕ) (xs ys : List OwnedMaking) → EndsAt p a xs (Some b)
      → AreNumbered p b last ys ↔ AreNumbered p a last (xs ++ ys)
  ends_more a b last xs ys ends = (
    λ right. append-numbered a b last xs ys ((ends b).0 refl) right,
    λ all.
        let parts = numbered-append a last xs ys all in
        let ends_there : Some b ≡ Some parts.0 = (ends parts.0).1 parts.1 in
        let same : parts.0 ≡ b = cc in
        let P : ℕ → Type 0 = λ n. AreNumbered p n last ys in
        subst P same parts.2,
  )

  -- a part that doesn't end is followed by none
  pub ends_never : (a last : ℕ) (xs ys : List OwnedMaking) → EndsAt p a xs None
      → AreNumbered p a last (xs ++ ys) → ⊥
  ends_never a last xs ys ends all =
      let parts = numbered-append a last xs ys all in
      let ends_there : None ≡ Some parts.0 = (ends parts.0).1 parts.1 in
      absurd (cc)

  numbered_run : (k a : ℕ) (ms : List OwnedMaking) → map number ms ≡ range_with_len a k
      → AllByRecursion (IsSiteTold p) ms → AreNumbered p a (a + k) ms
  numbered_run zero a [] numbers told = omega arith
  numbered_run zero a (m ∷ ms) numbers told = absurd (cc)
  numbered_run (suc k) a [] numbers told = absurd (cc)
  numbered_run (suc k) a (m ∷ ms) numbers told =
      let first : number m ≡ a = cc in
      let rest : map number ms ≡ range_with_len (a + 1) k = cc in
      let there : a + 1 + k ≡ a + suc k = omega arith in
      let P : ℕ → Type 0 = λ n. AreNumbered p (a + 1) n ms in
      (first, told.0, subst P there (numbered_run k (a + 1) ms rest told.1))

  -- how far numbers in order go
  run_of : (a b : ℕ) (ms : List OwnedMaking) → AreNumbered p a b ms
      → (k : ℕ) × (a + k ≡ b) × (map number ms ≡ range_with_len a k)
      × AllByRecursion (IsSiteTold p) ms
  run_of a b [] all = (0, omega (arith, all), refl, tt)
  run_of a b (m ∷ ms) all =
      let rest = run_of (a + 1) b ms all.2 in
      let k = rest.0 in
      let count : a + 1 + k ≡ b = rest.1 in
      let first : number m ≡ a = all.0 in (
        suc k,
        omega arith,
        ap (λ n. n ∷ map number ms) first ∙ ap (λ ns. a ∷ ns) rest.2,
        (all.1, rest.3),
      )

  -- the sites of all nodes are numbered in order exactly where they end with the last site
  pub sites_numbered : AreNumbered p (length p.opening) (length p.sites)
      (makings_from 0 p.functions) ↔ AreSitesNumbered p
  sites_numbered = (
    λ all.
        let run = run_of (length p.opening) (length p.sites) (makings_from 0 p.functions) all in
        let k = run.0 in
        let count : length p.opening + k ≡ length p.sites = run.1 in
        let left : k ≡ length p.sites - length p.opening = omega arith in
        record {
          sites = omega arith;
          numbered = run.2 ∙ ap (range_with_len (length p.opening)) left;
          told = run.3;
        },
    λ parts.
        let few : length p.opening ≤ length p.sites = parts.sites in
        let there : length p.opening + (length p.sites - length p.opening)
        ≡ length p.sites = omega arith in
        let P : ℕ → Type 0 = λ n. AreNumbered p (length p.opening) n (makings_from 0 p.functions) in
        subst P there (numbered_run (length p.sites - length p.opening) (length p.opening)
        (makings_from 0 p.functions) parts.numbered parts.told),
  )

  -- ---- the sites behind a part of them

  pub part_more : (number next after : ℕ) (whole left head rest : List OwnedMaking)
      → left ≡ head ++ rest → EndsAt p next head (Some after)
      → ((last : ℕ) → AreNumbered p next last left ↔ AreNumbered p number last whole) → (last : ℕ)
      → AreNumbered p after last rest ↔ AreNumbered p number last whole
  part_more number next after whole left head rest split ends so_far last =
      let P : List OwnedMaking → Type 0 = λ ms. AreNumbered p next last ms in
      let more = ends_more next after last head rest ends in (
        λ there. (so_far last).0 (subst P (sym split) (more.0 there)),
        λ all. more.1 (subst P split ((so_far last).1 all)),
      )

  pub part_never : (number next : ℕ) (whole left head rest : List OwnedMaking) → left ≡ head ++ rest
      → EndsAt p next head None → ((last : ℕ)
      → AreNumbered p next last left ↔ AreNumbered p number last whole) → EndsAt p number whole None
  part_never number next whole left head rest split ends so_far last =
      let P : List OwnedMaking → Type 0 = λ ms. AreNumbered p next last ms in (
        λ e. absurd (cc),
        λ all. absurd (ends_never next last head rest ends
            (subst P split ((so_far last).1 all))),
      )

  -- ---- the first part of what is left

  pub nodes_left : (owner i : ℕ) (nodes : List NodeInfo) (info : NodeInfo) → i < length nodes
      → info ≡ get_or nodes i info → makings_of owner (drop i nodes)
      ≡ map (owned owner) (makings info.node) ++ makings_of owner (drop (i + 1) nodes)
  nodes_left owner i nodes info within is =
      let left : drop i nodes ≡ info ∷ drop (i + 1) nodes = drop_more nodes i info within
      ∙ ap (λ (x : NodeInfo). x ∷ drop (i + 1) nodes) (sym is) in
      ap (makings_of owner) left

  pub functions_left : (i : ℕ) (fns : List Function) (fn : Function) → i < length fns
      → fn ≡ get_or fns i fn → makings_from i (drop i fns) ≡ makings_of i fn.nodes
      ++ makings_from (i + 1) (drop (i + 1) fns)
  functions_left i fns fn within is =
      let left : drop i fns ≡ fn ∷ drop (i + 1) fns = drop_more fns i fn within
      ∙ ap (λ (x : Function). x ∷ drop (i + 1) fns) (sym is) in
      let there : suc i ≡ i + 1 = omega arith in
      ap (makings_from i) left ∙ ap (λ (k : ℕ). makings_of i fn.nodes
      ++ makings_from k (drop (i + 1) fns)) there

  pub makings_left : (owner i : ℕ) (ms : List Making) (m : Making) → i < length ms
      → m ≡ get_or ms i m → map (owned owner) (drop i ms) ≡ (owned owner m ∷ [])
      ++ map (owned owner) (drop (i + 1) ms)
  makings_left owner i ms m within is =
      let left : drop i ms ≡ m ∷ drop (i + 1) ms = drop_more ms i m within
      ∙ ap (λ (x : Making). x ∷ drop (i + 1) ms) (sym is) in
      ap (map (owned owner)) left

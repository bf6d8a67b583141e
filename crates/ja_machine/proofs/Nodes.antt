-- The built-in objects of a program are there, and the sites of its nodes stand in order, each with
-- its class.
use Rattle.std.proofs.Common.{◌≡◌, ℕ, zero, suc, ◌+◌, ◌-◌, ◌<◌, ◌≤◌, Bool, false, List, [], ◌∷◌, ◌++◌, length, map, Some, refl, sym, ap, ◌∙◌, subst, arith}
use Rattle.std.specs.Prelude.{slice_get, IsTrue}
use Rattle.std.specs.Option.{is_some, option_map_or}
use Rattle.std.specs.List.{AllByRecursion, range_with_len}
use Rattle.std.proofs.lemmas.Bool.{false≢true}
use Rattle.std.proofs.lemmas.Option.{same_Some}
use Rattle.ja_base.specs.declared.ids.Site.{Site}
use Rattle.ja_base.proofs.Lists.{all_weaker}
use Rattle.ja_graph.specs.declared.builtins.TheConstants as builtins
use Rattle.ja_graph.specs.declared.node.ErrorKind.{ErrorKind}
use Rattle.ja_graph.specs.declared.node.ErrorKind.TheVariants as error_kind
use Rattle.ja_graph.specs.declared.node.NodeInfo.{NodeInfo}
use Rattle.ja_graph.specs.declared.program.Class.{Class}
use Rattle.ja_graph.specs.declared.program.Class.TheVariants as class
use Rattle.ja_graph.specs.declared.program.Function.{Function}
use Rattle.ja_graph.specs.declared.program.Program.{Program}
use Rattle.ja_graph.specs.declared.program.SiteInfo.{SiteInfo}
use Rattle.ja_graph.specs.Node.{Making, makings, makes_arguments}
use Rattle.ja_graph.specs.Program.{global, is_arguments_site, runs_function}
use Rattle.ja_graph.specs.WellFormed.{IsWellFormed, OwnedMaking, IsSiteTold, owned, makings_of, makings_from}
use Rattle.ja_machine.specs.declared.machine.Heap.{Heap}
use Rattle.ja_machine.specs.Heap.{count}
use Rattle.ja_machine.specs.Objects.{first_of, prototype_of_error}
use Rattle.ja_machine.specs.Machine.{class_of_site}
use Rattle.ja_machine.specs.State.{IsObjectOf, IsHeap}
use Rattle.ja_machine.proofs.Lists.{all_left, all_right, all_unmap, all_both, range_within}
use Rattle.ja_machine.proofs.Heaps.{object_from_ordinal}
use Rattle.ja_machine.proofs.Growing.{IsNodeSite}
use Rattle.ja_machine.proofs.ArgumentSites.{node_arguments}

-- ---- the built-in objects

module _ (p : Program) (good : IsWellFormed p) (h : Heap) (known : IsHeap p h) where
  -- the only object of a built-in site
  builtin : (s : Site) (c : Class) → slice_get builtins.BUILTIN_CLASSES s.0 ≡ Some c
      → IsObjectOf h (first_of s)
  builtin s c is =
      let (info, info_is, class_is, fits) = good.builtins s.0 c is in
      object_from_ordinal h (first_of s) (let one : count h s ≡ 1 = known.opening s fits in
      omega arith)

  -- the global object
  pub global_there : IsObjectOf h (first_of global)
  global_there = builtin global class.Object refl

  -- the prototypes of objects
  pub object_prototype_there : IsObjectOf h (first_of builtins.OBJECT_PROTOTYPE)
  object_prototype_there = builtin builtins.OBJECT_PROTOTYPE class.Object refl

  -- .. of functions
  pub function_prototype_there : IsObjectOf h (first_of builtins.FUNCTION_PROTOTYPE)
  function_prototype_there = builtin builtins.FUNCTION_PROTOTYPE class.Function refl

  -- .. of arrays
  pub array_prototype_there : IsObjectOf h (first_of builtins.ARRAY_PROTOTYPE)
  array_prototype_there = builtin builtins.ARRAY_PROTOTYPE class.Array refl

  -- .. of texts
  pub string_prototype_there : IsObjectOf h (first_of builtins.STRING_PROTOTYPE)
  string_prototype_there = builtin builtins.STRING_PROTOTYPE class.String refl

  -- .. of booleans
  pub boolean_prototype_there : IsObjectOf h (first_of builtins.BOOLEAN_PROTOTYPE)
  boolean_prototype_there = builtin builtins.BOOLEAN_PROTOTYPE class.Boolean refl

  -- .. of numbers
  pub number_prototype_there : IsObjectOf h (first_of builtins.NUMBER_PROTOTYPE)
  number_prototype_there = builtin builtins.NUMBER_PROTOTYPE class.Number refl

  -- .. and of errors
  pub error_prototype_there : (kind : ErrorKind) → IsObjectOf h (first_of (prototype_of_error kind))
  error_prototype_there error_kind.Error = builtin builtins.ERROR_PROTOTYPE class.Error refl
  error_prototype_there error_kind.EvalError =
      builtin builtins.EVAL_ERROR_PROTOTYPE class.Error refl
  error_prototype_there error_kind.RangeError =
      builtin builtins.RANGE_ERROR_PROTOTYPE class.Error refl
  error_prototype_there error_kind.ReferenceError =
      builtin builtins.REFERENCE_ERROR_PROTOTYPE class.Error refl
  error_prototype_there error_kind.SyntaxError =
      builtin builtins.SYNTAX_ERROR_PROTOTYPE class.Error refl
  error_prototype_there error_kind.TypeError =
      builtin builtins.TYPE_ERROR_PROTOTYPE class.Error refl
  error_prototype_there error_kind.URIError = builtin builtins.URI_ERROR_PROTOTYPE class.Error refl

-- ---- the sites of nodes

-- a site of a node, whose objects run a function only where they are function objects, and its
-- class
pub record IsTold (p : Program) (m : Making) : Type 0 where
  pub site : IsNodeSite p m.site
  pub runs : (info : SiteInfo) → slice_get p.sites m.site.0 ≡ Some info
      → IsTrue (runs_function info) → m.class ≡ class.Function
  pub class : class_of_site p m.site.0 ≡ m.class

-- .. which is one of arguments objects or not
pub record IsMadeAs (p : Program) (arguments : Bool) (m : Making) : Type 0 where
  pub told : IsTold p m
  pub arguments_are : is_arguments_site p m.site ≡ arguments

abbrev pub IsMade : Program → Making → Type 0
IsMade p m = IsMadeAs p false m

-- sites that are numbered in order, from a number on
abbrev pub InOrder : ℕ → List Making → Type 0
InOrder n [] = Unit {0}
InOrder n (m ∷ ms) = (m.site.0 ≡ n) × InOrder (suc n) ms

-- a node's sites are numbered in order, each with its class, and some are of arguments objects
pub record AreMade (p : Program) (arguments : Site → Bool) (ms : List Making) : Type 0 where
  pub first : ℕ
  pub in_order : InOrder first ms
  pub each : AllByRecursion (λ (m : Making). IsMadeAs p (arguments m.site) m) ms

-- .. and those of functions
abbrev AreInOrder : ℕ → List OwnedMaking → Type 0
AreInOrder n [] = Unit {0}
AreInOrder n (m ∷ ms) = (m.making.site.0 ≡ n) × AreInOrder (suc n) ms

record AreOwned (p : Program) (ms : List OwnedMaking) : Type 0 where
  first : ℕ
  in_order : AreInOrder first ms
  each : AllByRecursion (λ (m : OwnedMaking). IsTold p m.making) ms

order_left : (xs ys : List OwnedMaking) (n : ℕ) → AreInOrder n (xs ++ ys) → AreInOrder n xs
order_left [] ys n all = tt
order_left (x ∷ xs) ys n all = (all.0, order_left xs ys (suc n) all.1)

order_right : (xs ys : List OwnedMaking) (n : ℕ) → AreInOrder n (xs ++ ys)
    → (b : ℕ) × AreInOrder b ys
order_right [] ys n all = (n, all)
order_right (x ∷ xs) ys n all = order_right xs ys (suc n) all.1

order_from : (k a : ℕ) (ms : List OwnedMaking)
    → map (λ (m : OwnedMaking). m.making.site.0) ms ≡ range_with_len a k → AreInOrder a ms
order_from zero a [] e = tt
order_from zero a (m ∷ ms) e = absurd (cc)
order_from (suc k) a [] e = absurd (cc)
order_from (suc k) a (m ∷ ms) e =
    let first : m.making.site.0 ≡ a = cc in
    let rest : map (λ (n : OwnedMaking). n.making.site.0) ms ≡ range_with_len (a + 1) k = cc in
    let there : a + 1 ≡ suc a = omega arith in
    (first, order_from k (suc a) ms (rest ∙ ap (λ n. range_with_len n k) there))

order_of_owned : (f n : ℕ) (ms : List Making) → AreInOrder n (map (owned f) ms) → InOrder n ms
order_of_owned f n [] all = tt
order_of_owned f n (m ∷ ms) all = (all.0, order_of_owned f (suc n) ms all.1)

module _ (p : Program) where
  abbrev Made : OwnedMaking → Type 0
  Made m = IsTold p m.making

  owned_left : (xs ys : List OwnedMaking) → AreOwned p (xs ++ ys) → AreOwned p xs
  owned_left xs ys k =
      record {
        first = k.first;
        in_order = order_left xs ys k.first k.in_order;
        each = all_left Made xs ys k.each;
      }

  owned_right : (xs ys : List OwnedMaking) → AreOwned p (xs ++ ys) → AreOwned p ys
  owned_right xs ys k =
      let (first, in_order) = order_right xs ys k.first k.in_order in
      record { first = first; in_order = in_order; each = all_right Made xs ys k.each }

  owned_of_function : (g : ℕ) (fns : List Function) (i : ℕ) (fn : Function)
      → slice_get fns i ≡ Some fn → AreOwned p (makings_from g fns)
      → (f : ℕ) × AreOwned p (makings_of f fn.nodes)
  owned_of_function g [] i fn e k = absurd (false≢true (ap is_some e))
  owned_of_function g (x ∷ fns) zero fn e k = (
    g,
    subst (λ (y : Function). AreOwned p (makings_of g y.nodes)) (same_Some x fn e)
        (owned_left (makings_of g x.nodes) (makings_from (suc g) fns) k),
  )
  owned_of_function g (x ∷ fns) (suc i) fn e k =
      owned_of_function (suc g) fns i fn e (owned_right (makings_of g x.nodes)
      (makings_from (suc g) fns) k)

  owned_of_node : (f : ℕ) (nodes : List NodeInfo) (n : ℕ) (info : NodeInfo)
      → slice_get nodes n ≡ Some info → AreOwned p (makings_of f nodes)
      → AreOwned p (map (owned f) (makings info.node))
  owned_of_node f [] n info e k = absurd (false≢true (ap is_some e))
  owned_of_node f (x ∷ nodes) zero info e k =
      subst (λ (y : NodeInfo). AreOwned p (map (owned f) (makings y.node))) (same_Some x info e)
      (owned_left (map (owned f) (makings x.node)) (makings_of f nodes) k)
  owned_of_node f (x ∷ nodes) (suc n) info e k =
      owned_of_node f nodes n info e (owned_right (map (owned f) (makings x.node))
      (makings_of f nodes) k)

  class_told : (m : OwnedMaking) → IsSiteTold p m → class_of_site p m.making.site.0 ≡ m.making.class
  class_told m told =
      ap (λ r. option_map_or (λ (i : SiteInfo). i.class) r class.Object) told.info_is ∙ told.class

  runs_told : (m : OwnedMaking) → IsSiteTold p m → (info : SiteInfo)
      → slice_get p.sites m.making.site.0 ≡ Some info → IsTrue (runs_function info)
      → m.making.class ≡ class.Function
  runs_told m told info info_is runs =
      let same : info ≡ told.info = same_Some info told.info (sym info_is ∙ told.info_is) in
      told.runs (subst (λ (i : SiteInfo). IsTrue (runs_function i)) same runs)

  all_owned : IsWellFormed p → AreOwned p (makings_from 0 p.functions)
  all_owned good =
      let all : List OwnedMaking = makings_from 0 p.functions in
      let Within : ℕ → Type 0 = λ x. (length p.opening ≤ x)
      × (x < length p.opening + (length p.sites - length p.opening)) in
      let within : AllByRecursion (λ (m : OwnedMaking). Within m.making.site.0) all = all_unmap
      Within (λ (m : OwnedMaking). m.making.site.0) all
      (subst (AllByRecursion Within) (sym good.numbered)
      (range_within (length p.opening) (length p.sites - length p.opening))) in
      let enough : length p.opening ≤ length p.sites = good.sites in
      record {
        first = length p.opening;
        in_order =
            order_from (length p.sites - length p.opening) (length p.opening) all good.numbered;
        each =
            all_both (λ (m : OwnedMaking). Within m.making.site.0) (IsSiteTold p) Made
            (λ m k told. let low : length p.opening ≤ m.making.site.0 = k.0 in
            let high : m.making.site.0 < length p.opening
            + (length p.sites - length p.opening) = k.1 in
            record {
              site = (low, omega arith);
              class = class_told m told;
              runs = runs_told m told;
            }) all within good.told;
      }

  -- the sites of a node of the program
  pub node_makings : IsWellFormed p → (f : ℕ) (fn : Function) (n : ℕ) (info : NodeInfo)
      → slice_get p.functions f ≡ Some fn → slice_get fn.nodes n ≡ Some info
      → AreMade p (λ s. makes_arguments s info.node) (makings info.node)
  node_makings good f fn n info fn_is info_is =
      let (g, of_function) = owned_of_function 0 p.functions f fn fn_is (all_owned good) in
      let k : AreOwned p (map (owned g) (makings info.node)) = owned_of_node g fn.nodes n info
      info_is of_function in
      record {
        first = k.first;
        in_order = order_of_owned g k.first (makings info.node) k.in_order;
        each =
            all_both (IsTold p) (λ (m : Making). is_arguments_site p m.site
            ≡ makes_arguments m.site info.node)
            (λ (m : Making). IsMadeAs p (makes_arguments m.site info.node) m)
            (λ m told is. record { told = told; arguments_are = is }) (makings info.node)
            (all_unmap Made (owned g) (makings info.node) k.each)
            (node_arguments p good f fn n info fn_is info_is);
      }

  -- .. each with its class
  pub node_told : IsWellFormed p → (f : ℕ) (fn : Function) (n : ℕ) (info : NodeInfo)
      → slice_get p.functions f ≡ Some fn → slice_get fn.nodes n ≡ Some info
      → AllByRecursion (IsTold p) (makings info.node)
  node_told good f fn n info fn_is info_is =
      all_weaker (λ (m : Making). IsMadeAs p (makes_arguments m.site info.node) m) (IsTold p)
      (λ m made. made.told) (makings info.node) (node_makings good f fn n info fn_is info_is).each

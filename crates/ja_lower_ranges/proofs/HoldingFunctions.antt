-- What whole functions and the program list holds, where their names and functions are reached.
use Rattle.std.proofs.Common.{◌≡◌, ◌+◌, ℕ, Bool, true, false, not, if◌then◌else◌, List, [], ◌∷◌, ◌++◌, map, length, Option, Some, None, refl, sym, ap, ◌∙◌, subst, arith}
use Rattle.std.proofs.lemmas.List.Sums.{prefix_len-le-length}
use Rattle.std.specs.List.{AllByRecursion, flat_map}
use Rattle.std.specs.Str.{bytes_eq}
use Rattle.ja_base.specs.declared.ids.Place.{Place}
use Rattle.ja_base.proofs.Lists.{all_append, all_left, all_right, all_weaker}
use Rattle.ja_prim.specs.declared.primitive.Primitive.TheVariants as primitive
use Rattle.ja_graph.specs.declared.node.Node.TheVariants.{Declare, Escape}
use Rattle.ja_lower_listing.specs.declared.item.Item.{Item}
use Rattle.ja_lower_listing.specs.Listing.{begins_with_node}
use Rattle.ja_syntax.specs.Arguments.{mentions_arguments}
use Rattle.ja_syntax.specs.Hoisted.{hoisted_variables}
use Rattle.ja_syntax.specs.declared.tree.Name.{Name}
use Rattle.ja_syntax.specs.declared.tree.FunctionOf.{FunctionOf}
use Rattle.ja_syntax.specs.declared.tree.Statement.{Statement, roll-Statement, out-Statement}
use Rattle.ja_syntax.specs.declared.tree.Statement.TheVariants.{rolls-Function}
use Rattle.ja_syntax.specs.declared.tree.Expression.{Expression}
use Rattle.ja_syntax.specs.declared.tree.Case.{Case}
use Rattle.ja_syntax.specs.declared.tree.Expression.TheOpen.{Statement-F}
use Rattle.ja_syntax.specs.declared.tree.Expression.TheViews.{roll-out-Statement}
use Rattle.ja_lower_statements.specs.Functions.{first_temporary, nothing_listed, with_entry, bind_function, declare_function, declare_function_of, declare_functions, declare_variables, with_body, unhandled, first_place, first_const, beginning_with_node, program_listing, function_listing}
use Rattle.ja_lower_draft.specs.Lines.{Listing, Scene, name_id, with_node}
use Rattle.ja_lower_expressions.specs.Literals.{same_place}
use Rattle.ja_lower_statements.specs.Statements.{does}
use Rattle.ja_lower_names.specs.TextOrder.{Part, Parts, a_function, a_name, if_any, in_name, in_statement, function_parts}
use Rattle.ja_lower_names.proofs.TextOrderLemmas.{of_declared}
use Rattle.ja_lower_ranges.specs.Found.{HasPart, HasParts}
use Rattle.ja_lower_ranges.specs.InRange.{IsTemporary, limits_of}
use Rattle.ja_lower_ranges.specs.Spots.{times, OfEdges, HasItsSpots}
use Rattle.ja_lower_ranges.proofs.Holding.{Text, bounds, ReachesFunction, ReachesName, Reaches, ReachesAll, Context, scene_at, Holds, holds_node, holds_restarted, holds_const}
use Rattle.ja_lower_ranges.proofs.HoldingCalls.{holds_make_function}
use Rattle.ja_lower_ranges.proofs.HoldingDoes.{each_holds}
use Rattle.ja_lower_ranges.proofs.HoldingStatements.{from_on, holds_each}
use Rattle.ja_lower_ranges.proofs.HoistedRanges.{hoisted_reached}
use Rattle.ja_lower_ranges.proofs.LineRanges.{name_in_range, function_in_range, some_function}
use Rattle.ja_lower_ranges.proofs.Sound.{IsSoundLine, AreSoundLines}
use Rattle.ja_lower_ranges.proofs.SpotCounts.{free, free_from, free_below, IsBelow, edges_map}
use Rattle.ja_lower_ranges.proofs.SpotLines.{Kept, begun}

module _ {t : Text} {c : Context t} where
  holds_entry : {l : Listing} (place : Place) (arguments : Bool) → ReachesFunction t place
      → Holds c l → Holds c (with_entry (scene_at c) place arguments l)
  holds_entry place true here h = holds_node place _ (here.1, refl) h
  holds_entry place false here h = holds_node place _ (here.1, refl) h

  -- ---- declarations

  holds_bind : {l : Listing} (place : Place) (name : Option Name) (base : ℕ)
      → ReachesFunction t place → ReachesAll t (if_any in_name name) → IsTemporary (bounds t) base
      → Holds c l → Holds c (bind_function (scene_at c) place name base l)
  holds_bind place None base here named set h = h
  holds_bind place (Some name) base here named set h =
      holds_node place _ (named.0 refl)
      (holds_make_function place here (holds_restarted base set h)).listing

  holds_declare_function : {l : Listing} (x : Statement-F Expression Statement Case) (base : ℕ)
      → ReachesAll t (in_statement (roll-Statement x)) → IsTemporary (bounds t) base → Holds c l
      → Holds c (declare_function (scene_at c) x base l)
  holds_declare_function (Statement-F.Statement::Function f) base has set h =
      let own = subst (ReachesAll t) (ap in_statement (rolls-Function f) ∙ of_declared [] f) has in
      holds_bind f.place f.name base own.0
      (all_left (Reaches t) (if_any in_name f.name)
      (flat_map in_name f.parameters ++ flat_map in_statement f.body) own.1) set h
  holds_declare_function x base has set h = h

  holds_declare_functions : (xs : List Statement) (base : ℕ) (l : Listing)
      → ReachesAll t (flat_map in_statement xs) → IsTemporary (bounds t) base → Holds c l
      → Holds c (declare_functions (scene_at c) xs base l)
  unfolding declare_functions
  holds_declare_functions [] base l has set h = h
  holds_declare_functions (x ∷ xs) base l has set h =
      let own = subst (λ y. ReachesAll t (in_statement y)) (sym (roll-out-Statement x))
      (all_left (Reaches t) (in_statement x) (flat_map in_statement xs) has) in
      holds_declare_functions xs base (declare_function_of (scene_at c) x base l)
      (all_right (Reaches t) (in_statement x) (flat_map in_statement xs) has) set
      (holds_declare_function (out-Statement x) base own set h)

  holds_declare_variables : (place : Place) (vs : List (List ℕ)) (l : Listing)
      → AllByRecursion (ReachesName t) vs → Holds c l
      → Holds c (declare_variables (scene_at c) place vs l)
  unfolding declare_variables
  holds_declare_variables place [] l has h = h
  holds_declare_variables place (v ∷ vs) l has h =
      holds_declare_variables place vs
      (with_node (scene_at c) place (Declare (name_id t.scene v)) l) has.1
      (holds_node place (Declare (name_id t.scene v)) has.0 h)

  -- ---- bodies

  holds_body : (place : Place) (xs : List Statement) (base : ℕ) (l : Listing)
      → ReachesAll t (flat_map in_statement xs) → IsTemporary (bounds t) base → Holds c l
      → Holds c (with_body (scene_at c) place xs base l)
  holds_body place xs base l has set h =
      let before = holds_declare_variables place (hoisted_variables xs) _ (hoisted_reached t xs has)
      (holds_declare_functions xs base l has set h) in
      let done = holds_each (map does xs) (each_holds t xs has) [] base _
      (record { numbers = tt; spots = tt }) set before in
      holds_node place Escape tt (holds_node place _ tt
      (holds_const place _ (holds_restarted base set done)).listing)

-- ---- whole listings

-- each number below the next spot stands once, and lines lead to these
has_spots : (items : List Item) (n : ℕ) → ((i : ℕ) → times i items + free n i ≡ 1)
    → AllByRecursion (OfEdges (IsBelow n)) items → HasItsSpots items
has_spots items n counted led = record {
  stand = edges_map (λ s low. omega (arith, counted s.0, free_below n s.0 low)) items led;
  once = λ s. omega (arith, counted s.0);
}

-- from nothing on
all_spots : {scene : Scene} {base n : ℕ} {items : List Item}
    → Kept scene [] [] (nothing_listed base) items n → HasItsSpots items
unfolding times
all_spots {n = n} {items = items} k =
    has_spots items n (λ i. omega (arith, k.stand i, free_from 0 i (omega arith))) (k.led tt)

-- the numbers of all lines are in range, and each spot to which they lead stands once
pub record AreWell (t : Text) (items : List Item) : Type 0 where
  pub numbers : AreSoundLines (bounds t) items
  pub spots : HasItsSpots items

-- nothing is listed yet
begins : (t : Text) → let l = nothing_listed (first_temporary t.parameters) in
    Holds (from_on t None [] l) l
begins t = record {
  numbers = record { nodes = tt; next = omega arith };
  spots = begun (unhandled t.scene) [] (nothing_listed (first_temporary t.parameters)) tt tt;
}

module _ (scene : Scene) (names functions : ℕ) where
  -- a function of so many parameters
  abbrev text : ℕ → Text
  text parameters =
      record { scene = scene; parameters = parameters; names = names; functions = functions }

  beginning : (items : List Item) → AreWell (text 0) items
      → AreWell (text 0) (beginning_with_node (unhandled scene) items)
  unfolding beginning_with_node times
  beginning items h = either (begins_with_node items)
    where
      first : AreSoundLines (bounds (text 0)) (first_const (unhandled scene))
      first = (holds_const first_place primitive.Undefined (begins (text 0))).listing.numbers.nodes

      either : (b : Bool)
          → AreWell (text 0) (if b then items else first_const (unhandled scene) ++ items)
      either true = h
      either false = record {
        numbers = all_append (IsSoundLine (bounds (text 0))) (first_const (unhandled scene)) items
            first h.numbers;
        spots = record { stand = ((tt, tt), h.spots.stand); once = h.spots.once };
      }

  program_well : (xs : List Statement) → ReachesAll (text 0) (flat_map in_statement xs)
      → AreWell (text 0) (program_listing scene xs)
  unfolding program_listing
  program_well xs has =
      let base = first_temporary 0 in
      let h = holds_body first_place xs base (nothing_listed base) has (omega arith)
      (begins (text 0)) in
      beginning _ (record { numbers = h.numbers.nodes; spots = all_spots h.spots })

  function_well : (f : FunctionOf Statement)
      → ReachesAll (text (length f.parameters)) (function_parts f)
      → AreWell (text (length f.parameters)) (function_listing scene f)
  unfolding function_listing
  function_well f has =
      let t = text (length f.parameters) in
      let body = all_right (Reaches t) (flat_map in_name f.parameters)
      (flat_map in_statement f.body) (all_right (Reaches t) (if_any in_name f.name)
      (flat_map in_name f.parameters ++ flat_map in_statement f.body) has.1) in
      let base = first_temporary (length f.parameters) in
      let entered = with_entry (unhandled scene) f.place (mentions_arguments f.body)
      (nothing_listed base) in
      let h = holds_body f.place f.body base entered body (omega arith)
      (holds_entry f.place (mentions_arguments f.body) has.0 (begins t)) in
      record { numbers = h.numbers.nodes; spots = all_spots h.spots }

-- ---- with the names and the functions of the text, where they are found

module _ (scene : Scene) where
  found : (p : ℕ) (part : Part) → HasPart scene part
      → Reaches (text scene (length scene.names) (length scene.functions) p) part
  found p (a_function f) has =
      (function_in_range scene f.place has, some_function scene f.place has)
  found p (a_name n) has = λ is. name_in_range scene n.text (has is)

  pub program_found : (xs : List Statement) → HasParts scene (flat_map in_statement xs)
      → AreSoundLines (limits_of 0 scene) (program_listing scene xs)
  program_found xs has =
      (program_well scene (length scene.names) (length scene.functions) xs
      (all_weaker (HasPart scene) _ (found 0) (flat_map in_statement xs) has)).numbers

  pub function_found : (f : FunctionOf Statement) → HasParts scene (function_parts f)
      → AreSoundLines (limits_of (length f.parameters) scene) (function_listing scene f)
  function_found f has =
      (function_well scene (length scene.names) (length scene.functions) f
      (all_weaker (HasPart scene) _ (found (length f.parameters)) (function_parts f) has)).numbers

  -- ---- with room for a name and a function that aren't found

  abbrev roomy : ℕ → Text
  roomy p = text scene (length scene.names + 1) (length scene.functions + 1) p

  anyhow : (p : ℕ) (parts : Parts) → ReachesAll (roomy p) parts
  anyhow p [] = tt
  anyhow p (a_function f ∷ parts) =
      let low = prefix_len-le-length (λ at. not (same_place f.place at)) scene.functions in
      ((omega (arith, low), omega arith), anyhow p parts)
  anyhow p (a_name n ∷ parts) =
      let low = prefix_len-le-length (λ name. not (bytes_eq n.text name)) scene.names in
      (λ is. omega (arith, low), anyhow p parts)

  pub program_has_spots : (xs : List Statement) → HasItsSpots (program_listing scene xs)
  program_has_spots xs =
      (program_well scene (length scene.names + 1) (length scene.functions + 1) xs
      (anyhow 0 (flat_map in_statement xs))).spots

  pub function_has_spots : (f : FunctionOf Statement) → HasItsSpots (function_listing scene f)
  function_has_spots f =
      (function_well scene (length scene.names + 1) (length scene.functions + 1) f
      (anyhow (length f.parameters) (function_parts f))).spots

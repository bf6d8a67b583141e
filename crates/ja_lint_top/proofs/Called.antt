-- The places of the edges that lead to a function are those of its callers.
use Rattle.std.specs.Prelude.{◌≡◌, Bool, true, false, ◌&&◌, if◌then◌else◌, IsTrue, Contains, List, [], ◌∷◌, map, Option, Some, None}
use Rattle.std.specs.BTreeSet.{BTreeSet, IsFromIterResult}
use Rattle.std.specs.List.{filter_map, AllByRecursion}
use Rattle.std.specs.Option.{option_map}
use Rattle.std.proofs.Common.{refl, sym, ◌∙◌, ap, subst}
use Rattle.std.proofs.lemmas.Bool.{and_from, and_parts, cond-true, lt-ltb, ltb-true}
use Rattle.std.proofs.lemmas.List.Elements.{All-contains_itself, recursion_from_All}
use Rattle.std.proofs.lemmas.Option.{same_Some}
use Rattle.ja_base.specs.declared.ids.FnId.{FnId}
use Rattle.ja_base.specs.declared.ids.Place.{Place}
use Rattle.ja_base.proofs.Options.{none_not_some}
use Rattle.ja_graph.specs.declared.node.NodeInfo.{NodeInfo}
use Rattle.ja_graph.specs.declared.program.Program.{Program}
use Rattle.ja_graph.specs.Program.{node_at}
use Rattle.ja_table.specs.declared.table.ATable.{ATable}
use Rattle.ja_table.specs.declared.table.CallEdge.{CallEdge}
use Rattle.ja_table.specs.Tables.{table_of, Fits}
use Rattle.ja_lint_top.specs.Calls.{AreCallers, Calls, IsCaller, Leads}
use Rattle.ja_lint_top.specs.code.Calls.{edge_place, is_of_text, is_marked, place_at, spot_cmp, spot_into, spot_of, AreLeading, Spot}
use Rattle.ja_lint_top.proofs.Collected.{contains_map, given, held, in_order}
use Rattle.ja_lint_top.proofs.Edges.{callee_within, edge_found, edge_kept}
use Rattle.ja_lint_top.proofs.Spots.{places_in_order, spot_exact, spot_total}

-- ---- what there is where a test passes

-- an option that is there passed its test
pub there : {X : Type 0} (b : Bool) (o : Option X) (x : X) → (if b then o else None) ≡ Some x
    → IsTrue b × (o ≡ Some x)
there true o x is = (refl, is)
there false o x is = absurd (none_not_some is)

pub mapped : {X Y : Type 0} (f : X → Y) (o : Option X) (y : Y) → option_map f o ≡ Some y
    → (x : X) × (o ≡ Some x) × (f x ≡ y)
mapped f None y is = absurd (none_not_some is)
mapped f (Some x) y is = (x, refl, same_Some (f x) y is)

-- ---- calls

module _ (p : Program) (t : ATable) where
  -- an edge that is kept, of a function of the text, is a call at its place
  pub calls_at : (d : CallEdge) (at : Place) → Contains t.edges.items d
      → IsTrue (is_of_text p d.edge.caller.function) → edge_place p d.edge ≡ Some at
      → Calls p (table_of t) at d.edge.callee.function
  calls_at d at here of is =
      let (info, info_is, place_is) =
      mapped (λ (i : NodeInfo). i.place) (node_at p d.edge.caller.function d.edge.node) at is in
      record {
        edge = d.edge;
        edge_is = edge_kept t d here;
        caller = ltb-true d.edge.caller.function.0 p.text_functions of;
        info = info;
        info_is = info_is;
        place_is = place_is;
        callee_is = refl;
      }

  module _ (at : Place) (f : FnId) (c : Calls p (table_of t) at f) where
    pub calls_of_text : IsTrue (is_of_text p c.edge.caller.function)
    calls_of_text = lt-ltb c.edge.caller.function.0 p.text_functions c.caller

    pub calls_place : edge_place p c.edge ≡ Some at
    calls_place =
        ap (option_map (λ (i : NodeInfo). i.place)) c.info_is ∙ ap Some c.place_is

-- ---- callers

module _ (p : Program) (t : ATable) (fits : Fits p t) (f : FnId) (marks : List Bool)
    (leading : AreLeading p (table_of t) f marks) (spots : BTreeSet Spot)
    (is : IsFromIterResult spot_cmp (filter_map (λ (d : CallEdge). spot_into p marks d.edge)
    t.edges.items) spots) where
  abbrev spot_by : CallEdge → Option Spot
  spot_by d = spot_into p marks d.edge

  caller : (s : Spot) → Contains spots.keys s → IsCaller p (table_of t) f (place_at s)
  caller s here =
      let (d, among, gives) = given spot_by spot_total spot_exact t.edges.items spots is s here in
      let (both, at_is) = there (is_of_text p d.edge.caller.function
      && is_marked marks d.edge.callee.function) (option_map spot_of (edge_place p d.edge)) s gives in
      let (of, leads) = and_parts (is_of_text p d.edge.caller.function)
      (is_marked marks d.edge.callee.function) both in
      let (at, place_is, same) = mapped spot_of (edge_place p d.edge) s at_is in
      let (n, path) = leading.sound d.edge.callee.function leads in (
        d.edge.callee.function,
        n,
        calls_at p t d (place_at s) among of
            (place_is ∙ ap Some (ap place_at same)),
        path,
      )

  found : (at : Place) → IsCaller p (table_of t) f at → Contains (map place_at spots.keys) at
  found at (g, n, calls, path) =
      let e = calls.edge in
      let (d, among, same) = edge_found t e calls.edge_is in
      let marked : IsTrue (is_marked marks e.callee.function) =
      leading.complete e.callee.function n (callee_within p t fits e calls.edge_is)
      (subst (λ (h : FnId). Leads p (table_of t) n h f) (sym calls.callee_is) path) in
      let gives : spot_into p marks e ≡ Some (spot_of at) =
      cond-true (is_of_text p e.caller.function && is_marked marks e.callee.function)
      (option_map spot_of (edge_place p e)) None
      (and_from _ _ (calls_of_text p t at g calls) marked)
      ∙ ap (option_map spot_of) (calls_place p t at g calls) in
      contains_map place_at (spot_of at) spots.keys
      (held spot_by spot_total spot_exact t.edges.items spots is d (spot_of at) among
      (ap (spot_into p marks) same ∙ gives))

  pub are_callers : AreCallers p (table_of t) f (map place_at spots.keys)
  are_callers = record {
    ordered =
        places_in_order spots.keys
        (in_order spot_by spot_total spot_exact t.edges.items spots is);
    each = all_mapped spots.keys (recursion_from_All (Contains spots.keys) spots.keys
        (All-contains_itself spots.keys));
    complete = found;
  }
    where
      all_mapped : (ks : List Spot) → AllByRecursion (Contains spots.keys) ks
          → AllByRecursion (IsCaller p (table_of t) f) (map place_at ks)
      all_mapped [] each = tt
      all_mapped (k ∷ ks) each = (caller k each.0, all_mapped ks each.1)

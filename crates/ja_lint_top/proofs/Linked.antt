-- The ends of the edges between functions of the text are the links of the text.
use Rattle.std.specs.Prelude.{◌≡◌, ◌<◌, ◌&&◌, IsTrue, Contains, List, [], ◌∷◌, map, Option, Some, None}
use Rattle.std.specs.BTreeSet.{BTreeSet, IsFromIterResult}
use Rattle.std.specs.List.{filter_map, AllByRecursion}
use Rattle.std.specs.Option.{option_and_then, option_map}
use Rattle.std.proofs.Common.{refl, sym, ◌∙◌, ap, subst}
use Rattle.std.proofs.lemmas.Bool.{and_from, and_parts, cond-true, lt-ltb, ltb-true}
use Rattle.std.proofs.lemmas.List.Elements.{All-contains_itself, recursion_from_All}
use Rattle.ja_base.specs.declared.ids.FnId.{FnId}
use Rattle.ja_base.specs.declared.ids.Place.{Place}
use Rattle.ja_base.proofs.Options.{none_not_some}
use Rattle.ja_graph.specs.declared.program.Program.{Program}
use Rattle.ja_table.specs.declared.table.ATable.{ATable}
use Rattle.ja_table.specs.declared.table.CallEdge.{CallEdge}
use Rattle.ja_table.specs.Tables.{table_of}
use Rattle.ja_lint_top.specs.declared.links.Link.{Link}
use Rattle.ja_lint_top.specs.Calls.{place_of, AreLinks, IsLink}
use Rattle.ja_lint_top.specs.code.Calls.{edge_place, ends_cmp, ends_of, is_of_text, link_at, spot_of, Ends}
use Rattle.ja_lint_top.proofs.Called.{calls_at, calls_of_text, calls_place, mapped, there}
use Rattle.ja_lint_top.proofs.Collected.{contains_map, given, held, in_order}
use Rattle.ja_lint_top.proofs.Edges.{edge_found}
use Rattle.ja_lint_top.proofs.Spots.{ends_exact, ends_total, links_in_order}

-- the two places that give some ends
both_mapped : (from to : Option Place) (k : Ends)
    → option_and_then (λ (a : Place). option_map (λ (b : Place). (spot_of a, spot_of b)) to) from
    ≡ Some k
    → (a : Place) × (b : Place) × (from ≡ Some a) × (to ≡ Some b) × ((spot_of a, spot_of b) ≡ k)
both_mapped None to k is = absurd (none_not_some is)
both_mapped (Some a) to k is =
    let (b, to_is, same) = mapped (λ (b : Place). (spot_of a, spot_of b)) to k is in
    (a, b, refl, to_is, same)

module _ (p : Program) (t : ATable) (ends : BTreeSet Ends)
    (is : IsFromIterResult ends_cmp (filter_map (λ (d : CallEdge). ends_of p d.edge)
    t.edges.items) ends) where
  abbrev ends_by : CallEdge → Option Ends
  ends_by d = ends_of p d.edge

  link : (k : Ends) → Contains ends.keys k → IsLink p (table_of t) (link_at k)
  link k here =
      let (d, among, gives) = given ends_by ends_total ends_exact t.edges.items ends is k here in
      let f = d.edge.callee.function in
      let (both, ends_are) = there (is_of_text p d.edge.caller.function && is_of_text p f)
      _ k gives in
      let (caller, callee) = and_parts (is_of_text p d.edge.caller.function) (is_of_text p f)
      both in
      let (from, to, from_is, to_is, same) =
      both_mapped (edge_place p d.edge) (place_of p f) k ends_are in (
        f,
        ltb-true f.0 p.text_functions callee,
        calls_at p t d (link_at k).from among caller
            (from_is ∙ ap Some (ap (λ (j : Ends). (link_at j).from) same)),
        to_is ∙ ap Some (ap (λ (j : Ends). (link_at j).to) same),
      )

  found : (l : Link) → IsLink p (table_of t) l → Contains (map link_at ends.keys) l
  found l (f, of_text, calls, stands) =
      let e = calls.edge in
      let k : Ends = (spot_of l.from, spot_of l.to) in
      let (d, among, same) = edge_found t e calls.edge_is in
      let callee : IsTrue (is_of_text p e.callee.function) =
      lt-ltb e.callee.function.0 p.text_functions
      (subst (λ (g : FnId). g.0 < p.text_functions) (sym calls.callee_is) of_text) in
      let to_is : place_of p e.callee.function ≡ Some l.to =
      ap (place_of p) calls.callee_is ∙ stands in
      let gives : ends_of p e ≡ Some k =
      cond-true (is_of_text p e.caller.function && is_of_text p e.callee.function) _ None
      (and_from _ _ (calls_of_text p t l.from f calls) callee)
      ∙ ap (option_and_then (λ (a : Place). option_map (λ (b : Place). (spot_of a, spot_of b))
      (place_of p e.callee.function))) (calls_place p t l.from f calls)
      ∙ ap (option_map (λ (b : Place). (spot_of l.from, spot_of b))) to_is in
      contains_map link_at k ends.keys
      (held ends_by ends_total ends_exact t.edges.items ends is d k among
      (ap (ends_of p) same ∙ gives))

  pub are_links : AreLinks p (table_of t) (map link_at ends.keys)
  are_links = record {
    ordered =
        links_in_order ends.keys (in_order ends_by ends_total ends_exact t.edges.items ends is);
    each =
        all_mapped ends.keys (recursion_from_All (Contains ends.keys) ends.keys
        (All-contains_itself ends.keys));
    complete = found;
  }
    where
      all_mapped : (ks : List Ends) → AllByRecursion (Contains ends.keys) ks
          → AllByRecursion (IsLink p (table_of t)) (map link_at ks)
      all_mapped [] each = tt
      all_mapped (k ∷ ks) each = (link k each.0, all_mapped ks each.1)

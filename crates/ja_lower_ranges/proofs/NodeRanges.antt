-- Nodes whose numbers are in range.
use Rattle.std.proofs.Common.{◌≡◌, ◌<◌, ◌≤◌, List, [], ◌∷◌, length, map, Bool, true, false, Some, None, inr, refl, arith}
use Rattle.std.specs.List.{AllByRecursion, range_with_len}
use Rattle.std.specs.Option.{option_to_list}
use Rattle.ja_base.specs.declared.ids.FnId.{FnId}
use Rattle.ja_base.specs.declared.ids.NameId.{NameId}
use Rattle.ja_base.specs.declared.ids.Site.{Site}
use Rattle.ja_graph.specs.Node.{Making, register_set, name_in, function_in, makings}
use Rattle.ja_graph.specs.declared.node.Args.TheVariants.{Registers, Elements, Tail}
use Rattle.ja_graph.specs.declared.node.Node.{Node}
use Rattle.ja_graph.specs.declared.node.Node.TheVariants as node
use Rattle.ja_lower_ranges.specs.InRange.{Limits, IsTemporary, IsDestination, IsOfTexts, IsOfTextsWithoutFunctions, IsInRange}

-- the sites of a node are numbered in order
abbrev pub AreInOrder : List Site → Type 0
AreInOrder sites = map (λ (s : Site). s.0) sites ≡ range_with_len 0 (length sites)

-- what is asked of a node that a text lists, so that its numbers are in range
abbrev pub Asks : Limits → Node → Type 0
Asks limits (node.Const dst prim) = IsTemporary limits dst.0
Asks limits (node.Move dst src) = IsDestination limits dst
Asks limits (node.FindName dst name) = IsTemporary limits dst.0 × (name.0 < limits.names)
Asks limits (node.ReadRef dst base name error) =
    IsTemporary limits dst.0 × (name.0 < limits.names) × AreInOrder (error ∷ [])
Asks limits (node.ReadSoft dst base name) = IsTemporary limits dst.0 × (name.0 < limits.names)
Asks limits (node.WriteRef base name src) = name.0 < limits.names
Asks limits (node.DeleteRef dst base name) = IsTemporary limits dst.0 × (name.0 < limits.names)
Asks limits (node.ToObject dst src sites error) =
    IsTemporary limits dst.0
    × AreInOrder (sites.boolean ∷ sites.number ∷ sites.text ∷ error ∷ [])
Asks limits (node.NeedObject src error) = AreInOrder (error ∷ [])
Asks limits (node.ReadProp dst object key) = IsTemporary limits dst.0
Asks limits (node.WriteProp object key src error) = AreInOrder (error ∷ [])
Asks limits (node.DeleteProp dst object key) = IsTemporary limits dst.0
Asks limits (node.HasProp dst object key) = IsTemporary limits dst.0
Asks limits (node.InstanceOf dst left right not_function not_object) =
    IsTemporary limits dst.0 × AreInOrder (not_function ∷ not_object ∷ [])
Asks limits (node.NewObject dst site kind) = IsTemporary limits dst.0 × AreInOrder (site ∷ [])
Asks limits (node.MakeFunction dst function site proto_site) =
    IsTemporary limits dst.0 × (function.0 ≤ limits.functions) × (0 < limits.functions)
    × AreInOrder (site ∷ proto_site ∷ [])
Asks limits (node.Enter site None) = (0 < limits.functions) × AreInOrder (site ∷ [])
Asks limits (node.Enter site (Some arguments)) =
    (0 < limits.functions) × AreInOrder (site ∷ arguments ∷ [])
Asks limits (node.Declare name) = name.0 < limits.names
Asks limits (node.Bind name src read_only) = name.0 < limits.names
Asks limits (node.PushScope site) = AreInOrder (site ∷ [])
Asks limits (node.Convert dst src hint other) = IsTemporary limits dst.0
Asks limits (node.Unary dst op src) = IsTemporary limits dst.0
Asks limits (node.Binary dst op a b) = IsTemporary limits dst.0
Asks limits (node.Call dst callee receiver Tail error) =
    IsTemporary limits dst.0 × AreInOrder (error ∷ []) × (limits.specials ≡ true)
Asks limits (node.Call dst callee receiver args error) =
    IsTemporary limits dst.0 × AreInOrder (error ∷ [])
Asks limits (node.New dst callee args site error) =
    IsTemporary limits dst.0 × AreInOrder (site ∷ error ∷ [])
Asks limits (node.Pick list dst object) = IsTemporary limits dst.0
Asks limits (node.Intrinsic dst which args) = IsTemporary limits dst.0 × (limits.specials ≡ true)
Asks limits (node.Device dst which) = ⊥
Asks limits other = Unit {0}

module _ {limits : Limits} {n : Node} where
  -- a node of every text
  plain : AllByRecursion (IsDestination limits) (option_to_list (register_set n))
      → AllByRecursion (λ (x : NameId). x.0 < limits.names) (option_to_list (name_in n))
      → AllByRecursion (λ (f : FnId). f.0 ≤ limits.functions) (option_to_list (function_in n))
      → IsOfTexts n → IsOfTextsWithoutFunctions n
      → map (λ (m : Making). m.site.0) (makings n) ≡ range_with_len 0 (length (makings n))
      → IsInRange limits n
  plain sets name function of_texts bare sites =
      record {
        sets = sets;
        name = name;
        function = function;
        of_texts = λ texts. of_texts;
        without_functions = λ none. bare;
        sites = sites;
      }

-- not both
no_texts : (b : Bool) → b ≡ true → b ≡ false → ⊥
no_texts b special texts = absurd (cc)

pub in_range : (limits : Limits) (n : Node) → Asks limits n → IsInRange limits n
unfolding register_set name_in function_in makings
in_range limits (node.Const dst prim) h = plain (inr (inr h), tt) tt tt tt tt refl
in_range limits (node.Move dst src) h = plain (h, tt) tt tt tt tt refl
in_range limits (node.FindName dst name) h = plain (inr (inr h.0), tt) (h.1, tt) tt tt tt refl
in_range limits (node.ReadRef dst base name error) h =
    plain (inr (inr h.0), tt) (h.1, tt) tt tt tt h.2
in_range limits (node.ReadSoft dst base name) h =
    plain (inr (inr h.0), tt) (h.1, tt) tt tt tt refl
in_range limits (node.WriteRef base name src) h = plain tt (h, tt) tt tt tt refl
in_range limits (node.DeleteRef dst base name) h =
    plain (inr (inr h.0), tt) (h.1, tt) tt tt tt refl
in_range limits (node.ToObject dst src sites error) h =
    plain (inr (inr h.0), tt) tt tt tt tt h.1
in_range limits (node.NeedObject src error) h = plain tt tt tt tt tt h
in_range limits (node.ReadProp dst object key) h = plain (inr (inr h), tt) tt tt tt tt refl
in_range limits (node.WriteProp object key src error) h = plain tt tt tt tt tt h
in_range limits (node.DeleteProp dst object key) h = plain (inr (inr h), tt) tt tt tt tt refl
in_range limits (node.HasProp dst object key) h = plain (inr (inr h), tt) tt tt tt tt refl
in_range limits (node.InstanceOf dst left right not_function not_object) h =
    plain (inr (inr h.0), tt) tt tt tt tt h.1
in_range limits (node.NewObject dst site kind) h = plain (inr (inr h.0), tt) tt tt tt tt h.1
in_range limits (node.MakeFunction dst function site proto_site) h =
    record {
      sets = (inr (inr h.0), tt);
      name = tt;
      function = (h.1, tt);
      of_texts = λ texts. tt;
      without_functions = λ none. absurd (omega (arith, h.2, none));
      sites = h.3;
    }
in_range limits (node.Enter site None) h =
    record {
      sets = tt;
      name = tt;
      function = tt;
      of_texts = λ texts. tt;
      without_functions = λ none. absurd (omega (arith, h.0, none));
      sites = h.1;
    }
in_range limits (node.Enter site (Some arguments)) h =
    record {
      sets = tt;
      name = tt;
      function = tt;
      of_texts = λ texts. tt;
      without_functions = λ none. absurd (omega (arith, h.0, none));
      sites = h.1;
    }
in_range limits (node.Declare name) h = plain tt (h, tt) tt tt tt refl
in_range limits (node.Bind name src read_only) h = plain tt (h, tt) tt tt tt refl
in_range limits (node.PushScope site) h = plain tt tt tt tt tt h
in_range limits (node.Convert dst src hint other) h = plain (inr (inr h), tt) tt tt tt tt refl
in_range limits (node.Unary dst op src) h = plain (inr (inr h), tt) tt tt tt tt refl
in_range limits (node.Binary dst op a b) h = plain (inr (inr h), tt) tt tt tt tt refl
in_range limits (node.Branch src) h = plain tt tt tt tt tt refl
in_range limits (node.Call dst callee receiver (Registers values) error) h =
    plain (inr (inr h.0), tt) tt tt tt tt h.1
in_range limits (node.Call dst callee receiver (Elements array) error) h =
    plain (inr (inr h.0), tt) tt tt tt tt h.1
in_range limits (node.Call dst callee receiver Tail error) h =
    record {
      sets = (inr (inr h.0), tt);
      name = tt;
      function = tt;
      of_texts = no_texts limits.specials h.2;
      without_functions = λ none. tt;
      sites = h.1;
    }
in_range limits (node.New dst callee args site error) h =
    plain (inr (inr h.0), tt) tt tt tt tt h.1
in_range limits (node.Names list object) h = plain tt tt tt tt tt refl
in_range limits (node.Pick list dst object) h = plain (inr (inr h), tt) tt tt tt tt refl
in_range limits (node.Throw src) h = plain tt tt tt tt tt refl
in_range limits (node.Return src) h = plain tt tt tt tt tt refl
in_range limits node.Escape h = plain tt tt tt tt tt refl
in_range limits (node.Intrinsic dst which args) h =
    record {
      sets = (inr (inr h.0), tt);
      name = tt;
      function = tt;
      of_texts = no_texts limits.specials h.1;
      without_functions = λ none. tt;
      sites = refl;
    }
in_range limits (node.Device dst which) h = absurd h
in_range limits (node.Stop kind) h = plain tt tt tt tt tt refl

-- What a node of a program gives speaks of the program's labels, keys and sites alone.
use Rattle.std.specs.Prelude.{◌≡◌, ◌<◌, ◌&&◌, ◌++◌, ℕ, suc, Bool, true, false, length, List, [], ◌∷◌, Option, Some, None, IsTrue}
use Rattle.std.specs.List.{AllByRecursion}
use Rattle.std.specs.Option.{option_map_or, option_to_list}
use Rattle.std.proofs.Common.{arith}
use Rattle.std.proofs.lemmas.Bool.{cond_both, lt-ltb}
use Rattle.ja_base.specs.declared.ids.NameId.{NameId}
use Rattle.ja_base.specs.declared.ids.NodeId.{NodeId}
use Rattle.ja_base.specs.declared.ids.Reg.{Reg}
use Rattle.ja_base.specs.declared.ids.Site.{Site}
use Rattle.ja_base.proofs.Lists.{all_append}
use Rattle.ja_prim.specs.declared.signature.Signature.{Signature}
use Rattle.ja_prim.specs.Texts.{is_short}
use Rattle.ja_graph.specs.declared.attrs.TheConstants.{DONT_DELETE}
use Rattle.ja_graph.specs.declared.node.Node.{Node}
use Rattle.ja_graph.specs.declared.node.Node.TheVariants as node
use Rattle.ja_graph.specs.declared.node.NodeInfo.{NodeInfo}
use Rattle.ja_graph.specs.declared.program.Class.{Class}
use Rattle.ja_graph.specs.declared.program.Class.TheVariants as class
use Rattle.ja_graph.specs.declared.program.Program.{Program}
use Rattle.ja_graph.specs.Node.{making, makings, name_in}
use Rattle.ja_graph.specs.WellFormed.{IsName}
use Rattle.ja_machine.specs.Frames.{thrown, scope}
use Rattle.ja_machine.specs.Nodes.{bound_attrs}
use Rattle.ja_machine.proofs.Lists.{all_map}
use Rattle.ja_machine.proofs.Nodes.{AreMade}
use Rattle.ja_abstract.specs.declared.abstraction.Key.TheVariants as key
use Rattle.ja_abstract.specs.AbstractValue.{AbstractValue, AbstractProperty, of_label, of_attrs, undefined_value}
use Rattle.ja_abstract.specs.AbstractState.{AbstractState, new, aged, is_key, with_register}
use Rattle.ja_abstract.specs.Composed.{composed, renamed_value}
use Rattle.ja_abstract.specs.InProgram.{IsInProgram, AreKeys}
use Rattle.ja_abstract.specs.Made.{Own, error_own, constructed_own, function_own, prototype_own, scope_own, activation_own, arguments_own, with_object, with_objects, length_key}
use Rattle.ja_abstract.specs.Primitives.{of_bools}
use Rattle.ja_abstract.specs.Reading.{View, some_label, has_present, names_shown}
use Rattle.ja_abstract.specs.Values.{has_labels}
use Rattle.ja_abstract.specs.Writes.{Deletion, delete_states, defined, declared, is_missing}
use Rattle.ja_abstract.proofs.InProgram.{register_in, object_in, objects_in, composed_in}
use Rattle.ja_abstract.proofs.WritesInProgram.{keys_of_value_are, put_states_in, delete_states_in, defined_in, declared_in}
use Rattle.ja_rows.specs.declared.table.Edge.{Edge}
use Rattle.ja_rows.specs.BuiltIns.{device_value}
use Rattle.ja_rows.specs.Calls.{calling_state, prototype_value, constructed, returned, given_back}
use Rattle.ja_rows.specs.Out.{Point, Given, goes, all_go, sets_in, sets, sets_results, with_error, throws, makes, at, name_keys}
use Rattle.ja_rows.specs.Scopes.{enters_scope}
use Rattle.ja_rows.specs.Transfer.{transfer_node}

-- ---- what a node gives

module _ (w : View) (f : IsInProgram w.program w.state)
    (has_length : IsTrue (is_key w.program length_key)) where
  abbrev p : Program
  p = w.program

  abbrev IsIn : ℕ × AbstractState → Type 0
  IsIn g = IsInProgram p g.1

  abbrev pub AreIn : Given → Type 0
  AreIn given = AllByRecursion IsIn given

  abbrev IsSite : Site → Type 0
  IsSite s = s.0 < length p.sites

  goes_in : (b : Bool) (n : NodeId) (a : AbstractState) → IsInProgram p a → AreIn (goes b n a)
  goes_in b n a g = cond_both b ((n.0, a) ∷ []) [] AreIn (λ _. (g, tt)) (λ _. tt)

  two_in : (xs ys : Given) → AreIn xs → AreIn ys → AreIn (xs ++ ys)
  two_in xs ys left right = all_append IsIn xs ys left right

  set_in : (a : AbstractState) (dst : Reg) (v : AbstractValue) (n : NodeId) → IsInProgram p a
      → AreIn (sets_in w a dst v n)
  set_in a dst v n g =
      goes_in (has_present w v) n (with_register a dst v) (register_in p a dst v g)

  sets_here : (dst : Reg) (v : AbstractValue) (n : NodeId) → AreIn (sets w dst v n)
  sets_here dst v n = set_in w.state dst v n f

  all_go_in : (n : NodeId) (states : List AbstractState) → AllByRecursion (IsInProgram p) states
      → AreIn (all_go n states)
  all_go_in n states all =
      all_map (IsInProgram p) IsIn (λ (a : AbstractState). (n.0, a)) (λ a g. g) states all

  results_in : (dst : Reg) (n : NodeId) (rs : List Deletion)
      → AllByRecursion (λ (d : Deletion). IsInProgram p d.1) rs → AreIn (sets_results w dst n rs)
  results_in dst n [] all = tt
  results_in dst n (r ∷ rs) all =
      two_in (sets_in w r.1 dst r.0 n) (sets_results w dst n rs) (set_in r.1 dst r.0 n all.0)
      (results_in dst n rs all.1)

  throws_in : (b : Bool) (i : NodeInfo) (error proto : Site) (text : List ℕ) → IsSite error
      → AreIn (throws w b i error proto text)
  throws_in b i error proto text there =
      goes_in (b && is_short text) i.handler (with_error w error proto text)
      (register_in p _ thrown _
      (object_in p w.state error (λ b. error_own proto text) there f))

  makes_in : (b : Bool) (dst : Reg) (s : Site) (own : AbstractState → Own) (n : NodeId) → IsSite s
      → AreIn (goes b n (makes w dst s own))
  makes_in b dst s own n there =
      goes_in b n (makes w dst s own) (register_in p _ dst _ (object_in p w.state s own there f))

  names_in : (name : NameId) → IsName p name → AreKeys p (name_keys name)
  names_in name there = (lt-ltb name.0 (length p.names) there, tt)

  -- objects at two sites of a node
  two_made : (s t : Site) (c d : Class) (arguments : Site → Bool) (own other : AbstractState → Own)
      → AreMade p arguments (making s c ∷ making t d ∷ [])
      → IsInProgram p (with_objects p w.state s own t other)
  two_made s t c d arguments own other made =
      let first : s.0 ≡ made.first = made.in_order.0 in
      let second : t.0 ≡ suc made.first = made.in_order.1.0 in
      objects_in p w.state s own t other made.each.0.told.site.1 made.each.1.0.told.site.1
      (λ same. omega arith) f

  device_in : (dst : Reg) (i : NodeInfo) (o : Option Signature)
      → AreIn (option_map_or (λ (s : Signature). sets w dst (device_value s.kinds) i.next) o [])
  device_in dst i None = tt
  device_in dst i (Some s) = sets_here dst (device_value s.kinds) i.next

  -- ---- by kinds of node

  in_scope : (site : Site) (a : AbstractState) → IsInProgram p a
      → IsInProgram p (enters_scope a site)
  in_scope site a g = register_in p a scope _ g

  pub given_in : (x : Point) (i : NodeInfo) (arguments : Site → Bool) (n : Node)
      → AllByRecursion (IsName p) (option_to_list (name_in n)) → AreMade p arguments (makings n)
      → AreIn (transfer_node w x i n).states
  unfolding makings name_in
  given_in x i g (node.Const dst q) names sites = search sets_here
  given_in x i g (node.Move dst src) names sites = search sets_here
  given_in x i g (node.FindName dst name) names sites = search sets_here
  given_in x i g (node.ReadRef dst base name error) names sites =
      search (two_in, sets_here, throws_in, sites)
  given_in x i g (node.ReadSoft dst base name) names sites = search sets_here
  given_in x i g (node.WriteRef base name src) names sites =
      search (all_go_in, put_states_in w has_length f, names_in, names)
  given_in x i g (node.DeleteRef dst base name) names sites =
      let start = (at w base).label in
      let truth = of_bools true false in
      let deleted = delete_states w start (name_keys name) in
      let unbound = goes_in (at w base).flags.null i.next (with_register w.state dst truth)
      (register_in p w.state dst truth f) in
      let gone = results_in dst i.next deleted
      (delete_states_in w has_length f start (name_keys name) (names_in name names.0)) in
      search (two_in, unbound, gone)
  given_in x i g (node.ToObject dst src wrappers error) names sites =
      search (two_in, sets_here, makes_in, sites)
  given_in x i g (node.NeedObject src error) names sites =
      search (two_in, goes_in, f, throws_in, sites)
  given_in x i g (node.ReadProp dst object k) names sites = search sets_here
  given_in x i g (node.WriteProp object k src error) names sites =
      search (two_in, all_go_in, put_states_in w has_length f, keys_of_value_are, throws_in, sites)
  given_in x i g (node.DeleteProp dst object k) names sites =
      search (results_in, delete_states_in w has_length f, keys_of_value_are)
  given_in x i g (node.HasProp dst object k) names sites = search sets_here
  given_in x i g (node.InstanceOf dst left right not_function not_object) names sites =
      search (two_in, sets_here, throws_in, sites)
  given_in x i g (node.NewObject dst site kind) names sites = search (makes_in, sites)
  given_in x i g (node.MakeFunction dst function site proto_site) names sites =
      let own = λ (a : AbstractState). function_own p function (a.register scope.0).label
      (new proto_site) in
      let proto = λ (a : AbstractState). prototype_own p (new site) in
      let made = with_objects p w.state site own proto_site proto in (
        register_in p made dst (of_label (new site)) (two_made site proto_site class.Function
            class.Object g own proto sites),
        tt,
      )
  given_in x i g (node.Enter site None) names sites =
      let own = activation_own p x.context.function None in
      goes_in _ i.next (enters_scope (with_object p w.state site own) site)
      (in_scope site _ (object_in p w.state site own sites.each.0.told.site.1 f))
  given_in x i g (node.Enter site (Some list)) names sites =
      let own = activation_own p x.context.function (Some list) in
      let other = arguments_own p x.context.function in
      goes_in _ i.next (enters_scope (with_objects p w.state site own list other) site)
      (in_scope site _ (two_made site list class.Activation class.Object g own other sites))
  given_in x i g (node.Declare name) names sites =
      let target = (at w scope).label in
      let q : AbstractProperty =
      record { value = undefined_value; attrs = of_attrs DONT_DELETE } in
      let at_key = (names_in name names.0).0 in
      two_in _ (goes (some_label w (λ l. target l && is_missing w l (key.Name name))) i.next
      (declared w target (key.Name name) q)) (goes_in _ i.next w.state f)
      (goes_in _ i.next (declared w target (key.Name name) q)
      (declared_in w has_length f target (key.Name name) q at_key))
  given_in x i g (node.Bind name src read_only) names sites =
      let q : AbstractProperty =
      record { value = at w src; attrs = of_attrs (bound_attrs read_only) } in
      goes_in _ i.next (defined w (at w scope).label (key.Name name) q)
      (defined_in w has_length f (at w scope).label (key.Name name) q (names_in name names.0).0)
  given_in x i g (node.PushScope site) names sites =
      let own = λ (a : AbstractState). scope_own (a.register scope.0).label in
      goes_in true i.next (enters_scope (with_object p w.state site own) site)
      (in_scope site _ (object_in p w.state site own sites.each.0.told.site.1 f))
  given_in x i g (node.Convert dst src kind other) names sites = search sets_here
  given_in x i g (node.Unary dst op src) names sites = search sets_here
  given_in x i g (node.Binary dst op a b) names sites = search sets_here
  given_in x i g (node.Branch src) names sites =
      two_in _ (goes (at w src).flags.is_false i.other w.state) (goes_in _ i.next w.state f)
      (goes_in _ i.other w.state f)
  given_in x i g (node.Call dst callee receiver args error) names sites =
      search (throws_in, sites)
  given_in x i g (node.New dst callee args site error) names sites = search (throws_in, sites)
  given_in x i g (node.Names list object) names sites = goes_in _ i.next w.state f
  given_in x i g (node.Pick list dst object) names sites =
      two_in _ (goes (has_labels w (at w object)) i.other w.state)
      (sets_here dst (names_shown w (at w object).label) i.next) (goes_in _ i.other w.state f)
  given_in x i g (node.Throw src) names sites = search sets_here
  given_in x i g (node.Return src) names sites = tt
  given_in x i g node.Escape names sites = tt
  given_in x i g (node.Intrinsic dst which args) names sites = search sets_here
  given_in x i g (node.Device dst which) names sites = device_in dst i _
  given_in x i g (node.Stop kind) names sites = tt

  -- ---- calls

  calling_in : (arguments : Site → Bool) (n : Node) (k : ℕ) → AreMade p arguments (makings n)
      → IsInProgram p (calling_state w n k)
  unfolding makings
  calling_in g (node.New dst callee list site error) k sites =
      let proto = prototype_value w (node.New dst callee list site error) k in
      object_in p w.state site (λ (a : AbstractState). constructed_own (aged site proto))
      sites.each.0.told.site.1 f
  calling_in g n k sites = f

  returned_in : (a : AbstractState) (i : NodeInfo) (n : Node) (this v : AbstractValue)
      → IsInProgram p a → AreIn (returned w a i n this v)
  returned_in a i (node.Call dst callee receiver list error) this v g = set_in a dst v i.next g
  returned_in a i (node.New dst callee list site error) this v g =
      set_in a dst (constructed this v) i.next g
  returned_in a i (node.Convert dst src kind other) this v g = set_in a dst v i.next g
  returned_in a i n this v g = tt

  pub back_in : (e : Edge) (i : NodeInfo) (arguments : Site → Bool) (exit : AbstractState)
      (n : Node) → AreMade p arguments (makings i.node) → IsInProgram p exit
      → AreIn (given_back w e i exit n)
  back_in e i g exit (node.Return src) sites h =
      let a = composed p (calling_state w i.node e.callee.function.0) exit in
      returned_in a i i.node (renamed_value exit.mask (of_label e.callee.receiver))
      (exit.register src.0) (composed_in p (calling_state w i.node e.callee.function.0) exit
      (calling_in g i.node e.callee.function.0 sites) h)
  back_in e i g exit node.Escape sites h =
      let a = composed p (calling_state w i.node e.callee.function.0) exit in
      set_in a thrown (exit.register thrown.0) i.handler (composed_in p
      (calling_state w i.node e.callee.function.0) exit
      (calling_in g i.node e.callee.function.0 sites) h)
  back_in e i g exit n sites h = tt

-- What a node of a program demands of its entry is at keys of the program alone.
use Rattle.std.specs.Prelude.{◌≡◌, ◌&&◌, ℕ, zero, suc, Bool, length, List, [], ◌∷◌, Some, IsTrue, slice_get}
use Rattle.std.specs.List.{AllByRecursion, list_any}
use Rattle.std.specs.Option.{option_map_or, option_to_list}
use lib.Chars.{codes}
use Rattle.std.proofs.Common.{refl, subst, inl, inr}
use Rattle.std.proofs.lemmas.Bool.{false≢true, or_cases, and_parts, lt-ltb}
use Rattle.ja_base.specs.declared.ids.Context.{Context}
use Rattle.ja_base.specs.declared.ids.Label.{Label}
use Rattle.ja_base.specs.declared.ids.NameId.{NameId}
use Rattle.ja_base.specs.declared.ids.NodeId.{NodeId}
use Rattle.ja_graph.specs.declared.node.Node.{Node}
use Rattle.ja_graph.specs.declared.node.Node.TheVariants as node
use Rattle.ja_graph.specs.declared.node.NodeInfo.{NodeInfo}
use Rattle.ja_graph.specs.declared.program.Program.{Program}
use Rattle.ja_graph.specs.Node.{name_in}
use Rattle.ja_graph.specs.Program.{node_at}
use Rattle.ja_graph.specs.WellFormed.{IsName, IsWellFormed}
use Rattle.ja_abstract.specs.declared.abstraction.Key.{Key}
use Rattle.ja_abstract.specs.AbstractValue.{Labels, AbstractValue, no_value}
use Rattle.ja_abstract.specs.AbstractState.{AbstractState, is_key, same_key}
use Rattle.ja_abstract.specs.InProgram.{AreKeys}
use Rattle.ja_abstract.specs.Keys.{named, text_keys}
use Rattle.ja_abstract.specs.Made.{length_key, value_key}
use Rattle.ja_abstract.specs.Operations.{is_object, class_of, value_of, has_own, is_enumerable, inherits, has_elements, Looked, AbstractOperation, looked, of_one, of_two, operation, operations, text_keys_of}
use Rattle.ja_abstract.specs.Primitives.{of_text_part}
use Rattle.ja_abstract.specs.Reading.{View, no_demands, both, demands_if, demands_at, demands_of_own, demands_of_get, demands_of_found, demands_of_ancestors, demands_of_shown, prototype_walk, scope_walk, ancestors, get, may_be_absent, may_lack, one_label}
use Rattle.ja_abstract.specs.Resolved.{Demands, demands_of, prototype, outer}
use Rattle.ja_abstract.specs.Values.{has_labels}
use Rattle.ja_abstract.specs.Writes.{demands_of_put, demands_of_puts, demands_of_delete}
use Rattle.ja_abstract.proofs.AtKeys.{is_key_of}
use Rattle.ja_abstract.proofs.TextOperations.{all_text_operations}
use Rattle.ja_abstract.proofs.Keys.{same_key-true}
use Rattle.ja_abstract.proofs.WritesInProgram.{keys_of_value_are, text_keys_are}
use Rattle.ja_rows.specs.Out.{Point, at, name_keys}
use Rattle.ja_rows.specs.Properties.{prototype_keys}
use Rattle.ja_rows.specs.Table.{Table, view_at, point}
use Rattle.ja_rows.specs.Transfer.{transfer, transfer_node}
use Rattle.ja_rows.proofs.TablesInProgram.{has_length, node_of}

-- ---- demands at keys of a program

abbrev pub AreAtKeys : Program → Demands → Type 0
AreAtKeys p d = (l : Label) (k : Key) → IsTrue (d l k) → IsTrue (is_key p k)

-- one of a list that has what leads to a goal
any_leads : {X : Type 0} (test : X → Bool) (Goal : Type 0) (xs : List X)
    → ((x : X) → IsTrue (test x) → Goal) → IsTrue (list_any test xs) → Goal
any_leads test Goal [] f h = absurd (false≢true h)
any_leads test Goal (x ∷ xs) f h =
    elim (or_cases (test x) (list_any test xs) h) [
      | inl here ↦ f x here
      | inr there ↦ any_leads test Goal xs f there
    ]

-- .. of those for which it does
each_leads : {X : Type 0} (P : X → Type 0) (test : X → Bool) (Goal : Type 0) (xs : List X)
    → AllByRecursion P xs → ((x : X) → P x → IsTrue (test x) → Goal)
    → IsTrue (list_any test xs) → Goal
each_leads P test Goal [] all f h = absurd (false≢true h)
each_leads P test Goal (x ∷ xs) all f h =
    elim (or_cases (test x) (list_any test xs) h) [
      | inl here ↦ f x all.0 here
      | inr there ↦ each_leads P test Goal xs all.1 f there
    ]

module _ (w : View) where
  abbrev p : Program
  p = w.program

  none_at : AreAtKeys p no_demands
  none_at l k h = absurd (false≢true h)

  both_at : (d e : Demands) → AreAtKeys p d → AreAtKeys p e → AreAtKeys p (both d e)
  both_at d e f g l k h = elim (or_cases (d l k) (e l k) h) [ inl i ↦ f l k i | inr i ↦ g l k i ]

  if_at : (b : Bool) (d : Demands) → AreAtKeys p d → AreAtKeys p (demands_if b d)
  if_at b d f l k h = f l k (and_parts b (d l k) h).1

  each_at : (set : Labels) (d : Label → Demands) → ((l : Label) → AreAtKeys p (d l))
      → AreAtKeys p (demands_at w set d)
  each_at set d f m j h =
      any_leads (λ (l : Label). set l && d l m j) (IsTrue (is_key p j)) _
      (λ l i. f l m j (and_parts (set l) (d l m j) i).1) h

  -- a pair that is read demands its own key
  read_at : (l : Label) (k : Key) → IsTrue (is_key p k) → AreAtKeys p (demands_of w.state l k)
  read_at l k there m j h =
      let entry = (w.state.property l k).value.flags.entry in
      let same = (and_parts entry (same_key k j) (and_parts (entry && same_key k j) _ h).0).1 in
      subst (λ i. IsTrue (is_key p i)) (same_key-true k j same) there

  own_at_keys : (l : Label) (keys : List Key) → AreKeys p keys
      → AreAtKeys p (demands_of_own w l keys)
  own_at_keys l keys all m j h =
      each_leads (λ (k : Key). IsTrue (is_key p k)) (λ (k : Key). demands_of w.state l k m j)
      (IsTrue (is_key p j)) keys all (λ k there i. read_at l k there m j i) h

  get_at : (start : Labels) (keys : List Key) → AreKeys p keys
      → AreAtKeys p (demands_of_get w start keys)
  get_at start keys all =
      each_at (prototype_walk w start keys) _ (λ l. both_at (demands_of_own w l keys) _
      (own_at_keys l keys all) (if_at (may_be_absent w l keys) _ (read_at l prototype refl)))

  found_at : (start : Labels) (keys : List Key) → AreKeys p keys
      → AreAtKeys p (demands_of_found w start keys)
  found_at start keys all =
      each_at (scope_walk w start keys) _ (λ l. both_at (demands_of_get w (one_label l) keys) _
      (get_at (one_label l) keys all)
      (if_at (may_lack (get w (one_label l) keys)) _ (read_at l outer refl)))

  ancestors_at : (start : Labels) → AreAtKeys p (demands_of_ancestors w start)
  ancestors_at start = each_at (ancestors w start) _ (λ l. read_at l prototype refl)

  shown_at : (start : Labels) → AreAtKeys p (demands_of_shown w start)
  shown_at start =
      both_at (demands_of_ancestors w start) _ (ancestors_at start)
      (each_at (ancestors w start) _ (λ l. own_at_keys l (text_keys p) (text_keys_are p)))

  delete_at : (target : Labels) (keys : List Key) → AreKeys p keys
      → AreAtKeys p (demands_of_delete w target keys)
  delete_at target keys all = each_at target _ (λ l. own_at_keys l keys all)

  module _ (has_length : IsTrue (is_key p length_key)) where
    put_at : (l : Label) (k : Key) → IsTrue (is_key p k) → AreAtKeys p (demands_of_put w l k)
    put_at l k there =
        both_at (demands_of_get w (one_label l) (k ∷ [])) _ (get_at (one_label l) (k ∷ [])
        (there, tt)) (if_at _ _ (read_at l length_key has_length))

    puts_at : (target : Labels) (keys : List Key) → AreKeys p keys
        → AreAtKeys p (demands_of_puts w target keys)
    puts_at target keys all =
        each_at target _ (λ l m j h. each_leads (λ (k : Key). IsTrue (is_key p k))
        (λ (k : Key). demands_of_put w l k m j) (IsTrue (is_key p j)) keys all
        (λ k there i. put_at l k there m j i) h)

    name_at : (name : NameId) → IsName p name → AreKeys p (name_keys name)
    name_at name there = (lt-ltb name.0 (length p.names) there, tt)

    -- ---- by kinds of node

    -- the operations of the built-in functions
    abbrev IsAtKeys : AbstractOperation → Type 0
    IsAtKeys o = (vs : List AbstractValue) → AreAtKeys p (o w vs).demands

    one_at : (f : View → AbstractValue → Looked) → ((v : AbstractValue)
        → AreAtKeys p (f w v).demands) → IsAtKeys (of_one f)
    one_at f g [] = none_at
    one_at f g (v ∷ []) = g v
    one_at f g (v ∷ u ∷ us) = none_at

    two_at : (f : View → AbstractValue → AbstractValue → Looked) → ((v u : AbstractValue)
        → AreAtKeys p (f w v u).demands) → IsAtKeys (of_two f)
    two_at f g [] = none_at
    two_at f g (v ∷ []) = none_at
    two_at f g (v ∷ u ∷ []) = g v u
    two_at f g (v ∷ u ∷ t ∷ ts) = none_at

    own_of_text : (v name : AbstractValue)
        → AreAtKeys p (demands_at w v.label (λ l. demands_of_own w l (text_keys_of w name)))
    own_of_text v name =
        each_at v.label _ (λ l. own_at_keys l (text_keys_of w name) (keys_of_value_are p (of_text_part name.text)))

    value_at : (v : AbstractValue)
        → AreAtKeys p (demands_at w v.label (λ l. demands_of w.state l value_key))
    value_at v = each_at v.label _ (λ l. read_at l value_key refl)

    operations_at : AllByRecursion IsAtKeys operations
    operations_at = (
      one_at is_object (λ v. none_at),
      (
        one_at class_of (λ v. none_at),
        (
          one_at value_of
              value_at,
          (
            two_at has_own own_of_text,
            (
              two_at is_enumerable own_of_text,
              (
                two_at inherits
                    (λ v u. if_at (has_labels w u) _ (ancestors_at v.label)),
                (
                  one_at has_elements
                      (λ v. none_at),
                  all_text_operations IsAtKeys (λ op vs. none_at),
                ),
              ),
            ),
          ),
        ),
      ),
    )

    listed_at : (os : List AbstractOperation) (which : ℕ) → AllByRecursion IsAtKeys os
        → IsAtKeys (option_map_or (λ (r : AbstractOperation). r) (slice_get os which)
        (λ w vs. looked no_value))
    listed_at [] which all vs = none_at
    listed_at (o ∷ os) zero all vs = all.0 vs
    listed_at (o ∷ os) (suc which) all vs = listed_at os which all.1 vs

    operation_at : (which : ℕ) (vs : List AbstractValue)
        → AreAtKeys p (operation which w vs).demands
    operation_at which vs = listed_at operations which operations_at vs

    pub node_at_keys : (x : Point) (i : NodeInfo) (n : Node)
        → AllByRecursion (IsName p) (option_to_list (name_in n))
        → AreAtKeys p (transfer_node w x i n).demands
    unfolding name_in
    node_at_keys x i (node.Const dst q) names = none_at
    node_at_keys x i (node.Move dst src) names = none_at
    node_at_keys x i (node.FindName dst name) names = found_at _ (name_keys name) (name_at name names.0)
    node_at_keys x i (node.ReadRef dst base name error) names = get_at _ (name_keys name) (name_at name names.0)
    node_at_keys x i (node.ReadSoft dst base name) names = get_at _ (name_keys name) (name_at name names.0)
    node_at_keys x i (node.WriteRef base name src) names = puts_at _ (name_keys name) (name_at name names.0)
    node_at_keys x i (node.DeleteRef dst base name) names = delete_at _ (name_keys name) (name_at name names.0)
    node_at_keys x i (node.ToObject dst src wrappers error) names = none_at
    node_at_keys x i (node.NeedObject src error) names = none_at
    node_at_keys x i (node.ReadProp dst object k) names = get_at _ _ (keys_of_value_are p (at w k))
    node_at_keys x i (node.WriteProp object k src error) names =
        puts_at _ _ (keys_of_value_are p (at w k))
    node_at_keys x i (node.DeleteProp dst object k) names =
        delete_at _ _ (keys_of_value_are p (at w k))
    node_at_keys x i (node.HasProp dst object k) names = get_at _ _ (keys_of_value_are p (at w k))
    node_at_keys x i (node.InstanceOf dst left right not_function not_object) names =
        let keys : AreKeys p (prototype_keys p) = (is_key_of p (named (codes "prototype")), tt) in
        both_at _ _ (if_at _ _ (get_at _ (prototype_keys p) keys)) (if_at _ _ (ancestors_at _))
    node_at_keys x i (node.NewObject dst site kind) names = none_at
    node_at_keys x i (node.MakeFunction dst function site proto_site) names = none_at
    node_at_keys x i (node.Enter site arguments) names = none_at
    node_at_keys x i (node.Declare name) names = delete_at _ (name_keys name) (name_at name names.0)
    node_at_keys x i (node.Bind name src read_only) names = none_at
    node_at_keys x i (node.PushScope site) names = none_at
    node_at_keys x i (node.Convert dst src kind other) names = none_at
    node_at_keys x i (node.Unary dst op src) names = none_at
    node_at_keys x i (node.Binary dst op a b) names = none_at
    node_at_keys x i (node.Branch src) names = none_at
    node_at_keys x i (node.Call dst callee receiver args error) names = none_at
    node_at_keys x i (node.New dst callee args site error) names = none_at
    node_at_keys x i (node.Names list object) names = none_at
    node_at_keys x i (node.Pick list dst object) names = shown_at _
    node_at_keys x i (node.Throw src) names = none_at
    node_at_keys x i (node.Return src) names = none_at
    node_at_keys x i node.Escape names = none_at
    node_at_keys x i (node.Intrinsic dst which args) names = operation_at which _
    node_at_keys x i (node.Device dst which) names = none_at
    node_at_keys x i (node.Stop kind) names = none_at

-- each pair that a node of the program demands has a key of the program
pub demands_in_program : (p : Program) → IsWellFormed p → (t : Table) (x : Context) (n : NodeId)
    (i : NodeInfo) (a : AbstractState) → node_at p x.function n ≡ Some i
    → AreAtKeys p (transfer (view_at p t x a) (point x n i)).demands
demands_in_program p good t x n i a is =
    node_at_keys (view_at p t x a) (has_length p good) (point x n i) i i.node
    (node_of p good x.function n i is).names

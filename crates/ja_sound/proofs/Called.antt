-- A call: the edge is one of the node's, the entry state holds, and so do the values that are
-- filled in.
use Rattle.std.specs.Prelude.{◌≡◌, ◌<◌, ◌+◌, ◌&&◌, ◌==◌, not, ℕ, Bool, false, if◌then◌else◌, IsTrue, List, [], ◌∷◌, map, filter, length, is_some, Option, Some, None, IsSome}
use Rattle.std.specs.List.{list_any, range_with_len}
use Rattle.std.specs.Option.{option_map_or}
use Rattle.std.proofs.Common.{refl, sym, subst, ap, ◌∙◌, inl, inr, arith}
use Rattle.std.proofs.lemmas.Bool.{false≢true, cond-true, cond_both, eq-eqb, or_left, or_right, or_cases, and_from}
use Rattle.std.proofs.lemmas.Option.{none-some, same_Some}
use Rattle.ja_base.specs.declared.ids.Label.{Label}
use Rattle.ja_base.specs.declared.ids.FnId.{FnId}
use Rattle.ja_prim.specs.declared.primitive.Primitive.TheVariants as primitive
use Rattle.ja_graph.specs.declared.program.Class.{Class}
use Rattle.ja_graph.specs.declared.program.Class.TheVariants as class
use Rattle.ja_graph.specs.declared.program.Program.{Program}
use Rattle.ja_graph.specs.Program.{global}
use Rattle.ja_machine.specs.declared.machine.Addr.{Addr}
use Rattle.ja_machine.specs.declared.machine.Value.{Value}
use Rattle.ja_machine.specs.declared.machine.Value.TheVariants as value
use Rattle.ja_machine.specs.declared.machine.Object.{Object}
use Rattle.ja_machine.specs.declared.machine.Heap.{Heap}
use Rattle.ja_machine.specs.Calls.{function_called, function_constructing, receiver_of, is_activation}
use Rattle.ja_machine.specs.Heap.{object_at, class_at}
use Rattle.ja_machine.specs.Machine.{class_of_site}
use Rattle.ja_machine.specs.Objects.{first_of}
use Rattle.ja_machine.specs.State.{IsHeap, IsObjectOf, IsValueOf}
use Rattle.ja_abstract.specs.AbstractValue.{Labels, AbstractValue, same_label}
use Rattle.ja_abstract.specs.AbstractState.{labels_of, new}
use Rattle.ja_abstract.specs.Contents.{label_of}
use Rattle.ja_abstract.specs.Reading.{View, some_label}
use Rattle.ja_abstract.specs.Values.{has_atoms}
use Rattle.ja_abstract.proofs.Atoms.{has_atoms-from}
use Rattle.ja_abstract.proofs.Labels.{IsAmong, same_label-true, same_label_from, some_among}
use Rattle.ja_abstract.proofs.Lists.{Member, member-map, member-flat_map, member-range}
use Rattle.ja_meaning.specs.Meaning.{has_value}
use Rattle.ja_meaning.proofs.Parts.{label_of-among}
use Rattle.ja_rows.specs.declared.table.Edge.{Edge}
use Rattle.ja_rows.specs.Out.{Point}
use Rattle.ja_rows.specs.Edges.{edge, edges_to, runs, calls_at, constructs_at, some_runs, has_other, receivers, is_activation_class, is_activation_label, counts_as_global}

-- what of a list passes is among what is kept
member-filter : (keep : Labels) (ls : List Label) (l : Label) → IsAmong l ls → IsTrue (keep l)
    → Member l (filter keep ls)
member-filter keep [] l a k = absurd (false≢true a)
member-filter keep (m ∷ ms) l a k =
    elim (or_cases (same_label l m) (list_any (same_label l) ms) a) [
      | inl s ↦
          let is : l ≡ m = same_label-true l m s in
          subst (Member l) (sym (cond-true (keep m) (m ∷ filter keep ms) (filter keep ms)
          (subst (λ r. IsTrue (keep r)) is k))) (inl (sym is))
      | inr r ↦
          let more = member-filter keep ms l r k in
          cond_both (keep m) (m ∷ filter keep ms) (filter keep ms) (Member l) (λ _. inr more)
          (λ _. more)
    ]

-- the label of an object that is called or constructed runs its function
runs_by : (o : Option FnId) (f : FnId) → o ≡ Some f
    → IsTrue (option_map_or (λ (g : FnId). g.0 == f.0) o false)
runs_by o f is =
    subst (λ r. IsTrue (option_map_or (λ (g : FnId). g.0 == f.0) r false)) (sym is)
    (eq-eqb f.0 f.0 refl)

pub runs-called : (p : Program) (h : Heap) (a : Addr) (f : FnId)
    → function_called p (value.Object a) ≡ Some f → IsTrue (runs (calls_at p) f.0 (label_of h a))
runs-called p h a f is = runs_by (function_called p (value.Object a)) f is

pub runs-constructing : (p : Program) (h : Heap) (a : Addr) (f : FnId)
    → function_constructing p (value.Object a) ≡ Some f
    → IsTrue (runs (constructs_at p) f.0 (label_of h a))
runs-constructing p h a f is = runs_by (function_constructing p (value.Object a)) f is

module _ (w : View) (c : Heap) (known : IsHeap w.program c) where
  abbrev p : Program
  p = w.program

  among : (a : Addr) → IsObjectOf c a → IsAmong (label_of c a) (labels_of p)
  among a there = label_of-among p c known a there

  some-object : (test : Labels) (a : Addr) → IsObjectOf c a → IsTrue (test (label_of c a))
      → IsTrue (some_label w test)
  some-object test a there h = some_among test (labels_of p) (label_of c a) (among a there) h

  -- an edge to a function that is run and a receiver that may be
  pub member-edges : (x : Point) (is_run : ℕ → Bool) (set : Labels) (f : ℕ) (r : Addr)
      → f < length p.functions → IsTrue (is_run f) → IsObjectOf c r → IsTrue (set (label_of c r))
      → Member (edge x f (label_of c r)) (edges_to w x is_run set)
  member-edges x is_run set f r in_range run there has =
      let l = label_of c r in
      let range : Member f (range_with_len 0 (length p.functions)) =
      subst (λ k. Member k (range_with_len 0 (length p.functions)))
      (let z : 0 + f ≡ f = omega arith in z) (member-range 0 (length p.functions) f in_range) in
      let one : List Edge = map (edge x f) (filter set (labels_of p)) in
      let here : Member (edge x f l) (if is_run f then one else []) =
      subst (Member (edge x f l)) (sym (cond-true (is_run f) one [] run))
      (member-map (edge x f) l (filter set (labels_of p))
      (member-filter set (labels_of p) l (among r there) has)) in
      member-flat_map (λ (g : ℕ). if is_run g then map (edge x g)
      (filter set (labels_of p)) else []) f (edge x f l)
      (range_with_len 0 (length p.functions)) range here

  -- ---- callees

  pub run-called : (v : AbstractValue) (a : Addr) (f : FnId) → IsObjectOf c a
      → IsTrue (v.label (label_of c a)) → function_called p (value.Object a) ≡ Some f
      → IsTrue (some_runs w (calls_at p) v f.0)
  run-called v a f there has is =
      some-object (λ l. v.label l && runs (calls_at p) f.0 l) a there
      (and_from _ _ has (runs-called p c a f is))

  pub run-constructing : (v : AbstractValue) (a : Addr) (f : FnId) → IsObjectOf c a
      → IsTrue (v.label (label_of c a)) → function_constructing p (value.Object a) ≡ Some f
      → IsTrue (some_runs w (constructs_at p) v f.0)
  run-constructing v a f there has is =
      some-object (λ l. v.label l && runs (constructs_at p) f.0 l) a there
      (and_from _ _ has (runs-constructing p c a f is))

  -- a primitive, or an object that runs none
  other_by : (entry : Label → Option FnId) (v : AbstractValue) (u : Value) → IsValueOf c u
      → IsTrue (has_value c v u)
      → ((a : Addr) → u ≡ value.Object a → entry (label_of c a) ≡ None)
      → IsTrue (has_other w entry v)
  other_by entry v (value.Primitive q) there told none = or_left _ _ (has_atoms-from v q told)
  other_by entry v (value.Object a) there told none =
      or_right (has_atoms v) _ (some-object (λ l. v.label l && not (is_some (entry l))) a there
      (and_from _ _ told (ap (λ o. not (is_some o)) (none a refl))))

  pub called_other : (v : AbstractValue) (u : Value) → IsValueOf c u → IsTrue (has_value c v u)
      → function_called p u ≡ None → IsTrue (has_other w (calls_at p) v)
  called_other v u there told none =
      other_by (calls_at p) v u there told
      (λ a is. subst (λ z. function_called p z ≡ None) is none)

  pub constructing_other : (v : AbstractValue) (u : Value) → IsValueOf c u
      → IsTrue (has_value c v u) → function_constructing p u ≡ None
      → IsTrue (has_other w (constructs_at p) v)
  constructing_other v u there told none =
      other_by (constructs_at p) v u there told
      (λ a is. subst (λ z. function_constructing p z ≡ None) is none)

  -- ---- receivers

  -- the class of an object is that of its label
  class_is : (a : Addr) (o : Object) → object_at c a ≡ Some o
      → class_at c a ≡ Some (class_of_site p a.site.0)
  class_is a o is = ap (λ r. option_map_class r) is ∙ ap Some (known.class a o is)
    where
      option_map_class : Option Object → Option Class
      option_map_class None = None
      option_map_class (Some q) = Some q.class

  same_test : (k : Class) → is_activation (Some k) ≡ is_activation_class k
  same_test class.Object = refl
  same_test class.Function = refl
  same_test class.Array = refl
  same_test class.String = refl
  same_test class.Boolean = refl
  same_test class.Number = refl
  same_test class.Error = refl
  same_test class.Math = refl
  same_test class.Activation = refl

  module _ (global_there : IsObjectOf c (first_of global))
      (global_new : label_of c (first_of global) ≡ new global) where
    global_has : (v : AbstractValue) → IsTrue (counts_as_global w v)
        → IsTrue (receivers w v (label_of c (first_of global)))
    global_has v counts =
        or_right _ _ (and_from _ _ counts (same_label_from (new global)
        (label_of c (first_of global)) (sym global_new)))

    -- the receiver of a call is an object, with a label among the receivers
    abbrev IsReceiver : AbstractValue → Addr → Type 0
    IsReceiver v r = IsObjectOf c r × IsTrue (receivers w v (label_of c r))

    object_receiver : (v : AbstractValue) (b : Addr) (o : Object) → object_at c b ≡ Some o
        → IsTrue (v.label (label_of c b)) → IsReceiver v
        (if is_activation (class_at c b) then first_of global else b)
    object_receiver v b o is has =
        let there : IsObjectOf c b = subst (λ z. IsSome z) (sym is) refl in
        let test : is_activation (class_at c b) ≡ is_activation_label p (label_of c b) =
        ap is_activation (class_is b o is) ∙ same_test (class_of_site p b.site.0) in
        cond_both (is_activation (class_at c b)) (first_of global) b (IsReceiver v)
        (λ act. (
          global_there,
          global_has v (or_right v.flags.undefined _
              (or_right v.flags.null _
              (some-object (λ l. v.label l && is_activation_label p l) b there
              (and_from _ _ has (sym test ∙ act))))),
        ))
        (λ other. (there, or_left _ _ (and_from _ _ has (ap not (sym test ∙ other)))))

    some-at : (b : Addr) → IsObjectOf c b → (o : Object) × (object_at c b ≡ Some o)
    some-at b there = by (object_at c b) refl there
      where
        by : (r : Option Object) → object_at c b ≡ r → IsSome r
            → (o : Object) × (object_at c b ≡ Some o)
        by None e s = absurd (false≢true s)
        by (Some o) e s = (o, e)

    pub receiver-is : (v : AbstractValue) (u : Value) (r : Addr) → IsValueOf c u
        → IsTrue (has_value c v u) → receiver_of c u ≡ Some r → IsReceiver v r
    receiver-is v (value.Object b) r there has is =
        let (o, at) = some-at b there in
        subst (IsReceiver v) (same_Some (if is_activation
        (class_at c b) then first_of global else b) r is) (object_receiver v b o at has)
    receiver-is v (value.Primitive primitive.Undefined) r there has is =
        subst (IsReceiver v) (same_Some (first_of global) r is)
        (global_there, global_has v (or_left v.flags.undefined _ has))
    receiver-is v (value.Primitive primitive.Null) r there has is =
        subst (IsReceiver v) (same_Some (first_of global) r is)
        (global_there, global_has v (or_right v.flags.undefined _ (or_left v.flags.null _ has)))
    receiver-is v (value.Primitive (primitive.Bool b)) r there has is = absurd (none-some r is)
    receiver-is v (value.Primitive (primitive.Number n)) r there has is = absurd (none-some r is)
    receiver-is v (value.Primitive (primitive.Text t)) r there has is = absurd (none-some r is)

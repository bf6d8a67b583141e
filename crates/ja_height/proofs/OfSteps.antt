-- What a node gives of a state of a program is within the program: reading, objects, writes, and
-- what registers are set to.
use Rattle.std.specs.Prelude.{zero, suc, ◌<◌, ◌≤◌, ◌≡◌, ◌+◌, ◌&&◌, ◌++◌, ℕ, ℤ, Bool, true, false, if◌then◌else◌, nat_lt, List, [], ◌∷◌, map, filter, length, slice_get, Option, Some, None, IfSome, unwrap_or, IsTrue}
use Rattle.std.specs.List.{AllByRecursion, list_any, range_with_len}
use Rattle.std.specs.Option.{option_map_or, option_map}
use Rattle.std.proofs.Common.{refl, inl, inr, arith}
use Rattle.std.proofs.lemmas.Bool.{cond_both, and_parts, or_cases, false≢true, lt-ltb}
use lib.Chars.{codes}
use Rattle.ja_base.specs.declared.ids.FnId.{FnId}
use Rattle.ja_base.specs.declared.ids.Label.{Label}
use Rattle.ja_base.specs.declared.ids.NameId.{NameId}
use Rattle.ja_base.specs.declared.ids.Site.{Site}
use Rattle.ja_base.proofs.Lists.{all_append}
use Rattle.ja_prim.specs.declared.primitive.Num.TheVariants.{Whole}
use Rattle.ja_prim.specs.declared.primitive.Primitive.TheVariants as primitive
use Rattle.ja_graph.specs.declared.attrs.TheConstants.{ALL_ATTRS, DONT_DELETE, DONT_ENUM, KEPT_HIDDEN, NO_ATTRS}
use Rattle.ja_graph.specs.declared.builtins.TheConstants as builtins
use Rattle.ja_graph.specs.declared.node.Made.{Made}
use Rattle.ja_graph.specs.declared.node.Made.TheVariants as made
use Rattle.ja_graph.specs.declared.program.Class.{Class}
use Rattle.ja_graph.specs.declared.program.Class.TheVariants as class
use Rattle.ja_graph.specs.declared.program.Program.{Program}
use Rattle.ja_graph.specs.WellFormed.{IsWellFormed}
use Rattle.ja_machine.specs.Frames.{scope, parameters_of}
use Rattle.ja_machine.specs.Objects.{prototype_of_error}
use Rattle.ja_graph.specs.declared.node.ErrorKind.{ErrorKind}
use Rattle.ja_graph.specs.declared.node.ErrorKind.TheVariants as error_kind
use Rattle.ja_abstract.specs.declared.abstraction.Key.{Key}
use Rattle.ja_abstract.specs.declared.abstraction.Key.TheVariants as key
use Rattle.ja_abstract.specs.declared.abstraction.NumberPart.TheVariants as number_part
use Rattle.ja_abstract.specs.declared.abstraction.TextPart.{TextPart}
use Rattle.ja_abstract.specs.declared.abstraction.TextPart.TheVariants as text_part
use Rattle.ja_abstract.specs.AbstractValue.{Labels, AbstractValue, AbstractProperty, absent_property, no_property, no_value, null_value, of_attrs, of_label, of_labels, of_primitive, present_part}
use Rattle.ja_abstract.specs.AbstractState.{AbstractState, is_label, labels_of, new, same_key}
use Rattle.ja_abstract.specs.Keys.{index_keys, index_of_key, is_index_key, text_key}
use Rattle.ja_abstract.specs.Made.{Own, activation_own, argument_property, arguments_binding, arguments_own, constructed_own, count_register, callee_register, empty_own, error_own, function_own, if_reached, index_property, inherits, length_key, length_of_text, one_number, own_of, parameter_ids, parameter_properties, parameter_register, property_of, prototype_own, rest_register, scope_key, scope_own, slot_of, text_own, value_key, whole_constant, wrapper_own}
use Rattle.ja_abstract.specs.Primitives.{of_bools, of_number_part, to_num, whole_value}
use Rattle.ja_abstract.specs.Reading.{View, at_labels, ends_at, found, get, get_absent, get_present, has_present, may_accept, may_have, may_lack, may_refuse, next_scope, one_label, own, present_property, prototype_walk, scope_walk, slot}
use Rattle.ja_abstract.specs.Resolved.{join_all, outer, prototype, reached, resolved, rounds}
use Rattle.ja_abstract.specs.Writes.{Write, Deletion, accepted_writes, asked_at, declared, defined, delete_list, delete_states, element_writes, grown_length, has_some_part, if_given, if_there, is_array_label, is_missing, joins_at, length_writes, may_be_cut, may_be_length, may_delete, may_keep, one_target, own_at, put_list, put_property, put_states, put_writes, sets_at, strong_at, strong_delete, strong_put, strong_update, weak_delete, weak_put, weak_update}
use Rattle.ja_height.proofs.States.{IsOf}
use Rattle.ja_height.proofs.OfValues.{of_constant, of_join, of_nothing, of_null, of_number, of_one_label, of_one_primitive, of_some_labels, of_text, of_truths}
use Rattle.ja_height.proofs.OfStates.{AreEntriesOf, AreOwn, AreWritesOf, IsKept, IsOwnOf, IsPropertyOf, list_own, of_absent, of_all, of_joined, of_none, of_resolved, strong_kept, weak_kept}

-- what holds of each of them, and where there is none, holds of both ways
by_option : {A B : Type 0} (P : A → Type 0) (Q : B → Type 0) (f : A → B) (b : B) (o : Option A)
    → IfSome o P → ((a : A) → P a → Q (f a)) → Q b → Q (option_map_or f o b)
by_option P Q f b None some each none = none
by_option P Q f b (Some a) some each none = each a some

any_option : {A : Type 0} (o : Option A) → IfSome o (λ (a : A). Unit {0})
any_option None = tt
any_option (Some a) = tt

-- what holds of each entry holds at each place
pub at_place : {A : Type 0} (P : A → Type 0) (xs : List A) (n : ℕ) → AllByRecursion P xs
    → IfSome (slice_get xs n) P
at_place P [] n all = tt
at_place P (x ∷ xs) zero all = all.0
at_place P (x ∷ xs) (suc n) all = at_place P xs n all.1

-- one of a list that passes leads to a goal
pub any_leads : {X : Type 0} (test : X → Bool) (Goal : Type 0) (xs : List X)
    → ((x : X) → IsTrue (test x) → Goal) → IsTrue (list_any test xs) → Goal
any_leads test Goal [] f h = absurd (false≢true h)
any_leads test Goal (x ∷ xs) f h =
    elim (or_cases (test x) (list_any test xs) h) [
      | inl here ↦ f x here
      | inr there ↦ any_leads test Goal xs f there
    ]

-- a walk stays within what it starts with and each step leads to
module _ (P : Label → Type 0) (next : Label → Labels)
    (each : (l m : Label) → IsTrue (next l m) → P m) (labels : List Label) (start : Labels)
    (first : (l : Label) → IsTrue (start l) → P l) where
  rounds_of : (n : ℕ) (l : Label) → IsTrue (rounds next labels start n l) → P l
  rounds_of zero l h = first l h
  rounds_of (suc n) l h =
      let before = rounds next labels start n in
      elim (or_cases (before l) (list_any (λ (m : Label). before m && next m l) labels) h) [
        | inl i ↦ rounds_of n l i
        | inr i ↦ any_leads (λ (m : Label). before m && next m l) (P l) labels
            (λ m j. each m l (and_parts (before m) (next m l) j).1) i
      ]

  pub reached_of : (l : Label) → IsTrue (reached next labels start l) → P l
  reached_of = rounds_of (length labels)

-- ---- the program's labels

module _ (p : Program) (good : IsWellFormed p) where
  abbrev pub IsSite : Site → Type 0
  IsSite s = s.0 < length p.sites

  pub site_label : (s : Site) → IsSite s → IsTrue (is_label p (new s))
  site_label s h = lt-ltb s.0 (length p.sites) h

  pub of_site : (s : Site) → IsSite s → IsOf p (of_label (new s))
  of_site s h = of_one_label p (new s) (site_label s h)

  pub builtin_there : (s : Site) (c : Class)
      → slice_get builtins.BUILTIN_CLASSES s.0 ≡ Some c → IsSite s
  builtin_there s c e =
      let (info, info_is, class_is, fits) = good.builtins s.0 c e in
      let sites : length p.opening ≤ length p.sites = good.sites in
      omega arith

  pub error_there : (kind : ErrorKind) → IsSite (prototype_of_error kind)
  error_there error_kind.Error = builtin_there builtins.ERROR_PROTOTYPE class.Error refl
  error_there error_kind.EvalError = builtin_there builtins.EVAL_ERROR_PROTOTYPE class.Error refl
  error_there error_kind.RangeError = builtin_there builtins.RANGE_ERROR_PROTOTYPE class.Error refl
  error_there error_kind.ReferenceError =
      builtin_there builtins.REFERENCE_ERROR_PROTOTYPE class.Error refl
  error_there error_kind.SyntaxError =
      builtin_there builtins.SYNTAX_ERROR_PROTOTYPE class.Error refl
  error_there error_kind.TypeError = builtin_there builtins.TYPE_ERROR_PROTOTYPE class.Error refl
  error_there error_kind.URIError = builtin_there builtins.URI_ERROR_PROTOTYPE class.Error refl

  -- ---- own properties of objects that nodes make

  object_there : IsSite builtins.OBJECT_PROTOTYPE
  object_there = builtin_there builtins.OBJECT_PROTOTYPE class.Object refl

  pub of_object_prototype : IsOf p (of_label (new builtins.OBJECT_PROTOTYPE))
  of_object_prototype = of_site builtins.OBJECT_PROTOTYPE object_there

  pub own_error : (proto : Site) (text : List ℕ) → IsSite proto → IsOwnOf p (error_own proto text)
  own_error proto text there =
      list_own p (inherits proto ∷ property_of (key.Name builtins.MESSAGE)
      (of_primitive (primitive.Text text)) NO_ATTRS ∷ [])
      (of_site proto there, (of_one_primitive p (primitive.Text text), tt))

  pub own_empty : (kind : Made) → IsOwnOf p (empty_own kind)
  own_empty made.Object =
      list_own p (inherits builtins.OBJECT_PROTOTYPE ∷ []) (of_object_prototype, tt)
  own_empty made.Array =
      list_own p (inherits builtins.ARRAY_PROTOTYPE
      ∷ property_of length_key (whole_constant 0) KEPT_HIDDEN ∷ []) (
        of_site builtins.ARRAY_PROTOTYPE (builtin_there builtins.ARRAY_PROTOTYPE class.Array refl),
        (of_constant p 0, tt),
      )
  own_empty (made.Error kind) =
      list_own p (inherits (prototype_of_error kind) ∷ []) (of_site _ (error_there kind), tt)

  pub own_wrapper : (proto : Site) (v : AbstractValue) → IsSite proto → IsOf p v
      → IsOwnOf p (wrapper_own proto v)
  own_wrapper proto v there of =
      list_own p (inherits proto ∷ slot_of value_key v ∷ []) (of_site proto there, (of, tt))

  of_length : (t : TextPart) → IsOf p (length_of_text t)
  of_length text_part.Nothing = of_number p number_part.Index
  of_length (text_part.One t) = of_constant p (length t)
  of_length text_part.IndexText = of_number p number_part.Index
  of_length text_part.OtherText = of_number p number_part.Index
  of_length text_part.Text = of_number p number_part.Index

  pub own_text : (part : TextPart) → IsOwnOf p (text_own part)
  own_text part =
      list_own p (inherits builtins.STRING_PROTOTYPE
      ∷ slot_of value_key (record no_value { text = part })
      ∷ property_of length_key (length_of_text part) ALL_ATTRS ∷ []) (
        of_site builtins.STRING_PROTOTYPE
            (builtin_there builtins.STRING_PROTOTYPE class.String refl),
        (of_text p part, (of_length part, tt)),
      )

  pub own_scope : (chain : Labels) → IsOf p (of_labels chain) → IsOwnOf p (scope_own chain)
  own_scope chain of =
      list_own p (inherits builtins.OBJECT_PROTOTYPE ∷ slot_of outer (of_labels chain) ∷ [])
      (of_object_prototype, (of, tt))

  pub own_function : (f : FnId) (chain : Labels) (proto : Label) → IsOf p (of_labels chain)
      → IsTrue (is_label p proto) → IsOwnOf p (function_own p f chain proto)
  own_function f chain proto of there =
      list_own p (inherits builtins.FUNCTION_PROTOTYPE
      ∷ slot_of scope_key (of_labels chain)
      ∷ property_of length_key (whole_constant (parameters_of p f)) ALL_ATTRS
      ∷ property_of (text_key p (codes "prototype")) (of_label proto) DONT_DELETE ∷ []) (
        of_site builtins.FUNCTION_PROTOTYPE
            (builtin_there builtins.FUNCTION_PROTOTYPE class.Function refl),
        (of, (of_constant p (parameters_of p f), (of_one_label p proto there, tt))),
      )

  pub own_prototype : (function : Label) → IsTrue (is_label p function)
      → IsOwnOf p (prototype_own p function)
  own_prototype function there =
      list_own p (inherits builtins.OBJECT_PROTOTYPE
      ∷ property_of (text_key p (codes "constructor")) (of_label function) DONT_ENUM ∷ [])
      (of_object_prototype, (of_one_label p function there, tt))

  pub own_constructed : (v : AbstractValue) → IsOf p v → IsOwnOf p (constructed_own v)
  own_constructed v of = list_own p (slot_of prototype v ∷ []) (of, tt)

  parameters_own : (count : ℕ) (a : AbstractState) → IsKept p count a → (j : ℕ) (ns : List NameId)
      → AreOwn p (parameter_properties a j ns)
  parameters_own count a f j [] = tt
  parameters_own count a f j (n ∷ ns) =
      all_append (λ (q : Key × AbstractProperty). IsPropertyOf p q.1)
      (parameter_properties a (j + 1) ns) _ (parameters_own count a f (j + 1) ns)
      (f.values (parameter_register j), tt)

  binding_own : (arguments : Option Site) → IfSome arguments IsSite
      → AreOwn p (arguments_binding arguments)
  binding_own None h = tt
  binding_own (Some site) h = (of_site site h, tt)

  pub own_activation : (count : ℕ) (f : FnId) (arguments : Option Site) (a : AbstractState)
      → IfSome arguments IsSite → IsKept p count a → IsOwnOf p (activation_own p f arguments a)
  own_activation count f arguments a there g =
      list_own p (slot_of outer (of_labels (a.register scope.0).label)
      ∷ (arguments_binding arguments ++ parameter_properties a 0 (parameter_ids p f))) (
        of_some_labels p (a.register scope.0).label (g.values scope.0).label,
        all_append (λ (q : Key × AbstractProperty). IsPropertyOf p q.1)
            (arguments_binding arguments) (parameter_properties a 0 (parameter_ids p f))
            (binding_own arguments there)
            (parameters_own count a g 0 (parameter_ids p f)),
      )

  of_if_reached : (c : Option ℤ) (j : ℕ) (q : AbstractProperty) → IsPropertyOf p q
      → IsPropertyOf p (if_reached c j q)
  of_if_reached (Some c) j q of =
      cond_both _ q absent_property (IsPropertyOf p) (λ _. of) (λ _. of_absent p)
  of_if_reached None j q of = of_joined p q absent_property of (of_absent p)

  of_argument : (count : ℕ) (f : FnId) (a : AbstractState) (j : ℕ) → IsKept p count a
      → IsPropertyOf p (argument_property p f a j)
  of_argument count f a j g =
      let v = if nat_lt j (parameters_of p f) then a.register (parameter_register j) else a.register
      (rest_register (parameters_of p f)) in
      of_if_reached (one_number p (a.register count_register)) j
      (record { value = v; attrs = of_attrs DONT_ENUM })
      (cond_both (nat_lt j (parameters_of p f)) (a.register (parameter_register j))
      (a.register (rest_register (parameters_of p f))) (IsOf p)
      (λ _. g.values (parameter_register j))
      (λ _. g.values (rest_register (parameters_of p f))))

  or_own : (own : Own) (k : Key) (o : Option AbstractProperty) → IsOwnOf p own
      → IfSome o (IsPropertyOf p) → IsPropertyOf p (unwrap_or o (own k))
  or_own own k None of some = of k
  or_own own k (Some q) of some = some

  pub own_arguments : (count : ℕ) (f : FnId) (a : AbstractState) → IsKept p count a
      → IsOwnOf p (arguments_own p f a)
  own_arguments count f a g k =
      let listed = inherits builtins.OBJECT_PROTOTYPE
      ∷ property_of (key.Name builtins.CALLEE) (a.register callee_register) DONT_ENUM
      ∷ property_of length_key (a.register count_register) DONT_ENUM ∷ [] in
      or_own (own_of listed) k (index_property p f a k) (list_own p listed (
        of_object_prototype,
        (g.values callee_register, (g.values count_register, tt)),
      )) (by k)
    where
      at_index : (o : Option ℕ)
          → IfSome (option_map (argument_property p f a) o) (IsPropertyOf p)
      at_index None = tt
      at_index (Some j) = of_argument count f a j g

      by : (k : Key) → IfSome (index_property p f a k) (IsPropertyOf p)
      by (key.Name n) = at_index (index_of_key p (key.Name n))
      by key.OtherIndex =
          of_joined p absent_property
          (join_all (map (argument_property p f a) (range_with_len 0 (parameters_of p f + 1))))
          (of_absent p) (of_all p (argument_property p f a)
          (λ j. of_argument count f a j g) (range_with_len 0 (parameters_of p f + 1)))
      by key.OtherName = at_index (index_of_key p key.OtherName)
      by (key.Slot s) = at_index (index_of_key p (key.Slot s))

-- ---- reading

module _ (w : View) (count : ℕ) (f : IsKept w.program count w.state)
    (g : AreEntriesOf w.program w.entries) where
  abbrev p : Program
  p = w.program

  of_own : (l : Label) (keys : List Key) → IsPropertyOf p (own w l keys)
  of_own l keys =
      of_all p (resolved w.state w.entries l)
      (λ k. of_resolved p w.state w.entries l k f.contents g) keys

  pub of_own_at : (l : Label) (k : Key) → IsPropertyOf p (own_at w l k)
  of_own_at l k = of_resolved p w.state w.entries l k f.contents g

  pub of_slot : (l : Label) (k : Key) → IsOf p (slot w l k)
  of_slot l k = of_resolved p w.state w.entries l k f.contents g

  of_at_labels : (set : Labels) (h : Label → AbstractProperty)
      → ((l : Label) → IsPropertyOf p (h l)) → IsPropertyOf p (at_labels w set h)
  of_at_labels set h each =
      of_all p (λ (l : Label). if set l then h l else no_property) (λ l. cond_both (set l) (h l)
      no_property (IsPropertyOf p) (λ _. each l) (λ _. of_none p)) (labels_of p)

  of_present : (q : AbstractProperty) → IsPropertyOf p q → IsPropertyOf p (present_property w q)
  of_present q of =
      cond_both (has_present w q.value) (record q { value = present_part q.value }) no_property
      (IsPropertyOf p) (λ _. record { label = of.label }) (λ _. of_none p)

  pub of_get : (start : Labels) (keys : List Key) → IsPropertyOf p (get w start keys)
  of_get start keys =
      of_joined p (get_present w start keys) (get_absent w start keys)
      (of_at_labels (prototype_walk w start keys) (λ l. present_property w (own w l keys))
      (λ l. of_present (own w l keys) (of_own l keys)))
      (of_at_labels (λ l. prototype_walk w start keys l && ends_at w keys l)
      (λ l. absent_property) (λ l. of_absent p))

  abbrev IsLabel : Label → Type 0
  IsLabel l = IsTrue (is_label p l)

  of_walk : (start : Labels) (keys : List Key) → ((l : Label) → IsTrue (start l) → IsLabel l)
      → (l : Label) → IsTrue (scope_walk w start keys l) → IsLabel l
  of_walk start keys first =
      reached_of IsLabel (next_scope w keys) (λ l m h. (of_slot l outer).label m
      (and_parts (may_lack (get w (one_label l) keys)) _ h).1) (labels_of p) start first

  pub of_found : (start : Labels) (keys : List Key) → ((l : Label) → IsTrue (start l) → IsLabel l)
      → IsOf p (found w start keys)
  of_found start keys first =
      of_join p _ (of_labels _) (cond_both _ null_value no_value (IsOf p) (λ _. of_null p)
      (λ _. of_nothing p)) (of_some_labels p _ (λ l h. of_walk start keys first l
      (and_parts (scope_walk w start keys l) (may_have w (get w (one_label l) keys)) h).0))

  -- ---- writes

  of_put : (l : Label) (k : Key) (v : AbstractValue) → IsOf p v
      → IsPropertyOf p (put_property w l k v)
  of_put l k v of = of

  of_grown : (v : AbstractValue) (i : Option ℕ) (n : Option ℤ) → IsOf p v
      → IsOf p (grown_length v i n)
  of_grown v (Some i) (Some n) of =
      cond_both _ (of_primitive (primitive.Number (Whole n))) (whole_constant (i + 1)) (IsOf p)
      (λ _. of_one_primitive p (primitive.Number (Whole n))) (λ _. of_constant p (i + 1))
  of_grown v (Some i) None of = of_join p v (whole_constant (i + 1)) of (of_constant p (i + 1))
  of_grown v None n of = of_join p v whole_value of (of_number p number_part.Whole)

  element_writes_are : (l : Label) (k : Key) (v : AbstractValue) → IsOf p v
      → IfSome (element_writes w l k v) (AreWritesOf p)
  element_writes_are l k v of =
      let q = own_at w l length_key in
      let n = grown_length q.value (index_of_key p k) (one_number p q.value) in
      cond_both (has_some_part w q.value)
      (Some (sets_at k (put_property w l k v) ∷ sets_at length_key (record q { value = n }) ∷ []))
      None (λ (o : Option (List Write)). IfSome o (AreWritesOf p))
      (λ _. (
        of,
        (
          of_grown q.value (index_of_key p k) (one_number p q.value)
              (of_own_at l length_key),
          tt,
        ),
      )) (λ _. tt)

  absent_writes : (keys : List Key)
      → AreWritesOf p (map (λ (k : Key). joins_at k absent_property) keys)
  absent_writes [] = tt
  absent_writes (k ∷ ks) = (of_absent p, absent_writes ks)

  length_writes_are : (l : Label) (v : AbstractValue)
      → IfSome (length_writes w l v) (AreWritesOf p)
  length_writes_are l v =
      let n = (to_num v).value.number in
      let cut = filter (λ (k : Key). may_be_cut n (index_of_key p k)) (index_keys p) in
      let put = sets_at length_key (put_property w l length_key (of_number_part n)) in
      cond_both (may_be_length n) (Some (put ∷ map (λ (k : Key). joins_at k absent_property) cut))
      None (λ (o : Option (List Write)). IfSome o (AreWritesOf p))
      (λ _. (of_number p n, absent_writes cut)) (λ _. tt)

  put_writes_are : (l : Label) (k : Key) (v : AbstractValue) → IsOf p v
      → IfSome (put_writes w l k v) (AreWritesOf p)
  put_writes_are l k v of =
      cond_both (is_array_label p l && same_key k length_key) (length_writes w l v) _
      (λ o. IfSome o (AreWritesOf p)) (λ _. length_writes_are l v)
      (λ _. cond_both (is_array_label p l && is_index_key p k) (element_writes w l k v) _
      (λ o. IfSome o (AreWritesOf p)) (λ _. element_writes_are l k v of) (λ _. (of, tt)))

  accepted_are : (l : Label) (k : Key) (v : AbstractValue) → IsOf p v
      → IfSome (accepted_writes w l k v) (AreWritesOf p)
  accepted_are l k v of =
      cond_both (may_accept (asked_at w l k)) (put_writes w l k v) None
      (λ o. IfSome o (AreWritesOf p)) (λ _. put_writes_are l k v of) (λ _. tt)

  some_writes : (o : Option (List Write)) → IfSome o (AreWritesOf p)
      → AreWritesOf p (unwrap_or o [])
  some_writes None are = tt
  some_writes (Some writes) are = are

  put_list_is : (v : AbstractValue) (l : Label) (keys : List Key) → IsOf p v
      → AreWritesOf p (put_list w keys v l)
  put_list_is v l [] of = tt
  put_list_is v l (k ∷ ks) of =
      all_append (λ (x : Write). IsPropertyOf p x.property)
      (unwrap_or (accepted_writes w l k v) []) _
      (some_writes (accepted_writes w l k v) (accepted_are l k v of)) (put_list_is v l ks of)

  -- ---- the states behind it

  module _ (target : Labels) where
    abbrev AreKept : List AbstractState → Type 0
    AreKept states = AllByRecursion (IsKept p count) states

    if_there_kept : (b : Bool) (a : AbstractState) → IsKept p count a → AreKept (if_there b a)
    if_there_kept b a h = cond_both b (a ∷ []) [] AreKept (λ _. (h, tt)) (λ _. tt)

    strong_put_kept : (v : AbstractValue) (l : Label) (k : Key) → IsOf p v
        → AreKept (strong_put w l k v)
    strong_put_kept v l k of =
        all_append (IsKept p count) (if_there (may_refuse (asked_at w l k)) w.state) _
        (if_there_kept (may_refuse (asked_at w l k)) w.state f)
        (by_option (AreWritesOf p) AreKept (λ writes. strong_update w.state l writes ∷ []) []
        (accepted_writes w l k v) (accepted_are l k v of)
        (λ writes are. (strong_kept p count w.state l writes are f, tt)) tt)

    pub put_kept : (keys : List Key) (v : AbstractValue) → IsOf p v
        → AreKept (put_states w target keys v)
    put_kept keys v of =
        by_option (λ (at : Label × Key). Unit {0}) AreKept
        (λ (at : Label × Key). strong_put w at.0 at.1 v) (weak_put w target keys v)
        (strong_at w target keys) (any_option (strong_at w target keys))
        (λ at is. strong_put_kept v at.0 at.1 of)
        (if_there_kept _ (weak_update p w.state target (put_list w keys v))
        (weak_kept p count w.state target (put_list w keys v) (λ l. put_list_is v l keys of) f))

    -- .. of deletions, each with what it gives
    abbrev IsDeletion : Deletion → Type 0
    IsDeletion d = IsOf p d.0 × IsKept p count d.1

    abbrev AreDeletions : List Deletion → Type 0
    AreDeletions results = AllByRecursion IsDeletion results

    if_given_kept : (b : Bool) (t e : Bool) (a : AbstractState) → IsKept p count a
        → AreDeletions (if_given b (of_bools t e) a)
    if_given_kept b t e a h =
        cond_both b _ [] AreDeletions (λ _. ((of_truths p t e, h), tt)) (λ _. tt)

    strong_delete_kept : (l : Label) (k : Key) → AreDeletions (strong_delete w l k)
    strong_delete_kept l k =
        let cut = strong_update w.state l (sets_at k absent_property ∷ []) in
        let gone = if_given (may_delete w l k) (of_bools true false) cut in
        let stays = if_given (may_keep w l k) (of_bools false true) w.state in
        let lacks = if_given (is_missing w l k) (of_bools true false) w.state in
        all_append IsDeletion lacks (stays ++ gone)
        (if_given_kept (is_missing w l k) true false w.state f)
        (all_append IsDeletion stays gone
        (if_given_kept (may_keep w l k) false true w.state f)
        (if_given_kept (may_delete w l k) true false cut
        (strong_kept p count w.state l (sets_at k absent_property ∷ []) (of_absent p, tt) f)))

    pub delete_kept : (keys : List Key) → AreDeletions (delete_states w target keys)
    delete_kept keys =
        by_option (λ (at : Label × Key). Unit {0}) AreDeletions
        (λ (at : Label × Key). strong_delete w at.0 at.1) (weak_delete w target keys)
        (strong_at w target keys) (any_option (strong_at w target keys))
        (λ at is. strong_delete_kept at.0 at.1) (
          (
            of_truths p _ _,
            weak_kept p count w.state target (delete_list w keys)
                (λ l. absent_writes (filter (may_delete w l) keys)) f,
          ),
          tt,
        )

    -- definitions
    module _ (k : Key) (q : AbstractProperty) (of : IsPropertyOf p q) where
      set_kept : (writes : Label → List Write) → ((l : Label) → AreWritesOf p (writes l))
          → IsKept p count
          (option_map_or (λ l. strong_update w.state l (sets_at k q ∷ [])) (one_target w target)
          (weak_update p w.state target writes))
      set_kept writes are =
          by_option (λ (l : Label). Unit {0}) (IsKept p count)
          (λ l. strong_update w.state l (sets_at k q ∷ []))
          (weak_update p w.state target writes) (one_target w target)
          (any_option (one_target w target))
          (λ l u. strong_kept p count w.state l (sets_at k q ∷ []) (of, tt) f)
          (weak_kept p count w.state target writes are f)

      pub defined_kept : IsKept p count (defined w target k q)
      defined_kept = set_kept (λ l. sets_at k q ∷ []) (λ l. (of, tt))

      pub declared_kept : IsKept p count (declared w target k q)
      declared_kept =
          set_kept (λ l. if (own_at w l k).value.flags.absent then sets_at k q ∷ [] else [])
          (λ l. cond_both (own_at w l k).value.flags.absent (sets_at k q ∷ []) [] (AreWritesOf p)
          (λ _. (of, tt)) (λ _. tt))

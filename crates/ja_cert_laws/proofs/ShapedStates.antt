-- What is done with states of a program keeps their shape, and labels of the program alone: joins,
-- registers, writes, objects, and two moments in one.
use Rattle.std.specs.Prelude.{◌≡◌, ◌<◌, ◌≤◌, ◌||◌, ◌&&◌, ◌==◌, ◌+◌, ℕ, ℤ, Bool, true, false, if◌then◌else◌, int_lt, nat_lt, pos, length, slice_get, List, [], ◌∷◌, ◌++◌, map, filter, Option, Some, None, IfSome, IsTrue, unwrap_or}
use Rattle.std.specs.List.{AllByRecursion, range_with_len}
use Rattle.std.specs.Option.{option_map, option_map_or}
use Rattle.std.proofs.Common.{refl, subst, arith}
use Rattle.std.proofs.lemmas.Bool.{cond_both, lt-ltb, false≢true}
use lib.Chars.{codes}
use Rattle.ja_base.specs.declared.ids.FnId.{FnId}
use Rattle.ja_base.specs.declared.ids.Label.{Label}
use Rattle.ja_base.specs.declared.ids.NameId.{NameId}
use Rattle.ja_base.specs.declared.ids.Reg.{Reg}
use Rattle.ja_base.specs.declared.ids.Site.{Site}
use Rattle.ja_base.proofs.Lists.{all_append}
use Rattle.ja_prim.specs.Index.{is_index_text}
use Rattle.ja_prim.specs.declared.primitive.Primitive.TheVariants as primitive
use Rattle.ja_graph.specs.declared.attrs.TheConstants.{DONT_ENUM, ALL_ATTRS, DONT_DELETE, KEPT_HIDDEN, NO_ATTRS}
use Rattle.ja_graph.specs.declared.builtins.TheConstants as builtins
use Rattle.ja_graph.specs.declared.node.ErrorKind.{ErrorKind}
use Rattle.ja_graph.specs.declared.node.ErrorKind.TheVariants as error_kind
use Rattle.ja_graph.specs.declared.node.Made.{Made}
use Rattle.ja_graph.specs.declared.node.Made.TheVariants as made
use Rattle.ja_graph.specs.declared.program.Class.{Class}
use Rattle.ja_graph.specs.declared.program.Class.TheVariants as class
use Rattle.ja_graph.specs.declared.program.Program.{Program}
use Rattle.ja_graph.specs.WellFormed.{IsWellFormed}
use Rattle.ja_machine.specs.Frames.{scope, parameters_of}
use Rattle.ja_machine.specs.Objects.{prototype_of_error}
use Rattle.ja_machine.proofs.Lists.{either_way}
use Rattle.ja_abstract.specs.declared.abstraction.AAttrs.{AAttrs}
use Rattle.ja_abstract.specs.declared.abstraction.Key.{Key}
use Rattle.ja_abstract.specs.declared.abstraction.Key.TheVariants as key
use Rattle.ja_abstract.specs.declared.abstraction.Mask.{Mask}
use Rattle.ja_abstract.specs.declared.abstraction.TextPart.{TextPart}
use Rattle.ja_abstract.specs.declared.abstraction.TextPart.TheVariants as text_part
use Rattle.ja_abstract.specs.AbstractValue.{Labels, AbstractValue, AbstractProperty, absent_property, absent_value, bare, entry_property, entry_value, join_attrs, join_properties, no_property, no_value, of_attrs, of_label, of_labels, same_label, unknown_attrs, of_primitive}
use Rattle.ja_abstract.specs.AbstractState.{AbstractState, new, old, aged_property, exactly_none, exactly_some, is_key, is_label, join_masks, join_states, name_key, keys_of, same_key, with_made, with_register}
use Rattle.ja_abstract.specs.Composed.{all_of, composed}
use Rattle.ja_abstract.specs.Keys.{has_key, index_of_key, is_text_key, keys_of_value, name_of, rest_key, text_key}
use Rattle.ja_abstract.specs.Made.{Own, activation_own, argument_property, arguments_binding, arguments_own, at_keys_of, callee_register, constructed_own, count_register, empty_own, error_own, function_own, if_reached, inherits, length_key, length_of_text, one_number, own_of, parameter_ids, parameter_properties, parameter_register, property_of, prototype_own, rest_register, scope_key, scope_own, slot_of, text_own, value_key, with_object, with_objects, with_own, wrapper_own, whole_constant}
use Rattle.ja_abstract.specs.Resolved.{Entries, from_entry, join_all, known_part, origins, outer, prototype, renamed, resolved}
use Rattle.ja_abstract.specs.Writes.{Write, joined_at, replaced_at, strong_update, weak_update}
use Rattle.ja_abstract.proofs.Keys.{same_key-true}
use Rattle.ja_cert_laws.specs.Back.{HasPart, IsOfEntry}
use Rattle.ja_cert_read.specs.Said.{said_attrs}
use Rattle.ja_cert_laws.proofs.ShapedValues.{AreLabels, IsRegisterIn, aged_objects, joined_objects, no_objects, of_aged, of_join, of_renamed, one_object, renamed_objects}

-- ---- keys of texts

abbrev pub IsTextKey : Key → Type 0
IsTextKey k = IsTrue (is_text_key k)

abbrev pub AreTextKeys : List Key → Type 0
AreTextKeys keys = AllByRecursion IsTextKey keys

pub text_key_is : (p : Program) (t : List ℕ) → IsTextKey (text_key p t)
text_key_is p t = by (name_of p t)
  where
    by : (o : Option ℕ) → IsTextKey (option_map_or name_key o (rest_key t))
    by None =
        cond_both (is_index_text t) key.OtherIndex key.OtherName IsTextKey (λ _. refl) (λ _. refl)
    by (Some n) = refl

-- those that pass a test that no slot passes
passed_are : (test : Key → Bool) → ((k : Key) → test k ≡ true → IsTextKey k) → (ks : List Key)
    → AreTextKeys (filter test ks)
passed_are test of_text [] = tt
passed_are test of_text (k ∷ ks) =
    either_way AreTextKeys (test k) (k ∷ filter test ks) (filter test ks)
    (λ e. (of_text k e, passed_are test of_text ks)) (λ _. passed_are test of_text ks)

pub value_keys_are : (p : Program) (v : AbstractValue) → AreTextKeys (keys_of_value p v)
value_keys_are p v = passed_are (has_key p v) by (keys_of p)
  where
    by : (k : Key) → has_key p v k ≡ true → IsTextKey k
    by (key.Slot s) e = e
    by k e = refl

-- ---- properties

-- a property of a program at a key: its objects have labels of the program, and an internal one has
-- no attributes
pub record IsPropertyIn (p : Program) (k : Key) (q : AbstractProperty) : Type 0 where
  pub labels : AreLabels p q.value.label
  pub attrs : said_attrs k q.attrs ≡ q.attrs

pub text_attrs : (k : Key) (a : AAttrs) → IsTextKey k → said_attrs k a ≡ a
text_attrs (key.Slot s) a t = absurd (false≢true t)
text_attrs (key.Name n) a t = refl
text_attrs key.OtherIndex a t = refl
text_attrs key.OtherName a t = refl

unknown_said : (k : Key) → said_attrs k unknown_attrs ≡ unknown_attrs
unknown_said (key.Slot s) = refl
unknown_said (key.Name n) = refl
unknown_said key.OtherIndex = refl
unknown_said key.OtherName = refl

joined_said : (k : Key) (a b : AAttrs) → said_attrs k a ≡ a → said_attrs k b ≡ b
    → said_attrs k (join_attrs a b) ≡ join_attrs a b
joined_said (key.Slot s) a b f g = λ i. join_attrs (f i) (g i)
joined_said (key.Name n) a b f g = refl
joined_said key.OtherIndex a b f g = refl
joined_said key.OtherName a b f g = refl

-- the properties of a state are of the program, and its registers have values of registers
pub record IsShapedIn (p : Program) (a : AbstractState) : Type 0 where
  pub registers : (r : ℕ) → IsRegisterIn p (a.register r)
  pub properties : (l : Label) (k : Key) → IsPropertyIn p k (a.property l k)
  pub masks : (s : ℕ) → HasPart (a.mask s)

-- a value at entry is of the program, and isn't as at entry
pub record IsEntryIn (p : Program) (k : Key) (q : AbstractProperty) : Type 0 where
  pub entry : IsOfEntry q
  pub property : IsPropertyIn p k q

abbrev pub AreEntriesIn : Program → Entries → Type 0
AreEntriesIn p entries = (l : Label) (k : Key) → IfSome (entries l k) (IsEntryIn p k)

module _ (p : Program) where
  pub bare_in : (k : Key) (v : AbstractValue) → AreLabels p v.label → IsPropertyIn p k (bare v)
  bare_in k v f = record { labels = f; attrs = unknown_said k }

  pub text_in : (k : Key) (q : AbstractProperty) → IsTextKey k → AreLabels p q.value.label
      → IsPropertyIn p k q
  text_in k q t f = record { labels = f; attrs = text_attrs k q.attrs t }

  pub properties_joined : (k : Key) (q r : AbstractProperty) → IsPropertyIn p k q
      → IsPropertyIn p k r → IsPropertyIn p k (join_properties q r)
  properties_joined k q r f g = record {
    labels = joined_objects p q.value.label r.value.label f.labels g.labels;
    attrs = joined_said k q.attrs r.attrs f.attrs g.attrs;
  }

  property_aged : (s : Site) (k : Key) (q : AbstractProperty) → IsPropertyIn p k q
      → IsPropertyIn p k (aged_property s q)
  property_aged s k q f =
      record { labels = aged_objects p s q.value f.labels; attrs = f.attrs }

  property_renamed : (mask : ℕ → Mask) (k : Key) (q : AbstractProperty) → IsPropertyIn p k q
      → IsPropertyIn p k (renamed mask q)
  property_renamed mask k q f =
      record { labels = renamed_objects p mask q.value.label f.labels; attrs = f.attrs }

  known_in : (k : Key) (q : AbstractProperty) → IsPropertyIn p k q → IsPropertyIn p k (known_part q)
  known_in k q f = record { labels = f.labels; attrs = f.attrs }

  all_joined : (k : Key) (qs : List AbstractProperty) → AllByRecursion (IsPropertyIn p k) qs
      → IsPropertyIn p k (join_all qs)
  all_joined k [] all = bare_in k no_value (no_objects p)
  all_joined k (q ∷ qs) all =
      properties_joined k q (join_all qs) all.0 (all_joined k qs all.1)

  -- what was there at entry
  pub resolved_in : (a : AbstractState) (entries : Entries) (l : Label) (k : Key)
      → ((m : Label) (j : Key) → IsPropertyIn p j (a.property m j))
      → ((m : Label) (j : Key) → IfSome (entries m j) (IsPropertyIn p j))
      → IsPropertyIn p k (resolved a entries l k)
  resolved_in a entries l k f g =
      let q = a.property l k in
      cond_both q.value.flags.entry
      (join_properties (known_part q) (from_entry a entries l k)) q (IsPropertyIn p k)
      (λ _. properties_joined k (known_part q) (from_entry a entries l k)
      (known_in k q (f l k)) (each (origins a.mask l))) (λ _. f l k)
    where
      one : (o : Option AbstractProperty) → IfSome o (IsPropertyIn p k)
          → IsPropertyIn p k (option_map_or (renamed a.mask) o no_property)
      one None h = bare_in k no_value (no_objects p)
      one (Some q) h = property_renamed a.mask k q h

      each : (ms : List Label) → IsPropertyIn p k (join_all (map
          (λ (m : Label). option_map_or (renamed a.mask) (entries m k) no_property) ms))
      each [] = bare_in k no_value (no_objects p)
      each (m ∷ ms) =
          properties_joined k (option_map_or (renamed a.mask) (entries m k) no_property)
          (join_all (map (λ (m : Label). option_map_or (renamed a.mask) (entries m k) no_property)
          ms)) (one (entries m k) (g m k)) (each ms)

  -- ---- joins, registers

  pub joined_shaped : (a b : AbstractState) → IsShapedIn p a → IsShapedIn p b
      → IsShapedIn p (join_states a b)
  joined_shaped a b f g = record {
    registers = λ r. of_join p (a.register r) (b.register r) (f.registers r) (g.registers r);
    properties = λ l k. properties_joined k (a.property l k) (b.property l k) (f.properties l k)
        (g.properties l k);
    masks = λ s. some (a.mask s) (b.mask s) (f.masks s);
  }
    where
      some : (m n : Mask) → HasPart m → HasPart (join_masks m n)
      some m n h = by m.none m.some n.none n.some h
        where
          by : (b c d e : Bool) → IsTrue (b || c) → IsTrue ((b || d) || (c || e))
          by true c d e h = refl
          by false true true e h = refl
          by false true false e h = refl
          by false false d e h = absurd (false≢true h)

  pub register_shaped : (a : AbstractState) (dst : Reg) (v : AbstractValue) → IsShapedIn p a
      → IsRegisterIn p v → IsShapedIn p (with_register a dst v)
  register_shaped a dst v f g = record {
    registers =
        λ r. cond_both (dst.0 == r) v (a.register r) (IsRegisterIn p) (λ _. g)
        (λ _. f.registers r);
    properties = f.properties;
    masks = f.masks;
  }

  -- at a function's entry
  pub entered_shaped : (register : ℕ → AbstractValue) → ((r : ℕ) → IsRegisterIn p (register r))
      → IsShapedIn p (record {
        register = register;
        property = λ l k. entry_property;
        mask = λ s. exactly_none;
      })
  entered_shaped register each = record {
    registers = each;
    properties = λ l k. bare_in k entry_value (no_objects p);
    masks = λ s. refl;
  }

  -- ---- writes

  abbrev pub IsWriteIn : Write → Type 0
  IsWriteIn x = IsPropertyIn p x.key x.property

  abbrev pub AreWritesIn : List Write → Type 0
  AreWritesIn writes = AllByRecursion IsWriteIn writes

  write_at : (x : Write) (k : Key) → IsWriteIn x → IsTrue (same_key x.key k)
      → IsPropertyIn p k x.property
  write_at x k f same = subst (λ j. IsPropertyIn p j x.property) (same_key-true x.key k same) f

  after_joined : (writes : List Write) (q : AbstractProperty) (k : Key) → AreWritesIn writes
      → IsPropertyIn p k q → IsPropertyIn p k (joined_at writes q k)
  after_joined [] q k all f = f
  after_joined (x ∷ xs) q k all f =
      let before = joined_at xs q k in
      let rest = after_joined xs q k all.1 f in
      cond_both (same_key x.key k) (join_properties before x.property) before (IsPropertyIn p k)
      (λ same. properties_joined k before x.property rest (write_at x k all.0 same)) (λ _. rest)

  after_replaced : (writes : List Write) (q : AbstractProperty) (k : Key) → AreWritesIn writes
      → IsPropertyIn p k q → IsPropertyIn p k (replaced_at writes q k)
  after_replaced [] q k all f = f
  after_replaced (x ∷ xs) q k all f =
      let before = replaced_at xs q k in
      let rest = after_replaced xs q k all.1 f in
      cond_both (same_key x.key k)
      (if x.joins then join_properties before x.property else x.property) before
      (IsPropertyIn p k)
      (λ same. cond_both x.joins (join_properties before x.property) x.property (IsPropertyIn p k)
      (λ _. properties_joined k before x.property rest (write_at x k all.0 same))
      (λ _. write_at x k all.0 same)) (λ _. rest)

  pub strong_shaped : (a : AbstractState) (l : Label) (writes : List Write) → AreWritesIn writes
      → IsShapedIn p a → IsShapedIn p (strong_update a l writes)
  strong_shaped a l writes all f = record {
    registers = f.registers;
    masks = f.masks;
    properties =
        λ m k. cond_both (same_label l m) (replaced_at writes (a.property m k) k)
        (a.property m k) (IsPropertyIn p k)
        (λ _. after_replaced writes (a.property m k) k all (f.properties m k))
        (λ _. f.properties m k);
  }

  pub weak_shaped : (q : Program) (a : AbstractState) (target : Labels)
      (writes : Label → List Write) → ((l : Label) → AreWritesIn (writes l)) → IsShapedIn p a
      → IsShapedIn p (weak_update q a target writes)
  weak_shaped q a target writes all f = record {
    registers = f.registers;
    masks = f.masks;
    properties =
        λ m k. cond_both (is_label q m && target m) (joined_at (writes m) (a.property m k) k)
        (a.property m k) (IsPropertyIn p k)
        (λ _. after_joined (writes m) (a.property m k) k (all m) (f.properties m k))
        (λ _. f.properties m k);
  }

  -- ---- the properties of objects that are made

  abbrev pub IsOwn : Own → Type 0
  IsOwn own = (k : Key) → IsPropertyIn p k (own k)

  abbrev IsOwnPair : Key × AbstractProperty → Type 0
  IsOwnPair q = IsPropertyIn p q.0 q.1

  abbrev AreOwnPairs : List (Key × AbstractProperty) → Type 0
  AreOwnPairs qs = AllByRecursion IsOwnPair qs

  list_own : (qs : List (Key × AbstractProperty)) → AreOwnPairs qs → IsOwn (own_of qs)
  list_own [] all k = bare_in k absent_value (no_objects p)
  list_own (q ∷ qs) all k =
      cond_both (same_key q.0 k) q.1 (own_of qs k) (IsPropertyIn p k)
      (λ same. subst (λ j. IsPropertyIn p j q.1) (same_key-true q.0 k same) all.0)
      (λ _. list_own qs all.1 k)

  abbrev pub IsSite : Site → Type 0
  IsSite s = s.0 < length p.sites

  pub at_site : (s : Site) → IsSite s → IsTrue (is_label p (new s))
  at_site s there = lt-ltb s.0 (length p.sites) there

  inherits_in : (proto : Site) → IsSite proto → IsOwnPair (inherits proto)
  inherits_in proto there =
      bare_in prototype (of_label (new proto)) (one_object p (new proto) (at_site proto there))

  pub own_error : (proto : Site) (text : List ℕ) → IsSite proto → IsOwn (error_own proto text)
  own_error proto text there =
      list_own (inherits proto
      ∷ property_of (key.Name builtins.MESSAGE) (of_primitive (primitive.Text text)) NO_ATTRS ∷ [])
      (inherits_in proto there, (text_in _ _ refl (no_objects p), tt))

  pub own_wrapper : (proto : Site) (v : AbstractValue) → IsSite proto → AreLabels p v.label
      → IsOwn (wrapper_own proto v)
  own_wrapper proto v there f =
      list_own (inherits proto ∷ slot_of value_key v ∷ [])
      (inherits_in proto there, (bare_in value_key v f, tt))

  pub own_constructed : (v : AbstractValue) → AreLabels p v.label → IsOwn (constructed_own v)
  own_constructed v f = list_own (slot_of prototype v ∷ []) (bare_in prototype v f, tt)

  -- ---- .. of built-in prototypes

  module _ (good : IsWellFormed p) where
    -- the objects of a built-in site are of the program
    pub builtin_there : (s : Site) (c : Class) → slice_get builtins.BUILTIN_CLASSES s.0 ≡ Some c
        → IsSite s
    builtin_there s c is =
        let fits : s.0 < length p.opening = (good.builtins s.0 c is).3 in
        let enough : length p.opening ≤ length p.sites = good.sites in
        omega arith

    pub object_there : IsSite builtins.OBJECT_PROTOTYPE
    object_there = builtin_there builtins.OBJECT_PROTOTYPE class.Object refl

    pub error_there : (kind : ErrorKind) → IsSite (prototype_of_error kind)
    error_there error_kind.Error = builtin_there builtins.ERROR_PROTOTYPE class.Error refl
    error_there error_kind.EvalError = builtin_there builtins.EVAL_ERROR_PROTOTYPE class.Error refl
    error_there error_kind.RangeError =
        builtin_there builtins.RANGE_ERROR_PROTOTYPE class.Error refl
    error_there error_kind.ReferenceError =
        builtin_there builtins.REFERENCE_ERROR_PROTOTYPE class.Error refl
    error_there error_kind.SyntaxError =
        builtin_there builtins.SYNTAX_ERROR_PROTOTYPE class.Error refl
    error_there error_kind.TypeError = builtin_there builtins.TYPE_ERROR_PROTOTYPE class.Error refl
    error_there error_kind.URIError = builtin_there builtins.URI_ERROR_PROTOTYPE class.Error refl

    pub own_empty : (kind : Made) → IsOwn (empty_own kind)
    own_empty made.Object =
        list_own (inherits builtins.OBJECT_PROTOTYPE ∷ [])
        (inherits_in builtins.OBJECT_PROTOTYPE object_there, tt)
    own_empty made.Array =
        list_own (inherits builtins.ARRAY_PROTOTYPE
        ∷ property_of length_key (whole_constant 0) KEPT_HIDDEN ∷ []) (
          inherits_in builtins.ARRAY_PROTOTYPE
              (builtin_there builtins.ARRAY_PROTOTYPE class.Array refl),
          (text_in _ _ refl (no_objects p), tt),
        )
    own_empty (made.Error kind) =
        list_own (inherits (prototype_of_error kind) ∷ [])
        (inherits_in (prototype_of_error kind) (error_there kind), tt)

    pub own_text : (part : TextPart) → IsOwn (text_own part)
    own_text part =
        list_own (inherits builtins.STRING_PROTOTYPE
        ∷ slot_of value_key (record no_value { text = part })
        ∷ property_of length_key (length_of_text part) ALL_ATTRS ∷ []) (
          inherits_in builtins.STRING_PROTOTYPE
              (builtin_there builtins.STRING_PROTOTYPE class.String refl),
          (
            bare_in value_key (record no_value { text = part }) (no_objects p),
            (text_in _ _ refl (of_length part), tt),
          ),
        )
      where
        of_length : (part : TextPart) → AreLabels p (length_of_text part).label
        of_length (text_part.One t) = no_objects p
        of_length text_part.Nothing = no_objects p
        of_length text_part.IndexText = no_objects p
        of_length text_part.OtherText = no_objects p
        of_length text_part.Text = no_objects p

    pub own_scope : (chain : Labels) → AreLabels p chain → IsOwn (scope_own chain)
    own_scope chain f =
        list_own (inherits builtins.OBJECT_PROTOTYPE ∷ slot_of outer (of_labels chain) ∷ []) (
          inherits_in builtins.OBJECT_PROTOTYPE object_there,
          (bare_in outer (of_labels chain) f, tt),
        )

    pub own_function : (f : FnId) (chain : Labels) (proto : Label) → AreLabels p chain
        → IsTrue (is_label p proto) → IsOwn (function_own p f chain proto)
    own_function f chain proto g there =
        list_own (inherits builtins.FUNCTION_PROTOTYPE
        ∷ slot_of scope_key (of_labels chain)
        ∷ property_of length_key (whole_constant (parameters_of p f)) ALL_ATTRS
        ∷ property_of (text_key p (codes "prototype")) (of_label proto) DONT_DELETE ∷ []) (
          inherits_in builtins.FUNCTION_PROTOTYPE
              (builtin_there builtins.FUNCTION_PROTOTYPE class.Function refl),
          (
            bare_in scope_key (of_labels chain) g,
            (
              text_in _ _ refl (no_objects p),
              (
                text_in _ _ (text_key_is p (codes "prototype")) (one_object p proto there),
                tt,
              ),
            ),
          ),
        )

    pub own_prototype : (function : Label) → IsTrue (is_label p function)
        → IsOwn (prototype_own p function)
    own_prototype function there =
        list_own (inherits builtins.OBJECT_PROTOTYPE
        ∷ property_of (text_key p (codes "constructor")) (of_label function) DONT_ENUM ∷ []) (
          inherits_in builtins.OBJECT_PROTOTYPE object_there,
          (
            text_in _ _ (text_key_is p (codes "constructor")) (one_object p function there),
            tt,
          ),
        )

    -- ---- .. of activations and their arguments objects

    module _ (f : FnId) (a : AbstractState) (g : (r : ℕ) → IsRegisterIn p (a.register r)) where
      parameters_in : (j : ℕ) (ns : List NameId) → AreOwnPairs (parameter_properties a j ns)
      parameters_in j [] = tt
      parameters_in j (n ∷ ns) =
          all_append IsOwnPair (parameter_properties a (j + 1) ns) _ (parameters_in (j + 1) ns)
          (text_in _ _ refl (g (parameter_register j)).labels, tt)

      binding_in : (arguments : Option Site)
          → ((site : Site) → arguments ≡ Some site → IsSite site)
          → AreOwnPairs (arguments_binding arguments)
      binding_in None there = tt
      binding_in (Some site) there =
          (text_in _ _ refl (one_object p (new site) (at_site site (there site refl))), tt)

      pub own_activation : (arguments : Option Site)
          → ((site : Site) → arguments ≡ Some site → IsSite site)
          → IsOwn (activation_own p f arguments a)
      own_activation arguments there =
          let chain = of_labels (a.register scope.0).label in
          let parameters = parameter_properties a 0 (parameter_ids p f) in
          list_own (slot_of outer chain ∷ (arguments_binding arguments ++ parameters)) (
            bare_in outer chain (g scope.0).labels,
            all_append IsOwnPair (arguments_binding arguments) parameters
                (binding_in arguments there) (parameters_in 0 (parameter_ids p f)),
          )

      reached_in : (o : Option ℤ) (j : ℕ) (k : Key) (q : AbstractProperty) → IsPropertyIn p k q
          → IsPropertyIn p k (if_reached o j q)
      reached_in (Some c) j k q h =
          cond_both (int_lt (pos j) c) q absent_property (IsPropertyIn p k) (λ _. h)
          (λ _. bare_in k absent_value (no_objects p))
      reached_in None j k q h =
          properties_joined k q absent_property h (bare_in k absent_value (no_objects p))

      argument_in : (k : Key) → IsTextKey k → (j : ℕ) → IsPropertyIn p k (argument_property p f a j)
      argument_in k t j =
          let parameters = parameters_of p f in
          let v =
          if nat_lt j parameters then a.register (parameter_register j) else a.register
          (rest_register parameters) in
          reached_in (one_number p (a.register count_register)) j k
          (record { value = v; attrs = of_attrs DONT_ENUM }) (text_in k _ t
          (cond_both (nat_lt j parameters) (a.register (parameter_register j))
          (a.register (rest_register parameters)) (λ v. AreLabels p v.label)
          (λ _. (g (parameter_register j)).labels)
          (λ _. (g (rest_register parameters)).labels)))

      abbrev others : List (Key × AbstractProperty)
      others = inherits builtins.OBJECT_PROTOTYPE
          ∷ property_of (key.Name builtins.CALLEE) (a.register callee_register) DONT_ENUM
          ∷ property_of length_key (a.register count_register) DONT_ENUM ∷ []

      others_in : IsOwn (own_of others)
      others_in =
          list_own others (
            inherits_in builtins.OBJECT_PROTOTYPE object_there,
            (
              text_in _ _ refl (g callee_register).labels,
              (text_in _ _ refl (g count_register).labels, tt),
            ),
          )

      pub own_arguments : IsOwn (arguments_own p f a)
      own_arguments key.OtherIndex =
          let indices = range_with_len 0 (parameters_of p f + 1) in
          properties_joined key.OtherIndex absent_property _
          (bare_in key.OtherIndex absent_value (no_objects p))
          (all_joined key.OtherIndex (map (argument_property p f a) indices) (each indices))
        where
          each : (js : List ℕ) → AllByRecursion (IsPropertyIn p key.OtherIndex)
              (map (argument_property p f a) js)
          each [] = tt
          each (j ∷ js) = (argument_in key.OtherIndex refl j, each js)
      own_arguments key.OtherName = others_in key.OtherName
      own_arguments (key.Slot s) = others_in (key.Slot s)
      own_arguments (key.Name n) = by (index_of_key p (key.Name n))
        where
          by : (o : Option ℕ) → IsPropertyIn p (key.Name n)
              (unwrap_or (option_map (argument_property p f a) o) (own_of others (key.Name n)))
          by None = others_in (key.Name n)
          by (Some j) = argument_in (key.Name n) refl j

  -- ---- objects more

  made_shaped : (a : AbstractState) (s : Site) → IsShapedIn p a → IsShapedIn p (with_made a s)
  made_shaped a s f = record {
    registers = λ r. of_aged p s (a.register r) (f.registers r);
    properties = λ l k.
        let joined =
        join_properties (aged_property s (a.property (old s) k))
        (aged_property s (a.property (new s) k)) in
        cond_both (same_label (new s) l) absent_property
        (if same_label (old s) l then joined else aged_property s (a.property l k))
        (IsPropertyIn p k) (λ _. bare_in k absent_value (no_objects p))
        (λ _. cond_both (same_label (old s) l) joined (aged_property s (a.property l k))
        (IsPropertyIn p k)
        (λ _. properties_joined k (aged_property s (a.property (old s) k))
        (aged_property s (a.property (new s) k))
        (property_aged s k (a.property (old s) k) (f.properties (old s) k))
        (property_aged s k (a.property (new s) k) (f.properties (new s) k)))
        (λ _. property_aged s k (a.property l k) (f.properties l k)));
    masks = λ t. cond_both (s.0 == t) exactly_some (a.mask t) HasPart (λ _. refl) (λ _. f.masks t);
  }

  with_own_shaped : (q : Program) (a : AbstractState) (l : Label) (own : Own) → IsOwn own
      → IsShapedIn p a → IsShapedIn p (with_own q a l own)
  with_own_shaped q a l own g f = record {
    registers = f.registers;
    masks = f.masks;
    properties =
        λ m k. cond_both (same_label l m) (at_keys_of q own k) (a.property m k) (IsPropertyIn p k)
        (λ _. cond_both (is_key q k) (own k) entry_property (IsPropertyIn p k) (λ _. g k)
        (λ _. bare_in k entry_value (no_objects p))) (λ _. f.properties m k);
  }

  pub object_shaped : (q : Program) (a : AbstractState) (s : Site) (own : AbstractState → Own)
      → ((b : AbstractState) → IsShapedIn p b → IsOwn (own b)) → IsShapedIn p a
      → IsShapedIn p (with_object q a s own)
  object_shaped q a s own g f =
      let b = with_made a s in
      let h = made_shaped a s f in
      with_own_shaped q b (new s) (own b) (g b h) h

  pub objects_shaped : (q : Program) (a : AbstractState) (s : Site) (own : AbstractState → Own)
      (t : Site) (other : AbstractState → Own)
      → ((b : AbstractState) → IsShapedIn p b → IsOwn (own b))
      → ((b : AbstractState) → IsShapedIn p b → IsOwn (other b)) → IsShapedIn p a
      → IsShapedIn p (with_objects q a s own t other)
  objects_shaped q a s own t other g h f =
      let b = with_made (with_made a s) t in
      let both = made_shaped (with_made a s) t (made_shaped a s f) in
      with_own_shaped q (with_own q b (new s) (own b)) (new t) (other b) (h b both)
      (with_own_shaped q b (new s) (own b) (g b both) both)

  -- ---- two moments in one

  pub composed_shaped : (q : Program) (a b : AbstractState) → IsShapedIn p a → IsShapedIn p b
      → IsShapedIn p (composed q a b)
  composed_shaped q a b f g = record {
    registers = λ r. of_renamed p b.mask (a.register r) (f.registers r);
    properties = λ l k. cond_both (is_key q k) (resolved b (all_of a) l k) entry_property
        (IsPropertyIn p k) (λ _. resolved_in b (all_of a) l k g.properties f.properties)
        (λ _. bare_in k entry_value (no_objects p));
    masks = λ s. by (a.mask s).none (a.mask s).some (b.mask s).none (b.mask s).some (f.masks s)
        (g.masks s);
  }
    where
      by : (m n x y : Bool) → IsTrue (m || n) → IsTrue (x || y)
          → IsTrue ((x && m) || (y || (n && x)))
      by true n true y h k = refl
      by true n false true h k = refl
      by true n false false h k = absurd (false≢true k)
      by false true true true h k = refl
      by false true true false h k = refl
      by false true false true h k = refl
      by false true false false h k = absurd (false≢true k)
      by false false x y h k = absurd (false≢true h)

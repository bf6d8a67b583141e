-- What literals, functions as expressions, calls and `new` list holds.
use Rattle.std.proofs.Common.{◌≡◌, ℕ, ◌+◌, List, [], ◌∷◌, ◌++◌, length, Option, Some, None, true, refl}
use Rattle.std.specs.Fmt.{decimal}
use lib.Chars.{codes}
use Rattle.std.specs.List.{AllByRecursion}
use Rattle.ja_base.specs.declared.ids.Place.{Place}
use Rattle.ja_base.specs.declared.ids.Reg.{Reg}
use Rattle.ja_base.proofs.Lists.{all_append}
use Rattle.ja_syntax.specs.declared.tree.Name.{Name}
use Rattle.ja_graph.specs.declared.node.Args.TheVariants.{Registers, Elements, Tail}
use Rattle.ja_graph.specs.declared.node.Made.{Made}
use Rattle.ja_graph.specs.declared.node.Node.TheVariants.{NewObject, MakeFunction, PushScope, Call, New, ReadProp, DeleteProp, HasProp, Intrinsic}
use Rattle.ja_lower_expressions.specs.declared.outcome.Outcome.{Outcome}
use Rattle.ja_lower_expressions.specs.declared.outcome.Outcome.TheVariants as outcome
use Rattle.ja_lower_expressions.specs.declared.special.Special.{Special}
use Rattle.ja_lower_expressions.specs.declared.special.Special.TheVariants as special
use Rattle.ja_lower_draft.specs.Lines.{Listing, site}
use Rattle.ja_lower_expressions.specs.References.{Form, value_of}
use Rattle.ja_lower_expressions.specs.Literals.{Member, scope, write_known, new_object, write_element, write_elements, write_length, list_array, property_text, write_member, write_members, list_object, function_id, make_function, list_named_function, list_function}
use Rattle.ja_lower_expressions.specs.Specials.{list_special}
use Rattle.ja_lower_expressions.specs.Calls.{Arguments, list_arguments, with_call, call_outcome, list_call, new_of, list_new}
use Rattle.ja_lower_names.specs.TextOrder.{if_any, in_name}
use Rattle.ja_lower_ranges.specs.InRange.{Limits, IsTemporary}
use Rattle.ja_lower_ranges.proofs.Holding.{Text, bounds, ReachesFunction, ReachesName, ReachesAll, Context, scene_at, Holds, HoldsValued, HoldsForm, holds_node, holds_result, holds_const, holds_copy, holds_text, holds_scope}
use Rattle.ja_lower_ranges.proofs.HoldingOperands.{holds_get_value, holds_object, holds_value_of}
use Rattle.ja_lower_ranges.proofs.Sound.{IsSoundOutcome}

-- registers are temporaries
abbrev AreTemporary : Limits → List Reg → Type 0
AreTemporary limits values = AllByRecursion (λ (r : Reg). IsTemporary limits r.0) values

-- what is listed of arguments, each in a temporary
record HoldsArguments {t : Text} (c : Context t) (a : Arguments) : Type 0 where
  listing : Holds c a.listing
  values : AreTemporary (bounds t) a.values

-- an element of an array that is no hole
abbrev pub HoldsElement : Text → Option Form → Type 0
HoldsElement t None = Unit {0}
HoldsElement t (Some element) = HoldsForm t element

abbrev pub HoldsMember : Text → Member → Type 0
HoldsMember t m = HoldsForm t m.value

module _ {t : Text} {c : Context t} where
  -- ---- properties that are known

  holds_known : {l : Listing} (place : Place) (object : Reg) (key : List ℕ) (src : Reg)
      → Holds c l → Holds c (write_known (scene_at c) place object key src l)
  unfolding write_known
  holds_known place object key src h = holds_node place _ refl (holds_const place _ h).listing

  holds_new_object : {l : Listing} (place : Place) (kind : Made) → Holds c l
      → HoldsValued c (new_object (scene_at c) place kind l)
  holds_new_object place kind h =
      holds_result place (λ dst. NewObject dst (site 0) kind) (λ dst set. (set, refl)) h

  holds_length : {l : Listing} (place : Place) (array : Reg) (count : ℕ) → Holds c l
      → Holds c (write_length (scene_at c) place array count l)
  unfolding write_length
  holds_length place array count h =
      holds_known place array (codes "length") _ (holds_const place _ h).listing

  holds_write_element : {l : Listing} (place : Place) (array : Reg) (i : ℕ)
      (element : Option Form) → HoldsElement t element → Holds c l
      → Holds c (write_element (scene_at c) place array i element l)
  unfolding write_element
  holds_write_element place array i None fine h = h
  holds_write_element place array i (Some element) fine h =
      holds_known place array (decimal i) _ (holds_value_of element fine h).listing

  holds_elements : (place : Place) (array : Reg) (i : ℕ) (elements : List (Option Form))
      {l : Listing} → AllByRecursion (HoldsElement t) elements → Holds c l
      → Holds c (write_elements (scene_at c) place array i elements l)
  unfolding write_elements
  holds_elements place array i [] fine h = h
  holds_elements place array i (element ∷ elements) fine h =
      holds_elements place array (i + 1) elements fine.1
      (holds_write_element place array i element fine.0 h)

  pub holds_array : {l : Listing} (elements : List (Option Form)) (place : Place)
      → AllByRecursion (HoldsElement t) elements → Holds c l
      → HoldsValued c (list_array elements place (scene_at c) l)
  unfolding list_array
  holds_array elements place fine h =
      let array = holds_new_object place _ h in
      record {
        listing =
            holds_length place _ (length elements)
            (holds_elements place _ 0 elements fine array.listing);
        value = array.value;
      }

  holds_write_member : {l : Listing} (place : Place) (object : Reg) (m : Member)
      → HoldsMember t m → Holds c l → Holds c (write_member (scene_at c) place object m l)
  unfolding write_member
  holds_write_member place object m fine h =
      holds_known place object (property_text m.name) _ (holds_value_of m.value fine h).listing

  holds_members : (place : Place) (object : Reg) (members : List Member) {l : Listing}
      → AllByRecursion (HoldsMember t) members → Holds c l
      → Holds c (write_members (scene_at c) place object members l)
  unfolding write_members
  holds_members place object [] fine h = h
  holds_members place object (m ∷ members) fine h =
      holds_members place object members fine.1 (holds_write_member place object m fine.0 h)

  pub holds_object_literal : {l : Listing} (members : List Member) (place : Place)
      → AllByRecursion (HoldsMember t) members → Holds c l
      → HoldsValued c (list_object members place (scene_at c) l)
  unfolding list_object
  holds_object_literal members place fine h =
      let object = holds_new_object place _ h in
      record {
        listing = holds_members place _ members fine object.listing;
        value = object.value;
      }

  -- ---- calls

  holds_with_call : {l : Listing} (place : Place) (callee receiver : Reg) (values : List Reg)
      → Holds c l → HoldsValued c (with_call (scene_at c) place callee receiver values l)
  holds_with_call place callee receiver values h =
      holds_result place (λ dst. Call dst callee receiver (Registers values) (site 0))
      (λ dst set. (set, refl)) h

  -- special forms, where names may be special forms
  holds_special : {l : Listing} (form : Special) (place : Place) (values : List Reg)
      → t.scene.specials ≡ true → AreTemporary (bounds t) values → Holds c l
      → HoldsValued c (list_special form (scene_at c) place values l)
  unfolding list_special
  holds_special special.Get place (object ∷ key ∷ []) known each h =
      holds_result place (λ dst. ReadProp dst object key) (λ dst set. set) h
  holds_special special.Put place (object ∷ key ∷ src ∷ []) known each h =
      record { listing = holds_node place _ refl h; value = each.1.1.0 }
  holds_special special.Delete place (object ∷ key ∷ []) known each h =
      holds_result place (λ dst. DeleteProp dst object key) (λ dst set. set) h
  holds_special special.Has place (object ∷ key ∷ []) known each h =
      holds_result place (λ dst. HasProp dst object key) (λ dst set. set) h
  holds_special special.Object place (src ∷ []) known each h = holds_object place src h
  holds_special special.Text place (src ∷ []) known each h = holds_text place src h
  holds_special (special.Make kind) place [] known each h = holds_new_object place _ h
  holds_special special.Call place (callee ∷ receiver ∷ values) known each h =
      holds_with_call place callee receiver values h
  holds_special special.Spread place (callee ∷ receiver ∷ array ∷ []) known each h =
      holds_result place (λ dst. Call dst callee receiver (Elements array) (site 0))
      (λ dst set. (set, refl)) h
  holds_special special.Tail place (callee ∷ receiver ∷ []) known each h =
      holds_result place (λ dst. Call dst callee receiver Tail (site 0))
      (λ dst set. (set, refl, known)) h
  holds_special (special.Stop kind) place [] known each h =
      record { listing = holds_node place _ tt h; value = h.numbers.next }
  holds_special (special.Intrinsic which) place values known each h =
      holds_result place (λ dst. Intrinsic dst which values) (λ dst set. (set, known)) h
  holds_special form place values known each h = holds_const place _ h

  holds_call_outcome : {l : Listing} (callee : Outcome) (place : Place) (values : List Reg)
      → IsSoundOutcome (bounds t) callee → AreTemporary (bounds t) values → Holds c l
      → HoldsValued c (call_outcome callee (scene_at c) place values l)
  holds_call_outcome (outcome.Value v) place values known each h =
      holds_with_call place v _ values (holds_const place _ h).listing
  holds_call_outcome (outcome.Name base name at) place values known each h =
      holds_with_call place _ base values
      (holds_get_value (outcome.Name base name at) known h).listing
  holds_call_outcome (outcome.Member object key at) place values known each h =
      holds_with_call place _ object values
      (holds_get_value (outcome.Member object key at) known h).listing
  holds_call_outcome (outcome.Special form at) place values known each h =
      holds_special form place values known each h

  holds_arguments : (arguments : List Form) (values : List Reg) {l : Listing}
      → AllByRecursion (HoldsForm t) arguments → AreTemporary (bounds t) values → Holds c l
      → HoldsArguments c (list_arguments arguments (scene_at c) l values)
  unfolding list_arguments
  holds_arguments [] values fine each h = record { listing = h; values = each }
  holds_arguments (argument ∷ arguments) values {l = l} fine each h =
      let v = holds_value_of argument fine.0 h in
      let last = (value_of argument (scene_at c) l).value ∷ [] in
      holds_arguments arguments (values ++ last) fine.1
      (all_append (λ (r : Reg). IsTemporary (bounds t) r.0) values last each (v.value, tt))
      v.listing

  pub holds_call : {l : Listing} (arguments : List Form) (place : Place) (callee : Outcome)
      → AllByRecursion (HoldsForm t) arguments → IsSoundOutcome (bounds t) callee → Holds c l
      → HoldsValued c (list_call arguments place (scene_at c) callee l)
  unfolding list_call
  holds_call {l} arguments place callee fine known h =
      let a = holds_arguments arguments [] fine tt h in
      holds_call_outcome callee place (list_arguments arguments (scene_at c) l []).values known
      a.values a.listing

  pub holds_new : {l : Listing} (callee : Form) (arguments : List Form) (place : Place)
      → HoldsForm t callee → AllByRecursion (HoldsForm t) arguments → Holds c l
      → HoldsValued c (list_new callee arguments place (scene_at c) l)
  unfolding list_new new_of
  holds_new {l} callee arguments place fine all h =
      let f = value_of callee (scene_at c) l in
      let a = list_arguments arguments (scene_at c) f.listing [] in
      holds_result place (λ dst. New dst f.value a.values (site 0) (site 1))
      (λ dst set. (set, refl))
      (holds_arguments arguments [] all tt (holds_value_of callee fine h).listing).listing

  -- ---- functions

  pub holds_make_function : {l : Listing} (place : Place) → ReachesFunction t place → Holds c l
      → HoldsValued c (make_function (scene_at c) place l)
  holds_make_function place here h =
      holds_result place (λ dst. MakeFunction dst (function_id t.scene place) (site 0) (site 1))
      (λ dst set. (set, here.0, here.1, refl)) h

  holds_named_function : {l : Listing} (name : Name) (place : Place) → ReachesFunction t place
      → ReachesName t name.text → Holds c l
      → HoldsValued c (list_named_function name place (scene_at c) l)
  unfolding list_named_function
  holds_named_function name place here named h =
      let function = holds_make_function place here
      (holds_node place (PushScope (site 0)) refl (holds_copy place scope h).listing) in
      record {
        listing = holds_scope place _ (holds_node place _ named function.listing);
        value = function.value;
      }

  pub holds_function : {l : Listing} (name : Option Name) (place : Place)
      → ReachesFunction t place → ReachesAll t (if_any in_name name) → Holds c l
      → HoldsValued c (list_function name place (scene_at c) l)
  holds_function None place here named h = holds_make_function place here h
  holds_function (Some name) place here named h =
      holds_named_function name place here (named.0 refl) h

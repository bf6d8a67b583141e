-- What references and operators list holds.
use Rattle.std.proofs.Common.{◌≡◌, ℕ, Bool, true, false, not, ◌&&◌, if◌then◌else◌, List, [], ◌∷◌, Option, Some, None, is_some, inl, inr, refl}
use Rattle.ja_base.specs.declared.ids.Place.{Place}
use Rattle.ja_base.specs.declared.ids.Reg.{Reg}
use Rattle.ja_prim.specs.declared.primitive.Primitive.TheVariants as primitive
use Rattle.ja_syntax.specs.declared.tree.BinaryOperator.{BinaryOperator}
use Rattle.ja_syntax.specs.declared.tree.BinaryOperator.TheVariants as operator
use Rattle.ja_syntax.specs.declared.tree.UnaryOperator.{UnaryOperator}
use Rattle.ja_syntax.specs.declared.tree.UnaryOperator.TheVariants as unary
use Rattle.ja_syntax.specs.declared.tree.UpdateOperator.{UpdateOperator}
use Rattle.ja_syntax.specs.declared.tree.UpdateOperator.TheVariants.{IncrementBefore, DecrementBefore, IncrementBehind, DecrementBehind}
use Rattle.ja_graph.specs.declared.node.BinaryOp.{BinaryOp}
use Rattle.ja_graph.specs.declared.node.Hint.TheVariants as hint
use Rattle.ja_graph.specs.declared.node.Node.TheVariants.{Branch, Convert, Binary, FindName, ReadRef, ReadSoft, DeleteRef, ToObject, ReadProp, DeleteProp, NeedObject, HasProp, InstanceOf}
use Rattle.ja_lower_expressions.specs.declared.outcome.Outcome.{Outcome}
use Rattle.ja_lower_expressions.specs.declared.outcome.Outcome.TheVariants.{Value, Name, Member}
use Rattle.ja_lower_expressions.specs.declared.outcome.Outcome.TheVariants as outcome
use Rattle.ja_lower_expressions.specs.declared.special.Special.{Special}
use Rattle.ja_lower_draft.specs.Lines.{Listing, Valued, site, spot_of, name_id, with_node, with_text}
use Rattle.ja_lower_expressions.specs.References.{Form, valued, get_value, put_value, value_of, wrappers, with_object, with_variable, special_in, with_special_or_variable, with_name, with_member, with_element}
use Rattle.ja_lower_expressions.specs.Specials.{special_of}
use Rattle.ja_lower_expressions.specs.Operators.{with_delete, get_softly, with_type, apply_unary, on_value, on_outcome, list_unary, update_value, update_outcome, list_update, with_binary, on_defaults, on_defaults_backwards, on_numbers, beside, on_loose, on_in, apply_binary, and_then, or_else, consequence, alternative, list_conditional, apply_operation, assign_to, assign_to_by, assign, assign_by}
use Rattle.ja_lower_names.specs.TextOrder.{one_variable}
use Rattle.ja_lower_ranges.specs.InRange.{Limits, IsTemporary}
use Rattle.ja_lower_ranges.proofs.Holding.{Text, bounds, ReachesName, ReachesAll, Context, scene_at, awaiting, Holds, HoldsValued, HoldsListed, HoldsForm, holds_node, holds_branch, holds_jump, holds_spot, holds_take_1, holds_take_2, holds_take_2_back, holds_result, holds_const, holds_copy, holds_default, holds_unary, holds_truth, holds_number, holds_text, holds_move}
use Rattle.ja_lower_ranges.proofs.Sound.{IsSoundOutcome}
use Rattle.ja_lower_ranges.proofs.SpotLines.{nth}

-- a name is a special form only where names may be special forms
special_if : (b : Bool) (name : List ℕ) (form : Special)
    → (if b then special_of name else None) ≡ Some form → b ≡ true
special_if true name form is = refl
special_if false name form is = absurd (cc)

-- a variable that is no special form is a name of the program
name_unless_special : (b : Bool) (name : List ℕ) → (if b then special_of name else None) ≡ None
    → not (b && is_some (special_of name)) ≡ true
name_unless_special true name is = rw is refl
name_unless_special false name is = refl

update_temporary : (limits : Limits) (operator : UpdateOperator) (old new : Reg)
    → IsTemporary limits old.0 → IsTemporary limits new.0
    → IsTemporary limits (update_value operator old new).0
update_temporary limits IncrementBefore old new first second = second
update_temporary limits DecrementBefore old new first second = second
update_temporary limits IncrementBehind old new first second = first
update_temporary limits DecrementBehind old new first second = first

module _ {t : Text} {c : Context t} where
  -- ---- references

  pub holds_valued : {v : Valued} → HoldsValued c v → HoldsListed c (valued v)
  holds_valued h = record { listing = h.listing; outcome = h.value }

  pub holds_get_value : {l : Listing} (o : Outcome) → IsSoundOutcome (bounds t) o → Holds c l
      → HoldsValued c (get_value (scene_at c) o l)
  holds_get_value (Value v) known h = record { listing = h; value = known }
  holds_get_value (Name base name place) known h =
      holds_result place (λ dst. ReadRef dst base name (site 0)) (λ dst set. (set, known, refl)) h
  holds_get_value (Member object key place) known h =
      holds_result place (λ dst. ReadProp dst object key) (λ dst set. set) h
  holds_get_value (outcome.Special form place) known h = holds_const place _ h

  pub holds_put_value : {l : Listing} (place : Place) (o : Outcome) (src : Reg)
      → IsSoundOutcome (bounds t) o → Holds c l
      → Holds c (put_value (scene_at c) place o src l)
  holds_put_value place (Value v) src known h = h
  holds_put_value place (Name base name at) src known h = holds_node place _ known h
  holds_put_value place (Member object key at) src known h = holds_node place _ refl h
  holds_put_value place (outcome.Special form at) src known h = h

  pub holds_object : {l : Listing} (place : Place) (src : Reg) → Holds c l
      → HoldsValued c (with_object (scene_at c) place src l)
  holds_object place src h =
      holds_result place (λ dst. ToObject dst src wrappers (site 3)) (λ dst set. (set, refl)) h

  holds_variable : {l : Listing} (name : List ℕ) (place : Place) → ReachesName t name → Holds c l
      → HoldsListed c (with_variable name place (scene_at c) l)
  holds_variable name place low h =
      let v = holds_result place (λ dst. FindName dst (name_id t.scene name))
      (λ dst set. (set, low)) h in
      record { listing = v.listing; outcome = low }

  holds_special_or_variable : {l : Listing} (o : Option Special) (name : List ℕ) (place : Place)
      → special_in t.scene name ≡ o → ReachesAll t (one_variable name) → Holds c l
      → HoldsListed c (with_special_or_variable o name place (scene_at c) l)
  holds_special_or_variable (Some form) name place is has h =
      record { listing = h; outcome = special_if t.scene.specials name form is }
  holds_special_or_variable None name place is has h =
      holds_variable name place (has.0 (name_unless_special t.scene.specials name is)) h

  pub holds_member : {l : Listing} (name : List ℕ) (place : Place) (object : Reg) → Holds c l
      → HoldsListed c (with_member name place (scene_at c) object l)
  unfolding with_member
  holds_member name place object h =
      let o = holds_object place object (holds_const place (primitive.Text name) h).listing in
      record { listing = o.listing; outcome = tt }

  pub holds_element : {l : Listing} (place : Place) (object key : Reg) → Holds c l
      → HoldsListed c (with_element place (scene_at c) object key l)
  unfolding with_element
  holds_element place object key h =
      let k = holds_text place key (holds_object place object h).listing in
      record { listing = k.listing; outcome = tt }

  -- ---- unary operators

  holds_delete : {l : Listing} (place : Place) (o : Outcome) → IsSoundOutcome (bounds t) o
      → Holds c l → HoldsValued c (with_delete (scene_at c) place o l)
  holds_delete place (Value v) known h = holds_const place _ h
  holds_delete place (Name base name at) known h =
      holds_result place (λ dst. DeleteRef dst base name) (λ dst set. (set, known)) h
  holds_delete place (Member object key at) known h =
      holds_result place (λ dst. DeleteProp dst object key) (λ dst set. set) h
  holds_delete place (outcome.Special form at) known h = holds_const place _ h

  holds_softly : {l : Listing} (o : Outcome) → IsSoundOutcome (bounds t) o → Holds c l
      → HoldsValued c (get_softly (scene_at c) o l)
  holds_softly (Name base name place) known h =
      holds_result place (λ dst. ReadSoft dst base name) (λ dst set. (set, known)) h
  holds_softly o known h = holds_get_value o known h

  holds_type : {l : Listing} (place : Place) (o : Outcome) → IsSoundOutcome (bounds t) o
      → Holds c l → HoldsValued c (with_type (scene_at c) place o l)
  holds_type place o known h = holds_unary place _ _ (holds_softly o known h).listing

  holds_apply_unary : {l : Listing} (operator : UnaryOperator) (place : Place) (v : Reg)
      → IsTemporary (bounds t) v.0 → Holds c l
      → HoldsValued c (apply_unary operator (scene_at c) place v l)
  holds_apply_unary unary.Void place v known h = holds_const place _ h
  holds_apply_unary unary.Plus place v known h = holds_number place v h
  holds_apply_unary unary.Minus place v known h =
      holds_unary place _ _ (holds_number place v h).listing
  holds_apply_unary unary.Complement place v known h =
      holds_unary place _ _ (holds_number place v h).listing
  holds_apply_unary unary.Not place v known h =
      holds_unary place _ _ (holds_truth place v h).listing
  holds_apply_unary operator place v known h = record { listing = h; value = known }

  holds_on_value : {l : Listing} (operator : UnaryOperator) (place : Place) (o : Outcome)
      → IsSoundOutcome (bounds t) o → Holds c l
      → HoldsValued c (on_value operator (scene_at c) place o l)
  holds_on_value operator place o known h =
      let v = holds_get_value o known h in holds_apply_unary operator place _ v.value v.listing

  holds_on_outcome : {l : Listing} (operator : UnaryOperator) (place : Place) (o : Outcome)
      → IsSoundOutcome (bounds t) o → Holds c l
      → HoldsValued c (on_outcome operator (scene_at c) place o l)
  holds_on_outcome unary.Delete place o known h = holds_delete place o known h
  holds_on_outcome unary.Typeof place o known h = holds_type place o known h
  holds_on_outcome operator place o known h = holds_on_value operator place o known h

  -- ---- `++` and `--`

  holds_binary : {l : Listing} (place : Place) (o : BinaryOp) (a b : Reg) → Holds c l
      → HoldsValued c (with_binary (scene_at c) place o a b l)
  holds_binary place o a b h = holds_result place (λ dst. Binary dst o a b) (λ dst set. set) h

  holds_update_outcome : {l : Listing} (operator : UpdateOperator) (place : Place) (o : Outcome)
      → IsSoundOutcome (bounds t) o → Holds c l
      → HoldsValued c (update_outcome operator (scene_at c) place o l)
  unfolding update_outcome
  holds_update_outcome operator place o known h =
      let old = holds_number place _ (holds_get_value o known h).listing in
      let new = holds_binary place _ _ _ (holds_const place _ old.listing).listing in
      record {
        listing = holds_put_value place o _ known new.listing;
        value = update_temporary (bounds t) operator _ _ old.value new.value;
      }

  -- ---- operators between two values

  holds_on_defaults : {l : Listing} (o : BinaryOp) (place : Place) (a b : Reg) → Holds c l
      → HoldsValued c (on_defaults o (scene_at c) place a b l)
  unfolding on_defaults
  holds_on_defaults o place a b h =
      holds_binary place o _ _
      (holds_default place hint.Number b (holds_default place hint.Number a h).listing).listing

  holds_on_defaults_backwards : {l : Listing} (o : BinaryOp) (place : Place) (a b : Reg)
      → Holds c l → HoldsValued c (on_defaults_backwards o (scene_at c) place a b l)
  unfolding on_defaults_backwards
  holds_on_defaults_backwards o place a b h =
      holds_binary place o _ _
      (holds_default place hint.Number a (holds_default place hint.Number b h).listing).listing

  holds_on_numbers : {l : Listing} (o : BinaryOp) (place : Place) (a b : Reg) → Holds c l
      → HoldsValued c (on_numbers o (scene_at c) place a b l)
  unfolding on_numbers
  holds_on_numbers o place a b h =
      holds_binary place o _ _ (holds_number place b (holds_number place a h).listing).listing

  holds_beside : {l : Listing} (place : Place) (src other : Reg) → Holds c l
      → HoldsValued c (beside (scene_at c) place src other l)
  holds_beside place src other h =
      holds_result place (λ dst. Convert dst src hint.Number (Some other)) (λ dst set. set) h

  holds_on_loose : {l : Listing} (o : BinaryOp) (place : Place) (a b : Reg) → Holds c l
      → HoldsValued c (on_loose o (scene_at c) place a b l)
  unfolding on_loose
  holds_on_loose o place a b h =
      holds_binary place o _ _ (holds_beside place b a (holds_beside place a b h).listing).listing

  holds_on_in : {l : Listing} (place : Place) (a b : Reg) → Holds c l
      → HoldsValued c (on_in (scene_at c) place a b l)
  unfolding on_in
  holds_on_in {l} place a b h =
      let key = (with_text (scene_at c) place a
      (with_node (scene_at c) place (NeedObject b (site 0)) l)).value in
      holds_result place (λ dst. HasProp dst b key) (λ dst set. set)
      (holds_text place a (holds_node place (NeedObject b (site 0)) refl h)).listing

  holds_apply_binary : {l : Listing} (operator : BinaryOperator) (place : Place) (a b : Reg)
      → Holds c l → HoldsValued c (apply_binary operator (scene_at c) place a b l)
  holds_apply_binary operator.Plus place a b h = holds_on_defaults _ place a b h
  holds_apply_binary operator.Less place a b h = holds_on_defaults _ place a b h
  holds_apply_binary operator.GreaterEqual place a b h = holds_on_defaults _ place a b h
  holds_apply_binary operator.Greater place a b h = holds_on_defaults_backwards _ place a b h
  holds_apply_binary operator.LessEqual place a b h = holds_on_defaults_backwards _ place a b h
  holds_apply_binary operator.Equal place a b h = holds_on_loose _ place a b h
  holds_apply_binary operator.NotEqual place a b h = holds_on_loose _ place a b h
  holds_apply_binary operator.StrictEqual place a b h = holds_binary place _ a b h
  holds_apply_binary operator.StrictNotEqual place a b h = holds_binary place _ a b h
  holds_apply_binary operator.In place a b h = holds_on_in place a b h
  holds_apply_binary operator.Instanceof place a b h =
      holds_result place (λ dst. InstanceOf dst a b (site 0) (site 1)) (λ dst set. (set, refl)) h
  holds_apply_binary operator place a b h = holds_on_numbers _ place a b h

  -- ---- forms inside

  pub holds_value_of : {l : Listing} (x : Form) → HoldsForm t x → Holds c l
      → HoldsValued c (value_of x (scene_at c) l)
  unfolding value_of
  holds_value_of {l} x fine h =
      let r = fine c l h in holds_get_value (x (scene_at c) l).outcome r.outcome r.listing

  pub holds_list_unary : {l : Listing} (operator : UnaryOperator) (operand : Form) (place : Place)
      → HoldsForm t operand → Holds c l
      → HoldsValued c (list_unary operator operand place (scene_at c) l)
  unfolding list_unary
  holds_list_unary {l} operator operand place fine h =
      let r = fine c l h in
      holds_on_outcome operator place (operand (scene_at c) l).outcome r.outcome r.listing

  pub holds_list_update : {l : Listing} (operator : UpdateOperator) (operand : Form)
      (place : Place) → HoldsForm t operand → Holds c l
      → HoldsValued c (list_update operator operand place (scene_at c) l)
  unfolding list_update
  holds_list_update {l} operator operand place fine h =
      let r = fine c l h in
      holds_update_outcome operator place (operand (scene_at c) l).outcome r.outcome r.listing

pub holds_name : {t : Text} (name : List ℕ) (place : Place) → ReachesAll t (one_variable name)
    → HoldsForm t (with_name name place)
unfolding with_name
holds_name {t} name place has c l h =
    holds_special_or_variable (special_in t.scene name) name place refl has h

-- ---- `&&`, `||` and `?`

module _ {t : Text} {c : Context t} where
  holds_and : {l : Listing} (right : Form) (place : Place) (a : Reg) → HoldsForm t right
      → Holds c l → HoldsValued c (and_then right place (scene_at c) a l)
  unfolding and_then
  holds_and {l} right place a fine h =
      let value = holds_copy place a (holds_take_1 h) in
      let b = holds_truth place a value.listing in
      let y = holds_value_of right fine
      (holds_branch place (Branch _) (spot_of l 0) (inl refl) tt b.listing) in
      record {
        listing = holds_spot (spot_of l 0) (holds_move place _ _ value.value y.listing);
        value = value.value;
      }

  holds_or : {l : Listing} (right : Form) (place : Place) (a : Reg) → HoldsForm t right
      → Holds c l → HoldsValued c (or_else right place (scene_at c) a l)
  unfolding or_else
  holds_or {l} right place a fine h =
      let value = holds_copy place a (holds_take_2_back h) in
      let b = holds_truth place a value.listing in
      let other = holds_branch place (Branch _) (spot_of l 1) (inl refl) tt b.listing in
      let y = holds_value_of right fine
      (holds_spot {c = awaiting (spot_of l 0 ∷ []) c} (spot_of l 1)
      (holds_jump (spot_of l 0) (inr (inl refl)) other)) in
      record {
        listing = holds_spot (spot_of l 0) (holds_move place _ _ value.value y.listing);
        value = value.value;
      }

  pub holds_conditional : {l : Listing} (condition consequent otherwise : Form) (place : Place)
      → HoldsForm t condition → HoldsForm t consequent → HoldsForm t otherwise → Holds c l
      → HoldsValued c (list_conditional condition consequent otherwise place (scene_at c) l)
  unfolding list_conditional consequence alternative
  holds_conditional {l} condition consequent otherwise place first second third h =
      let n = (value_of condition (scene_at c) l).listing.spot in
      let b = holds_truth place _ (holds_value_of condition first h).listing in
      let y = holds_value_of consequent second
      (holds_branch place (Branch _) (nth n 0) (inl refl) tt (holds_take_2 b.listing)) in
      let value = holds_copy place _ y.listing in
      let z = holds_value_of otherwise third
      (holds_spot {c = awaiting (nth n 1 ∷ []) c} (nth n 0)
      (holds_jump (nth n 1) (inr (inl refl)) value.listing)) in
      record {
        listing = holds_spot (nth n 1) (holds_move place _ _ value.value z.listing);
        value = value.value;
      }

  -- ---- operations and assignments

  pub holds_operation : {v : Valued} (operator : BinaryOperator) (right : Form)
      (first place : Place) → HoldsForm t right → HoldsValued c v
      → HoldsValued c (apply_operation operator right first place (scene_at c) v)
  unfolding apply_operation
  holds_operation operator.And right first place fine h = holds_and right first _ fine h.listing
  holds_operation operator.Or right first place fine h = holds_or right first _ fine h.listing
  holds_operation operator right first place fine h =
      holds_apply_binary operator place _ _ (holds_value_of right fine h.listing).listing

  pub holds_assign : {l : Listing} (target value : Form) (place : Place) → HoldsForm t target
      → HoldsForm t value → Holds c l → HoldsValued c (assign target value place (scene_at c) l)
  unfolding assign assign_to
  holds_assign {l} target value place first second h =
      let r = first c l h in
      let v = holds_value_of value second r.listing in
      record {
        listing = holds_put_value place (target (scene_at c) l).outcome _ r.outcome v.listing;
        value = v.value;
      }

  pub holds_assign_by : {l : Listing} (operator : BinaryOperator) (target value : Form)
      (place : Place) → HoldsForm t target → HoldsForm t value → Holds c l
      → HoldsValued c (assign_by operator target value place (scene_at c) l)
  unfolding assign_by assign_to_by
  holds_assign_by {l} operator target value place first second h =
      let o = (target (scene_at c) l).outcome in
      let r = first c l h in
      let v = holds_value_of value second (holds_get_value o r.outcome r.listing).listing in
      let new = holds_apply_binary operator place _ _ v.listing in
      record { listing = holds_put_value place o _ r.outcome new.listing; value = new.value }

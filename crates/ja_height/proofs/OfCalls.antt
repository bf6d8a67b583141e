-- What calls give is within the program: the calling state, the state at entry, what exits give
-- back.
use Rattle.std.specs.Prelude.{◌<◌, ◌≤◌, ◌≡◌, ◌+◌, ◌-◌, ◌&&◌, ◌++◌, ℕ, zero, suc, ℤ, pos, negsuc, Bool, List, [], ◌∷◌, map, length, drop, slice_get, Option, Some, None, IfSome, unwrap_or, IsTrue}
use Rattle.std.specs.List.{AllByRecursion, range_with_len}
use Rattle.std.specs.Option.{option_to_list}
use Rattle.std.proofs.Common.{refl, ap, arith}
use Rattle.std.proofs.lemmas.Bool.{cond_both, and_parts, false≢true}
use Rattle.std.proofs.lemmas.Option.{slice_get_past}
use Rattle.ja_base.specs.declared.ids.FnId.{FnId}
use Rattle.ja_base.specs.declared.ids.Label.{Label}
use Rattle.ja_base.specs.declared.ids.Reg.{Reg}
use Rattle.ja_base.specs.declared.ids.Site.{Site}
use Rattle.ja_base.proofs.Lists.{all_append}
use Rattle.ja_graph.specs.declared.builtins.TheConstants as builtins
use Rattle.ja_graph.specs.declared.node.Args.TheVariants as args
use Rattle.ja_graph.specs.declared.node.Node.{Node}
use Rattle.ja_graph.specs.declared.node.Node.TheVariants as node
use Rattle.ja_graph.specs.declared.node.NodeInfo.{NodeInfo}
use Rattle.ja_graph.specs.declared.program.Class.TheVariants as class
use Rattle.ja_graph.specs.declared.program.Program.{Program}
use Rattle.ja_graph.specs.Node.{makings, register_set}
use Rattle.ja_graph.specs.Program.{global}
use Rattle.ja_graph.specs.WellFormed.{IsWellFormed}
use Rattle.ja_machine.specs.Frames.{thrown, scope, parameters_of}
use Rattle.ja_machine.proofs.Lists.{all_drop, all_map, all_of}
use Rattle.ja_machine.proofs.Nodes.{AreMade}
use Rattle.ja_abstract.specs.declared.abstraction.NumberPart.TheVariants as number_part
use Rattle.ja_abstract.specs.AbstractValue.{AbstractValue, of_label, of_labels, undefined_value}
use Rattle.ja_abstract.specs.AbstractState.{AbstractState, aged, labels_of, new, is_label}
use Rattle.ja_abstract.specs.Composed.{composed, renamed_value}
use Rattle.ja_abstract.specs.Keys.{index_keys}
use Rattle.ja_abstract.specs.Made.{constructed_own, count_register, length_key, one_number, rest_register, scope_key, whole_constant}
use Rattle.ja_abstract.specs.Primitives.{to_num, to_uint32, whole_value}
use Rattle.ja_abstract.specs.Reading.{View, get, slot, some_label}
use Rattle.ja_abstract.specs.Resolved.{join_values}
use Rattle.ja_abstract.specs.Values.{as_read, has_atoms, has_labels, has_non_object, primitives_of, value_if}
use Rattle.ja_abstract.specs.Writes.{has_some_part}
use Rattle.ja_rows.specs.declared.table.Edge.{Edge}
use Rattle.ja_rows.specs.Calls.{Arguments, callee_value, callees, calling, calling_state, chain_value, constructed, count_below, element_count, elements, entered_by, entry_of, entry_values, given, given_back, is_conversion, listed, prototype_value, returned, tail, values_of}
use Rattle.ja_rows.specs.Out.{at, sets_in}
use Rattle.ja_rows.specs.Properties.{prototype_keys}
use Rattle.ja_height.proofs.States.{IsOf}
use Rattle.ja_height.proofs.OfValues.{of_constant, of_join, of_number, of_one_if, of_one_label, of_read, of_renamed, of_aged, of_some_labels, of_uint32, of_undefined, of_values}
use Rattle.ja_height.proofs.OfStates.{AreEntriesOf, IsKept, composed_kept, entered_kept, object_kept}
use Rattle.ja_height.proofs.OfSteps.{any_leads, at_place, builtin_there, of_get, of_object_prototype, of_site, of_slot, own_constructed}
use Rattle.ja_height.proofs.OfRows.{AreGiven, set_in_kept}

or_undefined : (p : Program) (o : Option AbstractValue) → IfSome o (IsOf p)
    → IsOf p (unwrap_or o undefined_value)
or_undefined p None f = of_undefined p
or_undefined p (Some v) f = f

-- ---- the caller

module _ (w : View) (good : IsWellFormed w.program) (count : ℕ) (f : IsKept w.program count w.state)
    (g : AreEntriesOf w.program w.entries) where
  abbrev p : Program
  p = w.program

  of_callees : (n : Node) (k : ℕ) (l : Label) → IsTrue (callees p w.state n k l)
      → IsTrue (is_label p l)
  of_callees (node.Call dst callee receiver list error) k l h =
      (f.values callee.0).label l (and_parts ((w.state.register callee.0).label l) _ h).0
  of_callees (node.New dst callee list site error) k l h =
      (f.values callee.0).label l (and_parts ((w.state.register callee.0).label l) _ h).0
  of_callees n k l h = absurd (false≢true h)

  of_prototype : (n : Node) (k : ℕ) → IsOf p (prototype_value w n k)
  of_prototype n k =
      let v = (get w (callees p w.state n k) (prototype_keys p)).value in
      let is = of_get w count f g (callees p w.state n k) (prototype_keys p) in
      of_join p (value_if (has_non_object v) (of_label (new builtins.OBJECT_PROTOTYPE)))
      (of_labels v.label) (of_one_if p (has_non_object v) (of_label (new builtins.OBJECT_PROTOTYPE))
      (of_object_prototype p good)) (of_some_labels p v.label is.label)

  pub calling_kept : (u : Site → Bool) (n : Node) (k : ℕ) → AreMade p u (makings n)
      → IsKept p count (calling_state w n k)
  unfolding makings
  calling_kept u (node.New dst callee list site error) k sites =
      let proto = prototype_value w (node.New dst callee list site error) k in
      object_kept p count w.state site (λ (a : AbstractState). constructed_own (aged site proto))
      (λ a h. own_constructed p good (aged site proto)
      (of_aged p site proto (of_prototype (node.New dst callee list site error) k))) f
  calling_kept u n k sites = f

-- ---- what is given back

module _ (w : View) (good : IsWellFormed w.program) (count : ℕ) (f : IsKept w.program count w.state)
    (g : AreEntriesOf w.program w.entries) (thrown_there : thrown.0 < count)
    (scope_there : scope.0 < count) where
  abbrev AreHere : List (ℕ × AbstractState) → Type 0
  AreHere = AreGiven w good count f g thrown_there scope_there

  set_here : (a : AbstractState) (dst : Reg) (v : AbstractValue) (n : _) → dst.0 < count
      → IsKept w.program count a → IsOf w.program v → AreHere (sets_in w a dst v n)
  set_here = set_in_kept w good count f g thrown_there scope_there

  returned_kept : (a : AbstractState) (i : NodeInfo) (n : Node) (this v : AbstractValue)
      → AllByRecursion (λ (r : Reg). r.0 < count) (option_to_list (register_set n))
      → IsKept w.program count a → IsOf w.program this → IsOf w.program v
      → AreHere (returned w a i n this v)
  unfolding register_set
  returned_kept a i (node.Call dst callee receiver list error) this v dsts h k of =
      set_here a dst v i.next dsts.0 h of
  returned_kept a i (node.New dst callee list site error) this v dsts h k of =
      set_here a dst (constructed this v) i.next dsts.0 h
      (of_join w.program (value_if (has_atoms v) this) (of_labels v.label)
      (of_one_if w.program (has_atoms v) this k) (of_some_labels w.program v.label of.label))
  returned_kept a i (node.Convert dst src kind other) this v dsts h k of =
      set_here a dst v i.next dsts.0 h of
  returned_kept a i n this v dsts h k of = tt

  pub back_kept : (e : Edge) (i : NodeInfo) (u : Site → Bool) (other : ℕ) (exit : AbstractState)
      (n : Node) → AllByRecursion (λ (r : Reg). r.0 < count) (option_to_list (register_set i.node))
      → AreMade w.program u (makings i.node) → IsTrue (is_label w.program e.callee.receiver)
      → IsKept w.program other exit → AreHere (given_back w e i exit n)
  back_kept e i u other exit (node.Return src) dsts sites receiver h =
      let calling = calling_state w i.node e.callee.function.0 in
      let c = calling_kept w good count f g u i.node e.callee.function.0 sites in
      returned_kept (composed w.program calling exit) i i.node
      (renamed_value exit.mask (of_label e.callee.receiver)) (exit.register src.0) dsts
      (composed_kept w.program count other calling exit c h)
      (of_renamed w.program exit.mask (of_label e.callee.receiver)
      (of_one_label w.program e.callee.receiver receiver)) (h.values src.0)
  back_kept e i u other exit node.Escape dsts sites receiver h =
      let calling = calling_state w i.node e.callee.function.0 in
      let c = calling_kept w good count f g u i.node e.callee.function.0 sites in
      set_here (composed w.program calling exit) thrown (exit.register thrown.0) i.handler
      thrown_there (composed_kept w.program count other calling exit c h) (h.values thrown.0)
  back_kept e i u other exit n dsts sites receiver h = tt

-- ---- arguments

module _ (w : View) (good : IsWellFormed w.program) (count : ℕ) (f : IsKept w.program count w.state)
    (g : AreEntriesOf w.program w.entries) where
  pub record AreArguments (a : Arguments) : Type 0 where
    pub parameter : (j : ℕ) → IsOf w.program (a.parameter j)
    pub rest : IsOf w.program a.rest
    pub number : IsOf w.program a.count

  values_are : (list : List Reg) → AllByRecursion (IsOf w.program) (values_of w list)
  values_are list =
      all_map (λ (r : Reg). Unit {0}) (IsOf w.program) (at w) (λ r u. f.values r.0) list
      (all_of (λ (r : Reg). Unit {0}) (λ r. tt) list)

  listed_are : (parameters : ℕ) (list : List Reg) → AreArguments (listed w parameters list)
  listed_are parameters list = record {
    parameter =
        λ j. or_undefined w.program (slice_get (values_of w list) j)
        (at_place (IsOf w.program) (values_of w list) j (values_are list));
    rest =
        of_join w.program undefined_value (join_values (drop parameters (values_of w list)))
        (of_undefined w.program) (of_values w.program (drop parameters (values_of w list))
        (all_drop (IsOf w.program) parameters (values_of w list) (values_are list)));
    number = of_constant w.program (length list);
  }

  elements_are : (v : AbstractValue) → AreArguments (elements w v)
  elements_are v =
      let q = (get w v.label (length_key ∷ [])).value in
      let read = (get w v.label (index_keys w.program)).value in
      let each = of_join w.program undefined_value (as_read read) (of_undefined w.program)
      (of_read w.program read (of_get w count f g v.label (index_keys w.program))) in
      let none = of_constant w.program 0 in
      record {
        parameter = λ j. each;
        rest = each;
        number =
            of_join w.program (value_if (has_labels w q) (whole_constant 0)) (element_count q)
            (of_one_if w.program (has_labels w q) (whole_constant 0) none)
            (of_join w.program (value_if q.flags.absent (whole_constant 0))
            (to_uint32 (to_num (primitives_of q)).value).value
            (of_one_if w.program q.flags.absent (whole_constant 0) none)
            (of_uint32 w.program (to_num (primitives_of q)).value));
      }

  of_count : (v : AbstractValue) (o : Option ℤ) → IsOf w.program (count_below w v o)
  of_count v (Some (pos n)) = of_constant w.program (n - 1)
  of_count v (Some (negsuc n)) = of_constant w.program 0
  of_count v None =
      of_one_if w.program (has_some_part w v) whole_value (of_number w.program number_part.Whole)

  tail_are : (caller : FnId) → AreArguments (tail w caller)
  tail_are caller =
      let rest = f.values (rest_register (parameters_of w.program caller)) in
      record {
        parameter = λ j. rest;
        rest = rest;
        number =
            of_count (w.state.register count_register)
            (one_number w.program (w.state.register count_register));
      }

  pub given_are : (caller : FnId) (parameters : ℕ) (n : Node)
      → AreArguments (given w caller parameters n)
  given_are caller parameters (node.Call dst callee receiver (args.Registers list) error) =
      listed_are parameters list
  given_are caller parameters (node.Call dst callee receiver (args.Elements array) error) =
      elements_are (at w array)
  given_are caller parameters (node.Call dst callee receiver args.Tail error) = tail_are caller
  given_are caller parameters (node.New dst callee list site error) = listed_are parameters list
  given_are caller parameters n = listed_are parameters []

  pub of_chain : (n : Node) (k : ℕ) → IsOf w.program (chain_value w n k)
  of_chain n k =
      let chain = λ (m : Label). some_label w (λ l. callees w.program w.state n k l
      && (slot w l scope_key).label m) in
      cond_both (is_conversion n) (of_label (new global)) (of_labels chain) (IsOf w.program)
      (λ _. of_site w.program good global
      (builtin_there w.program good global class.Object refl))
      (λ _. of_some_labels w.program chain (λ m h. any_leads
      (λ (l : Label). callees w.program w.state n k l && (slot w l scope_key).label m)
      (IsTrue (is_label w.program m)) (labels_of w.program) (λ l i.
      (of_slot w count f g l scope_key).label m
      (and_parts (callees w.program w.state n k l) _ i).1) h))

  pub of_callee : (n : Node) (k : ℕ) → IsOf w.program (callee_value w n k)
  of_callee n k =
      cond_both (is_conversion n) undefined_value (of_labels (callees w.program w.state n k))
      (IsOf w.program) (λ _. of_undefined w.program)
      (λ _. of_some_labels w.program (callees w.program w.state n k)
      (of_callees w good count f g n k))

-- ---- at entry

entry_count : (parameters : ℕ) (receiver chain callee : AbstractValue) (g : Arguments)
    → length (entry_values parameters receiver chain callee g) ≡ 6 + parameters
entry_count parameters receiver chain callee g =
    let more = by 0 parameters in omega (arith, more)
  where
    by : (a n : ℕ) → length (map g.parameter (range_with_len a n) ++ g.rest ∷ []) ≡ 1 + n
    by a zero = refl
    by a (suc n) = let rest = by (a + 1) n in omega (arith, rest)

module _ (p : Program) where
  -- registers past those at entry are undefined
  pub entry_kept : (count parameters : ℕ) (receiver chain callee : AbstractValue) (g : Arguments)
      → 6 + parameters ≤ count → IsOf p receiver → IsOf p chain → IsOf p callee
      → ((j : ℕ) → IsOf p (g.parameter j)) → IsOf p g.rest → IsOf p g.count
      → IsKept p count (entry_of parameters receiver chain callee g)
  entry_kept count parameters receiver chain callee g many r c k each rest number =
      let values = entry_values parameters receiver chain callee g in
      let parameter = all_map (λ (j : ℕ). Unit {0}) (IsOf p) g.parameter (λ j u. each j)
      (range_with_len 0 parameters) (all_of (λ (j : ℕ). Unit {0}) (λ j. tt) _) in
      let all : AllByRecursion (IsOf p) values = (
        of_undefined p,
        (
          r,
          (
            c,
            (
              k,
              (
                number,
                all_append (IsOf p) (map g.parameter (range_with_len 0 parameters)) (g.rest ∷ [])
                    parameter (rest, tt),
              ),
            ),
          ),
        ),
      ) in
      let long : length values ≡ 6 + parameters = entry_count parameters receiver chain callee g in
      entered_kept p count (entry_of parameters receiver chain callee g).register
      (λ n out. ap (λ o. unwrap_or o undefined_value)
      (slice_get_past values n (omega arith)))
      (λ n. or_undefined p (slice_get values n) (at_place (IsOf p) values n all))

-- .. of a callee
pub callee_kept : (w : View) (good : IsWellFormed w.program) (count : ℕ)
    (f : IsKept w.program count w.state) → AreEntriesOf w.program w.entries → (e : Edge)
    (u : Site → Bool) (n : Node) → AreMade w.program u (makings n) → (other : ℕ)
    → 6 + parameters_of w.program e.callee.function ≤ other
    → IsTrue (is_label w.program e.callee.receiver)
    → IsKept w.program other (entered_by w e n).state
callee_kept w good count f g e u n sites other many receiver =
    let k = e.callee.function.0 in
    let c = calling w n k in
    let h = calling_kept w good count f g u n k sites in
    let parameters = parameters_of w.program e.callee.function in
    let are = given_are c good count h g e.caller.function parameters n in
    entry_kept w.program other parameters (of_label e.callee.receiver) (chain_value c n k)
    (callee_value c n k) (given c e.caller.function parameters n) many
    (of_one_label w.program e.callee.receiver receiver) (of_chain c good count h g n k)
    (of_callee c good count h g n k) are.parameter are.rest are.number

-- Contexts and nodes that are listed: what isn't wrong of them, and their order.
use Rattle.std.specs.Prelude.{◌≡◌, ◌<◌, ◌*◌, ℕ, Bool, true, List, [], ◌∷◌, length, map, nat_lt, slice_get, Some, None}
use Rattle.std.specs.List.{AllByRecursion}
use Rattle.std.specs.Option.{option_and_then, option_map_or}
use Rattle.std.proofs.Common.{refl, sym, ap, ◌∙◌, inl, inr, arith}
use Rattle.std.proofs.lemmas.Bool.{and_from, eq-eqb, lt-ltb, ltb-true, or_left, or_right}
use Rattle.serde_json.specs.Data.{Data}
use Rattle.ja_base.specs.declared.ids.Context.{Context}
use Rattle.ja_base.specs.declared.ids.FnId.{FnId}
use Rattle.ja_base.specs.declared.ids.Label.{Label}
use Rattle.ja_graph.specs.declared.program.Program.{Program}
use Rattle.ja_graph.specs.Program.{nodes_of}
use Rattle.ja_abstract.specs.AbstractState.{label_number}
use Rattle.ja_table.proofs.Ascending.{Ascends}
use Rattle.ja_table.proofs.ListedContexts.{Comes}
use Rattle.ja_astate.specs.declared.state.AState.{AState}
use Rattle.ja_astate.specs.State.{state_of}
use Rattle.ja_table.specs.Tables.{IsContext}
use Rattle.ja_cert_parts.specs.declared.listed.MaskAt.{MaskAt}
use Rattle.ja_cert_parts.specs.declared.listed.PropertyAt.{PropertyAt}
use Rattle.ja_cert_parts.specs.declared.listed.RegisterAt.{RegisterAt}
use Rattle.ja_cert_read.specs.declared.contexts.ContextAt.{ContextAt}
use Rattle.ja_cert_read.specs.declared.points.PointAt.{PointAt}
use Rattle.ja_cert.specs.Certificate.{label_data, listed, state_data, whole}
use Rattle.ja_cert.specs.Wrong as wrong
use Rattle.ja_cert.specs.Wrong.{MemberWrong, context_number, context_wrong, entry_wrong, is_above, is_less, list_wrong, members_of, members_wrong, point_number, point_wrong, whole_of}
use Rattle.ja_cert_read.specs.code.Building.{entry_data, mask_data, property_data, register_data, AreRight, IsStateOfParts}
use Rattle.ja_cert_read.specs.code.Contexts.{listed_data, point_data, HasOwnParts, HasOwnState, IsContextAt}
use Rattle.ja_cert_read.specs.code.Orders.{comes_behind, context_at_rank, context_rank, node_rank}
use Rattle.ja_cert_read.proofs.ObjectLemmas.{object_is}
use Rattle.ja_cert_read.proofs.Orders.{above_behind, ascends_mapped, each_right, less_first, less_one, rises}
use Rattle.ja_cert_read.proofs.Told.{or_else_none, there, under_none}
use Rattle.ja_cert_parts.proofs.FaultLemmas.{unless_none}
use Rattle.ja_cert_parts.proofs.ListLemmas.{list_in_items}
use Rattle.ja_machine.proofs.Lists.{all_both}

-- of a list that is written so
pub list_right : (f : MemberWrong) (ds : List Data) → list_wrong f (listed ds) ≡ None
    → members_wrong f [] ds ≡ None
list_right f ds h = sym (ap (members_wrong f []) (list_in_items ds)) ∙ h

-- ---- nodes

point_within : (p : Program) (f : FnId) (before : List Data) (x : PointAt)
    → point_wrong p f before (point_data p f x) ≡ None → x.node.0 < length (nodes_of p f)
unfolding state_data point_wrong
point_within p f before x h =
    ltb-true x.node.0 (length (nodes_of p f))
    (unless_none _ (under_none _ _ (or_else_none _ _ h).0))

point_fields_ascend : (p : Program) (f : FnId) (ascends : Bool) (ds : List Data)
    → wrong.point_fields_wrong p f ascends ds ≡ None → ascends ≡ true
point_fields_ascend p f ascends [] h = absurd (cc)
point_fields_ascend p f ascends (a ∷ []) h = absurd (cc)
point_fields_ascend p f ascends (a ∷ b ∷ []) h = absurd (cc)
point_fields_ascend p f ascends (a ∷ b ∷ c ∷ []) h = absurd (cc)
point_fields_ascend p f ascends (a ∷ b ∷ c ∷ d ∷ []) h =
    unless_none ascends (or_else_none _ _ (or_else_none _ _ h).1).0
point_fields_ascend p f ascends (a ∷ b ∷ c ∷ d ∷ e ∷ ds) h = absurd (cc)

point_ascends : (p : Program) (f : FnId) (before : List Data) (d : Data)
    → point_wrong p f before d ≡ None → is_above point_number before d ≡ true
unfolding point_wrong
point_ascends p f before d h =
    let r = there (members_of wrong.point_keys d)
    (wrong.point_fields_wrong p f (is_above point_number before d)) h in
    point_fields_ascend p f (is_above point_number before d) r.0 r.2

-- the nodes of a list that isn't wrong
abbrev pub NodeBefore : PointAt → PointAt → Type 0
NodeBefore x y = x.node.0 < y.node.0

pub points_ascend : (p : Program) (f : FnId) (xs : List PointAt)
    → AreRight (point_wrong p f) (point_data p f) xs → Ascends NodeBefore xs
unfolding state_data
points_ascend p f xs h =
    ascends_mapped (point_data p f) _ NodeBefore (λ x y k. less_one x.node.0 y.node.0 k) xs
    (rises (point_wrong p f) point_number (point_ascends p f) (map (point_data p f) xs) h)

abbrev pub IsPlaced : Program → FnId → PointAt → Type 0
IsPlaced p f x = HasOwnState p f x × (x.node.0 < length (nodes_of p f))

pub points_placed : (p : Program) (f : FnId) (xs : List PointAt)
    → AreRight (point_wrong p f) (point_data p f) xs → AllByRecursion (HasOwnState p f) xs
    → AllByRecursion (IsPlaced p f) xs
points_placed p f xs h have =
    all_both (λ (x : PointAt). x.node.0 < length (nodes_of p f)) (HasOwnState p f) (IsPlaced p f)
    (λ x n s. (s, n)) xs
    (each_right (point_wrong p f) (point_data p f)
    (λ (x : PointAt). x.node.0 < length (nodes_of p f)) (point_within p f) [] xs h) have

-- ---- contexts

site_below : (l : Label) (n : ℕ) → label_number l < 2 * n → l.site.0 < n
site_below l n h = omega (arith, h)

-- what is right of a context, but for its states
record IsListed (p : Program) (x : ContextAt) : Type 0 where
  context : IsContext p x.context
  entries : AreRight (entry_wrong p) (entry_data p) x.entries.items
  points : AreRight (point_wrong p x.context.function) (point_data p x.context.function)
      x.points.items

context_is : (p : Program) (before : List Data) (x : ContextAt)
    → context_wrong p before (listed_data p x) ≡ None → IsListed p x
unfolding listed_data context_wrong
context_is p before x h =
    let a = or_else_none _ _ h in
    let b = or_else_none _ _ a.1 in
    let c = or_else_none _ _ b.1 in
    let d = or_else_none _ _ c.1 in
    let e = or_else_none _ _ d.1 in
    let number = ltb-true (label_number x.context.receiver) (2 * length p.sites)
    (unless_none _ (under_none _ _ b.0)) in
    record {
      context = record {
        function = ltb-true x.context.function.0 (length p.functions)
            (unless_none _ (under_none _ _ a.0));
        receiver = lt-ltb x.context.receiver.site.0 (length p.sites)
            (site_below x.context.receiver (length p.sites) number);
      };
      entries = list_right _ _ (under_none _ _ d.0);
      points = list_right _ _ (under_none _ _ e.0);
    }

context_fields_ascend : (p : Program) (ascends : Bool) (ds : List Data)
    → wrong.context_fields_wrong p ascends ds ≡ None → ascends ≡ true
context_fields_ascend p ascends [] h = absurd (cc)
context_fields_ascend p ascends (a ∷ []) h = absurd (cc)
context_fields_ascend p ascends (a ∷ b ∷ []) h = absurd (cc)
context_fields_ascend p ascends (a ∷ b ∷ c ∷ []) h = absurd (cc)
context_fields_ascend p ascends (a ∷ b ∷ c ∷ d ∷ []) h =
    unless_none ascends (or_else_none _ _ (or_else_none _ _ (or_else_none _ _ h).1).1).0
context_fields_ascend p ascends (a ∷ b ∷ c ∷ d ∷ e ∷ ds) h = absurd (cc)

context_ascends : (p : Program) (before : List Data) (d : Data)
    → context_wrong p before d ≡ None → is_above context_number before d ≡ true
unfolding context_wrong
context_ascends p before d h =
    let r = there (members_of wrong.context_keys d)
    (wrong.context_fields_wrong p (is_above context_number before d)) h in
    context_fields_ascend p (is_above context_number before d) r.0 r.2

pub comes_from : (x y : Context) → is_less (context_rank x) (context_rank y) ≡ true → Comes x y
comes_from x y h = elim (less_first x.function.0 y.function.0 (label_number x.receiver ∷ [])
    (label_number y.receiver ∷ []) h) [
      | inl f ↦ or_left _ _ (lt-ltb x.function.0 y.function.0 f)
      | inr r ↦ or_right (nat_lt x.function.0 y.function.0) _ (and_from _ _
          (eq-eqb x.function.0 y.function.0 r.0)
          (lt-ltb (label_number x.receiver) (label_number y.receiver)
          (less_one (label_number x.receiver) (label_number y.receiver) r.1)))
    ]

abbrev pub ComesBefore : ContextAt → ContextAt → Type 0
ComesBefore x y = Comes x.context y.context

pub contexts_ascend : (p : Program) (xs : List ContextAt)
    → AreRight (context_wrong p) (listed_data p) xs → Ascends ComesBefore xs
unfolding listed_data
contexts_ascend p xs h =
    ascends_mapped (listed_data p) _ ComesBefore (λ x y k. comes_from x.context y.context k) xs
    (rises (context_wrong p) context_number (context_ascends p) (map (listed_data p) xs) h)

pub contexts_placed : (p : Program) (xs : List ContextAt)
    → AreRight (context_wrong p) (listed_data p) xs → AllByRecursion (HasOwnParts p) xs
    → AllByRecursion (IsContextAt p) xs
contexts_placed p xs h have =
    all_both (IsListed p) (HasOwnParts p) (IsContextAt p) (λ x is own. record {
      context = is.context;
      entries = is.entries;
      points = is.points;
      own = own;
    }) xs (each_right (context_wrong p) (listed_data p) (IsListed p) (context_is p) [] xs h) have

-- ---- the numbers of what is read

module _ (d : Data) (a b c e : Data) (n : ℕ) where
  pub point_number_is : members_of wrong.point_keys d ≡ Some (a ∷ b ∷ c ∷ e ∷ []) → whole n ≡ c
      → point_number d ≡ n ∷ []
  point_number_is found is =
      ap (λ o. option_map_or (λ (m : ℕ). m) (option_and_then whole_of
      (option_and_then (λ (ds : List Data). slice_get ds 2) o)) 0 ∷ []) found
      ∙ ap (λ x. option_map_or (λ (m : ℕ). m) (whole_of x) 0 ∷ []) (sym is)

  pub context_number_is : (m : ℕ) → members_of wrong.context_keys d ≡ Some (a ∷ b ∷ c ∷ e ∷ [])
      → whole n ≡ b → whole m ≡ e → context_number d ≡ n ∷ m ∷ []
  context_number_is m found function receiver =
      ap (λ o. option_map_or (λ (k : ℕ). k) (option_and_then whole_of
      (option_and_then (λ (ds : List Data). slice_get ds 1) o)) 0
      ∷ option_map_or (λ (k : ℕ). k) (option_and_then whole_of
      (option_and_then (λ (ds : List Data). slice_get ds 3) o)) 0 ∷ []) found
      ∙ ap (λ x. option_map_or (λ (k : ℕ). k) (whole_of x) 0
      ∷ option_map_or (λ (k : ℕ). k) (whole_of e) 0 ∷ []) (sym function)
      ∙ ap (λ x. n ∷ option_map_or (λ (k : ℕ). k) (whole_of x) 0 ∷ []) (sym receiver)

pub above_points : (p : Program) (f : FnId) (before : List PointAt) (d : Data) (n : ℕ)
    → point_number d ≡ n ∷ []
    → is_above point_number (map (point_data p f) before) d
    ≡ comes_behind node_rank before (n ∷ [])
unfolding state_data
above_points p f before d n here =
    above_behind (point_data p f) point_number node_rank (λ x. refl) before d (n ∷ []) here

pub above_contexts : (p : Program) (before : List ContextAt) (d : Data) (x : Context)
    → context_number d ≡ context_rank x
    → is_above context_number (map (listed_data p) before) d
    ≡ comes_behind context_at_rank before (context_rank x)
unfolding listed_data
above_contexts p before d x here =
    above_behind (listed_data p) context_number context_at_rank (λ y. refl) before d
    (context_rank x) here

-- ---- what is read is written so

pub point_written : (p : Program) (f : FnId) (d : Data) (n : ℕ) (s : AState)
    (xs : List RegisterAt) (ys : List PropertyAt) (zs : List MaskAt)
    (masks heap node registers : Data)
    → members_of wrong.point_keys d ≡ Some (masks ∷ heap ∷ node ∷ registers ∷ [])
    → listed (map (mask_data p) zs) ≡ masks → listed (map (property_data p) ys) ≡ heap
    → whole n ≡ node → listed (map (register_data p) xs) ≡ registers
    → IsStateOfParts p f xs ys zs s → state_data p f n (state_of s) ≡ d
unfolding state_data
point_written p f d n s xs ys zs masks heap node registers found m h number r is =
    rw (is.masks_listed, is.heap_listed, is.registers_listed)
    (rw (m, h, number, r) (sym (object_is wrong.point_keys d
    (masks ∷ heap ∷ node ∷ registers ∷ []) found)))

pub context_written : (p : Program) (d : Data) (x : ContextAt)
    (entries function points receiver : Data)
    → members_of wrong.context_keys d ≡ Some (entries ∷ function ∷ points ∷ receiver ∷ [])
    → listed (map (entry_data p) x.entries.items) ≡ entries → whole x.context.function.0 ≡ function
    → listed (map (point_data p x.context.function) x.points.items) ≡ points
    → label_data x.context.receiver ≡ receiver → listed_data p x ≡ d
unfolding listed_data
context_written p d x entries function points receiver found e f n r =
    rw (e, f, n, r) (sym (object_is wrong.context_keys d
    (entries ∷ function ∷ points ∷ receiver ∷ []) found))

-- the function of a number
pub function_is : (d : Data) (f : FnId) → whole f.0 ≡ d → wrong.function_in d ≡ f
function_is d f is = ap wrong.function_in (sym is)

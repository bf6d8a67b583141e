-- Contexts that are written the same say the same.
use Rattle.std.proofs.Common.{◌≡◌, ◌≤◌, ℕ, Bool, true, false, List, [], ◌∷◌, length, get_or, Option, Some, None, refl, sym, ap, subst, ◌∙◌, arith}
use Rattle.std.specs.Prelude.{IfSome, IsSome, IsTrue, nat_lt}
use Rattle.std.specs.List.{flat_map, AllByRecursion}
use Rattle.std.specs.Option.{option_and_then, option_map, option_map_or}
use Rattle.std.proofs.lemmas.Bool.{false≢true, ltb-false, ltb-true}
use Rattle.std.proofs.lemmas.Option.{slice_get_past}
use Rattle.serde_json.specs.Data.{Data, null}
use Rattle.ja_base.specs.declared.ids.FnId.{FnId}
use Rattle.ja_base.specs.declared.ids.Label.{Label}
use Rattle.ja_graph.specs.declared.program.Program.{Program}
use Rattle.ja_graph.specs.Program.{nodes_of}
use Rattle.ja_machine.specs.Frames.{registers_of}
use Rattle.ja_abstract.specs.declared.abstraction.Key.{Key}
use Rattle.ja_abstract.specs.AbstractState.{AbstractState, is_key, is_label}
use Rattle.ja_abstract.specs.Lists.{Member}
use Rattle.ja_aheap.specs.Entries.{entries_of}
use Rattle.ja_astate.specs.State.{state_of, IsStateOf}
use Rattle.ja_astate.specs.declared.state.AState.{AState}
use Rattle.ja_rows.specs.Table.{node_numbers}
use Rattle.ja_table.specs.declared.table.ContextTable.{ContextTable}
use Rattle.ja_table.specs.declared.table.NodeTable.{NodeTable}
use Rattle.ja_table.specs.Tables.{kept_state, states_in, FitsContext}
use Rattle.ja_table.proofs.Ascending.{number_listed, of_each}
use Rattle.ja_cert.specs.Certificate.{context_data, listed, points_data, state_data}
use Rattle.ja_cert.specs.Wrong as wrong
use Rattle.ja_cert.specs.Wrong.{point_number}
use Rattle.ja_cert_read.specs.Said.{said_property, said_state}
use Rattle.ja_abstract.specs.Profile.{IsPropertyOfProfile, IsStateOfProfile}
use Rattle.ja_cert_read.specs.code.Contexts.{own_data}
use Rattle.ja_cert_laws.proofs.Kept.{kept_of_function}
use Rattle.ja_cert_laws.proofs.Members.{fields_in, list_same}
use Rattle.ja_cert_laws.proofs.Picked.{same_at, AreAt, IsAt}
use Rattle.ja_cert_laws.proofs.Properties.{entries_same}
use Rattle.ja_cert_laws.proofs.States.{state_same}
use Rattle.ja_cert_read.proofs.Pairs.{number_rank, numbers_ascend}
use Rattle.ja_table.proofs.Places.{label_tells}

-- ---- nodes

-- a node that has a state, of a context of the function
abbrev pub at_node : Program → FnId → ContextTable → ℕ → List Data
at_node p f c n =
    option_map_or (λ (a : AbstractState). state_data p f n a ∷ []) (states_in c.nodes.items n) []

abbrev pub nodes_data : Program → FnId → ContextTable → Data
nodes_data p f c = listed (flat_map (at_node p f c) (node_numbers p f))

-- the nodes of a context of the function, with numbers and texts of the profile
pub record AreNodesAt (p : Program) (f : FnId) (c : ContextTable) : Type 0 where
  pub count : length c.nodes.items ≡ length (nodes_of p f)
  pub states : (n : ℕ) (s : AState) → kept_state c.nodes.items n ≡ Some s
      → IsStateOf p (registers_of p f) s
  pub profile : (n : ℕ) → IfSome (states_in c.nodes.items n) IsStateOfProfile

module _ (p : Program) (f : FnId) where
  unfoldable pub node_data : ℕ → Option AbstractState → List Data
  node_data n o = option_map_or (λ (a : AbstractState). state_data p f n a ∷ []) o []

  pub node_placed : (n : ℕ) (o : Option AbstractState)
      → AllByRecursion (IsAt number_rank point_number n) (node_data n o)
  unfolding node_data state_data
  node_placed n None = tt
  node_placed n (Some a) = (refl, tt)

  node_same : (n : ℕ) (o r : Option AState)
      → ((s : AState) → o ≡ Some s → IsStateOf p (registers_of p f) s)
      → ((s : AState) → r ≡ Some s → IsStateOf p (registers_of p f) s)
      → IfSome (option_map state_of o) IsStateOfProfile
      → IfSome (option_map state_of r) IsStateOfProfile
      → node_data n (option_map state_of o) ≡ node_data n (option_map state_of r)
      → option_map (said_state p) (option_map state_of o)
      ≡ option_map (said_state p) (option_map state_of r)
  unfolding node_data
  node_same n None None kept also h j same = refl
  node_same n None (Some s) kept also h j same = absurd (omega (arith, ap length same))
  node_same n (Some s) None kept also h j same = absurd (omega (arith, ap length same))
  node_same n (Some s) (Some t) kept also h j same =
      ap Some (state_same p f n (state_of s) (state_of t) (kept_of_function p f s (kept s refl))
      (kept_of_function p f t (also t refl)) h j
      (ap (λ ds. get_or ds 0 null) same))

  module _ (c d : ContextTable) (nodes : AreNodesAt p f c) (also : AreNodesAt p f d)
      (same : nodes_data p f c ≡ nodes_data p f d) where
    places : List ℕ
    places = node_numbers p f

    none_past : (x : ContextTable) → AreNodesAt p f x → (n : ℕ) → length (nodes_of p f) ≤ n
        → states_in x.nodes.items n ≡ None
    none_past x is n past =
        ap (λ o. option_map state_of (option_and_then (λ (s : NodeTable). s.state) o))
        (slice_get_past x.nodes.items n (omega (arith, is.count, past)))

    each_placed : (x : ContextTable)
        → AreAt number_rank point_number (at_node p f x) (node_numbers p f)
    unfolding node_data
    each_placed x =
        of_each _ (node_numbers p f) (λ n m. node_placed n (states_in x.nodes.items n))

    state_at : (n : ℕ) (b : Bool) → nat_lt n (length (nodes_of p f)) ≡ b
        → option_map (said_state p) (states_in c.nodes.items n)
        ≡ option_map (said_state p) (states_in d.nodes.items n)
    unfolding node_data
    state_at n true within =
        let m : Member n (node_numbers p f) =
        number_listed (length (nodes_of p f)) n (ltb-true n (length (nodes_of p f)) within) in
        node_same n (kept_state c.nodes.items n) (kept_state d.nodes.items n)
        (λ s is. nodes.states n s is) (λ s is. also.states n s is) (nodes.profile n)
        (also.profile n)
        (same_at number_rank point_number (at_node p f c) (at_node p f d) (node_numbers p f) n
        (numbers_ascend (length (nodes_of p f))) (each_placed c) (each_placed d) m
        (list_same _ _ same))
    state_at n false past =
        let out = ltb-false n (length (nodes_of p f)) past in
        ap (option_map (said_state p)) (none_past c nodes n out ∙ sym (none_past d also n out))

    pub nodes_same : (n : ℕ) → option_map (said_state p) (states_in c.nodes.items n)
        ≡ option_map (said_state p) (states_in d.nodes.items n)
    nodes_same n = state_at n (nat_lt n (length (nodes_of p f))) refl

-- ---- contexts

-- with numbers and texts of the profile
pub record IsContextOfProfile (c : ContextTable) : Type 0 where
  pub states : (n : ℕ) → IfSome (states_in c.nodes.items n) IsStateOfProfile
  pub entries : (l : Label) (k : Key) → IfSome (entries_of c.entries l k) IsPropertyOfProfile

-- two that say the same
pub record SameContext (p : Program) (c d : ContextTable) : Type 0 where
  pub context : c.context ≡ d.context
  pub state : (n : ℕ) → option_map (said_state p) (states_in c.nodes.items n)
      ≡ option_map (said_state p) (states_in d.nodes.items n)
  pub entry : (l : Label) (k : Key) → option_map (said_property p k) (entries_of c.entries l k)
      ≡ option_map (said_property p k) (entries_of d.entries l k)

nothing_unless : {X : Type 0} (o : Option X) (b : Bool) → (IsSome o → IsTrue b) → b ≡ false
    → o ≡ None
nothing_unless None b h other = refl
nothing_unless (Some x) b h other = absurd (false≢true (sym other ∙ h refl))

abbrev number_in : Data → ℕ
number_in d = option_map_or (λ (n : ℕ). n) (wrong.whole_of d) 0

module _ (p : Program) (c d : ContextTable) (fits : FitsContext p c) (too : FitsContext p d)
    (profile : IsContextOfProfile c) (also : IsContextOfProfile d)
    (same : own_data p c ≡ own_data p d) where
  field_same : (i : ℕ) → get_or (fields_in (own_data p c)) i null
      ≡ get_or (fields_in (own_data p d)) i null
  field_same i = ap (λ x. get_or (fields_in x) i null) same

  function_is : c.context.function ≡ d.context.function
  unfolding own_data context_data
  function_is = λ i. record { 0 = (ap number_in (field_same 1)) i }

  receiver_is : c.context.receiver ≡ d.context.receiver
  unfolding own_data context_data
  receiver_is =
      label_tells c.context.receiver d.context.receiver (ap number_in (field_same 3))

  entry_at : (l : Label) (k : Key) (a b : Bool) → is_label p l ≡ a → is_key p k ≡ b
      → option_map (said_property p k) (entries_of c.entries l k)
      ≡ option_map (said_property p k) (entries_of d.entries l k)
  unfolding own_data context_data
  entry_at l k true true label key =
      entries_same p (entries_of c.entries) (entries_of d.entries) l k label key
      (profile.entries l k) (also.entries l k) (field_same 0)
  entry_at l k true false label key =
      ap (option_map (said_property p k))
      (nothing_unless (entries_of c.entries l k) (is_key p k) (fits.keys l k) key
      ∙ sym (nothing_unless (entries_of d.entries l k) (is_key p k) (too.keys l k) key))
  entry_at l k false b label key =
      ap (option_map (said_property p k))
      (nothing_unless (entries_of c.entries l k) (is_label p l) (fits.labels l k) label
      ∙ sym (nothing_unless (entries_of d.entries l k) (is_label p l) (too.labels l k) label))

  points_same : nodes_data p c.context.function c ≡ nodes_data p d.context.function d
  unfolding own_data context_data points_data
  points_same = field_same 2

  nodes_at : (x : ContextTable) → FitsContext p x → IsContextOfProfile x
      → AreNodesAt p x.context.function x
  nodes_at x is ok = record {
    count = sym x.nodes.ok.0 ∙ is.nodes;
    states = is.states;
    profile = ok.states;
  }

  pub context_same : SameContext p c d
  context_same =
      let there : AreNodesAt p c.context.function d =
      subst (λ f. AreNodesAt p f d) (sym function_is) (nodes_at d too also) in
      let points : nodes_data p c.context.function c ≡ nodes_data p c.context.function d =
      points_same ∙ ap (λ f. nodes_data p f d) (sym function_is) in
      record {
        context = λ i. record { function = function_is i; receiver = receiver_is i };
        state = nodes_same p c.context.function c d (nodes_at c fits profile) there points;
        entry = λ l k. entry_at l k (is_label p l) (is_key p k) refl refl;
      }

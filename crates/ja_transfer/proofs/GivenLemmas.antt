-- States that are given one after another, and what they come to.
use Rattle.std.proofs.Common.{arith, ◌≡◌, Bool, true, false, List, [], ◌∷◌, ◌++◌, map, refl, sym, subst, ap, ◌∙◌, append-nil, append_assoc}
use Rattle.std.specs.Prelude.{IfOk, Result}
use Rattle.ja_base.specs.declared.ids.Memory.{Memory}
use Rattle.ja_base.specs.declared.ids.NodeId.{NodeId}
use Rattle.ja_graph.specs.declared.node.Node.{Node}
use Rattle.ja_abstract.specs.AbstractState.{AbstractState}
use Rattle.ja_abstract.specs.Resolved.{Demands}
use Rattle.ja_abstract.specs.Reading.{no_demands}
use Rattle.ja_rows.specs.declared.table.Edge.{Edge}
use Rattle.ja_abstract.specs.Writes.{if_there}
use Rattle.ja_rows.specs.Out.{Given, Out, out, goes, all_go}
use Rattle.ja_rows.specs.Transfer.{transfer_node}
use Rattle.ja_aheap.specs.declared.demands.DemandList.{DemandList}
use Rattle.ja_aheap.specs.Objects.{demands_in}
use Rattle.ja_astate.specs.declared.state.AState.{AState}
use Rattle.ja_transfer.specs.declared.given.States.{States}
use Rattle.ja_transfer.specs.declared.outcome.Outcome.{Outcome}
use Rattle.ja_transfer.specs.declared.stepper.Stepper.{Stepper}
use Rattle.ja_transfer.specs.Outcomes.{given_by, given_of, FitsAll, AreAdded, AreGiven, IsOutcome, at_view, point_of}

-- a state that there is reason for
pub added_at : (s : Stepper) (b : Bool) (next : NodeId) (x y : AbstractState)
    (before after : States) → b ≡ true → x ≡ y → AreAdded s ((next.0, x) ∷ []) before after
    → AreAdded s (goes b next y) before after
added_at s b next x y before after there same added =
    let P : Bool → Type 0 = λ v. AreAdded s (goes v next y) before after in
    let Q : AbstractState → Type 0 = λ z. AreAdded s ((next.0, z) ∷ []) before after in
    subst P (sym there) (subst Q same added)

none_fits : (s : Stepper) (list : List (NodeId × AState)) → ◌≡◌ {A = Given} (map given_by list) []
    → FitsAll s list
none_fits s [] none = λ k d h. absurd (omega arith)
none_fits s (g ∷ list) none = absurd (cc)

pub none_given : (s : Stepper) (states : States) → given_of states ≡ [] → AreGiven s [] states
none_given s states none = record { given_is = none; fits = none_fits s states.list.items none }

-- what is added to no state is all that is given
pub given_first : (s : Stepper) (xs : Given) (before after : States) → given_of before ≡ []
    → AreAdded s xs before after → AreGiven s xs after
given_first s xs before after none added =
    record {
      given_is = added.given ∙ ap (λ (g : Given). g ++ xs) none;
      fits = added.fits (none_fits s before.list.items none);
    }

pub given_more : (s : Stepper) (xs ys : Given) (before after : States) → AreGiven s xs before
    → AreAdded s ys before after → AreGiven s (xs ++ ys) after
given_more s xs ys before after given added =
    record {
      given_is = added.given ∙ ap (λ (g : Given). g ++ ys) given.given_is;
      fits = added.fits given.fits;
    }

-- ---- states that are added one after another

pub added_as : (s : Stepper) (xs ys : Given) (before after : States) → xs ≡ ys
    → AreAdded s xs before after → AreAdded s ys before after
added_as s xs ys before after same added =
    subst (λ (g : Given). AreAdded s g before after) same added

pub added_none : (s : Stepper) (states : States) → AreAdded s [] states states
added_none s states =
    record { given = sym (append-nil (given_of states)); fits = λ fits. fits }

pub added_both : (s : Stepper) (xs ys : Given) (before between after : States)
    → AreAdded s xs before between → AreAdded s ys between after
    → AreAdded s (xs ++ ys) before after
added_both s xs ys before between after first second =
    record {
      given =
          second.given ∙ ap (λ (g : Given). g ++ ys) first.given
          ∙ append_assoc (given_of before) xs ys;
      fits = λ fits. second.fits (first.fits fits);
    }

-- a state that there may be, to the next node
pub all_go_if : (next : NodeId) (b : Bool) (a : AbstractState)
    → all_go next (if_there b a) ≡ goes b next a
all_go_if next true a = refl
all_go_if next false a = refl

-- an outcome without call edges
pub outcome_of : (s : Stepper) (xs : Given) (d : DemandList) (e : Demands) (states : States)
    (o : Outcome) → AreGiven s xs states → demands_in d ≡ e
    → ((given : Given) → AreGiven s given states → IsOutcome s (out given (demands_in d)) o)
    → IsOutcome s (out xs e) o
outcome_of s xs d e states o given demanded told =
    subst (λ (f : Demands). IsOutcome s (out xs f) o) demanded (told xs given)

-- .. and one with call edges
abbrev pub with_edges : Given → List Edge → Out
with_edges xs edges = record { states = xs; demands = no_demands; edges = edges }

pub outcome_with : (s : Stepper) (xs : Given) (edges : List Edge) (none : States) (o : Outcome)
    → given_of none ≡ [] → AreAdded s xs none o.states → demands_in o.demands ≡ no_demands
    → o.edges.items ≡ edges → IsOutcome s (with_edges xs edges) o
outcome_with s xs edges none o empty added demanded are =
    let given : AreGiven s xs o.states = given_first s xs none o.states empty added in
    record {
      out_is = λ i. record {
        states = given.given_is i;
        demands = demanded i;
        edges = are i;
      };
      fits = given.fits;
    }

-- ---- the step of a node

-- what is told of a node's kind is told of the node
pub of_kind : (s : Stepper) (n kind : Node) (r : Result Outcome Memory) → n ≡ kind
    → IfOk r (IsOutcome s (transfer_node (at_view s) (point_of s) s.info.now kind))
    → IfOk r (IsOutcome s (transfer_node (at_view s) (point_of s) s.info.now n))
of_kind s n kind r is told =
    subst (λ (m : Node). IfOk r (IsOutcome s (transfer_node (at_view s) (point_of s) s.info.now m)))
    (sym is) told

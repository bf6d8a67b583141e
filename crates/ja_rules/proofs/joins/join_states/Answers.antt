use Rattle.std.specs.Prelude.{IsSome, List, map}
use Rattle.std.specs.List.{AllByRecursion}
use Rattle.std.proofs.Common.{refl, sym, ap, ◌∙◌, subst}
use Rattle.std.proofs.lemmas.Bool.{false≢true}
use Rattle.ja_base.specs.declared.ids.NodeId.{NodeId}
use Rattle.ja_graph.specs.Program.{node_at}
use Rattle.ja_machine.specs.Frames.{registers_of}
use Rattle.ja_astate.specs.declared.state.AState.{AState}
use Rattle.ja_astate.specs.State.{state_of, IsStateOf}
use Rattle.ja_transfer.specs.Outcomes.{given_by}
use Rattle.ja_table.specs.Tables.{table_of}
use Rattle.ja_table.specs.code.Growing.{with_states_at}
use Rattle.ja_rules.proofs.Demands.{rose, stayed}
use Rattle.ja_height.proofs.Grows.{Grows, grows_both, grows_equal, grows_same}
use Rattle.ja_table.proofs.SameMeaning.{grows_state, keys_both, keys_same}
use Rattle.ja_rules.proofs.joins.join_states.Goals as goal

pub loop-node-init : goal.loop-node-init
loop-node-init c =
    let all = c.into_iter-node-iterator.ensures.into_iter_gives.0 in
    record {
      joined =
          ap (λ (xs : List (NodeId × AState)). with_states_at (table_of c.args.table.now)
          c.args.context (map given_by xs)) all;
      nodes =
          subst (AllByRecursion (λ (s : NodeId × AState).
          IsSome (node_at c.args.program.now c.args.context.function s.0))) (sym all)
          c.requires.nodes;
      states =
          subst (AllByRecursion (λ (s : NodeId × AState). IsStateOf c.args.program.now
          (registers_of c.args.program.now c.args.context.function) s.1)) (sym all)
          c.requires.states;
      kept = keys_same c.args.table.now;
      fits = c.requires.fits;
      rises = grows_same (table_of c.args.table.now);
      changed = λ e. absurd (false≢true e);
      same = λ e. refl;
    }

pub returns-in_err-note_state-clause-kept : goal.returns-in_err-note_state-clause-kept
returns-in_err-note_state-clause-kept c =
    keys_both c.args.table.now c.loop-node.table c.join_state.new.table c.loop-node.invariant.kept
    c.join_state.ensures.kept

pub loop-node-preserved : goal.loop-node-preserved
loop-node-preserved c =
    let inv = c.loop-node.invariant in
    let left = c.in-Some.ensures.steps.0 in
    let done = c.in_ok-joined.ensures in
    let up : Grows (table_of c.loop-node.table) (table_of c.join_state.new.table) =
    grows_state (table_of c.loop-node.table) (table_of c.join_state.new.table) c.args.context
    c.in-Some.node.0 (state_of c.in-Some.state) done.joined in
    record {
      joined =
          ap (λ t. with_states_at t c.args.context (map given_by c.next.new.self.rest.items))
          done.joined
          ∙ ap (λ (xs : List (NodeId × AState)). with_states_at (table_of c.loop-node.table)
          c.args.context (map given_by xs)) (sym left) ∙ inv.joined;
      nodes =
          (subst (AllByRecursion (λ (s : NodeId × AState).
          IsSome (node_at c.args.program.now c.args.context.function s.0))) left inv.nodes).1;
      states =
          (subst (AllByRecursion (λ (s : NodeId × AState). IsStateOf c.args.program.now
          (registers_of c.args.program.now c.args.context.function) s.1)) left inv.states).1;
      kept = keys_both c.args.table.now c.loop-node.table c.join_state.new.table inv.kept done.kept;
      fits = done.fits;
      rises = grows_both _ _ _ inv.rises up;
      changed =
          rose Grows grows_equal _ _ _ inv.rises up c.loop-node.changed c.in_ok-joined.joined
          inv.changed done.changed;
      same = stayed _ _ _ c.loop-node.changed c.in_ok-joined.joined inv.same done.same;
    }

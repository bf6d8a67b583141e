-- The step of a state is that of the node at which it stands.
use Rattle.std.proofs.Common.{◌≡◌, ℕ, ◌+◌, [], true, false, Some, None, Option, refl, ap, subst, ◌∙◌}
use Rattle.std.specs.Prelude.{Bool, if◌then◌else◌, IsSome, slice_get}
use Rattle.std.specs.Option.{option_and_then, option_map_or}
use Rattle.std.proofs.lemmas.Bool.{false≢true}
use Rattle.ja_base.specs.declared.ids.FnId.{FnId}
use Rattle.ja_base.specs.declared.ids.NodeId.{NodeId}
use Rattle.ja_graph.specs.declared.node.NodeInfo.{NodeInfo}
use Rattle.ja_graph.specs.declared.program.Function.{Function}
use Rattle.ja_graph.specs.declared.program.Program.{Program}
use Rattle.ja_graph.specs.Program.{node_at}
use Rattle.ja_graph.specs.WellFormed.{IsWellFormed, IsNodeWellFormed}
use Rattle.ja_machine.specs.declared.machine.Answer.{Answer}
use Rattle.ja_machine.specs.declared.machine.End.{End}
use Rattle.ja_machine.specs.Machine.{step, frames_step, fits, wants}
use Rattle.ja_machine.specs.Nodes.{node_step}
use Rattle.ja_step.specs.declared.conf.Conf.{Conf}
use Rattle.ja_step.specs.code.Steps.{conf_of, standing, leads_to, event_of}

-- a choice of which nothing is the other part is the first, if it is some
chosen : {X : Type 0} (b : Bool) (o : Option X) → IsSome (if b then o else None)
    → (if b then o else None) ≡ o
chosen true o h = refl
chosen false o h = absurd (false≢true h)

module _ (p : Program) (c : Conf) (answer : Answer)
    (there : IsSome (step p (conf_of c) answer)) where
  stepped_top : step p (conf_of c) answer ≡ frames_step p (conf_of c) answer (conf_of c).frames
  stepped_top =
      chosen (fits p (wants p (conf_of c)) answer)
      (frames_step p (conf_of c) answer (conf_of c).frames) there

  module _ (info : NodeInfo) (info_is : node_at p c.frame.function c.frame.node ≡ Some info) where
    -- .. of that node
    pub stepped : step p (conf_of c) answer ≡ node_step p (standing c info) answer info.node
    stepped =
        stepped_top
        ∙ ap (λ o. option_and_then (λ (i : NodeInfo). node_step p (standing c i) answer i.node) o)
        info_is

    pub node_steps : IsSome (node_step p (standing c info) answer info.node)
    node_steps = subst IsSome stepped there

-- the event of a step is that of the state that has counted it
pub step_counted : (end : Option End) (before after : Conf)
    → leads_to before end after ≡ event_of end (record after { steps = before.steps + 1 })
step_counted None before after = refl
step_counted (Some end) before after = refl

-- a node of a well-formed program is well formed, in its function
node_among : (p : Program) (w : IsWellFormed p) (f n : ℕ) (info : NodeInfo)
    (found : Option Function) → slice_get p.functions f ≡ found
    → slice_get (option_map_or (λ (fn : Function). fn.nodes) found []) n ≡ Some info
    → (fn : Function) × IsNodeWellFormed p fn info
node_among p w f n info None is e = absurd (cc)
node_among p w f n info (Some fn) is e = (fn, (w.each f fn is).each n info e)

pub node_of_program : (p : Program) → IsWellFormed p → (f : FnId) (n : NodeId) (info : NodeInfo)
    → node_at p f n ≡ Some info → (fn : Function) × IsNodeWellFormed p fn info
node_of_program p w f n info e = node_among p w f.0 n.0 info (slice_get p.functions f.0) refl e

-- A step that is taken is the one of the node at which the top frame stands.
use Rattle.std.specs.Prelude.{◌≡◌, List, ◌∷◌, Option, Some, None}
use Rattle.std.specs.Option.{option_and_then}
use Rattle.std.proofs.Common.{sym, ap, ◌∙◌}
use Rattle.std.proofs.lemmas.Option.{none-some}
use Rattle.ja_graph.specs.declared.node.NodeInfo.{NodeInfo}
use Rattle.ja_graph.specs.declared.program.Program.{Program}
use Rattle.ja_graph.specs.Program.{node_at}
use Rattle.ja_machine.specs.declared.machine.Answer.{Answer}
use Rattle.ja_machine.specs.declared.machine.Conf.{Conf}
use Rattle.ja_machine.specs.declared.machine.Event.{Event}
use Rattle.ja_machine.specs.declared.machine.Frame.{Frame}
use Rattle.ja_machine.specs.Events.{Standing}
use Rattle.ja_machine.specs.Machine.{step, fits, wants, frames_step}
use Rattle.ja_machine.specs.Nodes.{node_step}
use Rattle.ja_machine.proofs.Lists.{either_way}

module _ (p : Program) (c : Conf) (top : Frame) (below : List Frame) (i : NodeInfo)
    (frames_are : c.frames ≡ top ∷ below) (info_is : node_at p top.function top.node ≡ Some i) where
  abbrev s : Standing
  s = record { conf = c; top = top; below = below; info = i }

  pub frames_taken : (answer : Answer)
      → frames_step p c answer c.frames ≡ node_step p s answer i.node
  frames_taken answer =
      ap (frames_step p c answer) frames_are
      ∙ ap (λ o. option_and_then (λ (j : NodeInfo). node_step p
      (record { conf = c; top = top; below = below; info = j }) answer j.node) o) info_is

  pub node_taken : (answer : Answer) (e : Event) → step p c answer ≡ Some e
      → node_step p s answer i.node ≡ Some e
  node_taken answer e =
      either_way (λ (o : Option Event). o ≡ Some e → node_step p s answer i.node ≡ Some e)
      (fits p (wants p c) answer) (frames_step p c answer c.frames) None
      (λ k is. sym (frames_taken answer) ∙ is) (λ k is. absurd (none-some e is))

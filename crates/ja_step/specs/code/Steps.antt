-- The machine's states that the states here stand for, and the event that a step comes to.
use Rattle.std.specs.Prelude.{◌+◌, List, ◌∷◌, map, reverse, Option, Some, None, unwrap_or}
use Rattle.std.specs.Option.{option_map}
use denote.Ref.{Bor}
use Rattle.ja_base.specs.declared.ids.Reg.{Reg}
use Rattle.ja_graph.specs.declared.node.NodeInfo.{NodeInfo}
use Rattle.ja_machine.specs.declared.machine.Frame as machine_frame
use Rattle.ja_machine.specs.declared.machine.Conf as machine_conf
use Rattle.ja_machine.specs.declared.machine.End.{End}
use Rattle.ja_machine.specs.declared.machine.Event.{Event}
use Rattle.ja_machine.specs.declared.machine.Event.TheVariants as event
use Rattle.ja_machine.specs.declared.machine.Value.{Value}
use Rattle.ja_machine.specs.Frames.{undefined, register_of}
use Rattle.ja_machine.specs.Events.{Standing}
use Rattle.ja_machine.specs.declared.machine.Remaining.{Remaining}
use Rattle.ja_step.specs.declared.frame.Listed.{Listed}
use Rattle.ja_step.specs.declared.frame.Frame.{Frame}
use Rattle.ja_step.specs.declared.conf.Conf.{Conf}

-- what is found of a register
abbrev pub or_undefined : Option (Bor Value) → Value
or_undefined found = unwrap_or (option_map (λ v. v.now) found) undefined

-- the names that remain of a list
abbrev pub remaining_of : Listed → Remaining
remaining_of l = record { list = l.list; names = l.names.items }

-- the frame of the machine
abbrev pub frame_of : Frame → machine_frame.Frame
frame_of f = record {
  function = f.function;
  node = f.node;
  born = f.born;
  receiver = f.receiver;
  callee = f.callee;
  scope = f.scope;
  arguments = f.arguments.items;
  registers = f.registers.items;
  lists = map remaining_of f.lists.items;
}

-- the frames below the top one, the highest first: they are kept the other way round
abbrev pub below_of : Conf → List machine_frame.Frame
below_of c = map frame_of (reverse c.below.items)

-- the state of the machine
abbrev pub conf_of : Conf → machine_conf.Conf
conf_of c = record { heap = c.heap; frames = frame_of c.frame ∷ below_of c; steps = c.steps }

-- what a register of the state holds
abbrev pub held : Conf → Reg → Value
held c r = register_of (frame_of c.frame) r

-- where the state stands: at this node
abbrev pub standing : Conf → NodeInfo → Standing
standing c info =
    record { conf = conf_of c; top = frame_of c.frame; below = below_of c; info = info }

-- The event of a step from one state to another: the run goes on, or it ends. The step is counted.
abbrev pub step_counted : Conf → Conf → machine_conf.Conf
step_counted before after = record (conf_of after) { steps = before.steps + 1 }

abbrev pub leads_to : Conf → Option End → Conf → Event
leads_to before None after = event.Next (step_counted before after)
leads_to before (Some end) after = event.End end (step_counted before after)

-- the same, of a state that has counted the step
abbrev pub event_of : Option End → Conf → Event
event_of None after = event.Next (conf_of after)
event_of (Some end) after = event.End end (conf_of after)

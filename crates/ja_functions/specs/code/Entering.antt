-- Where a function is entered: its registers, and the state in which its activation was made.
use Rattle.std.specs.Prelude.{◌<◌, ◌+◌, Option, length, vec_len}
use Rattle.std.specs.Option.{option_map_or}
use Rattle.ja_base.specs.declared.ids.FnId.{FnId}
use Rattle.ja_base.specs.declared.ids.Site.{Site}
use Rattle.ja_abstract.specs.AbstractState.{AbstractState}
use Rattle.ja_abstract.specs.Made.{activation_own, arguments_own, parameter_ids, with_object, with_objects}
use Rattle.ja_abstract.specs.Reading.{View}
use Rattle.ja_transfer.specs.declared.stepper.Stepper.{Stepper}

-- a register for each parameter of the function, and one for the rest of the arguments behind them
pub record HasParameters (s : Stepper) : Type 0 where
  pub registers : 5 + length (parameter_ids s.reader.program.now s.context.function)
      < vec_len s.reader.state.now.registers
  pub few : 5 + length (parameter_ids s.reader.program.now s.context.function) < 4294967296

abbrev pub activation_state : View → FnId → Site → Option Site → AbstractState
activation_state w f site arguments =
    let own = activation_own w.program f arguments in
    let alone = with_object w.program w.state site own in
    let with_list =
    λ (list : Site). with_objects w.program w.state site own list (arguments_own w.program f) in
    option_map_or with_list arguments alone

-- What is left where memory is refused.
use Rattle.std.specs.Prelude.{◌≡◌, ℕ, List}
use Rattle.ja_device.specs.Devices.{AllSeen}
use Rattle.ja_top.specs.Runs.{MayBeLeftByText}
use Rattle.ja_words.specs.declared.command.Command.{Command}
use Rattle.ja_words.specs.declared.command.Command.TheVariants as command

-- the devices where memory was refused to a command that answers bytes
abbrev pub StopsShort : Command → List ℕ → AllSeen → AllSeen → Type 0
StopsShort (command.Analyse cert budget) bytes before after = after ≡ before
StopsShort command.Check bytes before after = after ≡ before
StopsShort (command.Generate number) bytes before after = after ≡ before
StopsShort (command.Run steps) bytes before after = MayBeLeftByText bytes steps before after

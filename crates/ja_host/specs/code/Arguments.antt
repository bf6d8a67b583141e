-- Why the words of a call can't be had.
use Rattle.std.specs.declared.io.ErrorKind.{ErrorKind}
use Rattle.std.specs.declared.io.ErrorKind.TheVariants.{InvalidData}
use Rattle.ja_host.specs.declared.arguments.WordsFault.{WordsFault}
use Rattle.ja_host.specs.declared.arguments.WordsFault.TheVariants.{NotText, Memory}

-- a word is no text, or else memory was refused
abbrev pub fault_of : ErrorKind → WordsFault
fault_of InvalidData = NotText
fault_of kind = Memory

-- How it is told why values declare no devices.
use Rattle.std.specs.Prelude.{ℕ, List, ◌++◌}
use Rattle.std.specs.Fmt.{decimal}
use lib.Chars.{codes}
use Rattle.ja_graph.specs.declared.program.TheConstants.{MAX_DEVICES}
use Rattle.ja_texts.specs.Texts.{plain}
use Rattle.ja_lint_devices.specs.declared.refused.KindsFault.{KindsFault}
use Rattle.ja_lint_devices.specs.declared.refused.KindsFault.TheVariants.{NoKind, Unknown, Repeated}
use Rattle.ja_lint_devices.specs.declared.refused.Refused.{Refused}
use Rattle.ja_lint_devices.specs.declared.refused.Refused.TheVariants.{Kinds as BadKinds, TooMany, BadName, Twice, Memory}

-- what was written, in quotes: no control, and nothing that isn't ASCII, stands there as it is
unfoldable pub shown : List ℕ → List ℕ
shown text = codes "'" ++ plain text ++ codes "'"

-- what is wrong with a word, up to the name of its device
unfoldable pub word_text : KindsFault → List ℕ
word_text NoKind = codes "no kind of value is given of the device "
word_text (Unknown word) = shown word ++ codes " is no kind of value of the device "
word_text (Repeated word) =
    shown word ++ codes " is given twice as a kind of value of the device "

-- the message
unfoldable pub refused_text : Refused → List ℕ
refused_text (BadKinds index name fault) = word_text fault ++ shown name
refused_text TooMany = codes "more than " ++ decimal MAX_DEVICES ++ codes " devices"
refused_text (BadName index name) =
    shown name ++ codes " is no name of a device: one is an ASCII identifier of 1 to 64 characters"
refused_text (Twice first second name) =
    codes "the device " ++ shown name ++ codes " is given twice"
refused_text Memory = codes "memory was refused"

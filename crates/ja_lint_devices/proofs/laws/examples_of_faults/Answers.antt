-- Computed.
use Rattle.ja_lint_devices.proofs.Examples.{digit, kinds_first, no_kind, no_kind_behind, no_name, repeated, second, twice, unknown}
use Rattle.ja_lint_devices.proofs.laws.examples_of_faults.Goals as goal

pub returns-clause-no_kind : goal.returns-clause-no_kind
returns-clause-no_kind c = no_kind

pub returns-clause-no_kind_behind : goal.returns-clause-no_kind_behind
returns-clause-no_kind_behind c = no_kind_behind

pub returns-clause-unknown : goal.returns-clause-unknown
returns-clause-unknown c = unknown

pub returns-clause-repeated : goal.returns-clause-repeated
returns-clause-repeated c = repeated

pub returns-clause-no_name : goal.returns-clause-no_name
returns-clause-no_name c = no_name

pub returns-clause-digit : goal.returns-clause-digit
returns-clause-digit c = digit

pub returns-clause-twice : goal.returns-clause-twice
returns-clause-twice c = twice

pub returns-clause-second : goal.returns-clause-second
returns-clause-second c = second

pub returns-clause-kinds_first : goal.returns-clause-kinds_first
returns-clause-kinds_first c = kinds_first

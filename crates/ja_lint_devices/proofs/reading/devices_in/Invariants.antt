-- the words of the values so far are those of kinds, and their devices are made
use Rattle.std.proofs.Common.{◌≡◌, true, map, take}
use Rattle.ja_lint_devices.specs.Devices.{all_kinds, declared_only}
use Rattle.ja_lint_devices.specs.code.Reading.{seen_of}
use Rattle.ja_lint_devices.proofs.Words.{texts_of}
use Rattle.ja_lint_devices.proofs.reading.devices_in.Given as goal

abbrev pub invariant-loop-index : goal.invariant-loop-index
invariant-loop-index l = record {
  kinds : all_kinds (take l.index (texts_of l.values)) ≡ true;
  seen : map seen_of l.list.items ≡ map declared_only (take l.index (texts_of l.values));
}

use Rattle.std.proofs.Common.{◌≡◌, ◌++◌, take}
use Rattle.std.specs.List.{flat_map}
use Rattle.ja_report.specs.Report.{device_line}
use Rattle.ja_report.proofs.sections.push_devices.Given as goal

abbrev pub invariant-loop-device : goal.invariant-loop-device
invariant-loop-device l =
    l.text.items ≡ l.initial.text.items ++ flat_map device_line (take l.device-index l.devices)

use Rattle.std.proofs.Common.{◌≡◌, ◌++◌, take}
use Rattle.ja_lower.specs.Lowering.{device_names}
use Rattle.ja_load.proofs.loading.add_names.Given as goal

abbrev pub invariant-loop-signature : goal.invariant-loop-signature
invariant-loop-signature l =
    l.names.items ≡ l.fn.names.items ++ device_names (take l.signature-index l.signatures)

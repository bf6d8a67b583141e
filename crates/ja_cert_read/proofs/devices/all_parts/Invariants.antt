-- each character so far is a part of identifiers
use Rattle.std.proofs.Common.{◌≡◌, true, take}
use Rattle.std.specs.List.{list_all}
use Rattle.ja_prim.specs.Characters.{is_part as is_part_spec}
use Rattle.ja_cert_read.proofs.devices.all_parts.Given as goal

abbrev pub invariant-loop-c : goal.invariant-loop-c
invariant-loop-c l = list_all is_part_spec (take l.c-index l.name) ≡ true

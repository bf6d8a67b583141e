use Rattle.std.proofs.Common.{◌≡◌, ◌++◌, [], ◌∷◌, take}
use Rattle.std.specs.List.{flat_map}
use Rattle.ja_table.specs.declared.table.ContextTable.{ContextTable}
use Rattle.ja_cert.specs.code.Writing.{own_data, with_commas}
use Rattle.ja_cert.proofs.write_contexts.push_each.Given as goal

abbrev pub invariant-loop-own : goal.invariant-loop-own
invariant-loop-own l =
    l.text.items ≡ l.initial.text.items ++ flat_map (λ (own : ContextTable). with_commas
    (own_data l.program own ∷ [])) (take l.own-index l.own-items)

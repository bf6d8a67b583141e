use Rattle.std.proofs.Common.{◌≡◌, ◌++◌, [], ◌∷◌, take}
use Rattle.std.specs.List.{flat_map}
use Rattle.ja_rows.specs.declared.table.Item.{Item}
use Rattle.ja_cert.specs.Certificate.{item_data}
use Rattle.ja_cert.specs.code.Writing.{with_commas}
use Rattle.ja_cert.proofs.whole.push_each_visit.Given as goal

abbrev pub invariant-loop-visit : goal.invariant-loop-visit
invariant-loop-visit l =
    l.text.items ≡ l.initial.text.items ++ flat_map (λ (i : Item). with_commas
    (item_data i ∷ [])) (take l.visit-index l.visits)

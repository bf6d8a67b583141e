-- What the machine says of what goes wrong at a node, by its tests.
use Rattle.std.specs.Prelude.{◌≡◌, Bool, true, false, not, IsTrue, Option, Some, None, is_some}
use Rattle.std.proofs.Common.{refl}
use Rattle.std.proofs.lemmas.Bool.{false≢true}
use Rattle.std.proofs.lemmas.Option.{none-some, same_Some}
use Rattle.ja_rows.specs.declared.table.WarningKind.{WarningKind}
use Rattle.ja_sound.specs.Faults.{if_so}

-- a kind is said where its test passes
pub so_parts : (b : Bool) (kind said : WarningKind) → if_so b kind ≡ Some said
    → IsTrue b × (kind ≡ said)
so_parts true kind said e = (refl, same_Some kind said e)
so_parts false kind said e = absurd (none-some said e)

pub no_value : {A : Type 0} (o : Option A) → IsTrue (not (is_some o)) → o ≡ None
no_value None e = refl
no_value (Some a) e = absurd (false≢true e)

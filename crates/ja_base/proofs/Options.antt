-- What is known of an option by a test of it.
use Rattle.std.proofs.Common.{◌≡◌, true, Option, Some, None, is_none, refl}
use Rattle.std.proofs.lemmas.Bool.{false≢true}
use Rattle.std.specs.Option.{IsSome}

pub none_by_test : {X : Type 0} (o : Option X) → is_none o ≡ true → o ≡ None
none_by_test None h = refl
none_by_test (Some x) h = cc h

pub none_not_some : {X : Type 0} {x : X} → None ≡ Some x → ⊥
none_not_some e = cc e

pub some_value : {X : Type 0} (o : Option X) → IsSome o → (x : X) × (o ≡ Some x)
some_value None h = absurd (false≢true h)
some_value (Some x) h = (x, refl)

-- What an object has at the keys of the program, and that each text and slot has such a key.
use Rattle.std.specs.Prelude.{◌≡◌, ◌<◌, ℕ, Bool, true, false, cond, IsTrue, [], length, Option, Some, None}
use Rattle.std.specs.Option.{option_map_or}
use Rattle.std.proofs.Common.{refl}
use Rattle.std.proofs.lemmas.Bool.{lt-ltb, cond-true}
use Rattle.std.proofs.lemmas.List.Quantifiers.{position-Some}
use Rattle.ja_prim.specs.Index.{is_index_text}
use Rattle.ja_prim.specs.Texts.{same_text}
use Rattle.ja_graph.specs.declared.program.Program.{Program}
use Rattle.ja_abstract.specs.declared.abstraction.Key.TheVariants as key
use Rattle.ja_abstract.specs.AbstractValue.{entry_property}
use Rattle.ja_abstract.specs.AbstractState.{is_key, name_key}
use Rattle.ja_abstract.specs.Keys.{Spot, named, internal, key_of, name_of}
use Rattle.ja_abstract.specs.Made.{Own, at_keys_of}

-- the key of a name that stands among the program's, or of a rest
is_key_by : (p : Program) (o : Option ℕ) (index : Bool)
    → ((n : ℕ) → o ≡ Some n → n < length p.names)
    → IsTrue (is_key p (option_map_or name_key o (cond index key.OtherIndex key.OtherName)))
is_key_by p (Some n) index fits = lt-ltb n (length p.names) (fits n refl)
is_key_by p None true fits = refl
is_key_by p None false fits = refl

pub is_key_of : (p : Program) (x : Spot) → IsTrue (is_key p (key_of p x))
is_key_of p (named t) =
    is_key_by p (name_of p t) (is_index_text t)
    (λ n e. (position-Some (λ name. same_text name t) p.names n [] e).0)
is_key_of p (internal s) = refl

-- there the object's own properties count
pub at_key : (p : Program) (own : Own) (x : Spot) → at_keys_of p own (key_of p x) ≡ own (key_of p x)
at_key p own x = cond-true (is_key p (key_of p x)) (own (key_of p x)) entry_property (is_key_of p x)

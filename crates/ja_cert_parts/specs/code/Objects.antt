-- The values of lists and of objects.
use Rattle.std.specs.Prelude.{ℕ, ◌==◌, Bool, false, List, [], ◌∷◌, length}
use Rattle.std.specs.Option.{option_map_or}
use Rattle.serde_json.specs.Data.{Data}
use Rattle.ja_cert_json.specs.View.{view}
use Rattle.ja_cert.specs.Wrong.{list_of}
use Rattle.ja_cert_parts.specs.declared.objects.Two.{Two}
use Rattle.ja_cert_parts.specs.declared.objects.Four.{Four}
use Rattle.ja_cert_parts.specs.declared.objects.Six.{Six}

abbrev pub is_list_of : ℕ → Data → Bool
is_list_of n d = option_map_or (λ (ds : List Data). length ds == n) (list_of d) false

abbrev pub two_in : Two → List Data
two_in o = view o.first.now ∷ view o.second.now ∷ []

abbrev pub four_in : Four → List Data
four_in o = view o.first.now ∷ view o.second.now ∷ view o.third.now ∷ view o.fourth.now ∷ []

abbrev pub six_in : Six → List Data
six_in o =
    view o.first.now ∷ view o.second.now ∷ view o.third.now ∷ view o.fourth.now
    ∷ view o.fifth.now ∷ view o.sixth.now ∷ []

-- Lists of kinds of errors that are empty.
use Rattle.std.proofs.Common.{◌≡◌, [], ◌∷◌, refl}
use Rattle.clap.specs.Kinds.{Kinds, or_else}

-- where nothing fails, neither does the first nor the second
pub or_else_split : (a b : Kinds) → or_else a b ≡ [] → (a ≡ []) × (b ≡ [])
or_else_split [] b e = (refl, e)
or_else_split (k ∷ ks) b e = absurd (cc e)

pub or_else_join : (a b : Kinds) → a ≡ [] → b ≡ [] → or_else a b ≡ []
or_else_join [] b first second = second
or_else_join (k ∷ ks) b first second = absurd (cc first)

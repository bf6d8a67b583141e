-- The built-in objects and names of a program are there.
use Rattle.std.proofs.Common.{◌≡◌, ℕ, zero, suc, ◌<◌, List, [], ◌∷◌, length, Some, refl, ap, ◌∙◌, arith}
use Rattle.std.specs.Prelude.{slice_get, take}
use Rattle.std.specs.Option.{is_some, option_map_or}
use Rattle.std.proofs.lemmas.Bool.{false≢true}
use lib.Chars.{codes}
use Rattle.ja_base.specs.declared.ids.Site.{Site}
use Rattle.ja_graph.specs.declared.program.Class.TheVariants as class
use Rattle.ja_graph.specs.declared.program.Program.{Program}
use Rattle.ja_graph.specs.declared.program.SiteInfo.{SiteInfo}
use Rattle.ja_graph.specs.Program.{global, reference_error_prototype, type_error_prototype, message}
use Rattle.ja_graph.specs.WellFormed.{IsWellFormed, StandsBefore, builtin_names}
use Rattle.ja_machine.specs.Machine.{class_of_site}

-- ---- the built-in objects and names

-- an entry of a part of a list from its beginning is one of the list
from_take : {X : Type 0} (n : ℕ) (xs : List X) (i : ℕ) (x : X) → slice_get (take n xs) i ≡ Some x
    → slice_get xs i ≡ Some x
from_take zero xs i x e = absurd (false≢true (ap is_some e))
from_take (suc n) [] i x e = absurd (false≢true (ap is_some e))
from_take (suc n) (y ∷ ys) zero x e = e
from_take (suc n) (y ∷ ys) (suc i) x e = from_take n ys i x e

module _ (p : Program) (good : IsWellFormed p) where
  -- the global object is one of the opening heap
  pub global_fits : global.0 < length p.opening
  global_fits = let (info, info_is, class_is, fits) = good.builtins global.0 class.Object refl in
      fits

  -- .. of class Object
  pub global_class : class_of_site p global.0 ≡ class.Object
  global_class =
      let (info, info_is, class_is, fits) = good.builtins global.0 class.Object refl in
      ap (λ o. option_map_or (λ (i : SiteInfo). i.class) o class.Object) info_is ∙ class_is

  -- .. and so are the prototypes of the errors that the machine makes
  pub reference_error_fits : reference_error_prototype.0 < length p.opening
  reference_error_fits =
      let (info, info_is, class_is, fits) = good.builtins reference_error_prototype.0 class.Error
      refl in fits

  -- .. of the other kind
  pub type_error_fits : type_error_prototype.0 < length p.opening
  type_error_fits =
      let (info, info_is, class_is, fits) = good.builtins type_error_prototype.0 class.Error refl in
      fits

  -- the text of the name `message`
  pub message_is : slice_get p.names message.0 ≡ Some (codes "message")
  message_is =
      from_take (length builtin_names) p.names message.0 (codes "message")
      (ap (λ (xs : List (List ℕ)). slice_get xs message.0) good.names ∙ refl)

-- a site that a link leads to has its object in the opening heap
pub site_before : (p : Program) → IsWellFormed p → (i : ℕ) (s : Site) → StandsBefore p i s
    → s.0 < length p.opening
site_before p good i s (j, q, before, at, site_is) =
    let fits : q.site.0 < length p.opening = (good.objects j q at).site in omega arith

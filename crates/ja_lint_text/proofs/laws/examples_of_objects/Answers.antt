-- Computed.
use Rattle.std.proofs.Common.{[], ◌∷◌, ◌++◌, ap, ◌∙◌}
use Rattle.std.specs.Prelude.{if◌then◌else◌, is_some}
use Rattle.std.specs.Fmt.{digits}
use lib.Chars.{codes}
use Rattle.ja_files.specs.Files.{spot_of}
use Rattle.ja_texts.specs.Texts.{place_text}
use Rattle.ja_lint_text.specs.Values.{class_words, file_text, maker_words, spot_text}
use Rattle.ja_lint_text.proofs.laws.examples_of_objects.Goals as goal

-- with it unfolded, `refl` computes the words of objects
unfoldable objects : Unit {0}
unfolding spot_text place_text digits
objects = tt

pub returns-clause-arrays : goal.returns-clause-arrays
unfolding objects
returns-clause-arrays c = λ p file info name none no_calls class place.
    ap (maker_words p (file ∷ []) (1 ∷ []) info) none ∙ ((λ i. (if is_some (no_calls i) then codes "the function at "
    else class_words (class i)) ++ spot_text (file ∷ []) (spot_of (1 ∷ []) (place i)))
    ∙ ap (λ n. codes "the array made at " ++ (file_text n ++ codes "16:12")) name)

pub returns-clause-functions : goal.returns-clause-functions
unfolding objects
returns-clause-functions c = λ p file info f name none calls place.
    ap (maker_words p (file ∷ []) (1 ∷ []) info) none ∙ ((λ i. (if is_some (calls i) then codes "the function at "
    else class_words info.class) ++ spot_text (file ∷ []) (spot_of (1 ∷ []) (place i)))
    ∙ ap (λ n. codes "the function at " ++ (file_text n ++ codes "5:22")) name)

pub returns-clause-unnamed : goal.returns-clause-unnamed
unfolding objects
returns-clause-unnamed c = λ p file info name none no_calls class place.
    ap (maker_words p (file ∷ []) (1 ∷ []) info) none ∙ ((λ i. (if is_some (no_calls i) then codes "the function at "
    else class_words (class i)) ++ spot_text (file ∷ []) (spot_of (1 ∷ []) (place i)))
    ∙ ap (λ n. codes "the object made at " ++ (file_text n ++ codes "16:12")) name)

pub returns-clause-built_in : goal.returns-clause-built_in
unfolding objects
returns-clause-built_in c = λ p fs ls info f owner.
    ap (maker_words p fs ls info) owner

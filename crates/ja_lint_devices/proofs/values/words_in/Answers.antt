-- The parts of what stands behind the first `=`, or `undefined` alone.
use Rattle.std.proofs.Common.{◌≡◌, ap, sym, ◌∙◌, lit<, Some, None, List, [], ◌∷◌, ℕ, Bool, Bor, IfOk, subst, map}
use Rattle.std.specs.Prelude.{if◌then◌else◌}
use Rattle.std.specs.List.{slice_split, after_first}
use lib.Chars.{codes}
use Rattle.std.proofs.lemmas.Str.Pattern.{split_once_first}
use Rattle.ja_lint_devices.specs.Devices.{is_bar, is_equals, words_in}
use Rattle.ja_lint_devices.proofs.Found.{any_found, none_found}
use Rattle.ja_lint_devices.proofs.values.words_in.Goals as goal

-- the words by whether there is a `=`
abbrev chosen : List ℕ → Bool → List (List ℕ)
chosen value b =
    if b then slice_split is_bar (after_first is_equals value) else codes "undefined" ∷ []

pub returns-in-Some : goal.returns-in-Some
returns-in-Some c =
    let value : List ℕ = c.args.value.now in
    let parts = split_once_first 61 value (Some (c.in-Some.field-0-0, c.in-Some.words))
    c.in-Some.ensures.cases (lit< tt) in
    let same : slice_split is_bar c.in-Some.words.now ≡ words_in value
    = ap (slice_split is_bar) parts.2
    ∙ sym (ap (chosen value) (any_found is_equals value parts.0)) in
    subst (λ texts. IfOk c.parts.result (λ words. map (λ w. w.now) words.items ≡ texts)) same
    c.parts.ensures

pub returns-in_ok-vec-in-None : goal.returns-in_ok-vec-in-None
returns-in_ok-vec-in-None c =
    let value : List ℕ = c.args.value.now in
    let lacks = split_once_first 61 value None c.in-None.ensures.cases (lit< tt) in
    let same : codes "undefined" ∷ [] ≡ words_in value = sym (ap (chosen value)
    (none_found is_equals value lacks)) in
    ap (map (λ (w : Bor (List ℕ)). w.now)) c.in_ok-vec-in-None.ensures.items ∙ same

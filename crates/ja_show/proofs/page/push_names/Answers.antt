use Rattle.std.proofs.Common.{◌≡◌, ◌++◌, ◌∙◌, ℕ, List, ◌∷◌, ap, append_assoc, refl, sym}
use Rattle.std.specs.declared.alloc.Global.{Global}
use Rattle.std.specs.declared.vec.Vec.{Vec}
use Rattle.std.proofs.lemmas.List.Folds.{flat_map-map}
use Rattle.ja_show.specs.Page.{names_text, next_name}
use Rattle.ja_show.specs.code.Kept.{lists_in}
use Rattle.ja_show.proofs.Parts.{added_nothing}
use Rattle.ja_show.proofs.page.push_names.Goals as goal

abbrev text_of : List (Vec ℕ Global) → List ℕ
text_of names = names_text (lists_in names)

pub returns-in_default : goal.returns-in_default
unfolding names_text
returns-in_default c =
    added_nothing text_of c.args.names.now c.args.out.now.items c.in_default.ensures.cases refl

pub returns : goal.returns
unfolding names_text
returns c =
    let base : List ℕ = c.args.out.now.items in
    let first : Vec ℕ Global = c.in-Some.first.now in
    let rest : List (Vec ℕ Global) = c.in-Some.rest.now in
    let text : c.push_next_names.new.out.items ≡ base ++ text_of (first ∷ rest) =
    simp (
      c.in_ok-push_next_names.ensures,
      sym (flat_map-map next_name (λ (v : Vec ℕ Global). v.items) rest),
      c.in_ok-push_escaped.ensures,
      c.deref.ensures.value,
      append_assoc,
    ) in
    text ∙ ap (λ (xs : List (Vec ℕ Global)). base ++ text_of xs) (sym c.in-Some.ensures.cases.0)

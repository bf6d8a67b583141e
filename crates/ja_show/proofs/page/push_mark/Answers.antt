use Rattle.std.proofs.Common.{◌≡◌, ◌++◌, ◌∙◌, ℕ, List, ◌∷◌, ap, append_assoc, refl, sym}
use Rattle.ja_show.specs.declared.message.Message.{Message}
use Rattle.ja_show.specs.Page.{mark_start}
use Rattle.ja_show.proofs.Parts.{added_nothing}
use Rattle.ja_show.proofs.page.push_mark.Goals as goal

pub returns-in_default : goal.returns-in_default
unfolding mark_start
returns-in_default c =
    added_nothing mark_start c.args.messages.now c.args.out.now.items c.in_default.ensures.cases
    refl

pub returns : goal.returns
unfolding mark_start
returns c =
    let base : List ℕ = c.args.out.now.items in
    let text : c.extend_from_slice-4.new.self.items
    ≡ base ++ mark_start (c.in-Some.first.now ∷ c.in-Some.rest.now) =
    simp (
      c.in_ok-extend_from_slice-4.ensures.items,
      c.in_ok-push_next_hints.ensures,
      c.in_ok-push_escaped.ensures,
      c.as_slice.ensures,
      c.in_ok-extend_from_slice-3.ensures.items,
      c.in_ok-extend_from_slice-2.ensures.items,
      c.level_class.ensures,
      c.in_ok-extend_from_slice.ensures.items,
      append_assoc,
    ) in
    text ∙ ap (λ (xs : List Message). base ++ mark_start xs) (sym c.in-Some.ensures.cases.0)

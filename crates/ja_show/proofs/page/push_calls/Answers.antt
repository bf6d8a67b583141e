use Rattle.std.proofs.Common.{◌≡◌, ◌++◌, ◌∙◌, ℕ, List, ◌∷◌, ap, append_assoc, refl, sym}
use Rattle.ja_files.specs.declared.file.Spot.{Spot}
use Rattle.ja_show.specs.Page.{calls_links}
use Rattle.ja_show.specs.code.Kept.{lists_in}
use Rattle.ja_show.proofs.Parts.{added_nothing}
use Rattle.ja_show.proofs.page.push_calls.Goals as goal

pub returns-in_default : goal.returns-in_default
unfolding calls_links
returns-in_default c =
    added_nothing (calls_links (lists_in c.args.names.now)) c.args.calls.now c.args.out.now.items
    c.in_default.ensures.cases refl

pub returns : goal.returns
unfolding calls_links
returns c =
    let base : List ℕ = c.args.out.now.items in
    let text : c.push_next_calls.new.out.items
    ≡ base ++ calls_links (lists_in c.args.names.now) (c.in-Some.first.now ∷ c.in-Some.rest.now) =
    simp (
      c.in_ok-push_next_calls.ensures,
      c.in_ok-push_link.ensures,
      c.in_ok-extend_from_slice.ensures.items,
      append_assoc,
    ) in
    text
    ∙ ap (λ (xs : List Spot). base ++ calls_links (lists_in c.args.names.now) xs)
    (sym c.in-Some.ensures.cases.0)

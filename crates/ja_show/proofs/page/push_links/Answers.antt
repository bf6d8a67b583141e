use Rattle.std.proofs.Common.{◌≡◌, ◌++◌, ◌∙◌, ℕ, List, ◌∷◌, ap, append_assoc, refl, sym}
use Rattle.ja_show.specs.declared.message.Link.{Link}
use Rattle.ja_show.specs.Page.{links_text}
use Rattle.ja_show.specs.code.Kept.{lists_in}
use Rattle.ja_show.proofs.Parts.{added_nothing}
use Rattle.ja_show.proofs.page.push_links.Goals as goal

pub returns-in_default : goal.returns-in_default
unfolding links_text
returns-in_default c =
    added_nothing (links_text (lists_in c.args.names.now)) c.args.links.now c.args.out.now.items
    c.in_default.ensures.cases refl

pub returns : goal.returns
unfolding links_text
returns c =
    let base : List ℕ = c.args.out.now.items in
    let text : c.extend_from_slice-2.new.self.items
    ≡ base ++ links_text (lists_in c.args.names.now) (c.in-Some.first.now ∷ c.in-Some.rest.now) =
    simp (
      c.in_ok-extend_from_slice-2.ensures.items,
      c.in_ok-push_next_links.ensures,
      c.in_ok-push_call_link.ensures,
      c.in_ok-extend_from_slice.ensures.items,
      append_assoc,
    ) in
    text
    ∙ ap (λ (xs : List Link). base ++ links_text (lists_in c.args.names.now) xs)
    (sym c.in-Some.ensures.cases.0)

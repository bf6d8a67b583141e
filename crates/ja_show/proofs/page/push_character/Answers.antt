use Rattle.std.proofs.Common.{◌≡◌, ◌+◌, ◌∙◌, ◌∷◌, ℕ, List, ap, drop, subst, sym}
use Rattle.std.proofs.lemmas.List.{drop_more}
use Rattle.ja_show.specs.Page.{AreLinksOrdered, AreMessagesOrdered}
use Rattle.ja_show.specs.declared.message.Link.{Link}
use Rattle.ja_show.specs.declared.message.Message.{Message}
use Rattle.ja_show.specs.code.Kept.{lists_in}
use Rattle.ja_show.proofs.Source.{links_ordered, messages_ordered, past_inside, past_line}
use Rattle.ja_show.proofs.page.push_character.Goals as goal

pub returns-then-ends_line-clause-text : goal.returns-then-ends_line-clause-text
returns-then-ends_line-clause-text c =
    let walk = c.args.walk.now in
    let text = c.args.text.now in
    let letter = c.index-text-index.result in
    let split : drop c.args.index text ≡ letter ∷ drop (c.args.index + 1) text =
    drop_more text c.args.index letter c.requires.inside
    ∙ ap (λ (x : ℕ). x ∷ drop (c.args.index + 1) text) (sym c.index-text-index.is) in
    let one =
    simp (
      c.is_empty-begins.ensures,
      c.is_part.ensures,
      c.messages_at-here.ensures,
      c.links_at.ensures,
      c.messages_from-messages.ensures,
      c.links_from-links.ensures,
    ) at c.in_ok-push_front.ensures in
    let two =
    simp (
      c.is_empty-begins.ensures,
      c.is_part.ensures,
      c.messages_at-here.ensures,
      c.messages_from-messages.ensures,
    ) at c.in_ok-push_line_end.ensures in
    rw (c.messages_from-messages.ensures, c.links_from-links.ensures)
    (past_line (lists_in c.args.names.now) walk.messages.now walk.links.now walk.spot walk.marked
    c.requires.messages
    c.requires.links letter (drop (c.args.index + 1) text) (drop c.args.index text)
    c.args.out.now.items c.push_front.new.out.items c.push_line_end.new.out.items
    c.push_line_start.new.out.items split (sym c.ends_line.ensures ∙ c.if-ends_line.true) one two
    c.in_ok-push_line_start.ensures)

pub returns-then-ends_line-clause-messages : goal.returns-then-ends_line-clause-messages
returns-then-ends_line-clause-messages c =
    subst (λ (ms : List Message). AreMessagesOrdered ms) (sym c.messages_from-messages.ensures)
    (messages_ordered c.args.walk.now.spot c.args.walk.now.messages.now c.requires.messages)

pub returns-then-ends_line-clause-links : goal.returns-then-ends_line-clause-links
returns-then-ends_line-clause-links c =
    subst (λ (links : List Link). AreLinksOrdered links) (sym c.links_from-links.ensures)
    (links_ordered c.args.walk.now.spot c.args.walk.now.links.now c.requires.links)

pub returns-clause-text : goal.returns-clause-text
returns-clause-text c =
    let walk = c.args.walk.now in
    let text = c.args.text.now in
    let letter = c.index-text-index.result in
    let split : drop c.args.index text ≡ letter ∷ drop (c.args.index + 1) text =
    drop_more text c.args.index letter c.requires.inside
    ∙ ap (λ (x : ℕ). x ∷ drop (c.args.index + 1) text) (sym c.index-text-index.is) in
    let one =
    simp (
      c.is_empty-begins.ensures,
      c.is_part.ensures,
      c.messages_at-here.ensures,
      c.links_at.ensures,
      c.messages_from-messages.ensures,
      c.links_from-links.ensures,
    ) at c.in_ok-push_front.ensures in
    let two =
    simp (
      c.is_empty-begins.ensures,
      c.is_part.ensures,
      c.goes_on-goes_on.ensures,
      c.messages_at-here.ensures,
      c.messages_from-messages.ensures,
    ) at c.in_ok-push_inside.ensures in
    rw (c.messages_from-messages.ensures, c.links_from-links.ensures)
    (past_inside (lists_in c.args.names.now) walk.messages.now walk.links.now walk.spot walk.marked
    c.requires.messages
    c.requires.links letter (drop (c.args.index + 1) text) (drop c.args.index text)
    c.args.out.now.items c.push_front.new.out.items c.push_inside.new.out.items _ split
    (sym c.ends_line.ensures ∙ c.if-ends_line.false) one two
    (simp (
      c.is_empty-begins.ensures,
      c.is_part.ensures,
      c.goes_on-goes_on.ensures,
      c.messages_at-here.ensures,
      c.messages_from-messages.ensures,
    )))

pub returns-clause-messages : goal.returns-clause-messages
returns-clause-messages c =
    subst (λ (ms : List Message). AreMessagesOrdered ms) (sym c.messages_from-messages.ensures)
    (messages_ordered c.args.walk.now.spot c.args.walk.now.messages.now c.requires.messages)

pub returns-clause-links : goal.returns-clause-links
returns-clause-links c =
    subst (λ (links : List Link). AreLinksOrdered links) (sym c.links_from-links.ensures)
    (links_ordered c.args.walk.now.spot c.args.walk.now.links.now c.requires.links)

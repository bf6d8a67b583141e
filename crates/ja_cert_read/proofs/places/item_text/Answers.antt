use Rattle.std.proofs.Common.{◌∙◌, sym}
use Rattle.ja_cert_read.proofs.PlacesTold.{closed_path, empty_path}
use Rattle.ja_cert_read.proofs.places.item_text.Goals as goal

pub returns-in-Some : goal.returns-in-Some
returns-in-Some c =
    let was = rw (c.new-text.ensures.items, c.deref.ensures.value, c.reverse.ensures.items)
    at c.in_ok-push_steps.ensures in
    closed_path _ _ _ _ was c.in-Some.ensures.items

pub returns : goal.returns
returns c =
    let was = rw (c.new-text.ensures.items, c.deref.ensures.value, c.reverse.ensures.items)
    at c.in_ok-push_steps.ensures in
    let none = sym c.push_steps.new.text.ok.0 ∙ c.in-None.ensures.cases.0 in
    let empty = sym c.pop.new.self.ok.0 ∙ c.in-None.ensures.cases.1 in
    c.in_ok-extend_from_slice-in-None.ensures.items ∙ empty_path _ _ _ was none empty

use Rattle.std.proofs.Common.{ℕ, List, ◌++◌, ap, map, ◌∙◌}
use Rattle.std.specs.List.{flat_map}
use Rattle.ja_files.specs.Files.{characters_of, name_of}
use Rattle.ja_files.specs.Lines.{lines_of}
use Rattle.ja_show.specs.Messages.{message_text, messages_text, shown_name}
use Rattle.ja_show.specs.code.Kept.{lines_in, lists_in}
use Rattle.ja_show.proofs.messages.messages_text.Goals as goal

pub returns : goal.returns
unfolding messages_text
returns c =
    let messages = c.args.messages.now in
    let names = lists_in c.deref-2.result.now in
    let sources = map lines_in c.deref-3.result.now in
    let own_names = map shown_name (map name_of c.args.files.now) in
    c.in_ok-push_messages.ensures
    ∙ ap (λ (out : List ℕ). out ++ flat_map (message_text names sources) messages)
    c.new-out.ensures.items
    ∙ ap (λ (ns : List (List ℕ)). flat_map (message_text ns sources) messages)
    (ap lists_in c.deref-2.ensures.value ∙ c.in_ok-names.ensures)
    ∙ ap (λ (ls : List (List (List ℕ))). flat_map (message_text own_names ls) messages)
    (ap (map lines_in) c.deref-3.ensures.value ∙ c.in_ok-sources.ensures
    ∙ ap (map lines_of) (ap lists_in c.deref.ensures.value ∙ c.in_ok-texts.ensures))

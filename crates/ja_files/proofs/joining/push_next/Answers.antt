use Rattle.ja_files.proofs.Texts.{next_characters}
use Rattle.ja_files.proofs.joining.push_next.Goals as goal

pub returns-clause-characters : goal.returns-clause-characters
returns-clause-characters c =
    next_characters c.args.text.now c.push_str.new.self c.push_str-2.new.self
    c.args.file.now.text.now c.in_ok-push_str.ensures.bytes c.in_ok-push_str-2.ensures.bytes

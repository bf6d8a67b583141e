use Rattle.std.proofs.Common.{◌∙◌, ap}
use Rattle.std.specs.Str.{chars}
use Rattle.std.specs.String.{string_bytes}
use Rattle.std.proofs.lemmas.Str.{chars-nil, chars-append, IsUtf8-string_bytes}
use Rattle.ja_files.specs.Files.{bytes_of, characters_of}
use Rattle.ja_files.proofs.Texts.{joined_none, joined_whole}
use Rattle.ja_files.proofs.joining.joined.Goals as goal

pub returns-in_default-clause-bytes : goal.returns-in_default-clause-bytes
returns-in_default-clause-bytes c =
    joined_none bytes_of (string_bytes c.new-text.result) c.args.files.now
    c.new-text.ensures.bytes c.in_default.ensures.cases

pub returns-in_default-clause-characters : goal.returns-in_default-clause-characters
returns-in_default-clause-characters c =
    joined_none characters_of (chars (string_bytes c.new-text.result)) c.args.files.now
    (ap chars c.new-text.ensures.bytes ∙ chars-nil) c.in_default.ensures.cases

pub returns-clause-bytes : goal.returns-clause-bytes
returns-clause-bytes c =
    joined_whole bytes_of (string_bytes c.new-text.result) (string_bytes c.push_str.new.self)
    (string_bytes c.push_others.new.text) c.args.files.now c.in-Some.first.now
    c.in-Some.rest.now c.new-text.ensures.bytes c.in_ok-push_str.ensures.bytes
    c.in_ok-push_others.ensures.bytes c.in-Some.ensures.cases.0

pub returns-clause-characters : goal.returns-clause-characters
returns-clause-characters c =
    joined_whole characters_of (chars (string_bytes c.new-text.result))
    (chars (string_bytes c.push_str.new.self)) (chars (string_bytes c.push_others.new.text))
    c.args.files.now c.in-Some.first.now c.in-Some.rest.now
    (ap chars c.new-text.ensures.bytes ∙ chars-nil)
    (ap chars c.in_ok-push_str.ensures.bytes
    ∙ chars-append (string_bytes c.new-text.result) c.in-Some.first.now.text.now
    (IsUtf8-string_bytes c.new-text.result))
    c.in_ok-push_others.ensures.characters c.in-Some.ensures.cases.0

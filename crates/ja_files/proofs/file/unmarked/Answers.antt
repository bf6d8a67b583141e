use Rattle.std.proofs.Common.{ap, sym, ◌∙◌, ◌++◌, encode_utf8, List, ℕ}
use Rattle.ja_files.proofs.Marks.{marked_bytes, marked_characters, other_characters, unmarked_bytes}
use Rattle.ja_files.proofs.file.unmarked.Goals as goal

pub returns-in-Some-clause-bytes : goal.returns-in-Some-clause-bytes
returns-in-Some-clause-bytes c =
    let found = c.in-Some.ensures.cases in
    marked_bytes c.args.text.now c.in-Some.rest.now
    (found.1.split ∙ ap (λ (rest : List ℕ). encode_utf8 0xFEFF ++ rest) (sym found.2))

pub returns-in-Some-clause-characters : goal.returns-in-Some-clause-characters
returns-in-Some-clause-characters c =
    let found = c.in-Some.ensures.cases in
    marked_characters c.args.text.now c.in-Some.rest.now
    (found.1.split ∙ ap (λ (rest : List ℕ). encode_utf8 0xFEFF ++ rest) (sym found.2))
    c.utf8.text

pub returns-in-None-clause-bytes : goal.returns-in-None-clause-bytes
returns-in-None-clause-bytes c = unmarked_bytes c.args.text.now c.in-None.ensures.cases

pub returns-in-None-clause-characters : goal.returns-in-None-clause-characters
returns-in-None-clause-characters c =
    other_characters c.args.text.now c.in-None.ensures.cases c.utf8.text

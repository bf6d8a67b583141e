-- The value is that of its definition, and has no float.
use Rattle.std.proofs.Common.{◌≡◌, ◌∙◌, ◌++◌, [], ◌∷◌, ℕ, List, ap, map}
use Rattle.serde_json.specs.View.{view}
use Rattle.serde_json.specs.Written.{compact_text}
use Rattle.ja_files.specs.declared.file.File.{File}
use Rattle.ja_files.specs.Files.{characters_of}
use Rattle.ja_sarif.specs.Sarif.{log_data, run_data}
use Rattle.ja_sarif.proofs.Floats.{log_none, none_of}
use Rattle.ja_sarif.proofs.sarif.sarif_text.Goals as goal

pub returns : goal.returns
returns c =
    let version = c.args.version.now in
    let names = map (λ (file : File). file.name.now) c.args.files.now in
    let texts = map characters_of c.args.files.now in
    let messages = c.args.messages.now in
    let answered = c.args.answered in
    let ending = c.args.ending.now in
    let is : view c.in_ok-log.log
    ≡ log_data (run_data version names texts messages answered ending) =
    c.in_ok-log.ensures ∙ ap log_data c.in_ok-run.ensures in
    c.in_ok-push.ensures.items ∙ ap (λ (t : List ℕ). t ++ 10 ∷ [])
    (c.in_ok-out.ensures.text (none_of _ _ is
    (log_none version names texts messages answered ending)) ∙ ap compact_text is)

-- The values at entry, one line each.
use Rattle.std.proofs.Common.{◌≡◌, ℕ, List, [], ◌∷◌, ◌++◌, Some, None}
use Rattle.std.specs.Prelude.{Result}
use Rattle.std.specs.Result.{OnOk}
use Rattle.serde_json.specs.Data.{Data}
use Rattle.ja_base.specs.declared.ids.Label.{Label}
use Rattle.ja_graph.specs.declared.program.Program.{Program}
use Rattle.ja_abstract.specs.declared.abstraction.Key.{Key}
use Rattle.ja_abstract.specs.AbstractValue.{AbstractProperty}
use Rattle.ja_abstract.specs.Resolved.{Entries}
use Rattle.ja_report.specs.Lines.{entry, entry_line}
use Rattle.ja_cert.specs.Certificate.{line_data}
use Rattle.ja_cert.specs.code.Writing.{lines_text, with_commas}
use Rattle.ja_cert.proofs.Commas.{line_written, lines_none}

pub entry_written : {T E : Type 0} (p : Program) (e : Entries) (l : Label) (k : Key)
    (q : AbstractProperty) (old next : List ℕ) (d : Data) (r : Result T E) → e l k ≡ Some q
    → d ≡ line_data p (entry l k q) → OnOk r (next ≡ old ++ with_commas (d ∷ []))
    → OnOk r (next ≡ old ++ lines_text p (entry_line e l k))
unfolding entry_line
entry_written p e l k q old next d r found is step =
    rw found (line_written p old next (entry l k q) d r is step)

pub entry_missing : (p : Program) (e : Entries) (l : Label) (k : Key) (old : List ℕ)
    → e l k ≡ None → old ≡ old ++ lines_text p (entry_line e l k)
unfolding entry_line
entry_missing p e l k old missing = rw missing (lines_none p old)

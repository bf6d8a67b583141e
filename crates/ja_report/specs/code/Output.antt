-- What a writer of lines has added.
use Rattle.std.specs.Prelude.{◌≡◌, ◌++◌, List}
use Rattle.std.specs.List.{flat_map}
use Rattle.ja_graph.specs.declared.program.Program.{Program}
use Rattle.ja_report.specs.declared.output.Output.{Output}
use Rattle.ja_report.specs.Lines.{Line, line_text, line_sites}

-- the text of these lines, and the sites that they name
pub record Adds (p : Program) (lines : List Line) (before after : Output) : Type 0 where
  pub text : after.text.items ≡ before.text.items ++ flat_map (line_text p) lines
  pub named : after.named.items ≡ before.named.items ++ flat_map (line_sites p) lines

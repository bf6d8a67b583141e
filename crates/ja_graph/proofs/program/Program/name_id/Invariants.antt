use Rattle.std.proofs.Common.{◌≡◌, drop}
use Rattle.std.specs.List.{position_from}
use Rattle.std.specs.Str.{bytes_eq}
use Rattle.ja_graph.proofs.program.Program.name_id.Given as goal

abbrev pub invariant-loop-place : goal.invariant-loop-place
invariant-loop-place l =
    position_from (bytes_eq l.t) l.place (drop l.place l.self.names)
    ≡ position_from (bytes_eq l.t) 0 l.self.names

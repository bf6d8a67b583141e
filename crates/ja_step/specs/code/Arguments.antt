-- The arguments that are given to a call.
use Rattle.std.specs.Prelude.{List, ◌++◌, Result, Ok, Err}
use Rattle.std.specs.declared.vec.Vec.{Vec}
use Rattle.ja_base.specs.declared.ids.ScopeKind.{ScopeKind}
use Rattle.ja_machine.specs.declared.machine.Value.{Value}
use Rattle.ja_machine.specs.Calls.{ArgumentsRead}

-- those that were read, or why the run leaves the profile
abbrev pub given_of : {A : Type 0} → Result (Vec Value A) ScopeKind → ArgumentsRead
given_of (Ok vs) = Ok vs.items
given_of (Err kind) = Err kind

-- arguments before others
abbrev pub with_front : List Value → ArgumentsRead → ArgumentsRead
with_front vs (Ok ws) = Ok (vs ++ ws)
with_front vs (Err kind) = Err kind

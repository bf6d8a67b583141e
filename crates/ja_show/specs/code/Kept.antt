-- What is kept of files while messages are written.
use Rattle.std.specs.Borrow.{Bor}
use Rattle.std.specs.Prelude.{ℕ, List, map}
use Rattle.std.specs.declared.alloc.Global.{Global}
use Rattle.std.specs.declared.vec.Vec.{Vec}

-- the lists that these are
abbrev pub lists_in : {X : Type 0} → List (Vec X Global) → List (List X)
lists_in vs = map (λ (v : _). v.items) vs

-- the lines that these slices are
abbrev pub lines_in : Vec (Bor (List ℕ)) Global → List (List ℕ)
lines_in v = map (λ (line : Bor (List ℕ)). line.now) v.items

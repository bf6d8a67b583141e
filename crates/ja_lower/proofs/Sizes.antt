-- What is too large to be lowered.
use Rattle.std.proofs.Common.{◌≤◌, ℕ}
use Rattle.ja_lower.specs.declared.fault.LowerFault.{LowerFault}
use Rattle.ja_lower.specs.declared.fault.LowerFault.TheVariants.{Functions, Nodes, Names, Memory}
use Rattle.ja_lower.specs.code.Limits.{ExplainsSize}
use Rattle.ja_lower.specs.code.Room.{Exceeds, HasTooMany}
use Rattle.ja_lower.specs.Limits.{max_functions, max_size}

-- what a fault says of the nodes, where the functions are within their limit
pub exceeds_explains : (functions size names : ℕ) (e : LowerFault) → functions ≤ max_functions
    → Exceeds max_size size e → ExplainsSize functions size names e
exceeds_explains functions size names Functions h x = absurd x
exceeds_explains functions size names Nodes h x = (h, x)
exceeds_explains functions size names Names h x = absurd x
exceeds_explains functions size names Memory h x = tt

-- what it says of the names, where the functions and the nodes are
pub too_many_explain : (functions size names : ℕ) (e : LowerFault) → functions ≤ max_functions
    → size ≤ max_size
    → HasTooMany names e → ExplainsSize functions size names e
too_many_explain functions size names Functions h k x = absurd x
too_many_explain functions size names Nodes h k x = absurd x
too_many_explain functions size names Names h k x = (h, k, x)
too_many_explain functions size names Memory h k x = tt

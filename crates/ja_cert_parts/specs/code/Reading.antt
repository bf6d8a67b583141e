-- What the readers of parts of a certificate answer.
use Rattle.std.specs.Prelude.{◌≡◌, ℕ, List, map, reverse, Option, Some, None, Result, Ok, Err}
use Rattle.std.specs.Fmt.{decimal}
use Rattle.ja_cert.specs.Wrong.{Path}
use Rattle.ja_cert_parts.specs.declared.fault.Step.{Step}
use Rattle.ja_cert_parts.specs.declared.fault.Step.TheVariants as step
use Rattle.ja_cert_parts.specs.declared.fault.Fault.{Fault}
use Rattle.ja_cert_parts.specs.declared.fault.Fault.TheVariants as fault

abbrev pub step_text : Step → List ℕ
step_text (step.Key name) = name.now
step_text (step.At n) = decimal n

-- the steps of a fault stand in it from inside to outside
abbrev pub path_of : List Step → Path
path_of steps = map step_text (reverse steps)

-- a fault tells the first wrong place, or that memory was refused
unfoldable pub Tells : Option Path → Fault → Type 0
Tells wrong (fault.Shape steps) = wrong ≡ Some (path_of steps.items)
Tells wrong fault.Memory = Unit {0}

-- What is answered at a place where this is wrong, if something is: what was read, of which the
-- second holds, or a fault that tells it.
abbrev pub Reads : {A : Type 0} → Option Path → (A → Type 0) → Result A Fault → Type 0
Reads wrong Holds (Ok a) = (wrong ≡ None) × Holds a
Reads wrong Holds (Err fault) = Tells wrong fault

-- the same, where nothing is said of what was read
abbrev pub Passes : {A : Type 0} → Option Path → Result A Fault → Type 0
Passes wrong result = Reads wrong (λ _. Unit {0}) result

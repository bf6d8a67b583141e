-- What faults tell, from one place to another.
use Rattle.std.proofs.Common.{◌≡◌, ℕ, Bool, true, false, List, [], ◌∷◌, ◌++◌, map, Option, Some, None, Result, Ok, Err, refl, ap, sym, ◌∙◌, subst}
use Rattle.std.specs.Prelude.{is_some}
use Rattle.std.specs.Option.{option_map_or}
use Rattle.std.proofs.lemmas.List.{reverse-append}
use Rattle.ja_cert.specs.Wrong.{Path, at, here, here_unless, under, or_else}
use Rattle.ja_cert_parts.specs.code.Reading.{step_text, path_of, Tells, Reads, Passes}
use Rattle.ja_cert_parts.specs.declared.fault.Step.{Step}
use Rattle.ja_cert_parts.specs.declared.fault.Fault.{Fault}
use Rattle.ja_cert_parts.specs.declared.fault.Fault.TheVariants as fault

-- ---- one step further outside

path_behind : (steps : List Step) (step : Step)
    → path_of (steps ++ step ∷ []) ≡ step_text step ∷ path_of steps
path_behind steps step = ap (map step_text) (reverse-append steps (step ∷ []))

pub told_behind : (wrong : Option Path) (steps more : List Step) (step : Step)
    → more ≡ steps ++ step ∷ [] → wrong ≡ Some (path_of steps)
    → under (step_text step) wrong ≡ Some (path_of more)
told_behind wrong steps more step is told =
    ap (under (step_text step)) told
    ∙ ap (λ (path : Path). Some path) (sym (path_behind steps step) ∙ ap path_of (sym is))

-- ---- what was read

-- a call that answered Ok
pub read_ok : {A : Type 0} (wrong : Option Path) (Holds : A → Type 0) (r : Result A Fault) (a : A)
    → r ≡ Ok a → Reads wrong Holds r → (wrong ≡ None) × Holds a
read_ok {A = A} wrong Holds r a is reads =
    let P : Result A Fault → Type 0 = Reads wrong Holds in subst P is reads

pub passes : {A : Type 0} (wrong : Option Path) (Holds : A → Type 0) (r : Result A Fault)
    → Reads wrong Holds r → Passes wrong r
passes wrong Holds (Ok a) reads = (reads.0, tt)
passes wrong Holds (Err f) told = told

-- ---- the place itself

pub tells_unless : (b : Bool) (f : Fault) → b ≡ false → Tells here f → Tells (here_unless b) f
tells_unless true f is told = absurd (cc)
tells_unless false f is told = told

pub none_unless : (b : Bool) → b ≡ true → here_unless b ≡ None
none_unless true is = refl
none_unless false is = absurd (cc)

pub unless_none : (b : Bool) → here_unless b ≡ None → b ≡ true
unless_none true is = refl
unless_none false is = absurd (cc)

pub tells_same : (wrong other : Option Path) (f : Fault) → wrong ≡ other → Tells wrong f
    → Tells other f
tells_same wrong other f is told =
    let P : Option Path → Type 0 = λ w. Tells w f in subst P is told

-- ---- the first of some

pub or_else_left : (a b : Option Path) → or_else a b ≡ None → a ≡ None
or_else_left None b is = refl
or_else_left (Some path) b is = absurd (cc)

pub or_else_right : (a b : Option Path) → or_else a b ≡ None → b ≡ None
or_else_right None b is = is
or_else_right (Some path) b is = absurd (cc)

pub or_else_none : (a b : Option Path) → a ≡ None → or_else a b ≡ b
or_else_none a b none = ap (λ (w : Option Path). or_else w b) none

pub tells_first : (a b : Option Path) (f : Fault) → Tells a f → Tells (or_else a b) f
unfolding Tells
tells_first a b (fault.Shape steps) told = ap (λ (w : Option Path). or_else w b) told
tells_first a b fault.Memory told = tt

pub none_later : (a b : Option Path) → a ≡ None → b ≡ None → or_else a b ≡ None
none_later a b none more = or_else_none a b none ∙ more

pub at_none : (n : ℕ) (wrong : Option Path) → at n wrong ≡ None → wrong ≡ None
at_none n None none = refl
at_none n (Some path) none = absurd (cc)

-- ---- what is read of some, which isn't there else

pub tells_any : (wrong : Option Path) (f : Fault) → Tells None f → Tells wrong f
unfolding Tells
tells_any wrong (fault.Shape steps) told = absurd (cc)
tells_any wrong fault.Memory told = tt

pub tells_if : {A : Type 0} (o : Option A) (rest : A → Option Path) (f : Fault)
    → Tells (here_unless (is_some o)) f → Tells (option_map_or rest o here) f
tells_if None rest f told = told
tells_if (Some a) rest f told = tells_any (rest a) f told

pub tells_of : {A : Type 0} (o : Option A) (a : A) (rest : A → Option Path) (f : Fault)
    → o ≡ Some a → Tells (rest a) f → Tells (option_map_or rest o here) f
tells_of o a rest f is told =
    tells_same (rest a) (option_map_or rest o here) f
    (sym (ap (λ p. option_map_or rest p here) is)) told

-- The first wrong place, as it is told step by step.
use Rattle.std.specs.Prelude.{◌≡◌, ℕ, Bool, true, false, List, [], ◌∷◌, ◌++◌, Option, Some, None, is_some, Result, Ok, Err, IfOk}
use Rattle.std.specs.List.{AllByRecursion}
use Rattle.std.specs.Option.{option_map_or}
use Rattle.std.proofs.Common.{refl, sym, subst, ap, ◌∙◌}
use Rattle.ja_cert_parts.specs.declared.fault.Fault.{Fault}
use Rattle.ja_cert_parts.specs.declared.fault.Fault.TheVariants as fault
use Rattle.ja_cert.specs.Wrong.{Path, here, here_unless, under, or_else, first_of}
use Rattle.ja_cert_parts.specs.code.Reading.{Tells, Passes, Reads}
use Rattle.ja_cert_parts.proofs.FaultLemmas.{passes, tells_first, none_later, tells_any}

-- ---- the first of some places

pub or_else_none : (a b : Option Path) → or_else a b ≡ None → (a ≡ None) × (b ≡ None)
or_else_none None b h = (refl, h)
or_else_none (Some path) b h = absurd (cc)

pub under_none : (step : List ℕ) (a : Option Path) → under step a ≡ None → a ≡ None
under_none step None h = refl
under_none step (Some path) h = absurd (cc)

under_right : (step : List ℕ) (a : Option Path) → a ≡ None → under step a ≡ None
under_right step a h = ap (under step) h

-- where something is wrong unless there is something, it is there
pub there : {A : Type 0} (o : Option A) (f : A → Option Path) → option_map_or f o here ≡ None
    → (a : A) × (o ≡ Some a) × (f a ≡ None)
there None f h = absurd (cc)
there (Some a) f h = (a, refl, h)

-- ---- what a fault tells

pub tells_memory : (wrong : Option Path) (f : Fault) → f ≡ fault.Memory → Tells wrong f
unfolding Tells
tells_memory wrong (fault.Shape steps) h = absurd (cc)
tells_memory wrong fault.Memory h = tt

pub tells_later : (a b : Option Path) (f : Fault) → a ≡ None → Tells b f → Tells (or_else a b) f
tells_later None b f none h = h
tells_later (Some path) b f none h = absurd (cc)

pub tells_same : (a b : Option Path) (f : Fault) → a ≡ b → Tells b f → Tells a f
tells_same a b f same h = subst (λ w. Tells w f) (sym same) h

-- something is missing, or what is there is wrong
pub tells_missing : {A : Type 0} (o : Option A) (g : A → Option Path) (f : Fault)
    → Tells (here_unless (is_some o)) f → Tells (option_map_or g o here) f
tells_missing None g f h = h
tells_missing (Some a) g f h = tells_any (g a) f h

pub tells_found : {A : Type 0} (o : Option A) (a : A) (g : A → Option Path) (f : Fault)
    → o ≡ Some a → Tells (g a) f → Tells (option_map_or g o here) f
tells_found o a g f found h = tells_same _ _ f (ap (λ q. option_map_or g q here) found) h

pub right_found : {A : Type 0} (o : Option A) (a : A) (g : A → Option Path) → o ≡ Some a
    → g a ≡ None → option_map_or g o here ≡ None
right_found o a g found right = ap (λ q. option_map_or g q here) found ∙ right

-- ---- what is answered

-- in other words
pub reads_as : {A : Type 0} (wrong other : Option Path) (Holds Also : A → Type 0)
    (r : Result A Fault) → other ≡ wrong → ((a : A) → Holds a → Also a) → Reads wrong Holds r
    → Reads other Also r
reads_as wrong other Holds Also (Ok a) same also read = (same ∙ read.0, also a read.1)
reads_as wrong other Holds Also (Err f) same also read = tells_same other wrong f same read

-- seen from one step further outside
pub reads_inside : {A : Type 0} (step : List ℕ) (wrong : Option Path) (Holds : A → Type 0)
    (r s : Result A Fault) → Reads wrong Holds r → IfOk s (λ a. r ≡ Ok a)
    → ((w : Option Path) → Passes w r → Passes (under step w) s) → Reads (under step wrong) Holds s
reads_inside step wrong Holds r (Ok a) read same told = (
  (told wrong (passes wrong Holds r read)).0,
  (subst (Reads wrong Holds) same read).1,
)
reads_inside step wrong Holds r (Err f) read same told =
    told wrong (passes wrong Holds r read)

-- what was read, and what was told
reads_ok : {A : Type 0} (wrong : Option Path) (Holds : A → Type 0) (r : Result A Fault) (a : A)
    → Reads wrong Holds r → r ≡ Ok a → (wrong ≡ None) × Holds a
reads_ok wrong Holds r a read is = subst (Reads wrong Holds) is read

-- the two ways of an answer that is seen from one step further outside
pub inside_ok : {A : Type 0} (step : List ℕ) (wrong : Option Path) (Holds : A → Type 0)
    (r : Result A Fault) (a : A) → Reads wrong Holds r → r ≡ Ok a
    → (under step wrong ≡ None) × Holds a
inside_ok step wrong Holds r a read same =
    let h = reads_ok wrong Holds r a read same in (under_right step wrong h.0, h.1)

pub inside_err : {A : Type 0} (step : List ℕ) (wrong : Option Path) (Holds : A → Type 0)
    (r : Result A Fault) (f : Fault) → Reads wrong Holds r
    → ((w : Option Path) → Passes w r → Tells (under step w) f) → Tells (under step wrong) f
inside_err step wrong Holds r f read told = told wrong (passes wrong Holds r read)

-- ---- in a row of places, the first that is wrong

abbrev AreNone : List (Option Path) → Type 0
AreNone places = AllByRecursion (λ (w : Option Path). w ≡ None) places

pub tells_after : (right : List (Option Path)) (w : Option Path) (more : List (Option Path))
    (f : Fault) → AreNone right → Tells w f → Tells (first_of (right ++ w ∷ more)) f
tells_after [] w more f all told = tells_first w (first_of more) f told
tells_after (v ∷ right) w more f all told =
    tells_later v (first_of (right ++ w ∷ more)) f all.0 (tells_after right w more f all.1 told)

pub all_right : (places : List (Option Path)) → AreNone places → first_of places ≡ None
all_right [] all = refl
all_right (w ∷ places) all = none_later w (first_of places) all.0 (all_right places all.1)

pub each_none : (places : List (Option Path)) → first_of places ≡ None → AreNone places
each_none [] h = tt
each_none (w ∷ places) h =
    let parts = or_else_none w (first_of places) h in (parts.0, each_none places parts.1)

-- a test that is made, in other words
pub tells_test : (a b : Bool) (f : Fault) → a ≡ b → Tells (here_unless a) f
    → Tells (here_unless b) f
tells_test a b f same told = subst (λ t. Tells (here_unless t) f) same told

pub right_test : (a b : Bool) → a ≡ b → here_unless a ≡ None → here_unless b ≡ None
right_test a b same right = subst (λ t. here_unless t ≡ None) same right

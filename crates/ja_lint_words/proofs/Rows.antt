-- The row of an argument, as uses and defaults change rows.
use Rattle.std.proofs.Common.{◌≡◌, ◌∙◌, ◌++◌, ◌||◌, Bool, true, false, cond, List, [], ◌∷◌, Option}
use Rattle.std.proofs.Common.{Some, None, is_some, refl, ap, fold, find, option_map}
use Rattle.std.specs.Option.{unwrap_or}
use Rattle.std.specs.List.{AllByRecursion}
use Rattle.std.specs.Str.{bytes_eq}
use Rattle.std.proofs.lemmas.Slice.Eq.{bytes_eq-Decides}
use Rattle.clap.specs.Walk.{Row, Rule, Text, at_row, has_row, reading_by, with_default, with_values}
use Rattle.clap.specs.Walk.{without}
use Rattle.clap.specs.declared.builder.value_parser.Reading.{Reading}
use Rattle.clap.specs.declared.parser.matches.ValueSource.{ValueSource}
use Rattle.clap.specs.declared.parser.matches.ValueSource.TheVariants.{DefaultValue}

-- the row of an argument
abbrev pub look : Text → List Row → Option Row
look id rs = find (λ r. bytes_eq r.id id) rs

abbrev pub values_in : Option Row → List Text
values_in row = unwrap_or (option_map (λ r. r.values) row) []

abbrev pub new_row : Text → Reading → ValueSource → List Text → Row
new_row id how source vs =
    record { id = id; values = vs; count = None; source = Some source; reading = how }

pub same_id : (id : Text) → bytes_eq id id ≡ true
same_id id = (bytes_eq-Decides id id).1 refl

pub has_look : (id : Text) (rs : List Row) → has_row id rs ≡ is_some (look id rs)
has_look id [] = refl
has_look id (r ∷ rs) = go (bytes_eq r.id id) (has_look id rs)
  where
    go : (b : Bool) → has_row id rs ≡ is_some (look id rs)
        → (b || has_row id rs) ≡ is_some (cond b (Some r) (look id rs))
    go true e = refl
    go false e = e

-- a row with the one id hasn't the other
other_id : (a b c : Text) → bytes_eq a b ≡ true → bytes_eq b c ≡ false → bytes_eq a c ≡ false
other_id a b c e not = ap (λ (t : Text). bytes_eq t c) ((bytes_eq-Decides a b).0 e) ∙ not

-- ---- the rows of other arguments stay

module _ (id other : Text) (differ : bytes_eq other id ≡ false) where
  pub look_past : (how : Reading) (source : ValueSource) (vs : List Text) (rs : List Row)
      → look id (with_values other how source vs rs) ≡ look id rs
  look_past how source vs [] = rw differ refl
  look_past how source vs (r ∷ rs) =
      go (bytes_eq r.id other) refl (look_past how source vs rs)
    where
      go : (b : Bool) → bytes_eq r.id other ≡ b
          → look id (with_values other how source vs rs) ≡ look id rs
          → look id (with_values other how source vs (r ∷ rs)) ≡ look id (r ∷ rs)
      go true e ih = let past = other_id r.id other id e differ in rw (e, past) refl
      go false e ih = rw e (ap (λ (o : Option Row). cond (bytes_eq r.id id) (Some r) o) ih)

  pub look_past_without : (rs : List Row) → look id (without other rs) ≡ look id rs
  look_past_without [] = refl
  look_past_without (r ∷ rs) = go (bytes_eq r.id other) refl (look_past_without rs)
    where
      go : (b : Bool) → bytes_eq r.id other ≡ b → look id (without other rs) ≡ look id rs
          → look id (without other (r ∷ rs)) ≡ look id (r ∷ rs)
      go true e ih = let past = other_id r.id other id e differ in rw (e, past) refl
      go false e ih = rw e (ap (λ (o : Option Row). cond (bytes_eq r.id id) (Some r) o) ih)

  pub look_past_set : (how : Reading) (source : ValueSource) (vs : List Text) (rs : List Row)
      → look id (with_values other how source vs (without other rs)) ≡ look id rs
  look_past_set how source vs rs =
      look_past how source vs (without other rs) ∙ look_past_without rs

-- ---- the row of the argument itself

module _ (id : Text) (how : Reading) (source : ValueSource) (vs : List Text) where
  -- values are added to those that are there
  pub look_more : (rs : List Row)
      → values_in (look id (with_values id how source vs rs)) ≡ values_in (look id rs) ++ vs
  look_more [] = rw (same_id id) refl
  look_more (r ∷ rs) = go (bytes_eq r.id id) refl (look_more rs)
    where
      go : (b : Bool) → bytes_eq r.id id ≡ b
          → values_in (look id (with_values id how source vs rs)) ≡ values_in (look id rs) ++ vs
          → values_in (look id (with_values id how source vs (r ∷ rs)))
          ≡ values_in (look id (r ∷ rs)) ++ vs
      go true e ih = rw e (rw e refl)
      go false e ih = rw e (rw e ih)

  -- the row is new
  pub look_new : (rs : List Row) → look id rs ≡ None
      → look id (with_values id how source vs rs) ≡ Some (new_row id how source vs)
  look_new [] none = rw (same_id id) refl
  look_new (r ∷ rs) none = go (bytes_eq r.id id) refl none (look_new rs)
    where
      go : (b : Bool) → bytes_eq r.id id ≡ b → cond b (Some r) (look id rs) ≡ None
          → (look id rs ≡ None
          → look id (with_values id how source vs rs) ≡ Some (new_row id how source vs))
          → look id (with_values id how source vs (r ∷ rs)) ≡ Some (new_row id how source vs)
      go true e some ih = absurd (cc some)
      go false e left ih = rw e (rw e (ih left))

-- nothing goes where there is no row
pub without_none : (id : Text) (rs : List Row) → look id rs ≡ None → without id rs ≡ rs
without_none id [] none = refl
without_none id (r ∷ rs) none = go (bytes_eq r.id id) refl none (without_none id rs)
  where
    go : (b : Bool) → bytes_eq r.id id ≡ b → cond b (Some r) (look id rs) ≡ None
        → (look id rs ≡ None → without id rs ≡ rs) → without id (r ∷ rs) ≡ r ∷ rs
    go true e some ih = absurd (cc some)
    go false e left ih = rw e (ap (λ (xs : List Row). r ∷ xs) (ih left))

-- the row of an option that stands for the first time
pub look_set : (id : Text) (how : Reading) (source : ValueSource) (vs : List Text) (rs : List Row)
    → look id rs ≡ None
    → look id (with_values id how source vs (without id rs)) ≡ Some (new_row id how source vs)
look_set id how source vs rs none =
    ap (λ (xs : List Row). look id (with_values id how source vs xs)) (without_none id rs none)
    ∙ look_new id how source vs rs none

-- ---- defaults

pub no_default : (a : Rule) (rs : List Row) → a.defaults ≡ [] → with_default rs a ≡ rs
no_default a rs none = go (has_row a.id rs) a.defaults none
  where
    go : (b : Bool) (ds : List Text) → ds ≡ []
        → cond b rs (Rattle.clap.specs.Walk.default_rows a.id (reading_by a) ds rs) ≡ rs
    go true ds e = refl
    go false [] e = refl
    go false (d ∷ ds) e = absurd (cc e)

pub default_past : (id : Text) (a : Rule) (rs : List Row) → bytes_eq a.id id ≡ false
    → look id (with_default rs a) ≡ look id rs
default_past id a rs differ = go (has_row a.id rs) a.defaults
  where
    go : (b : Bool) (ds : List Text)
        → look id (cond b rs (Rattle.clap.specs.Walk.default_rows a.id (reading_by a) ds rs))
        ≡ look id rs
    go true ds = refl
    go false [] = refl
    go false (d ∷ ds) = look_past id a.id differ (reading_by a) DefaultValue (d ∷ ds) rs

pub defaults_past : (id : Text) (c : List Rule) (rs : List Row)
    → AllByRecursion (λ (a : Rule). bytes_eq a.id id ≡ false) c
    → look id (fold with_default rs c) ≡ look id rs
defaults_past id [] rs all = refl
defaults_past id (a ∷ c) rs all =
    defaults_past id c (with_default rs a) all.1 ∙ default_past id a rs all.0

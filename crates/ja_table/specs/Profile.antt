-- Tables of which each number and each text is one of the profile.
use Rattle.std.specs.Prelude.{ℕ, IfSome}
use Rattle.ja_base.specs.declared.ids.Context.{Context}
use Rattle.ja_base.specs.declared.ids.Label.{Label}
use Rattle.ja_abstract.specs.declared.abstraction.Key.{Key}
use Rattle.ja_abstract.specs.Profile.{IsPropertyOfProfile, IsStateOfProfile}
use Rattle.ja_rows.specs.Table.{Table}

pub record IsTableOfProfile (t : Table) : Type 0 where
  pub states : (x : Context) (n : ℕ) → IfSome (t.state x n) IsStateOfProfile
  pub entries : (x : Context) (l : Label) (k : Key) → IfSome (t.entry x l k) IsPropertyOfProfile

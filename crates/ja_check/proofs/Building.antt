-- What visits build, some of them first.
use Rattle.std.specs.Prelude.{◌≡◌, ◌≢◌, ◌↔◌, ◌<◌, ◌+◌, ℕ, Bool, IsTrue, List, [], ◌∷◌, ◌++◌, length, take, drop, get_or}
use Rattle.std.proofs.Common.{sym, ◌∙◌, subst}
use Rattle.std.proofs.lemmas.List.{take_more}
use Rattle.ja_graph.specs.declared.program.Program.{Program}
use Rattle.ja_rows.specs.declared.table.Item.{Item}
use Rattle.ja_rows.specs.Table.{Table, opening_table, visited, Builds, IsBuilt, IsItem}
use Rattle.ja_rows.proofs.Rising.{builds_more}
use Rattle.ja_check.proofs.Lists.{parted}

-- what is built is built from what the first visits build
pub builds_behind : (p : Program) (from : Table) (first rest : List Item) (t u : Table)
    → Builds p from first t → Builds p from (first ++ rest) u → Builds p t rest u
builds_behind p from [] rest t u b all = subst (λ (v : Table). Builds p v rest u) b all
builds_behind p from (item ∷ items) rest t u b all =
    builds_behind p (visited p from item) items rest t u b.2 all.2

-- .. and is one table
pub builds_one : (p : Program) (from : Table) (items : List Item) (t u : Table)
    → Builds p from items t → Builds p from items u → t ≡ u
builds_one p from [] t u b d = sym b ∙ d
builds_one p from (item ∷ items) t u b d =
    builds_one p (visited p from item) items t u b.2 d.2

-- ---- one after another

module _ (p : Program) (from t : Table) (items : List Item) (k : ℕ) (d : Item)
    (within : k < length items) (b : Builds p from (take k items) t) where
  abbrev next : Item
  next = get_or items k d

  -- one more
  pub builds_next : (u : Table) → IsItem p t next → visited p t next ≡ u → u ≢ t
      → Builds p from (take (k + 1) items) u
  builds_next u one v changed =
      subst (λ (xs : List Item). Builds p from xs u) (sym (take_more items k d within))
      (subst (Builds p from (take k items ++ next ∷ [])) v
      (builds_more p from (take k items) t next b one (λ same. changed (sym v ∙ same))))

  next_builds : (u : Table) → Builds p from items u → Builds p t (next ∷ drop (k + 1) items) u
  next_builds u all =
      builds_behind p from (take k items) (next ∷ drop (k + 1) items) t u b
      (subst (λ (xs : List Item). Builds p from xs u) (parted items k d within) all)

  -- the next is an item, and changes the table
  pub next_is_item : (u : Table) → Builds p from items u → IsItem p t next
  next_is_item u all = (next_builds u all).0

  pub next_changes : (u : Table) → Builds p from items u → visited p t next ≢ t
  next_changes u all = (next_builds u all).1

-- ---- the whole

pub built_told : (p : Program) (visits : List Item) (from t u : Table) → from ≡ opening_table p
    → Builds p from visits t → (b : Bool) → IsTrue b ↔ (t ≡ u) → IsTrue b ↔ IsBuilt p visits u
built_told p visits from t u from_is built b told = (
  (λ e. subst (λ (v : Table). Builds p v visits u) from_is
      (subst (Builds p from visits) (told.0 e) built)),
  (λ all. told.1 (builds_one p from visits t u built
      (subst (λ (v : Table). Builds p v visits u) (sym from_is) all))),
)

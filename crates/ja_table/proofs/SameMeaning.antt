-- Tables of the same contexts and edges.
use Rattle.std.specs.Prelude.{◌≡◌, ◌==◌, ℕ, Bool, true, false, if◌then◌else◌}
use Rattle.std.proofs.Common.{refl, sym, ◌∙◌, subst}
use Rattle.ja_base.specs.declared.ids.Context.{Context}
use Rattle.ja_abstract.specs.AbstractState.{AbstractState}
use Rattle.ja_abstract.proofs.Order.{option_property_same, option_state_same, LeqOptionState}
use Rattle.ja_rows.specs.Table.{Table, same_context}
use Rattle.ja_rows.proofs.Rising.{state-joined}
use Rattle.ja_table.specs.declared.table.ATable.{ATable}
use Rattle.ja_table.specs.code.Growing.{with_given, with_state_at, HasSameKeys}
use Rattle.ja_height.proofs.Grows.{Grows}

-- ---- the same keys

pub keys_same : (t : ATable) → HasSameKeys t t
keys_same t = record { contexts = refl; edges = refl }

pub keys_both : (t u v : ATable) → HasSameKeys t u → HasSameKeys u v → HasSameKeys t v
keys_both t u v h k = record {
  contexts = k.contexts ∙ h.contexts;
  edges = k.edges ∙ h.edges;
}

-- a state joined in rises
pub grows_state : (t u : Table) (x : Context) (n : ℕ) (a : AbstractState)
    → u ≡ with_state_at t x n a → Grows t u
grows_state t u x n a is =
    subst (λ (v : Table). Grows t v) (sym is) (record {
      context = λ y h. h;
      state = λ y m. by y m (same_context x y);
      entry = λ y l k. option_property_same (t.entry y l k);
      edge = λ e h. h;
    })
  where
    by : (y : Context) (m : ℕ) (b : Bool) → LeqOptionState (t.state y m)
        ((if b then with_given (t.state y) (n, a) else t.state y) m)
    by y m true = state-joined (t.state y m) (n == m) a
    by y m false = option_state_same (t.state y m)

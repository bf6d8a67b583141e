-- Each visit that changes a table raises its rank, so a list of visits that builds a table is at
-- most as long as the program is high.
use Rattle.std.specs.Prelude.{◌≡◌, ◌≤◌, ◌<◌, ◌+◌, ◌⊎◌, ℕ, List, [], ◌∷◌, length, slice_get, IfSome}
use Rattle.std.proofs.Common.{refl, sym, subst, ap, ◌∙◌, arith, inl, inr}
use Rattle.std.proofs.lemmas.Bool.{cases_lt}
use Rattle.ja_base.specs.declared.ids.Context.{Context}
use Rattle.ja_graph.specs.declared.program.Program.{Program}
use Rattle.ja_graph.specs.WellFormed.{IsWellFormed}
use Rattle.ja_abstract.specs.AbstractState.{AbstractState}
use Rattle.ja_abstract.specs.InProgram.{IsInProgram}
use Rattle.ja_rows.specs.declared.table.Item.{Item}
use Rattle.ja_rows.specs.Table.{Table, Builds, IsBuilt, IsClosed, IsItem, effects, opening_table, visited}
use Rattle.ja_rows.proofs.Rising.{builds_opening}
use Rattle.ja_rows.proofs.TablesInProgram.{StatesAreIn, built_in, visited_in}
use Rattle.ja_height.specs.Height.{height}
use Rattle.ja_height.proofs.Grows.{applied_grows, grows_equal}
use Rattle.ja_height.proofs.OfTables.{nodes_are, registers_are}
use Rattle.ja_height.proofs.OfVisits.{IsStateIn, IsTableIn, kept_in, opened_in}
use Rattle.ja_height.proofs.Tables.{IsEntryAt, IsStateAt, IsTableOf, few_table, more_table, table_rank}

module _ (p : Program) (good : IsWellFormed p) where
  -- ---- tables of the program

  pub record IsGood (t : Table) : Type 0 where
    pub kept : IsTableIn p good t
    pub said : StatesAreIn p good t

  state_at : (x : Context) (n : ℕ) (a : AbstractState) → IsStateIn p good x n a
      → IsInProgram p a → IsStateAt p x n a
  state_at x n a h in_program = record {
    context = h.context;
    info = h.info;
    info_is = ap (λ ns. slice_get ns n) (sym (nodes_are p good x h.context)) ∙ h.info_is;
    within = record {
      registers =
          λ r out. h.kept.registers r
          (subst (λ m. m ≤ r) (sym (registers_are p good x h.context)) out);
      values = h.kept.values;
      contents = h.kept.contents;
      in_program = in_program;
    };
  }

  good_table : (t : Table) → IsGood t → IsTableOf p t
  good_table t h = record {
    contexts = h.kept.contexts;
    states =
        λ x n a e. state_at x n a
        (subst (λ o. IfSome o (IsStateIn p good x n)) e (h.kept.states x n))
        (subst (λ o. IfSome o (IsInProgram p)) e (h.said x n));
    entries =
        λ x l k q e. subst (λ o. IfSome o (IsEntryAt p x l k)) e (h.kept.entries x l k);
    edges = h.kept.edges;
  }

  visited_good : (t : Table) → IsGood t → (item : Item) → IsItem p t item
      → IsGood (visited p t item)
  visited_good t h item is =
      record { kept = kept_in p good t h.kept item is; said = visited_in p good t h.said item }

  opening_good : IsGood (opening_table p)
  opening_good =
      record { kept = opened_in p good; said = built_in p good [] (opening_table p) refl }

  -- ---- one visit

  -- a visit raises the rank, or changes nothing
  pub visit_rises : (t : Table) → IsGood t → (item : Item) → IsItem p t item
      → (table_rank p t < table_rank p (visited p t item)) ⊎ (visited p t item ≡ t)
  visit_rises t h item is =
      let u = visited p t item in
      let up = applied_grows t (effects p t item) in
      let more = more_table p t u up (good_table t h)
      (good_table u (visited_good t h item is)) in
      elim (cases_lt (table_rank p t) (table_rank p u)) [
        | inl less ↦ inl less
        | inr back ↦ inr (grows_equal u t (more.same back) up)
      ]

  -- ---- lists of them

  record AreCounted (from t : Table) (items : List Item) : Type 0 where
    rank : table_rank p from + length items ≤ table_rank p t
    good_end : IsGood t

  counted : (from : Table) (items : List Item) (t : Table) → IsGood from
      → Builds p from items t → AreCounted from t items
  counted from [] t h same =
      let e : table_rank p from ≡ table_rank p t = ap (table_rank p) same in
      record { rank = omega (arith, e); good_end = subst IsGood same h }
  counted from (item ∷ items) t h (is, changed, rest) =
      elim (visit_rises from h item is) [
        | inl less ↦
            let more = counted (visited p from item) items t (visited_good from h item is) rest in
            record { rank = omega (arith, less, more.rank); good_end = more.good_end }
        | inr same ↦ absurd (changed same)
      ]

  pub few_visits : (items : List Item) (t : Table) → IsBuilt p items t
      → length items ≤ height p
  few_visits items t built =
      let all = counted (opening_table p) items t opening_good built in
      omega (arith, all.rank, few_table p t)

  -- what as many visits as the program is high build is closed
  pub closed_then : (items : List Item) (t : Table) → IsBuilt p items t
      → height p ≤ length items → IsClosed p t
  closed_then items t built many =
      let all = counted (opening_table p) items t opening_good built in record {
        opening = builds_opening p items t built;
        settled = λ item is. elim (visit_rises t all.good_end item is) [
          | inl less ↦
              absurd (omega (arith, less, all.rank, few_table p (visited p t item), many))
          | inr same ↦ same
        ];
      }

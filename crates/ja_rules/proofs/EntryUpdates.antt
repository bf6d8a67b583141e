-- Values at the entry of a context, with more demands and with others set.
use Rattle.std.specs.Prelude.{◌≡◌, ◌&&◌, IsSome, IsTrue, List, [], ◌∷◌}
use Rattle.std.proofs.Common.{subst, sym, inl, inr}
use Rattle.std.proofs.lemmas.Bool.{cases_Bool, cond-false, and_parts}
use Rattle.ja_base.specs.declared.ids.Label.{Label}
use Rattle.ja_graph.specs.declared.program.Program.{Program}
use Rattle.ja_abstract.specs.declared.abstraction.Key.{Key}
use Rattle.ja_abstract.specs.AbstractState.{is_key, same_key, is_label}
use Rattle.ja_abstract.specs.AbstractValue.{same_label}
use Rattle.ja_abstract.specs.Resolved.{Demands, Entries}
use Rattle.ja_abstract.proofs.Keys.{same_key-true}
use Rattle.ja_abstract.proofs.Labels.{same_label-true}
use Rattle.ja_flow.specs.code.Pairs.{with_set}
use Rattle.ja_flow.specs.declared.values.EntryValue.{EntryValue}
use Rattle.ja_aheap.specs.declared.entries.DemandedEntries.{DemandedEntries}
use Rattle.ja_aheap.specs.Entries.{entries_of}
use Rattle.ja_table.specs.declared.table.ContextTable.{ContextTable}
use Rattle.ja_table.specs.Tables.{FitsContext}
use Rattle.ja_rules.specs.code.Entries.{demanded}
use Rattle.ja_rules.specs.code.Entries.{AreDemandsOf, AreValuesOf}
use Rattle.ja_rules.proofs.Demands.{demanded_all}
use Rattle.ja_height.proofs.DemandsInProgram.{IsPairOf}

abbrev pub ArePairsOf : Program → Entries → Type 0
ArePairsOf p entries = (l : Label) (k : Key) → IsSome (entries l k) → IsPairOf p l k

pub fits_pairs : (p : Program) (c : ContextTable) → FitsContext p c
    → ArePairsOf p (entries_of c.entries)
fits_pairs p c fits l k h = (fits.labels l k h, fits.keys l k h)

pub fits_entries : (p : Program) (c : ContextTable) (e : DemandedEntries) → FitsContext p c
    → ArePairsOf p (entries_of e) → FitsContext p (record c { entries = e })
fits_entries p c e fits pairs = record {
  context = fits.context;
  nodes = fits.nodes;
  states = fits.states;
  labels = λ l k h. (pairs l k h).0;
  keys = λ l k h. (pairs l k h).1;
}

pub demanded_pairs : (p : Program) (before after : Entries) (d : Demands)
    → after ≡ demanded before d → ArePairsOf p before → AreDemandsOf p d → ArePairsOf p after
demanded_pairs p before after d is was more =
    subst (ArePairsOf p) (sym is) (demanded_all (IsPairOf p) before d was more)

with_set_all : (p : Program) (e : Entries) (vs : List EntryValue) → ArePairsOf p e
    → AreValuesOf p vs → ArePairsOf p (with_set e vs)
with_set_all p e [] was all l k h = was l k h
with_set_all p e (v ∷ vs) was all l k h =
    elim (cases_Bool (same_label v.label l && same_key v.key k)) [
      | inl t ↦
          let (a, b) = and_parts (same_label v.label l) (same_key v.key k) t in
          subst (λ m. IsPairOf p m k) (same_label-true v.label l a)
          (subst (IsPairOf p v.label) (same_key-true v.key k b) all.0)
      | inr f ↦ with_set_all p e vs was all.1 l k
          (subst IsSome (cond-false (same_label v.label l && same_key v.key k) _ _ f) h)
    ]

pub set_pairs : (p : Program) (before after : Entries) (vs : List EntryValue)
    → after ≡ with_set before vs → ArePairsOf p before → AreValuesOf p vs → ArePairsOf p after
set_pairs p before after vs is was all =
    subst (ArePairsOf p) (sym is) (with_set_all p before vs was all)

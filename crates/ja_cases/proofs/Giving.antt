-- Values that are given at keys of a program.
use Rattle.std.specs.Prelude.{◌≡◌, ◌&&◌, if◌then◌else◌, map, List, [], ◌∷◌, Option, Some, Result, Ok, Err, All, IfOk, OnOk, IsTrue, IsSome, is_some, slice_get}
use Rattle.std.proofs.Common.{inl, inr, refl, ap, sym, ◌∙◌, subst, set, get_or}
use Rattle.std.proofs.lemmas.Bool.{cases_Bool, and_parts, cond-false, false≢true}
use Rattle.std.proofs.lemmas.List.Elements.{All-set, recursion_from_All}
use Rattle.std.proofs.lemmas.Option.{same_Some}
use Rattle.ja_base.specs.declared.ids.Context.{Context}
use Rattle.ja_base.specs.declared.ids.Label.{Label}
use Rattle.ja_graph.specs.declared.program.Program.{Program}
use Rattle.ja_abstract.specs.declared.abstraction.Key.{Key}
use Rattle.ja_abstract.specs.AbstractValue.{AbstractProperty, same_label}
use Rattle.ja_abstract.specs.AbstractState.{is_key, is_label, same_key}
use Rattle.ja_abstract.specs.Resolved.{Entries}
use Rattle.ja_abstract.proofs.Keys.{same_key-true}
use Rattle.ja_abstract.proofs.Labels.{same_label-true}
use Rattle.ja_table.specs.declared.table.ATable.{ATable}
use Rattle.ja_table.specs.declared.table.CallEdge.{CallEdge}
use Rattle.ja_table.specs.declared.table.ContextTable.{ContextTable}
use Rattle.ja_table.specs.Tables.{Fits, FitsContext}
use Rattle.ja_table.proofs.TableUpdates.{fits_by_keys}

pub given_keys : (p : Program) (was now : Entries) (label : Label) (key : Key)
    (q : AbstractProperty) → IsTrue (is_key p key)
    → ((l : Label) (k : Key) → IsSome (was l k) → IsTrue (is_key p k))
    → now ≡ (λ l k. if same_label label l && same_key key k then Some q else was l k)
    → (l : Label) (k : Key) → IsSome (now l k) → IsTrue (is_key p k)
given_keys p was now label key q in_range keys e l k there =
    let at = ap (λ (f : Entries). f l k) e in
    elim (cases_Bool (same_label label l && same_key key k)) [
      | inl t ↦ subst (λ i. IsTrue (is_key p i)) (same_key-true key k (and_parts _ _ t).1) in_range
      | inr n ↦ keys l k (subst (λ (o : Option AbstractProperty). IsSome o)
          (at ∙ cond-false _ _ _ n) there)
    ]

pub given_labels : (p : Program) (was now : Entries) (label : Label) (key : Key)
    (q : AbstractProperty) → IsTrue (is_label p label)
    → ((l : Label) (k : Key) → IsSome (was l k) → IsTrue (is_label p l))
    → now ≡ (λ l k. if same_label label l && same_key key k then Some q else was l k)
    → (l : Label) (k : Key) → IsSome (now l k) → IsTrue (is_label p l)
given_labels p was now label key q in_range labels e l k there =
    let at = ap (λ (f : Entries). f l k) e in
    elim (cases_Bool (same_label label l && same_key key k)) [
      | inl t ↦ subst (λ i. IsTrue (is_label p i)) (same_label-true label l (and_parts _ _ t).0)
          in_range
      | inr n ↦ labels l k (subst (λ (o : Option AbstractProperty). IsSome o)
          (at ∙ cond-false _ _ _ n) there)
    ]

-- ---- the first context of a table

lent_first : (xs : List ContextTable) (c f : ContextTable) → c ≡ get_or xs 0 c
    → slice_get xs 0 ≡ Some f → c ≡ f
lent_first [] c f lent at = absurd (false≢true (ap is_some at))
lent_first (e ∷ es) c f lent at = lent ∙ same_Some e f at

all_first : (P : ContextTable → Type 0) (xs : List ContextTable) (c : ContextTable) → All P xs
    → slice_get xs 0 ≡ Some c → P c
all_first P [] c all at = absurd (false≢true (ap is_some at))
all_first P (e ∷ es) c all at = subst P (same_Some e c at) (recursion_from_All P (e ∷ es) all).0

same_contexts : (xs : List ContextTable) (c d : ContextTable) → slice_get xs 0 ≡ Some c
    → d.context ≡ c.context
    → map (λ (x : ContextTable). x.context) (set xs 0 d) ≡ map (λ (x : ContextTable). x.context) xs
same_contexts [] c d at same = refl
same_contexts (e ∷ es) c d at same =
    ap (λ (x : Context). x ∷ map (λ (y : ContextTable). y.context) es)
    (same ∙ ap (λ (x : ContextTable). x.context) (sym (same_Some e c at)))

module _ (p : Program) (t : ATable) (c : ContextTable) (fits : Fits p t)
    (lent : c ≡ get_or t.contexts.items 0 c) where
  at_first : slice_get t.contexts.items 0 ≡ Some c
  at_first =
      fits.first_is ∙ ap Some (sym (lent_first t.contexts.items c fits.first lent fits.first_is))

  -- it fits the program
  pub lent_fits : FitsContext p c
  lent_fits = all_first (FitsContext p) t.contexts.items c fits.each at_first

  -- and where another one that fits it is put in its place, so does the table
  pub table_fits : (u : ATable) (d : ContextTable) → u.contexts.items ≡ set t.contexts.items 0 d
      → u.edges.items ≡ t.edges.items → d.context ≡ c.context → FitsContext p d → Fits p u
  table_fits u d items edges same h =
      fits_by_keys p t u fits (record {
        contexts =
            ap (map (λ (x : ContextTable). x.context)) items
            ∙ same_contexts t.contexts.items c d at_first same;
        edges = ap (map (λ (x : CallEdge). x.edge)) edges;
      }) (subst (All (FitsContext p)) (sym items)
      (All-set (FitsContext p) t.contexts.items 0 d h fits.each))

-- ---- what calls ensure

-- a fact where a call succeeds, from what it ensures there
pub on_ok : {A E : Type 0} (P : A → Type 0) (Q : Type 0) (r : Result A E) → ((a : A) → P a → Q)
    → IfOk r P → OnOk r Q
on_ok P Q (Ok a) f h = f a h
on_ok P Q (Err e) f h = h

-- The contexts that a table keeps in order are those of its table, in order, and each is found.
use Rattle.std.specs.Prelude.{◌≡◌, ◌*◌, ◌<◌, ℕ, Bool, IsTrue, All, filter, length, map, nat_lt, vec_len, List, [], Some}
use Rattle.std.specs.List.{AllByRecursion, range_with_len}
use Rattle.std.proofs.Common.{refl, sym, subst, ap, ◌∙◌, inl, inr, arith}
use Rattle.std.proofs.lemmas.Bool.{and_from, eq-eqb, lt-ltb, ltb-true, or_left, or_right}
use Rattle.std.proofs.lemmas.List.{length-map}
use Rattle.std.proofs.lemmas.List.Elements.{All-weaker}
use Rattle.ja_base.specs.declared.ids.Context.{Context}
use Rattle.ja_base.specs.declared.ids.Label.{Label}
use Rattle.ja_graph.specs.declared.program.Program.{Program}
use Rattle.ja_machine.proofs.Lists.{all_from}
use Rattle.ja_abstract.specs.AbstractState.{label_number, labels_below, labels_of}
use Rattle.ja_abstract.specs.Lists.{Member}
use Rattle.ja_abstract.proofs.Labels.{label_parts, site_labels}
use Rattle.ja_abstract.proofs.Lists.{member-flat_map, member-map}
use Rattle.ja_rows.specs.Listed.{context_at, contexts_with, all_contexts, contexts_of}
use Rattle.ja_rows.specs.Table.{same_context}
use Rattle.ja_value.specs.Labels.{label_at}
use Rattle.ja_value.proofs.LabelLemmas.{labels_range, number_label}
use Rattle.ja_table.specs.declared.table.ATable.{ATable}
use Rattle.ja_table.specs.declared.table.ContextTable.{ContextTable}
use Rattle.ja_table.specs.Order.{below_context, context_of, AreContextsOrdered}
use Rattle.ja_table.specs.Tables.{find_context, table_of, Fits, FitsContext, IsContext}
use Rattle.ja_table.proofs.Ascending.{from_map, from_filter, member-filter, number_listed, Ascends, ascends-filter, ascends-flat_map, ascends-map, ascends-range, keys_ascend, listed, of_key, same_elements, told}
use Rattle.ja_table.proofs.KeyOrders.{one_way}
use Rattle.ja_table.proofs.Places.{contexts_order}
use Rattle.ja_table.proofs.TableUpdates.{own_found}

-- one context comes before another
abbrev pub Comes : Context → Context → Type 0
Comes x y = IsTrue (below_context x y)

-- ---- all contexts of a program

abbrev pub label_before : Label → Label → Type 0
label_before l m = label_number l < label_number m

pub labels_ascend : (n : ℕ) → Ascends label_before (labels_below n)
labels_ascend n =
    subst (Ascends label_before) (sym (labels_range n))
    (ascends-map (λ i j. i < j) label_before label_at
    (λ i j h. rw (number_label i, number_label j) h) (range_with_len 0 (2 * n))
    (ascends-range 0 (2 * n)))

module _ (p : Program) where
  contexts_with_ascend : (f : ℕ) → Ascends Comes (contexts_with p f)
  contexts_with_ascend f =
      ascends-map label_before Comes (context_at f) (λ l m h.
      or_right (nat_lt f f) _ (and_from _ _ (eq-eqb f f refl)
      (lt-ltb (label_number l) (label_number m) h))) (labels_of p)
      (labels_ascend (length p.sites))

  function_of_with : (f : ℕ) (x : Context) → Member x (contexts_with p f) → f ≡ x.function.0
  function_of_with f x m =
      let r = from_map (context_at f) x (labels_of p) m in
      ap (λ (y : Context). y.function.0) r.2

  all_ascend : Ascends Comes (all_contexts p)
  all_ascend =
      ascends-flat_map (λ i j. i < j) Comes (contexts_with p) contexts_with_ascend (λ f g h x y m n.
      or_left _ _ (lt-ltb x.function.0 y.function.0
      (omega (arith, h, function_of_with f x m, function_of_with g y n))))
      (range_with_len 0 (length p.functions)) (ascends-range 0 (length p.functions))

  pub contexts_ascend : (test : Context → Bool) → Ascends Comes (filter test (all_contexts p))
  contexts_ascend test = ascends-filter Comes test (all_contexts p) all_ascend

  label_listed : (l : Label) → l.site.0 < length p.sites → Member l (labels_of p)
  label_listed l h =
      member-flat_map site_labels l.site.0 l (range_with_len 0 (length p.sites))
      (number_listed (length p.sites) l.site.0 h) (elim (label_parts l l.site refl) [
        | inl e ↦ inr (inl (sym e))
        | inr e ↦ inl (sym e)
      ])

  context_listed : (x : Context) → IsContext p x → Member x (all_contexts p)
  context_listed x is =
      member-flat_map (contexts_with p) x.function.0 x (range_with_len 0 (length p.functions))
      (number_listed (length p.functions) x.function.0 is.function)
      (member-map (context_at x.function.0) x.receiver (labels_of p)
      (label_listed x.receiver (ltb-true x.receiver.site.0 (length p.sites) is.receiver)))

-- ---- the contexts that are kept

abbrev pub kept_contexts : List ContextTable → List Context
kept_contexts cs = map context_of cs

-- where they are contexts of the program, in order
module _ (p : Program) (t : ATable) (each : All (FitsContext p) t.contexts.items) where
  kept_fits : (x : Context) → Member x (kept_contexts t.contexts.items) → IsContext p x
  kept_fits =
      of_key context_of (IsContext p) t.contexts.items (All-weaker (FitsContext p)
      (λ (c : ContextTable). IsContext p c.context) (λ c fits. fits.context) t.contexts.items each)

  pub reached_among : (x : Context) → IsTrue ((table_of t).context x)
      → Member x (contexts_of p (table_of t))
  reached_among x is =
      member-filter (table_of t).context x (all_contexts p) (context_listed p x (kept_fits x
      (listed context_of same_context contexts_order.exact t.contexts.items x is))) is

  pub contexts_kept : AreContextsOrdered t.contexts.items
      → contexts_of p (table_of t) ≡ kept_contexts t.contexts.items
  contexts_kept ordered =
      same_elements Comes (one_way contexts_order) (contexts_of p (table_of t))
      (kept_contexts t.contexts.items) (contexts_ascend p (table_of t).context)
      (keys_ascend context_of below_context t.contexts.items ordered)
      (λ x m. listed context_of same_context contexts_order.exact t.contexts.items x
      (from_filter (table_of t).context x (all_contexts p) m).1)
      (λ x m. reached_among x (told context_of same_context contexts_order.itself
      t.contexts.items x m))

pub kept_is_reached : (p : Program) (t : ATable) → Fits p t → (x : Context)
    → IsTrue ((table_of t).context x) → Member x (contexts_of p (table_of t))
kept_is_reached p t fits x is = reached_among p t fits.each x is

pub contexts_listed : (p : Program) (t : ATable) → Fits p t
    → contexts_of p (table_of t) ≡ kept_contexts t.contexts.items
contexts_listed p t fits = contexts_kept p t fits.each fits.ordered

-- how many there are
pub contexts_count : (p : Program) (t : ATable) → Fits p t
    → vec_len t.contexts ≡ length (contexts_of p (table_of t))
contexts_count p t fits =
    t.contexts.ok.0 ∙ sym (length-map t.contexts.items context_of)
    ∙ ap length (sym (contexts_listed p t fits))

-- each is the first of its context
pub find_kept : (cs : List ContextTable) → AreContextsOrdered cs
    → AllByRecursion (λ (c : ContextTable). find_context c.context cs ≡ Some c) cs
find_kept cs ordered =
    all_from (λ (c : ContextTable). find_context c.context cs ≡ Some c) cs
    (λ place c at. own_found cs [] place c c ordered at refl)

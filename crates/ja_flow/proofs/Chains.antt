-- Callees and their scope chains, and what is demanded for these.
use Rattle.std.proofs.Common.{◌≡◌, ◌&&◌, ℕ, Bool, true, false, List, [], ◌∷◌, if◌then◌else◌, refl, sym, ap, ◌∙◌}
use Rattle.std.specs.List.{filter, list_any}
use Rattle.std.proofs.Math.Bool.{or-false}
use Rattle.std.proofs.lemmas.Bool.{false≢true}
use Rattle.ja_base.specs.declared.ids.Label.{Label}
use Rattle.ja_graph.specs.declared.node.Node.{Node}
use Rattle.ja_graph.specs.declared.node.Node.TheVariants as node
use Rattle.ja_graph.specs.Program.{global}
use Rattle.ja_abstract.specs.AbstractValue.{Labels, of_label, of_labels, undefined_value}
use Rattle.ja_abstract.specs.AbstractState.{new, labels_of}
use Rattle.ja_abstract.specs.Made.{scope_key}
use Rattle.ja_abstract.specs.Reading.{View, both, demands_at, no_demands, some_label, slot}
use Rattle.ja_abstract.specs.Resolved.{Demands, demands_of}
use Rattle.ja_rows.specs.Calls.{callees, callee_value, chain_value, demands_of_chain, is_conversion}
use Rattle.ja_astate.specs.code.Pairs.{demands_over}
use Rattle.ja_transfer.proofs.Filters.{any_filter}
use Rattle.ja_transfer.proofs.WeakLemmas.{demands_at_set}

module _ (w : View) (n : Node) (f : ℕ) where
  abbrev called : Labels
  called = callees w.program w.state n f

  -- ---- of a call or a construction

  module _ (other : is_conversion n ≡ false) (set : Labels) (set_is : set ≡ called) where
    pub callee_is : of_labels set ≡ callee_value w n f
    callee_is =
        ap (λ (s : Labels). of_labels s) set_is
        ∙ ap (λ (b : Bool). if b then undefined_value else of_labels called) (sym other)

    pub chain_is : (members : List Label) → members ≡ filter set (labels_of w.program)
        → (chain : Labels)
        → chain ≡ (λ m. list_any (λ (l : Label). (slot w l scope_key).label m) members)
        → of_labels chain ≡ chain_value w n f
    chain_is members are chain is =
        let over = λ (s : Labels). of_labels (λ m. some_label w
        (λ l. s l && (slot w l scope_key).label m)) in
        ap (λ (s : Labels). of_labels s)
        (is ∙ ap {B = Labels} (λ (ls : List Label) m.
        list_any (λ (l : Label). (slot w l scope_key).label m) ls) are
        ∙ (λ i m. any_filter set (λ (l : Label). (slot w l scope_key).label m)
        (labels_of w.program) i))
        ∙ ap over set_is
        ∙ ap (λ (b : Bool). if b then of_label (new global) else over called) (sym other)

    pub chain_demanded : (members : List Label) → members ≡ filter set (labels_of w.program)
        → (first after : Demands) → after ≡ both first
        (demands_over members (λ l. demands_of w.state l scope_key))
        → after ≡ both first (demands_of_chain w n f)
    chain_demanded members are first after is =
        is ∙ ap (both first)
        (demands_at_set w set (λ l. demands_of w.state l scope_key) members are
        ∙ ap (λ (s : Labels). demands_at w s (λ l. demands_of w.state l scope_key)) set_is)

  -- ---- of a conversion

  module _ (conversion : is_conversion n ≡ true) where
    pub no_callee : undefined_value ≡ callee_value w n f
    no_callee =
        ap (λ (b : Bool). if b then undefined_value else of_labels called) (sym conversion)

    pub no_chain : of_label (new global) ≡ chain_value w n f
    no_chain =
        ap (λ (b : Bool). if b then of_label (new global) else of_labels (λ m. some_label w
        (λ l. called l && (slot w l scope_key).label m))) (sym conversion)

none_of : (ls : List Label) → list_any (λ (l : Label). false) ls ≡ false
none_of [] = refl
none_of (l ∷ ls) = none_of ls

none_demanded : (w : View) (n : Node) (f : ℕ) → is_conversion n ≡ true
    → demands_of_chain w n f ≡ no_demands
none_demanded w (node.Convert dst src kind other) f is =
    λ i m j. none_of (labels_of w.program) i
none_demanded w n f is = absurd (false≢true is)

pub demanded_alone : (w : View) (n : Node) (f : ℕ) → is_conversion n ≡ true → (first : Demands)
    → first ≡ both first (demands_of_chain w n f)
demanded_alone w n f is first =
    (λ i m j. sym (or-false (first m j)) i) ∙ ap (both first) (sym (none_demanded w n f is))

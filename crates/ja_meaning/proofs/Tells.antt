-- What properties tell of an object of a heap: joins, lists of joins.
use Rattle.std.specs.Prelude.{List, [], ◌∷◌, map}
use Rattle.std.specs.List.{list_any}
use Rattle.std.proofs.Common.{subst, inl, inr}
use Rattle.std.proofs.lemmas.Bool.{or_left, or_right, or_cases, false≢true}
use Rattle.ja_base.specs.declared.ids.Label.{Label}
use Rattle.ja_machine.specs.declared.machine.Addr.{Addr}
use Rattle.ja_machine.specs.declared.machine.Heap.{Heap}
use Rattle.ja_abstract.specs.AbstractValue.{AbstractProperty, same_label, join_properties}
use Rattle.ja_abstract.specs.Resolved.{join_all}
use Rattle.ja_abstract.specs.Keys.{Spot}
use Rattle.ja_abstract.specs.Contents.{content}
use Rattle.ja_abstract.proofs.Labels.{IsAmong, same_label-true}
use Rattle.ja_meaning.specs.Meaning.{Tells}
use Rattle.ja_meaning.proofs.Values.{knows-join_left, knows-join_right}

module _ (e c : Heap) (b : Addr) (y : Spot) where
  pub tells-join_left : (q r : AbstractProperty) → Tells e c b y q
      → Tells e c b y (join_properties q r)
  tells-join_left q r (inl k) = inl (knows-join_left c q r (content c b y) k)
  tells-join_left q r (inr k) = inr (or_left _ _ k.0, k.1)

  pub tells-join_right : (q r : AbstractProperty) → Tells e c b y r
      → Tells e c b y (join_properties q r)
  tells-join_right q r (inl k) = inl (knows-join_right c q r (content c b y) k)
  tells-join_right q r (inr k) = inr (or_right _ _ k.0, k.1)

  -- what one of a list tells their join does
  pub tells-join_all : (f : Label → AbstractProperty) (labels : List Label) (l : Label)
      → IsAmong l labels → Tells e c b y (f l) → Tells e c b y (join_all (map f labels))
  tells-join_all f [] l a t = absurd (false≢true a)
  tells-join_all f (m ∷ ms) l a t =
      elim (or_cases (same_label l m) (list_any (same_label l) ms) a) [
        | inl s ↦
            tells-join_left (f m) (join_all (map f ms))
            (subst (λ k. Tells e c b y (f k)) (same_label-true l m s) t)
        | inr r ↦ tells-join_right (f m) (join_all (map f ms)) (tells-join_all f ms l r t)
      ]

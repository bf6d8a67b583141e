-- The first of several expressions, and the others.
use Rattle.std.proofs.Common.{◌≡◌, ◌≢◌, List, [], ◌∷◌, Some, slice_get, remove, refl}
use Rattle.ja_base.specs.declared.ids.Place.{Place}
use Rattle.ja_syntax.specs.declared.tree.Expression.{Expression}
use Rattle.ja_syntax.specs.declared.tree.Expression.TheVariants as e
use Rattle.ja_grammar.specs.Forms.{sequence}

pub sequence_none : (place : Place) (xs : List Expression) → xs ≡ []
    → e.This place ≡ sequence place xs
unfolding sequence
sequence_none place [] h = refl
sequence_none place (x ∷ xs) h = cc h

pub sequence_one : (place : Place) (xs ys : List Expression) (x : Expression)
    → slice_get xs 0 ≡ Some x → ys ≡ remove xs 0 → ys ≡ [] → x ≡ sequence place xs
unfolding sequence
sequence_one place [] ys x h r n = cc h
sequence_one place (z ∷ []) ys x h r n = cc h
sequence_one place (z ∷ w ∷ zs) ys x h r n = cc (r, n)

pub sequence_more : (place : Place) (xs ys : List Expression) (x : Expression)
    → slice_get xs 0 ≡ Some x → ys ≡ remove xs 0 → ys ≢ []
    → e.Sequence x ys place ≡ sequence place xs
unfolding sequence
sequence_more place [] ys x h r n = cc h
sequence_more place (z ∷ []) ys x h r n = absurd (n r)
sequence_more place (z ∷ w ∷ zs) ys x h r n = cc (h, r)

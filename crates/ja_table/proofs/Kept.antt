-- What stands at a place of the lists that a table keeps.
use Rattle.std.specs.Prelude.{◌≡◌, ◌<◌, ℕ, zero, suc, IsTrue, List, [], ◌∷◌, Some, length, map, get_or, slice_get}
use Rattle.std.proofs.Common.{sym, ap, ◌∙◌}
use Rattle.std.proofs.lemmas.Map.Keys.{any_passes_from_place}
use Rattle.std.proofs.lemmas.Option.{same_Some, slice_get-get_or}
use Rattle.ja_base.proofs.Options.{none_not_some}
use Rattle.ja_rows.specs.Table.{same_edge}
use Rattle.ja_rows.proofs.Applied.{same_edge-self}
use Rattle.ja_table.specs.declared.table.ATable.{ATable}
use Rattle.ja_table.specs.declared.table.CallEdge.{CallEdge}
use Rattle.ja_table.specs.Tables.{table_of}

mapped_at : {X Y : Type 0} (f : X → Y) (xs : List X) (k : ℕ) (x : X) → slice_get xs k ≡ Some x
    → slice_get (map f xs) k ≡ Some (f x)
mapped_at f [] k x is = absurd (none_not_some is)
mapped_at f (y ∷ ys) zero x is = ap (λ z. Some (f z)) (same_Some y x is)
mapped_at f (y ∷ ys) (suc k) x is = mapped_at f ys k x is

-- at the same place of lists with the same images stand elements with the same image
pub same_at : {X Y : Type 0} (f : X → Y) (xs ys : List X) (k : ℕ) (x y : X)
    → map f xs ≡ map f ys → slice_get xs k ≡ Some x → slice_get ys k ≡ Some y → f x ≡ f y
same_at f xs ys k x y same x_is y_is =
    same_Some (f x) (f y) (sym (mapped_at f xs k x x_is) ∙ ap (λ zs. slice_get zs k) same
    ∙ mapped_at f ys k y y_is)

pub slice_at : {X : Type 0} (xs : List X) (k : ℕ) (x : X) → k < length xs → x ≡ get_or xs k x
    → slice_get xs k ≡ Some x
slice_at xs k x h is = slice_get-get_or xs k x h ∙ ap Some (sym is)

-- an edge of a table is one of its edges by the meaning
pub edge_there : (t : ATable) (k : ℕ) (d : CallEdge) → slice_get t.edges.items k ≡ Some d
    → IsTrue ((table_of t).edge d.edge)
edge_there t k d is =
    any_passes_from_place (λ (c : CallEdge). same_edge c.edge d.edge) t.edges.items k d is
    (same_edge-self d.edge)

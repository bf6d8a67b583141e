-- Where a text stands in another (ES3 15.5.4.7, 15.5.4.8).
use Rattle.std.specs.Prelude.{ℕ, zero, suc, nat_eq, if◌then◌else◌, List, [], ◌∷◌, drop, Option, Some, None}
use Rattle.std.specs.List.{starts_with}

-- the first place at which it stands, in what stands from a place on
unfoldable pub first_in : List ℕ → List ℕ → ℕ → Option ℕ
first_in mark [] k = if starts_with nat_eq [] mark then Some k else None
first_in mark (u ∷ us) k =
    if starts_with nat_eq (u ∷ us) mark then Some k else first_in mark us (suc k)

-- the last place not behind one
unfoldable pub last_in : List ℕ → List ℕ → ℕ → Option ℕ
last_in mark t zero = if starts_with nat_eq t mark then Some 0 else None
last_in mark t (suc k) =
    if starts_with nat_eq (drop (suc k) t) mark then Some (suc k) else last_in mark t k

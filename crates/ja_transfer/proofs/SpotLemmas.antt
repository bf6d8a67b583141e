-- The one label and the one name where writes are strong.
use Rattle.std.proofs.Common.{◌≡◌, Bool, true, false, cond, List, [], ◌∷◌, Option, Some, None, ap}
use Rattle.std.specs.Option.{option_map, option_and_then}
use Rattle.std.proofs.lemmas.Option.{same_Some}
use Rattle.ja_base.specs.declared.ids.Label.{Label}
use Rattle.ja_base.proofs.Options.{none_not_some}
use Rattle.ja_abstract.specs.declared.abstraction.Key.{Key}
use Rattle.ja_abstract.specs.declared.abstraction.Key.TheVariants as key
use Rattle.ja_abstract.specs.Writes.{new_alone, one_name}
use Rattle.ja_transfer.specs.code.Members.{strong_spot}

alone_by : (old : Bool) (m l : Label) → ◌≡◌ {A = Option Label} (cond old None (Some m)) (Some l)
    → m ≡ l
alone_by true m l is = absurd (none_not_some is)
alone_by false m l is = cc

-- the list has that label alone
pub new_alone_is : (ls : List Label) (l : Label) → new_alone ls ≡ Some l → ls ≡ l ∷ []
new_alone_is [] l is = absurd (none_not_some is)
new_alone_is (m ∷ []) l is = ap (λ (x : Label). x ∷ []) (alone_by m.old m l is)
new_alone_is (m ∷ n ∷ ls) l is = absurd (none_not_some is)

one_name_is : (ks : List Key) (k : Key) → one_name ks ≡ Some k → ks ≡ k ∷ []
one_name_is [] k is = absurd (none_not_some is)
one_name_is (key.Name n ∷ []) k is = cc
one_name_is (key.Name n ∷ j ∷ ks) k is = absurd (none_not_some is)
one_name_is (key.OtherIndex ∷ ks) k is = absurd (none_not_some is)
one_name_is (key.OtherName ∷ ks) k is = absurd (none_not_some is)
one_name_is (key.Slot s ∷ ks) k is = absurd (none_not_some is)

abbrev spot_of : Option Label → Option Key → Option (Label × Key)
spot_of o n = option_and_then (λ l. option_map (λ k. (l, k)) n) o

spot_by : (o : Option Label) (n : Option Key) (l : Label) (k : Key) → spot_of o n ≡ Some (l, k)
    → (o ≡ Some l) × (n ≡ Some k)
spot_by None n l k is = absurd (none_not_some is)
spot_by (Some m) None l k is = absurd (none_not_some is)
spot_by (Some m) (Some j) l k is =
    let e : ◌≡◌ {A = Label × Key} (m, j) (l, k) = same_Some (m, j) (l, k) is in
    (ap (λ (x : Label × Key). Some x.0) e, ap (λ (x : Label × Key). Some x.1) e)

-- each list has one element
pub spot_is : (ls : List Label) (ks : List Key) (l : Label) (k : Key)
    → strong_spot ls ks ≡ Some (l, k) → (ls ≡ l ∷ []) × (ks ≡ k ∷ [])
spot_is ls ks l k is =
    let (alone, name) = spot_by (new_alone ls) (one_name ks) l k is in
    (new_alone_is ls l alone, one_name_is ks k name)

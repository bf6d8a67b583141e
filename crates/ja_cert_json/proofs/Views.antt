-- A value, level by level, and a `BTreeMap` beside the members that it stands for.
use Rattle.std.proofs.Common.{◌≡◌, List, [], ◌∷◌, String, BTreeMap, Global, Ordering, Less, Equal, Greater, string_bytes, string_cmp, refl, ◌∙◌, rules}
use Rattle.std.specs.Ordering.{match_ordering}
use Rattle.std.specs.BTreeMap.{insert_entry}
use Rattle.serde_json.specs.Data.{object, put}
use Rattle.std.specs.declared.rc.Rc.{Rc}
use Rattle.ja_cert_json.specs.View.{view, members_view}
use Rattle.ja_cert_json.specs.declared.value.Json.{Json, Object, the_lemmas}

abbrev pub Entry : Type 0
Entry = String Global × Json

members_view-match_ordering : (o : Ordering) (a b c : List Entry)
    → members_view (match_ordering o a b c)
    ≡ match_ordering o (members_view a) (members_view b) (members_view c)
members_view-match_ordering Less a b c = refl
members_view-match_ordering Equal a b c = refl
members_view-match_ordering Greater a b c = refl

-- a member that goes in stands among the others, in the place of one of its name
pub members_view-insert_entry : (es : List Entry) (k : String Global) (v : Json)
    → members_view (insert_entry string_cmp es k v) ≡ put (string_bytes k) (view v) (members_view es)
members_view-insert_entry [] k v = refl
members_view-insert_entry (e ∷ es) k v =
    members_view-match_ordering (string_cmp k e.0) _ _ _ ∙ rw (members_view-insert_entry es k v)

pub view-Object : (m : Rc (BTreeMap (String Global) Json) Global)
    → view (Object m) ≡ object (members_view m.value.entries)
view-Object m = search (rules, the_lemmas)

-- What the objects of a label may have at a key themselves, and what a deletion does there.
use Rattle.std.specs.Prelude.{◌||◌, ◌++◌, if◌then◌else◌, Bool, false, List, [], ◌∷◌}
use Rattle.std.specs.List.{list_any}
use Rattle.ja_base.specs.declared.ids.Label.{Label}
use Rattle.ja_abstract.specs.declared.abstraction.Key.{Key}
use Rattle.ja_abstract.specs.AbstractValue.{absent_property}
use Rattle.ja_abstract.specs.Reading.{View, has_present}
use Rattle.ja_abstract.specs.Writes.{Write, joins_at, own_at, is_missing, may_keep, may_delete, delete_list}
use Rattle.ja_aheap.specs.Objects.{writes_of}
use Rattle.ja_transfer.specs.declared.deletes.OwnAt.{OwnAt}
use Rattle.ja_transfer.specs.declared.deletes.DeletesAt.{DeletesAt}

-- at a label and a key
abbrev pub is_there : View → Label → Key → Bool
is_there w l k = has_present w (own_at w l k).value

abbrev pub own_flags : View → Label → Key → OwnAt
own_flags w l k = record {
  is_missing = is_missing w l k;
  is_there = is_there w l k;
  may_keep = may_keep w l k;
  may_delete = may_delete w l k;
}

-- at a label and some keys a deletion may give true, and false, and it writes
pub record Deleting : Type 0 where
  pub is_deleted : Bool
  pub is_kept : Bool
  pub writes : List Write

abbrev pub deleting_of : DeletesAt → Deleting
deleting_of deletes = record {
  is_deleted = deletes.is_deleted;
  is_kept = deletes.is_kept;
  writes = writes_of deletes.writes;
}

abbrev pub deletes_some : View → List Key → Label → Bool
deletes_some w keys l = list_any (λ (k : Key). is_missing w l k || may_delete w l k) keys

abbrev pub keeps_some : View → List Key → Label → Bool
keeps_some w keys l = list_any (may_keep w l) keys

abbrev pub deleting : View → Label → List Key → Deleting
deleting w l keys = record {
  is_deleted = deletes_some w keys l;
  is_kept = keeps_some w keys l;
  writes = delete_list w keys l;
}

abbrev pub nothing_deleted : Deleting
nothing_deleted = record { is_deleted = false; is_kept = false; writes = [] }

abbrev pub delete_more : Deleting → Key → OwnAt → Deleting
delete_more before k own = record {
  is_deleted = before.is_deleted || (own.is_missing || own.may_delete);
  is_kept = before.is_kept || own.may_keep;
  writes = before.writes ++ (if own.may_delete then joins_at k absent_property ∷ [] else []);
}

-- What is met at the objects of a label that are asked for some keys: along prototypes, and along
-- scope chains.
use Rattle.std.specs.Prelude.{◌&&◌, if◌then◌else◌, List}
use Rattle.ja_base.specs.declared.ids.Label.{Label}
use Rattle.ja_abstract.specs.declared.abstraction.Key.{Key}
use Rattle.ja_abstract.specs.AbstractValue.{no_property, bare, of_label}
use Rattle.ja_abstract.specs.Reading.{View, both, demands_if, own, demands_of_own, slot, present_property, may_be_absent, next_prototype, ends_at, get, demands_of_get, may_have, may_lack, one_label, next_scope}
use Rattle.ja_abstract.specs.Resolved.{demands_of, prototype, outer}
use Rattle.ja_astate.specs.code.Walks.{Meeting}

-- what the objects have themselves, and their prototypes where they may lack the keys
abbrev pub object_met : View → List Key → Label → Meeting
object_met w keys l =
    record {
      labels = next_prototype w keys l;
      property = present_property w (own w l keys);
      may_end = ends_at w keys l;
      demands =
          both (demands_of_own w l keys)
          (demands_if (may_be_absent w l keys) (demands_of w.state l prototype));
    }

-- the objects themselves, where they or their prototypes may have the name; and the next ones of
-- the chain where they may lack it
abbrev pub scope_met : View → List Key → Label → Meeting
scope_met w keys l =
    record {
      labels = next_scope w keys l;
      property =
          if may_have w (get w (one_label l) keys) then bare (of_label l)
          else no_property;
      may_end = may_lack (get w (one_label l) keys) && (slot w l outer).flags.absent;
      demands =
          both (demands_of_get w (one_label l) keys)
          (demands_if (may_lack (get w (one_label l) keys)) (demands_of w.state l outer));
    }

-- What walks from label to label meet, each label asked once.
use Rattle.std.specs.Prelude.{Bool, false, ◌||◌, List, [], ◌∷◌, filter}
use Rattle.ja_base.specs.declared.ids.Label.{Label}
use Rattle.ja_abstract.specs.AbstractValue.{Labels, AbstractProperty, no_labels, no_property, join_properties}
use Rattle.ja_abstract.specs.Reading.{no_demands, both}
use Rattle.ja_abstract.specs.Resolved.{Demands, reached}
use Rattle.ja_value.specs.Value.{labels_in, property_of}
use Rattle.ja_aheap.specs.Objects.{demands_in}
use Rattle.ja_astate.specs.declared.met.Met.{Met}

-- at the objects of a label: where the walk goes on, what is found, whether the walk may end, and
-- the pairs of the entry that are demanded
pub record Meeting : Type 0 where
  pub labels : Labels
  pub property : AbstractProperty
  pub may_end : Bool
  pub demands : Demands

abbrev pub met_of : Met → Meeting
met_of m =
    record {
      labels = labels_in m.labels;
      property = property_of m.property;
      may_end = m.may_end;
      demands = demands_in m.demands;
    }

abbrev pub nothing : Meeting
nothing =
    record {
      labels = no_labels;
      property = no_property;
      may_end = false;
      demands = no_demands;
    }

abbrev pub join_meetings : Meeting → Meeting → Meeting
join_meetings a b = record {
  labels = λ l. a.labels l || b.labels l;
  property = join_properties a.property b.property;
  may_end = a.may_end || b.may_end;
  demands = both a.demands b.demands;
}

-- at all labels of a list
abbrev pub met_over : (Label → Meeting) → List Label → Meeting
met_over meets [] = nothing
met_over meets (l ∷ ls) = join_meetings (meets l) (met_over meets ls)

-- at all labels that a walk reaches, which are the labels of the meeting
abbrev pub met_from : (Label → Meeting) → List Label → Labels → Meeting
met_from meets labels start =
    let set = reached (λ l. (meets l).labels) labels start in
    record (met_over meets (filter set labels)) { labels = set }

-- What a put does at the objects of a label and a key, and at those of labels and keys.
use Rattle.std.specs.Prelude.{◌||◌, ◌++◌, Bool, false, List, [], Option, is_some, unwrap_or}
use Rattle.std.specs.List.{list_any}
use Rattle.std.specs.Option.{option_map}
use Rattle.ja_base.specs.declared.ids.Label.{Label}
use Rattle.ja_abstract.specs.declared.abstraction.Key.{Key}
use Rattle.ja_abstract.specs.AbstractValue.{AbstractValue}
use Rattle.ja_abstract.specs.Resolved.{Demands}
use Rattle.ja_abstract.specs.Reading.{View, may_refuse, no_demands, both}
use Rattle.ja_abstract.specs.Writes.{Write, asked_at, accepted_writes, puts_something, put_list, demands_of_put}
use Rattle.ja_aheap.specs.Objects.{writes_of, demands_in}
use Rattle.ja_transfer.specs.declared.puts.PutAt.{PutAt}
use Rattle.ja_transfer.specs.declared.puts.PutsAt.{PutsAt}

-- at a label and a key it may be refused, it writes something, or neither, and it demands pairs
pub record OnePut : Type 0 where
  pub refuses : Bool
  pub writes : Option (List Write)
  pub demands : Demands

abbrev pub put_of : PutAt → OnePut
put_of put = record {
  refuses = put.refuses;
  writes = option_map writes_of put.writes;
  demands = demands_in put.demands;
}

abbrev pub one_put : View → Label → Key → AbstractValue → OnePut
one_put w l k v = record {
  refuses = may_refuse (asked_at w l k);
  writes = accepted_writes w l k v;
  demands = demands_of_put w l k;
}

-- at a label and some keys
pub record Putting : Type 0 where
  pub is_something : Bool
  pub writes : List Write
  pub demands : Demands

abbrev pub putting_of : PutsAt → Putting
putting_of puts = record {
  is_something = puts.is_something;
  writes = writes_of puts.writes;
  demands = demands_in puts.demands;
}

abbrev pub demands_of_keys : View → List Key → Label → Demands
demands_of_keys w keys l m j = list_any (λ (k : Key). demands_of_put w l k m j) keys

abbrev pub putting : View → Label → List Key → AbstractValue → Putting
putting w l keys v = record {
  is_something = list_any (λ (k : Key). puts_something w l k v) keys;
  writes = put_list w keys v l;
  demands = demands_of_keys w keys l;
}

abbrev pub nothing_put : Putting
nothing_put = record { is_something = false; writes = []; demands = no_demands }

abbrev pub put_more : Putting → OnePut → Putting
put_more before put = record {
  is_something = before.is_something || (put.refuses || is_some put.writes);
  writes = before.writes ++ unwrap_or put.writes [];
  demands = both before.demands put.demands;
}

-- at some labels and keys it may be refused or write something
abbrev pub puts_at_some : View → List Label → List Key → AbstractValue → Bool
puts_at_some w labels keys v =
    list_any (λ (l : Label). list_any (λ (k : Key). puts_something w l k v) keys) labels

-- What a certificate says of a table: of labels those of the program, and of internal properties no
-- attributes.
use Rattle.std.specs.Prelude.{◌&&◌}
use Rattle.std.specs.Option.{option_map}
use Rattle.ja_graph.specs.declared.program.Program.{Program}
use Rattle.ja_abstract.specs.declared.abstraction.AAttrs.{AAttrs}
use Rattle.ja_abstract.specs.declared.abstraction.Key.{Key}
use Rattle.ja_abstract.specs.declared.abstraction.Key.TheVariants as key
use Rattle.ja_abstract.specs.AbstractValue.{AbstractValue, AbstractProperty, unknown_attrs}
use Rattle.ja_abstract.specs.AbstractState.{AbstractState, is_label}
use Rattle.ja_rows.specs.Table.{Table}

-- an object has a label of the program
abbrev pub said_value : Program → AbstractValue → AbstractValue
said_value p v =
    record v {
      label =
          λ l. is_label p l && v.label l;
    }

-- an internal property has no attributes
abbrev pub said_attrs : Key → AAttrs → AAttrs
said_attrs (key.Slot s) a = unknown_attrs
said_attrs k a = a

abbrev pub said_property : Program → Key → AbstractProperty → AbstractProperty
said_property p k q =
    record { value = said_value p q.value; attrs = said_attrs k q.attrs }

abbrev pub said_state : Program → AbstractState → AbstractState
said_state p a =
    record a {
      register = λ r. said_value p (a.register r);
      property =
          λ l k. said_property p k (a.property l k);
    }

abbrev pub said_table : Program → Table → Table
said_table p t =
    record t {
      state = λ x n. option_map (said_state p) (t.state x n);
      entry =
          λ x l k. option_map (said_property p k) (t.entry x l k);
    }

-- What is there when a run begins is what the standard describes, computed.
use Rattle.std.proofs.Common.{◌≡◌, length, map, Some, refl}
use Rattle.ja_graph.specs.WellFormed.{builtin_names}
use Rattle.ja_prelude.specs.Described.{Described, descriptions, names_in_order, object_at}
use Rattle.ja_prelude.specs.Table.{builtin_number, opening_objects}

pub objects :
    map (λ (d : Described). object_at d.path) descriptions
    ≡ map (λ (d : Described). Some d) descriptions
unfolding opening_objects builtin_number
objects = refl

pub no_others : length opening_objects ≡ length descriptions
unfolding opening_objects
no_others = refl

pub names : builtin_names ≡ names_in_order
names = refl

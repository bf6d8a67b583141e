-- The nodes of the built-in functions and of devices.
use Rattle.std.specs.Prelude.{ℕ, if◌then◌else◌, List, [], map, slice_get}
use Rattle.std.specs.Option.{option_map_or}
use Rattle.ja_base.specs.declared.ids.Reg.{Reg}
use Rattle.ja_prim.specs.declared.signature.Kinds.{Kinds}
use Rattle.ja_prim.specs.declared.signature.Signature.{Signature}
use Rattle.ja_graph.specs.declared.node.NodeInfo.{NodeInfo}
use Rattle.ja_abstract.specs.declared.abstraction.NumberPart.TheVariants as number_part
use Rattle.ja_abstract.specs.declared.abstraction.TextPart.TheVariants as text_part
use Rattle.ja_abstract.specs.AbstractValue.{AbstractValue, no_value, no_flags}
use Rattle.ja_abstract.specs.Reading.{View, no_demands}
use Rattle.ja_abstract.specs.Operations.{operation}
use Rattle.ja_rows.specs.Out.{Out, out, sets, at}

abbrev pub device_value : Kinds → AbstractValue
device_value k = record no_value {
  flags = record no_flags {
    undefined = k.undefined;
    null = k.null;
    is_true = k.boolean;
    is_false = k.boolean;
    nan = k.number;
  };
  number = if k.number then number_part.Whole else number_part.Nothing;
  text = if k.text then text_part.Text else text_part.Nothing;
}

-- an operation of the built-in functions
abbrev pub transfer_intrinsic : View → NodeInfo → Reg → ℕ → List Reg → Out
transfer_intrinsic w i dst which args =
    let r = operation which w (map (at w) args) in
    out (sets w dst r.value i.next) r.demands

-- the answer of a device: any value of the kinds of its signature
abbrev pub transfer_device : View → NodeInfo → Reg → ℕ → Out
transfer_device w i dst which =
    let answers = λ (s : Signature). sets w dst (device_value s.kinds) i.next in
    out (option_map_or answers (slice_get w.program.signatures which) []) no_demands

-- The transcript of a run.
use Rattle.std.specs.Prelude.{ℕ, List, [], ◌∷◌, ◌++◌, slice_get}
use Rattle.std.specs.Fmt.{decimal}
use Rattle.std.specs.List.{flat_map}
use Rattle.std.specs.Option.{option_map_or}
use lib.Chars.{codes}
use Rattle.ja_prim.specs.declared.primitive.Primitive.{Primitive}
use Rattle.ja_prim.specs.declared.signature.Signature.{Signature}
use Rattle.ja_graph.specs.declared.program.Program.{Program}
use Rattle.ja_texts.specs.Texts.{place_text, plain, scope_name}
use Rattle.ja_run.specs.Ends.{primitive_text}
use Rattle.ja_run.specs.declared.ended.CallRecord.{CallRecord}
use Rattle.ja_run.specs.declared.ended.RunEnd.{RunEnd}
use Rattle.ja_run.specs.declared.ended.RunEnd.TheVariants.{Normal, Uncaught, Scope, Device, Limit}
use Rattle.ja_run.specs.declared.ended.Ended.{Ended}

-- the name of the device of a number
abbrev pub device_name : Program → ℕ → List ℕ
device_name p which =
    option_map_or (λ (s : Signature). plain s.name) (slice_get p.signatures which) []

-- arguments with commas between them
abbrev pub arguments_text : List Primitive → List ℕ
arguments_text [] = []
arguments_text (q ∷ qs) =
    primitive_text q ++ flat_map (λ (r : Primitive). codes ", " ++ primitive_text r) qs

-- a call that a device answered
abbrev pub call_text : Program → CallRecord → List ℕ
call_text p r =
    codes "call " ++ device_name p r.device ++ codes "(" ++ arguments_text r.args ++ codes ") = "
    ++ primitive_text r.answer ++ codes "\n"

-- how it ended: normally, with a value that nothing caught, out of the profile with the kind and
-- the place, at a device that failed, or at its limit of steps
abbrev pub end_text : Program → RunEnd → List ℕ
end_text p Normal = codes "end normal\n"
end_text p (Uncaught value) = codes "end uncaught " ++ value ++ codes "\n"
end_text p (Scope kind place) =
    codes "end scope " ++ scope_name kind ++ codes " " ++ place_text place ++ codes "\n"
end_text p (Device which) = codes "end device " ++ device_name p which ++ codes "\n"
end_text p Limit = codes "end steps\n"

-- the calls, the end, and how many steps were made
abbrev pub run_text : Program → Ended → List ℕ
run_text p e =
    codes "tajs run 1\n" ++ flat_map (call_text p) e.calls ++ end_text p e.end ++ codes "steps "
    ++ decimal e.steps ++ codes "\n"

-- The kinds of a device's answers, one after another.
use Rattle.std.specs.Prelude.{ℕ, ◌==◌, if◌then◌else◌, Bool, List, [], ◌∷◌}
use Rattle.std.specs.List.{list_any}
use lib.Chars.{codes}
use Rattle.serde_json.specs.Data.{Data, string}
use Rattle.ja_prim.specs.declared.signature.Kinds.{Kinds}
use Rattle.ja_cert_read.specs.declared.devices.Kind.{Kind}
use Rattle.ja_cert_read.specs.declared.devices.Kind.TheVariants.{Undefined, Null, Boolean, Number, Text}

abbrev pub kind_place : Kind → ℕ
kind_place Undefined = 0
kind_place Null = 1
kind_place Boolean = 2
kind_place Number = 3
kind_place Text = 4

-- the kind at a place
abbrev pub kind_at : ℕ → Kind
kind_at n =
    if n == 0 then Undefined else if n == 1 then Null else if n == 2 then Boolean
    else if n == 3 then Number else Text

abbrev pub kind_word : Kind → List ℕ
kind_word Undefined = codes "undefined"
kind_word Null = codes "null"
kind_word Boolean = codes "boolean"
kind_word Number = codes "number"
kind_word Text = codes "string"

abbrev pub kind_data : Kind → Data
kind_data k = string (kind_word k)

abbrev pub kind_rank : Kind → List ℕ
kind_rank k = kind_place k ∷ []

abbrev pub has_kind : List Kind → Kind → Bool
has_kind kinds k = list_any (λ j. kind_place j == kind_place k) kinds

abbrev pub kinds_in : List Kind → Kinds
kinds_in kinds =
    record {
      undefined = has_kind kinds Undefined;
      null = has_kind kinds Null;
      boolean = has_kind kinds Boolean;
      number = has_kind kinds Number;
      text = has_kind kinds Text;
    }

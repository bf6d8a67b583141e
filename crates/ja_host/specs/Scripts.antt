-- The host devices of the programs. Each answers from a list, and repeats its last answer.
use Rattle.std.specs.Prelude.{◌≡◌, ℕ, true, false, pos, List, [], ◌∷◌, map, Some}
use Rattle.std.specs.String.{string_bytes}
use lib.Chars.{codes}
use Rattle.ja_prim.specs.declared.primitive.Num.TheVariants as num
use Rattle.ja_prim.specs.declared.primitive.Primitive.{Primitive}
use Rattle.ja_prim.specs.declared.primitive.Primitive.TheVariants as primitive
use Rattle.ja_prim.specs.declared.signature.Kinds.{Kinds}
use Rattle.ja_prim.specs.declared.signature.TheConstants.Kinds.{BOOLEAN, NUMBER, TEXT, UNDEFINED}
use Rattle.ja_device.specs.Devices.{AllSeen, Seen}
use Rattle.ja_device.specs.declared.scripted.Scripted.{Scripted}

-- what is seen of a device of this name and these kinds of answers that was not called yet
abbrev pub uncalled : List ℕ → Kinds → Seen
uncalled name kinds = record { name = name; kinds = kinds; heard = Some []; faults = 0 }

-- what is seen of one that answers from a list
abbrev pub seen_of : Scripted → Seen
seen_of s =
    record {
      name = string_bytes s.name;
      kinds = s.kinds;
      heard = Some s.heard.items;
      faults = s.faults;
    }

-- .. which gives these answers, was not called yet, and fails at no call
pub record IsScript (name : List ℕ) (kinds : Kinds) (answers : List Primitive) (s : Scripted)
    : Type 0 where
  pub seen : seen_of s ≡ uncalled name kinds
  pub gives : s.answers.items ≡ answers
  pub never_fails : s.fail_at.items ≡ []

-- ---- the four devices

abbrev pub IsInput : Scripted → Type 0
IsInput =
    IsScript (codes "input") BOOLEAN
    (map (λ b. primitive.Bool b) (true ∷ true ∷ true ∷ false ∷ []))

abbrev pub IsNumber : Scripted → Type 0
IsNumber =
    IsScript (codes "number") NUMBER
    (map (λ n. primitive.Number (num.Whole (pos n))) (0 ∷ 1 ∷ 2 ∷ 3 ∷ 5 ∷ 8 ∷ []))

abbrev pub IsText : Scripted → Type 0
IsText =
    IsScript (codes "text") TEXT
    (map (λ t. primitive.Text t) (codes "a" ∷ codes "b" ∷ [] ∷ []))

abbrev pub IsPrint : Scripted → Type 0
IsPrint = IsScript (codes "print") UNDEFINED (primitive.Undefined ∷ [])

-- in their order
pub record AreScripts (scripts : List Scripted) : Type 0 where
  pub input : Scripted
  pub number : Scripted
  pub text : Scripted
  pub print : Scripted
  pub listed : scripts ≡ input ∷ number ∷ text ∷ print ∷ []
  pub is_input : IsInput input
  pub is_number : IsNumber number
  pub is_text : IsText text
  pub is_print : IsPrint print

-- what is seen of them
abbrev pub the_devices : AllSeen
the_devices =
    record {
      devices =
          uncalled (codes "input") BOOLEAN ∷ uncalled (codes "number") NUMBER
          ∷ uncalled (codes "text") TEXT ∷ uncalled (codes "print") UNDEFINED ∷ [];
      failed = 0;
    }

-- How a property is set: changed where it is in a slot, and else put behind the others.
use Rattle.std.proofs.Common.{◌≡◌, ◌∙◌, ℕ, List, [], ◌∷◌, ◌++◌, Option, Some, None, get_or, refl, sym, ap}
use Rattle.std.specs.Prelude.{Bool, Box, find, slice_set}
use Rattle.std.specs.Global.{Global}
use Rattle.std.specs.HashMap.{HashMap}
use Rattle.std.specs.Option.{option_map}
use Rattle.ja_graph.specs.declared.attrs.Attrs.{Attrs}
use Rattle.ja_graph.specs.declared.attrs.TheConstants.{NO_ATTRS}
use Rattle.ja_machine.specs.declared.machine.Content.{Content}
use Rattle.ja_machine.specs.declared.machine.Content.TheVariants as contents
use Rattle.ja_machine.specs.declared.machine.Property.{Property}
use Rattle.ja_machine.specs.declared.machine.Value.{Value}
use Rattle.ja_machine.specs.Objects.{with_property}
use Rattle.ja_machine.specs.Writes.{new_property, with_value, with_definition}
use Rattle.ja_heap.specs.code.Slots.{live, slot_of, IsApart, IsPlaced}
use Rattle.ja_heap.proofs.InSlots as slots

-- what becomes of a property that is there, the one that is made of a name where there is none, and
-- the properties behind that, as the machine says it
pub record Setting : Type 0 where
  pub change : Property → Property
  pub made : List ℕ → Property
  pub write : List Property → List ℕ → List Property
  pub named : (q : Property) → (change q).name ≡ q.name
  pub says : (name : List ℕ) (qs : List Property)
      → slots.with_first name change (made name) qs ≡ write qs name

abbrev pub value_set : Value → Setting
value_set v = record {
  change = λ q. record q { content = contents.Value v };
  made = λ n. new_property n (contents.Value v) NO_ATTRS;
  write = λ qs n. with_value qs n v;
  named = λ q. refl;
  says = λ name qs. slots.value_first name v qs;
}

abbrev pub defined : Content → Attrs → Setting
defined content attrs = record {
  change = λ q. record q { content = content; attrs = attrs };
  made = λ n. new_property n content attrs;
  write = λ qs n. with_definition qs n content attrs;
  named = λ q. refl;
  says = λ name qs. slots.definition_first name content attrs qs;
}

abbrev pub put : Content → Attrs → Bool → Setting
put content attrs shared = record {
  change = λ q. record q { content = content; attrs = attrs; shared = shared };
  made = λ n. record { name = n; content = content; attrs = attrs; shared = shared };
  write = λ qs n. with_property qs
      (record { name = n; content = content; attrs = attrs; shared = shared });
  named = λ q. refl;
  says = λ name qs. slots.property_first name content attrs shared qs;
}

-- what is found in the slots as they are seen is found in them
pub found_in : {seen all : List (Option Property)} {r at : Option ℕ} (name : List ℕ) → seen ≡ all
    → r ≡ slot_of name seen → r ≡ at → slot_of name all ≡ at
found_in name same found is = ap (slot_of name) (sym same) ∙ (sym found ∙ is)

-- a name that is in no slot is that of no property
pub is_new : {n : List ℕ} (name : List ℕ) (all : List (Option Property)) (old : List Property)
    → live all ≡ old → slot_of name all ≡ None → n ≡ name → find (slots.is_named n) old ≡ None
is_new name all old view none same =
    ap (λ k. find (slots.is_named k) old) same
    ∙ (ap (find (slots.is_named name)) (sym view) ∙ slots.not_found name all none)

module _ (s : Setting) (name : List ℕ) (all : List (Option Property)) where
  -- the slots stay apart, and a table one of them
  pub set_kept : {S : Type 0} (places : Option (Box (HashMap (List ℕ) ℕ S) Global)) (i : ℕ)
      (x new : Option Property) → slot_of name all ≡ Some i → x ≡ get_or all i x
      → new ≡ option_map s.change x → IsApart all × IsPlaced places all
      → IsApart (slice_set all i new) × IsPlaced places (slice_set all i new)
  set_kept places i x new at lent changed =
      slots.changed_kept s.change s.named places all i x new (slots.within name all i at) lent
      changed

  -- where it is in a slot
  pub set_there : (old : List Property) (i : ℕ) (x new : Option Property) → live all ≡ old
      → slot_of name all ≡ Some i → x ≡ get_or all i x → new ≡ option_map s.change x
      → live (slice_set all i new) ≡ s.write old name
  set_there old i x new view at lent changed =
      ap live (slots.changed_is s.change all i x new (slots.within name all i at) lent changed)
      ∙ (slots.replaced name s.change (s.made name) all i at
      ∙ (s.says name (live all) ∙ ap (λ qs. s.write qs name) view))

  -- where it is in none
  pub set_last : {n : List ℕ} (old : List Property) → live all ≡ old → slot_of name all ≡ None
      → n ≡ name → old ++ s.made n ∷ [] ≡ s.write old name
  set_last old view none same =
      ap (λ k. old ++ s.made k ∷ []) same
      ∙ (ap (λ (qs : List Property). qs ++ s.made name ∷ []) (sym view)
      ∙ (slots.added name s.change (s.made name) all none
      ∙ (s.says name (live all) ∙ ap (λ qs. s.write qs name) view)))

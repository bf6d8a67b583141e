use Rattle.std.proofs.Common.{◌≡◌, ◌+◌, ℕ, List, Bool, false, true, cond, nat_le, nat_lt, length, Option, Some, None, sym, ◌∙◌, ap, arith}
use Rattle.std.specs.Option.{option_map_or}
use Rattle.std.proofs.lemmas.Bool.Decides.{nat_tests}
use Rattle.serde_json.specs.Data.{Data, string}
use Rattle.serde_json.specs.Find.{as_str}
use Rattle.ja_cert_json.specs.View.{view}
use Rattle.ja_prim.specs.Texts.{same_text}
use Rattle.ja_graph.specs.declared.program.Program.{Program}
use Rattle.ja_abstract.specs.declared.abstraction.Key.{Key}
use Rattle.ja_abstract.specs.declared.abstraction.Key.TheVariants as key
use Rattle.ja_abstract.specs.declared.abstraction.Slot.TheVariants as slot
use Rattle.ja_cert.specs.Certificate.{key_data}
use Rattle.ja_cert.specs.Wrong.{are_attrs, attrs_wrong, here_unless, is_slot, is_word, unknown_attrs}
use Rattle.ja_cert_parts.specs.code.Ranks.{are_attrs_at, key_place}
use Rattle.ja_cert_parts.specs.code.Reading.{Tells}
use Rattle.ja_cert_parts.specs.declared.fault.Fault.{Fault}
use Rattle.ja_cert_parts.proofs.FaultLemmas.{none_unless, tells_same, tells_unless}
use Rattle.ja_cert_parts.proofs.KeyLemmas.{key_known}
use Rattle.ja_cert_parts.proofs.WordLemmas.{string_is}
use Rattle.ja_cert_parts.proofs.attributes.read_attrs.Goals as goal

is_slot_place : ℕ → Option ℕ → Bool
is_slot_place names place = option_map_or (λ (n : ℕ). nat_le (names + 2) n) place false

slot_known : (p : Program) (k : Key)
    → is_slot p (key_data k) ≡ is_slot_place (length p.names) (key_place p k)
unfolding is_slot_place
slot_known p k = ap (is_slot_place (length p.names)) (key_known p k)

name_place : (names n : ℕ) → is_slot_place names (cond (nat_lt n names) (Some n) None) ≡ false
unfolding is_slot_place
name_place names n = grind (arith, nat_tests)

-- a word at the key as data
attrs_by : (p : Program) (k : Key) (d : Data) (b : Bool)
    → is_slot_place (length p.names) (key_place p k) ≡ b
    → attrs_wrong p (key_data k) d
    ≡ here_unless (is_word (cond b (same_text unknown_attrs) are_attrs) d)
unfolding attrs_wrong
attrs_by p k d b is =
    ap (λ (t : Bool). here_unless (is_word (cond t (same_text unknown_attrs) are_attrs) d))
    (slot_known p k ∙ is)

attrs_known : (p : Program) (k : Key) (d : Data)
    → attrs_wrong p (key_data k) d ≡ here_unless (is_word (are_attrs_at k) d)
unfolding is_slot_place
attrs_known p (key.Name n) d =
    attrs_by p (key.Name n) d false (name_place (length p.names) n.0)
attrs_known p key.OtherIndex d =
    attrs_by p key.OtherIndex d false (grind (arith, nat_tests))
attrs_known p key.OtherName d = attrs_by p key.OtherName d false (grind (arith, nat_tests))
attrs_known p (key.Slot slot.Prototype) d =
    attrs_by p (key.Slot slot.Prototype) d true (grind (arith, nat_tests))
attrs_known p (key.Slot slot.Outer) d =
    attrs_by p (key.Slot slot.Outer) d true (grind (arith, nat_tests))
attrs_known p (key.Slot slot.Scope) d =
    attrs_by p (key.Slot slot.Scope) d true (grind (arith, nat_tests))
attrs_known p (key.Slot slot.Value) d =
    attrs_by p (key.Slot slot.Value) d true (grind (arith, nat_tests))

told : (p : Program) (k : Key) (d : Data) (f : Fault) → is_word (are_attrs_at k) d ≡ false
    → Tells (here_unless false) f → Tells (attrs_wrong p (key_data k) d) f
told p k d f other here =
    tells_same (here_unless (is_word (are_attrs_at k) d)) (attrs_wrong p (key_data k) d) f
    (sym (attrs_known p k d)) (tells_unless (is_word (are_attrs_at k) d) f other here)

word_at : (k : Key) (d : Data) (o : Option (List ℕ)) → o ≡ as_str d
    → is_word (are_attrs_at k) d ≡ option_map_or (are_attrs_at k) o false
word_at k d o is = ap (λ (w : Option (List ℕ)). option_map_or (are_attrs_at k) w false) (sym is)

pub returns-in_default : goal.returns-in_default
returns-in_default c =
    told c.args.program.now c.args.key (view c.args.value.now) c.here.result
    (word_at c.args.key (view c.args.value.now) None c.in_default.ensures) c.here.ensures

pub returns-in-Some-attrs_at : goal.returns-in-Some-attrs_at
returns-in-Some-attrs_at c =
    let d = view c.args.value.now in
    let text = c.as_bytes.ensures.value in
    let read = c.in-Some-attrs_at.ensures in (
      attrs_known c.args.program.now c.args.key d
          ∙ none_unless (is_word (are_attrs_at c.args.key) d)
          (word_at c.args.key d (Some c.in-Some.text.now) c.in-Some.ensures
          ∙ ap (are_attrs_at c.args.key) (sym text) ∙ read.0),
      (ap string (read.1 ∙ text) ∙ string_is d c.in-Some.text.now c.in-Some.ensures, read.2),
    )

pub returns-in-None : goal.returns-in-None
returns-in-None c =
    let d = view c.args.value.now in
    told c.args.program.now c.args.key d c.here-in-None.result
    (word_at c.args.key d (Some c.in-Some.text.now) c.in-Some.ensures
    ∙ ap (are_attrs_at c.args.key) (sym c.as_bytes.ensures.value) ∙ c.in-None.ensures)
    c.here-in-None.ensures

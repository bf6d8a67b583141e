-- Keys: their numbers tell them apart, each name of a program has its own, and the key of a name is
-- that of its text.
use Rattle.std.specs.Prelude.{◌≡◌, ◌<◌, ◌+◌, ℕ, zero, suc, cond, nat_eq, nat_lt, length, IsTrue, List, [], slice_get, Some, None, get_or}
use Rattle.std.specs.List.{position_or_len}
use Rattle.std.specs.Option.{option_map_or}
use Rattle.std.proofs.Common.{refl, sym, subst, ap, ◌∙◌, arith, Bool, true, false, Option}
use Rattle.std.proofs.lemmas.Bool.{false_from_ne_true, eqb-true, eq-eqb, lt-ltb, cond-true}
use Rattle.std.proofs.lemmas.Option.{unwrap_or-slice_get, slice_get-get_or}
use Rattle.std.proofs.lemmas.List.Sums.{position_or_len_is}
use Rattle.std.proofs.lemmas.List.Quantifiers.{position-Some}
use lib.Pointwise.{pointwise, bytes_decides}
use Rattle.ja_base.specs.declared.ids.NameId.{NameId}
use Rattle.ja_prim.specs.Texts.{same_text}
use Rattle.ja_graph.specs.declared.program.Program.{Program}
use Rattle.ja_graph.specs.WellFormed.{IsWellFormed}
use Rattle.ja_machine.specs.Nodes.{name_text}
use Rattle.ja_abstract.specs.declared.abstraction.Slot.TheVariants as slot
use Rattle.ja_abstract.specs.declared.abstraction.Key.{Key}
use Rattle.ja_abstract.specs.declared.abstraction.Key.TheVariants as key
use Rattle.ja_abstract.specs.AbstractState.{key_number, same_key, name_key}
use Rattle.ja_abstract.specs.Keys.{named, name_of, rest_key, key_of}
use Rattle.ja_abstract.specs.declared.abstraction.Slot.{Slot}
use Rattle.ja_abstract.proofs.Texts

-- the key of a number
abbrev key_from : ℕ → Key
key_from zero = key.Slot slot.Prototype
key_from (suc zero) = key.Slot slot.Outer
key_from (suc (suc zero)) = key.Slot slot.Scope
key_from (suc (suc (suc zero))) = key.Slot slot.Value
key_from (suc (suc (suc (suc zero)))) = key.OtherIndex
key_from (suc (suc (suc (suc (suc zero))))) = key.OtherName
key_from (suc (suc (suc (suc (suc (suc n)))))) = key.Name (record { 0 = n })

-- six more, as a number of patterns
six_more : (n : ℕ) → 6 + n ≡ suc (suc (suc (suc (suc (suc n)))))
six_more n = omega arith

-- the number of a key gives the key back
key_from-number : (k : Key) → key_from (key_number k) ≡ k
key_from-number (key.Slot slot.Prototype) = refl
key_from-number (key.Slot slot.Outer) = refl
key_from-number (key.Slot slot.Scope) = refl
key_from-number (key.Slot slot.Value) = refl
key_from-number key.OtherIndex = refl
key_from-number key.OtherName = refl
key_from-number (key.Name n) = ap key_from (six_more n.0)

-- keys of one number are equal
pub same_key-true : (j k : Key) → IsTrue (same_key j k) → j ≡ k
same_key-true j k e =
    sym (key_from-number j) ∙ (ap key_from (eqb-true (key_number j) (key_number k) e)
    ∙ key_from-number k)

-- a key is the same as itself
pub same_key-self : (k : Key) → IsTrue (same_key k k)
same_key-self k = eq-eqb (key_number k) (key_number k) refl

-- equal keys are the same to the test
pub same_key_from : (j k : Key) → j ≡ k → IsTrue (same_key j k)
same_key_from j k e = subst (λ i. IsTrue (same_key j i)) e (same_key-self j)

-- ---- names

-- a list in which no text stands twice has the text of place i first at i
position_of : (names : List (List ℕ)) → ((i j : ℕ) (t : List ℕ) → slice_get names i ≡ Some t
    → slice_get names j ≡ Some t → i ≡ j) → (i : ℕ) → i < length names
    → position_or_len (λ name. pointwise nat_eq name (get_or names i [])) names ≡ i
position_of names once i h =
    position_or_len_is (λ name. pointwise nat_eq name (get_or names i [])) names i [] (omega arith)
    (λ k below. false_from_ne_true (pointwise nat_eq (get_or names k []) (get_or names i [])) (λ e.
    let same : get_or names k [] ≡ get_or names i
    [] = (bytes_decides (get_or names k []) (get_or names i [])).0 e in
    let at_k : slice_get names k ≡ Some (get_or names i []) = slice_get-get_or names k []
    (omega arith) ∙ ap Some same in
    let places : k ≡ i = once k i (get_or names i []) at_k (slice_get-get_or names i [] h) in
    absurd (omega arith)))
    (λ _. (bytes_decides (get_or names i []) (get_or names i [])).1 refl)

-- the name of the text of a name is that name
name_of-name : (p : Program) → IsWellFormed p → (n : NameId) → n.0 < length p.names
    → name_of p (get_or p.names n.0 []) ≡ Some n.0
name_of-name p good n h =
    let at : position_or_len (λ name. pointwise nat_eq name (get_or p.names n.0 [])) p.names
    ≡ n.0 = position_of p.names good.distinct n.0 h in
    subst (λ i. cond (nat_lt i (length p.names)) (Some i) None ≡ Some n.0) (sym at)
    (cond-true (nat_lt n.0 (length p.names)) (Some n.0) None (lt-ltb n.0 (length p.names) h))

-- the key of a name's text is the name's
pub key_of-name : (p : Program) → IsWellFormed p → (n : NameId) → n.0 < length p.names
    → key_of p (named (name_text p n)) ≡ key.Name n
key_of-name p good n h =
    subst (λ t. key_of p (named t) ≡ key.Name n) (sym (unwrap_or-slice_get p.names n.0 []))
    (ap (λ o. option_map_or name_key o (rest_key (get_or p.names n.0 [])))
    (name_of-name p good n h))

-- ---- keys and names

named_key : (o : Option ℕ) (b : Bool) (n : NameId)
    → option_map_or name_key o (cond b key.OtherIndex key.OtherName) ≡ key.Name n → o ≡ Some n.0
named_key None true n e = cc
named_key None false n e = cc
named_key (Some m) b n e = cc

-- no text has the key of a slot
pub no_slot_key : (o : Option ℕ) (b : Bool) (s : Slot)
    → option_map_or name_key o (cond b key.OtherIndex key.OtherName) ≡ key.Slot s → ⊥
no_slot_key None true s e = cc
no_slot_key None false s e = cc
no_slot_key (Some m) b s e = cc

-- the text of a name's key is the name's
pub text_of_key : (p : Program) (t : List ℕ) (n : NameId) → key_of p (named t) ≡ key.Name n
    → name_text p n ≡ t
text_of_key p t n e =
    let at : (n.0 < length p.names) × (same_text (get_or p.names n.0 []) t ≡ true)
    × ((k : ℕ) → k < n.0 → same_text (get_or p.names k []) t ≡ false) = position-Some
    (λ name. same_text name t) p.names n.0 [] (named_key (name_of p t) _ n e) in
    unwrap_or-slice_get p.names n.0 [] ∙ Texts.text_same _ t at.1

-- .. in a program
pub no_slot_of_text : (p : Program) (t : List ℕ) (s : Slot) → key_of p (named t) ≡ key.Slot s → ⊥
no_slot_of_text p t s e = no_slot_key (name_of p t) _ s e

-- Flags and attributes are the same exactly if `==` says so.
use Rattle.std.proofs.Common.{◌≡◌, Bool, true, ◌&&◌, ◌↔◌, refl, sym, ◌∙◌, subst}
use Rattle.std.specs.Bool.{beq, IsTrue}
use Rattle.std.specs.Cmp.{booleans_Decides}
use Rattle.std.proofs.lemmas.Bool.{and_parts, and_from}
use Rattle.ja_abstract.specs.declared.abstraction.Flags.{Flags}
use Rattle.ja_abstract.specs.declared.abstraction.May.{May}
use Rattle.ja_abstract.specs.declared.abstraction.AAttrs.{AAttrs}

abbrev flags_eq : Flags → Flags → Bool
flags_eq a b =
    beq a.absent b.absent && (beq a.entry b.entry
    && (beq a.row b.row && (beq a.undefined b.undefined
    && (beq a.null b.null && (beq a.is_true b.is_true
    && (beq a.is_false b.is_false && beq a.nan b.nan))))))

abbrev may_eq : May → May → Bool
may_eq a b = beq a.set b.set && beq a.unset b.unset

abbrev attrs_eq : AAttrs → AAttrs → Bool
attrs_eq a b =
    may_eq a.read_only b.read_only && (may_eq a.dont_enum b.dont_enum
    && may_eq a.dont_delete b.dont_delete)

same : (x y : Bool) → beq x y ≡ true → x ≡ y
same x y h = (booleans_Decides x y).0 h

itself : (x : Bool) → beq x x ≡ true
itself x = (booleans_Decides x x).1 refl

-- one comparison, and the rest
next : (x y rest : Bool) → (beq x y && rest) ≡ true → (x ≡ y) × (rest ≡ true)
next x y rest h = let parts = and_parts (beq x y) rest h in (same x y parts.0, parts.1)

flags_same : (a b : Flags) → flags_eq a b ≡ true → a ≡ b
flags_same a b h =
    let h1 = next a.absent b.absent _ h in
    let h2 = next a.entry b.entry _ h1.1 in
    let h3 = next a.row b.row _ h2.1 in
    let h4 = next a.undefined b.undefined _ h3.1 in
    let h5 = next a.null b.null _ h4.1 in
    let h6 = next a.is_true b.is_true _ h5.1 in
    let h7 = next a.is_false b.is_false _ h6.1 in
    let last : a.nan ≡ b.nan = same a.nan b.nan h7.1 in
    λ i. record {
      absent = h1.0 i;
      entry = h2.0 i;
      row = h3.0 i;
      undefined = h4.0 i;
      null = h5.0 i;
      is_true = h6.0 i;
      is_false = h7.0 i;
      nan = last i;
    }

flags_itself : (a : Flags) → flags_eq a a ≡ true
flags_itself a =
    rw (
      itself a.absent,
      itself a.entry,
      itself a.row,
      itself a.undefined,
      itself a.null,
      itself a.is_true,
      itself a.is_false,
      itself a.nan,
    ) refl

may_same : (a b : May) → may_eq a b ≡ true → a ≡ b
may_same a b h =
    let set = next a.set b.set _ h in
    let unset : a.unset ≡ b.unset = same a.unset b.unset set.1 in
    λ i. record { set = set.0 i; unset = unset i }

attrs_same : (a b : AAttrs) → attrs_eq a b ≡ true → a ≡ b
attrs_same a b h =
    let first = and_parts (may_eq a.read_only b.read_only) _ h in
    let rest = and_parts (may_eq a.dont_enum b.dont_enum) (may_eq a.dont_delete b.dont_delete)
    first.1 in
    let read_only = may_same a.read_only b.read_only first.0 in
    let dont_enum = may_same a.dont_enum b.dont_enum rest.0 in
    let dont_delete = may_same a.dont_delete b.dont_delete rest.1 in
    λ i. record { read_only = read_only i; dont_enum = dont_enum i; dont_delete = dont_delete i }

may_itself : (a : May) → may_eq a a ≡ true
may_itself a = and_from _ _ (itself a.set) (itself a.unset)

attrs_itself : (a : AAttrs) → attrs_eq a a ≡ true
attrs_itself a =
    and_from _ _ (may_itself a.read_only) (and_from _ _ (may_itself a.dont_enum)
    (may_itself a.dont_delete))

pub flags_decided : (a b : Flags) (r : Bool) → r ≡ flags_eq a b → IsTrue r ↔ (a ≡ b)
flags_decided a b r e =
    let P : Flags → Type 0 = λ x. flags_eq a x ≡ true in
    ((λ t. flags_same a b (sym e ∙ t)), (λ s. e ∙ subst P s (flags_itself a)))

pub attrs_decided : (a b : AAttrs) (r : Bool) → r ≡ attrs_eq a b → IsTrue r ↔ (a ≡ b)
attrs_decided a b r e =
    let P : AAttrs → Type 0 = λ x. attrs_eq a x ≡ true in
    ((λ t. attrs_same a b (sym e ∙ t)), (λ s. e ∙ subst P s (attrs_itself a)))

-- From a reading that gave a value to what each of its parts gave, part by part; and entering a
-- label.
use Rattle.std.proofs.Common.{◌≡◌, ◌≢◌, false, ◌∷◌, sym, ap, ◌∙◌, subst}
use Rattle.ja_base.specs.declared.ids.Place.{Place}
use Rattle.ja_lex.specs.declared.token.Token.{Token}
use Rattle.ja_syntax.specs.declared.symbol.Symbol.{Symbol}
use Rattle.ja_syntax.specs.declared.symbol.Symbol.TheVariants.{End}
use Rattle.ja_grammar.specs.declared.fault.Refusal.TheVariants.{DeepLabel}
use Rattle.ja_grammar.specs.Input.{Tokens, head, next, behind, Outcome, Done, Parser, and_then, take_token, enter, opening, expect, Rules}
use Rattle.ja_grammar.specs.Productions.{Is, HasRoom}
use Rattle.ja_grammar.specs.ReadStatement.{enter_label}
use Rattle.ja_grammar.proofs.Opening.{opening_inverse}
use Rattle.ja_grammar.proofs.Outcomes.{cons_of, then_inverse, expect_inverse, unless_reads, unless_inverse, enter_done, entered}

-- the same outcome, its rest written otherwise
pub moved : {A : Type 0} {o : Outcome A} {a : A} {i j : Tokens} → o ≡ Done a i → i ≡ j
    → o ≡ Done a j
moved {o = o} {a = a} e h = subst (λ x. o ≡ Done a x) h e

-- the first part gave a value, and the rest of the rule went on
pub after : {A B : Type 0} (o : Outcome A) {f : A → Parser B} {v : B} {r : Tokens} {P : Type 0}
    → and_then o f ≡ Done v r
    → ((a : A) (m : Tokens) → o ≡ Done a m → f a m ≡ Done v r → P) → P
after o {f} e go = let s = then_inverse o f e in go s.0 s.1 s.2 s.3

-- tokens that begin with this symbol
pub begins : (P : Tokens → Type 0) (κ : Symbol) (i : Tokens) → κ ≢ End → next i ≡ κ
    → ((t : Token) (m : Tokens) → Is κ t → P (t ∷ m)) → P i
begins P κ i more h go =
    subst P (sym (cons_of i (λ ends. more (sym h ∙ ends)))) (go (head i) (behind i) h)

-- a rule that begins with an opening token
pub after_opening : {B : Type 0} (g : Rules) (κ : Symbol) {f : Token → Parser B}
    (P : Tokens → Type 0) (i : Tokens) {v : B} {r : Tokens} → κ ≢ End
    → and_then (opening g κ i) f ≡ Done v r
    → ((t : Token) (m : Tokens) → Is κ t → HasRoom g (t ∷ m) → f t m ≡ Done v r → P (t ∷ m))
    → P i
after_opening g κ {f} P i more e go =
    let s = then_inverse (opening g κ i) f e in
    let t = opening_inverse g κ i more s.2 in
    subst P (sym t.1) (go s.0 s.1 t.2 (subst (λ x. HasRoom g x) t.1 t.0) s.3)

-- a token of this symbol inside a rule
pub after_expect : {B : Type 0} (κ : Symbol) {f : Token → Parser B} (i : Tokens) {v : B}
    {r : Tokens} {P : Type 0} → κ ≢ End
    → and_then (expect κ i) f ≡ Done v r → ((t : Token) (m : Tokens) → i ≡ t ∷ m → Is κ t
    → f t m ≡ Done v r → P) → P
after_expect κ {f} i more e go =
    let s = then_inverse (expect κ i) f e in
    let t = expect_inverse κ i more s.2 in
    go s.0 s.1 t.0 t.1 s.3

-- an opening token inside a rule
pub after_open : {B : Type 0} (g : Rules) (κ : Symbol) {f : Token → Parser B} (i : Tokens) {v : B}
    {r : Tokens} {P : Type 0} → κ ≢ End
    → and_then (opening g κ i) f ≡ Done v r
    → ((t : Token) (m : Tokens) → i ≡ t ∷ m → Is κ t → HasRoom g (t ∷ m) → f t m ≡ Done v r → P)
    → P
after_open g κ {f} i more e go =
    let s = then_inverse (opening g κ i) f e in
    let t = opening_inverse g κ i more s.2 in
    go s.0 s.1 t.1 t.2 (subst (λ x. HasRoom g x) t.1 t.0) s.3

-- a token that counts
pub after_enter : {B : Type 0} (g : Rules) (t : Token) (i : Tokens) (f : Token → Parser B) {v : B}
    {r : Tokens} {P : Type 0}
    → and_then (enter g (t ∷ i)) f ≡ Done v r → (HasRoom g (t ∷ i) → f t i ≡ Done v r → P) → P
after_enter g t i f e go =
    let s = then_inverse (enter g (t ∷ i)) f e in
    let room = entered g (t ∷ i) s.2 in
    go room (sym (ap (λ o. and_then o f) (enter_done g t i room)) ∙ e)

-- ---- the `:` of a label

pub enter_label_done : (g : Rules) (place : Place) (t : Token) (r : Tokens)
    → g (DeepLabel place) (t ∷ r) ≡ false → enter_label g place (t ∷ r) ≡ Done t r
unfolding enter_label
enter_label_done g place t r room = unless_reads g (DeepLabel place) take_token (t ∷ r) room

pub labelled_entered : (g : Rules) (place : Place) (i : Tokens) {t : Token} {r : Tokens}
    → enter_label g place i ≡ Done t r
    → (g (DeepLabel place) i ≡ false) × (take_token i ≡ Done t r)
unfolding enter_label
labelled_entered g place i e = unless_inverse g (DeepLabel place) take_token i e

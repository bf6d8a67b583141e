-- What the options of each command are to clap: those that it reads without a fault.
use Rattle.std.proofs.Common.{◌≡◌, ◌⊎◌, ◌||◌, ◌&&◌, ◌∙◌, ◌++◌, Bool, true, false, cond, List, []}
use Rattle.std.proofs.Common.{◌∷◌, Option, Some, None, is_some, not, refl, sym, ap, subst, inl, inr}
use Rattle.std.proofs.Common.{fold}
use Rattle.std.proofs.Common.{ap₂, append_assoc, codes}
use Rattle.std.specs.Str.{bytes_eq}
use Rattle.std.proofs.lemmas.Slice.Eq.{bytes_eq-Decides}
use Rattle.clap.specs.Values.{bool_text}
use Rattle.clap.specs.Walk.{Row, Rule, Text, arg_by_long, has_long, has_row, takes_values, used}
use Rattle.clap.specs.Walk.{with_default, first_of, one_of}
use Rattle.clap.specs.Simple.{Shape, built_leaf, filled, inherited, marked_built}
use Rattle.clap.specs.Simple.{with_index, with_leaf_noted}
use Rattle.clap.specs.Kinds.{Kinds, or_else}
use Rattle.clap.specs.Faults.{defaults_fault, use_fault, values_fault}
use Rattle.clap.specs.declared.error.kind.ErrorKind.TheVariants as kind
use Rattle.ja_words.specs.Words.{AreBoth, IsFlag, IsOption, Word}
use Rattle.ja_words.specs.code.Apps.{analyse_app, check_app, flag_rule, generate_app}
use Rattle.ja_words.specs.code.Apps.{required_rule, run_app, tajs_app, value_rule}
use Rattle.ja_words.proofs.NoFaults.{or_else_split}
use Rattle.ja_words.proofs.Leaves.{AreUses, IsNamed, IsPlainLeaf, Stands, Use, use_in, uses_fault}
use Rattle.ja_words.proofs.Leaves.{uses_rows}
use Rattle.ja_words.proofs.Leaves.{values}
use Rattle.std.proofs.lemmas.Option.{same_Some}
use Rattle.ja_words.proofs.Lexed.{long_word}

-- ---- the commands as they are built

abbrev pub leaf_of : Shape → Shape
leaf_of s = built_leaf (inherited (with_leaf_noted (marked_built tajs_app.top)) s)

abbrev pub analyse_leaf : Shape
analyse_leaf = leaf_of analyse_app.top

abbrev pub check_leaf : Shape
check_leaf = leaf_of check_app.top

abbrev pub run_leaf : Shape
run_leaf = leaf_of run_app.top

abbrev pub generate_leaf : Shape
generate_leaf = leaf_of generate_app.top

abbrev pub cert_rule : Rule
cert_rule = with_index 1 (filled (flag_rule (codes "cert")))

abbrev pub budget_rule : Rule
budget_rule = with_index 1 (filled (value_rule (codes "budget")))

abbrev pub steps_rule : Rule
steps_rule = with_index 1 (filled (value_rule (codes "steps")))

abbrev pub number_rule : Rule
number_rule = with_index 1 (filled (required_rule (codes "number")))

-- ---- the option of a name

first_or_later : (r : Rule) (c : List Rule) (name : Text) (a : Rule)
    → arg_by_long (r ∷ c) name ≡ Some a
    → ((has_long r name ≡ true) × (a ≡ r)) ⊎ (arg_by_long c name ≡ Some a)
first_or_later r c name a e = go (not (is_some r.index)) (has_long r name) refl e
  where
    go : (x y : Bool) → has_long r name ≡ y → cond (x && y) (Some r) (arg_by_long c name) ≡ Some a
        → ((has_long r name ≡ true) × (a ≡ r)) ⊎ (arg_by_long c name ≡ Some a)
    go true true is e = inl (is, sym (same_Some r a e))
    go true false is e = inr e
    go false y is e = inr e

is_name_of : (id name : Text) → (bytes_eq id name || false) ≡ true → name ≡ id
is_name_of id name e = go (bytes_eq id name) refl e
  where
    go : (b : Bool) → bytes_eq id name ≡ b → (b || false) ≡ true → name ≡ id
    go true is e = sym ((bytes_eq-Decides id name).0 is)
    go false is e = absurd (cc e)

abbrev IsRule : Text → Rule → Text → Rule → Type 0
IsRule id r name a = (name ≡ id) × (a ≡ r)

analyse_rule : (name : Text) (a : Rule) → arg_by_long analyse_leaf.rules name ≡ Some a
    → IsRule (codes "cert") cert_rule name a ⊎ IsRule (codes "budget") budget_rule name a
analyse_rule name a e = elim (first_or_later cert_rule (budget_rule ∷ []) name a e) [
  | inl h ↦ inl (is_name_of (codes "cert") name h.0, h.1)
  | inr later ↦ elim (first_or_later budget_rule [] name a later) [
    | inl h ↦ inr (is_name_of (codes "budget") name h.0, h.1)
    | inr none ↦ absurd (cc none)
  ]
]

run_rule : (name : Text) (a : Rule) → arg_by_long run_leaf.rules name ≡ Some a
    → IsRule (codes "steps") steps_rule name a
run_rule name a e = elim (first_or_later steps_rule [] name a e) [
  | inl h ↦ (is_name_of (codes "steps") name h.0, h.1)
  | inr none ↦ absurd (cc none)
]

generate_rule : (name : Text) (a : Rule) → arg_by_long generate_leaf.rules name ≡ Some a
    → IsRule (codes "number") number_rule name a
generate_rule name a e = elim (first_or_later number_rule [] name a e) [
  | inl h ↦ (is_name_of (codes "number") name h.0, h.1)
  | inr none ↦ absurd (cc none)
]

cert_named : IsNamed analyse_leaf.rules cert_rule
cert_named = record { by_id = refl; one = λ e. absurd (cc e) }

pub budget_named : IsNamed analyse_leaf.rules budget_rule
budget_named = record { by_id = refl; one = λ e. refl }

pub steps_named : IsNamed run_leaf.rules steps_rule
steps_named = record { by_id = refl; one = λ e. refl }

pub number_named : IsNamed generate_leaf.rules number_rule
number_named = record { by_id = refl; one = λ e. refl }

pub analyse_is_plain : IsPlainLeaf analyse_leaf
analyse_is_plain = record {
  no_short = λ x. refl;
  no_index = refl;
  named = λ name a e. elim (analyse_rule name a e) [
    | inl h ↦ subst (IsNamed analyse_leaf.rules) (sym h.1) cert_named
    | inr h ↦ subst (IsNamed analyse_leaf.rules) (sym h.1) budget_named
  ];
}

pub run_is_plain : IsPlainLeaf run_leaf
run_is_plain = record {
  no_short = λ x. refl;
  no_index = refl;
  named = λ name a e. subst (IsNamed run_leaf.rules) (sym (run_rule name a e).1) steps_named;
}

pub generate_is_plain : IsPlainLeaf generate_leaf
generate_is_plain = record {
  no_short = λ x. refl;
  no_index = refl;
  named = λ name a e. subst (IsNamed generate_leaf.rules) (sym (generate_rule name a e).1)
      number_named;
}

pub check_is_plain : IsPlainLeaf check_leaf
check_is_plain = record { no_short = λ x. refl; no_index = refl; named = λ name a e. absurd (cc e) }

-- ---- what is read of the options

-- the words of an option with a value, where it is given
abbrev pub IsValue : Word → Option Text → List Word → Type 0
IsValue name None words = words ≡ []
IsValue name (Some v) words = IsOption name v words

abbrev pub rows_with : Shape → List Row → List Row
rows_with s rows = fold with_default rows s.rules

pub record ReadsAnalyse (words : List Text) (rows : List Row) : Type 0 where
  pub cert : Bool
  pub budget : Option Text
  pub cert_words : List Word
  pub budget_words : List Word
  pub is_cert : IsFlag (codes "--cert") cert cert_words
  pub is_budget : IsValue (codes "--budget") budget budget_words
  pub are_both : AreBoth words cert_words budget_words
  pub says_cert : one_of (codes "cert") rows ≡ Some (bool_text cert)
  pub says_budget : first_of (codes "budget") rows ≡ budget

abbrev cert_use : Use
cert_use = (codes "cert", cert_rule, None)

abbrev budget_use : Text → Use
budget_use v = (codes "budget", budget_rule, Some v)

-- a use of an option that takes a value has one, and no other has
has_value : (id : Text) (r : Rule) (u : Use) → IsRule id r u.0 u.1 → takes_values u.1 ≡ is_some u.2
    → takes_values r ≡ true → (v : Text) × (u ≡ (id, r, Some v))
has_value id r u is takes with_value =
    go u.2 refl (sym (sym (ap takes_values is.1) ∙ takes) ∙ with_value)
  where
    go : (o : Option Text) → u.2 ≡ o → is_some o ≡ true → (v : Text) × (u ≡ (id, r, Some v))
    go None eq some = absurd (cc some)
    go (Some v) eq some = (v, λ i. (is.0 i, is.1 i, eq i))

has_none : (id : Text) (r : Rule) (u : Use) → IsRule id r u.0 u.1 → takes_values u.1 ≡ is_some u.2
    → takes_values r ≡ false → u ≡ (id, r, None)
has_none id r u is takes without = go u.2 refl (sym (sym (ap takes_values is.1) ∙ takes) ∙ without)
  where
    go : (o : Option Text) → u.2 ≡ o → is_some o ≡ false → u ≡ (id, r, None)
    go None eq none = λ i. (is.0 i, is.1 i, eq i)
    go (Some v) eq none = absurd (cc none)

analyse_use : (u : Use) → arg_by_long analyse_leaf.rules u.0 ≡ Some u.1
    → takes_values u.1 ≡ is_some u.2
    → (u ≡ cert_use) ⊎ ((v : Text) × (u ≡ budget_use v))
analyse_use u found takes = elim (analyse_rule u.0 u.1 found) [
  | inl is ↦ inl (has_none (codes "cert") cert_rule u is takes refl)
  | inr is ↦ inr (has_value (codes "budget") budget_rule u is takes refl)
]

-- a use with a value that stands alone
alone : (id v : Text) (words rest : List Text) → Stands id (Some v) words rest → rest ≡ []
    → IsOption (long_word id None) v words
alone id v words rest (inl is) none =
    inl (is ∙ ap (λ (r : List Text). long_word id None ∷ v ∷ r) none)
alone id v words rest (inr is) none =
    inr (is ∙ ap₂ (λ (t : Text) (r : List Text). (45 ∷ 45 ∷ t) ∷ r)
    (sym (append_assoc id (codes "=") v)) none)

-- ---- no option is used twice

abbrev repeated : Rule → List Text → Bool → Kinds
repeated r vs used = or_else (cond (used && true) (kind.ArgumentConflict ∷ []) [])
    (values_fault r vs)

cert_twice : (rows : List Row) → has_row (codes "cert") rows ≡ true
    → use_fault false cert_rule [] rows ≡ [] → ⊥
cert_twice rows has e = cc
    (subst (λ (b : Bool). repeated cert_rule (codes "true" ∷ []) b ≡ []) has e)

budget_twice : (v : Text) (rows : List Row) → has_row (codes "budget") rows ≡ true
    → use_fault false budget_rule (v ∷ []) rows ≡ [] → ⊥
budget_twice v rows has e = cc (subst (λ (b : Bool). repeated budget_rule (v ∷ []) b ≡ []) has e)

first_clean : (s : Shape) (rows : List Row) (u : Use) (us : List Use)
    → uses_fault s rows (u ∷ us) ≡ []
    → (use_fault s.args_override_self u.1 (values u.2) rows ≡ [])
    × (uses_fault s (used u.1 (values u.2) rows) us ≡ [])
first_clean s rows u us e =
    or_else_split (use_fault s.args_override_self u.1 (values u.2) rows)
    (uses_fault s (used u.1 (values u.2) rows) us) e

-- where both options were used, no use is left
all_used : (rows : List Row) → has_row (codes "cert") rows ≡ true
    → has_row (codes "budget") rows ≡ true
    → (us : List Use) (words : List Text) → AreUses analyse_leaf.rules us words
    → uses_fault analyse_leaf rows us ≡ [] → us ≡ []
all_used rows cert budget [] words are e = refl
all_used rows cert budget (u ∷ us) words are e =
    let clean = (first_clean analyse_leaf rows u us e).0 in
    elim (analyse_use u are.1 are.2) [
      | inl is ↦ absurd (cert_twice rows cert
          (subst (λ (u : Use). use_fault false u.1 (values u.2) rows ≡ []) is clean))
      | inr is ↦ absurd (budget_twice is.0 rows budget
          (subst (λ (u : Use). use_fault false u.1 (values u.2) rows ≡ []) is.1 clean))
    ]

abbrev analyse_rows : List Row → List Use → List Row
analyse_rows rows us = rows_with analyse_leaf (uses_rows rows us)

abbrev pub cert_rows : List Row
cert_rows = used cert_rule [] []

abbrev budget_rows : Text → List Row
budget_rows v = used budget_rule (v ∷ []) []

abbrev cert_budget_rows : Text → List Row
cert_budget_rows v = used budget_rule (v ∷ []) cert_rows

abbrev budget_cert_rows : Text → List Row
budget_cert_rows v = used cert_rule [] (budget_rows v)

-- a value that stands first
value_first : (v : Text) (words rest : List Text) → Stands (codes "budget") (Some v) words rest
    → (first : List Text) × IsOption (codes "--budget") v first × (words ≡ first ++ rest)
value_first v words rest (inl is) = (codes "--budget" ∷ v ∷ [], inl refl, is)
value_first v words rest (inr is) = (long_word (codes "budget") (Some v) ∷ [], inr refl, is)

behind_cert : (us : List Use) (words rest : List Text) → words ≡ codes "--cert" ∷ rest
    → AreUses analyse_leaf.rules us rest → uses_fault analyse_leaf cert_rows us ≡ []
    → ReadsAnalyse words (analyse_rows cert_rows us)
behind_cert [] words rest is are e = record {
  cert = true;
  budget = None;
  cert_words = codes "--cert" ∷ [];
  budget_words = [];
  is_cert = refl;
  is_budget = refl;
  are_both = inl (is ∙ ap (λ (r : List Text). codes "--cert" ∷ r) are);
  says_cert = refl;
  says_budget = refl;
}
behind_cert (u ∷ us) words rest is are e = elim (analyse_use u are.1 are.2) [
  | inl cert ↦ absurd (cert_twice cert_rows refl
      (subst (λ (u : Use). use_fault false u.1 (values u.2) cert_rows ≡ []) cert
      (first_clean analyse_leaf cert_rows u us e).0))
  | inr budget ↦ then_budget budget.0 budget.1
]
  where
    then_budget : (v : Text) → u ≡ budget_use v
        → ReadsAnalyse words (analyse_rows cert_rows (u ∷ us))
    then_budget v eq =
        let stands = subst (λ (w : Use). Stands w.0 w.2 rest are.0) eq are.3 in
        let clean = subst (λ (w : Use). uses_fault analyse_leaf
        (used w.1 (values w.2) cert_rows) us ≡ []) eq
        (first_clean analyse_leaf cert_rows u us e).1 in
        let no_more = all_used (cert_budget_rows v) refl refl us are.0 are.4 clean in
        let end = subst (λ (vs : List Use). AreUses analyse_leaf.rules vs are.0) no_more are.4 in
        let rows_are : analyse_rows cert_rows (u ∷ us) ≡ rows_with analyse_leaf
        (cert_budget_rows v) =
        λ i. rows_with analyse_leaf (uses_rows cert_rows (eq i ∷ no_more i)) in
        record {
          cert = true;
          budget = Some v;
          cert_words = codes "--cert" ∷ [];
          budget_words = rest;
          is_cert = refl;
          is_budget = alone (codes "budget") v rest are.0 stands end;
          are_both = inl is;
          says_cert = ap (one_of (codes "cert")) rows_are;
          says_budget = ap (first_of (codes "budget")) rows_are;
        }

behind_budget : (v : Text) (us : List Use) (words rest : List Text)
    → Stands (codes "budget") (Some v) words rest
    → AreUses analyse_leaf.rules us rest → uses_fault analyse_leaf (budget_rows v) us ≡ []
    → ReadsAnalyse words (analyse_rows (budget_rows v) us)
behind_budget v [] words rest stands are e = record {
  cert = false;
  budget = Some v;
  cert_words = [];
  budget_words = words;
  is_cert = refl;
  is_budget = alone (codes "budget") v words rest stands are;
  are_both = inl refl;
  says_cert = refl;
  says_budget = refl;
}
behind_budget v (u ∷ us) words rest stands are e = elim (analyse_use u are.1 are.2) [
  | inl cert ↦ then_cert cert
  | inr budget ↦ absurd (budget_twice budget.0 (budget_rows v) refl
      (subst (λ (u : Use). use_fault false u.1 (values u.2) (budget_rows v) ≡ []) budget.1
      (first_clean analyse_leaf (budget_rows v) u us e).0))
]
  where
    then_cert : u ≡ cert_use → ReadsAnalyse words (analyse_rows (budget_rows v) (u ∷ us))
    then_cert eq =
        let last_word = subst (λ (w : Use). Stands w.0 w.2 rest are.0) eq are.3 in
        let clean = subst (λ (w : Use). uses_fault analyse_leaf
        (used w.1 (values w.2) (budget_rows v)) us ≡ []) eq
        (first_clean analyse_leaf (budget_rows v) u us e).1 in
        let no_more = all_used (budget_cert_rows v) refl refl us are.0 are.4 clean in
        let end = subst (λ (vs : List Use). AreUses analyse_leaf.rules vs are.0) no_more are.4 in
        let rows_are : analyse_rows (budget_rows v) (u ∷ us) ≡ rows_with analyse_leaf
        (budget_cert_rows v) =
        λ i. rows_with analyse_leaf (uses_rows (budget_rows v) (eq i ∷ no_more i)) in
        let front = value_first v words rest stands in
        record {
          cert = true;
          budget = Some v;
          cert_words = codes "--cert" ∷ [];
          budget_words = front.0;
          is_cert = refl;
          is_budget = front.1;
          are_both = inr (front.2 ∙ ap (λ (r : List Text). front.0 ++ r)
              (last_word ∙ ap (λ (r : List Text). codes "--cert" ∷ r) end));
          says_cert = ap (one_of (codes "cert")) rows_are;
          says_budget = ap (first_of (codes "budget")) rows_are;
        }

pub analyse_reads : (us : List Use) (words : List Text) → AreUses analyse_leaf.rules us words
    → uses_fault analyse_leaf [] us ≡ [] → ReadsAnalyse words (analyse_rows [] us)
analyse_reads [] words are e = record {
  cert = false;
  budget = None;
  cert_words = [];
  budget_words = [];
  is_cert = refl;
  is_budget = refl;
  are_both = inl are;
  says_cert = refl;
  says_budget = refl;
}
analyse_reads (u ∷ us) words are e = elim (analyse_use u are.1 are.2) [
  | inl cert ↦ by_cert cert
  | inr budget ↦ by_budget budget.0 budget.1
]
  where
    clean : uses_fault analyse_leaf (used u.1 (values u.2) []) us ≡ []
    clean = (first_clean analyse_leaf [] u us e).1

    by_cert : u ≡ cert_use → ReadsAnalyse words (analyse_rows [] (u ∷ us))
    by_cert eq = subst (λ (w : Use). ReadsAnalyse words (analyse_rows [] (w ∷ us))) (sym eq)
        (behind_cert us words are.0 (subst (λ (w : Use). Stands w.0 w.2 words are.0) eq are.3) are.4
        (subst (λ (w : Use). uses_fault analyse_leaf (used w.1 (values w.2) []) us ≡ []) eq clean))

    by_budget : (v : Text) → u ≡ budget_use v → ReadsAnalyse words (analyse_rows [] (u ∷ us))
    by_budget v eq = subst (λ (w : Use). ReadsAnalyse words (analyse_rows [] (w ∷ us))) (sym eq)
        (behind_budget v us words are.0
        (subst (λ (w : Use). Stands w.0 w.2 words are.0) eq are.3) are.4
        (subst (λ (w : Use). uses_fault analyse_leaf (used w.1 (values w.2) []) us ≡ []) eq clean))

-- ---- commands with one option, which takes a value

abbrev OneUse : Text → Rule → List Use → List Text → Type 0
OneUse id r us words = ((us ≡ []) × (words ≡ []))
    ⊎ ((v : Text) × (us ≡ (id, r, Some v) ∷ []) × IsOption (long_word id None) v words)

module _ (leaf : Shape) (id : Text) (r : Rule)
    (only : (name : Text) (a : Rule) → arg_by_long leaf.rules name ≡ Some a → IsRule id r name a)
    (takes : takes_values r ≡ true)
    (twice : (v w : Text) → use_in leaf r (v ∷ []) (used r (w ∷ []) []) ≡ [] → ⊥) where
  use_is : (u : Use) → arg_by_long leaf.rules u.0 ≡ Some u.1 → takes_values u.1 ≡ is_some u.2
      → (v : Text) × (u ≡ (id, r, Some v))
  use_is u found has = has_value id r u (only u.0 u.1 found) has takes

  one_use : (us : List Use) (words : List Text) → AreUses leaf.rules us words
      → uses_fault leaf [] us ≡ [] → OneUse id r us words
  one_use [] words are e = inl (refl, are)
  one_use (u ∷ []) words are e =
      let this = use_is u are.1 are.2 in
      let stands = subst (λ (x : Use). Stands x.0 x.2 words are.0) this.1 are.3 in
      inr (this.0, ap (λ (x : Use). x ∷ []) this.1, alone id this.0 words are.0 stands are.4)
  one_use (u ∷ w ∷ us) words are e =
      let this = use_is u are.1 are.2 in
      let again = use_is w are.4.1 are.4.2 in
      let rows = used u.1 (values u.2) [] in
      let clean = (first_clean leaf rows w us (first_clean leaf [] u (w ∷ us) e).1).0 in
      absurd (twice again.0 this.0
      (subst (λ (x : Use). use_in leaf r (again.0 ∷ []) (used x.1 (values x.2) []) ≡ []) this.1
      (subst (λ (x : Use). use_in leaf x.1 (values x.2) rows ≡ []) again.1 clean)))

-- ---- the option of a run

pub record ReadsRun (words : List Text) (rows : List Row) : Type 0 where
  pub steps : Option Text
  pub is_steps : IsValue (codes "--steps") steps words
  pub says_steps : first_of (codes "steps") rows ≡ steps

abbrev run_rows : List Use → List Row
run_rows us = rows_with run_leaf (uses_rows [] us)

pub run_reads : (us : List Use) (words : List Text) → AreUses run_leaf.rules us words
    → uses_fault run_leaf [] us ≡ [] → ReadsRun words (run_rows us)
run_reads us words are e =
    elim (one_use run_leaf (codes "steps") steps_rule run_rule refl (λ v w twice. cc twice) us
    words are e) [
      | inl none ↦ record {
        steps = None;
        is_steps = none.1;
        says_steps = ap (λ (us : List Use). first_of (codes "steps") (run_rows us)) none.0;
      }
      | inr one ↦ record {
        steps = Some one.0;
        is_steps = one.2;
        says_steps = ap (λ (us : List Use). first_of (codes "steps") (run_rows us)) one.1;
      }
    ]

-- ---- the option of a generated program

pub record ReadsGenerate (words : List Text) (rows : List Row) : Type 0 where
  pub number : Text
  pub is_number : IsOption (codes "--number") number words
  pub says_number : first_of (codes "number") rows ≡ Some number

abbrev generate_rows : List Use → List Row
generate_rows us = rows_with generate_leaf (uses_rows [] us)

number_missing : uses_fault generate_leaf [] [] ≡ [] → ⊥
unfolding defaults_fault
number_missing e = cc e

pub generate_reads : (us : List Use) (words : List Text) → AreUses generate_leaf.rules us words
    → uses_fault generate_leaf [] us ≡ [] → ReadsGenerate words (generate_rows us)
generate_reads us words are e =
    elim (one_use generate_leaf (codes "number") number_rule generate_rule refl
    (λ v w twice. cc twice) us words are e) [
      | inl none ↦ absurd (number_missing
          (subst (λ (us : List Use). uses_fault generate_leaf [] us ≡ []) none.0 e))
      | inr one ↦ record {
        number = one.0;
        is_number = one.2;
        says_number = ap (λ (us : List Use). first_of (codes "number") (generate_rows us)) one.1;
      }
    ]

-- ---- `check` has none

pub check_reads : (us : List Use) (words : List Text) → AreUses check_leaf.rules us words
    → words ≡ []
check_reads [] words are = are
check_reads (u ∷ us) words are = absurd (cc are.1)

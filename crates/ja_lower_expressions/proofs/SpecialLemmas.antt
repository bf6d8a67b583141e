-- The search for the special form of a name in a table.
use Rattle.std.proofs.Common.{◌≡◌, ◌<◌, ◌≤◌, ℕ, Bool, true, false, List, [], ◌∷◌, Option, Some, None, Bor, length, slice_index_or, refl, arith, map, cond, sym, ◌∙◌, ap}
use Rattle.std.specs.List.{find}
use Rattle.std.specs.Option.{option_map}
use Rattle.std.specs.Str.{bytes_eq}
use Rattle.ja_lower_expressions.specs.declared.special.Special.{Special}
use Rattle.ja_lower_expressions.specs.declared.special.TheConstants.{SPECIALS}
use Rattle.ja_lower_draft.specs.Lines.{with_text}
use Rattle.ja_lower_expressions.specs.Specials.{special_of, list_special}
use Rattle.ja_lower_expressions.specs.SpecialForms.{AreSpecialForms}

-- the special form of a name in a table
unfoldable pub form_in : List ℕ → List (Bor (List ℕ) × Special) → Option Special
form_in name table = option_map (λ entry. entry.1) (find (λ entry. bytes_eq entry.0.now name) table)

pub found : (name : List ℕ) (table : List (Bor (List ℕ) × Special)) (d : Bor (List ℕ) × Special)
    → 1 ≤ length table → bytes_eq (slice_index_or table 0 d).0.now name ≡ true
    → Some (slice_index_or table 0 d).1 ≡ form_in name table
unfolding form_in
found name [] d h e = absurd (omega (arith, h))
found name (entry ∷ table) d h e = rw e refl

pub missing : (name : List ℕ) (table : List (Bor (List ℕ) × Special)) → length table < 1
    → None ≡ form_in name table
unfolding form_in
missing name [] h = refl
missing name (entry ∷ table) h = absurd (omega (arith, h))

-- what is found in a table of what is seen of the elements of another one
pub found_in_map : {X Y : Type 0} (view : X → Y) (test : Y → Bool) (form : Y → Special)
    → (xs : List X) → option_map form (find test (map view xs))
    ≡ option_map (λ x. form (view x)) (find (λ x. test (view x)) xs)
found_in_map view test form [] = refl
found_in_map view test form (x ∷ xs) =
    elim (test (view x)) as (λ b. option_map form (cond b (Some (view x)) (find test (map view xs)))
    ≡ option_map (λ x. form (view x)) (cond b (Some x) (find (λ x. test (view x)) xs)))
    [ true ↦ refl | false ↦ found_in_map view test form xs ]

-- the table of all: its constant has no references
pub of_all : (name : List ℕ) (table : List (Bor (List ℕ) × Special))
    → map (λ entry. (record { now = entry.0.now }, entry.1)) table ≡ SPECIALS
    → form_in name table ≡ special_of name
unfolding special_of form_in
of_all name table e =
    sym (found_in_map (λ entry. (record { now = entry.0.now }, entry.1))
    (λ entry. bytes_eq entry.0.now name) (λ entry. entry.1) table)
    ∙ ap (λ entries. option_map (λ entry. entry.1)
    (find (λ entry. bytes_eq entry.0.now name) entries)) e

-- each special form is found by its name, and lists its node
pub are_special_forms : AreSpecialForms
unfolding special_of list_special with_text
are_special_forms = record {
  get = λ object key scene place l. refl;
  put = λ object key src scene place l. refl;
  delete = λ object key scene place l. refl;
  has = λ object key scene place l. refl;
  object = λ src scene place l. refl;
  text = λ src scene place l. refl;
  call = λ callee receiver arguments scene place l. refl;
  spread = λ callee receiver array scene place l. refl;
  tail = λ callee receiver scene place l. refl;
  make = (
    λ scene place l. refl,
    (
      λ scene place l. refl,
      (
        λ scene place l. refl,
        (
          λ scene place l. refl,
          (λ scene place l. refl, (λ scene place l. refl, (λ scene place l. refl, tt))),
        ),
      ),
    ),
  );
  stop = (
    λ scene place l. refl,
    (
      λ scene place l. refl,
      (
        λ scene place l. refl,
        (
          λ scene place l. refl,
          (
            λ scene place l. refl,
            (
              λ scene place l. refl,
              (
                λ scene place l. refl,
                (
                  λ scene place l. refl,
                  (
                    λ scene place l. refl,
                    (
                      λ scene place l. refl,
                      (
                        λ scene place l. refl,
                        (
                          λ scene place l. refl,
                          (
                            λ scene place l. refl,
                            (
                              λ scene place l. refl,
                              (
                                λ scene place l. refl,
                                (
                                  λ scene place l. refl,
                                  (
                                    λ scene place l. refl,
                                    (
                                      λ scene place l. refl,
                                      (λ scene place l. refl, (λ scene place l. refl, tt)),
                                    ),
                                  ),
                                ),
                              ),
                            ),
                          ),
                        ),
                      ),
                    ),
                  ),
                ),
              ),
            ),
          ),
        ),
      ),
    ),
  );
  intrinsic = (
    λ arguments scene place l. refl,
    (
      λ arguments scene place l. refl,
      (
        λ arguments scene place l. refl,
        (
          λ arguments scene place l. refl,
          (
            λ arguments scene place l. refl,
            (
              λ arguments scene place l. refl,
              (
                λ arguments scene place l. refl,
                (
                  λ arguments scene place l. refl,
                  (
                    λ arguments scene place l. refl,
                    (
                      λ arguments scene place l. refl,
                      (
                        λ arguments scene place l. refl,
                        (
                          λ arguments scene place l. refl,
                          (
                            λ arguments scene place l. refl,
                            (
                              λ arguments scene place l. refl,
                              (
                                λ arguments scene place l. refl,
                                (
                                  λ arguments scene place l. refl,
                                  (
                                    λ arguments scene place l. refl,
                                    (λ arguments scene place l. refl, tt),
                                  ),
                                ),
                              ),
                            ),
                          ),
                        ),
                      ),
                    ),
                  ),
                ),
              ),
            ),
          ),
        ),
      ),
    ),
  );
}

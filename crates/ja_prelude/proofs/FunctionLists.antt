-- The built-in functions as the code goes over them, and as the definitions say them.
use Rattle.std.specs.Prelude.{◌≡◌, ◌&&◌, ◌++◌, Bool, ℕ, true, List, [], ◌∷◌, map}
use Rattle.std.specs.Borrow.{Bor}
use Rattle.std.specs.List.{flat_map, list_all}
use Rattle.std.proofs.Common.{refl, ap, sym, ◌∙◌}
use Rattle.ja_prim.specs.Texts.{is_short}
use Rattle.ja_graph.specs.WellFormed.{builtin_names}
use Rattle.ja_lower.specs.Lowering as lower
use Rattle.ja_syntax.specs.declared.tree.Statement.{Statement}
use Rattle.ja_prelude.specs.Functions.{PathAndText, functions}
use Rattle.ja_prelude.specs.Prelude.{prelude_paths, prelude_statements}
use Rattle.ja_prelude.specs.Reading.{tree_of}
use Rattle.ja_prelude.specs.code.Functions.{seen}
use Rattle.ja_prelude.specs.code.Prelude.{the_prelude}
use Rattle.ja_prelude.specs.declared.prelude.Prelude.{Prelude}

-- a function, as the code goes over them
abbrev pub SeenFunction : Type 0
SeenFunction = Bor (List ℕ) × Bor (List ℕ)

list_all_of : {A B : Type 0} (test : B → Bool) (f : A → B) (xs : List A)
    → list_all (λ x. test (f x)) xs ≡ list_all test (map f xs)
list_all_of test f [] = refl
list_all_of test f (x ∷ xs) = ap (λ b. test (f x) && b) (list_all_of test f xs)

flat_map_of : {A B C : Type 0} (f : B → List C) (g : A → B) (xs : List A)
    → flat_map (λ x. f (g x)) xs ≡ flat_map f (map g xs)
flat_map_of f g [] = refl
flat_map_of f g (x ∷ xs) = ap (λ l. f (g x) ++ l) (flat_map_of f g xs)

map_of : {A B C : Type 0} (f : B → C) (g : A → B) (xs : List A)
    → map (λ x. f (g x)) xs ≡ map f (map g xs)
map_of f g [] = refl
map_of f g (x ∷ xs) = ap (λ l. f (g x) ∷ l) (map_of f g xs)

-- a test that all texts pass
pub all_texts : (test : List ℕ → Bool) (fs : List SeenFunction) → map seen fs ≡ functions
    → list_all (λ (f : PathAndText). test f.1) functions ≡ true
    → list_all (λ f. test f.1.now) fs ≡ true
all_texts test fs same all =
    list_all_of (λ (f : PathAndText). test f.1) seen fs
    ∙ (ap (list_all (λ (f : PathAndText). test f.1)) same ∙ all)

short : list_all (λ (f : PathAndText). is_short f.0) functions ≡ true
short = refl

pub paths_are_short : (fs : List SeenFunction) → map seen fs ≡ functions
    → list_all (λ f. is_short f.0.now) fs ≡ true
paths_are_short fs same =
    list_all_of (λ (f : PathAndText). is_short f.0) seen fs
    ∙ (ap (list_all (λ (f : PathAndText). is_short f.0)) same ∙ short)

pub paths_are : (fs : List SeenFunction) → map seen fs ≡ functions
    → map (λ f. f.0.now) fs ≡ prelude_paths
unfolding prelude_paths
paths_are fs same =
    map_of (λ (f : PathAndText). f.0) seen fs ∙ ap (map (λ (f : PathAndText). f.0)) same

pub statements_are : (fs : List SeenFunction) → map seen fs ≡ functions
    → flat_map (λ f. tree_of f.1.now) fs ≡ prelude_statements
unfolding prelude_statements
statements_are fs same =
    flat_map_of (λ (f : PathAndText). tree_of f.1) seen fs
    ∙ ap (flat_map (λ (f : PathAndText). tree_of f.1)) same

-- what is kept of them
pub prelude_is : {ss read : List Statement} {ps ns named : List (List ℕ)}
    → ss ≡ prelude_statements → ps ≡ prelude_paths → named ≡ builtin_names → read ≡ ss
    → ns ≡ lower.prelude_names named read
    → ◌≡◌ {A = Prelude} (record { statements = ss; paths = ps; names = ns }) the_prelude
prelude_is {ss} {read} {ps} {ns} {named} s p b r n =
    ap (λ (x : List Statement). kept x ps ns) s
    ∙ (ap (λ (x : List (List ℕ)). kept prelude_statements x ns) p
    ∙ ap (λ (x : List (List ℕ)). kept prelude_statements prelude_paths x)
    (n ∙ (ap (λ (x : List (List ℕ)). lower.prelude_names x read) b
    ∙ ap (λ (x : List Statement). lower.prelude_names builtin_names x) (r ∙ s))))
  where
    kept : List Statement → List (List ℕ) → List (List ℕ) → Prelude
    kept statements paths names =
        record { statements = statements; paths = paths; names = names }

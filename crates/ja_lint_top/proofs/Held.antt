-- One file more.
use Rattle.std.proofs.Common.{◌≡◌, ◌<◌, ◌+◌, ℕ, suc, Bool, false, not, cond, List, [], ◌∷◌, ◌++◌, length, map, take, Bor, Global, Vec, IsUtf8, Some, slice_get}
use Rattle.std.specs.List.{AllByRecursion}
use Rattle.std.specs.Option.{option_map}
use Rattle.std.proofs.Common.{get_or, refl, sym, ◌∙◌, ap, subst, subst₂}
use Rattle.std.proofs.lemmas.Bool.{cond-true}
use Rattle.std.proofs.lemmas.List.{map-append, take_more}
use Rattle.std.proofs.lemmas.Option.{slice_get-get_or, slice_get-map}
use Rattle.ja_files.specs.declared.file.File.{File}
use Rattle.ja_files.specs.Files.{unmarked_text}
use Rattle.ja_lint_top.specs.Reading.{Held, AreHeld, Holds}
use Rattle.ja_lint_top.specs.Refusals.{known_as, AreFiles}

-- what was pushed stands behind the others
pub pushed : {X : Type 0} (is_ok is_err : Bool) (old new : List X) (x : X) → is_ok ≡ not is_err
    → is_err ≡ false → new ≡ cond is_ok (old ++ x ∷ []) old → new ≡ old ++ x ∷ []
pushed is_ok is_err old new x negation fine is =
    is ∙ cond-true is_ok (old ++ x ∷ []) old (negation ∙ ap not fine)

-- the front of a list that is mapped, with one element more
pub map_more : {X Y : Type 0} (f : X → Y) (xs : List X) (i : ℕ) (d : X) → i < length xs
    → map f (take (i + 1) xs) ≡ map f (take i xs) ++ f (get_or xs i d) ∷ []
map_more f xs i d within =
    ap (map f) (take_more xs i d within) ∙ map-append f (take i xs) (get_or xs i d ∷ [])

-- an element of a list that is mapped
pub mapped_at : {X Y : Type 0} (f : X → Y) (xs : List X) (i : ℕ) (d : X) → i < length xs
    → slice_get (map f xs) i ≡ Some (f (get_or xs i d))
mapped_at f xs i d within =
    slice_get-map f xs i ∙ ap (option_map f) (slice_get-get_or xs i d within)

pub mapped_read : {X Y : Type 0} (f : X → Y) (xs : List X) (i : ℕ) (x : X) → i < length xs
    → x ≡ get_or xs i x → slice_get (map f xs) i ≡ Some (f x)
mapped_read f xs i x within is =
    mapped_at f xs i x within ∙ sym (ap (λ y. Some (f y)) is)

pub held_push : (held : Held) (names contents : List (List ℕ)) (name bytes : List ℕ)
    → AreHeld held names contents → Holds held name bytes
    → AreHeld held (names ++ name ∷ []) (contents ++ bytes ∷ [])
held_push held [] contents name bytes are holds =
    subst (λ cs. AreHeld held (name ∷ []) (cs ++ bytes ∷ [])) (sym are) (holds, refl)
held_push held (n ∷ names) [] name bytes are holds = absurd are
held_push held (n ∷ names) (c ∷ contents) name bytes are holds =
    (are.0, held_push held names contents name bytes are.1 holds)

-- as many names as contents
pub held_count : (held : Held) (names contents : List (List ℕ)) → AreHeld held names contents
    → length contents ≡ length names
held_count held [] contents are = ap length are
held_count held (n ∷ names) [] are = absurd are
held_count held (n ∷ names) (c ∷ contents) are = ap suc (held_count held names contents are.1)

pub files_push : (names contents : List (List ℕ)) (files : List File) (name bytes : List ℕ)
    (file : File) → AreFiles names contents files → file.name.now ≡ known_as name
    → file.text.now ≡ unmarked_text bytes
    → AreFiles (names ++ name ∷ []) (contents ++ bytes ∷ []) (files ++ file ∷ [])
files_push [] [] files name bytes file are named written =
    subst (λ fs. AreFiles (name ∷ []) (bytes ∷ []) (fs ++ file ∷ [])) (sym are)
    (named, written, refl)
files_push (n ∷ names) (c ∷ contents) (f ∷ files) name bytes file are named written =
    (are.0, are.1, files_push names contents files name bytes file are.2 named written)
files_push [] (c ∷ contents) files name bytes file are named written = absurd are
files_push (n ∷ names) [] files name bytes file are named written = absurd are
files_push (n ∷ names) (c ∷ contents) [] name bytes file are named written = absurd are

pub held_more : (held now : Held) (names : List (Bor (List ℕ))) (i : ℕ) (d : Bor (List ℕ))
    (contents next : List (Vec ℕ Global)) (bytes : Vec ℕ Global) → i < length names → now ≡ held
    → AreHeld held (map (λ (name : Bor (List ℕ)). name.now) (take i names))
    (map (λ (b : Vec ℕ Global). b.items) contents)
    → Holds now (get_or names i d).now bytes.items → next ≡ contents ++ bytes ∷ []
    → AreHeld held (map (λ (name : Bor (List ℕ)). name.now) (take (i + 1) names))
    (map (λ (b : Vec ℕ Global). b.items) next)
held_more held now names i d contents next bytes within kept are holds is =
    let named = λ (name : Bor (List ℕ)). name.now in
    let read = λ (b : Vec ℕ Global). b.items in
    subst₂ (AreHeld held) (sym (map_more named names i d within))
    (sym (ap (map read) is ∙ map-append read contents (bytes ∷ [])))
    (held_push held (map named (take i names)) (map read contents) (get_or names i d).now
    bytes.items are (subst (λ h. Holds h (get_or names i d).now bytes.items) kept holds))

pub files_more : (names : List (Bor (List ℕ))) (contents : List (Vec ℕ Global)) (i : ℕ)
    (d : Bor (List ℕ)) (bytes : Vec ℕ Global) (files next : List File) (file : File)
    → i < length names → i < length contents → bytes ≡ get_or contents i bytes
    → AreFiles (map (λ (name : Bor (List ℕ)). name.now) (take i names))
    (map (λ (b : Vec ℕ Global). b.items) (take i contents)) files
    → file.name.now ≡ known_as (get_or names i d).now
    → file.text.now ≡ unmarked_text bytes.items → next ≡ files ++ file ∷ []
    → AreFiles (map (λ (name : Bor (List ℕ)). name.now) (take (i + 1) names))
    (map (λ (b : Vec ℕ Global). b.items) (take (i + 1) contents)) next
files_more names contents i d bytes files next file within there read are named written is =
    let name = λ (n : Bor (List ℕ)). n.now in
    let items = λ (b : Vec ℕ Global). b.items in
    subst (AreFiles (map name (take (i + 1) names)) (map items (take (i + 1) contents))) (sym is)
    (subst₂ (λ ns cs. AreFiles ns cs (files ++ file ∷ [])) (sym (map_more name names i d within))
    (sym (map_more items contents i bytes there))
    (files_push (map name (take i names)) (map items (take i contents)) files
    (get_or names i d).now (get_or contents i bytes).items file are named
    (written ∙ ap (λ (b : Vec ℕ Global). unmarked_text b.items) read)))

all_push : {X : Type 0} (P : X → Type 0) (xs : List X) (x : X) → AllByRecursion P xs → P x
    → AllByRecursion P (xs ++ x ∷ [])
all_push P [] x all holds = (holds, all)
all_push P (y ∷ xs) x all holds = (all.0, all_push P xs x all.1 holds)

pub texts_more : (contents : List (Vec ℕ Global)) (i : ℕ) (bytes : Vec ℕ Global)
    → i < length contents → bytes ≡ get_or contents i bytes
    → AllByRecursion IsUtf8 (map (λ (b : Vec ℕ Global). b.items) (take i contents))
    → IsUtf8 bytes.items
    → AllByRecursion IsUtf8 (map (λ (b : Vec ℕ Global). b.items) (take (i + 1) contents))
texts_more contents i bytes there read all text =
    let items = λ (b : Vec ℕ Global). b.items in
    subst (AllByRecursion IsUtf8) (sym (map_more items contents i bytes there))
    (all_push IsUtf8 (map items (take i contents)) (get_or contents i bytes).items all
    (subst (λ (b : Vec ℕ Global). IsUtf8 b.items) read text))

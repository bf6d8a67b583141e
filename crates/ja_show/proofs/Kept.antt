-- What is kept of files while messages are written.
use Rattle.std.proofs.Common.{◌≡◌, ℕ, zero, suc, ◌+◌, ◌<◌, ◌≤◌, List, [], ◌∷◌, ◌++◌, drop, get_or, length, map, take, refl, ap, sym, ◌∙◌, append-nil, append_assoc, arith}
use Rattle.std.specs.List.{AllByRecursion}
use Rattle.std.specs.declared.alloc.Global.{Global}
use Rattle.std.specs.declared.vec.Vec.{Vec}
use Rattle.std.proofs.lemmas.List.{drop_all, drop_more, map-append, take_all, take_more}
use Rattle.ja_files.specs.declared.file.File.{File}
use Rattle.ja_files.specs.Files.{bytes_of, characters_of, joined_text}
use Rattle.ja_files.proofs.Counting.{files-few, room, room-le}
use Rattle.ja_lex.proofs.Texts.{length_chars}
use Rattle.ja_lex.specs.Spots.{max_bytes}
use Rattle.ja_show.specs.code.Kept.{lists_in}
use Rattle.ja_show.specs.Page.{file_section, sections}
use Rattle.ja_show.specs.declared.message.Link.{Link}
use Rattle.ja_show.specs.declared.message.Message.{Message}

-- ---- one after another

-- what is kept of one thing more
pub kept_more : {X Y Z : Type 0} (f : X → Y) (g : Z → Y) (kept next : List X) (xs : List Z)
    (i : ℕ) (d : Z) (x : X) → map f kept ≡ map g (take i xs) → i < length xs
    → next ≡ kept ++ x ∷ [] → f x ≡ g (get_or xs i d) → map f next ≡ map g (take (i + 1) xs)
kept_more f g kept next xs i d x was inside step is =
    ap (map f) step ∙ map-append f kept (x ∷ [])
    ∙ ap (λ (ys : List _). ys ++ f x ∷ []) was
    ∙ ap (λ (y : _). map g (take i xs) ++ y ∷ []) is
    ∙ sym (map-append g (take i xs) (get_or xs i d ∷ []))
    ∙ ap (map g) (sym (take_more xs i d inside))

pub kept_all : {X Y Z : Type 0} (f : X → Y) (g : Z → Y) (kept : List X) (xs : List Z) (i : ℕ)
    → map f kept ≡ map g (take i xs) → length xs ≤ i → map f kept ≡ map g xs
kept_all f g kept xs i was past = was ∙ ap (map g) (take_all i xs past)

pub map_twice : {X Y Z : Type 0} (f : X → Y) (g : Y → Z) (xs : List X)
    → map (λ (x : X). g (f x)) xs ≡ map g (map f xs)
map_twice f g [] = refl
map_twice f g (x ∷ xs) = ap (λ (zs : List _). g (f x) ∷ zs) (map_twice f g xs)

-- ---- texts

pub within_at : (vs : List (Vec ℕ Global)) (i : ℕ) (d : Vec ℕ Global)
    → AllByRecursion (λ (text : List ℕ). length text ≤ max_bytes) (lists_in vs)
    → i < length vs → length (get_or vs i d).items ≤ max_bytes
within_at [] i d all inside = absurd (omega arith)
within_at (v ∷ vs) zero d all inside = all.0
within_at (v ∷ vs) (suc i) d all inside = within_at vs i d all.1 (omega arith)

all_within : (files : List File) (most : ℕ) → room files ≤ most + 3
    → AllByRecursion (λ (text : List ℕ). length text ≤ most) (map characters_of files)
all_within [] most few = tt
all_within (file ∷ files) most few =
    let short = length_chars (bytes_of file) in
    ((omega arith), all_within files most (omega arith))

pub texts_within : (files : List File) → length (joined_text (map bytes_of files)) ≤ max_bytes
    → AllByRecursion (λ (text : List ℕ). length text ≤ max_bytes) (map characters_of files)
texts_within files few =
    let all = room-le files in
    all_within files max_bytes (omega arith)

pub files_within : (files : List File) → length (joined_text (map bytes_of files)) ≤ max_bytes
    → length files ≤ max_bytes + 3
files_within files few =
    let all = room-le files in
    let each = files-few files in
    omega arith

pub length_lists : {X Y : Type 0} (f : X → List Y) (vs : List (Vec Y Global)) (xs : List X)
    → lists_in vs ≡ map f xs → length vs ≡ length xs
length_lists f [] [] same = refl
length_lists f [] (x ∷ xs) same = absurd (cc)
length_lists f (v ∷ vs) [] same = absurd (cc)
length_lists f (v ∷ vs) (x ∷ xs) same = ap suc (length_lists f vs xs (cc))

-- ---- sections

-- of files with these names
module _ (names : List (List ℕ)) (ms : List Message) (links : List Link) where
  -- one file more
  pub section_more : (out next base all : List ℕ) (vs : List (Vec ℕ Global)) (i file : ℕ)
      (d : Vec ℕ Global) (text : List ℕ)
      → out ++ sections names ms links file (lists_in (drop i vs)) ≡ base ++ all → i < length vs
      → text ≡ (get_or vs i d).items → next ≡ out ++ file_section names ms links file text
      → next ++ sections names ms links (file + 1) (lists_in (drop (i + 1) vs)) ≡ base ++ all
  unfolding sections
  section_more out next base all vs i file d text was inside is step =
      let rest : List (List ℕ) = lists_in (drop (i + 1) vs) in
      ap (λ (bs : List ℕ). bs ++ sections names ms links (file + 1) rest) step
      ∙ append_assoc out (file_section names ms links file text)
      (sections names ms links (file + 1) rest)
      ∙ ap (λ (t : List ℕ). out ++ sections names ms links file (t ∷ rest)) is
      ∙ ap (λ (us : List (Vec ℕ Global)). out ++ sections names ms links file (lists_in us))
      (sym (drop_more vs i d inside))
      ∙ was

  pub sections_all : (out base all : List ℕ) (vs : List (Vec ℕ Global)) (i file : ℕ)
      → out ++ sections names ms links file (lists_in (drop i vs)) ≡ base ++ all
      → length vs ≤ i → out ≡ base ++ all
  unfolding sections
  sections_all out base all vs i file was past =
      sym (append-nil out)
      ∙ ap (λ (us : List (Vec ℕ Global)). out ++ sections names ms links file (lists_in us))
      (sym (drop_all i vs past))
      ∙ was

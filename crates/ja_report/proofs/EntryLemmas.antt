-- The lines of the values at entry.
use Rattle.std.proofs.Common.{◌≡◌, ℕ, ◌+◌, ◌<◌, ◌≤◌, true, false, List, [], ◌∷◌, ◌++◌, map, filter, take, length, get_or, Option, Some, None, is_some, refl, ap, sym, ◌∙◌, suc}
use Rattle.std.specs.List.{flat_map}
use Rattle.std.proofs.lemmas.List.{take_all, length-append, length-map}
use Rattle.std.proofs.lemmas.List.Concat.{flat_map-append}
use Rattle.ja_base.specs.declared.ids.Label.{Label}
use Rattle.ja_graph.specs.declared.program.Program.{Program}
use Rattle.ja_abstract.specs.declared.abstraction.Key.{Key}
use Rattle.ja_abstract.specs.AbstractValue.{AbstractProperty}
use Rattle.ja_abstract.specs.AbstractState.{labels_of, labels_below, keys_of, keys_below}
use Rattle.ja_abstract.specs.Resolved.{Entries}
use Rattle.ja_aheap.specs.Entries.{pairs_of}
use Rattle.ja_report.specs.declared.output.Output.{Output}
use Rattle.ja_report.specs.Lines.{Line, entry, entry_line, entry_lines}
use Rattle.ja_report.specs.code.Output.{Adds}
use Rattle.ja_report.proofs.OutputLemmas.{adds_none, adds_more, adds_same}

pub entry_found : (p : Program) (e : Entries) (l : Label) (k : Key) (q : AbstractProperty)
    (a b : Output) → e l k ≡ Some q → Adds p (entry l k q ∷ []) a b → Adds p (entry_line e l k) a b
unfolding entry_line
entry_found p e l k q a b found adds = rw found adds

pub entry_missing : (p : Program) (e : Entries) (l : Label) (k : Key) (a : Output) → e l k ≡ None
    → Adds p (entry_line e l k) a a
unfolding entry_line
entry_missing p e l k a missing = rw missing (adds_none p a)

-- the lines of the first pairs
pub pair_lines : Entries → List (Label × Key) → List Line
pair_lines e pairs = flat_map (λ (pair : Label × Key). entry_line e pair.0 pair.1) pairs

pub pairs_none : (p : Program) (e : Entries) (a : Output) → Adds p (pair_lines e []) a a
unfolding pair_lines
pairs_none p e a = adds_none p a

pub pairs_more : (p : Program) (e : Entries) (pairs : List (Label × Key)) (i : ℕ) (d : Label × Key)
    (a b c : Output) → Adds p (pair_lines e (take i pairs)) a b → i < length pairs
    → Adds p (entry_line e (get_or pairs i d).0 (get_or pairs i d).1) b c
    → Adds p (pair_lines e (take (i + 1) pairs)) a c
unfolding pair_lines
pairs_more p e pairs i d a b c was inside step =
    adds_more p (λ (pair : Label × Key). entry_line e pair.0 pair.1) a b c pairs i d was inside step

-- a key that is demanded has one line, any other has none
line_none : (e : Entries) (l : Label) (k : Key) → e l k ≡ None → [] ≡ entry_line e l k
unfolding entry_line
line_none e l k missing = rw missing refl

key_step : (e : Entries) (l : Label) (k : Key) (o : Option AbstractProperty) → e l k ≡ o
    → (ks : List Key) → pair_lines e (map (λ (j : Key). (l, j))
    (filter (λ (j : Key). is_some (e l j)) ks)) ≡ flat_map (entry_line e l) ks
    → pair_lines e (map (λ (j : Key). (l, j)) (filter (λ (j : Key). is_some (e l j)) (k ∷ ks)))
    ≡ flat_map (entry_line e l) (k ∷ ks)
unfolding pair_lines
key_step e l k None found ks rest =
    let test : is_some (e l k) ≡ false = ap is_some found in
    rw test (rest ∙ ap (λ (ls : List Line). ls ++ flat_map (entry_line e l) ks)
    (line_none e l k found))
key_step e l k (Some q) found ks rest =
    let test : is_some (e l k) ≡ true = ap is_some found in
    rw test (ap (λ (ls : List Line). entry_line e l k ++ ls) rest)

pair_lines-keys : (e : Entries) (l : Label) (ks : List Key)
    → pair_lines e (map (λ (k : Key). (l, k)) (filter (λ (k : Key). is_some (e l k)) ks))
    ≡ flat_map (entry_line e l) ks
unfolding pair_lines
pair_lines-keys e l [] = refl
pair_lines-keys e l (k ∷ ks) = key_step e l k (e l k) refl ks (pair_lines-keys e l ks)

pair_lines-append : (e : Entries) (xs ys : List (Label × Key))
    → pair_lines e (xs ++ ys) ≡ pair_lines e xs ++ pair_lines e ys
unfolding pair_lines
pair_lines-append e xs ys =
    flat_map-append (λ (pair : Label × Key). entry_line e pair.0 pair.1) xs ys

pair_lines-none : (e : Entries) → pair_lines e [] ≡ []
unfolding pair_lines
pair_lines-none e = refl

pair_lines-pairs : (e : Entries) (ls : List Label) (ks : List Key)
    → pair_lines e (pairs_of e ls ks) ≡ flat_map (λ (l : Label). flat_map (entry_line e l) ks) ls
pair_lines-pairs e [] ks = pair_lines-none e
pair_lines-pairs e (l ∷ ls) ks =
    pair_lines-append e (map (λ (k : Key). (l, k)) (filter (λ (k : Key). is_some (e l k)) ks))
    (pairs_of e ls ks) ∙ ap (λ (xs : List Line). xs ++ pair_lines e (pairs_of e ls ks))
    (pair_lines-keys e l ks) ∙ ap (λ (xs : List Line). flat_map (entry_line e l) ks ++ xs)
    (pair_lines-pairs e ls ks)

pub pairs_front : (p : Program) (e : Entries) (pairs : List (Label × Key)) (i : ℕ) (a b : Output)
    → Adds p (pair_lines e (take i pairs)) a b → length pairs ≤ i
    → Adds p (flat_map (λ (pair : Label × Key). entry_line e pair.0 pair.1) pairs) a b
unfolding pair_lines
pairs_front p e pairs i a b was past =
    adds_same p _ _ a b (ap (pair_lines e) (take_all i pairs past)) was

pairs_are : (p : Program) (e : Entries) (pairs : List (Label × Key)) (m n : ℕ)
    → pairs ≡ pairs_of e (labels_below m) (keys_below n) → m ≡ length p.sites → n ≡ length p.names
    → pairs ≡ pairs_of e (labels_of p) (keys_of p)
pairs_are p e pairs m n all sites names =
    all ∙ ap (λ (k : ℕ). pairs_of e (labels_below k) (keys_below n)) sites
    ∙ ap (λ (k : ℕ). pairs_of e (labels_of p) (keys_below k)) names

pub pairs_all : (p : Program) (e : Entries) (pairs : List (Label × Key)) (m n : ℕ)
    → pairs ≡ pairs_of e (labels_below m) (keys_below n) → m ≡ length p.sites → n ≡ length p.names
    → flat_map (λ (pair : Label × Key). entry_line e pair.0 pair.1) pairs ≡ entry_lines p e
unfolding pair_lines entry_lines
pairs_all p e pairs m n all sites names =
    ap (pair_lines e) (pairs_are p e pairs m n all sites names)
    ∙ pair_lines-pairs e (labels_of p) (keys_of p)

-- each pair has one line
count_step : (e : Entries) (l : Label) (k : Key) (o : Option AbstractProperty) → e l k ≡ o
    → (ks : List Key) → length (filter (λ (j : Key). is_some (e l j)) ks)
    ≡ length (flat_map (entry_line e l) ks)
    → length (filter (λ (j : Key). is_some (e l j)) (k ∷ ks))
    ≡ length (flat_map (entry_line e l) (k ∷ ks))
unfolding entry_line
count_step e l k None found ks rest = rw found rest
count_step e l k (Some q) found ks rest = rw found (ap (λ (n : ℕ). suc n) rest)

count_keys : (e : Entries) (l : Label) (ks : List Key)
    → length (filter (λ (k : Key). is_some (e l k)) ks) ≡ length (flat_map (entry_line e l) ks)
count_keys e l [] = refl
count_keys e l (k ∷ ks) = count_step e l k (e l k) refl ks (count_keys e l ks)

count_pairs : (e : Entries) (ls : List Label) (ks : List Key)
    → length (pairs_of e ls ks) ≡ length (flat_map (λ (l : Label). flat_map (entry_line e l) ks) ls)
count_pairs e [] ks = refl
count_pairs e (l ∷ ls) ks =
    let here : List (Label × Key) = map (λ (k : Key). (l, k))
    (filter (λ (k : Key). is_some (e l k)) ks) in
    length-append here (pairs_of e ls ks) ∙ ap (λ (n : ℕ). n + length (pairs_of e ls ks))
    (length-map (filter (λ (k : Key). is_some (e l k)) ks) (λ (k : Key). (l, k))
    ∙ count_keys e l ks) ∙ ap (λ (n : ℕ). length (flat_map (entry_line e l) ks) + n)
    (count_pairs e ls ks) ∙ sym (length-append (flat_map (entry_line e l) ks)
    (flat_map (λ (m : Label). flat_map (entry_line e m) ks) ls))

pub pairs_count : (p : Program) (e : Entries) (pairs : List (Label × Key)) (m n : ℕ)
    → pairs ≡ pairs_of e (labels_below m) (keys_below n) → m ≡ length p.sites → n ≡ length p.names
    → length pairs ≡ length (entry_lines p e)
unfolding entry_lines
pairs_count p e pairs m n all sites names =
    ap length (pairs_are p e pairs m n all sites names) ∙ count_pairs e (labels_of p) (keys_of p)

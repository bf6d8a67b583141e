-- What stands behind the messages, piece by piece, and names that are listed one by one.
use Rattle.std.proofs.Common.{◌≡◌, ◌<◌, ◌≤◌, ◌+◌, ◌-◌, ◌==◌, ◌&&◌, ℕ, Bool, true, false, List, [], ◌∷◌, ◌++◌}
use Rattle.std.proofs.Common.{drop, filter, get_or, if◌then◌else◌, length, map, not}
use Rattle.std.proofs.Common.{refl, sym, ◌∙◌, ap, ap₂, append-nil, append_assoc, arith, codes, decimal}
use Rattle.std.specs.List.{list_any}
use Rattle.std.proofs.lemmas.Bool.{cond-false, cond-true, eq-eqb, ne_eqb}
use Rattle.std.proofs.lemmas.List.{drop_all, drop_more, length-drop, length-map}
use Rattle.ja_files.specs.declared.file.File.{File}
use Rattle.ja_top.specs.Statuses.{has_fault, is_fault}
use Rattle.ja_warn.specs.declared.reached.Told.{Told}
use Rattle.ja_warn.specs.Told.{warnings_in}
use Rattle.ja_lint_top.specs.Ending.{between, counted_line, counts_by, counts_text, is_counted, last_line}
use Rattle.ja_lint_top.specs.Ending.{listed, name_shown, option_text, promise, reads_text, rows_of, so_many}
use Rattle.ja_lint_top.specs.Lint.{ending_text}
use Rattle.ja_lint_top.specs.declared.asking.Format.{Format}
use Rattle.ja_lint_top.specs.declared.asking.Manner.{Manner}
use Rattle.ja_lint_top.proofs.Warnings.{certain_count, counted_count, fault_among, faults_count}
use Rattle.ja_lint_top.proofs.Warnings.{rows_count}

-- ---- pieces

-- a piece more stands behind those that were added
pub then_more : (old front now next piece : List ℕ) → now ≡ old ++ front → next ≡ now ++ piece
    → next ≡ old ++ (front ++ piece)
then_more old front now next piece was step =
    step ∙ ap (λ (l : List ℕ). l ++ piece) was ∙ append_assoc old front piece

-- what stands there of some things alone
some_told : (old now piece : List ℕ) (n : ℕ) → 0 < n → now ≡ old ++ piece
    → now ≡ old ++ (if n == 0 then [] else piece)
some_told old now piece n some is =
    is ∙ ap (λ (l : List ℕ). old ++ l)
    (sym (cond-false (n == 0) [] piece (ne_eqb n 0 (λ none. omega (arith, some, none)))))

none_told : (old piece : List ℕ) (n : ℕ) → n ≡ 0 → old ≡ old ++ (if n == 0 then [] else piece)
none_told old piece n none =
    sym (append-nil old)
    ∙ ap (λ (l : List ℕ). old ++ l) (sym (cond-true (n == 0) [] piece (eq-eqb n 0 none)))

-- what is counted is told in four pieces
pub counted_told : (form : Format) (old first second third fourth : List ℕ) (n : ℕ) → 0 < n
    → first ≡ old ++ so_many n (codes "read")
    → second ≡ first ++ codes " in built-in functions of what isn't known to this tool"
    → third ≡ second ++ option_text form → fourth ≡ third ++ codes "\n"
    → fourth ≡ old ++ counted_line form n
unfolding counted_line
counted_told form old first second third fourth n some first_is second_is third_is fourth_is =
    let count = so_many n (codes "read") in
    let words = codes " in built-in functions of what isn't known to this tool" in
    let option = option_text form in
    some_told old fourth (count ++ words ++ option ++ codes "\n") n some
    (then_more old (count ++ words ++ option) third fourth (codes "\n")
    (then_more old (count ++ words) second third option
    (then_more old count first second words first_is second_is) third_is) fourth_is)

pub counted_none : (form : Format) (old : List ℕ) (n : ℕ) → n ≡ 0
    → old ≡ old ++ counted_line form n
unfolding counted_line
counted_none form old n none = none_told old _ n none

-- reads are told in three pieces
pub reads_told : (old first second third : List ℕ) (n : ℕ) → 0 < n → first ≡ old ++ codes "; "
    → second ≡ first ++ so_many n (codes "read")
    → third ≡ second ++ codes " of what isn't known to this tool"
    → third ≡ old ++ reads_text n
reads_told old first second third n some first_is second_is third_is =
    let count = so_many n (codes "read") in
    let words = codes " of what isn't known to this tool" in
    some_told old third (codes "; " ++ count ++ words) n some
    (then_more old (codes "; " ++ count) second third words
    (then_more old (codes "; ") first second count first_is second_is) third_is)

pub reads_none : (old : List ℕ) (n : ℕ) → n ≡ 0 → old ≡ old ++ reads_text n
reads_none old n none = none_told old _ n none

counts_are : (ts : List Told) (faults certain rows : ℕ)
    → faults ≡ length (filter (λ (t : Told). is_fault t.warning.kind) ts)
    → certain ≡ length (filter (λ (t : Told). is_fault t.warning.kind && t.warning.certain) ts)
    → rows ≡ length (filter (λ (t : Told). not (is_fault t.warning.kind)) ts)
    → counts_by faults certain rows ≡ counts_text (warnings_in ts)
counts_are ts faults certain rows faults_are certain_are rows_are =
    λ i. counts_by (faults_count ts faults faults_are i) (certain_count ts certain certain_are i)
    (rows_count ts rows rows_are i)

-- the counts are told in five pieces
pub counts_told : (ts : List Told) (old one two three four five : List ℕ)
    (faults certain rows : ℕ)
    → faults ≡ length (filter (λ (t : Told). is_fault t.warning.kind) ts)
    → certain ≡ length (filter (λ (t : Told). is_fault t.warning.kind && t.warning.certain) ts)
    → rows ≡ length (filter (λ (t : Told). not (is_fault t.warning.kind)) ts)
    → one ≡ old ++ so_many faults (codes "fault") → two ≡ one ++ codes ", "
    → three ≡ two ++ decimal certain → four ≡ three ++ codes " of them certain"
    → five ≡ four ++ reads_text rows → five ≡ old ++ counts_text (warnings_in ts)
unfolding counts_by
counts_told ts old one two three four five faults certain rows faults_are certain_are rows_are
    first second third fourth fifth =
    then_more old _ four five (reads_text rows)
    (then_more old _ three four (codes " of them certain")
    (then_more old _ two three (decimal certain)
    (then_more old (so_many faults (codes "fault")) one two (codes ", ") first second) third)
    fourth) fifth
    ∙ ap (λ (l : List ℕ). old ++ l)
    (counts_are ts faults certain rows faults_are certain_are rows_are)

-- ---- the whole

begun : (manner : Manner) (ts : List Told) (start first : List ℕ) (n : ℕ)
    → n ≡ length (filter (λ (t : Told). is_counted manner.rows t.warning) ts) → start ≡ []
    → first ≡ start ++ counted_line manner.format n
    → first ≡ counted_line manner.format
    (length (filter (is_counted manner.rows) (warnings_in ts)))
begun manner ts start first n counted_are empty first_is =
    first_is ∙ ap₂ (λ (s : List ℕ) k. s ++ counted_line manner.format k) empty
    (counted_count manner.rows ts n counted_are)

-- with a fault the counts stand behind what is counted
pub faulty_ending : (manner : Manner) (files : List File) (ts : List Told)
    (start first text : List ℕ) (n : ℕ) (faulty : Bool)
    → n ≡ length (filter (λ (t : Told). is_counted manner.rows t.warning) ts) → start ≡ []
    → first ≡ start ++ counted_line manner.format n
    → faulty ≡ list_any (λ (t : Told). is_fault t.warning.kind) ts → faulty ≡ true
    → text ≡ first ++ counts_text (warnings_in ts)
    → text ≡ ending_text manner files (warnings_in ts)
unfolding last_line
faulty_ending manner files ts start first text n faulty counted_are empty first_is among there
    text_is =
    text_is
    ∙ ap₂ (λ (l m : List ℕ). l ++ m) (begun manner ts start first n counted_are empty first_is)
    (sym (cond-true (has_fault (warnings_in ts)) (counts_text (warnings_in ts)) _
    (sym (fault_among ts) ∙ sym among ∙ there)))

-- .. and without one the promise
pub clean_ending : (manner : Manner) (files : List File) (ts : List Told)
    (start first text : List ℕ) (n rows : ℕ) (faulty : Bool)
    → n ≡ length (filter (λ (t : Told). is_counted manner.rows t.warning) ts) → start ≡ []
    → first ≡ start ++ counted_line manner.format n
    → faulty ≡ list_any (λ (t : Told). is_fault t.warning.kind) ts → faulty ≡ false
    → rows ≡ length (filter (λ (t : Told). not (is_fault t.warning.kind)) ts)
    → text ≡ first ++ promise (map name_shown files) (not (rows == 0))
    → text ≡ ending_text manner files (warnings_in ts)
unfolding last_line
clean_ending manner files ts start first text n rows faulty counted_are empty first_is among none
    rows_are text_is =
    text_is
    ∙ ap₂ (λ (l m : List ℕ). l ++ m) (begun manner ts start first n counted_are empty first_is)
    (ap (λ k. promise (map name_shown files) (not (k == 0))) (rows_count ts rows rows_are)
    ∙ sym (cond-false (has_fault (warnings_in ts)) _
    (promise (map name_shown files) (not (length (rows_of (warnings_in ts)) == 0)))
    (sym (fault_among ts) ∙ sym among ∙ none)))

-- ---- a name more is listed

listed_first : (x : List ℕ) (xs : List (List ℕ))
    → listed (x ∷ xs) ≡ x ++ between (length xs) ++ listed xs
unfolding listed
listed_first x xs = refl

listed_none : listed [] ≡ []
unfolding listed
listed_none = refl

-- what is listed of the files from a number on, and behind it that of the rest, is the whole
pub listed_more : (whole before mid after : List ℕ) (files : List File) (i : ℕ) (d : File)
    → i < length files → before ++ listed (map name_shown (drop i files)) ≡ whole
    → mid ≡ before ++ name_shown (get_or files i d)
    → after ≡ mid ++ between (length files - i - 1)
    → after ++ listed (map name_shown (drop (i + 1) files)) ≡ whole
listed_more whole before mid after files i d within so_far put separated =
    let rest : List File = drop (i + 1) files in
    let names : List (List ℕ) = map name_shown rest in
    let name : List ℕ = name_shown (get_or files i d) in
    let count : length names ≡ length files - i - 1 =
    length-map rest name_shown ∙ length-drop (i + 1) files ∙ omega arith in
    let front : listed (map name_shown (drop i files))
    ≡ name ++ between (length files - i - 1) ++ listed names =
    ap (λ (fs : List File). listed (map name_shown fs)) (drop_more files i d within)
    ∙ listed_first name names ∙ ap (λ n. name ++ between n ++ listed names) count in
    ap (λ (l : List ℕ). l ++ listed names)
    (separated ∙ ap (λ (l : List ℕ). l ++ between (length files - i - 1)) put)
    ∙ append_assoc (before ++ name) (between (length files - i - 1)) (listed names)
    ∙ append_assoc before name (between (length files - i - 1) ++ listed names)
    ∙ ap (λ (l : List ℕ). before ++ l)
    (sym (append_assoc name (between (length files - i - 1)) (listed names)) ∙ sym front)
    ∙ so_far

-- .. and when none is left
pub listed_all : (whole text : List ℕ) (files : List File) (i : ℕ) → length files ≤ i
    → text ++ listed (map name_shown (drop i files)) ≡ whole → text ≡ whole
listed_all whole text files i past is =
    sym (append-nil text)
    ∙ ap (λ (l : List ℕ). text ++ l)
    (sym (ap (λ (fs : List File). listed (map name_shown fs)) (drop_all i files past)
    ∙ listed_none))
    ∙ is

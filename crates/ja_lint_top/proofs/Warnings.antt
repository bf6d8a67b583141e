-- The warnings that pass a test, with their values and without.
use Rattle.std.proofs.Common.{◌≡◌, ◌∙◌, ◌&&◌, ◌||◌, ℕ, ap, cond, List, [], ◌∷◌, Bool, true, false, filter}
use Rattle.std.proofs.Common.{length, not, refl, sym}
use Rattle.std.specs.List.{list_any}
use Rattle.std.proofs.lemmas.List.{length-map}
use Rattle.ja_rows.specs.declared.table.Warning.{Warning}
use Rattle.ja_warn.specs.declared.reached.Told.{Told}
use Rattle.ja_top.specs.Statuses.{has_fault, is_fault}
use Rattle.ja_warn.specs.Told.{warnings_in}
use Rattle.ja_lint_top.specs.Ending.{certain_of, faults_of, is_counted, rows_of}

kept : (b : Bool) (t : Told) (us : List Told) (ws : List Warning) → warnings_in us ≡ ws
    → warnings_in (cond b (t ∷ us) us) ≡ cond b (t.warning ∷ ws) ws
kept true t us ws same = ap (λ vs. t.warning ∷ vs) same
kept false t us ws same = same

passing : (p : Warning → Bool) (ts : List Told)
    → warnings_in (filter (λ (t : Told). p t.warning) ts) ≡ filter p (warnings_in ts)
passing p [] = refl
passing p (t ∷ ts) =
    kept (p t.warning) t (filter (λ (u : Told). p u.warning) ts) (filter p (warnings_in ts))
    (passing p ts)

pub passing_count : (p : Warning → Bool) (ts : List Told)
    → length (filter (λ (t : Told). p t.warning) ts) ≡ length (filter p (warnings_in ts))
passing_count p ts =
    sym (length-map (filter (λ (t : Told). p t.warning) ts) (λ (t : Told). t.warning))
    ∙ ap length (passing p ts)

-- what passes two tests passes the one, and then the other one
kept_again : (b : Bool) (q : Warning → Bool) (w : Warning) (us vs : List Warning)
    → us ≡ filter q vs → cond (b && q w) (w ∷ us) us ≡ filter q (cond b (w ∷ vs) vs)
kept_again true q w us vs same = ap (λ xs. cond (q w) (w ∷ xs) xs) same
kept_again false q w us vs same = same

pub passing_both : (p q : Warning → Bool) (ws : List Warning)
    → filter (λ (w : Warning). p w && q w) ws ≡ filter q (filter p ws)
passing_both p q [] = refl
passing_both p q (w ∷ ws) =
    kept_again (p w) q w (filter (λ (v : Warning). p v && q v) ws) (filter p ws)
    (passing_both p q ws)

-- ---- those of faults, and the others

pub faults_count : (ts : List Told) (n : ℕ)
    → n ≡ length (filter (λ (t : Told). is_fault t.warning.kind) ts)
    → n ≡ length (faults_of (warnings_in ts))
faults_count ts n is = is ∙ passing_count (λ (w : Warning). is_fault w.kind) ts

pub certain_count : (ts : List Told) (n : ℕ)
    → n ≡ length (filter (λ (t : Told). is_fault t.warning.kind && t.warning.certain) ts)
    → n ≡ length (certain_of (warnings_in ts))
certain_count ts n is =
    is ∙ passing_count (λ (w : Warning). is_fault w.kind && w.certain) ts
    ∙ ap length (passing_both (λ (w : Warning). is_fault w.kind) (λ (w : Warning). w.certain)
    (warnings_in ts))

pub rows_count : (ts : List Told) (n : ℕ)
    → n ≡ length (filter (λ (t : Told). not (is_fault t.warning.kind)) ts)
    → n ≡ length (rows_of (warnings_in ts))
rows_count ts n is = is ∙ passing_count (λ (w : Warning). not (is_fault w.kind)) ts

pub counted_count : (rows : Bool) (ts : List Told) (n : ℕ)
    → n ≡ length (filter (λ (t : Told). is_counted rows t.warning) ts)
    → n ≡ length (filter (is_counted rows) (warnings_in ts))
counted_count rows ts n is = is ∙ passing_count (is_counted rows) ts

passing_any : (p : Warning → Bool) (ts : List Told)
    → list_any (λ (t : Told). p t.warning) ts ≡ list_any p (warnings_in ts)
passing_any p [] = refl
passing_any p (t ∷ ts) = ap (λ b. p t.warning || b) (passing_any p ts)

-- a fault is among them
pub fault_among : (ts : List Told)
    → list_any (λ (t : Told). is_fault t.warning.kind) ts ≡ has_fault (warnings_in ts)
fault_among ts = passing_any (λ (w : Warning). is_fault w.kind) ts

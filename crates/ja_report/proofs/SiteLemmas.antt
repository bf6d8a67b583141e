-- Numbers as a set, and the sites that are named.
use Rattle.std.proofs.Common.{◌≡◌, ℕ, ◌+◌, ◌<◌, ◌≤◌, Bool, true, false, ◌&&◌, ◌||◌, ◌==◌, cond, List, [], ◌∷◌, ◌++◌, filter, take, length, get_or, refl, ap, sym, ◌∙◌, append-nil, arith}
use Rattle.std.specs.List.{list_any, range_with_len}
use Rattle.std.specs.Ordering.{nat_cmp}
use Rattle.std.specs.BTreeMap.{is_at}
use Rattle.std.specs.BTreeSet.{BTreeSet, contains, Updates, IsEmpty}
use Rattle.std.proofs.lemmas.Bool.Decides.{nat_tests}
use Rattle.std.proofs.lemmas.List.{take_more, take_all, map-id}
use Rattle.std.proofs.lemmas.List.FromFn.{filter_of_map_range_with_len_more}
use Rattle.ja_graph.specs.declared.program.Program.{Program}
use Rattle.ja_report.specs.Report.{is_text_site, named_sites}

-- ---- numbers as a set

-- a set of the numbers of a list
pub record Has (set : BTreeSet ℕ) (numbers : List ℕ) : Type 0 where
  pub each : (s : ℕ) → contains nat_cmp set s ≡ list_any (λ (n : ℕ). n == s) numbers

at_end : (b : Bool) → b || false ≡ cond b true false
at_end true = refl
at_end false = refl

before_end : (b c d e : Bool) → e ≡ cond c true d → b || e ≡ cond c true (b || d)
before_end true true d e h = refl
before_end true false d e h = refl
before_end false c d e h = h

any_push : (p : ℕ → Bool) (xs : List ℕ) (x : ℕ)
    → list_any p (xs ++ x ∷ []) ≡ cond (p x) true (list_any p xs)
any_push p [] x = at_end (p x)
any_push p (y ∷ ys) x =
    before_end (p y) (p x) (list_any p ys) (list_any p (ys ++ x ∷ [])) (any_push p ys x)

same_test : (k s : ℕ) → is_at (nat_cmp k) s ≡ (k == s)
same_test k s = grind (arith, nat_tests)

pub set_none : (set : BTreeSet ℕ) → IsEmpty set → Has set []
set_none set e = record { each = λ s. ap (λ (ks : List ℕ). list_any (is_at (nat_cmp s)) ks) e }

pub set_more : (before after : BTreeSet ℕ) (ks : List ℕ) (i d : ℕ) → Has before (take i ks)
    → i < length ks → Updates nat_cmp before after (get_or ks i d) true
    → Has after (take (i + 1) ks)
set_more before after ks i d was inside step = record {
  each = λ s.
      step.0 s ∙ ap (λ (b : Bool). cond b true (contains nat_cmp before s))
      (same_test (get_or ks i d) s) ∙ ap (λ (b : Bool). cond (get_or ks i d == s) true b)
      (was.each s) ∙ sym (any_push (λ (n : ℕ). n == s) (take i ks) (get_or ks i d))
      ∙ ap (list_any (λ (n : ℕ). n == s)) (sym (take_more ks i d inside));
}

pub set_all : (set : BTreeSet ℕ) (ks : List ℕ) (i : ℕ) → Has set (take i ks) → length ks ≤ i
    → (s : ℕ) → contains nat_cmp set s ≡ list_any (λ (n : ℕ). n == s) ks
set_all set ks i was past s = was.each s ∙ ap (list_any (λ (n : ℕ). n == s)) (take_all i ks past)

-- ---- the sites that are named

test : Program → List ℕ → ℕ → Bool
test p named s = is_text_site p s && list_any (λ (n : ℕ). n == s) named

-- those among the first sites
pub first_sites : Program → List ℕ → ℕ → List ℕ
first_sites p named n = filter (test p named) (range_with_len 0 n)

pub sites_none : (p : Program) (named : List ℕ) → [] ≡ first_sites p named 0
unfolding first_sites
sites_none p named = refl

more : (p : Program) (named : List ℕ) (i : ℕ)
    → first_sites p named (i + 1) ≡ first_sites p named i ++ cond (test p named i) (i ∷ []) []
unfolding first_sites
more p named i =
    ap (filter (test p named)) (sym (map-id (range_with_len 0 (i + 1))))
    ∙ filter_of_map_range_with_len_more (test p named) (λ (n : ℕ). n) 0 i i (omega arith)
    ∙ ap (λ (l : List ℕ). filter (test p named) l ++ cond (test p named i) (i ∷ []) [])
    (map-id (range_with_len 0 i))

known : (p : Program) (named : List ℕ) (set : BTreeSet ℕ) (i : ℕ) (b : Bool)
    → ((s : ℕ) → contains nat_cmp set s ≡ list_any (λ (n : ℕ). n == s) named)
    → b ≡ is_text_site p i && contains nat_cmp set i → test p named i ≡ b
unfolding test
known p named set i b has is = ap (λ (c : Bool). is_text_site p i && c) (sym (has i)) ∙ sym is

pub sites_in : (p : Program) (named : List ℕ) (set : BTreeSet ℕ) (i : ℕ) (b : Bool)
    (sites next : List ℕ) → ((s : ℕ) → contains nat_cmp set s ≡ list_any (λ (n : ℕ). n == s) named)
    → b ≡ is_text_site p i && contains nat_cmp set i → b ≡ true → sites ≡ first_sites p named i
    → next ≡ sites ++ i ∷ [] → next ≡ first_sites p named (i + 1)
sites_in p named set i b sites next has is passes was step =
    step ∙ ap (λ (l : List ℕ). l ++ i ∷ []) was
    ∙ sym (more p named i ∙ ap (λ (c : Bool). first_sites p named i ++ cond c (i ∷ []) [])
    (known p named set i b has is ∙ passes))

pub sites_out : (p : Program) (named : List ℕ) (set : BTreeSet ℕ) (i : ℕ) (b : Bool)
    (sites : List ℕ) → ((s : ℕ) → contains nat_cmp set s ≡ list_any (λ (n : ℕ). n == s) named)
    → b ≡ is_text_site p i && contains nat_cmp set i → b ≡ false → sites ≡ first_sites p named i
    → sites ≡ first_sites p named (i + 1)
sites_out p named set i b sites has is fails was =
    was ∙ sym (more p named i ∙ ap (λ (c : Bool). first_sites p named i ++ cond c (i ∷ []) [])
    (known p named set i b has is ∙ fails) ∙ append-nil (first_sites p named i))

pub sites_all : (p : Program) (named : List ℕ) (n : ℕ) (sites : List ℕ)
    → sites ≡ first_sites p named n → n ≡ length p.sites → sites ≡ named_sites p named
unfolding first_sites test named_sites
sites_all p named n sites was all = was ∙ ap (first_sites p named) all

-- What stands around a statement when it is read, and what the rules on jumps take as around it.
use Rattle.std.proofs.Common.{◌≡◌, ℕ, zero, suc, Bool, true, false, ◌&&◌, ◌||◌, List, [], ◌∷◌, ◌++◌, map, take, refl, ap, sym, ◌∙◌}
use Rattle.std.specs.Cmp.Lexicographic.{nat_list_eq_equiv}
use Rattle.std.specs.List.{list_any}
use Rattle.std.specs.Str.{bytes_eq}
use Rattle.ja_base.proofs.Tests.{or_right_true}
use Rattle.ja_syntax.specs.code.Jumps.{Around, around_body, within, within_loop, within_switch, labelled, is_among}
use Rattle.ja_grammar.specs.Contexts.{Label, Context, program_context, function_context, loop_context, switch_context, labelled_context, has_label, has_loop, marked}

abbrev pub names : List Label → List (List ℕ)
names = map (λ l. l.name)

-- a context says what is around a statement that n labels stand directly before; `outermost`: it
-- stands in no other one
pub record Matches (c : Context) (n : ℕ) (outermost : Bool) (a : Around) : Type 0 where
  pub labels : a.labels ≡ names c.labels
  pub before : a.labels_before ≡ take n (names c.labels)
  pub loops : (name : List ℕ) → has_loop c name ≡ true → is_among name a.loop_labels ≡ true
  pub in_loop : a.in_loop ≡ c.in_loop
  pub breakable : (a.in_loop || a.in_switch) ≡ c.in_breakable
  pub in_function : a.in_function ≡ c.in_function
  pub top : outermost ≡ true → a.at_top ≡ true

-- ---- labels

pub among_names : (name : List ℕ) (ls : List Label)
    → is_among name (names ls) ≡ list_any (λ (l : Label). bytes_eq l.name name) ls
unfolding is_among
among_names name [] = refl
among_names name (l ∷ ls) = rw (nat_list_eq_equiv.symm name l.name, among_names name ls) refl

pub label_is : (c : Context) (n : ℕ) (o : Bool) (a : Around) → Matches c n o a → (name : List ℕ)
    → is_among name a.labels ≡ has_label c name
unfolding has_label
label_is c n o a m name = ap (is_among name) m.labels ∙ among_names name c.labels

names_marked : (n : ℕ) (ls : List Label) → names (marked n ls) ≡ names ls
unfolding marked
names_marked zero ls = refl
names_marked (suc n) [] = refl
names_marked (suc n) (l ∷ ls) = ap (λ ns. l.name ∷ ns) (names_marked n ls)

-- the loops of a name
abbrev loops_of : List ℕ → List Label → Bool
loops_of name = list_any (λ (l : Label). l.is_loop && bytes_eq l.name name)

among_marked : (name : List ℕ) (loops : List (List ℕ)) (n : ℕ) (ls : List Label)
    → (loops_of name ls ≡ true → is_among name loops ≡ true) → loops_of name (marked n ls) ≡ true
    → is_among name (take n (names ls) ++ loops) ≡ true
unfolding marked is_among
among_marked name loops zero ls known h = known h
among_marked name loops (suc n) [] known h = absurd (cc h)
among_marked name loops (suc n) (l ∷ ls) known h =
    go (among_marked name loops n ls (λ f. known
    (or_right_true (l.is_loop && bytes_eq l.name name) f))) (bytes_eq l.name name) refl h
  where
    go : (loops_of name (marked n ls) ≡ true → is_among name (take n (names ls) ++ loops) ≡ true)
        → (b : Bool) → bytes_eq l.name name ≡ b → (b || loops_of name (marked n ls)) ≡ true
        → is_among name (l.name ∷ (take n (names ls) ++ loops)) ≡ true
    go again true e h = rw (nat_list_eq_equiv.symm name l.name ∙ e) refl
    go again false e h = or_right_true (bytes_eq name l.name) (again h)

-- ---- contexts

pub program_matches : Matches program_context 0 true (around_body false)
unfolding around_body has_loop
program_matches =
    record {
      labels = refl;
      before = refl;
      loops = λ name h. absurd (cc h);
      in_loop = refl;
      breakable = refl;
      in_function = refl;
      top = λ h. refl;
    }

pub function_matches : Matches function_context 0 true (around_body true)
unfolding around_body has_loop
function_matches =
    record {
      labels = refl;
      before = refl;
      loops = λ name h. absurd (cc h);
      in_loop = refl;
      breakable = refl;
      in_function = refl;
      top = λ h. refl;
    }

module _ (c : Context) (n : ℕ) (o : Bool) (a : Around) (m : Matches c n o a) where
  pub within_matches : Matches c 0 false (within a)
  unfolding within
  within_matches =
      record {
        labels = m.labels;
        before = refl;
        loops = m.loops;
        in_loop = m.in_loop;
        breakable = m.breakable;
        in_function = m.in_function;
        top = λ h. absurd (cc h);
      }

  pub loop_matches : Matches (loop_context c n) 0 false (within_loop a)
  unfolding within_loop has_loop
  loop_matches = record {
    labels = m.labels ∙ sym (names_marked n c.labels);
    before = refl;
    loops =
        λ name h. ap (λ ls. is_among name (ls ++ a.loop_labels)) m.before
        ∙ among_marked name a.loop_labels n c.labels (m.loops name) h;
    in_loop = refl;
    breakable = refl;
    in_function = m.in_function;
    top = λ h. absurd (cc h);
  }

  pub switch_matches : Matches (switch_context c) 0 false (within_switch a)
  unfolding within_switch has_loop
  switch_matches =
      record {
        labels = m.labels;
        before = refl;
        loops = m.loops;
        in_loop = m.in_loop;
        breakable = or_right_true a.in_loop refl;
        in_function = m.in_function;
        top = λ h. absurd (cc h);
      }

  pub labelled_matches : (name : List ℕ) → Matches (labelled_context c name) (suc n) false
      (labelled name a)
  unfolding labelled has_loop
  labelled_matches name = record {
    labels = ap (λ ls. name ∷ ls) m.labels;
    before = ap (λ ls. name ∷ ls) m.before;
    loops = m.loops;
    in_loop = m.in_loop;
    breakable = m.breakable;
    in_function = m.in_function;
    top = λ h. absurd (cc h);
  }

-- The callees at a node that run a function, and what is demanded for them.
use Rattle.std.proofs.Common.{◌≡◌, ◌<◌, ◌+◌, ◌&&◌, ◌||◌, ◌==◌, ℕ, false, List, length, take, get_or, Option, Some, None, refl, sym, subst, ap, ◌∙◌}
use Rattle.std.specs.Prelude.{IsTrue, slice_get}
use Rattle.std.specs.Cmp.{both_ways}
use Rattle.std.specs.List.{filter, list_any}
use Rattle.std.specs.Option.{option_map_or, option_and_then}
use Rattle.std.proofs.lemmas.Bool.{and_parts, and_from, false≢true}
use Rattle.std.proofs.lemmas.List.Folds.{list_any_more}
use Rattle.std.proofs.lemmas.Option.{slice_get_within}
use Rattle.ja_base.specs.declared.ids.FnId.{FnId}
use Rattle.ja_base.specs.declared.ids.Label.{Label}
use Rattle.ja_base.specs.declared.ids.Reg.{Reg}
use Rattle.ja_graph.specs.declared.node.Node.{Node}
use Rattle.ja_graph.specs.declared.node.Node.TheVariants as node
use Rattle.ja_graph.specs.declared.program.Program.{Program}
use Rattle.ja_graph.specs.declared.program.SiteInfo.{SiteInfo}
use Rattle.ja_abstract.specs.AbstractValue.{Labels, same_label, no_labels}
use Rattle.ja_abstract.specs.AbstractState.{AbstractState, labels_of}
use Rattle.ja_abstract.proofs.Labels.{same_label-true, same_label-self, some_among, among_some, labels_of-has}
use Rattle.ja_rows.specs.Calls as spec
use Rattle.ja_rows.specs.Edges.{runs}
use Rattle.ja_astate.proofs.Walking.{is_among, among-filter}
use Rattle.ja_transfer.specs.code.Callees.{entry_by}
use Rattle.ja_transfer.specs.declared.sites.Entry.{Entry}
use Rattle.ja_transfer.specs.declared.sites.Entry.TheVariants.{Call, Construct}
use Rattle.ja_flow.specs.code.Calling.{callee_of, running_among}

-- a label more
pub running_more : (p : Program) (entry : Entry) (f : ℕ) (ls : List Label) (i : ℕ) (d : Label)
    (now after : Labels) → i < length ls → now ≡ running_among p entry f (take i ls)
    → after ≡ (λ l. now l || (runs (entry_by entry p) f (get_or ls i d)
    && same_label (get_or ls i d) l))
    → after ≡ running_among p entry f (take (i + 1) ls)
running_more p entry f ls i d now after within now_is after_is =
    let m = get_or ls i d in
    after_is
    ∙ ap {B = Labels} (λ (x : Labels) (l : Label).
    x l || (runs (entry_by entry p) f m && same_label m l)) now_is
    ∙ (λ n l. sym (list_any_more (λ (x : Label). runs (entry_by entry p) f x && same_label x l) ls
    i d within) n)

-- a label whose objects run a function is one of the program
runs_within : (p : Program) (entry : Entry) (f : ℕ) (l : Label)
    → IsTrue (runs (entry_by entry p) f l) → l.site.0 < length p.sites
runs_within p Call f l e = by (slice_get p.sites l.site.0) refl e
  where
    by : (o : Option SiteInfo) → slice_get p.sites l.site.0 ≡ o
        → IsTrue (option_map_or (λ (g : FnId). g.0 == f)
        (option_and_then (λ (s : SiteInfo). s.calls) o) false) → l.site.0 < length p.sites
    by None at run = absurd (false≢true run)
    by (Some info) at run = slice_get_within p.sites l.site.0 info at
runs_within p Construct f l e = by (slice_get p.sites l.site.0) refl e
  where
    by : (o : Option SiteInfo) → slice_get p.sites l.site.0 ≡ o
        → IsTrue (option_map_or (λ (g : FnId). g.0 == f)
        (option_and_then (λ (s : SiteInfo). s.constructs) o) false) → l.site.0 < length p.sites
    by None at run = absurd (false≢true run)
    by (Some info) at run = slice_get_within p.sites l.site.0 info at

-- the labels of a set whose objects run a function
pub running_are : (p : Program) (entry : Entry) (f : ℕ) (set : Labels) (ls : List Label)
    → ls ≡ filter set (labels_of p)
    → running_among p entry f ls ≡ (λ l. set l && runs (entry_by entry p) f l)
running_are p entry f set ls are =
    ap (running_among p entry f) are ∙ (λ n l. each l n)
  where
    run : Labels
    run = runs (entry_by entry p) f

    each : (l : Label) → running_among p entry f (filter set (labels_of p)) l
        ≡ (set l && run l)
    each l =
        let all = filter set (labels_of p) in
        let test : Labels = λ m. run m && same_label m l in
        both_ways (list_any test all) (set l && run l)
        (λ e. let (m, a, t) = among_some test all e in
        let (is_run, same) = and_parts (run m) (same_label m l) t in
        let here = (and_parts (set m) (is_among m (labels_of p))
        (sym (among-filter set (labels_of p) m) ∙ a)).0 in
        subst (λ x. IsTrue (set x && run x)) (same_label-true m l same)
        (and_from (set m) (run m) here is_run))
        (λ e. let (here, is_run) = and_parts (set l) (run l) e in
        some_among test all l
        (among-filter set (labels_of p) l ∙ and_from (set l) (is_among l (labels_of p)) here
        (labels_of-has p l (runs_within p entry f l is_run)))
        (and_from (run l) (same_label l l) is_run (same_label-self l)))

-- by the register of the callee
abbrev pub callees_by : Program → AbstractState → ℕ → Option (Entry × Reg) → Labels
callees_by p a f None = no_labels
callees_by p a f (Some c) = λ l. (a.register c.1.0).label l && runs (entry_by c.0 p) f l

pub callees_are : (p : Program) (a : AbstractState) (f : ℕ) (n : Node)
    → callees_by p a f (callee_of n) ≡ spec.callees p a n f
callees_are p a f (node.Call dst callee receiver list error) = refl
callees_are p a f (node.New dst callee list site error) = refl
callees_are p a f n = refl

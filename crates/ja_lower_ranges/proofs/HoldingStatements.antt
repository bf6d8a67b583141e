-- What each form of statement lists holds, where the forms inside do.
use Rattle.std.proofs.Common.{◌≡◌, ◌≤◌, ◌<◌, ◌+◌, ℕ, List, [], ◌∷◌, ◌++◌, Option, Some, None, inl, inr, refl, ap, arith}
use Rattle.std.specs.List.{AllByRecursion}
use Rattle.ja_base.specs.declared.ids.Place.{Place}
use Rattle.ja_base.specs.declared.ids.Reg.{Reg}
use Rattle.ja_graph.specs.declared.node.BinaryOp.TheVariants.{StrictEq}
use Rattle.ja_graph.specs.declared.node.Node.TheVariants.{Binary, Branch, Names, Pick}
use Rattle.ja_lower_listing.specs.declared.item.Spot.{Spot}
use Rattle.ja_syntax.specs.declared.tree.Name.{Name}
use Rattle.ja_syntax.specs.declared.tree.CatchOf.{CatchOf}
use Rattle.ja_syntax.specs.declared.tree.Declaration.{Declaration}
use Rattle.ja_syntax.specs.declared.tree.Initialiser.{Initialiser}
use Rattle.ja_syntax.specs.declared.tree.ForFirst.{ForFirst}
use Rattle.ja_syntax.specs.declared.tree.ForFirst.TheVariants as first
use Rattle.ja_syntax.specs.declared.tree.ForTarget.{ForTarget}
use Rattle.ja_syntax.specs.declared.tree.ForTarget.TheVariants as target
use Rattle.ja_lower_draft.specs.Copies.{Template, with_block}
use Rattle.ja_lower_draft.specs.Lines.{Listing, register, spot_of, behind_spots, restarted, with_spot}
use Rattle.ja_lower_expressions.specs.References.{Form, value_of, with_name}
use Rattle.ja_lower_expressions.specs.Literals.{scope}
use Rattle.ja_lower_statements.specs.Statements.{Around, Does, list_all_statements, declare_with, declare_one, declare_all, with_condition, list_branch, list_then, list_else, list_if_alone, list_if, list_do, list_while, for_condition, for_update, for_first, list_for, for_in_reference, for_in_first, list_for_in, returned, list_return, list_throw, list_labelled, Clause, list_test, list_tests, default_or, default_spot, list_bodies, list_switch, count, list_guarded, list_handler, list_caught, list_catch, keep_block, list_rethrow, list_ways_out, list_finally, list_try}
use Rattle.ja_lower_statements.specs.Ways.{Way, of_loop, of_switch, of_label, of_catch, of_finally, jump_to, leave_all, leaving}
use Rattle.ja_lower_names.specs.TextOrder.{in_name}
use Rattle.ja_lower_ranges.specs.InRange.{Limits, IsTemporary}
use Rattle.ja_lower_ranges.specs.Spots.{OfSpot}
use Rattle.ja_lower_ranges.proofs.CopyRanges.{block_sound, sound_with_block, sound_jump_to, sound_leave_all}
use Rattle.ja_lower_ranges.proofs.Holding.{Text, bounds, ReachesAll, Context, scene_at, awaiting, IsTaken, Holds, HoldsValued, HoldsListed, HoldsForm, holds_node, holds_branch, holds_jump, holds_back, holds_spot, holds_take_1, holds_take_2, holds_take_3, holds_take_4, holds_restarted, holds_taken, holds_result, holds_const, holds_copy, holds_truth, holds_scope}
use Rattle.ja_lower_ranges.proofs.HoldingOperands.{holds_put_value, holds_object, holds_name, holds_value_of, holds_assign}
use Rattle.ja_lower_ranges.proofs.Sound.{IsSoundBlock, IsSoundWay}
use Rattle.ja_lower_ranges.proofs.SpotCopies.{IsBlock, block_later, kept_with_block, listed_block}
use Rattle.ja_lower_ranges.proofs.SpotCounts.{free, taken, pending_times, Among, IsBelow, AreBelow, below_later, below_append, among_more, spot_map}
use Rattle.ja_lower_ranges.proofs.SpotLines.{begun, handler_now, take, nth, on_from_inside}
use Rattle.ja_lower_ranges.proofs.SpotWays.{IsKnownWay, AreKnown, ways_later, IsTarget, kept_jump_to, kept_leave_all}

-- ---- what is around a statement

-- the ways that jumps leave: their blocks are in range, and they lead to spots that are known
pub record HoldWays (t : Text) (ks : List Spot) (n : ℕ) (ways : List Way) : Type 0 where
  pub numbers : AllByRecursion (IsSoundWay (bounds t)) ways
  pub spots : AreKnown ks n ways

abbrev pub around_at : Text → Option Spot → List Way → List (List ℕ) → Around
around_at t handler ways labels =
    record { scene = record t.scene { handler = handler }; ways = ways; labels = labels }

-- from a listing on, where no spot is pending yet
abbrev pub from_on : (t : Text) → Option Spot → List Spot → Listing → Context t
from_on t handler ks l = record { handler = handler; known = ks; pending = []; from = l }

-- a statement, wherever it is listed
abbrev pub HoldsDoes : Text → Does → Type 0
HoldsDoes t d =
    (handler : Option Spot) (ks : List Spot) (l : Listing) (ways : List Way)
    (labels : List (List ℕ)) (base : ℕ)
    → HoldWays t ks l.spot ways
    → IsTemporary (bounds t) base
    → Holds (from_on t handler ks l) l
    → Holds (from_on t handler ks l) (d (around_at t handler ways labels) base l)

abbrev pub HoldAll : Text → List Does → Type 0
HoldAll t ds = AllByRecursion (HoldsDoes t) ds

next_temporary : (limits : Limits) (n : ℕ) → IsTemporary limits n → IsTemporary limits (n + 1)
next_temporary limits n set = omega arith

module _ {t : Text} {c : Context t} where
  -- what is around a statement inside may be other, and more spots may be known there
  holds_inner : {l : Listing} (xs : List Spot) (handler : Option Spot) (inner : List Way)
      (labels : List (List ℕ)) (d : Does) (base : ℕ) → HoldsDoes t d
      → OfSpot (IsBelow l.spot) handler → AreBelow l.spot xs
      → HoldWays t (xs ++ (c.pending ++ c.known)) l.spot inner → IsTemporary (bounds t) base
      → Holds c l → Holds c (d (around_at t handler inner labels) base l)
  holds_inner {l} xs handler inner labels d base hd handled below w set h =
      let ks = xs ++ (c.pending ++ c.known) in
      let known = below_append l.spot xs (c.pending ++ c.known) below
      (below_append l.spot c.pending c.known h.spots.pending
      (below_later c.from.spot l.spot c.known h.spots.low h.spots.known)) in
      let r = hd handler ks l inner labels base w set (record {
        numbers = h.numbers;
        spots = begun (record t.scene { handler = handler }) ks l handled known;
      }) in
      record { numbers = r.numbers; spots = on_from_inside {l = l} xs h.spots r.spots }

  -- the ways are known where spots are pending
  ways_now : {l : Listing} {ways : List Way} → HoldWays t c.known c.from.spot ways → Holds c l
      → HoldWays t (c.pending ++ c.known) l.spot ways
  ways_now {l} {ways} w h =
      record {
        numbers = w.numbers;
        spots = ways_later c.pending c.known c.from.spot l.spot ways h.spots.low w.spots;
      }

  holds_done : {l : Listing} {ways : List Way} (d : Does) (base : ℕ) → HoldsDoes t d
      → HoldWays t c.known c.from.spot ways → IsTemporary (bounds t) base → Holds c l
      → Holds c (d (around_at t c.handler ways []) base l)
  holds_done {ways = ways} d base hd w set h =
      holds_inner [] c.handler ways [] d base hd (handler_now h.spots) tt (ways_now w h) set h

  -- inside one more way
  holds_in : {l : Listing} {ways : List Way} (way : Way) (labels : List (List ℕ))
      (d : Does) (base : ℕ) → HoldsDoes t d → IsSoundWay (bounds t) way
      → IsKnownWay (c.pending ++ c.known) l.spot way
      → HoldWays t c.known c.from.spot ways → IsTemporary (bounds t) base → Holds c l
      → Holds c (d (around_at t c.handler (way ∷ ways) labels) base l)
  holds_in {ways = ways} way labels d base hd sound known w set h =
      let now = ways_now w h in
      holds_inner [] c.handler (way ∷ ways) labels d base hd (handler_now h.spots) tt
      (record { numbers = (sound, now.numbers); spots = (known, now.spots) }) set h

  -- the body of a loop whose next turn began before it
  holds_turn : {l : Listing} {ways : List Way} (labels : List (List ℕ)) (d : Does)
      (base : ℕ) (end turn : Spot) → HoldsDoes t d → IsTaken c end → turn.0 < l.spot
      → HoldWays t c.known c.from.spot ways
      → IsTemporary (bounds t) base → Holds c l
      → Holds c (d (around_at t c.handler (of_loop labels end turn ∷ ways) []) base l)
  holds_turn {l} {ways} labels d base end turn hd there before w set h =
      holds_inner (turn ∷ []) c.handler (of_loop labels end turn ∷ ways) [] d base hd
      (handler_now h.spots) (before, tt) (record {
        numbers = (tt, w.numbers);
        spots = (
          (inr there, inl refl),
          ways_later (turn ∷ c.pending) c.known c.from.spot l.spot ways h.spots.low w.spots,
        );
      }) set h

  -- ---- jumps

  pub holds_jump_to : {l : Listing} {ways : List Way} (place : Place) (target : Way → Option Spot)
      → IsTarget target → HoldWays t (c.pending ++ c.known) c.from.spot ways → Holds c l
      → Holds c (jump_to (scene_at c) place target ways (leaving l))
  holds_jump_to {l} {ways} place target goes w h = record {
    numbers = sound_jump_to (bounds t) (scene_at c) place target ways (leaving l) w.numbers
        h.numbers;
    spots = kept_jump_to place target goes ways (leaving l) w.spots h.spots;
  }

  holds_leave_all : {l : Listing} {ways : List Way} (place : Place) (value : Reg)
      → HoldWays t (c.pending ++ c.known) c.from.spot ways → Holds c l
      → Holds c (leave_all (scene_at c) place value ways (leaving l))
  holds_leave_all {l} {ways} place value w h = record {
    numbers = sound_leave_all (bounds t) (scene_at c) place value ways (leaving l) w.numbers
        h.numbers;
    spots = kept_leave_all place value ways (leaving l) w.spots h.spots;
  }

-- ---- lists of statements

pub holds_each : {t : Text} {c : Context t} {ways : List Way} (ds : List Does) → HoldAll t ds
    → (labels : List (List ℕ)) (base : ℕ) (l : Listing) → HoldWays t c.known c.from.spot ways
    → IsTemporary (bounds t) base → Holds c l
    → Holds c (list_all_statements ds (around_at t c.handler ways labels) base l)
unfolding list_all_statements
holds_each [] hs labels base l w set h = h
holds_each {t} {c} {ways} (d ∷ ds) hs labels base l w set h =
    holds_each ds hs.1 labels base (d (around_at t c.handler ways []) base l) w set
    (holds_done d base hs.0 w set h)

pub holds_all : {t : Text} (ds : List Does) → HoldAll t ds → HoldsDoes t (list_all_statements ds)
holds_all ds hs handler ks l ways labels base w set h = holds_each ds hs labels base l w set h

-- ---- the parts of a statement

abbrev pub IfAny : {A : Type 0} → (A → Type 0) → Option A → Type 0
IfAny P None = Unit {0}
IfAny P (Some x) = P x

abbrev pub HoldsInitialiser : Text → Initialiser Form → Type 0
HoldsInitialiser t i = HoldsForm t i.value

abbrev pub HoldsDeclaration : Text → Declaration Form → Type 0
HoldsDeclaration t d = ReachesAll t (in_name d.name) × IfAny (HoldsInitialiser t) d.initialiser

abbrev pub HoldsFirst : Text → ForFirst Form → Type 0
HoldsFirst t first.Nothing = Unit {0}
HoldsFirst t (first.Expression value) = HoldsForm t value
HoldsFirst t (first.Variables declarations) = AllByRecursion (HoldsDeclaration t) declarations

abbrev pub HoldsTarget : Text → ForTarget Form → Type 0
HoldsTarget t (target.Variable declaration) = HoldsDeclaration t declaration
HoldsTarget t (target.Reference value) = HoldsForm t value

abbrev pub HoldsClause : Text → Clause → Type 0
HoldsClause t c = IfAny (HoldsForm t) c.test × HoldAll t c.body

abbrev pub HoldsCatch : Text → CatchOf Does → Type 0
HoldsCatch t caught = ReachesAll t (in_name caught.parameter) × HoldAll t caught.body

-- a name is found where it is a variable, too
pub holds_variable_name : {t : Text} (name : Name) → ReachesAll t (in_name name)
    → HoldsForm t (with_name name.text name.place)
holds_variable_name name known = holds_name name.text name.place (λ is. known.0 refl, tt)

-- ---- what needs the scene alone

module _ {t : Text} {c : Context t} where
  holds_declare : {l : Listing} (name : Name) (i : Option (Initialiser Form))
      → ReachesAll t (in_name name) → IfAny (HoldsInitialiser t) i → Holds c l
      → Holds c (declare_with name i (scene_at c) l)
  holds_declare name None known fine h = h
  holds_declare name (Some i) known fine h =
      (holds_assign (with_name name.text name.place) i.value i.place
      (holds_variable_name name known) fine h).listing

  pub holds_declare_all : (ds : List (Declaration Form)) (base : ℕ) (l : Listing)
      → AllByRecursion (HoldsDeclaration t) ds → IsTemporary (bounds t) base → Holds c l
      → Holds c (declare_all ds (scene_at c) base l)
  unfolding declare_all
  holds_declare_all [] base l fine set h = h
  holds_declare_all (d ∷ ds) base l fine set h =
      holds_declare_all ds base (declare_one d (scene_at c) base l) fine.1 set
      (holds_declare d.name d.initialiser fine.0.0 fine.0.1 (holds_restarted base set h))

  holds_condition : {l : Listing} (x : Form) (place : Place) → HoldsForm t x → Holds c l
      → HoldsValued c (with_condition x (scene_at c) place l)
  holds_condition x place fine h = holds_truth place _ (holds_value_of x fine h).listing

  holds_for_condition : {l : Listing} (x : Option Form) (place : Place) → IfAny (HoldsForm t) x
      → Holds c l → HoldsValued c (for_condition x (scene_at c) place l)
  holds_for_condition None place fine h = holds_truth place _ (holds_const place _ h).listing
  holds_for_condition (Some x) place fine h = holds_condition x place fine h

  holds_for_update : {l : Listing} (u : Option Form) → IfAny (HoldsForm t) u → Holds c l
      → Holds c (for_update u (scene_at c) l)
  holds_for_update None fine h = h
  holds_for_update (Some u) fine h = (holds_value_of u fine h).listing

  holds_for_first : {l : Listing} (f : ForFirst Form) (base : ℕ) → HoldsFirst t f
      → IsTemporary (bounds t) base → Holds c l → Holds c (for_first f (scene_at c) base l)
  holds_for_first first.Nothing base fine set h = h
  holds_for_first (first.Expression value) base fine set h = (holds_value_of value fine h).listing
  holds_for_first {l} (first.Variables ds) base fine set h = holds_declare_all ds base l fine set h

  holds_for_in_reference : {l : Listing} (goal : ForTarget Form) → HoldsTarget t goal → Holds c l
      → HoldsListed c (for_in_reference goal (scene_at c) l)
  holds_for_in_reference {l} (target.Variable d) fine h = holds_variable_name d.name fine.0 c l h
  holds_for_in_reference {l} (target.Reference value) fine h = fine c l h

  holds_for_in_first : {l : Listing} (goal : ForTarget Form) → HoldsTarget t goal → Holds c l
      → Holds c (for_in_first goal (scene_at c) l)
  holds_for_in_first (target.Variable d) fine h = holds_declare d.name d.initialiser fine.0 fine.1 h
  holds_for_in_first (target.Reference value) fine h = h

  holds_returned : {l : Listing} (value : Option Form) (place : Place) → IfAny (HoldsForm t) value
      → Holds c l → HoldsValued c (returned value (scene_at c) place l)
  holds_returned None place fine h = holds_const place _ h
  holds_returned (Some value) place fine h = holds_value_of value fine h

  pub holds_throw : {l : Listing} (value : Form) (place : Place) (base : ℕ) → HoldsForm t value
      → IsTemporary (bounds t) base → Holds c l
      → Holds c (list_throw value place (scene_at c) base l)
  holds_throw value place base fine set h =
      holds_node place _ tt (holds_value_of value fine (holds_restarted base set h)).listing

  -- a copy of a block, where some of its spots are pending
  holds_block : {l : Listing} (m : ℕ) (b : Template) (above : Reg)
      → IsSoundBlock (bounds t) b.block → IsTemporary (bounds t) b.temporary → IsBlock m b
      → (AreBelow l.spot c.pending → m ≤ l.spot) → Holds c l → Holds c (with_block b above l)
  holds_block {l} m b above sound from leads later h = record {
    numbers = sound_with_block (bounds t) b from above l sound h.numbers;
    spots = kept_with_block l b above (block_later m l.spot b (later h.spots.pending) leads)
        h.spots;
  }

-- ---- `if` (12.5) and loops (12.6)

pub holds_if : {t : Text} (x : Form) (d : Does) (e : Option Does) (place : Place) → HoldsForm t x
    → HoldsDoes t d → IfAny (HoldsDoes t) e → HoldsDoes t (list_if x d e place)
unfolding list_if_alone list_then list_else list_branch
holds_if x d None place hx hd he handler ks l ways labels base w set h =
    holds_spot _ (holds_done d base hd w set (holds_branch place _ _ (inl refl) tt
    (holds_take_1 (holds_condition x place hx (holds_restarted base set h)).listing)))
holds_if x d (Some e) place hx hd he handler ks l ways labels base w set h =
    holds_spot _ (holds_done e base he w set (holds_spot _ (holds_jump _ (inr (inl refl))
    (holds_done d base hd w set (holds_branch place _ _ (inl refl) tt
    (holds_take_2 (holds_condition x place hx (holds_restarted base set h)).listing))))))

pub holds_do : {t : Text} (d : Does) (x : Form) (place : Place) → HoldsDoes t d → HoldsForm t x
    → HoldsDoes t (list_do d x place)
unfolding list_do
holds_do d x place hd hx handler ks l ways labels base w set h =
    holds_spot _ (holds_back (spot_of l 2) (spot_of l 0) (inl refl) (omega arith)
    (holds_branch place _ _ (inl refl) tt
    (holds_condition x place hx (holds_restarted base set (holds_spot (spot_of l 1)
    (holds_in (of_loop labels (spot_of l 2) (spot_of l 1)) [] d base hd tt
    (inr (inl refl), inl refl) w set (holds_spot (spot_of l 0) (holds_take_3 h)))))).listing))

pub holds_while : {t : Text} (x : Form) (d : Does) (place : Place) → HoldsForm t x
    → HoldsDoes t d → HoldsDoes t (list_while x d place)
unfolding list_while
holds_while {t} x d place hx hd handler ks l ways labels base w set h =
    let c = awaiting (spot_of l 1 ∷ []) (from_on t handler ks l) in
    let b = holds_condition {c = c} x place hx (holds_restarted base set
    (holds_spot (spot_of l 0) (holds_take_2 h))) in
    let tested = holds_branch place (Branch _) (spot_of l 1) (inl refl) tt b.listing in
    holds_spot _ (holds_back (spot_of l 1) (spot_of l 0) (inl refl) (omega arith)
    (holds_turn labels d base (spot_of l 1) (spot_of l 0) hd (inl refl)
    (omega (arith, tested.spots.pending.0)) w set tested))

pub holds_for : {t : Text} (f : ForFirst Form) (x u : Option Form) (d : Does) (place : Place)
    → HoldsFirst t f → IfAny (HoldsForm t) x → IfAny (HoldsForm t) u → HoldsDoes t d
    → HoldsDoes t (list_for f x u d place)
unfolding list_for
holds_for {t} f x u d place hf hx hu hd handler ks l ways labels base w set h =
    let c = awaiting (spot_of l 1 ∷ spot_of l 2 ∷ []) (from_on t handler ks l) in
    let i = holds_for_first f base hf set (holds_restarted base set (holds_take_3 h)) in
    let b = holds_for_condition {c = c} x place hx (holds_spot (spot_of l 0) i) in
    let y = holds_in (of_loop labels (spot_of l 2) (spot_of l 1)) [] d base hd tt
    (inr (inl refl), inl refl) w set
    (holds_branch place (Branch _) (spot_of l 2) (inr (inl refl)) tt b.listing) in
    holds_spot _ (holds_back (spot_of l 2) (spot_of l 0) (inl refl) (omega arith)
    (holds_for_update u hu (holds_restarted _ b.listing.numbers.next
    (holds_spot (spot_of l 1) y))))

pub holds_for_in : {t : Text} (goal : ForTarget Form) (object : Form) (d : Does) (place : Place)
    → HoldsTarget t goal → HoldsForm t object → HoldsDoes t d
    → HoldsDoes t (list_for_in goal object d place)
unfolding list_for_in
holds_for_in {t} goal object d place hg ho hd handler ks l ways labels base w set h =
    let c = awaiting (spot_of l 1 ∷ []) (from_on t handler ks l) in
    let start = holds_for_in_first goal hg (holds_restarted base set (holds_take_2 h)) in
    let o = holds_object place _ (holds_value_of object ho start).listing in
    let names = holds_node place (Names _ _) tt (holds_taken o.listing) in
    let pick = holds_branch {c = c} place (Pick _ _ _) (spot_of l 1) (inl refl)
    names.numbers.next (holds_taken (holds_spot (spot_of l 0) names)) in
    let r = holds_for_in_reference goal hg pick in
    let bound = holds_put_value place _ _ r.outcome r.listing in
    holds_spot _ (holds_back (spot_of l 1) (spot_of l 0) (inl refl) (omega arith)
    (holds_turn labels d _ (spot_of l 1) (spot_of l 0) hd (inl refl)
    (omega (arith, bound.spots.pending.0)) w
    (next_temporary (bounds t) _ o.listing.numbers.next) bound))

-- ---- jumps and labels

pub holds_return : {t : Text} (value : Option Form) (place : Place) → IfAny (HoldsForm t) value
    → HoldsDoes t (list_return value place)
holds_return value place fine handler ks l ways labels base w set h =
    holds_node place _ tt (holds_leave_all place _ w
    (holds_returned value place fine (holds_restarted base set h)).listing)

pub holds_labelled : {t : Text} (label : Name) (d : Does) → HoldsDoes t d
    → HoldsDoes t (list_labelled label d)
unfolding list_labelled
holds_labelled label d hd handler ks l ways labels base w set h =
    holds_spot _ (holds_in (of_label label.text (spot_of l 0)) (label.text ∷ labels) d base hd tt
    (inl refl) w set (holds_take_1 h))

-- ---- `switch`

-- the spots of bodies, from a number on
abbrev bodies_of : List Clause → ℕ → List Spot
bodies_of [] i = []
bodies_of (c ∷ cs) i = record { 0 = i } ∷ bodies_of cs (i + 1)

bodies_below : (cs : List Clause) (i m : ℕ) (ps : List Spot) → i + count cs ≤ m → AreBelow m ps
    → AreBelow m (bodies_of cs i ++ ps)
bodies_below [] i m ps more h = h
bodies_below (c ∷ cs) i m ps more h =
    (omega (arith, more), bodies_below cs (i + 1) m ps (omega (arith, more)) h)

bodies_counted : (cs : List Clause) (i m j : ℕ) (ps : List Spot) → i + count cs ≡ m
    → pending_times (bodies_of cs i ++ ps) j + free m j ≡ free i j + pending_times ps j
bodies_counted [] i m j ps is = omega (arith, ap (λ (x : ℕ). free x j) (last i m is))
  where
    last : (i m : ℕ) → i + 0 ≡ m → m ≡ i
    last i m is = omega (arith, is)
bodies_counted (c ∷ cs) i m j ps is =
    omega (
      arith,
      bodies_counted cs (i + 1) m j ps (omega (arith, is)),
      taken i i (i + 1) j (omega arith) (omega arith),
    )

among_front : (xs ys : List Spot) (s : Spot) → Among xs s → Among (xs ++ ys) s
among_front [] ys s there = absurd there
among_front (x ∷ xs) ys s (inl e) = inl e
among_front (x ∷ xs) ys s (inr there) = inr (among_front xs ys s there)

default_there : (xs : List Spot) (cs : List Clause) (i : ℕ) (end : Spot)
    → ((s : Spot) → Among (bodies_of cs i) s → Among xs s) → Among xs end
    → Among xs (default_spot cs i end)
unfolding default_spot
default_there xs [] i end there last = last
default_there xs (c ∷ cs) i end there last =
    either c.test (there (record { 0 = i }) (inl refl))
    (default_there xs cs (i + 1) end (λ s t. there s (inr t)) last)
  where
    either : (test : Option Form) → Among xs (record { 0 = i })
        → Among xs (default_spot cs (i + 1) end)
        → Among xs (default_or test (record { 0 = i }) (default_spot cs (i + 1) end))
    either None here others = here
    either (Some form) here others = others

-- other spots are pending
abbrev with_pending : {t : Text} → List Spot → Context t → Context t
with_pending qs c = record c { pending = qs }

-- the spots of bodies and of the end of a `switch` are taken
holds_take_bodies : {t : Text} {handler : Option Spot} {ks : List Spot} {o l : Listing}
    (cs : List Clause) → Holds (from_on t handler ks o) l
    → Holds (with_pending (bodies_of cs (l.spot + 1) ++ nth l.spot 0 ∷ []) (from_on t handler ks o))
    (behind_spots (1 + count cs) l)
holds_take_bodies {l = l} cs h =
    let n = l.spot in
    let m = n + (1 + count cs) in
    record {
      numbers = record { nodes = h.numbers.nodes; next = h.numbers.next };
      spots = take (bodies_of cs (n + 1) ++ nth n 0 ∷ []) m (omega arith)
          (bodies_below cs (n + 1) m (nth n 0 ∷ []) (omega arith) (omega arith, tt))
          (λ i. omega (
            arith,
            bodies_counted cs (n + 1) m i (nth n 0 ∷ []) (omega arith),
            taken n (n + 0) (n + 1) i (omega arith) (omega arith),
          )) h.spots;
    }

module _ {t : Text} {c : Context t} where
  holds_test : {l : Listing} (test : Option Form) (place : Place) (value : Reg) (body : Spot)
      → IfAny (HoldsForm t) test → IsTaken c body → Holds c l
      → Holds c (list_test test (scene_at c) place value body l)
  holds_test None place value body fine there h = h
  holds_test {l} (Some test) place value body fine there h =
      let v = value_of test (scene_at c) l in
      let b = holds_result place (λ dst. Binary dst StrictEq value v.value) (λ dst set. set)
      (holds_value_of test fine h).listing in
      holds_spot _ (holds_jump body (inr there) (holds_branch place _ _ (inl refl) tt
      (holds_take_1 b.listing)))

  holds_tests : (cs : List Clause) (place : Place) (value : Reg) (i : ℕ) (l : Listing)
      → AllByRecursion (HoldsClause t) cs
      → ((s : Spot) → Among (bodies_of cs i) s → IsTaken c s) → Holds c l
      → Holds c (list_tests cs (scene_at c) place value i l)
  unfolding list_tests
  holds_tests [] place value i l fine there h = h
  holds_tests (x ∷ cs) place value i l fine there h =
      holds_tests cs place value (i + 1)
      (list_test x.test (scene_at c) place value (record { 0 = i }) l) fine.1
      (λ s among. there s (inr among)) (holds_test x.test place value (record { 0 = i }) fine.0.0
      (there (record { 0 = i }) (inl refl)) h)

holds_bodies : {t : Text} (c : Context t) {ways : List Way} (cs : List Clause) (end : Spot)
    (base i : ℕ) (l : Listing) → AllByRecursion (HoldsClause t) cs
    → HoldWays t c.known c.from.spot ways → IsTemporary (bounds t) base
    → Holds (with_pending (bodies_of cs i ++ end ∷ []) c) l → Holds (with_pending (end ∷ []) c)
    (list_bodies cs (around_at t c.handler (of_switch end ∷ ways) []) base i l)
unfolding list_bodies
holds_bodies c [] end base i l fine w set h = h
holds_bodies {t} c {ways} (x ∷ cs) end base i l fine w set h =
    let left = bodies_of cs (i + 1) ++ end ∷ [] in
    let a = around_at t c.handler (of_switch end ∷ ways) [] in
    holds_bodies c cs end base (i + 1) (list_all_statements x.body a base
    (with_spot (record { 0 = i }) l)) fine.1 w set
    (holds_in {c = with_pending left c} (of_switch end) [] (list_all_statements x.body) base
    (holds_all x.body fine.0.1) tt
    (among_front left c.known end (among_more (bodies_of cs (i + 1)) (end ∷ []) end (inl refl))) w
    set (holds_spot (record { 0 = i }) h))

pub holds_switch : {t : Text} (value : Form) (cs : List Clause) (place : Place)
    → HoldsForm t value → AllByRecursion (HoldsClause t) cs
    → HoldsDoes t (list_switch value cs place)
unfolding list_switch
holds_switch {t} value cs place hv hs handler ks l ways labels base w set h =
    let start = from_on t handler ks l in
    let x = value_of value (scene_at start) (restarted base l) in
    let v = holds_value_of value hv (holds_restarted base set h) in
    let n = x.listing.spot in
    let end = spot_of x.listing 0 in
    let bodies = bodies_of cs (n + 1) in
    let c = with_pending (bodies ++ end ∷ []) start in
    let among : (s : Spot) → Among bodies s → IsTaken c s =
    λ s there. among_front (bodies ++ end ∷ []) ks s (among_front bodies (end ∷ []) s there) in
    let last : IsTaken c end = among_front (bodies ++ end ∷ []) ks end
    (among_more bodies (end ∷ []) end (inl refl)) in
    let tests = holds_tests {c = c} cs place x.value (n + 1)
    (behind_spots (1 + count cs) x.listing) hs among (holds_take_bodies cs v.listing) in
    holds_spot end (holds_bodies start cs end (x.value.0 + 1) (n + 1) _ hs w
    (next_temporary (bounds t) x.value.0 v.value)
    (holds_jump (default_spot cs (n + 1) end) (default_there _ cs (n + 1) end among last) tests))

-- ---- `try`

pub holds_catch : {t : Text} (ds : List Does) (parameter : Name) (body : List Does)
    (place : Place) → ReachesAll t (in_name parameter) → HoldAll t ds → HoldAll t body
    → HoldsDoes t (list_catch ds parameter body place)
unfolding list_catch list_guarded list_handler list_caught
holds_catch {t} ds parameter body place known hs hb handler ks l ways labels base w set h =
    let next = next_temporary (bounds t) base set in
    let first = nth l.spot 0 in
    let end = nth l.spot 1 in
    let saved = holds_copy place scope (holds_restarted base set (holds_take_2 h)) in
    let guarded = holds_inner [] (Some first) ways [] (list_all_statements ds) (base + 1)
    (holds_all ds hs) (omega arith) tt (record {
      numbers = w.numbers;
      spots = ways_later (first ∷ end ∷ []) ks l.spot (l.spot + 2) ways (omega arith) w.spots;
    }) next saved.listing in
    holds_spot end (holds_scope place _ (holds_in (of_catch (register base)) []
    (list_all_statements body) (base + 1) (holds_all body hb) tt tt w next
    (holds_node place _ (known.0 refl) (holds_node place _ refl (holds_scope place _
    (holds_spot first (holds_jump end (inr (inl refl)) guarded)))))))

holds_ways_out : {t : Text} {c : Context t} (place : Place) (base first : ℕ) (saved : Reg)
    (b : Template) (l : Listing) → IsSoundBlock (bounds t) b.block
    → IsTemporary (bounds t) b.temporary → IsBlock (first + 4) b → IsTemporary (bounds t) base
    → Holds (awaiting (nth first 0 ∷ nth first 1 ∷ nth first 2 ∷ nth first 3 ∷ []) c) l
    → Holds c (list_ways_out place (scene_at c) base first saved b l)
unfolding list_ways_out list_rethrow
holds_ways_out {t} place base first saved b l sound from leads set h =
    holds_spot _ (holds_node place _ tt (holds_block (first + 4) b _ sound from leads
    (λ low. omega (arith, low.0))
    (holds_copy place (register 0) (holds_restarted (base + 1) (next_temporary (bounds t) base set)
    (holds_spot (nth first 2) (holds_jump (nth first 3) (inr (inl refl))
    (holds_block (first + 4) b saved sound from leads (λ low. omega (arith, low.1.0))
    (holds_spot (nth first 1) (holds_jump (nth first 2) (inr (inl refl)) (holds_scope place saved
    (holds_spot (nth first 0) (holds_jump (nth first 1) (inr (inl refl)) h)))))))))).listing))

pub holds_finally : {t : Text} (d : Does) (finally : List Does) (place : Place) → HoldsDoes t d
    → HoldAll t finally → HoldsDoes t (list_finally d finally place)
unfolding list_finally keep_block
holds_finally {t} d finally place hd hf handler ks l ways labels base w set h =
    let n = l.spot + 4 in
    let next = next_temporary (bounds t) base set in
    let start : Listing = record { items = []; temporary = base + 1; spot = n } in
    let inside = list_all_statements finally (around_at t handler ways []) (base + 1) start in
    let listed = holds_all finally hf handler ks start ways [] (base + 1) (record {
      numbers = w.numbers;
      spots = ways_later [] ks l.spot n ways (omega arith) w.spots;
    }) next (record {
      numbers = record { nodes = tt; next = next };
      spots = begun (record t.scene { handler = handler }) ks start
          (spot_map (λ s low. omega (arith, low)) handler h.spots.handler)
          (below_later l.spot n ks (omega arith) h.spots.known);
    }) in
    let sound = block_sound (bounds t) inside.items listed.numbers.nodes in
    let leads = listed_block (base + 1) n inside listed.spots in
    let kept = keep_block finally place (around_at t handler ways labels) base l in
    let qs = nth l.spot 0 ∷ nth l.spot 1 ∷ nth l.spot 2 ∷ nth l.spot 3 ∷ [] in
    holds_ways_out place base l.spot kept.saved kept.template _ sound next leads set
    (holds_inner [] (Some (nth l.spot 0)) (of_finally kept.saved kept.template ∷ ways) [] d
    (base + 1) hd (omega arith) tt
    (record {
      numbers = ((sound, next), w.numbers);
      spots = (leads, ways_later qs ks l.spot n ways (omega arith) w.spots);
    }) next
    (holds_copy place scope (holds_restarted base set (holds_take_4 h))).listing)

pub holds_try : {t : Text} (ds : List Does) (caught : Option (CatchOf Does))
    (finally : Option (List Does)) (place : Place) → HoldAll t ds → IfAny (HoldsCatch t) caught
    → IfAny (HoldAll t) finally → HoldsDoes t (list_try ds caught finally place)
holds_try ds None None place hs hc hf = holds_all ds hs
holds_try ds (Some caught) None place hs hc hf =
    holds_catch ds caught.parameter caught.body place hc.0 hs hc.1
holds_try ds None (Some finally) place hs hc hf =
    holds_finally (list_all_statements ds) finally place (holds_all ds hs) hf
holds_try ds (Some caught) (Some finally) place hs hc hf =
    holds_finally (list_catch ds caught.parameter caught.body place) finally place
    (holds_catch ds caught.parameter caught.body place hc.0 hs hc.1) hf

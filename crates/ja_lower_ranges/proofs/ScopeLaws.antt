-- Register `scope` has the scope chain in force, whatever way leaves a `catch`.
use Rattle.std.proofs.Common.{◌≡◌, ◌+◌, ℕ, Bool, true, false, List, [], ◌∷◌, ◌++◌, Option, Some, None, ◌⊎◌, inl, inr, refl, ap, sym, subst, ◌∙◌, arith}
use Rattle.std.specs.List.{list_any}
use Rattle.std.proofs.lemmas.List.Sums.{fold-append}
use Rattle.std.proofs.lemmas.List.{append_assoc, append-nil}
use Rattle.ja_base.specs.declared.ids.Place.{Place}
use Rattle.ja_base.specs.declared.ids.Reg.{Reg}
use Rattle.ja_graph.specs.Node.{register_set}
use Rattle.ja_graph.specs.declared.node.Node.TheVariants.{Move}
use Rattle.ja_lower_listing.specs.declared.item.Spot.{Spot}
use Rattle.ja_lower_listing.specs.declared.item.Item.{Item}
use Rattle.ja_lower_listing.specs.declared.item.Item.TheVariants as item
use Rattle.ja_syntax.specs.declared.tree.Name.{Name}
use Rattle.ja_lower_draft.specs.Copies.{Template, with_block}
use Rattle.ja_lower_draft.specs.Lines.{Listing, Scene, register, with_jump, with_copy, with_move, restarted, behind_spots}
use Rattle.ja_lower_draft.proofs.CopyLemmas.{with_or_without}
use Rattle.ja_lower_expressions.specs.Literals.{scope, list_named_function}
use Rattle.ja_lower_statements.specs.Ways.{Way, of_loop, of_switch, of_label, of_catch, of_finally, Leaving, leave, restored, arrive, arrive_or, jump_to, leave_all, leaving}
use Rattle.ja_lower_statements.specs.Statements.{Around, Does, Guarded, unlabelled, inside, handled_at, nth_spot, list_all_statements, list_guarded, list_handler, list_caught, list_catch, keep_block, list_rethrow, list_ways_out, protected, list_finally}
use Rattle.ja_lower_ranges.specs.Scope.{Chain, as_before, kept_in, new_object_before, behind_node, behind_line, scope_behind, is_catch, AreLeft, HaveNoBlocks, IsThatOutside, Arrives, RunsBlock, before_block, KeepsScope, SetsScope, CatchesWith}

-- ---- lines

-- `scope` behind one line more is what the line makes of it
one_more : (items : List Item) (i : Item)
    → scope_behind (items ++ i ∷ []) ≡ behind_line (scope_behind items) i
unfolding scope_behind
one_more items i = fold-append behind_line as_before items (i ∷ [])

behind_move : (scene : Scene) (place : Place) (saved : Reg) (items : List Item)
    → scope_behind (items ++ item.Node (Move scope saved) None scene.handler place ∷ [])
    ≡ kept_in saved
unfolding behind_node
behind_move scene place saved items =
    one_more items (item.Node (Move scope saved) None scene.handler place)

-- ---- copies

pub copy_passed : (t : Template) (above : Reg) (l : Listing)
    → scope_behind (with_block t above l).items ≡ scope_behind l.items
copy_passed t above l =
    with_or_without t above l (λ x. scope_behind x.items ≡ scope_behind l.items) refl
    (one_more l.items _)

-- ---- jumps

-- one way more is left
further : {ws : List Way} {chain : Chain} (w : Way) → IsThatOutside ws chain
    → IsThatOutside (w ∷ ws) chain
further w o =
    record {
      inner = w ∷ o.inner;
      way = o.way;
      outer = o.outer;
      split = ap (λ xs. w ∷ xs) o.split;
      no_catch = o.no_catch;
      register = o.register;
      keeps = o.keeps;
      in_force = o.in_force;
    }

either_further : {ws : List Way} {chain : Chain} {kept : Reg} (w : Way)
    → (chain ≡ kept_in kept) ⊎ IsThatOutside ws chain
    → (chain ≡ kept_in kept) ⊎ IsThatOutside (w ∷ ws) chain
either_further w (inl e) = inl e
either_further w (inr o) = inr (further w o)

arrives_further : {ws : List Way} {kept : Reg} {s : Spot} {new : Listing} (w : Way)
    → Arrives s (λ chain. (chain ≡ kept_in kept) ⊎ IsThatOutside ws chain) new
    → Arrives s (λ chain. (chain ≡ kept_in kept) ⊎ IsThatOutside (w ∷ ws) chain) new
arrives_further w r =
    record { before = r.before; jumps = r.jumps; scope = either_further w r.scope }

from_catch : {ws : List Way} {chain : Chain} (saved : Reg) → list_any is_catch ws ≡ false
    → (chain ≡ kept_in saved) ⊎ IsThatOutside ws chain → IsThatOutside (of_catch saved ∷ ws) chain
from_catch {ws = ws} saved none (inl e) =
    record {
      inner = [];
      way = of_catch saved;
      outer = ws;
      split = refl;
      no_catch = none;
      register = saved;
      keeps = refl;
      in_force = e;
    }
from_catch saved none (inr o) = further (of_catch saved) o

module _ (scene : Scene) (place : Place) (target : Way → Option Spot) where
  -- a way that isn't the target is left
  goes_on : (w : Way) (ws : List Way) (v : Leaving) → target w ≡ None
      → jump_to scene place target (w ∷ ws) v
      ≡ jump_to scene place target ws (leave scene place None w v)
  unfolding jump_to
  goes_on w ws v e =
      ap (λ o. arrive_or o (arrive scene place v)
      (jump_to scene place target ws (leave scene place None w v))) e

  arrives : (w : Way) (ws : List Way) (v : Leaving) (s : Spot) → target w ≡ Some s
      → jump_to scene place target (w ∷ ws) v ≡ with_jump s (restored scene place v.kept v.listing)
  unfolding jump_to
  arrives w ws v s e =
      ap (λ o. arrive_or o (arrive scene place v)
      (jump_to scene place target ws (leave scene place None w v))) e

  along : (P : Listing → Type 0) (w : Way) (ws : List Way) (v : Leaving) → target w ≡ None
      → P (jump_to scene place target ws (leave scene place None w v))
      → P (jump_to scene place target (w ∷ ws) v)
  along P w ws v e h = subst P (sym (goes_on w ws v e)) h

  module _ (w : Way) (rest : List Way) (s : Spot) (is : target w ≡ Some s) where
    -- without a `catch` the register stays
    stays : (ws : List Way) (l : Listing) → AreLeft target ws → list_any is_catch ws ≡ false
        → Arrives s (λ chain. chain ≡ scope_behind l.items)
        (jump_to scene place target (ws ++ w ∷ rest) (leaving l))
    stays [] l left none =
        record { before = l; jumps = arrives w rest (leaving l) s is; scope = refl }
    stays (of_loop labels end turn ∷ ws) l left none =
        along (Arrives s (λ chain. chain ≡ scope_behind l.items)) (of_loop labels end turn)
        (ws ++ w ∷ rest) (leaving l) left.0 (stays ws l left.1 none)
    stays (of_switch end ∷ ws) l left none =
        along (Arrives s (λ chain. chain ≡ scope_behind l.items)) (of_switch end) (ws ++ w ∷ rest)
        (leaving l) left.0 (stays ws l left.1 none)
    stays (of_label label end ∷ ws) l left none =
        along (Arrives s (λ chain. chain ≡ scope_behind l.items)) (of_label label end)
        (ws ++ w ∷ rest) (leaving l) left.0 (stays ws l left.1 none)
    stays (of_catch saved ∷ ws) l left none = absurd (cc)
    stays (of_finally saved t ∷ ws) l left none =
        let r = stays ws (with_block t saved l) left.1 none in
        along (Arrives s (λ chain. chain ≡ scope_behind l.items)) (of_finally saved t)
        (ws ++ w ∷ rest) (leaving l) left.0 (record
        { before = r.before; jumps = r.jumps; scope = r.scope ∙ copy_passed t saved l })

    -- behind the outermost `catch`: what it kept is set at the target, or a `finally` sets what its
    -- `try` kept
    behind_catch : (kept : Reg) (ws : List Way) (l : Listing) → AreLeft target ws
        → list_any is_catch ws ≡ false → Arrives s
        (λ chain. (chain ≡ kept_in kept) ⊎ IsThatOutside ws chain)
        (jump_to scene place target (ws ++ w ∷ rest) (record { listing = l; kept = Some kept }))
    behind_catch kept [] l left none = record {
      before = with_move scene place scope kept l;
      jumps = arrives w rest (record { listing = l; kept = Some kept }) s is;
      scope = inl (behind_move scene place kept l.items);
    }
    behind_catch kept (of_loop labels end turn ∷ ws) l left none =
        along (Arrives s (λ chain. (chain ≡ kept_in kept)
        ⊎ IsThatOutside (of_loop labels end turn ∷ ws) chain)) (of_loop labels end turn)
        (ws ++ w ∷ rest) (record { listing = l; kept = Some kept }) left.0
        (arrives_further (of_loop labels end turn) (behind_catch kept ws l left.1 none))
    behind_catch kept (of_switch end ∷ ws) l left none =
        along (Arrives s (λ chain. (chain ≡ kept_in kept)
        ⊎ IsThatOutside (of_switch end ∷ ws) chain)) (of_switch end) (ws ++ w ∷ rest)
        (record { listing = l; kept = Some kept }) left.0
        (arrives_further (of_switch end) (behind_catch kept ws l left.1 none))
    behind_catch kept (of_label label end ∷ ws) l left none =
        along (Arrives s (λ chain. (chain ≡ kept_in kept)
        ⊎ IsThatOutside (of_label label end ∷ ws) chain)) (of_label label end) (ws ++ w ∷ rest)
        (record { listing = l; kept = Some kept }) left.0
        (arrives_further (of_label label end) (behind_catch kept ws l left.1 none))
    behind_catch kept (of_catch saved ∷ ws) l left none = absurd (cc)
    behind_catch kept (of_finally saved t ∷ ws) l left none =
        let moved = with_move scene place scope saved l in
        let r = stays ws (with_block t saved moved) left.1 none in
        along (Arrives s (λ chain. (chain ≡ kept_in kept)
        ⊎ IsThatOutside (of_finally saved t ∷ ws) chain)) (of_finally saved t) (ws ++ w ∷ rest)
        (record { listing = l; kept = Some kept }) left.0
        (record {
          before = r.before;
          jumps = r.jumps;
          scope =
              inr (record {
                inner = [];
                way = of_finally saved t;
                outer = ws;
                split = refl;
                no_catch = none;
                register = saved;
                keeps = refl;
                in_force = r.scope
                    ∙ (copy_passed t saved moved ∙ behind_move scene place saved l.items);
              });
        })

    -- the outermost `catch`
    outermost : (x : Way) (ws : List Way) (v : Leaving) → AreLeft target (x ∷ ws)
        → list_any is_catch ws ≡ false → list_any is_catch (x ∷ ws) ≡ true
        → Arrives s (IsThatOutside (x ∷ ws)) (jump_to scene place target (x ∷ (ws ++ w ∷ rest)) v)
    outermost (of_catch saved) ws v left none some =
        let r = behind_catch saved ws v.listing left.1 none in
        along (Arrives s (IsThatOutside (of_catch saved ∷ ws))) (of_catch saved) (ws ++ w ∷ rest) v
        left.0 (record {
          before = r.before;
          jumps = r.jumps;
          scope = from_catch saved none r.scope;
        })
    outermost x ws v left none some = absurd (cc)

    leaves_catches : (ws : List Way) (v : Leaving) → AreLeft target ws → list_any is_catch ws ≡ true
        → Arrives s (IsThatOutside ws) (jump_to scene place target (ws ++ w ∷ rest) v)
    leaves_catches [] v left some = absurd (cc)
    leaves_catches (x ∷ ws) v left some =
        either (list_any is_catch ws) refl (leaves_catches ws (leave scene place None x v) left.1)
      where
        either : (b : Bool) → list_any is_catch ws ≡ b
            → (list_any is_catch ws ≡ true → Arrives s (IsThatOutside ws)
            (jump_to scene place target (ws ++ w ∷ rest) (leave scene place None x v)))
            → Arrives s (IsThatOutside (x ∷ ws))
            (jump_to scene place target (x ∷ (ws ++ w ∷ rest)) v)
        either true e h =
            let r = h e in
            along (Arrives s (IsThatOutside (x ∷ ws))) x (ws ++ w ∷ rest) v left.0
            (record { before = r.before; jumps = r.jumps; scope = further x r.scope })
        either false e h = outermost x ws v left e some

  -- ---- on the way to a block of `finally`

  module _ (saved : Reg) (t : Template) (outer : List Way)
      (is : target (of_finally saved t) ≡ None) where
    abbrev on : Listing → Listing
    on behind = jump_to scene place target outer (leaving behind)

    runs_after_catch : (inner : List Way) (kept : Reg) (l : Listing) → AreLeft target inner
        → HaveNoBlocks inner → RunsBlock t saved (kept_in saved) on
        (jump_to scene place target (inner ++ of_finally saved t ∷ outer)
        (record { listing = l; kept = Some kept }))
    runs_after_catch [] kept l left bare = record {
      before = with_move scene place scope saved l;
      scope = behind_move scene place saved l.items;
      goes_on = goes_on (of_finally saved t) outer (record { listing = l; kept = Some kept }) is;
    }
    runs_after_catch (of_loop labels end turn ∷ inner) kept l left bare =
        along (RunsBlock t saved (kept_in saved) on) (of_loop labels end turn) _
        (record { listing = l; kept = Some kept }) left.0
        (runs_after_catch inner kept l left.1 bare.1)
    runs_after_catch (of_switch end ∷ inner) kept l left bare =
        along (RunsBlock t saved (kept_in saved) on) (of_switch end) _
        (record { listing = l; kept = Some kept }) left.0
        (runs_after_catch inner kept l left.1 bare.1)
    runs_after_catch (of_label label end ∷ inner) kept l left bare =
        along (RunsBlock t saved (kept_in saved) on) (of_label label end) _
        (record { listing = l; kept = Some kept }) left.0
        (runs_after_catch inner kept l left.1 bare.1)
    runs_after_catch (of_catch other ∷ inner) kept l left bare =
        along (RunsBlock t saved (kept_in saved) on) (of_catch other) _
        (record { listing = l; kept = Some kept }) left.0
        (runs_after_catch inner other l left.1 bare.1)
    runs_after_catch (of_finally other block ∷ inner) kept l left bare = absurd bare.0

    runs : (inner : List Way) (l : Listing) → AreLeft target inner → HaveNoBlocks inner
        → RunsBlock t saved (before_block inner saved (scope_behind l.items)) on
        (jump_to scene place target (inner ++ of_finally saved t ∷ outer) (leaving l))
    runs [] l left bare =
        record {
          before = l;
          scope = refl;
          goes_on = goes_on (of_finally saved t) outer (leaving l)
              is;
        }
    runs (of_loop labels end turn ∷ inner) l left bare =
        along (RunsBlock t saved (before_block (of_loop labels end turn ∷ inner) saved
        (scope_behind l.items)) on) (of_loop labels end turn) _ (leaving l) left.0
        (runs inner l left.1 bare.1)
    runs (of_switch end ∷ inner) l left bare =
        along (RunsBlock t saved (before_block (of_switch end ∷ inner) saved (scope_behind l.items))
        on) (of_switch end) _ (leaving l) left.0 (runs inner l left.1 bare.1)
    runs (of_label label end ∷ inner) l left bare =
        along (RunsBlock t saved (before_block (of_label label end ∷ inner) saved
        (scope_behind l.items)) on) (of_label label end) _ (leaving l) left.0
        (runs inner l left.1 bare.1)
    runs (of_catch other ∷ inner) l left bare =
        along (RunsBlock t saved (before_block (of_catch other ∷ inner) saved
        (scope_behind l.items)) on) (of_catch other) _ (leaving l) left.0
        (runs_after_catch inner other l left.1 bare.1)
    runs (of_finally other block ∷ inner) l left bare = absurd bare.0

pub jump_sets : (scene : Scene) (place : Place) (target : Way → Option Spot) (ways outer : List Way)
    (way : Way) (spot : Spot) (l : Listing) → AreLeft target ways → list_any is_catch ways ≡ true
    → target way ≡ Some spot → Arrives spot (IsThatOutside ways)
    (jump_to scene place target (ways ++ way ∷ outer) (leaving l))
jump_sets scene place target ways outer way spot l left some is =
    leaves_catches scene place target way outer spot is ways (leaving l) left some

pub jump_keeps : (scene : Scene) (place : Place) (target : Way → Option Spot)
    (ways outer : List Way) (way : Way) (spot : Spot) (l : Listing) → AreLeft target ways
    → list_any is_catch ways ≡ false → target way ≡ Some spot
    → Arrives spot (λ chain. chain ≡ scope_behind l.items)
    (jump_to scene place target (ways ++ way ∷ outer) (leaving l))
jump_keeps scene place target ways outer way spot l left none is =
    stays scene place target way outer spot is ways l left none

pub jump_runs : (scene : Scene) (place : Place) (target : Way → Option Spot)
    (inner outer : List Way) (saved : Reg) (block : Template) (l : Listing) → AreLeft target inner
    → HaveNoBlocks inner → target (of_finally saved block) ≡ None
    → RunsBlock block saved (before_block inner saved (scope_behind l.items))
    (λ behind. jump_to scene place target outer (leaving behind))
    (jump_to scene place target (inner ++ of_finally saved block ∷ outer) (leaving l))
jump_runs scene place target inner outer saved block l left bare is =
    runs scene place target saved block outer is inner l left bare

-- ---- returns

module _ (scene : Scene) (place : Place) (value saved : Reg) (t : Template) (outer : List Way) where
  returns_after_catch : (inner : List Way) (kept : Reg) (l : Listing) → HaveNoBlocks inner
      → RunsBlock t value (kept_in saved) (λ behind.
      leave_all scene place value outer (leaving behind))
      (leave_all scene place value (inner ++ of_finally saved t ∷ outer)
      (record { listing = l; kept = Some kept }))
  unfolding leave_all
  returns_after_catch [] kept l bare =
      record {
        before = with_move scene place scope saved l;
        scope = behind_move scene place saved l.items;
        goes_on = refl;
      }
  returns_after_catch (of_loop labels end turn ∷ inner) kept l bare =
      returns_after_catch inner kept l bare.1
  returns_after_catch (of_switch end ∷ inner) kept l bare = returns_after_catch inner kept l bare.1
  returns_after_catch (of_label label end ∷ inner) kept l bare =
      returns_after_catch inner kept l bare.1
  returns_after_catch (of_catch other ∷ inner) kept l bare =
      returns_after_catch inner other l bare.1
  returns_after_catch (of_finally other block ∷ inner) kept l bare = absurd bare.0

  returns : (inner : List Way) (l : Listing) → HaveNoBlocks inner
      → RunsBlock t value (before_block inner saved (scope_behind l.items))
      (λ behind. leave_all scene place value outer (leaving behind))
      (leave_all scene place value (inner ++ of_finally saved t ∷ outer) (leaving l))
  unfolding leave_all
  returns [] l bare = record { before = l; scope = refl; goes_on = refl }
  returns (of_loop labels end turn ∷ inner) l bare = returns inner l bare.1
  returns (of_switch end ∷ inner) l bare = returns inner l bare.1
  returns (of_label label end ∷ inner) l bare = returns inner l bare.1
  returns (of_catch other ∷ inner) l bare = returns_after_catch inner other l bare.1
  returns (of_finally other block ∷ inner) l bare = absurd bare.0

pub return_runs : (scene : Scene) (place : Place) (value : Reg) (inner outer : List Way)
    (saved : Reg) (block : Template) (l : Listing) → HaveNoBlocks inner
    → RunsBlock block value (before_block inner saved (scope_behind l.items))
    (λ behind. leave_all scene place value outer (leaving behind))
    (leave_all scene place value (inner ++ of_finally saved block ∷ outer) (leaving l))
return_runs scene place value inner outer saved block l bare =
    returns scene place value saved block outer inner l bare

-- ---- `try`

pub catch_keeps : (block : List Does) (place : Place) (around : Around) (base : ℕ) (l : Listing)
    → let g = list_guarded block place around base l in
    KeepsScope around.scene place g.saved (base + 1) l g.listing
    (list_all_statements block (handled_at (nth_spot g.first 0) (unlabelled around)) (base + 1))
unfolding list_guarded
catch_keeps block place around base l = record {
  before = (with_copy around.scene place scope (restarted base (behind_spots 2 l))).listing;
  kept = refl;
  below = omega arith;
  listed = refl;
}

pub finally_keeps : (block : Does) (finally : List Does) (place : Place) (around : Around)
    (base : ℕ) (l : Listing) → let k = keep_block finally place around base l in
    KeepsScope around.scene place k.saved (base + 1) l
    (list_finally block finally place around base l)
    (λ before. list_ways_out place around.scene base k.first k.saved k.template
    (block (protected k around) (base + 1) before))
unfolding keep_block list_finally
finally_keeps block finally place around base l = record {
  before = (with_copy around.scene place scope (restarted base (behind_spots 4 l))).listing;
  kept = refl;
  below = omega arith;
  listed = refl;
}

-- ---- handlers

-- lines with others behind them
record Goes (xs ys : List Item) : Type 0 where
  behind : List Item
  split : ys ≡ xs ++ behind

nothing_behind : (xs : List Item) → Goes xs xs
nothing_behind xs = record { behind = []; split = sym (append-nil xs) }

more_behind : {xs ys : List Item} (zs : List Item) → Goes xs ys → Goes xs (ys ++ zs)
more_behind {xs = xs} zs g =
    record {
      behind = g.behind ++ zs;
      split = ap (λ items. items ++ zs) g.split
          ∙ append_assoc xs g.behind zs;
    }

one_behind : {xs ys : List Item} (i : Item) → Goes xs ys → Goes xs (ys ++ i ∷ [])
one_behind i g = more_behind (i ∷ []) g

copy_behind : {xs : List Item} (t : Template) (above : Reg) (l : Listing) → Goes xs l.items
    → Goes xs (with_block t above l).items
copy_behind {xs} t above l g =
    with_or_without t above l (λ x. Goes xs x.items) g (one_behind _ g)

sets : (scene : Scene) (place : Place) (handler : Spot) (saved : Reg) (xs : List Item)
    {ys : List Item} → Goes ((xs ++ item.Spot handler ∷ [])
    ++ item.Node (Move scope saved) None scene.handler place ∷ []) ys
    → SetsScope scene place handler saved ys
sets scene place handler saved xs g =
    let set = item.Node (Move scope saved) None scene.handler place in
    record {
      front = xs;
      behind = g.behind;
      split =
          g.split ∙ (append_assoc (xs ++ item.Spot handler ∷ []) (set ∷ []) g.behind
          ∙ append_assoc xs (item.Spot handler ∷ []) (set ∷ g.behind));
    }

pub catch_sets : (parameter : Name) (place : Place) (scene : Scene) (g : Guarded)
    → SetsScope scene place (nth_spot g.first 0) g.saved
    (list_handler parameter place scene g).items
unfolding list_handler
catch_sets parameter place scene g =
    sets scene place (nth_spot g.first 0) g.saved (with_jump (nth_spot g.first 1) g.listing).items
    (one_behind _ (one_behind _ (nothing_behind _)))

pub finally_sets : (place : Place) (scene : Scene) (base first : ℕ) (saved : Reg) (block : Template)
    (l : Listing) → SetsScope scene place (nth_spot first 0) saved
    (list_ways_out place scene base first saved block l).items
unfolding list_ways_out list_rethrow
finally_sets place scene base first saved block l =
    sets scene place (nth_spot first 0) saved (with_jump (nth_spot first 1) l).items
    (one_behind _ (one_behind _ (copy_behind block _ _
    (one_behind _ (one_behind _ (one_behind _
    (copy_behind block saved _ (one_behind _ (one_behind _ (nothing_behind _))))))))))

-- ---- `catch`

behind_handler : (parameter : Name) (place : Place) (scene : Scene) (g : Guarded)
    → scope_behind (list_handler parameter place scene g).items
    ≡ new_object_before (kept_in g.saved)
unfolding list_handler behind_node register_set
behind_handler parameter place scene g =
    one_more _ _ ∙ (one_more _ _ ∙ ap (λ c. new_object_before c)
    (behind_move scene place g.saved _))

pub catch_body : (block : List Does) (parameter : Name) (body : List Does) (place : Place)
    (around : Around) (base : ℕ) (l : Listing) → let g = list_guarded block place around base l in
    CatchesWith around.scene place g.saved (nth_spot g.first 1)
    (λ way. list_all_statements body (inside way around) (base + 1))
    (list_catch block parameter body place around base l)
unfolding list_catch list_caught
catch_body block parameter body place around base l =
    let g = list_guarded block place around base l in
    record {
      handler = list_handler parameter place around.scene g;
      scope_of_handler = behind_handler parameter place around.scene g;
      listed = refl;
    }

pub catch_ends : (block : List Does) (parameter : Name) (body : List Does) (place : Place)
    (around : Around) (base : ℕ) (l : Listing)
    → scope_behind (list_catch block parameter body place around base l).items
    ≡ kept_in (list_guarded block place around base l).saved
unfolding list_catch list_caught
catch_ends block parameter body place around base l =
    one_more _ _ ∙ behind_move around.scene place _ _

-- ---- functions with a name

pub named_function_ends : (name : Name) (place : Place) (scene : Scene) (l : Listing)
    → scope_behind (list_named_function name place scene l).listing.items
    ≡ kept_in (register l.temporary)
unfolding list_named_function
named_function_ends name place scene l = behind_move scene place (register l.temporary) _

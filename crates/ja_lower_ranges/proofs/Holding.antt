-- What holds of a listing while lines are added: its numbers are in range, and it keeps its spots.
use Rattle.std.proofs.Common.{◌≡◌, ◌<◌, ◌≤◌, ◌+◌, ℕ, List, [], ◌∷◌, ◌++◌, Option, Some, None, inl, inr, refl, arith, true}
use Rattle.std.specs.List.{AllByRecursion}
use Rattle.ja_base.specs.declared.ids.Place.{Place}
use Rattle.ja_base.specs.declared.ids.Reg.{Reg}
use Rattle.ja_prim.specs.declared.primitive.Primitive.{Primitive}
use Rattle.ja_graph.specs.declared.node.Hint.{Hint}
use Rattle.ja_graph.specs.declared.node.Node.{Node}
use Rattle.ja_graph.specs.declared.node.Node.TheVariants.{Const, Convert, Move, Unary}
use Rattle.ja_graph.specs.declared.node.UnaryOp.{UnaryOp}
use Rattle.ja_lower_listing.specs.declared.item.Spot.{Spot}
use Rattle.ja_lower_listing.specs.declared.item.Item.TheVariants as item
use Rattle.ja_lower_draft.specs.Lines.{Listing, Valued, Scene, register, name_id, with_node, with_branch, with_result, with_spot, with_jump, behind_spots, restarted, with_default, with_unary, with_number, with_text, with_truth, with_const, with_copy, with_move}
use Rattle.ja_lower_expressions.specs.Literals.{scope, function_id}
use Rattle.ja_lower_expressions.specs.References.{Listed, Form}
use Rattle.ja_lower_expressions.specs.Specials.{is_name}
use Rattle.ja_lower_names.specs.TextOrder.{Part, Parts, a_function, a_name}
use Rattle.ja_lower_ranges.specs.InRange.{Limits, IsTemporary}
use Rattle.ja_lower_ranges.proofs.LineRanges.{sound_with_item}
use Rattle.ja_lower_ranges.proofs.NodeRanges.{Asks, in_range}
use Rattle.ja_lower_ranges.proofs.Sound.{IsSound, IsSoundOutcome}
use Rattle.ja_lower_ranges.proofs.SpotCounts.{Among}
use Rattle.ja_lower_ranges.proofs.SpotLines.{KeptAt, one, branch, jump, jump_back, stands, nth, take_1, take_2, take_3, take_4, swap}

-- ---- texts

-- a text, and how many parameters, names and functions the numbers in its listings may reach
pub record Text : Type 0 where
  pub scene : Scene
  pub parameters : ℕ
  pub names : ℕ
  pub functions : ℕ

abbrev pub bounds : Text → Limits
bounds t =
    record {
      parameters = t.parameters;
      names = t.names;
      functions = t.functions;
      specials = t.scene.specials;
    }

abbrev pub ReachesFunction : Text → Place → Type 0
ReachesFunction t place =
    ((function_id t.scene place).0 ≤ t.functions) × (0 < t.functions)

abbrev pub ReachesName : Text → List ℕ → Type 0
ReachesName t name = (name_id t.scene name).0 < t.names

-- the number of a part of a text is among those
abbrev pub Reaches : Text → Part → Type 0
Reaches t (a_function f) = ReachesFunction t f.place
Reaches t (a_name n) = is_name t.scene.specials n ≡ true → ReachesName t n.text

abbrev pub ReachesAll : Text → Parts → Type 0
ReachesAll t parts = AllByRecursion (Reaches t) parts

-- ---- listings

-- where lines are added: the handler of what is thrown there, the spots that are known, those of
-- the others that are taken and don't stand yet, and the listing from which on lines were added
pub record Context (t : Text) : Type 0 where
  pub handler : Option Spot
  pub known : List Spot
  pub pending : List Spot
  pub from : Listing

abbrev pub scene_at : {t : Text} → Context t → Scene
scene_at {t} c = record t.scene { handler = c.handler }

-- more spots are pending
abbrev pub awaiting : {t : Text} → List Spot → Context t → Context t
awaiting qs c = record c { pending = qs ++ c.pending }

-- to a taken spot lines may lead
abbrev pub IsTaken : {t : Text} → Context t → Spot → Type 0
IsTaken c s = Among (c.pending ++ c.known) s

pub record Holds {t : Text} (c : Context t) (l : Listing) : Type 0 where
  pub numbers : IsSound (bounds t) l
  pub spots : KeptAt (scene_at c) c.known c.pending c.from l

-- .. and the register of a value is a temporary
pub record HoldsValued {t : Text} (c : Context t) (v : Valued) : Type 0 where
  pub listing : Holds c v.listing
  pub value : IsTemporary (bounds t) v.value.0

pub record HoldsListed {t : Text} (c : Context t) (r : Listed) : Type 0 where
  pub listing : Holds c r.listing
  pub outcome : IsSoundOutcome (bounds t) r.outcome

-- an expression, wherever it is listed
abbrev pub HoldsForm : Text → Form → Type 0
HoldsForm t x = (c : Context t) (l : Listing) → Holds c l → HoldsListed c (x (scene_at c) l)

-- ---- lines

module _ {t : Text} {c : Context t} where
  pub holds_node : {l : Listing} (place : Place) (node : Node) → Asks (bounds t) node → Holds c l
      → Holds c (with_node (scene_at c) place node l)
  holds_node place node asks h = record {
    numbers = sound_with_item (item.Node node None c.handler place)
        (in_range (bounds t) node asks) h.numbers;
    spots = one node place h.spots;
  }

  pub holds_branch : {l : Listing} (place : Place) (node : Node) (other : Spot) → IsTaken c other
      → Asks (bounds t) node → Holds c l → Holds c (with_branch (scene_at c) place node other l)
  holds_branch place node other there asks h = record {
    numbers = sound_with_item (item.Node node (Some other) c.handler place)
        (in_range (bounds t) node asks) h.numbers;
    spots = branch node place other there h.spots;
  }

  pub holds_jump : {l : Listing} (s : Spot) → IsTaken c s → Holds c l → Holds c (with_jump s l)
  holds_jump s there h =
      record { numbers = sound_with_item (item.Jump s) tt h.numbers; spots = jump s there h.spots }

  -- a jump back, to a spot taken before another one
  pub holds_back : {l : Listing} (p s : Spot) → IsTaken c p → s.0 ≤ p.0 → Holds c l
      → Holds c (with_jump s l)
  holds_back p s there before h = record {
    numbers = sound_with_item (item.Jump s) tt h.numbers;
    spots = jump_back p s there before h.spots;
  }

  -- a pending spot
  pub holds_spot : {l : Listing} (s : Spot) → Holds (awaiting (s ∷ []) c) l
      → Holds c (with_spot s l)
  holds_spot s h =
      record { numbers = sound_with_item (item.Spot s) tt h.numbers; spots = stands s h.spots }

  -- ---- spots and temporaries are taken

  pub holds_take_1 : {l : Listing} → Holds c l
      → Holds (awaiting (nth l.spot 0 ∷ []) c) (behind_spots 1 l)
  holds_take_1 h = record {
    numbers = record { nodes = h.numbers.nodes; next = h.numbers.next };
    spots = take_1 h.spots;
  }

  pub holds_take_2 : {l : Listing} → Holds c l
      → Holds (awaiting (nth l.spot 0 ∷ nth l.spot 1 ∷ []) c) (behind_spots 2 l)
  holds_take_2 h = record {
    numbers = record { nodes = h.numbers.nodes; next = h.numbers.next };
    spots = take_2 h.spots;
  }

  pub holds_take_2_back : {l : Listing} → Holds c l
      → Holds (awaiting (nth l.spot 1 ∷ nth l.spot 0 ∷ []) c) (behind_spots 2 l)
  holds_take_2_back h = record {
    numbers = record { nodes = h.numbers.nodes; next = h.numbers.next };
    spots = swap (take_2 h.spots);
  }

  pub holds_take_3 : {l : Listing} → Holds c l
      → Holds (awaiting (nth l.spot 0 ∷ nth l.spot 1 ∷ nth l.spot 2 ∷ []) c) (behind_spots 3 l)
  holds_take_3 h = record {
    numbers = record { nodes = h.numbers.nodes; next = h.numbers.next };
    spots = take_3 h.spots;
  }

  pub holds_take_4 : {l : Listing} → Holds c l
      → Holds (awaiting (nth l.spot 0 ∷ nth l.spot 1 ∷ nth l.spot 2 ∷ nth l.spot 3 ∷ []) c)
      (behind_spots 4 l)
  holds_take_4 h = record {
    numbers = record { nodes = h.numbers.nodes; next = h.numbers.next };
    spots = take_4 h.spots;
  }

  pub holds_restarted : {l : Listing} (base : ℕ) → IsTemporary (bounds t) base → Holds c l
      → Holds c (restarted base l)
  holds_restarted base next h =
      record { numbers = record { nodes = h.numbers.nodes; next = next }; spots = h.spots }

  -- the next temporary is taken
  pub holds_taken : {l : Listing} → Holds c l → Holds c (restarted (l.temporary + 1) l)
  holds_taken {l} h = holds_restarted (l.temporary + 1) (omega (arith, h.numbers.next)) h

  pub holds_result : {l : Listing} (place : Place) (node : Reg → Node)
      → ((dst : Reg) → IsTemporary (bounds t) dst.0 → Asks (bounds t) (node dst)) → Holds c l
      → HoldsValued c (with_result (scene_at c) place node l)
  holds_result {l} place node asks h = record {
    listing = holds_node place (node (register l.temporary))
        (asks (register l.temporary) h.numbers.next) (holds_taken h);
    value = h.numbers.next;
  }

  -- ---- values and conversions

  pub holds_const : {l : Listing} (place : Place) (prim : Primitive) → Holds c l
      → HoldsValued c (with_const (scene_at c) place prim l)
  holds_const place prim h = holds_result place (λ dst. Const dst prim) (λ dst set. set) h

  pub holds_copy : {l : Listing} (place : Place) (src : Reg) → Holds c l
      → HoldsValued c (with_copy (scene_at c) place src l)
  holds_copy place src h = holds_result place (λ dst. Move dst src) (λ dst set. inr (inr set)) h

  pub holds_default : {l : Listing} (place : Place) (kind : Hint) (src : Reg) → Holds c l
      → HoldsValued c (with_default (scene_at c) place kind src l)
  holds_default place kind src h =
      holds_result place (λ dst. Convert dst src kind None) (λ dst set. set) h

  pub holds_unary : {l : Listing} (place : Place) (op : UnaryOp) (src : Reg) → Holds c l
      → HoldsValued c (with_unary (scene_at c) place op src l)
  holds_unary place op src h = holds_result place (λ dst. Unary dst op src) (λ dst set. set) h

  pub holds_truth : {l : Listing} (place : Place) (src : Reg) → Holds c l
      → HoldsValued c (with_truth (scene_at c) place src l)
  holds_truth place src h = holds_unary place _ src h

  pub holds_number : {l : Listing} (place : Place) (src : Reg) → Holds c l
      → HoldsValued c (with_number (scene_at c) place src l)
  unfolding with_number
  holds_number place src h = holds_unary place _ _ (holds_default place _ src h).listing

  pub holds_text : {l : Listing} (place : Place) (src : Reg) → Holds c l
      → HoldsValued c (with_text (scene_at c) place src l)
  unfolding with_text
  holds_text place src h = holds_unary place _ _ (holds_default place _ src h).listing

  pub holds_move : {l : Listing} (place : Place) (dst src : Reg) → IsTemporary (bounds t) dst.0
      → Holds c l → Holds c (with_move (scene_at c) place dst src l)
  holds_move place dst src set h = holds_node place (Move dst src) (inr (inr set)) h

  pub holds_scope : {l : Listing} (place : Place) (src : Reg) → Holds c l
      → Holds c (with_move (scene_at c) place scope src l)
  holds_scope place src h = holds_node place (Move scope src) (inr (inl refl)) h

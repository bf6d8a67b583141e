-- One step within an activation, from the rows of all kinds of nodes.
use Rattle.std.specs.Prelude.{◌≡◌, ℕ, suc, true, IsTrue, List, ◌∷◌, Option, Some, None}
use Rattle.std.specs.List.{AllByRecursion}
use Rattle.std.specs.Option.{option_to_list}
use Rattle.std.proofs.Common.{refl, sym, subst, ap, ◌∙◌, inl, inr, arith}
use Rattle.std.proofs.lemmas.Bool.{cases_Bool, cond-false}
use Rattle.std.proofs.lemmas.Option.{none-some}
use Rattle.ja_base.specs.declared.ids.Reg.{Reg}
use Rattle.ja_base.specs.declared.ids.Site.{Site}
use Rattle.ja_graph.specs.declared.node.Node.{Node}
use Rattle.ja_graph.specs.declared.node.Node.TheVariants as node
use Rattle.ja_graph.specs.declared.node.NodeInfo.{NodeInfo}
use Rattle.ja_graph.specs.declared.program.Program.{Program}
use Rattle.ja_graph.specs.Node.{register_set, registers_named, name_in, makings, makes_arguments}
use Rattle.ja_graph.specs.WellFormed.{IsWellFormed, IsDestination, IsRegister, IsName}
use Rattle.ja_machine.specs.declared.machine.Heap.{Heap}
use Rattle.ja_machine.specs.declared.machine.Frame.{Frame}
use Rattle.ja_machine.specs.declared.machine.Conf.{Conf}
use Rattle.ja_machine.specs.declared.machine.Answer.{Answer}
use Rattle.ja_machine.specs.declared.machine.Event.{Event}
use Rattle.ja_machine.specs.declared.machine.Event.TheVariants as event
use Rattle.ja_machine.specs.declared.machine.Wants.TheVariants as wanted
use Rattle.ja_machine.specs.Events.{Standing}
use Rattle.ja_machine.specs.Frames.{register_of, scope, thrown}
use Rattle.ja_machine.specs.Machine.{step, fits, wants, frames_want, node_wants, frames_step}
use Rattle.ja_machine.specs.Nodes.{node_step}
use Rattle.ja_machine.specs.State.{IsFrame, IsState, IsValueOf}
use Rattle.ja_machine.specs.Values as values
use Rattle.ja_machine.specs.Values.{key_of as key_text}
use Rattle.ja_machine.proofs.Nodes.{AreMade}
use Rattle.ja_abstract.specs.Resolved.{IsFilled}
use Rattle.ja_abstract.specs.Reading.{View}
use Rattle.ja_abstract.specs.Values as abstract_values
use Rattle.ja_meaning.specs.Meaning.{has_value}
use Rattle.ja_meaning.proofs.Operators.{unary-known, binary-known}
use Rattle.ja_rows.specs.Out as abstract
use Rattle.ja_rows.specs.Out.{Point, Given}
use Rattle.ja_rows.specs.Transfer.{transfer, transfer_node}
use Rattle.ja_sound.specs.Statements.{IsAt, IsGiven, SoundWithin}
use Rattle.ja_sound.proofs.CallNodes.{RowCovers, call_inside, new_inside, convert_inside, return_inside, escape_inside, device_inside, intrinsic_gives}
use Rattle.ja_sound.proofs.ControlNodes.{Within, within, const_gives, move_gives, outcome_gives, branch_gives, throw_gives, need_object_gives, names_gives, pick_gives, instance_gives}
use Rattle.ja_sound.proofs.ObjectNodes.{SitesOf, new_object_gives, push_scope_gives, to_object_gives, make_function_gives, bind_gives, declare_gives, enter_gives}
use Rattle.ja_sound.proofs.PropertyNodes.{find_gives, read_ref_gives, read_soft_gives, write_ref_gives, delete_ref_gives, read_prop_gives, write_prop_gives, delete_prop_gives, has_prop_gives, has, of_heap}
use Rattle.ja_sound.proofs.AtNode as rows
use Rattle.ja_sound.proofs.Taken.{node_taken}

-- ---- what the rows take

-- each row of the built-in operations covers its operation
abbrev pub RowsCover : Type 0
RowsCover =
    (e : Heap) (c : Conf) (top : Frame) (below : List Frame) (x : Point) (w : View)
    (at : IsAt w.program e c top below x w) (good : IsWellFormed w.program) (which : ℕ)
    → RowCovers e c top below x w at good which

-- ---- each kind of node

module _ (operations : RowsCover) (e : Heap) (c : Conf) (top : Frame) (below : List Frame)
    (x : Point) (w : View) (at : IsAt w.program e c top below x w)
    (good : IsWellFormed w.program) where
  abbrev p : Program
  p = w.program

  abbrev i : NodeInfo
  i = x.info

  abbrev s : Standing
  s = record { conf = c; top = top; below = below; info = i }

  abbrev fr : IsFrame p c.heap top
  fr = rows.fr e c top below x w at good

  abbrev Sets : List Reg → Type 0
  Sets = AllByRecursion (IsDestination fr.function)

  abbrev Named : List Reg → Type 0
  Named = AllByRecursion (IsRegister fr.function)

  abbrev Inside : Given → Option Event → Type 0
  Inside = Within e c top below x w at good

  in_ : (states : Given) (o : Event) → rows.Gives e c top below x w at good states o
      → Inside states (Some o)
  in_ states o g = within e c top below x w at good states (Some o) g

  held : (r : Reg) → IsRegister fr.function r → IsTrue
      (has_value c.heap (abstract.at w r) (register_of top r))
  held r l = has e c top below x w at good r l

  there : (r : Reg) → IsRegister fr.function r → IsValueOf c.heap (register_of top r)
  there r l = of_heap e c top below x w at good r l

  scope_is : IsRegister fr.function scope
  scope_is = rows.scope_is e c top below x w at good

  enter_sites : (site : Site) (list : Option Site) → AreMade p
      (λ t. makes_arguments t (node.Enter site list)) (makings (node.Enter site list))
      → SitesOf e c top below x w at good site list
  unfolding makings
  enter_sites site None made = made.each.0.told.site
  enter_sites site (Some list) made = (
    made.each.0.told.site,
    (
      made.each.1.0.told.site,
      λ same. let a = made.in_order.0 in let b : list.0
          ≡ suc made.first = made.in_order.1.0 in absurd (omega arith),
    ),
  )

  by_kind : (answer : Answer) (n : Node) → Sets (option_to_list (register_set n))
      → Named (registers_named n) → AllByRecursion (IsName p) (option_to_list (name_in n))
      → AreMade p (λ t. makes_arguments t n) (makings n)
      → IsFilled w.entries (transfer_node w x i n).demands
      → fits p (node_wants c.heap top n) answer ≡ true
      → Inside (transfer_node w x i n).states (node_step p s answer n)
  unfolding register_set registers_named name_in makings
  by_kind answer (node.Const dst q) d r n m f fit =
      in_ _ _ (const_gives e c top below x w at good dst q d.0)
  by_kind answer (node.Move dst src) d r n m f fit =
      in_ _ _ (move_gives e c top below x w at good dst src d.0 r.0)
  by_kind answer (node.FindName dst name) d r n m f fit =
      in_ _ _ (find_gives e c top below x w at good dst name d.0 n.0 f (register_of top scope)
      (there scope scope_is) (held scope scope_is))
  by_kind answer (node.ReadRef dst base name error) d r n m f fit =
      in_ _ _ (read_ref_gives e c top below x w at good dst base name error d.0 n.0
      m.each.0.told.site f (register_of top base) (there base r.0) (held base r.0))
  by_kind answer (node.ReadSoft dst base name) d r n m f fit =
      in_ _ _ (read_soft_gives e c top below x w at good dst base name d.0 n.0 f
      (register_of top base) (there base r.0) (held base r.0))
  by_kind answer (node.WriteRef base name src) d r n m f fit =
      in_ _ _ (write_ref_gives e c top below x w at good base name src n.0 r.1.0 f
      (register_of top base) (there base r.0) (held base r.0))
  by_kind answer (node.DeleteRef dst base name) d r n m f fit =
      in_ _ _ (delete_ref_gives e c top below x w at good dst base name d.0 n.0 f
      (register_of top base) (there base r.0) (held base r.0))
  by_kind answer (node.ToObject dst src sites error) d r n m f fit =
      in_ _ _ (to_object_gives e c top below x w at good dst src sites error d.0 m.each.0.told.site
      m.each.1.0.told.site m.each.1.1.0.told.site m.each.1.1.1.0.told.site
      (register_of top src) (there src r.0) (held src r.0))
  by_kind answer (node.NeedObject src error) d r n m f fit =
      in_ _ _ (need_object_gives e c top below x w at good src error m.each.0.told.site
      (register_of top src) (there src r.0) (held src r.0))
  by_kind answer (node.ReadProp dst object key) d r n m f fit =
      in_ _ _ (read_prop_gives e c top below x w at good dst object key d.0 r.1.0 f
      (register_of top object) (there object r.0) (held object r.0)
      (key_text (register_of top key)) refl)
  by_kind answer (node.WriteProp object key src error) d r n m f fit =
      in_ _ _ (write_prop_gives e c top below x w at good object key src error r.1.0 r.1.1.0
      m.each.0.told.site f (register_of top object) (there object r.0) (held object r.0)
      (key_text (register_of top key)) refl)
  by_kind answer (node.DeleteProp dst object key) d r n m f fit =
      in_ _ _ (delete_prop_gives e c top below x w at good dst object key d.0 r.1.0 f
      (register_of top object) (there object r.0) (held object r.0)
      (key_text (register_of top key)) refl)
  by_kind answer (node.HasProp dst object key) d r n m f fit =
      in_ _ _ (has_prop_gives e c top below x w at good dst object key d.0 r.1.0 f
      (register_of top object) (there object r.0) (held object r.0)
      (key_text (register_of top key)) refl)
  by_kind answer (node.InstanceOf dst left right not_function not_object) d r n m f fit =
      in_ _ _ (instance_gives e c top below x w at good dst left right not_function not_object d.0
      m.each.0.told.site m.each.1.0.told.site f (register_of top left) (register_of top right)
      (there left r.0) (held left r.0) (there right r.1.0) (held right r.1.0))
  by_kind answer (node.NewObject dst site kind) d r n m f fit =
      in_ _ _ (new_object_gives e c top below x w at good dst site kind d.0 m.each.0.told.site)
  by_kind answer (node.MakeFunction dst function site proto_site) d r n m f fit =
      in_ _ _ (make_function_gives e c top below x w at good dst function site proto_site d.0
      m.each.0.told.site m.each.1.0.told.site (λ same. let a = m.in_order.0 in let b : proto_site.0
      ≡ suc m.first = m.in_order.1.0 in absurd (omega arith)) (register_of top scope)
      (there scope scope_is) (held scope scope_is))
  by_kind answer (node.Enter site list) d r n m f fit =
      in_ _ _ (enter_gives e c top below x w at good site list
      (enter_sites site list m) (register_of top scope) (there scope scope_is)
      (held scope scope_is))
  by_kind answer (node.Declare name) d r n m f fit =
      in_ _ _ (declare_gives e c top below x w at good name n.0 f (register_of top scope)
      (there scope scope_is) (held scope scope_is))
  by_kind answer (node.Bind name src read_only) d r n m f fit =
      in_ _ _ (bind_gives e c top below x w at good name src read_only n.0 r.0
      (register_of top scope) (there scope scope_is) (held scope scope_is))
  by_kind answer (node.PushScope site) d r n m f fit =
      in_ _ _ (push_scope_gives e c top below x w at good site m.each.0.told.site
      (register_of top scope) (there scope scope_is) (held scope scope_is))
  by_kind answer (node.Convert dst src kind other) d r n m f fit =
      convert_inside e c top below x w at good dst src kind other d.0 r.1 (register_of top src)
      (there src r.0) (held src r.0)
  by_kind answer (node.Unary dst op src) d r n m f fit =
      in_ _ _ (outcome_gives e c top below x w at good dst
      (abstract_values.unary w op (abstract.at w src))
      (values.unary c.heap op (register_of top src)) d.0
      (λ q is. unary-known w c.heap at.known.heap op (abstract.at w src) (register_of top src) q
      (there src r.0) (held src r.0) is))
  by_kind answer (node.Binary dst op a b) d r n m f fit =
      in_ _ _ (outcome_gives e c top below x w at good dst
      (abstract_values.binary w op (abstract.at w a) (abstract.at w b))
      (values.binary op (register_of top a) (register_of top b)) d.0
      (λ q is. binary-known w c.heap at.known.heap op (abstract.at w a) (abstract.at w b)
      (register_of top a) (register_of top b) q (there a r.0) (there b r.1.0) (held a r.0)
      (held b r.1.0) is))
  by_kind answer (node.Branch src) d r n m f fit =
      in_ _ _ (branch_gives e c top below x w at good src (register_of top src) (held src r.0))
  by_kind answer (node.Call dst callee receiver args error) d r n m f fit =
      call_inside e c top below x w at good dst callee receiver args error r.0 m.each.0.told.site
  by_kind answer (node.New dst callee args site error) d r n m f fit =
      new_inside e c top below x w at good dst callee args site error r.0 m.each.1.0.told.site
  by_kind answer (node.Names list object) d r n m f fit =
      in_ _ _ (names_gives e c top below x w at good list object (register_of top object)
      (there object r.1.0) (held object r.1.0))
  by_kind answer (node.Pick list dst object) d r n m f fit =
      within e c top below x w at good _ _ (pick_gives e c top below x w at good list dst object d.0
      f answer (register_of top object) (there object r.1.0) (held object r.1.0))
  by_kind answer (node.Throw src) d r n m f fit =
      in_ _ _ (throw_gives e c top below x w at good src r.0)
  by_kind answer (node.Return src) d r n m f fit =
      return_inside e c top below x w at good _ (register_of top src) below refl
  by_kind answer node.Escape d r n m f fit =
      escape_inside e c top below x w at good _ (register_of top thrown) below refl
  by_kind answer (node.Intrinsic dst which args) d r n m f fit =
      in_ _ _ (intrinsic_gives e c top below x w at good dst which args d.0 r
      (operations e c top below x w at good which) f)
  by_kind answer (node.Device dst which) d r n m f fit =
      device_inside e c top below x w at good dst which d.0 answer fit
  by_kind answer (node.Stop kind) d r n m f fit = in_ _ _ tt

  -- ---- a step

  wants_is : wants p c ≡ node_wants c.heap top i.node
  wants_is =
      ap (frames_want p c.heap) at.frames_are ∙ ap
      (λ o. Rattle.std.specs.Option.option_map_or
      (λ (info : NodeInfo). node_wants c.heap top info.node) o wanted.Tick) at.info

  pub sound_at : (d : Conf) (answer : Answer) (moved : Frame)
      → IsFilled w.entries (transfer w x).demands → step p c answer ≡ Some (event.Next d)
      → IsState p d → d.frames ≡ moved ∷ below → IsGiven p e below (transfer w x).states d
  sound_at d answer moved filled taken known after =
      elim (cases_Bool (fits p (wants p c) answer)) [
        | inl fit ↦
            by_kind answer i.node (rows.formed e c top below x w at good).sets
            (rows.formed e c top below x w at good).names_registers
            (rows.formed e c top below x w at good).name
            (rows.made e c top below x w at good) filled
            (subst (λ z. fits p z answer ≡ true) wants_is fit) d
            (node_taken p c top below i at.frames_are at.info answer (event.Next d) taken) known
            moved after
        | inr never ↦
            absurd (none-some (event.Next d) (sym (cond-false (fits p (wants p c) answer)
            (frames_step p c answer c.frames) None never) ∙ taken))
      ]

-- ---- all kinds of nodes

-- the statement at a view
abbrev At : Program → Heap → Conf → Conf → Answer → Frame → Frame → List Frame → Point → View
    → Type 0
At q e c d answer top moved below x w =
    IsWellFormed q → IsAt q e c top below x w → IsFilled w.entries (transfer w x).demands
    → step q c answer ≡ Some (event.Next d) → IsState q d → d.frames ≡ moved ∷ below
    → IsGiven q e below (transfer w x).states d

at_view : RowsCover → (e : Heap) (c d : Conf) (answer : Answer) (top moved : Frame)
    (below : List Frame) (x : Point) (w : View) → At w.program e c d answer top moved below x w
at_view operations e c d answer top moved below x w good at filled taken known after =
    sound_at operations e c top below x w at good d answer moved filled taken known after

pub sound_within : RowsCover → (p : Program) → IsWellFormed p → SoundWithin p
sound_within operations p good e c d answer top moved below x w at filled taken known after same =
    subst (λ q. At q e c d answer top moved below x w) at.program
    (at_view operations e c d answer top moved below x w) good at filled taken known after

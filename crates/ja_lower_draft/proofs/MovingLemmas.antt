-- Where each register of a node may be moved, a copy has the registers moved.
use Rattle.std.proofs.Common.{◌≡◌, ℕ, ◌+◌, ◌-◌, ◌<◌, ◌≤◌, ◌^◌, Bool, true, false, ◌&&◌, cond, nat_le, nat_lt, List, [], ◌∷◌, map, Option, Some, None, refl, ap, arith}
use Rattle.std.specs.List.{AllByRecursion}
use Rattle.std.specs.Option.{option_map, option_to_list}
use Rattle.std.proofs.lemmas.Bool.Decides.{nat_tests}
use Rattle.ja_base.specs.declared.ids.Reg.{Reg}
use Rattle.ja_graph.specs.Node.{register_set, argument_registers, registers_named, registers_in, registers_with}
use Rattle.ja_graph.specs.Renaming.{Renaming, renamed, renamed_args}
use Rattle.ja_graph.specs.declared.node.Args.{Args}
use Rattle.ja_graph.specs.declared.node.Args.TheVariants as args
use Rattle.ja_graph.specs.declared.node.Node.{Node}
use Rattle.ja_graph.specs.declared.node.Node.TheVariants as node
use Rattle.ja_graph.proofs.RegisterLemmas.{each_among}
use Rattle.ja_lower_draft.specs.code.Registers.{moved_within, moving_within}
use Rattle.ja_lower_draft.specs.Copies.{moved_register, moving}

abbrev the_register : ℕ → Reg
the_register n = record { 0 = n }

abbrev by_register : (Reg → Reg) → Renaming
by_register f = record { register = f; name = λ n. n; function = λ f. f; site = λ s. s }

-- a node is renamed alike where each of its registers is
module _ (f g : Reg → Reg) where
  abbrev Alike : Reg → Type 0
  Alike r = f r ≡ g r

  list_alike : (rs : List Reg) → AllByRecursion Alike rs → map f rs ≡ map g rs
  list_alike [] h = refl
  list_alike (r ∷ rs) h = cc (h.0, list_alike rs h.1)

  option_alike : (o : Option Reg) → AllByRecursion Alike (option_to_list o)
      → option_map f o ≡ option_map g o
  option_alike None h = refl
  option_alike (Some r) h = ap (λ (x : Reg). Some x) h.0

  arguments_alike : (a : Args) → AllByRecursion Alike (argument_registers a)
      → renamed_args (by_register f) a ≡ renamed_args (by_register g) a
  arguments_alike (args.Registers list) h =
      ap (λ (rs : List Reg). args.Registers rs) (list_alike list h)
  arguments_alike (args.Elements array) h = ap (λ (r : Reg). args.Elements r) h.0
  arguments_alike args.Tail h = refl

  pub same_registers : (n : Node) → AllByRecursion Alike (registers_in n)
      → renamed (by_register f) n ≡ renamed (by_register g) n
  unfolding renamed register_set registers_named
  same_registers (node.Const dst prim) h = cc h.0
  same_registers (node.Move dst src) h = cc (h.0, h.1.0)
  same_registers (node.FindName dst name) h = cc h.0
  same_registers (node.ReadRef dst base name error) h = cc (h.0, h.1.0)
  same_registers (node.ReadSoft dst base name) h = cc (h.0, h.1.0)
  same_registers (node.WriteRef base name src) h = cc (h.0, h.1.0)
  same_registers (node.DeleteRef dst base name) h = cc (h.0, h.1.0)
  same_registers (node.ToObject dst src sites error) h = cc (h.0, h.1.0)
  same_registers (node.NeedObject src error) h = cc h.0
  same_registers (node.ReadProp dst object key) h = cc (h.0, h.1.0, h.1.1.0)
  same_registers (node.WriteProp object key src error) h = cc (h.0, h.1.0, h.1.1.0)
  same_registers (node.DeleteProp dst object key) h = cc (h.0, h.1.0, h.1.1.0)
  same_registers (node.HasProp dst object key) h = cc (h.0, h.1.0, h.1.1.0)
  same_registers (node.InstanceOf dst left right not_function not_object) h =
      cc (h.0, h.1.0, h.1.1.0)
  same_registers (node.NewObject dst site kind) h = cc h.0
  same_registers (node.MakeFunction dst function site proto_site) h = cc h.0
  same_registers (node.Enter site arguments) h = refl
  same_registers (node.Declare name) h = refl
  same_registers (node.Bind name src read_only) h = cc h.0
  same_registers (node.PushScope site) h = refl
  same_registers (node.Convert dst src hint other) h = cc (h.0, h.1.0, option_alike other h.1.1)
  same_registers (node.Unary dst op src) h = cc (h.0, h.1.0)
  same_registers (node.Binary dst op a b) h = cc (h.0, h.1.0, h.1.1.0)
  same_registers (node.Branch src) h = cc h.0
  same_registers (node.Call dst callee receiver args error) h =
      cc (h.0, h.1.0, h.1.1.0, arguments_alike args h.1.1.1)
  same_registers (node.New dst callee args site error) h = cc (h.0, h.1.0, list_alike args h.1.1)
  same_registers (node.Names list object) h = cc (h.0, h.1.0)
  same_registers (node.Pick list dst object) h = cc (h.0, h.1.0, h.1.1.0)
  same_registers (node.Throw src) h = cc h.0
  same_registers (node.Return src) h = cc h.0
  same_registers node.Escape h = refl
  same_registers (node.Intrinsic dst which args) h = cc (h.0, list_alike args h.1)
  same_registers (node.Device dst which) h = cc h.0
  same_registers (node.Stop kind) h = refl

-- a register that is low enough is moved
moved_is : (first by : ℕ) (r : Reg) → r.0 < 2 ^ 32 - by
    → moved_within first by r ≡ moved_register first by r
moved_is first by r low =
    let fits : nat_lt (r.0 + by) (2 ^ 32) ≡ true = grind (arith, nat_tests) in
    at (nat_le first r.0) (nat_lt (r.0 + by) (2 ^ 32)) fits
  where
    at : (b c : Bool) → c ≡ true → cond (b && c) (the_register (r.0 + by)) r
        ≡ cond b (the_register (r.0 + by)) r
    at true c e = rw e refl
    at false c e = refl

all_moved : (first by : ℕ) (rs : List Reg) → AllByRecursion (λ (r : Reg). r.0 < 2 ^ 32 - by) rs
    → AllByRecursion (Alike (moved_within first by) (moved_register first by)) rs
all_moved first by [] low = tt
all_moved first by (r ∷ rs) low = (moved_is first by r low.0, all_moved first by rs low.1)

pub moved_alike : (first by : ℕ) (n : Node) → registers_with 0 (registers_in n) ≤ 2 ^ 32 - by
    → renamed (moving_within first by) n ≡ renamed (moving first by) n
moved_alike first by n few =
    same_registers (moved_within first by) (moved_register first by) n
    (all_moved first by (registers_in n) (each_among 0 (2 ^ 32 - by) (registers_in n) few))

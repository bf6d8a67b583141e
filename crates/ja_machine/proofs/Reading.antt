-- What is read of a heap that is as it should be is of the heap.
use Rattle.std.proofs.Common.{◌≡◌, ◌≤◌, ℕ, suc, List, [], ◌∷◌, length, map, Some, None, Option, refl, ap, ◌∙◌, subst, arith}
use Rattle.std.specs.Prelude.{Result, Ok, Err, Bool, false, nat_le, find, slice_get, unwrap_or}
use Rattle.std.specs.List.{AllByRecursion, range_with_len}
use Rattle.std.specs.Option.{is_some, option_and_then, option_map, option_map_or}
use Rattle.std.proofs.lemmas.Bool.{false≢true, leb-true}
use Rattle.std.proofs.lemmas.List.{length-drop, length-map}
use Rattle.std.proofs.lemmas.List.FromFn.{length-map-range_with_len}
use Rattle.std.proofs.lemmas.Option.{same_Some, option_and_then_some}
use lib.Chars.{codes}
use Rattle.ja_base.specs.declared.ids.Reg.{Reg}
use Rattle.ja_base.specs.declared.ids.ScopeKind.{ScopeKind}
use Rattle.ja_base.specs.declared.ids.ScopeKind.TheVariants as scope_kind
use Rattle.ja_prim.specs.declared.primitive.Num.{Num}
use Rattle.ja_prim.specs.declared.primitive.Primitive.TheVariants as primitive
use Rattle.ja_prim.specs.declared.stop.Stop.{Stop}
use Rattle.ja_prim.specs.Conversions.{to_number}
use Rattle.ja_prim.proofs.Bitwise.{uint32_below}
use Rattle.ja_graph.specs.declared.node.Args.{Args}
use Rattle.ja_graph.specs.declared.node.Args.TheVariants as args
use Rattle.ja_graph.specs.declared.program.Program.{Program}
use Rattle.ja_graph.specs.Node.{argument_registers}
use Rattle.ja_graph.specs.Program.{global}
use Rattle.ja_graph.specs.WellFormed.{IsWellFormed, IsRegister}
use Rattle.ja_prim.specs.Texts.{same_text}
use Rattle.ja_machine.specs.declared.machine.Addr.{Addr}
use Rattle.ja_machine.specs.declared.machine.Value.{Value}
use Rattle.ja_machine.specs.declared.machine.Value.TheVariants as value
use Rattle.ja_machine.specs.declared.machine.Content.{Content}
use Rattle.ja_machine.specs.declared.machine.Content.TheVariants as contents
use Rattle.ja_machine.specs.declared.machine.Property.{Property}
use Rattle.ja_machine.specs.declared.machine.Object.{Object}
use Rattle.ja_machine.specs.declared.machine.Heap.{Heap}
use Rattle.ja_machine.specs.declared.machine.Frame.{Frame}
use Rattle.ja_machine.specs.Heap.{size, object_at, class_at, property_of, own, or_else, first_own, get, content_at, has, prototypes, scopes}
use Rattle.ja_machine.specs.Writes.{length_name}
use Rattle.ja_machine.specs.Frames.{undefined, register_of}
use Rattle.ja_machine.specs.Objects.{first_of, index_text}
use Rattle.ja_machine.specs.Calls.{object_in, chain_of, is_activation, receiver_of, ArgumentsRead, max_arguments, register_values, unsigned_count, element, with_first, all_given, element_count, elements_up_to, has_elements, elements, given, prototype_for, prototype_of_callee}
use Rattle.ja_machine.specs.Nodes.{object_or_null, find_name, read}
use Rattle.ja_machine.specs.State.{IsObjectOf, IsValueOf, IsContentOf, IsHeap, IsFrame}
use Rattle.ja_machine.proofs.Lists.{either_way, all_from, all_find, all_drop, all_map, all_of}
use Rattle.ja_machine.proofs.Chains.{scopes_chained}
use Rattle.ja_machine.proofs.Growing.{held_of}
use Rattle.ja_machine.proofs.Nodes.{global_there, object_prototype_there}
use Rattle.ja_machine.proofs.Frames.{register_value}

-- ---- how many arguments there are

-- each that is given has an index
abbrev pub AreFew : ArgumentsRead → Type 0
AreFew (Ok vs) = length vs ≤ max_arguments
AreFew (Err kind) = Unit {0}

-- as many values as were read
abbrev AreAsMany : ℕ → ArgumentsRead → Type 0
AreAsMany n (Ok vs) = length vs ≡ n
AreAsMany n (Err kind) = Unit {0}

one_more : (v : Value) (n : ℕ) (vs : ArgumentsRead) → AreAsMany n vs
    → AreAsMany (suc n) (with_first v vs)
one_more v n (Ok vs) count = omega (arith, count)
one_more v n (Err kind) count = tt

all_counted : (rs : List (Result Value ScopeKind)) → AreAsMany (length rs) (all_given rs)
all_counted [] = refl
all_counted (Ok v ∷ rs) = one_more v (length rs) (all_given rs) (all_counted rs)
all_counted (Err kind ∷ rs) = tt

few_of_many : (n : ℕ) (vs : ArgumentsRead) → n ≤ max_arguments → AreAsMany n vs → AreFew vs
few_of_many n (Ok vs) few count = omega (arith, few, count)
few_of_many n (Err kind) few count = tt

-- a number of elements
abbrev IsFew : Result ℕ ScopeKind → Type 0
IsFew (Ok n) = n ≤ max_arguments
IsFew (Err kind) = Unit {0}

unsigned_few : (n : Result Num Stop) → IsFew (unsigned_count n)
unsigned_few (Ok n) = omega (arith, uint32_below n)
unsigned_few (Err stop) = tt

count_few : (c : Option Content) → IsFew (element_count c)
count_few None = omega arith
count_few (Some contents.Row) = tt
count_few (Some (contents.Value (value.Object a))) = omega arith
count_few (Some (contents.Value (value.Primitive q))) = unsigned_few (to_number q)

elements_few : (h : Heap) (a : Addr) (n : Result ℕ ScopeKind) → IsFew n
    → AreFew (elements_up_to h a n)
elements_few h a (Ok n) few =
    let rs = map (λ i. element (content_at h a (index_text i))) (range_with_len 0 n) in
    let count : length rs ≡ n = length-map-range_with_len
    (λ i. element (content_at h a (index_text i))) 0 n in
    few_of_many (length rs) (all_given rs) (omega (arith, few, count)) (all_counted rs)
elements_few h a (Err kind) few = tt

value_few : (h : Heap) (v : Value) → AreFew (elements h v)
value_few h (value.Object a) =
    either_way AreFew (option_map_or has_elements (object_at h a) false)
    (elements_up_to h a (element_count (content_at h a length_name))) (Err scope_kind.Register)
    (λ e. elements_few h a (element_count (content_at h a length_name))
    (count_few (content_at h a length_name))) (λ e. tt)
value_few h (value.Primitive q) = tt

-- the values of registers are few
pub registers_few : (f : Frame) (rs : List Reg) → AreFew (register_values f rs)
registers_few f rs =
    either_way AreFew (nat_le (length rs) max_arguments) (Ok (map (register_of f) rs))
    (Err scope_kind.Register)
    (λ e. omega (arith, leb-true (length rs) max_arguments e, length-map rs (register_of f)))
    (λ e. tt)

-- .. and so are the arguments of each kind
pub arguments_few : (p : Program) (h : Heap) (f : Frame) (k : IsFrame p h f) (arguments : Args)
    → AreFew (given h f arguments)
arguments_few p h f k (args.Registers list) = registers_few f list
arguments_few p h f k (args.Elements array) = value_few h (register_of f array)
arguments_few p h f k args.Tail = omega (arith, k.few_arguments, length-drop 1 f.arguments)

-- the first that passes stands in the list
found_in : {X : Type 0} (test : X → Bool) (xs : List X) (x : X) → find test xs ≡ Some x
    → (i : ℕ) × (slice_get xs i ≡ Some x)
found_in test [] x e = absurd (false≢true (ap is_some e))
found_in test (y ∷ ys) x e =
    either_way (λ o. o ≡ Some x → (i : ℕ) × (slice_get (y ∷ ys) i ≡ Some x)) (test y) (Some y)
    (find test ys) (λ k f. (0, f)) (λ k f. let (i, at) = found_in test ys x f in (suc i, at)) e

-- ---- properties

module _ (p : Program) (h : Heap) (good : IsHeap p h) where
  own_content : (a : Addr) (name : List ℕ) (q : Property) → own h a name ≡ Some q
      → IsContentOf h q.content
  own_content a name q e =
      option_and_then_some (λ (o : Object). property_of o name) (object_at h a) q e
      (λ o is found. all_find (λ (r : Property). IsContentOf h r.content)
      (λ (r : Property). same_text r.name name) o.properties q (held_of p h good a o is) found)

  first_content : (name : List ℕ) (xs : List Addr) (q : Property) → first_own h name xs ≡ Some q
      → IsContentOf h q.content
  first_content name [] q e = absurd (false≢true (ap is_some e))
  first_content name (a ∷ xs) q e = at (first_content name xs q) (own h a name) refl e
    where
      at : (first_own h name xs ≡ Some q → IsContentOf h q.content) → (r : Option Property)
          → own h a name ≡ r → or_else r (first_own h name xs) ≡ Some q → IsContentOf h q.content
      at further None is found = further found
      at further (Some r) is found = own_content a name q (is ∙ found)

  -- what [[Get]] finds
  pub content_found : (a : Addr) (name : List ℕ) (c : Content) → content_at h a name ≡ Some c
      → IsContentOf h c
  content_found a name c e = at (get h a name) refl e
    where
      at : (r : Option Property) → get h a name ≡ r
          → option_map (λ (q : Property). q.content) r ≡ Some c → IsContentOf h c
      at None is found = absurd (false≢true (ap is_some found))
      at (Some q) is found =
          subst (IsContentOf h) (same_Some q.content c found)
          (first_content name (prototypes h a) q is)

  -- .. or undefined
  pub read_content : (a : Addr) (name : List ℕ) → IsContentOf h (read h a name)
  read_content a name = at (content_at h a name) refl
    where
      at : (r : Option Content) → content_at h a name ≡ r
          → IsContentOf h (unwrap_or r (contents.Value undefined))
      at None is = tt
      at (Some c) is = content_found a name c is

  -- the base of a name
  pub base_value : (a : Addr) (name : List ℕ) → IsObjectOf h a → IsValueOf h (find_name h a name)
  base_value a name there = at (find (λ b. has h b name) (scopes h a)) refl
    where
      at : (r : Option Addr) → find (λ b. has h b name) (scopes h a) ≡ r
          → IsValueOf h (object_or_null r)
      at None is = tt
      at (Some b) is =
          let (i, place) = found_in (λ c. has h c name) (scopes h a) b is in
          (scopes_chained p h good).objects (size h) i a b there place

  -- ---- the arguments of a call

  -- the values that are given are of the heap
  abbrev pub AreGiven : ArgumentsRead → Type 0
  AreGiven (Ok vs) = AllByRecursion (IsValueOf h) vs
  AreGiven (Err kind) = Unit {0}

  abbrev IsGiven : Result Value ScopeKind → Type 0
  IsGiven (Ok v) = IsValueOf h v
  IsGiven (Err kind) = Unit {0}

  element_given : (r : Option Content) → ((c : Content) → r ≡ Some c → IsContentOf h c)
      → IsGiven (element r)
  element_given None each = tt
  element_given (Some contents.Row) each = tt
  element_given (Some (contents.Value v)) each = each (contents.Value v) refl

  first_given : (v : Value) (vs : ArgumentsRead) → IsValueOf h v → AreGiven vs
      → AreGiven (with_first v vs)
  first_given v (Ok vs) first rest = (first, rest)
  first_given v (Err kind) first rest = tt

  all_are_given : (rs : List (Result Value ScopeKind)) → AllByRecursion IsGiven rs
      → AreGiven (all_given rs)
  all_are_given [] all = tt
  all_are_given (Ok v ∷ rs) all = first_given v (all_given rs) all.0 (all_are_given rs all.1)
  all_are_given (Err kind ∷ rs) all = tt

  elements_given : (a : Addr) (n : Result ℕ ScopeKind) → AreGiven (elements_up_to h a n)
  elements_given a (Ok n) =
      let each : (i : ℕ) → IsGiven (element (content_at h a (index_text i))) = λ i.
      element_given (content_at h a (index_text i)) (content_found a (index_text i)) in
      all_are_given (map (λ i. element (content_at h a (index_text i))) (range_with_len 0 n))
      (all_map (λ (i : ℕ). Unit {0}) IsGiven (λ i. element (content_at h a (index_text i)))
      (λ i k. each i) (range_with_len 0 n)
      (all_of (λ (i : ℕ). Unit {0}) (λ i. tt) (range_with_len 0 n)))
  elements_given a (Err kind) = tt

  elements_of_value : (v : Value) → AreGiven (elements h v)
  elements_of_value (value.Object a) =
      either_way AreGiven (option_map_or has_elements (object_at h a) false)
      (elements_up_to h a (element_count (content_at h a length_name)))
      (Err scope_kind.Register) (λ e. elements_given a
      (element_count (content_at h a length_name))) (λ e. tt)
  elements_of_value (value.Primitive q) = tt

  -- the values of registers
  pub registers_given : (f : Frame) (k : IsFrame p h f) (rs : List Reg)
      → AllByRecursion (IsRegister k.function) rs → AreGiven (register_values f rs)
  registers_given f k rs all =
      either_way AreGiven (nat_le (length rs) max_arguments) (Ok (map (register_of f) rs))
      (Err scope_kind.Register) (λ e. all_map (IsRegister k.function) (IsValueOf h) (register_of f)
      (λ r fits. register_value p h f k r fits) rs all) (λ e. tt)

  -- .. and of the arguments of each kind
  pub arguments_given : (f : Frame) (k : IsFrame p h f) (arguments : Args)
      → AllByRecursion (IsRegister k.function) (argument_registers arguments)
      → AreGiven (given h f arguments)
  arguments_given f k (args.Registers list) all = registers_given f k list all
  arguments_given f k (args.Elements array) all = elements_of_value (register_of f array)
  arguments_given f k args.Tail all =
      all_drop (IsValueOf h) 1 f.arguments (all_from (IsValueOf h) f.arguments k.arguments)

  -- ---- what is called

  -- the object of a value
  pub object_in_there : (v : Value) → IsValueOf h v → (a : Addr) → object_in v ≡ Some a
      → IsObjectOf h a
  object_in_there (value.Object b) there a e = subst (IsObjectOf h) (same_Some b a e) there
  object_in_there (value.Primitive q) there a e = absurd (false≢true (ap is_some e))

  module _ (program : IsWellFormed p) where
    -- the scope chain of a function object
    pub chain_there : (callee : Option Addr) → IsObjectOf h (chain_of h callee)
    chain_there None = global_there p program h good
    chain_there (Some a) = at (object_at h a) refl
      where
        linked : (o : Object) → object_at h a ≡ Some o → (r : Option Addr) → o.slots.scope ≡ r
            → IsObjectOf h (unwrap_or r (first_of global))
        linked o is None e = global_there p program h good
        linked o is (Some b) e = good.scope a b o is e

        at : (r : Option Object) → object_at h a ≡ r
            → IsObjectOf h (unwrap_or (option_and_then (λ (o : Object). o.slots.scope) r)
            (first_of global))
        at None e = global_there p program h good
        at (Some o) e = linked o e o.slots.scope refl

    -- the receiver of a call
    pub receiver_there : (v : Value) → IsValueOf h v → (a : Addr) → receiver_of h v ≡ Some a
        → IsObjectOf h a
    receiver_there (value.Object b) there a e =
        subst (IsObjectOf h) (same_Some _ a e)
        (either_way (IsObjectOf h) (is_activation (class_at h b)) (first_of global) b
        (λ k. global_there p program h good) (λ k. there))
    receiver_there (value.Primitive primitive.Undefined) there a e =
        subst (IsObjectOf h) (same_Some _ a e) (global_there p program h good)
    receiver_there (value.Primitive primitive.Null) there a e =
        subst (IsObjectOf h) (same_Some _ a e) (global_there p program h good)
    receiver_there (value.Primitive (primitive.Bool q)) there a e =
        absurd (false≢true (ap is_some e))
    receiver_there (value.Primitive (primitive.Number q)) there a e =
        absurd (false≢true (ap is_some e))
    receiver_there (value.Primitive (primitive.Text q)) there a e =
        absurd (false≢true (ap is_some e))

    -- the prototype of what is constructed
    prototype_there : (r : Option Content) → ((c : Content) → r ≡ Some c → IsContentOf h c)
        → IsObjectOf h (prototype_for r)
    prototype_there (Some (contents.Value (value.Object a))) each =
        each (contents.Value (value.Object a)) refl
    prototype_there (Some (contents.Value (value.Primitive q))) each =
        object_prototype_there p program h good
    prototype_there (Some contents.Row) each = object_prototype_there p program h good
    prototype_there None each = object_prototype_there p program h good

    -- .. by what its callee has
    pub callee_prototype_there : (callee : Option Addr)
        → IsObjectOf h (prototype_of_callee h callee)
    callee_prototype_there None = object_prototype_there p program h good
    callee_prototype_there (Some a) =
        prototype_there (content_at h a (codes "prototype")) (content_found a (codes "prototype"))

-- Statements (ES3 12): what each is listed as.
use Rattle.std.specs.Prelude.{ℕ, ◌+◌, true, false, List, [], ◌∷◌, Option, Some, None}
use Rattle.std.specs.Option.{option_map}
use Rattle.ja_base.specs.declared.ids.Place.{Place}
use Rattle.ja_base.specs.declared.ids.Reg.{Reg}
use Rattle.ja_prim.specs.declared.primitive.Primitive.TheVariants as primitive
use Rattle.ja_graph.specs.declared.node.BinaryOp.TheVariants.{StrictEq}
use Rattle.ja_graph.specs.declared.node.Node.TheVariants.{Branch, Binary, Names, Pick, PushScope, Bind, Throw, Return}
use Rattle.ja_lower_listing.specs.Listing.{block_of}
use Rattle.ja_lower_listing.specs.declared.item.Spot.{Spot}
use Rattle.ja_syntax.specs.declared.tree.Name.{Name}
use Rattle.ja_syntax.specs.declared.tree.CatchOf.{CatchOf}
use Rattle.ja_syntax.specs.declared.tree.Declaration.{Declaration}
use Rattle.ja_syntax.specs.declared.tree.Initialiser.{Initialiser}
use Rattle.ja_syntax.specs.declared.tree.ForFirst.{ForFirst}
use Rattle.ja_syntax.specs.declared.tree.ForFirst.TheVariants as first
use Rattle.ja_syntax.specs.declared.tree.ForTarget.{ForTarget}
use Rattle.ja_syntax.specs.declared.tree.ForTarget.TheVariants as target
use Rattle.ja_syntax.specs.declared.tree.Case.{Case}
use Rattle.ja_syntax.specs.declared.tree.Expression.{Expression}
use Rattle.ja_syntax.specs.declared.tree.Statement.{Statement}
use Rattle.ja_syntax.specs.declared.tree.Expression.TheOpen.{Statement-F, Case-F}
use Rattle.ja_syntax.specs.declared.tree.Expression.TheFolds.{para-Statement, map-Statement, map-Case}
use Rattle.ja_lower_draft.specs.Lines.{Listing, Valued, Scene, register, site, spot_of, behind_spots, restarted, name_id, with_node, with_branch, with_result, with_spot, with_jump, with_truth, with_const, with_copy, with_move}
use Rattle.ja_lower_expressions.specs.References.{Form, value_of, with_name, with_object, put_value}
use Rattle.ja_lower_expressions.specs.Operators.{assign}
use Rattle.ja_lower_expressions.specs.Literals.{scope}
use Rattle.ja_lower_expressions.specs.Expressions.{form}
use Rattle.ja_lower_draft.specs.Copies.{Template, with_block}
use Rattle.ja_lower_statements.specs.Ways.{Way, of_loop, of_switch, of_label, of_catch, of_finally, break_target, continue_target, jump_to, leave_all, leaving}

-- What is around a statement: the scene, what its jumps leave, the innermost first, and the labels
-- right before it.
pub record Around : Type 0 where
  pub scene : Scene
  pub ways : List Way
  pub labels : List (List ℕ)

-- how a statement is listed, with temporaries from a register on
abbrev pub Does : Type 0
Does = Around → ℕ → Listing → Listing

-- behind a label stands nothing else
abbrev pub unlabelled : Around → Around
unlabelled around = record around { labels = [] }

abbrev pub inside : Way → Around → Around
inside way around = record around { ways = way ∷ around.ways; labels = [] }

abbrev pub handled_at : Spot → Around → Around
handled_at handler around = record around { scene = record around.scene { handler = Some handler } }

unfoldable pub list_all_statements : List Does → Does
list_all_statements [] around base l = l
list_all_statements (s ∷ ss) around base l =
    list_all_statements ss around base (s (unlabelled around) base l)

-- ---- `var` (12.2): the numbers of temporaries begin again at each name

abbrev pub declare_with : Name → Option (Initialiser Form) → Scene → Listing → Listing
declare_with name None scene l = l
declare_with name (Some initialiser) scene l =
    (assign (with_name name.text name.place) initialiser.value initialiser.place scene l).listing

abbrev pub declare_one : Declaration Form → Scene → ℕ → Listing → Listing
declare_one declaration scene base l =
    declare_with declaration.name declaration.initialiser scene (restarted base l)

unfoldable pub declare_all : List (Declaration Form) → Scene → ℕ → Listing → Listing
declare_all [] scene base l = l
declare_all (d ∷ ds) scene base l = declare_all ds scene base (declare_one d scene base l)

-- ---- `if` (12.5)

abbrev pub with_condition : Form → Scene → Place → Listing → Valued
with_condition condition scene place l =
    let c = value_of condition scene l in with_truth scene place c.value c.listing

-- a listing, and the number of the first of the spots that a statement has taken
pub record Spotted : Type 0 where
  pub listing : Listing
  pub first : ℕ

abbrev pub nth_spot : ℕ → ℕ → Spot
nth_spot first i = record { 0 = first + i }

-- a condition, and a branch to the first of some new spots
unfoldable pub list_branch : ℕ → Form → Scene → Place → Listing → Spotted
list_branch spots condition scene place l =
    let b = with_condition condition scene place l in
    record {
      listing =
          with_branch scene place (Branch b.value) (nth_spot b.listing.spot 0)
          (behind_spots spots b.listing);
      first = b.listing.spot;
    }

-- an `if` up to its `else`, and from there on: the spots are those of `else` and of the end
unfoldable pub list_then : Form → Does → Place → Around → ℕ → Listing → Spotted
list_then condition consequent place around base l =
    let b = list_branch 2 condition around.scene place (restarted base l) in
    record { listing = consequent (unlabelled around) base b.listing; first = b.first }

unfoldable pub list_else : Does → Around → ℕ → Spotted → Listing
list_else otherwise around base y =
    with_spot (nth_spot y.first 1) (otherwise (unlabelled around) base
    (with_spot (nth_spot y.first 0) (with_jump (nth_spot y.first 1) y.listing)))

unfoldable pub list_if_alone : Form → Does → Place → Does
list_if_alone condition consequent place around base l =
    let b = list_branch 1 condition around.scene place (restarted base l) in
    with_spot (nth_spot b.first 0) (consequent (unlabelled around) base b.listing)

abbrev pub list_if : Form → Does → Option Does → Place → Does
list_if condition consequent None place around base l =
    list_if_alone condition consequent place around base l
list_if condition consequent (Some otherwise) place around base l =
    list_else otherwise around base (list_then condition consequent place around base l)

-- ---- loops (12.6): `turn` is where `continue` goes, `end` where `break` does

-- the body of a loop
abbrev pub list_body : Does → Around → ℕ → Spot → Spot → Listing → Listing
list_body body around base end turn l = body (inside (of_loop around.labels end turn) around) base l

-- the body first, then the condition
unfoldable pub list_do : Does → Form → Place → Does
list_do body condition place around base l =
    let top = spot_of l 0 in
    let turn = spot_of l 1 in
    let end = spot_of l 2 in
    let y = list_body body around base end turn (with_spot top (behind_spots 3 l)) in
    let b = with_condition condition around.scene place (restarted base (with_spot turn y)) in
    with_spot end (with_jump top (with_branch around.scene place (Branch b.value) end b.listing))

unfoldable pub list_while : Form → Does → Place → Does
list_while condition body place around base l =
    let turn = spot_of l 0 in
    let end = spot_of l 1 in
    let b = with_condition condition around.scene place
    (restarted base (with_spot turn (behind_spots 2 l))) in
    let y = list_body body around base end turn
    (with_branch around.scene place (Branch b.value) end b.listing) in
    with_spot end (with_jump turn y)

-- a missing condition is true
abbrev pub for_condition : Option Form → Scene → Place → Listing → Valued
for_condition None scene place l =
    let c = with_const scene place (primitive.Bool true) l in
    with_truth scene place c.value c.listing
for_condition (Some condition) scene place l = with_condition condition scene place l

abbrev pub for_update : Option Form → Scene → Listing → Listing
for_update None scene l = l
for_update (Some update) scene l = (value_of update scene l).listing

abbrev pub for_first : ForFirst Form → Scene → ℕ → Listing → Listing
for_first first.Nothing scene base l = l
for_first (first.Expression value) scene base l = (value_of value scene l).listing
for_first (first.Variables declarations) scene base l = declare_all declarations scene base l

-- the temporaries of the update go on from those of the condition
unfoldable pub list_for : ForFirst Form → Option Form → Option Form → Does → Place → Does
list_for head condition update body place around base l =
    let top = spot_of l 0 in
    let turn = spot_of l 1 in
    let end = spot_of l 2 in
    let i = for_first head around.scene base (restarted base (behind_spots 3 l)) in
    let b = for_condition condition around.scene place (with_spot top i) in
    let y = list_body body around base end turn
    (with_branch around.scene place (Branch b.value) end b.listing) in
    let u = for_update update around.scene (restarted b.listing.temporary (with_spot turn y)) in
    with_spot end (with_jump top u)

-- what a `for`-`in` writes, and what its head does first (12.6.4)
abbrev pub for_in_reference : ForTarget Form → Form
for_in_reference (target.Variable declaration) =
    with_name declaration.name.text declaration.name.place
for_in_reference (target.Reference value) = value

abbrev pub for_in_first : ForTarget Form → Scene → Listing → Listing
for_in_first (target.Variable declaration) scene l =
    declare_with declaration.name declaration.initialiser scene l
for_in_first (target.Reference value) scene l = l

-- a turn of it up to the body, and the register of the list
abbrev pub for_in_turn : ForTarget Form → Form → Place → Scene → ℕ → Spot → Spot → Listing → Valued
for_in_turn goal object place scene base turn end l =
    let v = value_of object scene (for_in_first goal scene (restarted base l)) in
    let o = with_object scene place v.value v.listing in
    let list = register o.listing.temporary in
    let after = restarted (o.listing.temporary + 1) o.listing in
    let names = with_node scene place (Names list o.value) after in
    let name = register names.temporary in
    let at = restarted (names.temporary + 1) (with_spot turn names) in
    let pick = with_branch scene place (Pick list name o.value) end at in
    let r = for_in_reference goal scene pick in
    record { listing = put_value scene place r.outcome name r.listing; value = list }

-- the object and the list are kept while the loop runs
unfoldable pub list_for_in : ForTarget Form → Form → Does → Place → Does
list_for_in goal object body place around base l =
    let turn = spot_of l 0 in
    let end = spot_of l 1 in
    let t = for_in_turn goal object place around.scene base turn end (behind_spots 2 l) in
    let y = list_body body around (t.value.0 + 1) end turn t.listing in
    with_spot end (with_jump turn y)

-- ---- jumps (12.7 to 12.9)

abbrev pub label_text : Option Name → Option (List ℕ)
label_text = option_map (λ (n : Name). n.text)

-- the value that is returned
abbrev pub returned : Option Form → Scene → Place → Listing → Valued
returned None scene place l = with_const scene place primitive.Undefined l
returned (Some value) scene place l = value_of value scene l

abbrev pub list_return : Option Form → Place → Does
list_return value place around base l =
    let v = returned value around.scene place (restarted base l) in
    with_node around.scene place (Return v.value)
    (leave_all around.scene place v.value around.ways (leaving v.listing))

-- `throw` (12.13)
abbrev pub list_throw : Form → Place → Scene → ℕ → Listing → Listing
list_throw value place scene base l =
    let v = value_of value scene (restarted base l) in
    with_node scene place (Throw v.value) v.listing

-- a label (12.12)
unfoldable pub list_labelled : Name → Does → Does
list_labelled label body around base l =
    let end = spot_of l 0 in
    with_spot end (body (record around {
      ways = of_label label.text end ∷ around.ways;
      labels = label.text ∷ around.labels;
    }) base (behind_spots 1 l))

-- ---- `switch` (12.11): the tests in the order of the text, then the bodies; each body has a spot

-- a clause: its test, if it is not `default`, and its body
pub record Clause : Type 0 where
  pub test : Option Form
  pub body : List Does

-- a test goes to the body's spot, if the value is equal to it
abbrev pub list_test : Option Form → Scene → Place → Reg → Spot → Listing → Listing
list_test None scene place value body l = l
list_test (Some test) scene place value body l =
    let v = value_of test scene l in
    let b = with_result scene place (λ dst. Binary dst StrictEq value v.value) v.listing in
    let next = spot_of b.listing 0 in
    with_spot next (with_jump body (with_branch scene place (Branch b.value) next
    (behind_spots 1 b.listing)))

-- the tests of clauses whose bodies have spots from i on
unfoldable pub list_tests : List Clause → Scene → Place → Reg → ℕ → Listing → Listing
list_tests [] scene place value i l = l
list_tests (c ∷ cs) scene place value i l =
    list_tests cs scene place value (i + 1)
    (list_test c.test scene place value (record { 0 = i }) l)

-- the spot of `default`, or of the end
abbrev pub default_or : Option Form → Spot → Spot → Spot
default_or None here others = here
default_or (Some test) here others = others

unfoldable pub default_spot : List Clause → ℕ → Spot → Spot
default_spot [] i end = end
default_spot (c ∷ cs) i end = default_or c.test (record { 0 = i }) (default_spot cs (i + 1) end)

unfoldable pub list_bodies : List Clause → Around → ℕ → ℕ → Listing → Listing
list_bodies [] around base i l = l
list_bodies (c ∷ cs) around base i l =
    list_bodies cs around base (i + 1) (list_all_statements c.body around base
    (with_spot (record { 0 = i }) l))

abbrev pub count : List Clause → ℕ
count [] = 0
count (c ∷ cs) = count cs + 1

unfoldable pub list_switch : Form → List Clause → Place → Does
list_switch value clauses place around base l =
    let v = value_of value around.scene (restarted base l) in
    let end = spot_of v.listing 0 in
    let first = v.listing.spot + 1 in
    let tests = list_tests clauses around.scene place v.value first
    (behind_spots (1 + count clauses) v.listing) in
    let bodies = list_bodies clauses (inside (of_switch end) around) (v.value.0 + 1) first
    (with_jump (default_spot clauses first end) tests) in
    with_spot end bodies

-- ---- `try` (12.14): the scope chain is kept in a register, and set again where the block is left
-- by an error

-- a listing, the number of the first of the spots that a `try` has taken, and the register that
-- keeps the scope chain
pub record Guarded : Type 0 where
  pub listing : Listing
  pub first : ℕ
  pub saved : Reg

-- a block whose errors are caught: the spots are those of the handler and of the end
unfoldable pub list_guarded : List Does → Place → Around → ℕ → Listing → Guarded
list_guarded block place around base l =
    let saved = with_copy around.scene place scope (restarted base (behind_spots 2 l)) in
    record {
      listing =
          list_all_statements block (handled_at (nth_spot l.spot 0) (unlabelled around)) (base + 1)
          saved.listing;
      first = l.spot;
      saved = saved.value;
    }

-- the handler: the scope chain is set again, and an object before it binds the parameter
unfoldable pub list_handler : Name → Place → Scene → Guarded → Listing
list_handler parameter place scene y =
    let back = with_move scene place scope y.saved
    (with_spot (nth_spot y.first 0) (with_jump (nth_spot y.first 1) y.listing)) in
    with_node scene place (Bind (name_id scene parameter.text) (register 0) false)
    (with_node scene place (PushScope (site 0)) back)

unfoldable pub list_caught : Name → List Does → Place → Around → ℕ → Guarded → Listing
list_caught parameter body place around base y =
    let z = list_all_statements body (inside (of_catch y.saved) around) (base + 1)
    (list_handler parameter place around.scene y) in
    with_spot (nth_spot y.first 1) (with_move around.scene place scope y.saved z)

unfoldable pub list_catch : List Does → Name → List Does → Place → Does
list_catch block parameter body place around base l =
    list_caught parameter body place around base (list_guarded block place around base l)

-- The block of a `finally` is listed once, around the statement, and copied on each way out: the
-- normal one, that of an error, and that of each jump. The spots are those of the handler, of the
-- normal way, of the way of an error, and of the end.
pub record Kept : Type 0 where
  pub listing : Listing
  pub first : ℕ
  pub saved : Reg
  pub template : Template

unfoldable pub keep_block : List Does → Place → Around → ℕ → Listing → Kept
keep_block finally place around base l =
    let saved = with_copy around.scene place scope (restarted base (behind_spots 4 l)) in
    let listed = list_all_statements finally (unlabelled around) (base + 1)
    (record { items = []; temporary = base + 1; spot = saved.listing.spot }) in
    record {
      listing = saved.listing;
      first = l.spot;
      saved = saved.value;
      template = record { block = block_of listed.items; temporary = base + 1 };
    }

-- the way of an error: the block, and the error is thrown again
unfoldable pub list_rethrow : Template → Place → Scene → ℕ → Listing → Listing
list_rethrow t place scene base l =
    let thrown = with_copy scene place (register 0) (restarted (base + 1) l) in
    with_node scene place (Throw thrown.value) (with_block t thrown.value thrown.listing)

-- the ways out of a block that are no jumps
unfoldable pub list_ways_out : Place → Scene → ℕ → ℕ → Reg → Template → Listing → Listing
list_ways_out place scene base first saved t y =
    let back = with_jump (nth_spot first 2)
    (with_move scene place scope saved (with_spot (nth_spot first 0)
    (with_jump (nth_spot first 1) y))) in
    let way = with_jump (nth_spot first 3) (with_block t saved
    (with_spot (nth_spot first 1) back)) in
    with_spot (nth_spot first 3) (list_rethrow t place scene base
    (with_spot (nth_spot first 2) way))

-- what is around a block with a `finally`
abbrev pub protected : Kept → Around → Around
protected k around = handled_at (nth_spot k.first 0) (inside (of_finally k.saved k.template) around)

unfoldable pub list_finally : Does → List Does → Place → Does
list_finally block finally place around base l =
    let k = keep_block finally place around base l in
    list_ways_out place around.scene base k.first k.saved k.template
    (block (protected k around) (base + 1) k.listing)

abbrev pub list_try : List Does → Option (CatchOf Does) → Option (List Does) → Place → Does
list_try block None None place around base l = list_all_statements block around base l
list_try block (Some caught) None place around base l =
    list_catch block caught.parameter caught.body place around base l
list_try block None (Some finally) place around base l =
    list_finally (list_all_statements block) finally place around base l
list_try block (Some caught) (Some finally) place around base l =
    list_finally (list_catch block caught.parameter caught.body place) finally place around base l

-- ---- one level of a statement, with what each form inside is in its place

abbrev pub statement_step : Statement-F Form Does Clause → Does
statement_step (Statement-F.Block body place) around base l = list_all_statements body around base l
statement_step (Statement-F.Variables declarations place) around base l =
    declare_all declarations around.scene base l
statement_step (Statement-F.Empty place) around base l = l
statement_step (Statement-F.Expression value place) around base l =
    (value_of value around.scene (restarted base l)).listing
statement_step (Statement-F.If condition consequent otherwise place) around base l =
    list_if condition consequent otherwise place around base l
statement_step (Statement-F.Do body condition place) around base l =
    list_do body condition place around base l
statement_step (Statement-F.While condition body place) around base l =
    list_while condition body place around base l
statement_step (Statement-F.For head condition update body place) around base l =
    list_for head condition update body place around base l
statement_step (Statement-F.ForIn goal object body place) around base l =
    list_for_in goal object body place around base l
statement_step (Statement-F.Continue label place) around base l =
    jump_to around.scene place (continue_target (label_text label)) around.ways (leaving l)
statement_step (Statement-F.Break label place) around base l =
    jump_to around.scene place (break_target (label_text label)) around.ways (leaving l)
statement_step (Statement-F.Return value place) around base l =
    list_return value place around base l
statement_step (Statement-F.Labelled label body) around base l =
    list_labelled label body around base l
statement_step (Statement-F.Switch value clauses place) around base l =
    list_switch value clauses place around base l
statement_step (Statement-F.Throw value place) around base l =
    list_throw value place around.scene base l
statement_step (Statement-F.Try block caught finally place) around base l =
    list_try block caught finally place around base l
-- a function declaration is done at the beginning of its function
statement_step (Statement-F.Statement::Function function) around base l = l

abbrev pub clause_step : Case-F Form Does Clause → Clause
clause_step case = record { test = case.test; body = case.body }

-- one level, in which each form inside stands beside what it is listed as
abbrev pub Expressions : Type 0
Expressions = Expression × Unit {0}

abbrev pub statement_level : Statement-F Expressions (Statement × Does) (Case × Clause) → Does
statement_level x =
    statement_step (map-Statement Expressions (Statement × Does) (Case × Clause) Form Does Clause
    (λ e. form e.0) (λ s. s.1) (λ c. c.1) x)

abbrev pub clause_level : Case-F Expressions (Statement × Does) (Case × Clause) → Clause
clause_level x =
    clause_step (map-Case Expressions (Statement × Does) (Case × Clause) Form Does Clause
    (λ e. form e.0) (λ s. s.1) (λ c. c.1) x)

-- how a statement is listed
unfoldable pub does : Statement → Does
does = para-Statement (Unit {0}) Does Clause (λ x. tt) statement_level clause_level

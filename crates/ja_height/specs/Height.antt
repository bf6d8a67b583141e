-- How high the tables of a program can rise: how many times a visit can change one.
use Rattle.std.specs.Prelude.{ℕ, ◌+◌, ◌*◌, Bool, true, false, filter, length}
use Rattle.std.specs.List.{sum_by}
use Rattle.ja_graph.specs.declared.node.Node.{Node}
use Rattle.ja_graph.specs.declared.node.Node.TheVariants as node
use Rattle.ja_graph.specs.declared.node.NodeInfo.{NodeInfo}
use Rattle.ja_graph.specs.declared.program.Function.{Function}
use Rattle.ja_graph.specs.declared.program.Program.{Program}

-- two labels of each site; a key for each name, and six more
abbrev pub label_count : Program → ℕ
label_count p = 2 * length p.sites

abbrev pub key_count : Program → ℕ
key_count p = length p.names + 6

-- the nodes that enter functions
abbrev pub enters : Node → Bool
enters (node.Call dst callee receiver args error) = true
enters (node.New dst callee args site error) = true
enters (node.Convert dst src kind other) = true
enters n = false

abbrev pub enters_functions : NodeInfo → Bool
enters_functions i = enters i.node

abbrev pub entering_count : Function → ℕ
entering_count fn = length (filter enters_functions fn.nodes)

-- a value rises by its eight flags, three times by its number and by its text, and by its labels; a
-- property by the six tests of its attributes besides; a state by that it is there, its registers,
-- its properties and two tests of each site
abbrev pub value_height : Program → ℕ
value_height p = 14 + label_count p

abbrev pub property_height : Program → ℕ
property_height p = 20 + label_count p

abbrev pub state_height : Program → Function → ℕ
state_height p fn =
    1 + fn.registers * value_height p + label_count p * key_count p * property_height p
    + label_count p

-- a context by that it is reached, by each pair at its entry, that it is demanded and its value,
-- and by a state at each node
abbrev pub context_height : Program → Function → ℕ
context_height p fn =
    1 + label_count p * key_count p * (1 + property_height p) + length fn.nodes * state_height p fn

-- a context for each function and each label; an edge from each node of each context that enters
-- functions into each context
abbrev pub height : Program → ℕ
height p =
    let contexts = sum_by (λ (fn : Function). label_count p * context_height p fn) p.functions in
    let entering = sum_by entering_count p.functions in
    contexts + entering * label_count p * length p.functions * label_count p

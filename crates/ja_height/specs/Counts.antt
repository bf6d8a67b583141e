-- Programs by what the height counts of them.
use Rattle.std.specs.Prelude.{◌≡◌, ℕ, List, length}
use Rattle.ja_graph.specs.declared.program.Function.{Function}
use Rattle.ja_graph.specs.declared.program.Program.{Program}
use Rattle.ja_height.specs.Height.{entering_count}

-- so many registers, nodes, and nodes among them that enter functions
pub record HasCounts (fn : Function) (registers nodes entering : ℕ) : Type 0 where
  pub registers_are : fn.registers ≡ registers
  pub nodes_are : length fn.nodes ≡ nodes
  pub entering_are : entering_count fn ≡ entering

-- so many sites and names, and these functions
pub record IsOfSize (p : Program) (sites names : ℕ) (functions : List Function) : Type 0 where
  pub sites_are : length p.sites ≡ sites
  pub names_are : length p.names ≡ names
  pub functions_are : p.functions ≡ functions

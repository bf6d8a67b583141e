-- The program of a text, and why a text has none.
use Rattle.std.specs.Prelude.{◌≡◌, ◌<◌, ◌≤◌, ◌+◌, ℕ, false, String, List, ◌++◌, length}
use Rattle.std.specs.Str.{IsUtf8}
use Rattle.std.specs.String.{string_bytes}
use Rattle.std.specs.declared.alloc.Global.{Global}
use Rattle.ja_grammar.specs.Language.{Spells, Explains, max_levels}
use Rattle.ja_grammar.specs.declared.fault.ParseFault.{ParseFault}
use Rattle.ja_graph.specs.WellFormed.{builtin_names, max_names}
use Rattle.ja_graph.specs.declared.builtins.TheConstants.{BUILTIN_CLASSES}
use Rattle.ja_graph.specs.declared.program.Program.{Program}
use Rattle.ja_lex.specs.Tokens.{tokens}
use Rattle.ja_load.specs.Hosts.{device_sites, opening_with}
use Rattle.ja_load.specs.declared.fault.LoadFault.{LoadFault}
use Rattle.ja_load.specs.declared.fault.LoadFault.TheVariants as fault
use Rattle.ja_lower.specs.Limits.{max_functions, max_size, function_count, size_of, IsWithin}
use Rattle.ja_lower.specs.declared.lowered.Lowered.{Lowered}
use Rattle.ja_lower.specs.Lowering.{first_names, lowered_with_prelude, names_of}
use Rattle.ja_prelude.specs.Prelude.{prelude_paths, prelude_statements}
use Rattle.ja_prelude.specs.Table.{builtin_sites}
use Rattle.ja_prelude.specs.declared.texts.TheConstants.{TEXT_FIRST, VALUE_FIRST}
use Rattle.ja_prim.specs.declared.signature.Signature.{Signature}
use Rattle.ja_syntax.specs.declared.tree.Statement.{Statement}

-- what stands before the names of a text, and how many sites before those of its nodes: one for
-- each built-in object and for each device
abbrev pub names_before : List Signature → List (List ℕ)
names_before signatures = first_names builtin_names prelude_statements signatures

abbrev pub sites_before : List Signature → ℕ
sites_before signatures = length BUILTIN_CLASSES + length signatures

-- What a text is lowered to, with the functions of devices and the built-in ones behind its own.
abbrev pub whole : List Signature → List Statement → Lowered
whole signatures statements =
    lowered_with_prelude builtin_names prelude_paths prelude_statements signatures
    (sites_before signatures) statements

-- the program of a text that has so many functions of its own, with what it is lowered to; the last
-- two functions begin default values
abbrev pub program_with : String Global → List Signature → ℕ → Lowered → Program
program_with text signatures own l =
    let first = own + length signatures in
    record {
      functions = l.functions;
      text_functions = own;
      sites = builtin_sites first ++ device_sites own signatures ++ l.sites;
      names = l.names;
      signatures = signatures;
      opening = opening_with l.names signatures;
      value_first = record { 0 = first + VALUE_FIRST };
      text_first = record { 0 = first + TEXT_FIRST };
      text = text;
    }

unfoldable pub program_of : String Global → List Signature → List Statement → Program
program_of text signatures statements =
    program_with text signatures (function_count statements) (whole signatures statements)

-- the bytes are a text of the language, and these its statements
abbrev pub IsTextOf : List ℕ → List Statement → Type 0
IsTextOf bytes statements = IsUtf8 bytes × Spells max_levels (tokens bytes) statements

-- the program of a text within the limits, with these devices
pub record IsProgramOf (bytes : List ℕ) (signatures : List Signature) (p : Program) : Type 0 where
  pub statements : List Statement
  pub text : IsTextOf bytes statements
  pub within : IsWithin (names_before signatures) statements
  pub program : p ≡ program_of p.text signatures statements
  pub keeps : string_bytes p.text ≡ bytes

-- the text has too many functions
abbrev pub HasManyFunctions : List ℕ → Type 0
HasManyFunctions bytes =
    (statements : List Statement)
    × IsTextOf bytes statements
    × (max_functions < function_count statements)

-- it hasn't, but its graph has too many nodes
abbrev pub HasManyNodes : List ℕ → List Signature → Type 0
HasManyNodes bytes signatures =
    (statements : List Statement)
    × IsTextOf bytes statements
    × (function_count statements ≤ max_functions)
    × (max_size < size_of (names_before signatures) statements)

-- the bytes are a text, and this is what its tokens are refused with, which is determined
-- (`refused_once` in ja_grammar) and said of no text of the language (`refused_is_none`)
abbrev pub IsNone : List ℕ → ParseFault → Type 0
IsNone bytes f = IsUtf8 bytes × Explains (tokens bytes) f

-- it is within both limits, but its program has too many names
abbrev pub HasManyNames : List ℕ → List Signature → Type 0
HasManyNames bytes signatures =
    (statements : List Statement)
    × IsTextOf bytes statements
    × IsWithin (names_before signatures) statements
    × (max_names < length (names_of false (names_before signatures) statements))

-- why a text has no program
abbrev pub HasNone : List ℕ → List Signature → LoadFault → Type 0
HasNone bytes signatures (fault.Parse f) = IsNone bytes f
HasNone bytes signatures fault.Functions = HasManyFunctions bytes
HasNone bytes signatures fault.Nodes = HasManyNodes bytes signatures
HasNone bytes signatures fault.Names = HasManyNames bytes signatures

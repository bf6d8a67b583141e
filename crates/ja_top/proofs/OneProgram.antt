-- A text has one program with the same devices.
use Rattle.std.proofs.Common.{◌≡◌, ◌∙◌, ℕ, List, ap, sym}
use Rattle.ja_grammar.proofs.Explaining.{one_tree}
use Rattle.ja_grammar.specs.Language.{max_levels}
use Rattle.ja_graph.specs.declared.program.Program.{Program}
use Rattle.ja_lex.specs.Tokens.{tokens}
use Rattle.ja_load.specs.Loading.{program_of, IsProgramOf, IsTextOf}
use Rattle.ja_prim.specs.declared.signature.Signature.{Signature}
use Rattle.ja_syntax.specs.declared.tree.Statement.{Statement}

pub one_text : (bytes : List ℕ) (xs ys : List Statement) → IsTextOf bytes xs → IsTextOf bytes ys
    → ys ≡ xs
one_text bytes xs ys h j = one_tree max_levels max_levels (tokens bytes) xs ys h.1 j.1

pub program_same : (bytes : List ℕ) (ss : List Signature) (p q : Program)
    → IsProgramOf bytes ss p → IsProgramOf bytes ss q → q ≡ record p { text = q.text }
unfolding program_of
program_same bytes ss p q h j =
    j.program
    ∙ ap (program_of q.text ss) (one_text bytes h.statements j.statements h.text j.text)
    ∙ sym (ap (λ (r : Program). record r { text = q.text }) h.program)

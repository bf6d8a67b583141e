-- No fault but want of memory explains a text that has a program as one without.
use Rattle.std.proofs.Common.{◌≡◌, ℕ, false, List, length, Some, refl, sym, ap, subst, arith}
use Rattle.ja_grammar.specs.Language.{IsRefused}
use Rattle.ja_grammar.specs.declared.fault.ParseFault.{ParseFault}
use Rattle.ja_grammar.specs.declared.fault.ParseFault.TheVariants as parse
use Rattle.ja_grammar.proofs.Theorem.{refused_none}
use Rattle.ja_graph.specs.WellFormed.{IsWellFormed}
use Rattle.ja_graph.specs.declared.program.Program.{Program}
use Rattle.ja_lex.specs.Tokens.{tokens}
use Rattle.ja_load.specs.Loading.{names_before, program_of, IsProgramOf, IsTextOf, HasNone}
use Rattle.ja_load.specs.declared.fault.LoadFault.{LoadFault}
use Rattle.ja_load.specs.declared.fault.LoadFault.TheVariants as load
use Rattle.ja_lower.specs.Limits.{IsWithin}
use Rattle.ja_lower.specs.Lowering.{lowered, lowered_with_prelude, names_of}
use Rattle.ja_prim.specs.declared.signature.Signature.{Signature}
use Rattle.ja_syntax.specs.declared.tree.Statement.{Statement}
use Rattle.ja_cert_laws.specs.Back.{IsWantOfMemory}
use Rattle.ja_cert_read.specs.declared.certificate.CertFault.TheVariants as fault
use Rattle.ja_report.specs.declared.refusals.Refusal.{Refusal}
use Rattle.ja_report.specs.declared.refusals.Refusal.TheVariants as refusal
use Rattle.ja_top.specs.Statuses.{refusal_of}
use Rattle.ja_top.proofs.OneProgram.{one_text}

module _ (bytes : List ℕ) (ss : List Signature) (p : Program) (h : IsProgramOf bytes ss p) where
  same_text : (ys : List Statement) → IsTextOf bytes ys → ys ≡ h.statements
  same_text ys is = one_text bytes h.statements ys h.text is

  not_refused : (f : ParseFault) → IsRefused (tokens bytes) f → ⊥
  not_refused f refused = refused_none bytes f refused h.statements h.text.1

  within : (ys : List Statement) → IsTextOf bytes ys → IsWithin (names_before ss) ys
  within ys is =
      subst (IsWithin (names_before ss)) (sym (same_text ys is)) h.within

  names_are : p.names ≡ names_of false (names_before ss) h.statements
  unfolding program_of lowered_with_prelude lowered
  names_are = ap (λ (r : Program). r.names) h.program

  -- no refusal is told of it
  pub none_told : (f : LoadFault) (r : Refusal) → refusal_of f ≡ Some r → HasNone bytes ss f → ⊥
  none_told (load.Parse (parse.Syntax place)) r is none = not_refused (parse.Syntax place) none.1
  none_told (load.Parse (parse.Scope kind place)) r is none =
      not_refused (parse.Scope kind place) none.1
  none_told (load.Parse (parse.Depth place)) r is none = not_refused (parse.Depth place) none.1
  none_told (load.Parse parse.Memory) r is none = absurd (cc is)
  none_told load.Functions r is none =
      absurd (omega (arith, (within none.0 none.1).functions, none.2))
  none_told load.Nodes r is none = absurd (omega (arith, (within none.0 none.1).nodes, none.3))
  none_told load.Names r is none = absurd (cc is)

  pub only_memory : IsWellFormed p → (f : LoadFault) → HasNone bytes ss f
      → IsWantOfMemory (fault.Load f)
  only_memory formed (load.Parse parse.Memory) none = tt
  only_memory formed (load.Parse (parse.Syntax place)) none =
      not_refused (parse.Syntax place) none.1
  only_memory formed (load.Parse (parse.Scope kind place)) none =
      not_refused (parse.Scope kind place) none.1
  only_memory formed (load.Parse (parse.Depth place)) none =
      not_refused (parse.Depth place) none.1
  only_memory formed load.Functions none =
      none_told load.Functions refusal.Functions refl none
  only_memory formed load.Nodes none = none_told load.Nodes refusal.Nodes refl none
  only_memory formed load.Names none =
      omega (
        arith,
        formed.few_names,
        none.3,
        ap length names_are,
        ap (λ (ys : List Statement). length (names_of false (names_before ss) ys))
            (same_text none.0 none.1),
      )

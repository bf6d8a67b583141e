-- With at least the height of the program for a budget, the budget is never spent.
use Rattle.std.specs.Prelude.{◌≡◌, ◌≤◌, ℕ, List, length, map}
use Rattle.std.specs.String.{string_bytes}
use Rattle.std.proofs.Common.{subst, sym, arith, inl, inr}
use Rattle.ja_device.specs.Devices.{AllSeen}
use Rattle.ja_graph.specs.declared.program.Program.{Program}
use Rattle.ja_height.specs.Height.{height}
use Rattle.ja_height.proofs.Counted.{closed_then}
use Rattle.ja_load.specs.Loading.{IsProgramOf}
use Rattle.ja_prim.specs.declared.signature.Signature.{Signature}
use Rattle.ja_top.specs.Analyses.{visits_of, Analyses}
use Rattle.ja_top.specs.Answers.{Asks, Call, Follows, HasCause, IsByHeight, request_of, summing}
use Rattle.ja_top.specs.Runs.{signatures_of}
use Rattle.ja_top.specs.declared.request.Request.{Request}
use Rattle.ja_top.specs.declared.status.Status.TheVariants.{Spent}
use Rattle.ja_words.specs.declared.command.Budget.{Budget}
use Rattle.ja_words.specs.declared.command.Budget.TheVariants.{Height}
use Rattle.ja_words.specs.declared.command.Command.{Command}
use Rattle.ja_words.specs.declared.command.Command.TheVariants as command
use Rattle.ja_words.proofs.Given.{one_command}

-- as many visits as the program is high close its table
pub unspent : (request : Request) (bytes : List ℕ) (signatures : List Signature) (text : List ℕ)
    → ((p : Program) → IsProgramOf bytes signatures p → height p ≤ visits_of p request.budget)
    → Analyses request bytes signatures Spent text → ⊥
unspent request bytes signatures text enough (inr refused) = absurd refused
unspent request bytes signatures text enough (inl (p, of, (visits, formed, spent, printed))) =
    spent.open_still (closed_then p formed visits spent.table spent.built many)
  where
    many : height p ≤ length visits
    many = subst (λ n. height p ≤ n) (sym spent.all) (enough p of)

-- where the budget is the height, it is that of whatever program the text has
pub by_height : (budget : Budget) (p : Program) → budget ≡ Height → height p ≤ visits_of p budget
by_height budget p by =
    subst (λ (b : Budget). height p ≤ visits_of p b) (sym by) (omega arith)

followed : (asked : Command) (bytes : List ℕ) (before after : AllSeen) (text : List ℕ)
    → IsByHeight asked → Follows asked bytes before after Spent text → ⊥
followed (command.Analyse cert budget) bytes before after text by (h, stands) =
    unspent (request_of cert budget) bytes (signatures_of before) text
    (λ p of. by_height budget p by) h
followed (command.Generate number) bytes before after text by (h, stands) =
    unspent (summing number) bytes (signatures_of before) text (λ p of. omega arith) h
followed asked bytes before after text by h = absurd by

-- the words ask for one command
pub no_cause : (c : Call) (asked : Command) (text : List ℕ) → Asks c.words asked
    → IsByHeight asked → HasCause c Spent text → ⊥
no_cause c asked text asks by (other, others, (bytes, given, h)) =
    let same : asked ≡ other = one_command (map string_bytes c.words) asked other asks others in
    followed other bytes c.devices c.devices_after text (subst IsByHeight same by) h

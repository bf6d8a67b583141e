use Rattle.ja_files.proofs.Kept.{order_kept, strictly_kept}
use Rattle.ja_files.proofs.laws.spots_keep_order.Goals as goal

pub returns-clause-order : goal.returns-clause-order
returns-clause-order c = λ texts a b up. order_kept texts a b up

pub returns-clause-strict : goal.returns-clause-strict
returns-clause-strict c = λ texts a b up. strictly_kept texts a b up

use Rattle.std.proofs.Common.{ℕ, sym, append-nil, arith}
use Rattle.ja_table.specs.Tables.{states_in}
use Rattle.ja_cert.specs.code.Writing.{node_of, with_commas}
use Rattle.ja_cert.proofs.Commas.{added_number}
use Rattle.ja_cert.proofs.ContextLemmas.{points_all}
use Rattle.ja_cert.proofs.write_contexts.push_nodes.Goals as goal

pub loop-node-init : goal.loop-node-init
loop-node-init c = sym (append-nil _)

pub loop-node-preserved : goal.loop-node-preserved
loop-node-preserved c =
    let own = c.args.own.now in
    added_number (λ (n : ℕ). with_commas
    (node_of c.args.program.now own.context.function (states_in own.nodes.items) n)) _ _ _ _
    c.loop-node.invariant c.in_ok-push_node.ensures

pub returns : goal.returns
returns c =
    points_all c.args.program.now _ (states_in c.args.own.now.nodes.items) _ _ _ _
    c.loop-node.invariant (omega arith) c.requires.fits.nodes

use Rattle.ja_trie.proofs.node.Node.+run_end.Given as goal

abbrev pub decreases-run_end : goal.decreases-run_end
decreases-run_end g l = l.width

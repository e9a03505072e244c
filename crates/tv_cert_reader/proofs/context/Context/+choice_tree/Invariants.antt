use Rattle.tv_cert_reader.proofs.context.Context.+choice_tree.Given as goal

abbrev pub decreases-choice_tree : goal.decreases-choice_tree
decreases-choice_tree l = l.left

use Rattle.tv_cert_reader.proofs.context.Context.+cover_tree.Given as goal

abbrev pub decreases-cover_tree : goal.decreases-cover_tree
decreases-cover_tree l = l.left

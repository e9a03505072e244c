use Rattle.tv_walks.proofs.cycles.closing.+closed_rows.Given as goal

abbrev pub decreases-closed_rows : goal.decreases-closed_rows
decreases-closed_rows l = l.added

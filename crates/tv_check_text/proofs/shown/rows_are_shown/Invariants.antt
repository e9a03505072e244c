use Rattle.tv_refute.specs.Frames.{known_at}
use Rattle.tv_cert.specs.Entering.{owed_listed}
use Rattle.tv_check_text.proofs.ShownLemmas.{ShownFirst}
use Rattle.tv_check_text.proofs.shown.rows_are_shown.Given as goal

abbrev pub invariant-rows : goal.invariant-rows
invariant-rows l = ShownFirst l.columns (known_at l.frames) (owed_listed l.owed) l.fn.cursor l.place l.cursor l.met

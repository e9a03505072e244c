use Rattle.tv_choice.proofs.TermLemmas.{AreTermsTo}
use Rattle.tv_choice.proofs.drawing.terms_at.Given as goal

abbrev pub invariant-draws : goal.invariant-draws
invariant-draws l = AreTermsTo l.columns l.fn.draws l.rows l.values l.draw l.terms.items

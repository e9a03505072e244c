use Rattle.std.proofs.Common.{subst, sym, List, ℕ}
use Rattle.tv_text.specs.Headings.{BeginsWithHeading}
use Rattle.tv_text.proofs.split.certificate_at.Goals as goal

pub returns-in-None : goal.returns-in-None
returns-in-None c rest h = c.in-None.ensures rest (subst (λ (bs : List ℕ). BeginsWithHeading bs rest) (sym c.split_at.ensures.back) h.begins)

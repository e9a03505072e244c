use Rattle.std.specs.Prelude.{List}
use Rattle.tv_linear.specs.Known.{Term}
use Rattle.tv_linear.specs.Terms.{terms_after, draw_terms}
use Rattle.tv_refute.specs.declared.terms.Terms.{Terms}
use Rattle.tv_refute.specs.declared.terms.Terms.TheVariants.{After, Drawn}

-- the terms as a list
abbrev pub terms_of : Terms → List Term
terms_of (After n updates) = terms_after n updates.now
terms_of (Drawn n draws) = draw_terms n draws.now

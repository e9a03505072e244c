use Rattle.tv_linear.specs.Linear.{Linear}
use Rattle.tv_linear.specs.Known.{Known, given, denied, composed, less}
use Rattle.tv_linear.specs.Falls.{zero_row}
use Rattle.tv_linear.specs.Views.{row_seen}
use Rattle.tv_refute.specs.Terms.{terms_of}
use Rattle.tv_refute.specs.declared.built.Built.{Built, Zero, Given, Denied', Composed', Less'}
use Rattle.tv_refute.specs.declared.shown.Change.{Change}
use Rattle.tv_refute.specs.declared.shown.Change.TheVariants.{Kept, Once, Twice}

-- the row that is described
abbrev pub built : Built → Known
built Zero = given zero_row
built (Given r) = given (row_seen r)
built (Denied' p k) = denied (built k)
built (Composed' p k terms) = composed (built k) (terms_of terms.now)
built (Less' p a q b z) = less (built a) (built b) z

-- a row of a target after the change
abbrev pub change_of : Change → Linear → Known
change_of Kept r = given r
change_of (Once t) r = composed (given r) (terms_of t.now)
change_of (Twice t u) r = composed (composed (given r) (terms_of t.now)) (terms_of u.now)

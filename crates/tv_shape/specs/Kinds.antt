-- The kinds of the nodes of a certificate.
use Rattle.std.specs.Prelude.{List, [], ◌∷◌, ◌++◌}
use Rattle.tv_lines.specs.declared.head.NodeKind.{NodeKind}
use Rattle.tv_lines.specs.declared.head.NodeKind.TheVariants as kinds
use Rattle.tv_cert.specs.Statements.{Statement, rows, here, elsewhere, ends, never_ends, each_of, one_of, after, along, unsaid, Statements, no_statement, statement}

abbrev mutual
  -- the kind of a node that is to show this, and those of the nodes below it, each before its children
  pub kinds_stated : Statement → List NodeKind
  kinds_stated (rows lists) = kinds.Atom ∷ []
  kinds_stated (here l) = kinds.Atom ∷ []
  kinds_stated (elsewhere l) = kinds.Atom ∷ []
  kinds_stated ends = kinds.Term ∷ []
  kinds_stated never_ends = kinds.NoTerm ∷ []
  kinds_stated (each_of ss) = kinds.And ∷ all_kinds ss
  kinds_stated (one_of ss) = kinds.Or ∷ all_kinds ss
  kinds_stated (after path s) = kinds.Next ∷ kinds_stated s
  kinds_stated (along path shape s t) = kinds.Fix ∷ kinds_stated s ++ kinds_stated t
  kinds_stated unsaid = kinds.Atom ∷ []

  pub all_kinds : Statements → List NodeKind
  all_kinds no_statement = []
  all_kinds (statement s ss) = kinds_stated s ++ all_kinds ss

-- The lines of nodes.
use Rattle.std.specs.Prelude.{Bool, List, [], ◌∷◌}
use Rattle.tv_grammar.specs.Langs.{unit, then, mapped, each}
use Rattle.tv_cases.specs.LinearCases.{CaseSystem}
use Rattle.tv_cert.specs.Statements.{Statement, rows, here, elsewhere, ends, never_ends, each_of, one_of, after, along, unsaid, Statements, no_statement, statement}
use Rattle.tv_cert_reader.specs.Demands.{Outline, demands}
use Rattle.tv_cert_reader.specs.LineGrammar.{Grammar, Region, region}
use Rattle.tv_cert_reader.specs.ChoiceGrammar.{demanded}

-- the proofs of a node that is to show this, given its pieces and those of its children
abbrev pub proofs : Bool → CaseSystem → Statement → Region → List (List Outline) → Grammar (Unit {0})
proofs over system s g kids = mapped (λ all. tt) (each (demanded over) (demands system s g.ranks g.pieces kids))

-- a node, given its children; it stands for its pieces
abbrev pub over_children : Bool → CaseSystem → Statement → Grammar (List (List Outline)) → Grammar (List Outline)
over_children over system s children = then (region system s) (λ g. then children (λ kids. mapped (λ _. g.pieces) (proofs over system s g kids)))

-- a list of one, and of one more
abbrev pub in_front : Grammar (List Outline) → Grammar (List (List Outline)) → Grammar (List (List Outline))
in_front a rest = then a (λ os. mapped (λ more. os ∷ more) rest)

abbrev mutual
  pub node : Bool → CaseSystem → Statement → Grammar (List Outline)
  node over system (rows lists) = over_children over system (rows lists) (unit [])
  node over system (here l) = over_children over system (here l) (unit [])
  node over system (elsewhere l) = over_children over system (elsewhere l) (unit [])
  node over system ends = over_children over system ends (unit [])
  node over system never_ends = over_children over system never_ends (unit [])
  node over system (each_of ss) = over_children over system (each_of ss) (nodes over system ss)
  node over system (one_of ss) = over_children over system (one_of ss) (nodes over system ss)
  node over system (after path s) = over_children over system (after path s) (in_front (node over system s) (unit []))
  node over system (along path shape s t) = over_children over system (along path shape s t) (in_front (node over system s) (in_front (node over system t) (unit [])))
  node over system unsaid = over_children over system unsaid (unit [])

  pub nodes : Bool → CaseSystem → Statements → Grammar (List (List Outline))
  nodes over system no_statement = unit []
  nodes over system (statement s ss) = in_front (node over system s) (nodes over system ss)

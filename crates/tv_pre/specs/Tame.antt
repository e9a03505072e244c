-- Formulas whose comparisons are of differences, and of one state.
use Rattle.std.specs.Prelude.{List, [], ◌∷◌, All}
use Rattle.tv_linear.specs.Linear.{Linear}
use Rattle.tv_cert.specs.Statements.{Statement, rows, here, elsewhere, ends, never_ends, each_of, one_of, after, along, unsaid, Statements, no_statement, statement}
use Rattle.tv_region.specs.Differences.{IsDifference}

-- each row of the lists is a difference
abbrev pub AreListsOfDifferences : List (List Linear) → Type 0
AreListsOfDifferences [] = Unit {0}
AreListsOfDifferences (list ∷ lists) = All IsDifference list × AreListsOfDifferences lists

abbrev mutual
  -- each row of the comparisons in the statement is a difference
  pub IsOfDifferencesIn : Statement → Type 0
  IsOfDifferencesIn (rows lists) = AreListsOfDifferences lists
  IsOfDifferencesIn (here l) = Unit {0}
  IsOfDifferencesIn (elsewhere l) = Unit {0}
  IsOfDifferencesIn ends = Unit {0}
  IsOfDifferencesIn never_ends = Unit {0}
  IsOfDifferencesIn (each_of ss) = AreOfDifferencesIn ss
  IsOfDifferencesIn (one_of ss) = AreOfDifferencesIn ss
  IsOfDifferencesIn (after path s) = IsOfDifferencesIn s
  IsOfDifferencesIn (along path shape s t) = IsOfDifferencesIn s × IsOfDifferencesIn t
  IsOfDifferencesIn unsaid = Unit {0}

  pub AreOfDifferencesIn : Statements → Type 0
  AreOfDifferencesIn no_statement = Unit {0}
  AreOfDifferencesIn (statement s ss) = IsOfDifferencesIn s × AreOfDifferencesIn ss

abbrev mutual
  -- the statement is of one state: there is no next state in it, no fixpoint and no termination
  pub IsLocalStatement : Statement → Type 0
  IsLocalStatement (rows lists) = Unit {0}
  IsLocalStatement (here l) = Unit {0}
  IsLocalStatement (elsewhere l) = Unit {0}
  IsLocalStatement ends = ⊥
  IsLocalStatement never_ends = ⊥
  IsLocalStatement (each_of ss) = AreLocalStatements ss
  IsLocalStatement (one_of ss) = AreLocalStatements ss
  IsLocalStatement (after path s) = ⊥
  IsLocalStatement (along path shape s t) = ⊥
  IsLocalStatement unsaid = Unit {0}

  pub AreLocalStatements : Statements → Type 0
  AreLocalStatements no_statement = Unit {0}
  AreLocalStatements (statement s ss) = IsLocalStatement s × AreLocalStatements ss

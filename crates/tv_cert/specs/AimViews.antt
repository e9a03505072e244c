use Rattle.std.specs.Prelude.{List, [], ◌∷◌, map}
use Rattle.tv_cert.specs.declared.aim.Aim.{Aim}
use Rattle.tv_cert.specs.declared.aim.Aim.TheOpen.{Aim-F}
use Rattle.tv_cert.specs.declared.aim.Aim.TheFolds.{fold-Aim}
use Rattle.tv_cert.specs.Statements.{Statement, rows, here, elsewhere, ends, never_ends, each_of, one_of, after, along, Statements, no_statement, statement}

abbrev pub statements_of : List Statement → Statements
statements_of [] = no_statement
statements_of (s ∷ ss) = statement s (statements_of ss)

abbrev pub aim_node : Aim-F Statement → Statement
aim_node (Aim-F.Rows lists) = rows (map (λ l. l.items) lists.items)
aim_node (Aim-F.Here l) = here l
aim_node (Aim-F.Elsewhere l) = elsewhere l
aim_node Aim-F.Ends = ends
aim_node Aim-F.NeverEnds = never_ends
aim_node (Aim-F.EachOf ss) = each_of (statements_of ss.items)
aim_node (Aim-F.OneOf ss) = one_of (statements_of ss.items)
aim_node (Aim-F.After path s) = after path s.value
aim_node (Aim-F.Along path shape s t) = along path shape s.value t.value

-- what an aim states
abbrev pub aim_states : Aim → Statement
aim_states = fold-Aim Statement aim_node

abbrev pub aims_state : List Aim → Statements
aims_state aims = statements_of (map aim_states aims)

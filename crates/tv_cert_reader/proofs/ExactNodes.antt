-- Nodes and certificates are read exactly.
use Rattle.std.proofs.Common.{ℕ, ◌<◌, pos, Bool, true, false, List, [], ◌∷◌, None, refl}
use Rattle.tv_grammar.specs.Exact.{Exact}
use Rattle.tv_grammar.proofs.ExactLemmas.{unit_exact, then_exact, mapped_exact, each_exact}
use Rattle.tv_lines.specs.declared.head.Head.TheVariants as heads
use Rattle.tv_linear.specs.Arithmetic.{zeros}
use Rattle.tv_cases.specs.LinearCases.{CaseSystem}
use Rattle.tv_cert.specs.Statements.{Statement, rows, here, elsewhere, ends, never_ends, each_of, one_of, after, along, unsaid, Statements, no_statement, statement}
use Rattle.tv_cert_reader.specs.Demands.{Outline, demands, into_counts}
use Rattle.tv_cert_reader.specs.LineGrammar.{Grammar, Region, line}
use Rattle.tv_cert_reader.specs.ChoiceGrammar.{demanded}
use Rattle.tv_cert_reader.specs.NodeGrammar.{proofs, over_children, in_front, node, nodes}
use Rattle.tv_cert_reader.specs.CertificateGrammar.{Sides, said_line, at_line, proved, at_values, denied, said, certificate}
use Rattle.tv_cert_reader.proofs.ExactLines.{line_exact, header_exact, last_exact, region_exact, zeros_are}
use Rattle.tv_cert_reader.proofs.ExactCovers.{both_exact, cover_exact, demanded_exact}

pub proofs_exact : (over : Bool) (system : CaseSystem) (s : Statement) (g : Region) (kids : List (List Outline)) → Exact (proofs over system s g kids)
proofs_exact over system s g kids = mapped_exact (λ all. tt) _ (each_exact (demanded over) (demands system s g.ranks g.pieces kids) (demanded_exact over))

pub in_front_exact : (a : Grammar (List Outline)) (rest : Grammar (List (List Outline))) → Exact a → Exact rest → Exact (in_front a rest)
in_front_exact a rest h i = then_exact _ _ h (λ os. mapped_exact (λ more. os ∷ more) rest i)

pub said_line_exact : Exact (line said_line)
said_line_exact = line_exact said_line heads.Proved [] true refl

pub at_line_exact : (n : ℕ) → Exact (line (at_line n))
at_line_exact n = line_exact (at_line n) heads.At (pos 0 ∷ zeros n) 0 (rw (zeros_are n) refl)

module _ (over : Bool) (system : CaseSystem) (some : 0 < system.locations) where
  pub over_children_exact : (s : Statement) (children : Grammar (List (List Outline))) → Exact children → Exact (over_children over system s children)
  over_children_exact s children h = then_exact _ _ (region_exact system some s) (λ g. then_exact _ _ h (λ kids. mapped_exact (λ x. g.pieces) _ (proofs_exact over system s g kids)))

  mutual
    pub node_exact : (s : Statement) → Exact (node over system s)
    node_exact (rows lists) = over_children_exact (rows lists) _ (unit_exact [])
    node_exact (here l) = over_children_exact (here l) _ (unit_exact [])
    node_exact (elsewhere l) = over_children_exact (elsewhere l) _ (unit_exact [])
    node_exact ends = over_children_exact ends _ (unit_exact [])
    node_exact never_ends = over_children_exact never_ends _ (unit_exact [])
    node_exact (each_of ss) = over_children_exact (each_of ss) _ (nodes_exact ss)
    node_exact (one_of ss) = over_children_exact (one_of ss) _ (nodes_exact ss)
    node_exact (after path s) = over_children_exact (after path s) _ (in_front_exact _ _ (node_exact s) (unit_exact []))
    node_exact (along path shape s t) = over_children_exact (along path shape s t) _ (in_front_exact _ _ (node_exact s) (in_front_exact _ _ (node_exact t) (unit_exact [])))
    node_exact unsaid = over_children_exact unsaid _ (unit_exact [])

    pub nodes_exact : (ss : Statements) → Exact (nodes over system ss)
    nodes_exact no_statement = unit_exact []
    nodes_exact (statement s ss) = in_front_exact _ _ (node_exact s) (nodes_exact ss)

  pub at_values_exact : (s : Statement) → Exact (at_values over system s)
  at_values_exact s = then_exact _ _ (node_exact s) (λ os. then_exact _ _ (at_line_exact system.variables) (λ k. unit_exact (os, k)))

  pub proved_exact : (s : Statement) → Exact (proved over system s)
  proved_exact s = then_exact _ _ (node_exact s) (λ os. both_exact _ _ (cover_exact over 128 system.variables 0 (into_counts None os system.start)) last_exact)

  pub denied_exact : (s : Statement) → Exact (denied over system s)
  denied_exact s = then_exact _ _ (at_values_exact s) (λ x. last_exact)

  pub said_exact : (sides : Sides) (verdict : Bool) → Exact (said over system sides verdict)
  said_exact sides true = proved_exact sides.proved
  said_exact sides false = denied_exact sides.denied

  pub certificate_exact : (sides : Sides) → Exact (certificate over system sides)
  certificate_exact sides = both_exact _ _ header_exact (then_exact _ _ said_line_exact (said_exact sides))

-- What is read of nodes.
use Rattle.std.specs.Prelude.{ℕ, false, List, [], ◌∷◌, ◌++◌, Result}
use Rattle.std.specs.Global.{Vec}
use Rattle.tv_lines.specs.Lines.{PlainLine}
use Rattle.tv_cases.specs.LinearCases.{CaseSystem}
use Rattle.tv_cert.specs.declared.node.Marked.{Marked}
use Rattle.tv_cert.specs.declared.node.Node.{Node}
use Rattle.tv_cert.specs.declared.node.Node.TheViews.{roll-Node}
use Rattle.tv_cert.specs.declared.node.Proof.{Proof}
use Rattle.tv_cert.specs.Statements.{Statement, Statements, no_statement, statement}
use Rattle.tv_cert.specs.Shapes.{NodeShape}
use Rattle.tv_cert_reader.specs.NodeGrammar.{node}
use Rattle.tv_cert_reader.specs.CertificateLines.{node_lines}
use Rattle.tv_cert_reader.specs.declared.cursor.Cursor.{Cursor}
use Rattle.tv_cert_reader.specs.declared.failure.Failure.{Failure}
use Rattle.tv_cert_reader.specs.Reading.{Reads}

-- a node made of its parts
abbrev pub node_of : List Marked → ℕ → Vec Node → Vec Proof → Node
node_of ps m kids shown = roll-Node (record { pieces = ps; ranks = m; children = kids; proofs = shown })

-- a node that is to show this is read
abbrev pub ReadsNode : CaseSystem → Statement → Cursor → Cursor → Result Node Failure → Type 0
ReadsNode system s old new result = Reads (λ n. n) (NodeShape system s) (node_lines s) (node false system s) old new result

-- the nodes are those of the first arguments
abbrev pub AreFirstOf : CaseSystem → Statements → List Node → Type 0
AreFirstOf system ss [] = Unit {0}
AreFirstOf system no_statement (a ∷ kids) = ⊥
AreFirstOf system (statement s ss) (a ∷ kids) = NodeShape system s a × AreFirstOf system ss kids

-- the lines of nodes, told what they are to show
abbrev pub nodes_lines : Statements → List Node → List PlainLine
nodes_lines ss [] = []
nodes_lines no_statement (a ∷ kids) = []
nodes_lines (statement s ss) (a ∷ kids) = node_lines s a ++ nodes_lines ss kids

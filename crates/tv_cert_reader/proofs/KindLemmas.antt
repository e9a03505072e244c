-- The kinds of the nodes of a certificate, which are as many as its nodes.
use Rattle.std.proofs.Common.{◌≡◌, ◌∷◌, ◌++◌, length, arith, refl, sym, ap, length-append}
use Rattle.std.proofs.lemmas.List.{append-nil}
use Rattle.tv_lines.specs.declared.head.NodeKind.TheVariants as kinds
use Rattle.tv_cases.specs.LinearCases.{CaseSystem}
use Rattle.tv_cert.specs.declared.node.Node.{Node, Node', Row_of-Node, end_of-Node, more_of-Node}
use Rattle.tv_cert.specs.Nodes.{size, sizes}
use Rattle.tv_cert.specs.Shapes.{NodeShape, KidsShape, IsSaid}
use Rattle.tv_cert.specs.Statements.{Statement, rows, here, elsewhere, ends, never_ends, each_of, one_of, after, along, unsaid, Statements, no_statement, statement, parts_of}
use Rattle.tv_shape.specs.Kinds.{kinds_stated, all_kinds}
use Rattle.tv_cert_reader.specs.LineGrammar.{kind_of}

-- the kinds of a statement: that of its node, and then those of its arguments
pub kinds_are : (s : Statement) → IsSaid s → kinds_stated s ≡ kind_of s ∷ all_kinds (parts_of s)
kinds_are (rows lists) h = refl
kinds_are (here l) h = refl
kinds_are (elsewhere l) h = refl
kinds_are ends h = refl
kinds_are never_ends h = refl
kinds_are (each_of ss) h = refl
kinds_are (one_of ss) h = refl
kinds_are (after path s) h = ap (λ ks. kinds.Next ∷ ks) (sym (append-nil (kinds_stated s)))
kinds_are (along path shape s t) h = ap (λ ks. kinds.Fix ∷ kinds_stated s ++ ks) (sym (append-nil (kinds_stated t)))
kinds_are unsaid h = absurd h

mutual
  pub size_is_kinds : (system : CaseSystem) (s : Statement) (node : Node) → NodeShape system s node → size node ≡ length (kinds_stated s)
  size_is_kinds system s (Node' ps m shape kids proofs) h =
      let kids_are = sizes_are system (parts_of s) kids h.1 in
      let all = ap length (kinds_are s h.0.said) in
      omega (arith, kids_are, all)

  sizes_are : {k : _} (system : CaseSystem) (ss : Statements) (kids : Row_of-Node k) → KidsShape system ss kids → sizes kids ≡ length (all_kinds ss)
  sizes_are system no_statement end_of-Node h = refl
  sizes_are system no_statement (more_of-Node a kids) h = absurd h
  sizes_are system (statement s ss) end_of-Node h = absurd h
  sizes_are system (statement s ss) (more_of-Node a kids) h =
      let one = size_is_kinds system s a h.0 in
      let rest = sizes_are system ss kids h.1 in
      let all = length-append (kinds_stated s) (all_kinds ss) in
      omega (arith, one, rest, all)

-- The first line at fault, by how far a text is read.
use Rattle.std.proofs.Common.{◌≡◌, ◌<◌, ◌+◌, ℕ, ℤ, pos, Bool, false, List, [], ◌∷◌, length, Option, None, Ok, refl, sym, ap, ◌∙◌, arith}
use Rattle.std.specs.Prelude.{slice_get}
use Rattle.tv_grammar.specs.Reads.{Fault, faulty, fault}
use Rattle.tv_grammar.specs.Langs.{read_all, branch_read}
use Rattle.tv_grammar.proofs.Results.{clash, ok_is}
use Rattle.tv_lines.specs.Lines.{PlainLine, formed}
use Rattle.tv_lines.specs.declared.head.Head.TheVariants as heads
use Rattle.tv_cases.specs.LinearCases.{CaseSystem}
use Rattle.tv_cert_reader.specs.declared.kind.LineKind.{LineKind}
use Rattle.tv_cert_reader.specs.declared.kind.LineKind.TheVariants.{Syntax, Shape}
use Rattle.tv_cert_reader.specs.Demands.{Outline, outlines_at}
use Rattle.tv_cert_reader.specs.LineGrammar.{line_branch, line, header}
use Rattle.tv_cert_reader.specs.NodeGrammar.{node}
use Rattle.tv_cert_reader.specs.CertificateGrammar.{Sides, said_line, at_line, certificate, NamesNoPiece, no_piece, IsFirstFault}
use Rattle.tv_cert_reader.proofs.ExactNodes.{node_exact}
use Rattle.tv_cert_reader.proofs.Faults.{disproved, first_fault}
use Rattle.tv_cert_reader.proofs.OneFault.{closed_node, one_no_piece, at_taken}

-- no line of the text says that the values lie in a piece that is not there
abbrev pub NamesPieces : CaseSystem → Sides → List PlainLine → Type 0
NamesPieces system sides ls = (rest : List PlainLine) → NamesNoPiece system sides ls rest → ⊥

module _ (system : CaseSystem) (some : 0 < system.locations) (sides : Sides) where
  -- ---- texts that name no piece, or one that is there

  headed_by : (ls us : List PlainLine) → ls ≡ formed heads.Header [] ∷ us → (k : LineKind) (rest : List PlainLine) → header.read ls ≡ fault k rest → ⊥
  headed_by ls us is k rest e = clash {A = Unit {0} × List PlainLine} (tt, us) (faulty k rest) (sym (ap header.read is) ∙ e)

  pub header_fails : (ls rest : List PlainLine) (k : LineKind) → header.read ls ≡ fault k rest → NamesPieces system sides ls
  header_fails ls rest k e other a = headed_by ls _ a.lines k rest e

  said_by : (us vs : List PlainLine) → us ≡ formed heads.Disproved [] ∷ vs → (k : LineKind) (rest : List PlainLine) → (line said_line).read us ≡ fault k rest → ⊥
  said_by us vs is k rest e = clash {A = Bool × List PlainLine} (false, vs) (faulty k rest) (sym (ap (line said_line).read is) ∙ e)

  same_tail : (t u : PlainLine) (us vs ls : List PlainLine) → ls ≡ t ∷ us → ls ≡ u ∷ vs → us ≡ vs
  same_tail t u us vs ls e f = cc

  pub said_fails : (ls us rest : List PlainLine) (k : LineKind) → ls ≡ formed heads.Header [] ∷ us → (line said_line).read us ≡ fault k rest → NamesPieces system sides ls
  said_fails ls us rest k is e other a = said_by us _ (same_tail _ _ us _ ls is a.lines) k rest e

  not_disproved : (us vs : List PlainLine) → formed heads.Proved [] ∷ us ≡ formed heads.Disproved [] ∷ vs → ⊥
  not_disproved us vs e = cc

  pub proved_text : (ls us : List PlainLine) → ls ≡ formed heads.Header [] ∷ formed heads.Proved [] ∷ us → NamesPieces system sides ls
  proved_text ls us is other a = not_disproved us _ (same_tail _ _ (formed heads.Proved [] ∷ us) _ ls is a.lines)

  -- the nodes that name no piece are those that were read
  nodes_read : (ls us other : List PlainLine) → ls ≡ disproved us → (a : NamesNoPiece system sides ls other) → (node false system sides.denied).read us ≡ Ok ((node false system sides.denied).value a.nodes, other)
  nodes_read ls us other is a =
      let tail : us ≡ (node false system sides.denied).text a.nodes other = same_tail _ _ us _ (formed heads.Disproved [] ∷ us) refl (same_tail _ _ (formed heads.Disproved [] ∷ us) _ ls is a.lines) in
      ap (node false system sides.denied).read tail ∙ (node_exact false system some sides.denied).only a.nodes other (closed_node system some sides a.nodes _)

  pub nodes_fail : (ls us rest : List PlainLine) (k : LineKind) → ls ≡ disproved us → (node false system sides.denied).read us ≡ fault k rest → NamesPieces system sides ls
  nodes_fail ls us rest k is e other a = clash {A = List Outline × List PlainLine} ((node false system sides.denied).value a.nodes, other) (faulty k rest) (sym (nodes_read ls us other is a) ∙ e)

  both_read : (ls us rest other : List PlainLine) (os : List Outline) → ls ≡ disproved us → (node false system sides.denied).read us ≡ Ok (os, rest) → (a : NamesNoPiece system sides ls other) → ◌≡◌ {A = List Outline × List PlainLine} ((node false system sides.denied).value a.nodes, other) (os, rest)
  both_read ls us rest other os is e a = ok_is {E = Fault PlainLine LineKind} {A = List Outline × List PlainLine} ((node false system sides.denied).value a.nodes, other) (os, rest) (sym (nodes_read ls us other is a) ∙ e)

  -- where what follows the nodes is no line of values
  pub line_fails : (ls us rest : List PlainLine) (os : List Outline) → ls ≡ disproved us → (node false system sides.denied).read us ≡ Ok (os, rest) → ((place : ℕ) (values : List ℤ) (behind : List PlainLine) → length values ≡ system.variables → rest ≡ formed heads.At (pos place ∷ values) ∷ behind → ⊥) → NamesPieces system sides ls
  line_fails ls us rest os is e none other a =
      let left : other ≡ rest = ap (λ (p : List Outline × List PlainLine). p.1) (both_read ls us rest other os is e a) in
      none a.place a.values a.behind a.many (sym left ∙ a.rest_is)

  at_read : (place : ℕ) (values : List ℤ) (behind : List PlainLine) → length values ≡ system.variables → (line (at_line system.variables)).read (formed heads.At (pos place ∷ values) ∷ behind) ≡ Ok (place, behind)
  at_read place values behind many = ap (λ (o : Option ℕ). branch_read (line_branch o) (formed heads.At (pos place ∷ values) ∷ behind) behind) (at_taken system some sides place values many)

  -- where the line of the values is none
  pub values_fail : (ls us rest r : List PlainLine) (os : List Outline) (k : LineKind) → ls ≡ disproved us → (node false system sides.denied).read us ≡ Ok (os, rest) → (line (at_line system.variables)).read rest ≡ fault k r → NamesPieces system sides ls
  values_fail ls us rest r os k is e i = line_fails ls us rest os is e (λ place values behind many at.
      clash {A = ℕ × List PlainLine} (place, behind) (faulty k r) (sym (at_read place values behind many) ∙ ap (line (at_line system.variables)).read (sym at) ∙ i))

  same_place : (place other : ℕ) (values others : List ℤ) (behind more ls : List PlainLine) → ls ≡ formed heads.At (pos place ∷ values) ∷ behind → ls ≡ formed heads.At (pos other ∷ others) ∷ more → place ≡ other
  same_place place other values others behind more ls e f = cc

  -- where the piece is there
  pub piece_there :
      (ls us rest : List PlainLine) (os : List Outline) (place : ℕ) (values : List ℤ) (behind : List PlainLine)
      → ls ≡ disproved us → (node false system sides.denied).read us ≡ Ok (os, rest) → rest ≡ formed heads.At (pos place ∷ values) ∷ behind
      → (slice_get (outlines_at os system.start) place ≡ None → ⊥) → NamesPieces system sides ls
  piece_there ls us rest os place values behind is e at there other a =
      let both = both_read ls us rest other os is e a in
      let one : a.place ≡ place = same_place a.place place a.values values a.behind behind rest (sym (ap (λ (p : List Outline × List PlainLine). p.1) both) ∙ a.rest_is) at in
      there (sym (ap (λ (ps : List Outline). slice_get (outlines_at ps system.start) place) (ap (λ (p : List Outline × List PlainLine). p.0) both)) ∙ ap (slice_get (outlines_at ((node false system sides.denied).value a.nodes) system.start)) (sym one) ∙ a.none)

  -- ---- the first line at fault

  -- where reading stops, and each piece that is named is there
  pub first_stopped : (ls rest : List PlainLine) (k : LineKind) (number : ℕ) → read_all Syntax (certificate false system sides) ls ≡ fault k rest → NamesPieces system sides ls → number + length rest ≡ length ls + 1 → IsFirstFault system sides ls k number
  first_stopped ls rest k number e there counted = record {
    rest = rest;
    fault = first_fault system some sides ls rest k e;
    first = λ other a. absurd (there other a);
    counted = counted;
  }

  -- the line of the values, where it names no piece
  pub first_no_piece : (ls rest : List PlainLine) (number : ℕ) → NamesNoPiece system sides ls rest → number + length rest ≡ length ls + 1 → IsFirstFault system sides ls Shape number
  first_no_piece ls rest number a counted = record {
    rest = rest;
    fault = no_piece a;
    first = λ other b. omega (arith, ap length (one_no_piece system some sides ls other rest b a));
    counted = counted;
  }

-- Lines are those of a certificate, or have a first one at fault, and not both.
use Rattle.std.proofs.Common.{◌≡◌, ◌<◌, ◌+◌, ℕ, ℤ, pos, false, List, [], ◌∷◌, ◌++◌, length, Option, Some, None, Result, Ok, Err, refl, sym, ap, ◌∙◌, inl, inr, ◌⊎◌, length-append, arith}
use Rattle.std.specs.Prelude.{slice_get}
use Rattle.tv_grammar.specs.Reads.{Fault, faulty, fault}
use Rattle.tv_grammar.specs.Langs.{read_all}
use Rattle.tv_grammar.proofs.ExactLemmas.{apart}
use Rattle.tv_grammar.proofs.WholeTexts.{all_found, all_least}
use Rattle.tv_lines.specs.Lines.{PlainLine, formed}
use Rattle.tv_lines.specs.declared.head.Head.TheVariants as heads
use Rattle.tv_cases.specs.LinearCases.{CaseSystem}
use Rattle.tv_cert_reader.specs.declared.kind.LineKind.{LineKind}
use Rattle.tv_cert_reader.specs.declared.kind.LineKind.TheVariants.{Syntax, Shape}
use Rattle.tv_cert_reader.specs.Demands.{Outline, outlines_at}
use Rattle.tv_cert_reader.specs.NodeGrammar.{node}
use Rattle.tv_cert_reader.specs.CertificateGrammar.{Sides, certificate, NamesNoPiece, IsFault, goes_no_further, behind_the_last, no_piece, IsFirstFault, IsRight, AreRightOrAtFault, RightAreFaultless}
use Rattle.tv_cert_reader.proofs.ExactNodes.{node_exact, certificate_exact}
use Rattle.tv_cert_reader.proofs.Closed.{certificate_ends}
use Rattle.tv_cert_reader.proofs.Faults.{disproved, no_piece_fault}
use Rattle.tv_cert_reader.proofs.OneFault.{ended_stop}
use Rattle.tv_cert_reader.proofs.FirstFaults.{NamesPieces, nodes_fail, line_fails, piece_there, first_stopped, first_no_piece}
use Rattle.std.proofs.lemmas.Bool.{cases_eq}

-- ---- what stands where a piece is named

behind_said : List PlainLine → Option (List PlainLine)
behind_said (formed heads.Header [] ∷ formed heads.Disproved [] ∷ us) = Some us
behind_said us = None

said_is : (ls us : List PlainLine) → behind_said ls ≡ Some us → ls ≡ disproved us
unfolding behind_said
said_is (formed heads.Header [] ∷ formed heads.Disproved [] ∷ vs) us e = cc
said_is ls us e = absurd cc

some_is : {X : Type 0} (x y : X) → ◌≡◌ {A = Option X} (Some x) (Some y) → x ≡ y
some_is x y e = cc

not_none : {X : Type 0} (x : X) → ◌≡◌ {A = Option X} (Some x) None → ⊥
not_none x e = cc

-- a place and values, and what follows them
record Values : Type 0 where
  place : ℕ
  values : List ℤ
  behind : List PlainLine

values_of : List PlainLine → Option Values
values_of (formed heads.At (pos place ∷ values) ∷ behind) = Some (record { place = place; values = values; behind = behind })
values_of us = None

at_is : (us : List PlainLine) (v : Values) → values_of us ≡ Some v → us ≡ formed heads.At (pos v.place ∷ v.values) ∷ v.behind
unfolding values_of
at_is (formed heads.At (pos place ∷ values) ∷ behind) v e = ap (λ (w : Values). formed heads.At (pos w.place ∷ w.values) ∷ w.behind) (some_is (record { place = place; values = values; behind = behind }) v e)
at_is us v e = absurd cc

at_has : (us : List PlainLine) (place : ℕ) (values : List ℤ) (behind : List PlainLine) → us ≡ formed heads.At (pos place ∷ values) ∷ behind → values_of us ≡ Some (record { place = place; values = values; behind = behind })
unfolding values_of
at_has us place values behind e = ap values_of e

module _ (system : CaseSystem) (some : 0 < system.locations) (sides : Sides) where
  -- ---- each piece that is named is there, or one is not

  Named : List PlainLine → Type 0
  Named ls = NamesPieces system sides ls ⊎ ((rest : List PlainLine) × NamesNoPiece system sides ls rest)

  -- told what stands at the place that is named
  by_piece : (ls us rest : List PlainLine) (os : List Outline) (place : ℕ) (values : List ℤ) (behind : List PlainLine) → ls ≡ disproved us → (node false system sides.denied).read us ≡ Ok (os, rest) → rest ≡ formed heads.At (pos place ∷ values) ∷ behind → length values ≡ system.variables → (o : Option Outline) → slice_get (outlines_at os system.start) place ≡ o → Named ls
  unfolding Named
  by_piece ls us rest os place values behind is e at many None none = inr (rest, no_piece_fault system some sides ls us rest os place values behind is e at many none)
  by_piece ls us rest os place values behind is e at many (Some o) there = inl (piece_there system some sides ls us rest os place values behind is e at (λ none. not_none o (sym there ∙ none)))

  -- told what follows the nodes
  by_values : (ls us rest : List PlainLine) (os : List Outline) → ls ≡ disproved us → (node false system sides.denied).read us ≡ Ok (os, rest) → (v : Option Values) → values_of rest ≡ v → Named ls
  unfolding Named
  by_values ls us rest os is e None none = inl (line_fails system some sides ls us rest os is e (λ place values behind many at. not_none (record { place = place; values = values; behind = behind }) (sym (at_has rest place values behind at) ∙ none)))
  by_values ls us rest os is e (Some v) at = elim (cases_eq (length v.values) system.variables) [
    | inl many ↦ by_piece ls us rest os v.place v.values v.behind is e (at_is rest v at) many (slice_get (outlines_at os system.start) v.place) refl
    | inr other ↦ inl (line_fails system some sides ls us rest os is e (λ place values behind many here.
        other (ap (λ (w : Values). length w.values) (some_is v (record { place = place; values = values; behind = behind }) (sym at ∙ at_has rest place values behind here)) ∙ many)))
  ]

  -- told what is read of the nodes
  by_nodes : (ls us : List PlainLine) → ls ≡ disproved us → (out : Result (List Outline × List PlainLine) (Fault PlainLine LineKind)) → (node false system sides.denied).read us ≡ out → Named ls
  unfolding Named
  by_nodes ls us is (Ok (os, rest)) e = by_values ls us rest os is e (values_of rest) refl
  by_nodes ls us is (Err (faulty k rest)) e = inl (nodes_fail system some sides ls us rest k is e)

  by_said : (ls : List PlainLine) (o : Option (List PlainLine)) → behind_said ls ≡ o → Named ls
  unfolding Named behind_said
  by_said ls None none = inl (λ rest a. not_none ((node false system sides.denied).text a.nodes rest) (sym (ap behind_said a.lines) ∙ none))
  by_said ls (Some us) e = by_nodes ls us (said_is ls us e) ((node false system sides.denied).read us) refl

  -- ---- right, or at fault

  AtFault : List PlainLine → Type 0
  AtFault ls = (k : LineKind) × ((number : ℕ) × IsFirstFault system sides ls k number)

  -- a fault lies in the lines
  number_is : (ls before rest : List PlainLine) → ls ≡ before ++ rest → length before + 1 + length rest ≡ length ls + 1
  number_is ls before rest parts = omega (arith, ap length parts, length-append before rest)

  stopped : (ls rest : List PlainLine) (k : LineKind) → read_all Syntax (certificate false system sides) ls ≡ fault k rest → NamesPieces system sides ls → AtFault ls
  unfolding AtFault
  stopped ls rest k e there =
      let stop = all_least Syntax (certificate false system sides) (certificate_exact false system some sides) (certificate_ends false system sides) k ls rest e in
      (k, (length stop.before + 1, first_stopped system some sides ls rest k (length stop.before + 1) e there (number_is ls stop.before rest stop.parts)))

  names_none : (ls rest : List PlainLine) → NamesNoPiece system sides ls rest → AtFault ls
  unfolding AtFault
  names_none ls rest a =
      let nodes = (node false system sides.denied).text a.nodes [] in
      let before : List PlainLine = disproved nodes in
      let parts : ls ≡ before ++ rest = a.lines ∙ ap disproved (apart (node false system sides.denied) (node_exact false system some sides.denied) a.nodes rest) in
      (Shape, (length before + 1, first_no_piece system some sides ls rest (length before + 1) a (number_is ls before rest parts)))

  by_reading : (ls : List PlainLine) → NamesPieces system sides ls → (out : Result (Unit {0} × List PlainLine) (Fault PlainLine LineKind)) → read_all Syntax (certificate false system sides) ls ≡ out → IsRight system sides ls ⊎ AtFault ls
  by_reading ls there (Ok (x, rest)) e = inl (record { text = all_found Syntax (certificate false system sides) (certificate_exact false system some sides) ls tt rest e; there = there })
  by_reading ls there (Err (faulty k rest)) e = inr (stopped ls rest k e there)

  pub right_or_at_fault : AreRightOrAtFault system sides
  unfolding Named AtFault
  right_or_at_fault ls = elim (by_said ls (behind_said ls) refl) [
    | inl there ↦ by_reading ls there (read_all Syntax (certificate false system sides) ls) refl
    | inr x ↦ inr (names_none ls x.0 x.1)
  ]

  -- ---- not both

  faultless : (ls rest : List PlainLine) (k : LineKind) → IsRight system sides ls → IsFault system sides ls rest k → ⊥
  faultless ls rest k right (goes_no_further a) = a.stops.none right.text.it rest refl (sym right.text.text ∙ a.stops.parts)
  faultless ls rest k right (behind_the_last t at e) = (ended_stop system some sides ls rest t at e).none right.text.it rest refl (sym right.text.text ∙ (ended_stop system some sides ls rest t at e).parts)
  faultless ls rest k right (no_piece p) = right.there rest p

  pub right_are_faultless : RightAreFaultless system sides
  right_are_faultless ls k number right x = faultless ls x.rest k right x.fault

-- A text of lines has one first fault at most.
use Rattle.std.proofs.Common.{◌≡◌, ◌<◌, ◌≤◌, ℕ, ℤ, pos, false, List, [], ◌∷◌, ◌++◌, length, Option, Some, None, refl, sym, ap, subst, ◌∙◌, length-append, arith}
use Rattle.std.proofs.lemmas.List.{append-nil, append_assoc, append_cancel_right}
use Rattle.tv_grammar.specs.Reads.{Fault, next}
use Rattle.tv_grammar.specs.Langs.{Lang, OfBranch, branch_text}
use Rattle.tv_grammar.specs.Exact.{Exact, StopsAt, Ended}
use Rattle.tv_grammar.proofs.Results.{ok_is}
use Rattle.tv_grammar.proofs.ExactLemmas.{apart}
use Rattle.tv_lines.specs.Lines.{PlainLine, formed, formless, wide}
use Rattle.tv_lines.specs.declared.head.Head.{Head}
use Rattle.tv_lines.specs.declared.head.Head.TheVariants as heads
use Rattle.tv_cases.specs.LinearCases.{CaseSystem}
use Rattle.tv_cert_reader.specs.declared.kind.LineKind.{LineKind}
use Rattle.tv_cert_reader.specs.declared.kind.LineKind.TheVariants.{Syntax, Wide, Deep, Shape}
use Rattle.tv_cert_reader.specs.LineGrammar.{line_branch}
use Rattle.tv_cert_reader.specs.NodeGrammar.{node}
use Rattle.tv_cert_reader.specs.CertificateGrammar.{Sides, at_line, certificate, CanBe, IsOneTooMany, Stops, NamesNoPiece, IsFault, goes_no_further, behind_the_last, no_piece, HaveOneFault}
use Rattle.tv_cert_reader.proofs.ExactLines.{some_line}
use Rattle.tv_cert_reader.proofs.ExactNodes.{node_exact, certificate_exact}
use Rattle.tv_cert_reader.proofs.Closed.{node_closed, certificate_closed}
use Rattle.tv_cert_reader.proofs.Faults.{disproved}
use Rattle.tv_cert_reader.proofs.Places.{begins_before, one_place}
use Rattle.tv_cases.proofs.Updated.{same_number}

nothing : {T : Type 0} (us : List T) (t : T) → us ≡ [] → next us ≡ Some t → ⊥
nothing [] t e i = absurd cc
nothing (u ∷ us) t e i = absurd cc

-- what a closed text stands in front of is what is left
module _ {T K X : Type 0} (l : Lang T K X) (h : Exact l) (closed : (d : l.Of) (t : Option T) → l.goes_on d t ≡ false) where
  pub read_one : (d e : l.Of) (r s : List T) → l.text d r ≡ l.text e s → ◌≡◌ {A = X × List T} (l.value d, r) (l.value e, s)
  read_one d e r s is = ok_is {E = Fault T K} {A = X × List T} (l.value d, r) (l.value e, s) (sym (h.only d r (closed d (next r))) ∙ ap l.read is ∙ h.only e s (closed e (next s)))

  pub left_one : (d e : l.Of) (r s : List T) → l.text d r ≡ l.text e s → r ≡ s
  left_one d e r s is = ap (λ (p : X × List T). p.1) (read_one d e r s is)

  -- no text begins with a whole one and a token after it
  ended_stops : (ts r : List T) (t : T) → next r ≡ Some t → (k : K) → Ended l k k ts r → StopsAt l ts r
  ended_stops ts r t at k e = record {
    before = l.text e.it [];
    parts = e.text ∙ apart l h e.it r;
    none = λ d other same text.
        let left : other ≡ [] = left_one e.it d other [] (apart l h e.it other ∙ sym text) in
        nothing other t left (same ∙ at);
    some = (e.it, ([], sym (append-nil (l.text e.it []))));
  }

line_text : {X : Type 0} (o : Option X) (d : OfBranch (line_branch o)) (r : List PlainLine) → branch_text (line_branch o) d r ≡ r
line_text None d r = absurd d
line_text (Some x) d r = refl

module _ (system : CaseSystem) (some : 0 < system.locations) (sides : Sides) where
  pub closed_node : (d : (node false system sides.denied).Of) (t : Option PlainLine) → (node false system sides.denied).goes_on d t ≡ false
  closed_node d t = (node_closed false system sides.denied).goes d t

  closed_whole : (d : (certificate false system sides).Of) (t : Option PlainLine) → (certificate false system sides).goes_on d t ≡ false
  closed_whole d t = (certificate_closed false system sides).goes d t

  pub one_no_piece : (ls r s : List PlainLine) → NamesNoPiece system sides ls r → NamesNoPiece system sides ls s → r ≡ s
  one_no_piece ls r s a b =
      let is : disproved ((node false system sides.denied).text a.nodes r) ≡ disproved ((node false system sides.denied).text b.nodes s) = sym a.lines ∙ b.lines in
      left_one (node false system sides.denied) (node_exact false system some sides.denied) closed_node a.nodes b.nodes r s cc

  -- a certificate begins with the lines up to the values, whichever place they are said to have
  pub at_taken : (place : ℕ) (values : List ℤ) → length values ≡ system.variables → at_line system.variables heads.At (pos place ∷ values) ≡ Some place
  at_taken place values many = rw (many, same_number system.variables) refl

  whole : (nodes : (node false system sides.denied).Of) (place : ℕ) (values : List ℤ) → OfBranch (line_branch (at_line system.variables heads.At (pos place ∷ values))) → (certificate false system sides).Of
  whole nodes place values taken = ((formed heads.Header [], tt), ((formed heads.Disproved [], tt), ((nodes, ((formed heads.At (pos place ∷ values), taken), tt)), (formed heads.End [], tt))))

  piece_behind : (ls r s : List PlainLine) → NamesNoPiece system sides ls r → StopsAt (certificate false system sides) ls s → length s < length r
  unfolding whole
  piece_behind ls r s a stop =
      let n = node false system sides.denied in
      let append = (node_exact false system some sides.denied).append in
      let at : PlainLine = formed heads.At (pos a.place ∷ a.values) in
      let front : List PlainLine = disproved (n.text a.nodes (at ∷ [])) in
      let taken = some_line (at_line system.variables heads.At (pos a.place ∷ a.values)) a.place (at_taken a.place a.values a.many) in
      let parts : ls ≡ front ++ a.behind = a.lines ∙ ap disproved (ap (n.text a.nodes) a.rest_is ∙ append a.nodes (at ∷ []) a.behind) in
      let text : (certificate false system sides).text (whole a.nodes a.place a.values taken) [] ≡ front ++ formed heads.End [] ∷ [] =
      ap disproved (ap (λ (us : List PlainLine). n.text a.nodes (at ∷ us)) (line_text (at_line system.variables heads.At (pos a.place ∷ a.values)) taken (formed heads.End [] ∷ [])) ∙ append a.nodes (at ∷ []) (formed heads.End [] ∷ [])) in
      let x = begins_before (certificate false system sides) ls s stop front a.behind (formed heads.End [] ∷ []) parts (whole a.nodes a.place a.values taken) text in
      omega (arith, ap length a.rest_is, ap length x.left, length-append x.between s)

  no_later : (ls r s : List PlainLine) → NamesNoPiece system sides ls r → StopsAt (certificate false system sides) ls s → length r ≤ length s → ⊥
  no_later ls r s a stop first = omega (arith, piece_behind ls r s a stop, first)

  unfinished_end : (ls r : List PlainLine) (t : PlainLine) (k : LineKind) → next r ≡ Some t → (x : Stops system sides ls r k) → Ended (certificate false system sides) Syntax Syntax ls r → ⊥
  unfinished_end ls r t k at x e =
      let ended = ended_stops (certificate false system sides) (certificate_exact false system some sides) closed_whole ls r t at Syntax e in
      x.unfinished e.it (append_cancel_right ((certificate false system sides).text e.it []) x.stops.before r (sym (apart (certificate false system sides) (certificate_exact false system some sides) e.it r) ∙ sym e.text ∙ x.stops.parts))

  -- ---- one kind

  not_both : (head : Head) (zs : List ℤ) (r a b : List PlainLine) → next r ≡ Some (formed head zs) → a ≡ b → IsOneTooMany system sides Deep a r → IsOneTooMany system sides Shape b r → ⊥
  not_both head zs r a b at same deep shape =
      let x = deep (formed head zs) at in
      shape.none x.it (formed head zs ∷ x.more) (sym at) (x.whole ∙ append_assoc a (formed head zs ∷ []) x.more ∙ ap (λ (us : List PlainLine). us ++ formed head zs ∷ x.more) same)

  kinds_by : (o : Option PlainLine) (r a b : List PlainLine) → next r ≡ o → a ≡ b → (j k : LineKind) → CanBe j o → CanBe k o → IsOneTooMany system sides j a r → IsOneTooMany system sides k b r → j ≡ k
  kinds_by None r a b at same j k c d e f = c ∙ sym d
  kinds_by (Some formless) r a b at same j k c d e f = c ∙ sym d
  kinds_by (Some wide) r a b at same j k c d e f = c ∙ sym d
  kinds_by (Some (formed head zs)) r a b at same Syntax k c d e f = absurd c
  kinds_by (Some (formed head zs)) r a b at same Wide k c d e f = absurd c
  kinds_by (Some (formed head zs)) r a b at same Deep Syntax c d e f = absurd d
  kinds_by (Some (formed head zs)) r a b at same Deep Wide c d e f = absurd d
  kinds_by (Some (formed head zs)) r a b at same Deep Deep c d e f = refl
  kinds_by (Some (formed head zs)) r a b at same Deep Shape c d e f = absurd (not_both head zs r a b at same e f)
  kinds_by (Some (formed head zs)) r a b at same Shape Syntax c d e f = absurd d
  kinds_by (Some (formed head zs)) r a b at same Shape Wide c d e f = absurd d
  kinds_by (Some (formed head zs)) r a b at same Shape Deep c d e f = absurd (not_both head zs r b a at (sym same) f e)
  kinds_by (Some (formed head zs)) r a b at same Shape Shape c d e f = refl

  -- ---- one place and kind

  abbrev Same : LineKind → LineKind → List PlainLine → List PlainLine → Type 0
  Same j k r s = (j ≡ k) × (r ≡ s)

  two_stops : (ls r s : List PlainLine) (j k : LineKind) → Stops system sides ls r j → Stops system sides ls s k → Same j k r s
  two_stops ls r s j k a b =
      let one = one_place (certificate false system sides) ls r s a.stops b.stops in
      let c : CanBe k (next r) = subst (λ (us : List PlainLine). CanBe k (next us)) (sym one.1) b.can_be in
      let d : IsOneTooMany system sides k b.stops.before r = subst (λ (us : List PlainLine). IsOneTooMany system sides k b.stops.before us) (sym one.1) b.deep in
      (kinds_by (next r) r a.stops.before b.stops.before refl one.0 j k a.can_be c a.deep d, one.1)

  pub ended_stop : (ls r : List PlainLine) (t : PlainLine) → next r ≡ Some t → Ended (certificate false system sides) Syntax Syntax ls r → StopsAt (certificate false system sides) ls r
  ended_stop ls r t at e = ended_stops (certificate false system sides) (certificate_exact false system some sides) closed_whole ls r t at Syntax e

  stop_and_end : (ls r s : List PlainLine) (t : PlainLine) (k : LineKind) → Stops system sides ls r k → next s ≡ Some t → Ended (certificate false system sides) Syntax Syntax ls s → ⊥
  stop_and_end ls r s t k x at e =
      let one = one_place (certificate false system sides) ls r s x.stops (ended_stop ls s t at e) in
      unfinished_end ls s t k at (subst (λ (us : List PlainLine). Stops system sides ls us k) one.1 x) e

  abbrev First : (ls r : List PlainLine) → Type 0
  First ls r = (other : List PlainLine) → NamesNoPiece system sides ls other → length other ≤ length r

  same_fault : (ls r s : List PlainLine) (j k : LineKind) → IsFault system sides ls r j → IsFault system sides ls s k → First ls r → First ls s → Same j k r s
  same_fault ls r s j k (goes_no_further a) (goes_no_further b) f g = two_stops ls r s j k a b
  same_fault ls r s j k (goes_no_further a) (behind_the_last t at e) f g = absurd (stop_and_end ls r s t j a at e)
  same_fault ls r s j k (goes_no_further a) (no_piece p) f g = absurd (no_later ls s r p a.stops (f s p))
  same_fault ls r s j k (behind_the_last t at e) (goes_no_further b) f g = absurd (stop_and_end ls s r t k b at e)
  same_fault ls r s j k (behind_the_last t at e) (behind_the_last u there i) f g = (refl, (one_place (certificate false system sides) ls r s (ended_stop ls r t at e) (ended_stop ls s u there i)).1)
  same_fault ls r s j k (behind_the_last t at e) (no_piece p) f g = absurd (no_later ls s r p (ended_stop ls r t at e) (f s p))
  same_fault ls r s j k (no_piece p) (goes_no_further b) f g = absurd (no_later ls r s p b.stops (g r p))
  same_fault ls r s j k (no_piece p) (behind_the_last u there i) f g = absurd (no_later ls r s p (ended_stop ls s u there i) (g r p))
  same_fault ls r s j k (no_piece p) (no_piece q) f g = (refl, one_no_piece ls r s p q)

  pub one_fault : HaveOneFault system sides
  one_fault ls j k m n x y =
      let same = same_fault ls x.rest y.rest j k x.fault y.fault x.first y.first in
      (same.0, omega (arith, x.counted, y.counted, ap length same.1))

-- What is read of a whole text.
use Rattle.std.proofs.Common.{◌≡◌, ℕ, suc, ◌<◌, ◌≤◌, pos, true, false, Bool, List, [], ◌∷◌, ◌++◌, length, cond, Ok, Err, Option, None, Some, refl, sym, ap, ◌∙◌, subst, arith}
use Rattle.std.specs.Prelude.{slice_get, ◌==◌, IsSome, IfOk, MatchResult, Result}
use Rattle.std.proofs.lemmas.List.{length-map}
use Rattle.tv_grammar.specs.Langs.{then}
use Rattle.tv_grammar.proofs.WholeTexts.{all_found}
use Rattle.tv_lines.specs.Lines.{PlainLine, formed, line_of, line_texts, lines_of}
use Rattle.tv_lines.specs.Pieces.{pieces, onto}
use Rattle.tv_lines.specs.declared.head.Head.TheVariants as heads
use Rattle.tv_formula.specs.Formulas.{property_of}
use Rattle.tv_formula.specs.Properties.{Property}
use Rattle.tv_cases.specs.Comparisons.{comparison_lists}
use Rattle.tv_cases.specs.LinearCases.{CaseSystem}
use Rattle.tv_cert.specs.declared.claim.Claim.{Claim}
use Rattle.tv_cert.specs.declared.node.Node.{Node}
use Rattle.tv_cert.specs.declared.node.Verdict.{Verdict}
use Rattle.tv_cert.specs.declared.node.Verdict.TheVariants.{Proved, Disproved}
use Rattle.tv_cert.specs.Claims.{about_with, claim_variables, shown}
use Rattle.tv_cert.specs.Nodes.{pieces_of}
use Rattle.tv_cert.specs.Obligations.{About}
use Rattle.tv_cert.specs.Pieces.{pieces_at}
use Rattle.tv_cert.specs.Statements.{stated}
use Rattle.tv_shape.specs.Certificates.{IsOf}
use Rattle.tv_shape.specs.Fitting.{Fits}
use Rattle.tv_shape.specs.declared.certificate.Certificate.{Certificate}
use Rattle.tv_cert_reader.specs.CertificateLines.{node_lines, certificate_lines}
use Rattle.tv_cert_reader.specs.declared.kind.LineKind.{LineKind}
use Rattle.tv_cert_reader.specs.declared.kind.LineKind.TheVariants as kinds
use Rattle.tv_cert_reader.specs.Demands.{outlines}
use Rattle.tv_cert_reader.specs.LineGrammar.{line, header}
use Rattle.tv_cert_reader.specs.CertificateGrammar.{Sides, said_line, said, certificate, IsRight, IsFirstFault}
use Rattle.tv_cert_reader.proofs.CompleteDemands.{outline_got}
use Rattle.tv_cert_reader.proofs.CompleteNodes.{node_read}
use Rattle.tv_cert_reader.proofs.CompleteCertificates as complete
use Rattle.tv_cert_reader.proofs.CompleteCertificates.{header_read, certificate_read_proved, certificate_read_disproved}
use Rattle.tv_cert_reader.proofs.ExactNodes.{certificate_exact}
use Rattle.tv_cert_reader.proofs.FirstFaults.{header_fails, said_fails, proved_text, piece_there, first_stopped}
use Rattle.tv_cert_reader.proofs.RightOrFaulty.{right_are_faultless}
use Rattle.tv_cert_reader.specs.declared.cursor.Cursor.{Cursor}
use Rattle.tv_cert_reader.specs.declared.failure.Failure.{Failure}
use Rattle.tv_cert_reader.specs.declared.failure.Failure.TheVariants.{Fault, Memory}
use Rattle.tv_cert_reader.specs.Reading.{Takes, FailsBy}
use Rattle.tv_cert_reader.specs.Texts.{IsCertificateText, IsOfNone, IsAtFault, IsRefusedText, sides_of}
use Rattle.tv_cert_reader.specs.Wholes.{ReadsAll}
use Rattle.tv_cert_reader.proofs.ReadingLemmas.{first_fails, second_fails}
use Rattle.tv_cert_reader.proofs.VerdictLemmas.{ended, got_none}

-- ---- there are no more lines than bytes

onto_longer : (b : ℕ) (ps : List (List ℕ)) → length (line_texts (onto b ps)) ≤ suc (length (line_texts ps))
onto_longer b [] = omega arith
onto_longer b ([] ∷ []) = omega arith
onto_longer b ((c ∷ p) ∷ []) = omega arith
onto_longer b (p ∷ q ∷ ps) = omega arith

cut_longer : (ps : List (List ℕ)) → length (line_texts ([] ∷ ps)) ≤ suc (length (line_texts ps))
cut_longer [] = omega arith
cut_longer (p ∷ ps) = omega arith

pieces_few : (text : List ℕ) → length (line_texts (pieces 10 text)) ≤ length text
unfolding pieces
pieces_few [] = omega arith
pieces_few (b ∷ bs) = either (pieces_few bs) (b == 10) where
  either : length (line_texts (pieces 10 bs)) ≤ length bs → (t : Bool) → length (line_texts (cond t ([] ∷ pieces 10 bs) (onto b (pieces 10 bs)))) ≤ suc (length bs)
  either h true = let c = cut_longer (pieces 10 bs) in omega (arith, h, c)
  either h false = let c = onto_longer b (pieces 10 bs) in omega (arith, h, c)

pub lines_few : (text : List ℕ) → length (lines_of text) ≤ length text
lines_few text = let a = length-map (line_texts (pieces 10 text)) line_of in let b = pieces_few text in omega (arith, a, b)

-- ---- the first two lines

module _ (system : CaseSystem) (some : 0 < system.locations) (sides : Sides) (old : Cursor) where
  pub opening_fails : (f : Failure) → FailsBy header old f → ReadsAll system sides old (Err f)
  opening_fails Memory h = tt
  opening_fails (Fault k number) h = λ taken.
      let g = first_fails header (λ _. then (line said_line) (said false system sides)) old (Fault k number) h in
      first_stopped system some sides old.lines g.rest k number (ended (certificate false system sides) old.lines g.rest k g.read) (header_fails system some sides old.lines h.rest k h.read)
      (let c = g.counted in omega (arith, c, taken))

  pub saying_fails : (mid : Cursor) (f : Failure) → Takes (formed heads.Header [] ∷ []) old mid → FailsBy (line said_line) mid f → ReadsAll system sides old (Err f)
  saying_fails mid Memory took h = tt
  saying_fails mid (Fault k number) took h = λ taken.
      let first : header.read old.lines ≡ Ok (tt, mid.lines) = ap header.read took.lines ∙ header_read mid.lines in
      let g = second_fails header (λ _. then (line said_line) (said false system sides)) tt old mid (Fault k number) first took.last (first_fails (line said_line) (said false system sides) mid (Fault k number) h) in
      first_stopped system some sides old.lines g.rest k number (ended (certificate false system sides) old.lines g.rest k g.read) (said_fails system some sides old.lines mid.lines h.rest k took.lines h.read)
      (let c = g.counted in omega (arith, c, taken))

-- ---- a certificate that fits has no line at fault

module _ (about : About) (some : 0 < about.system.locations) (fp fd : Property) (root : Node) where
  abbrev both_sides : Sides
  both_sides = complete.sides_of about fp fd

  proved_right : (tree : _) → Fits about fp root (Proved tree) → IsRight about.system both_sides (certificate_lines (stated about.tests fp) root (Proved tree))
  proved_right tree fits = record {
    text = all_found kinds.Syntax (certificate false about.system both_sides) (certificate_exact false about.system some both_sides) (certificate_lines (stated about.tests fp) root (Proved tree)) tt [] (certificate_read_proved about fp fd root tree fits);
    there = proved_text about.system some both_sides (certificate_lines (stated about.tests fp) root (Proved tree)) _ refl;
  }

  not_none : {X : Type 0} (o : Option X) → IsSome o → o ≡ None → ⊥
  not_none None h e = absurd cc
  not_none (Some x) h e = absurd cc

  disproved_right : (k : ℕ) (values : _) → Fits about fd root (Disproved k values) → IsRight about.system both_sides (certificate_lines (stated about.tests fd) root (Disproved k values))
  disproved_right k values fits =
      let behind = formed heads.At (pos k ∷ values.items) ∷ formed heads.End [] ∷ [] in
      record {
        text = all_found kinds.Syntax (certificate false about.system both_sides) (certificate_exact false about.system some both_sides) (certificate_lines (stated about.tests fd) root (Disproved k values)) tt [] (certificate_read_disproved about fp fd root k values fits);
        there = piece_there about.system some both_sides (certificate_lines (stated about.tests fd) root (Disproved k values)) (node_lines (stated about.tests fd) root ++ behind) behind (outlines (pieces_of root)) k values.items (formed heads.End [] ∷ []) refl
            (node_read false about.system (stated about.tests fd) root behind fits.nodes.shape) refl
            (λ none. not_none (slice_get (pieces_at (pieces_of root) about.system.start) k) fits.said.shape.1 (got_none (slice_get (pieces_at (pieces_of root) about.system.start) k) (sym (outline_got (pieces_of root) about.system.start k) ∙ none)));
      }

module _ (system : CaseSystem) (some : 0 < system.locations) (claim : Claim) (variables : claim_variables claim ≡ system.variables) where
  sides_are : sides_of claim ≡ complete.sides_of (about_with system) (property_of claim.proved) (property_of claim.denied)
  sides_are = ap (λ n. record { proved = stated (comparison_lists n) (property_of claim.proved); denied = stated (comparison_lists n) (property_of claim.denied) }) variables

  -- the lines of a certificate of what the verdict shows
  abbrev lines_shown : Verdict → Node → List PlainLine
  lines_shown verdict root = certificate_lines (stated (about_with system).tests (shown claim verdict)) root verdict

  fitting_right : (root : Node) (verdict : Verdict) → Fits (about_with system) (shown claim verdict) root verdict → IsRight system (sides_of claim) (lines_shown verdict root)
  fitting_right root (Proved tree) fits = subst (λ s. IsRight system s (lines_shown (Proved tree) root)) (sym sides_are) (proved_right (about_with system) some (property_of claim.proved) (property_of claim.denied) root tree fits)
  fitting_right root (Disproved k values) fits = subst (λ s. IsRight system s (lines_shown (Disproved k values) root)) (sym sides_are) (disproved_right (about_with system) some (property_of claim.proved) (property_of claim.denied) root k values fits)

  of_none : (text : List ℕ) (k : LineKind) (number : ℕ) → IsFirstFault system (sides_of claim) (lines_of text) k number → IsOfNone system claim text
  of_none text k number first c is =
      right_are_faultless system some (sides_of claim) (lines_of text) k number (subst (IsRight system (sides_of claim)) (sym is.lines) (fitting_right c.root c.verdict is.is.fits)) first

  at_fault : (text : List ℕ) (k : LineKind) (number : ℕ) → IsFirstFault system (sides_of claim) (lines_of text) k number → IsAtFault system claim text k number
  at_fault text k number first = record { none = of_none text k number first; first = first }

  pub refused : (text : List ℕ) (f : Failure) (c : Cursor) → c.lines ≡ lines_of text → c.taken ≡ 0 → ReadsAll system (sides_of claim) c (Err f) → IsRefusedText system claim text f
  refused text Memory c is none h = tt
  refused text (Fault kind number) c is none h = at_fault text kind number (subst (λ ls. IsFirstFault system (sides_of claim) ls kind number) is (h none))

  pub found : (text : List ℕ) (root : Node) (verdict : Verdict) (result : Result Certificate Failure) → lines_of text ≡ lines_shown verdict root → MatchResult result (λ c. IsOf (about_with system) (shown claim verdict) c × (c.root ≡ root) × (c.verdict ≡ verdict)) (λ f. f ≡ Memory) → IfOk result (λ c. IsCertificateText system claim text c)
  found text root verdict (Ok c) lines h =
      let v = sym h.2 in
      let r = sym h.1 in
      record {
        lines = lines ∙ (λ i. lines_shown (v i) (r i));
        is = subst (λ w. IsOf (about_with system) (shown claim w) c) v h.0;
      }
  found text root verdict (Err f) lines h = tt

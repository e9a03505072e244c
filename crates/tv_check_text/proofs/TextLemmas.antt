-- The certificate of a text that was checked while it was read.
use Rattle.std.proofs.Common.{◌≡◌, ℕ, ◌<◌, ◌^◌, ℤ, Bool, List, [], ◌∷◌, ◌++◌, length, None, Some, refl, sym, ap, ◌∙◌, subst, arith}
use Rattle.std.specs.Global.{Global}
use Rattle.tv_lines.specs.Lines.{PlainLine, formed, lines_of}
use Rattle.tv_lines.specs.declared.head.Head.TheVariants as heads
use Rattle.tv_formula.specs.Properties.{Property}
use Rattle.tv_cases.specs.LinearCases.{CaseSystem}
use Rattle.tv_cert.specs.declared.claim.Claim.{Claim}
use Rattle.tv_cert.specs.declared.node.Node.{Node}
use Rattle.tv_cert.specs.declared.node.Verdict.{Verdict}
use Rattle.tv_cert.specs.Claims.{about_with, claim_variables, shown}
use Rattle.tv_cert.specs.Nodes.{pieces_of, root_entry, obligations, entries, node_entries}
use Rattle.tv_cert.specs.AboutSystem.{about_of}
use Rattle.tv_cert.specs.Statements.{Statement, stated}
use Rattle.tv_cert.proofs.StatedLemmas.{root_same}
use Rattle.tv_shape.specs.declared.certificate.Certificate.{Certificate}
use Rattle.tv_shape.specs.Fitting.{Fits}
use Rattle.tv_shape.specs.Kinds.{kinds_stated}
use Rattle.tv_cert_reader.proofs.KindLemmas.{size_is_kinds}
use Rattle.tv_cert_reader.specs.declared.failure.Failure.{Failure}
use Rattle.tv_cert_reader.specs.declared.failure.Failure.TheVariants as failures
use Rattle.tv_cert_reader.specs.Texts.{IsCertificateText, IsRefusedText, sides_of}
use Rattle.tv_cert_reader.specs.Wholes.{IsBehindSaid, begun, said_head, side, says}
use Rattle.tv_cert_reader.proofs.FitLemmas.{shows, read_fits, read_lines}
use Rattle.tv_cert_reader.proofs.FitLines.{AreFit, behind_two, text_fit}
use Rattle.tv_cert.specs.declared.failing.Failing.{Failing}
use Rattle.tv_cert_reader.proofs.WalkLemmas.{vector}
use Rattle.tv_check_text.specs.declared.checker.Checker.{Checker}
use Rattle.tv_check_text.specs.declared.text.Accepted.{Accepted}
use Rattle.tv_check_text.specs.Verdicts.{IsCheckedRest, all_entries}
use Rattle.tv_check_text.specs.Settling.{Settles}
use Rattle.tv_check_text.specs.Texts.{owed, IsAcceptedText, IsUnaccepted, FailsFirst, failing_of}

-- what is owed, by what the root is to show and by its formula
pub owed_is : (system : CaseSystem) (f : Property) (s : Statement) (root : Node) (verdict : Verdict) → s ≡ stated (about_with system).tests f → all_entries system s root verdict ≡ obligations (about_with system) f root verdict
owed_is system f s root verdict same =
    (λ i. node_entries 0 system (same i) root ++ root_entry (about_of system) (pieces_of root) verdict ∷ [])
    ∙ (λ i. entries 0 (about_with system) f root ++ root_same system (pieces_of root) verdict i ∷ [])

module _ (system : CaseSystem) (claim : Claim) (variables : claim_variables claim ≡ system.variables) (text : List ℕ) (heap : Global) (proved : Bool) (values : List ℤ) (rest : List PlainLine) (new : Checker) (h : IsCheckedRest system (side (sides_of claim) proved) proved values rest new) (lines : lines_of text ≡ begun proved rest) where
  abbrev property : Property
  property = shown claim h.verdict

  behind : IsBehindSaid system (side (sides_of claim) (says h.verdict)) (says h.verdict) rest h.root h.verdict
  behind = subst (λ b. IsBehindSaid system (side (sides_of claim) b) b rest h.root h.verdict) (sym h.behind.said) h.behind

  fits : Fits (about_with system) property h.root h.verdict
  fits = read_fits system claim variables rest h.root h.verdict behind (behind_two (formed heads.Header []) (said_head proved) rest (subst AreFit lines (text_fit text)))

  few_kinds : length (kinds_stated (stated (about_with system).tests property)) < 2 ^ 63
  few_kinds = (let e = size_is_kinds system (stated (about_with system).tests property) h.root fits.nodes.shape in let f = h.few_nodes in omega (arith, e, f))

  states : side (sides_of claim) proved ≡ stated (about_with system).tests property
  states = ap (side (sides_of claim)) (sym h.behind.said) ∙ shows system claim variables h.verdict

  same : all_entries system (side (sides_of claim) proved) h.root h.verdict ≡ obligations (about_with system) property h.root h.verdict
  same = owed_is system property (side (sides_of claim) proved) h.root h.verdict states

  abbrev read : Certificate
  read = record {
    verdict = h.verdict;
    root = h.root;
    kinds = vector heap (kinds_stated (stated (about_with system).tests property)) few_kinds;
    obligations = length (obligations (about_with system) property h.root h.verdict);
  }

  is_read : IsCertificateText system claim text read
  is_read = record {
    lines = lines ∙ ap (λ b. begun b rest) (sym h.behind.said) ∙ read_lines system claim variables rest h.root h.verdict behind;
    is = record {
      fits = fits;
      named = refl;
      counted = refl;
      few_nodes = h.few_nodes;
      few_obligations = subst (λ es. length es < 2 ^ 64) same h.few_entries;
    };
  }

  told : Settles 0 None (owed system claim read) new.failing
  told = subst (λ es. Settles 0 None es new.failing) same h.settles

  pub fails_first : (f : Failing) → new.failing ≡ Some f → FailsFirst system claim text f
  fails_first f is = record { certificate = read; is_text = is_read; first = subst (Settles 0 None (owed system claim read)) is told }

  pub is_accepted : new.failing ≡ None → (a : Accepted) → a.proved ≡ proved → a.values.items ≡ values → a.obligations ≡ new.seen → IsAcceptedText system claim text a
  is_accepted none a says_so at_values count = record {
    certificate = read;
    is_text = is_read;
    met = subst (Settles 0 None (owed system claim read)) none told;
    proved = says_so ∙ sym h.behind.said;
    at_values = at_values ∙ h.at_values;
    counted = count ∙ h.seen ∙ ap length same;
  }

-- a text that is not read to its end
pub unaccepted : (system : CaseSystem) (claim : Claim) (text : List ℕ) (f : Failure) → IsRefusedText system claim text f → IsUnaccepted system claim text (failing_of f)
unaccepted system claim text (failures.Fault kind number) h = h
unaccepted system claim text failures.Memory h = tt

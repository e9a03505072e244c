-- What is written of a certificate has its lines.
use Rattle.std.proofs.Common.{◌≡◌, ℕ, List, [], ◌∷◌, ap, ◌∙◌}
use Rattle.std.proofs.lemmas.List.{append_assoc}
use Rattle.tv_lines.specs.Lines.{PlainLine, formed, formless, wide, lines_of}
use Rattle.tv_lines.specs.Writing.{spelling}
use Rattle.tv_lines.proofs.TextLemmas.{no_lines}
use Rattle.tv_lines.proofs.ReadAgain.{text_again}
use Rattle.tv_formula.specs.Properties.{Property}
use Rattle.tv_cert.specs.Obligations.{About}
use Rattle.tv_cert.specs.Statements.{stated}
use Rattle.tv_shape.specs.Certificates.{IsOf}
use Rattle.tv_shape.specs.declared.certificate.Certificate.{Certificate}
use Rattle.tv_cert_reader.specs.CertificateLines.{lines_about}
use Rattle.tv_cert_reader.proofs.FitLines.{AreTold, certificate_told}
use Rattle.tv_cert_spelling.specs.Spelling.{all_spelled}

spelled_again : (ls : List PlainLine) → AreTold ls → lines_of (all_spelled ls) ≡ ls
spelled_again [] h = no_lines
spelled_again (formed head zs ∷ ls) h =
    ap lines_of (append_assoc (spelling head zs) (10 ∷ []) (all_spelled ls))
    ∙ text_again head zs (all_spelled ls) h.0
    ∙ ap (λ (later : List PlainLine). formed head zs ∷ later) (spelled_again ls h.1)
spelled_again (formless ∷ ls) h = absurd h.0
spelled_again (wide ∷ ls) h = absurd h.0

pub written_again : (about : About) (f : Property) (c : Certificate) → IsOf about f c → (text : List ℕ) → text ≡ all_spelled (lines_about about f c) → lines_of text ≡ lines_about about f c
written_again about f c is text w =
    ap lines_of w ∙ spelled_again (lines_about about f c) (certificate_told (stated about.tests f) c.root c.verdict is.fits.nodes.narrow is.fits.said.narrow)

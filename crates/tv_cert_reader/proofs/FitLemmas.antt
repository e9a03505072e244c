-- What is read fits, and its lines are those of its certificate.
use Rattle.std.proofs.Common.{◌≡◌, ℕ, ◌+◌, ◌≤◌, List, ◌++◌, refl, sym, ap, ◌∙◌, subst, arith}
use Rattle.std.specs.Prelude.{IsTrue, nat_le}
use Rattle.std.proofs.lemmas.Bool.Decides.{nat_tests}
use Rattle.tv_lines.specs.Lines.{PlainLine}
use Rattle.tv_formula.specs.Formulas.{property_of}
use Rattle.tv_formula.specs.Limits.{operators, most_operators}
use Rattle.tv_formula.specs.Properties.{Property, truth, compare, at, term, negated, all_of, some_of, next, fix, Properties, none, more}
use Rattle.tv_cases.specs.Comparisons.{comparison_lists}
use Rattle.tv_cases.specs.LinearCases.{CaseSystem}
use Rattle.tv_cert.specs.declared.claim.Claim.{Claim}
use Rattle.tv_cert.specs.declared.node.Node.{Node, Node', Row_of-Node, end_of-Node, more_of-Node}
use Rattle.tv_cert.specs.declared.node.Verdict.{Verdict}
use Rattle.tv_cert.specs.declared.node.Verdict.TheVariants.{Proved, Disproved}
use Rattle.tv_cert.specs.Claims.{about_with, claim_variables, shown}
use Rattle.tv_cert.specs.Nodes.{parts, pieces_of}
use Rattle.tv_cert.specs.Obligations.{About}
use Rattle.tv_cert.specs.Shapes.{HasShape, HaveShapes, NodeShape, KidsShape}
use Rattle.tv_cert.proofs.StatedLemmas.{parts-stated}
use Rattle.tv_cert.specs.Statements.{Statement, stated}
use Rattle.tv_cert.proofs.NodeLemmas.{pieces_are}
use Rattle.tv_shape.specs.Fitting.{GoesWithin, KidsGoWithin, Fits, VerdictFits, VerdictNarrow, VerdictShallow}
use Rattle.tv_shape.proofs.MadeLemmas.{shapes_shallow}
use Rattle.tv_cert_reader.specs.CertificateLines.{node_lines, certificate_lines}
use Rattle.tv_cert_reader.proofs.FitLines.{AreFit, root_and_rest, node_fit, verdict_fit}
use Rattle.tv_cert_reader.specs.Texts.{sides_of}
use Rattle.tv_cert_reader.specs.Wholes.{IsVerdictOver, behind_root, says, IsBehindSaid, begun, side}
use Rattle.std.proofs.Math.Nat.{le-max_left, le-max_right}

-- ---- how deep it goes

-- each of the formulas has few operators
abbrev AreShort : ℕ → Properties → Type 0
AreShort depth none = Unit {0}
AreShort depth (more f fs) = (depth + operators f ≤ 256) × AreShort depth fs

short : (depth : ℕ) (fs : Properties) → depth + most_operators fs ≤ 256 → AreShort depth fs
short depth none h = tt
short depth (more f fs) h =
    (let a = le-max_left (operators f) (most_operators fs) in omega (arith, a, h), short depth fs (let a = le-max_right (operators f) (most_operators fs) in omega (arith, a, h)))

parts_short : (depth : ℕ) (f : Property) → depth + operators f ≤ 256 → AreShort (depth + 1) (parts f)
parts_short depth (truth b) h = tt
parts_short depth (compare r a b) h = tt
parts_short depth (at l) h = tt
parts_short depth term h = tt
parts_short depth (negated f) h = tt
parts_short depth (all_of fs) h = short (depth + 1) fs (omega (arith, h))
parts_short depth (some_of fs) h = short (depth + 1) fs (omega (arith, h))
parts_short depth (next path f) h = (omega (arith, h), tt)
parts_short depth (fix path shape f g) h =
    (let a = le-max_left (operators f) (operators g) in omega (arith, a, h), (let a = le-max_right (operators f) (operators g) in omega (arith, a, h), tt))

mutual
  goes_within : (about : About) (f : Property) (n : Node) (depth : ℕ) → HasShape about f n → depth + operators f ≤ 256 → GoesWithin depth n
  goes_within about f (Node' ps m shape kids proofs) depth h bounded =
      (omega (arith, bounded), shapes_shallow depth _ proofs.items (omega (arith, bounded)) h.0.offered, kids_within about (parts f) kids (depth + 1) (subst (λ ss. KidsShape about.system ss kids) (parts-stated about f) h.1) (parts_short depth f bounded))

  kids_within : {k : _} (about : About) (fs : Properties) (kids : Row_of-Node k) (depth : ℕ) → HaveShapes about fs kids → AreShort depth fs → KidsGoWithin depth kids
  kids_within about none end_of-Node depth h bounded = tt
  kids_within about none (more_of-Node a kids) depth h bounded = absurd h
  kids_within about (more f fs) end_of-Node depth h bounded = absurd h
  kids_within about (more f fs) (more_of-Node a kids) depth h bounded = (goes_within about f a depth h.0 bounded.0, kids_within about fs kids depth h.1 bounded.1)

few_steps : (n : ℕ) → IsTrue (nat_le n 200) → 1 + n ≤ 256
few_steps n h = grind (arith, nat_tests)

-- ---- what is read

module _ (system : CaseSystem) (claim : Claim) (variables : claim_variables claim ≡ system.variables) where
  abbrev about : About
  about = about_with system

  pub shows : (verdict : Verdict) → side (sides_of claim) (says verdict) ≡ stated about.tests (shown claim verdict)
  shows (Proved tree) = ap (λ n. stated (comparison_lists n) (property_of claim.proved)) variables
  shows (Disproved k values) = ap (λ n. stated (comparison_lists n) (property_of claim.denied)) variables

  short_claim : (verdict : Verdict) → 1 + operators (shown claim verdict) ≤ 256
  short_claim (Proved tree) = few_steps (operators (property_of claim.proved)) claim.proved.within_limits.few_operators
  short_claim (Disproved k values) = few_steps (operators (property_of claim.denied)) claim.denied.within_limits.few_operators

  verdict_fits : (root : Node) (verdict : Verdict) → IsVerdictOver system root verdict → VerdictNarrow verdict → VerdictFits about (pieces_of root) verdict
  verdict_fits root (Proved tree) h narrow = subst (λ ps. VerdictFits about ps (Proved tree)) (sym (pieces_are root)) (record { shape = (h.shape, h.shallow); narrow = narrow })
  verdict_fits root (Disproved k values) h narrow = subst (λ ps. VerdictFits about ps (Disproved k values)) (sym (pieces_are root)) (record { shape = h; narrow = narrow })

  shallow_verdict : (root : Node) (verdict : Verdict) → IsVerdictOver system root verdict → VerdictShallow verdict
  shallow_verdict root (Proved tree) h = (let n = h.shallow in omega (arith, n))
  shallow_verdict root (Disproved k values) h = tt

  pub read_fits : (rest : List PlainLine) (root : Node) (verdict : Verdict) → IsBehindSaid system (side (sides_of claim) (says verdict)) (says verdict) rest root verdict → AreFit rest → Fits about (shown claim verdict) root verdict
  read_fits rest root verdict h fit =
      let s = side (sides_of claim) (says verdict) in
      let lines = root_and_rest s root verdict (subst AreFit h.lines fit) in
      let shaped = subst (λ s. NodeShape system s root) (shows verdict) h.root_is in
      record {
        nodes = record { shape = shaped; narrow = node_fit system s root h.root_is lines.0; depth = goes_within about (shown claim verdict) root 1 shaped (short_claim verdict) };
        shallow = shallow_verdict root verdict h.verdict_is;
        said = verdict_fits root verdict h.verdict_is (verdict_fit verdict lines.1);
      }

  lines_with : (s : Statement) (verdict : Verdict) (root : Node) → begun (says verdict) (node_lines s root ++ behind_root verdict) ≡ certificate_lines s root verdict
  lines_with s (Proved tree) root = refl
  lines_with s (Disproved k values) root = refl

  pub read_lines : (rest : List PlainLine) (root : Node) (verdict : Verdict) → IsBehindSaid system (side (sides_of claim) (says verdict)) (says verdict) rest root verdict → begun (says verdict) rest ≡ certificate_lines (stated about.tests (shown claim verdict)) root verdict
  read_lines rest root verdict h =
      ap (begun (says verdict)) (h.lines ∙ ap (λ s. node_lines s root ++ behind_root verdict) (shows verdict))
      ∙ lines_with (stated about.tests (shown claim verdict)) verdict root

-- A certificate that fits has no fault, and another has one first fault.
use Rattle.std.proofs.Common.{inl, inr, ◌≡◌, List, [], ◌∷◌, ◌++◌, sym, ap, ◌∙◌, subst}
use Rattle.tv_formula.specs.Properties.{Property}
use Rattle.tv_cases.specs.LinearCases.{CaseSystem}
use Rattle.tv_cert.specs.declared.node.Marked.{Marked}
use Rattle.tv_cert.specs.declared.node.Node.{Node}
use Rattle.tv_cert.specs.declared.node.Verdict.{Verdict}
use Rattle.tv_cert.specs.Nodes.{pieces_of}
use Rattle.tv_cert.specs.Obligations.{About}
use Rattle.tv_cert.specs.Statements.{stated}
use Rattle.tv_shape.specs.Stations.{Station, stations, AreRight, IsRight, IsFaultAt, IsFirstMisshapen}
use Rattle.tv_shape.specs.Fitting.{Fits, VerdictFits, VerdictShallow, IsVerdictFault, IsFirstFault}
use Rattle.tv_shape.specs.declared.fault.ShapeFault.{ShapeFault}
use Rattle.tv_shape.specs.declared.fault.ShapeFault.TheVariants as fault
use Rattle.tv_shape.proofs.FitLemmas.{nodes_fit}

fault_is_wrong : (system : CaseSystem) (t : Station) (x : ShapeFault) → IsFaultAt system t x → IsRight system t → ⊥
fault_is_wrong system t (fault.Deep n) h r = h.1 r.0
fault_is_wrong system t (fault.Shape n) h r = h.2 r.1
fault_is_wrong system t fault.Memory h r = absurd h

right_among : (system : CaseSystem) (before : List Station) (t : Station) (after : List Station) → AreRight system (before ++ t ∷ after) → IsRight system t
right_among system [] t after h = h.0
right_among system (u ∷ before) t after h = right_among system before t after h.1

misshapen_is_wrong : (system : CaseSystem) (ts : List Station) (x : ShapeFault) → IsFirstMisshapen system ts x → AreRight system ts → ⊥
misshapen_is_wrong system ts x h right = fault_is_wrong system h.wrong x h.fault (right_among system h.before h.wrong h.after (subst (AreRight system) h.parts right))

verdict_is_wrong : (about : About) (ps : List Marked) (verdict : Verdict) (x : ShapeFault) → IsVerdictFault about ps verdict x → VerdictShallow verdict → VerdictFits about ps verdict → ⊥
verdict_is_wrong about ps verdict (fault.Deep n) h s v = h.1 s
verdict_is_wrong about ps verdict (fault.Shape n) h s v = h.2 v
verdict_is_wrong about ps verdict fault.Memory h s v = absurd h

pub unfit : (about : About) (f : Property) (root : Node) (verdict : Verdict) (x : ShapeFault) → IsFirstFault about f root verdict x → Fits about f root verdict → ⊥
unfit about f root verdict x (inl h) fits = misshapen_is_wrong about.system (stations 0 1 (stated about.tests f) root) x h ((nodes_fit about f root).1 fits.nodes)
unfit about f root verdict x (inr h) fits = verdict_is_wrong about (pieces_of root) verdict x h.1 fits.shallow fits.said

-- ---- one first fault

head_is : (t u : Station) (ts us : List Station) → t ∷ ts ≡ u ∷ us → t ≡ u
head_is t u ts us e = cc

tail_is : (t u : Station) (ts us : List Station) → t ∷ ts ≡ u ∷ us → ts ≡ us
tail_is t u ts us e = cc

-- the first of a list that is not right is one
one_wrong : (system : CaseSystem) (before others : List Station) (t u : Station) (after rest : List Station) → before ++ t ∷ after ≡ others ++ u ∷ rest → AreRight system before → AreRight system others → (IsRight system t → ⊥) → (IsRight system u → ⊥) → t ≡ u
one_wrong system [] [] t u after rest e b o wrong bad = head_is t u after rest e
one_wrong system [] (v ∷ others) t u after rest e b o wrong bad = absurd (wrong (subst (IsRight system) (sym (head_is t v after (others ++ u ∷ rest) e)) o.0))
one_wrong system (v ∷ before) [] t u after rest e b o wrong bad = absurd (bad (subst (IsRight system) (head_is v u (before ++ t ∷ after) rest e) b.0))
one_wrong system (v ∷ before) (w ∷ others) t u after rest e b o wrong bad =
    one_wrong system before others t u after rest (tail_is v w (before ++ t ∷ after) (others ++ u ∷ rest) e) b.1 o.1 wrong bad

one_fault : (system : CaseSystem) (t : Station) (x y : ShapeFault) → IsFaultAt system t x → IsFaultAt system t y → x ≡ y
one_fault system t (fault.Deep n) (fault.Deep m) h k = ap fault.Deep (h.0 ∙ sym k.0)
one_fault system t (fault.Deep n) (fault.Shape m) h k = absurd (h.1 k.1)
one_fault system t (fault.Shape n) (fault.Deep m) h k = absurd (k.1 h.1)
one_fault system t (fault.Shape n) (fault.Shape m) h k = ap fault.Shape (h.0 ∙ sym k.0)
one_fault system t fault.Memory y h k = absurd h
one_fault system t (fault.Deep n) fault.Memory h k = absurd k
one_fault system t (fault.Shape n) fault.Memory h k = absurd k

one_verdict_fault : (about : About) (ps : List Marked) (verdict : Verdict) (x y : ShapeFault) → IsVerdictFault about ps verdict x → IsVerdictFault about ps verdict y → x ≡ y
one_verdict_fault about ps verdict (fault.Deep n) (fault.Deep m) h k = ap fault.Deep (h.0 ∙ sym k.0)
one_verdict_fault about ps verdict (fault.Deep n) (fault.Shape m) h k = absurd (h.1 k.1)
one_verdict_fault about ps verdict (fault.Shape n) (fault.Deep m) h k = absurd (k.1 h.1)
one_verdict_fault about ps verdict (fault.Shape n) (fault.Shape m) h k = ap fault.Shape (h.0 ∙ sym k.0)
one_verdict_fault about ps verdict fault.Memory y h k = absurd h
one_verdict_fault about ps verdict (fault.Deep n) fault.Memory h k = absurd k
one_verdict_fault about ps verdict (fault.Shape n) fault.Memory h k = absurd k

one_misshapen : (system : CaseSystem) (ts : List Station) (x y : ShapeFault) → IsFirstMisshapen system ts x → IsFirstMisshapen system ts y → x ≡ y
one_misshapen system ts x y h k =
    let e = one_wrong system h.before k.before h.wrong k.wrong h.after k.after (sym h.parts ∙ k.parts) h.right k.right (fault_is_wrong system h.wrong x h.fault) (fault_is_wrong system k.wrong y k.fault) in
    one_fault system k.wrong x y (subst (λ t. IsFaultAt system t x) e h.fault) k.fault

pub one_first : (about : About) (f : Property) (root : Node) (verdict : Verdict) (x y : ShapeFault) → IsFirstFault about f root verdict x → IsFirstFault about f root verdict y → x ≡ y
one_first about f root verdict x y (inl h) (inl k) = one_misshapen about.system (stations 0 1 (stated about.tests f) root) x y h k
one_first about f root verdict x y (inl h) (inr k) = absurd (misshapen_is_wrong about.system (stations 0 1 (stated about.tests f) root) x h k.0)
one_first about f root verdict x y (inr h) (inl k) = absurd (misshapen_is_wrong about.system (stations 0 1 (stated about.tests f) root) y k h.0)
one_first about f root verdict x y (inr h) (inr k) = one_verdict_fault about (pieces_of root) verdict x y h.1 k.1

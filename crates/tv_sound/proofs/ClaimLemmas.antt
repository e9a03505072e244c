-- What the certificate of a claim says all of whose obligations are met.
use Rattle.std.proofs.Common.{◌≡◌, ℕ, ◌+◌, ◌++◌, ◌∷◌, [], ◌<◌, ◌^◌, OnOk, Result, Ok, Err, Vec, ℤ, List, length, arith, sym, ap, subst, ◌∙◌, length-append}
use Rattle.std.specs.Prelude.{MatchResult}
use Rattle.std.specs.Global.{Global}
use Rattle.tv_program.specs.Systems.{System}
use Rattle.tv_formula.specs.Normal.{normal, negation}
use Rattle.tv_formula.specs.Properties.{Property, term}
use Rattle.tv_cases.specs.Comparisons.{comparison_lists}
use Rattle.tv_cases.specs.LinearCases.{CaseSystem}
use Rattle.tv_cases.specs.Answers.{IsOfProgram, HaveSameSteps}
use Rattle.tv_cert.specs.declared.claim.Claim.{Claim}
use Rattle.tv_cert.specs.declared.node.Marked.{Marked}
use Rattle.tv_cert.specs.declared.node.Node.{Node}
use Rattle.tv_cert.specs.declared.node.Verdict.{Verdict}
use Rattle.tv_cert.specs.declared.node.Verdict.TheVariants.{Proved, Disproved}
use Rattle.tv_cert.specs.Claims.{IsClaim, about_with, shown}
use Rattle.tv_cert.specs.Nodes.{pieces_of, root_entry, obligations, entries, node_entries, HasParts}
use Rattle.tv_cert.specs.FirstFailing.{IsFirstFailing}
use Rattle.tv_cert.specs.Obligations.{AllMet}
use Rattle.tv_sound.proofs.NodesSound.{AllMet-left, AllMet-right}
use Rattle.tv_cert.specs.AboutSystem.{about_of}
use Rattle.tv_cert.specs.Shapes.{HasShape, VerdictShape}
use Rattle.tv_cert.specs.Statements.{Statement, stated}
use Rattle.tv_cert.proofs.EntryLists.{fits_parts}
use Rattle.tv_cert.proofs.ShapeFits.{shape_fits}
use Rattle.tv_cert.specs.declared.failing.Failing.{Failing}
use Rattle.tv_shape.specs.declared.certificate.Certificate.{Certificate}
use Rattle.tv_shape.specs.Certificates.{IsOf}
use Rattle.tv_cert.proofs.StatedLemmas.{root_same}
use Rattle.tv_sound.specs.Following.{FollowsFrom}
use Rattle.tv_sound.specs.Settled.{IsSettled}
use Rattle.tv_sound.proofs.Ending.{ends_negated}
use Rattle.tv_sound.proofs.Claimed.{shown_of, ValuesCounted, claim_sound, claim_taken}
use Rattle.tv_sound.proofs.Following.{TakesAlong}

-- ---- the obligations by the statement of the root

-- what the root states, by what the call was handed
pub aim_is : (system : CaseSystem) (n : ℕ) (claim : Claim) (v w : Verdict) (s : Statement) → s ≡ stated (comparison_lists n) (shown claim v) → n ≡ system.variables → v ≡ w → s ≡ stated (comparison_lists system.variables) (shown claim w)
aim_is system n claim v w s h e f = h ∙ (λ i. stated (comparison_lists (e i)) (shown claim (f i)))

owed_is : (system : CaseSystem) (f : Property) (s : Statement) (root : Node) (verdict : Verdict) → s ≡ stated (about_with system).tests f
    → node_entries 0 system s root ++ root_entry (about_of system) (pieces_of root) verdict ∷ [] ≡ obligations (about_with system) f root verdict
owed_is system f s root verdict same =
    (λ i. node_entries 0 system (same i) root ++ root_entry (about_of system) (pieces_of root) verdict ∷ [])
    ∙ (λ i. entries 0 (about_with system) f root ++ root_same system (pieces_of root) verdict i ∷ [])

module _ (system : CaseSystem) (f : Property) (c : Certificate) (s : Statement) (same : s ≡ stated (comparison_lists system.variables) f) (fits : IsOf (about_with system) f c) where
  pub owed : node_entries 0 system s c.root ++ root_entry (about_of system) (pieces_of c.root) c.verdict ∷ [] ≡ obligations (about_with system) f c.root c.verdict
  owed = owed_is system f s c.root c.verdict same

  pub has_parts : HasParts s c.root
  has_parts = subst (λ t. HasParts t c.root) (sym same) (fits_parts (about_with system) system.variables f c.root (shape_fits (about_with system) f c.root fits.fits.nodes.shape))

  pub has_room : length (node_entries 0 system s c.root) + 1 < 2 ^ 64
  has_room =
      let many = ap length owed in
      let parts = length-append (node_entries 0 system s c.root) (root_entry (about_of system) (pieces_of c.root) c.verdict ∷ []) in
      let room = fits.few_obligations in
      omega (arith, many, parts, room)

  -- as many obligations as the nodes owe, and one more
  pub all_counted : length (node_entries 0 system s c.root) + 1 ≡ length (obligations (about_with system) f c.root c.verdict)
  all_counted =
      let many = ap length owed in
      let parts = length-append (node_entries 0 system s c.root) (root_entry (about_of system) (pieces_of c.root) c.verdict ∷ []) in
      omega (arith, many, parts)

  -- none of those that the nodes owe fails where all are met
  pub none_fails : AllMet (obligations (about_with system) f c.root c.verdict) → (failing : Failing) → IsFirstFailing (node_entries 0 system s c.root) 0 failing → ⊥
  none_fails met failing h =
      let es = node_entries 0 system s c.root in
      let all = AllMet-left es (root_entry (about_of system) (pieces_of c.root) c.verdict ∷ []) (subst AllMet (sym owed) met) in
      h.fails (AllMet-right h.before (h.failing ∷ h.after) (subst AllMet h.parts all)).0

-- ---- what a met certificate says

counted : (system : CaseSystem) (ps : List Marked) (verdict : Verdict) → VerdictShape (about_with system) ps verdict → ValuesCounted system.variables verdict
counted system ps (Proved start) h = tt
counted system ps (Disproved k values) h = h.0

shown_is : (claim : Claim) (f : Property) (verdict : Verdict) → IsClaim claim f → shown claim verdict ≡ shown_of f verdict
shown_is claim f (Proved start) h = h.proved
shown_is claim f (Disproved k values) h = h.denied

module _ (p : System) (system : CaseSystem) (of_program : IsOfProgram p system) (steps : HaveSameSteps p system) (claim : Claim) (c : Certificate) (fits : IsOf (about_with system) (shown claim c.verdict) c) (met : AllMet (obligations (about_with system) (shown claim c.verdict) c.root c.verdict)) where
  pub settled : (f : Property) → IsClaim claim f → IsSettled p f c.verdict
  settled f h =
      let e = shown_is claim f c.verdict h in
      claim_sound p system of_program steps f c.root c.verdict
      (shape_fits (about_with system) (shown_of f c.verdict) c.root (subst (λ g. HasShape (about_with system) g c.root) e fits.fits.nodes.shape))
      (subst (λ g. AllMet (obligations (about_with system) g c.root c.verdict)) e met)
      (counted system (pieces_of c.root) c.verdict fits.fits.said.shape)

  -- what is taken along the run, where the property is that all runs end and it is disproved
  pub takes_along : (k : ℕ) (values : Vec ℤ Global) → c.verdict ≡ Disproved k values → (f : Property) → IsClaim claim f → normal f ≡ term → TakesAlong p system c.root k values.items
  takes_along k values e f h n =
      let shows : AllMet (obligations (about_with system) (negation f) c.root (Disproved k values)) =
      subst (λ v. AllMet (obligations (about_with system) (shown_of f v) c.root v)) e (subst (λ g. AllMet (obligations (about_with system) g c.root c.verdict)) (shown_is claim f c.verdict h) met) in
      claim_taken p system of_program steps c.root k values
      (subst (λ g. AllMet (obligations (about_with system) g c.root (Disproved k values))) (ends_negated f n) shows)
      (subst (ValuesCounted system.variables) e (counted system (pieces_of c.root) c.verdict fits.fits.said.shape))

  pub follows : (verdict : Verdict) → c.verdict ≡ verdict → (f : Property) → IsClaim claim f → normal f ≡ term → FollowsFrom p system c.root verdict
  follows (Proved start) e f h n = tt
  follows (Disproved k values) e f h n = (takes_along k values e f h n).follows

pub on_ok : (A B : Type 0) (P : Failing → Type 0) (result : Result (Unit {0}) Failing) → MatchResult result (λ done. A) P → (A → B) → OnOk result B
on_ok A B P (Ok done) h f = f h
on_ok A B P (Err failing) h f = tt

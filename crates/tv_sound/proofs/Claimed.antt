-- What a certificate of a claim shows where all its obligations are met.
use Rattle.std.proofs.Common.{◌≡◌, ℕ, List, [], length, Option, None, Some, refl, sym, ap, subst, ◌∙◌, slice_get, ℤ, ◌==◌}
use Rattle.std.specs.Option.{option_map}
use Rattle.tv_program.specs.Systems.{System}
use Rattle.tv_program.specs.Steps.{Steps}
use Rattle.tv_formula.specs.Properties.{Property, term, negated}
use Rattle.tv_formula.specs.Normal.{normal, negation}
use Rattle.tv_cases.specs.LinearCases.{CaseSystem}
use Rattle.tv_cases.specs.Answers.{IsOfProgram, HaveSameSteps}
use Rattle.tv_cert.specs.declared.node.Marked.{Marked}
use Rattle.tv_cert.specs.declared.node.Node.{Node, Node'}
use Rattle.tv_cert.specs.declared.node.Verdict.{Verdict}
use Rattle.tv_cert.specs.declared.node.Verdict.TheVariants.{Proved, Disproved}
use Rattle.tv_cert.specs.Claims.{about_with}
use Rattle.tv_cert.specs.Pieces.{place_of, rows_of, pieces_at}
use Rattle.tv_cert.specs.Obligations.{AllMet, PointMet, paired}
use Rattle.tv_cert.specs.Nodes.{kid_pieces, parts, kid_entries, entries, obligations, own_of}
use Rattle.tv_cert.specs.Fits.{NodeFits}
use Rattle.tv_cert.proofs.PieceLemmas.{piece_got}
use Rattle.tv_sound.specs.Following.{Spot, offered, offered_at, all_offered, TakesAt, onward, followed}
use Rattle.tv_program.specs.Runs.{IsRun, follow}
use Rattle.tv_cert.specs.declared.node.Proof.{Proof}
use Rattle.tv_sound.specs.Settled.{IsSettled}
use Rattle.tv_sound.proofs.NodesSound.{AllMet-left, AllMet-right}
use Rattle.tv_sound.proofs.Following.{first_got, among-filter, pieces_there, runs_on, Stands, stands_after, takes, TakesAlong}
use Rattle.tv_sound.proofs.Soundness.{root_met, proved_sound, disproved_sound, comparisons_show}
use Rattle.tv_linear.proofs.ListLaws.{contains_at}

-- the formula that the root of a certificate of the property shows
abbrev pub shown_of : Property → Verdict → Property
shown_of f (Proved start) = normal f
shown_of f (Disproved piece values) = negation f

-- the values are as many as the variables, where there are values
abbrev pub ValuesCounted : ℕ → Verdict → Type 0
ValuesCounted n (Proved start) = Unit {0}
ValuesCounted n (Disproved piece values) = length values.items ≡ n

module _ (p : System) (system : CaseSystem) (of_program : IsOfProgram p system) (steps : HaveSameSteps p system) where
  pub claim_sound : (f : Property) (root : Node) (verdict : Verdict) → NodeFits system.variables (shown_of f verdict) root → AllMet (obligations (about_with system) (shown_of f verdict) root verdict) → ValuesCounted system.variables verdict → IsSettled p f verdict
  claim_sound f root (Proved start) fits met counted = proved_sound p (about_with system) of_program steps (comparisons_show system) f root start fits met
  claim_sound f root (Disproved piece values) fits met counted = record {
    initial = record { place = refl; counted = counted ∙ of_program.variables };
    fails = disproved_sound p (about_with system) of_program steps (comparisons_show system) f root piece values fits met counted;
  }

  -- where the property is that all runs end, and it is disproved, an endless run is followed
  taken_from : (root : Node) (qs : List Marked) (proofs : List Proof) → all_offered root ≡ offered qs proofs → (k : ℕ) (xs : List ℤ) → length xs ≡ system.variables → AllMet (paired (own_of 0 (about_with system) (negated term) qs []) proofs) → (o : Option Marked) → slice_get (pieces_at qs system.start) k ≡ o → PointMet xs (option_map rows_of o) → TakesAlong p system root k xs
  taken_from root qs proofs same k xs counted met None e h = absurd h
  taken_from root qs proofs same k xs counted met (Some q) e h =
      let about = about_with system in
      let all = offered qs proofs in
      let got = piece_got qs system.start k q e in
      let o = first_got (offered_at all system.start) k q (ap (λ ys. slice_get ys k) (pieces_there about qs proofs 0 met system.start) ∙ e) in
      let first : Spot = record { piece = q; proof = o.0; state = record { location = p.start; values = xs } } in
      let stands : Stands system.variables all first = record {
        among = among-filter (λ o. place_of o.0 == system.start) all (q, o.0) (contains_at (offered_at all system.start) k (q, o.0) o.1);
        inside = record { place = sym of_program.start ∙ sym got.0; rows = h };
        wide = counted;
      } in
      record {
        follows = record {
          first = first;
          piece = ap (λ os. slice_get (offered_at os system.start) k) same ∙ o.1;
          begins = refl;
          runs = λ n. subst (λ os. IsRun (Steps p) first.state (followed (onward system os) first n)) (sym same)
              (runs_on about qs proofs 0 met (Steps p) (λ s t wide step. (steps s t (wide ∙ of_program.variables)).1 step) first stands n);
        };
        takes = λ i. subst (λ os. TakesAt system os (follow (onward system os) first i)) (sym same)
            (takes about qs proofs 0 met (follow (onward system all) first i) (stands_after about qs proofs 0 met first stands i));
      }

  pub claim_taken : (root : Node) (k : ℕ) (values : _) → AllMet (obligations (about_with system) (negated term) root (Disproved k values)) → length values.items ≡ system.variables → TakesAlong p system root k values.items
  claim_taken (Node' ps m shape kids proofs) k values met counted =
      let about = about_with system in
      let root = Node' ps m shape kids proofs in
      let own = AllMet-right (kid_entries 1 about (parts (negated term)) kids) (paired (own_of 0 about (negated term) ps (kid_pieces kids)) proofs.items) (AllMet-left (entries 0 about (negated term) root) _ met) in
      taken_from root ps proofs.items refl k values.items counted own (slice_get (pieces_at ps system.start) k) refl (root_met about (negated term) root (Disproved k values) met)

use Rattle.std.proofs.Common.{[], ◌∷◌, ◌++◌, sym, subst}
use Rattle.tv_cases.specs.Systems.{cases_of}
use Rattle.tv_candidates.specs.declared.candidate.Candidate.{Candidate}
use Rattle.tv_invariant.specs.Reached.{IsInNone}
use Rattle.tv_invariant.specs.Sieves.{Sieved, none}
use Rattle.tv_invariant.proofs.SieveLemmas.{one_stays, one_falls}
use Rattle.tv_invariant.proofs.reached.met_at.Goals as goal

abbrev Free : Candidate → Type 0
Free c = Unit {0}

pub candidates-init : goal.candidates-init
candidates-init c = subst (λ ks. Sieved Free (IsInNone (cases_of c.args.about.now)) [] ks) (sym c.new-kept.ensures.items) none

pub candidates-preserved-in-Continue-1 : goal.candidates-preserved-in-Continue-1
candidates-preserved-in-Continue-1 c =
    let out = IsInNone (cases_of c.args.about.now) in
    let d = c.in-Some.candidate in
    subst (λ ks. Sieved Free out (c.candidates.yielded ++ d ∷ []) ks) (sym c.in_ok-push_item.ensures) (one_stays Free out c.candidates.yielded c.candidates.kept.items d tt c.candidates.invariant)

pub candidates-preserved : goal.candidates-preserved
candidates-preserved c =
    let out = IsInNone (cases_of c.args.about.now) in
    one_falls Free out c.candidates.yielded c.candidates.kept.items c.in-Some.candidate c.if-is_met_at.ensures c.candidates.invariant

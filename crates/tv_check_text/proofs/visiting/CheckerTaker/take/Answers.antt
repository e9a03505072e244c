use Rattle.std.proofs.Common.{Some, [], ◌∷◌, refl, sym, subst}
use Rattle.tv_cases.specs.Systems.{cases_of}
use Rattle.tv_cert.specs.Obligations.{Entry, Obligation}
use Rattle.tv_cert.specs.OwesViews.{obligation_by}
use Rattle.tv_check_text.specs.Settling.{Settles}
use Rattle.tv_check_text.proofs.SettlingLemmas.{settles_one}
use Rattle.tv_check_text.proofs.visiting.CheckerTaker.take.Goals as goal

pub returns-clause-taken : goal.returns-clause-taken
returns-clause-taken c =
    let o : Obligation = obligation_by (cases_of c.args.context.now.about.now) c.args.node c.args.kind c.args.owes.now in
    let j = c.in_ok-met.ensures in
    let e : Entry = record { obligation = o; proof = Some j.proof } in
    let v = c.args.self.now in
    record {
      proof = j.proof;
      is_proof = j.is_proof;
      took = j.took;
      taken = record {
        seen = refl;
        settles = subst (λ x. Settles v.seen v.failing (e ∷ []) x) (sym c.first_failing-self.ensures) (settles_one v.seen v.failing e c.in_ok-met.met j.told);
      };
      kept_is = refl;
    }

use Rattle.std.proofs.Common.{◌+◌, sym, ap, subst, ◌∙◌}
use Rattle.tv_cert.specs.declared.node.Verdict.TheVariants.{Proved}
use Rattle.tv_cert.specs.AboutSystem.{about_of}
use Rattle.tv_cert.specs.FirstFailing.{IsFirstFailing}
use Rattle.tv_cert.specs.Nodes.{root_entry}
use Rattle.tv_cert.specs.Obligations.{AllMet, paired}
use Rattle.tv_cert.proofs.FailingLemmas.{failing_left}
use Rattle.tv_cert.proofs.NodeLemmas.{length-paired}
use Rattle.tv_check.proofs.SettlingLemmas.{last_settled}
use Rattle.tv_finitely.specs.Finite.{HoldsFinitely}
use Rattle.tv_finitely.specs.Obligations.{visits_of, visit_entries, steps_owed}
use Rattle.tv_finitely.specs.Splits.{split_of}
use Rattle.tv_finitely.proofs.CaseLemmas.{on_ok}
use Rattle.tv_finitely.proofs.Soundness.{holds_finitely}
use Rattle.tv_finitely.proofs.checking.check_finitely.Goals as goal

pub returns-in-Err-clause-exact : goal.returns-in-Err-clause-exact
returns-in-Err-clause-exact c =
    let v = visits_of c.args.visits.now in
    let os = steps_owed (split_of c.args.about.now) v.pieces in
    failing_left (paired os v.proofs) _ 0 c.in-Err.failing (subst (λ ps. IsFirstFailing (paired os ps) 0 c.in-Err.failing) c.deref.ensures.value c.in-Err.ensures)

pub returns-in-Ok-clause-exact : goal.returns-in-Ok-clause-exact
returns-in-Ok-clause-exact c =
    let s = split_of c.args.about.now in
    let v = visits_of c.args.visits.now in
    let es = paired (steps_owed s v.pieces) v.proofs in
    let all = subst (λ ps. AllMet (paired (steps_owed s v.pieces) ps)) c.deref.ensures.value c.in-Ok.ensures.0 in
    last_settled es (root_entry (about_of s.system) v.pieces (Proved v.root)) c.in-Ok.met c.settle_root.result all (c.in-Ok.ensures.1 ∙ ap (λ j. 0 + j) (sym (length-paired (steps_owed s v.pieces) v.proofs))) c.settle_root.ensures

pub returns-in-Ok-clause-finite : goal.returns-in-Ok-clause-finite
returns-in-Ok-clause-finite c =
    let s = split_of c.args.about.now in
    let v = visits_of c.args.visits.now in
    let es = paired (steps_owed s v.pieces) v.proofs in
    let all = subst (λ ps. AllMet (paired (steps_owed s v.pieces) ps)) c.deref.ensures.value c.in-Ok.ensures.0 in
    let checks = last_settled es (root_entry (about_of s.system) v.pieces (Proved v.root)) c.in-Ok.met c.settle_root.result all (c.in-Ok.ensures.1 ∙ ap (λ j. 0 + j) (sym (length-paired (steps_owed s v.pieces) v.proofs))) c.settle_root.ensures in
    λ p f split. on_ok (AllMet (visit_entries s v)) (HoldsFinitely p f) (λ g. IsFirstFailing (visit_entries s v) 0 g) c.settle_root.result checks (λ met. holds_finitely s v c.requires met p f split)

use Rattle.std.proofs.Common.{inr}
use Rattle.tv_cases.specs.Systems.{cases_of}
use Rattle.tv_settling.proofs.KnownLemmas.{is_known, begins_known, never_left, no_point_there}
use Rattle.tv_settling.proofs.certificate.safety_certificate.Goals as goal

pub invariant_of-barrier : goal.invariant_of-barrier
invariant_of-barrier c =
    let about = cases_of c.args.about.now in
    let list = c.args.list.now in
    let known = c.in_ok-known.known in
    let are = c.in_ok-known.ensures in
    record {
      known_rows = is_known about list known are;
      kept = never_left about list known are c.args.about.now.are_cases c.requires.inductive;
      inside = c.requires.location;
      empty = no_point_there about list known are c.args.location c.requires.location c.requires.empty;
      splits = c.requires.splits;
    }

pub barrier_certificate-requires-clause-begins : goal.barrier_certificate-requires-clause-begins
barrier_certificate-requires-clause-begins c =
    begins_known (cases_of c.args.about.now) c.args.list.now c.in_ok-known.known c.in_ok-known.ensures c.args.about.now.are_cases c.requires.inductive

pub returns-clause-refusals : goal.returns-clause-refusals
returns-clause-refusals c = inr (c.in_ok-known.known, c.in_ok-known.ensures, c.in-Err.ensures.refusals)

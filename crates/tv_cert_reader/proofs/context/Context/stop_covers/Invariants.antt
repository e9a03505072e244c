use Rattle.std.proofs.Common.{◌-◌, drop, length}
use Rattle.tv_cases.specs.LinearCases.{leaving}
use Rattle.tv_cases.specs.Systems.{cases_of}
use Rattle.tv_cert_reader.specs.CertificateLines.{cover_lines}
use Rattle.tv_cert_reader.specs.Choices.{IsStop}
use Rattle.tv_cert_reader.proofs.StopLemmas.{Stepped}
use Rattle.tv_cert_reader.proofs.context.Context.stop_covers.Given as goal

abbrev pub invariant-cases : goal.invariant-cases
invariant-cases l =
    let system = cases_of l.self.about.now in
    let all = leaving l.location system.cases in
    Stepped (IsStop system.variables l.known l.left) cover_lines all (drop l.k all) l.fn.cursor l.cursor l.covers.items

abbrev pub decreases-cases : goal.decreases-cases
decreases-cases l = length (leaving l.location (cases_of l.self.about.now).cases) - l.k

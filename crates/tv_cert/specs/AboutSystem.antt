use Rattle.std.specs.Prelude.{[]}
use Rattle.tv_cases.specs.LinearCases.{CaseSystem}
use Rattle.tv_cert.specs.Obligations.{About}

-- what a certificate is about where no comparison is looked at
abbrev pub about_of : CaseSystem → About
about_of system = record { system = system; tests = λ r a b. [] }

use Rattle.std.proofs.Common.{◌≡◌, ◌++◌, drop}
use Rattle.std.specs.List.{flat_map}
use Rattle.tv_cert_reader.specs.CertificateLines.{proof_lines}
use Rattle.tv_cert_spelling.specs.Spelling.{all_spelled}
use Rattle.tv_cert_spelling.proofs.parts.append_proofs.Given as goal

abbrev pub invariant-loop-proof : goal.invariant-loop-proof
invariant-loop-proof l = l.out.items ++ all_spelled (flat_map proof_lines (drop l.proof-index l.proofs)) ≡ l.fn.out.items ++ all_spelled (flat_map proof_lines l.proofs)

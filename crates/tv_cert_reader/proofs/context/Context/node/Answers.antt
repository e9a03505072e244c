use Rattle.std.proofs.Common.{length, ap, subst, arith}
use Rattle.tv_lines.proofs.TextLemmas.{no_lines}
use Rattle.tv_cases.specs.Systems.{cases_of}
use Rattle.tv_cert.specs.AimViews.{aim_states}
use Rattle.tv_cert_reader.specs.Nodes.{ReadsNode}
use Rattle.tv_cert_reader.proofs.WalkLemmas.{walk_read}
use Rattle.tv_cert_reader.proofs.context.Context.node.Goals as goal

pub invariant_of-nothing : goal.invariant_of-nothing
invariant_of-nothing c = record { room = (let e = ap length c.new.ensures in let n = ap length no_lines in omega (arith, e, n)) }

pub node-root-requires : goal.node-root-requires
node-root-requires c = record { nodes = omega arith; left = omega arith }

pub returns-clause-read : goal.returns-clause-read
returns-clause-read c =
    let system = cases_of c.args.self.now.about.now in
    let s = aim_states c.args.aim.now in
    subst (λ d. ReadsNode system s d c.node-root.new.self.cursor c.node-root.result) c.replace.ensures.value
    (walk_read _ _ system s _ c.node-root.new.self c.node-root.result c.node-root.ensures.walked)

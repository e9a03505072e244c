use Rattle.std.proofs.Common.{arith}
use Rattle.tv_linear.specs.Views.{rows_seen}
use Rattle.tv_cert.proofs.OwedLemmas.{no_fall, has_fall}
use Rattle.tv_cert.proofs.targets.fall_between.Goals as goal
use Rattle.tv_cert.proofs.targets.fall_between.Goals.{then-after-eq0-via-then-after-eq0, then-after-eq0-via-else-after-eq0+then-after-before, then-after-eq0-via-else-after-eq0+else-after-before+then-after-behind}

pub returns-then-after-eq0 : goal.returns-then-after-eq0
returns-then-after-eq0 c = elim c.then-after-eq0.branch [
  | then-after-eq0-via-then-after-eq0 w ↦ (λ change. no_fall change (rows_seen c.args.old) (rows_seen c.args.new) c.args.fall (λ a b d. let e = w.if-after-eq0.true in omega (arith, e, a)))
  | then-after-eq0-via-else-after-eq0+then-after-before w ↦ (λ change. no_fall change (rows_seen c.args.old) (rows_seen c.args.new) c.args.fall (λ a b d. let e = w.if-after-before.true in let n = c.len-before.ensures.counted in omega (arith, e, b, n)))
  | then-after-eq0-via-else-after-eq0+else-after-before+then-after-behind w ↦ (λ change. no_fall change (rows_seen c.args.old) (rows_seen c.args.new) c.args.fall (λ a b d. let e = w.if-after-behind.true in let n = c.len-behind.ensures.counted in omega (arith, e, d, n)))
]

pub returns : goal.returns
returns c = λ change. has_fall change (rows_seen c.args.old) (rows_seen c.args.new) c.args.fall (let e = c.if-after-eq0.false in omega (arith, e)) (let e = c.if-after-before.false in let n = c.len-before.ensures.counted in omega (arith, e, n)) (let e = c.if-after-behind.false in let n = c.len-behind.ensures.counted in omega (arith, e, n))

use Rattle.std.proofs.Common.{refl}
use Rattle.tv_cert.specs.AimViews.{aim_states}
use Rattle.tv_shape.proofs.nodes.look_at.Goals as goal

pub returns-then-not-is_shallow : goal.returns-then-not-is_shallow
returns-then-not-is_shallow c = (refl, λ h. let k = (c.is_shallow.ensures c.args.number (aim_states c.args.aim.now)).1 h in cc)

pub returns-then-not-is_shaped : goal.returns-then-not-is_shaped
returns-then-not-is_shaped c = (
  refl,
  (c.is_shallow.ensures c.args.number (aim_states c.args.aim.now)).0 c.if-not-is_shallow.false,
  λ h. let k = (c.is_shaped.ensures c.args.number c.args.depth).1 h in cc,
)

pub returns-else-not-is_shaped : goal.returns-else-not-is_shaped
returns-else-not-is_shaped c = (
  (c.is_shallow.ensures c.args.number (aim_states c.args.aim.now)).0 c.if-not-is_shallow.false,
  (c.is_shaped.ensures c.args.number c.args.depth).0 c.if-not-is_shaped.false,
)

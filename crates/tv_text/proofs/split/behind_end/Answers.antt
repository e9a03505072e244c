use Rattle.tv_text.proofs.HeadingLemmas.{ends_at_end, ends_by_feed, ends_by_return}
use Rattle.tv_text.proofs.split.behind_end.Goals as goal

pub returns-in-None : goal.returns-in-None
returns-in-None c = ends_at_end c.args.text.now c.in-None.ensures

pub returns-in-Some-eq10-default : goal.returns-in-Some-eq10-default
returns-in-Some-eq10-default c = ends_by_feed c.args.text.now c.in-Some-eq10-default.rest.now c.in-Some-eq10-default.field-0-0 c.in-Some-eq10-default.ensures c.in-Some-eq10-default.field-0-0-test

pub returns-in-Some-eq10-default-first_of : goal.returns-in-Some-eq10-default-first_of
returns-in-Some-eq10-default-first_of c = ends_by_return c.args.text.now c.in-Some-eq13-default.rest.now c.in-Some-eq10-default-first_of.rest.now c.in-Some-eq13-default.field-0-0 c.in-Some-eq10-default-first_of.field-0-0 c.in-Some-eq13-default.ensures c.in-Some-eq13-default.field-0-0-test c.in-Some-eq10-default-first_of.ensures c.in-Some-eq10-default-first_of.field-0-0-test

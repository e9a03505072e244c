use Rattle.std.proofs.Common.{arith, ◌∙◌, sym, ◌%◌}
use Rattle.tv_fraction.proofs.CrossProducts.{below, same, cmp_less, cmp_greater, none_left, second_left, first_left}
use Rattle.tv_fraction.proofs.comparison.+cmp_parts.Goals as goal

pub returns-then-p-q : goal.returns-then-p-q
returns-then-p-q t c = cmp_less _ _ (below c.args.a c.args.b c.args.c c.args.d c.requires.first c.requires.second c.if-p-q.true)

pub returns-then-q-p : goal.returns-then-q-p
returns-then-q-p t c = cmp_greater _ _ (below c.args.c c.args.d c.args.a c.args.b c.requires.second c.requires.first c.if-q-p.true)

pub returns-in-0-eq0 : goal.returns-in-0-eq0
returns-in-0-eq0 t c =
    let h = same c.args.a c.args.b c.args.c c.args.d c.requires.first c.requires.second (omega arith) in
    none_left c.args.b c.args.d (c.args.a % c.args.b) (c.args.c % c.args.d) (omega arith) (omega arith) ∙ sym h

pub returns-in-0-default : goal.returns-in-0-default
returns-in-0-default t c =
    let h = same c.args.a c.args.b c.args.c c.args.d c.requires.first c.requires.second (omega arith) in
    second_left c.args.b c.args.d (c.args.a % c.args.b) (c.args.c % c.args.d) c.requires.first (omega arith) (λ z. omega arith) ∙ sym h

pub returns-in_default-eq0 : goal.returns-in_default-eq0
returns-in_default-eq0 t c =
    let h = same c.args.a c.args.b c.args.c c.args.d c.requires.first c.requires.second (omega arith) in
    first_left c.args.b c.args.d (c.args.a % c.args.b) (c.args.c % c.args.d) c.requires.second (λ z. omega arith) (omega arith) ∙ sym h

pub returns-in_default : goal.returns-in_default
returns-in_default t c =
    let h = same c.args.a c.args.b c.args.c c.args.d c.requires.first c.requires.second (omega arith) in
    c.cmp_parts.ensures ∙ sym h

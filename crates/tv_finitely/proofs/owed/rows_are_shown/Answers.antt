use Rattle.std.proofs.Common.{◌≡◌, ◌+◌, ◌<◌, suc, length, refl, ◌∙◌, subst, arith}
use Rattle.std.proofs.lemmas.List.{length-map}
use Rattle.std.proofs.lemmas.Option.{slice_get_read}
use Rattle.tv_refute.specs.Frames.{known_at}
use Rattle.tv_refute.proofs.ShownLemmas.{Shown_many, numbers}
use Rattle.tv_finitely.specs.Entrances.{rows_listed}
use Rattle.tv_check.proofs.ShownLemmas.{Left, Left_next, Left_stops}
use Rattle.tv_finitely.proofs.owed.rows_are_shown.Goals as goal

pub returns-then-count-lists : goal.returns-then-count-lists
returns-then-count-lists c = (λ t. cc, λ h. absurd (c.if-count-lists.true (c.count.ensures ∙ Shown_many c.args.columns (known_at c.args.frames.now) (rows_listed c.args.owed.now) (numbers c.args.lists.now) h ∙ length-map c.args.lists.now (λ l. l.items))))

pub returns-then-not-is_shown : goal.returns-then-not-is_shown
returns-then-not-is_shown c =
    let known = known_at c.args.frames.now in
    let rows = rows_listed c.args.owed.now in
    let lists = c.args.lists.now in
    let i = c.loop-i.i in
    let at = slice_get_read lists (length lists) i c.index-lists-i.result refl c.loop-i-test.true c.index-lists-i.is in
    let many = c.loop-i.invariant.many in
    let inside = c.loop-i-test.true in
    let below : c.loop-i.i < length (rows_listed c.args.owed.now) = omega (arith, many, inside) in
    let stops = Left_stops c.args.columns known rows lists i c.loop-i.invariant below c.index-lists-i.result at c.is_shown.result (rw (← c.deref.ensures.value) c.is_shown.ensures) in
    (λ t. cc, λ h. let s = stops h in let f = c.if-not-is_shown.true in cc)

pub loop-i-preserved : goal.loop-i-preserved
loop-i-preserved c =
    let known = known_at c.args.frames.now in
    let rows = rows_listed c.args.owed.now in
    let lists = c.args.lists.now in
    let i = c.loop-i.i in
    let at = slice_get_read lists (length lists) i c.index-lists-i.result refl c.loop-i-test.true c.index-lists-i.is in
    let many = c.loop-i.invariant.many in
    let inside = c.loop-i-test.true in
    let below : c.loop-i.i < length (rows_listed c.args.owed.now) = omega (arith, many, inside) in
    let next = Left_next c.args.columns known rows lists i c.loop-i.invariant below c.index-lists-i.result at c.is_shown.result (rw (← c.deref.ensures.value) c.is_shown.ensures) c.if-not-is_shown.false in
    let e : suc i ≡ i + 1 = omega arith in
    subst (Left c.args.columns known rows lists) e next

use Rattle.std.proofs.Common.{◌+◌, ◌≡◌, ◌∙◌, ◌≤◌, sym, ap, subst, arith, map, false}
use Rattle.std.specs.Prelude.{IfOk, IfSome}
use Rattle.std.specs.Result.{IfErr}
use Rattle.tv_cert.specs.declared.aim.Aim.{Aim, Aim-F, fold-roll-Aim}
use Rattle.tv_cert.specs.declared.aim.Aim.TheVariants.{rolls-Ends, rolls-NeverEnds, rolls-EachOf, rolls-OneOf, rolls-After, rolls-Along}
use Rattle.tv_known.specs.Rounds.{must_end}
use Rattle.tv_cert.specs.AimViews.{aim_states, aims_state, aim_node}
use Rattle.tv_cert.specs.Statements as statements
use Rattle.tv_pre.specs.Search.{system_of}
use Rattle.tv_pre.specs.Built.{IsPreFault}
use Rattle.tv_pre.specs.Finding.{all_steps_back, IsRefusedFor}
use Rattle.tv_pre.proofs.EvenLemmas.{even_later}
use Rattle.tv_pre.proofs.PassedLemmas.{passed_on}
use Rattle.tv_pre.proofs.FoundLemmas.{argument_fault, argument_over, after_argument, first_argument, second_argument}
use Rattle.tv_region.proofs.AlgebraLemmas.{if_ok, if_err}
use Rattle.tv_pre.specs.Arguments.{AreArguments}
use Rattle.tv_pre.specs.KnownStates.{HasKnownStates, IsAloneIn}
use Rattle.tv_pre.specs.Finding.{IsFound}
use Rattle.tv_pre.specs.Counted.{IsCountedFor, AreCountedFor}
use Rattle.tv_pre.proofs.InnerLemmas.{counted_outer, found_outer, known_outer, refused_outer}
use Rattle.tv_pre.proofs.ArgumentLemmas.{one_first, all_first, one_known, all_known}
use Rattle.tv_pre.proofs.CountedFormulas.{argument_counted, each_argument_counted, one_argument_counted, after_argument_counted, first_argument_counted, second_argument_counted}
use Rattle.tv_pre.proofs.finding.+finding.Goals as goal

pub all_found-returns-in_err-found-clause-refused_each : goal.all_found-returns-in_err-found-clause-refused_each
all_found-returns-in_err-found-clause-refused_each t c =
    let about = system_of c.args.search.now in
    let budget = c.args.search.now.setting.now.budget.now in
    let last = c.args.search.now.last in
    let whole = statements.each_of (aims_state c.args.aims.now) in
    let k = all_steps_back last (aims_state c.args.aims.now) in
    let l : k ≤ k = omega arith in
    passed_on (IsRefusedFor about budget last whole) c.from_residual-in_err-found.result c.from_residual-in_err-found.ensures.1
    (λ r is. subst (IsPreFault about whole budget k) (sym is) (argument_fault about last budget c.args.aims.now c.aims.aim-index c.aim-item.result whole k c.in_err-found.field-0.0 c.aims-test.true c.aim-item.is (λ a x. x) l c.in_err-found.ensures.refused))

pub all_found-returns-in_err-found-clause-refused_one : goal.all_found-returns-in_err-found-clause-refused_one
all_found-returns-in_err-found-clause-refused_one t c =
    let about = system_of c.args.search.now in
    let budget = c.args.search.now.setting.now.budget.now in
    let last = c.args.search.now.last in
    let whole = statements.one_of (aims_state c.args.aims.now) in
    let k = all_steps_back last (aims_state c.args.aims.now) in
    let l : k ≤ k = omega arith in
    passed_on (IsRefusedFor about budget last whole) c.from_residual-in_err-found.result c.from_residual-in_err-found.ensures.1
    (λ r is. subst (IsPreFault about whole budget k) (sym is) (argument_fault about last budget c.args.aims.now c.aims.aim-index c.aim-item.result whole k c.in_err-found.field-0.0 c.aims-test.true c.aim-item.is (λ a x. x) l c.in_err-found.ensures.refused))

pub all_found-aims-preserved : goal.all_found-aims-preserved
all_found-aims-preserved t c =
    let about = system_of c.args.search.now in
    let more = one_first about c.args.search.now.last c.args.aims.now c.aims.founds.items c.push_item-in-aims.new.items.items c.aims.aim-index c.aim-item.result c.in_ok-found.found c.aims-test.true c.aim-item.is c.aims.invariant.1 c.aims.invariant.0 c.in_ok-found.ensures.found c.in_ok-push_item-2.ensures in (
      more.0,
      more.1,
      even_later about.variables c.args.aims.now (c.aims.aim-index + 1) c.requires.even,
      one_known about c.args.search.now.last c.args.search.now.alone c.args.aims.now c.aims.founds.items c.push_item-in-aims.new.items.items c.aims.aim-index c.aim-item.result c.in_ok-found.found c.aims-test.true c.aim-item.is c.aims.invariant.1 c.aims.invariant.3 c.in_ok-found.ensures.known c.in_ok-push_item-2.ensures,
    )

pub found_of-each_found-requires-clause-arguments : goal.found_of-each_found-requires-clause-arguments
found_of-each_found-requires-clause-arguments t c =
    let told = c.in_ok-arguments-in-EachOf.ensures.found in
    argument_over (system_of c.args.search.now) c.args.search.now.last _ c.in_ok-arguments-in-EachOf.arguments.regions.items c.in_ok-arguments-in-EachOf.arguments.nodes.items told.each

pub found_of-some_found-requires-clause-arguments : goal.found_of-some_found-requires-clause-arguments
found_of-some_found-requires-clause-arguments t c =
    let told = c.in_ok-arguments-in-OneOf.ensures.found in
    argument_over (system_of c.args.search.now) c.args.search.now.last _ c.in_ok-arguments-in-OneOf.arguments.regions.items c.in_ok-arguments-in-OneOf.arguments.nodes.items told.each

pub found_of-returns-in_err-child-in-After-clause-refused : goal.found_of-returns-in_err-child-in-After-clause-refused
found_of-returns-in_err-child-in-After-clause-refused t c =
    let about = system_of c.args.search.now in
    let budget = c.args.search.now.setting.now.budget.now in
    let last = c.args.search.now.last in
    let s = aim_states c.in-After.inner.value in
    let e : aim_states c.args.aim.now ≡ statements.after c.in-After.path s =
    ap aim_states c.in-After.is ∙ ap aim_states (sym (rolls-After c.in-After.path c.in-After.inner)) ∙ fold-roll-Aim statements.Statement aim_node (Aim-F.After c.in-After.path c.in-After.inner) in
    subst (λ (w : statements.Statement). IfErr c.from_residual-in_err-child-in-After.result (IsRefusedFor about budget last w)) (sym e)
    (passed_on (IsRefusedFor about budget last (statements.after c.in-After.path s)) c.from_residual-in_err-child-in-After.result c.from_residual-in_err-child-in-After.ensures.1
    (λ r is. after_argument about last budget c.in-After.path s c.in_err-child-in-After.field-0.0 r is (subst (λ (a : Aim). IsRefusedFor about budget last (aim_states a) c.in_err-child-in-After.field-0.0) c.deref-in-After.ensures c.in_err-child-in-After.ensures.refused)))

pub all_found-returns-in_err-found-clause-counted : goal.all_found-returns-in_err-found-clause-counted
all_found-returns-in_err-found-clause-counted t c =
    let about = system_of c.args.search.now in
    let budget = c.args.search.now.setting.now.budget.now in
    let last = c.args.search.now.last in
    let P = AreCountedFor about budget last (aims_state c.args.aims.now) in
    passed_on P c.from_residual-in_err-found.result c.from_residual-in_err-found.ensures.1
    (λ r is. subst P (sym is) (argument_counted about budget last c.in_err-found.field-0.0 c.args.aims.now c.aims.aim-index c.aim-item.result c.aims-test.true c.aim-item.is c.in_err-found.ensures.counted))

pub found_of-returns-in_err-child-in-After-clause-counted : goal.found_of-returns-in_err-child-in-After-clause-counted
found_of-returns-in_err-child-in-After-clause-counted t c =
    let about = system_of c.args.search.now in
    let budget = c.args.search.now.setting.now.budget.now in
    let last = c.args.search.now.last in
    let s = aim_states c.in-After.inner.value in
    let fault = c.in_err-child-in-After.field-0.0 in
    let e : aim_states c.args.aim.now ≡ statements.after c.in-After.path s =
    ap aim_states c.in-After.is ∙ ap aim_states (sym (rolls-After c.in-After.path c.in-After.inner)) ∙ fold-roll-Aim statements.Statement aim_node (Aim-F.After c.in-After.path c.in-After.inner) in
    subst (λ (w : statements.Statement). IfErr c.from_residual-in_err-child-in-After.result (IsCountedFor about budget last w)) (sym e)
    (passed_on (IsCountedFor about budget last (statements.after c.in-After.path s)) c.from_residual-in_err-child-in-After.result c.from_residual-in_err-child-in-After.ensures.1
    (λ r is. subst (IsCountedFor about budget last (statements.after c.in-After.path s)) (sym is) (after_argument_counted about budget last fault c.in-After.path s (subst (λ (a : Aim). IsCountedFor about budget last (aim_states a) fault) c.deref-in-After.ensures c.in_err-child-in-After.ensures.counted))))

pub found_of-returns-in_err-arguments-in-EachOf-clause-counted : goal.found_of-returns-in_err-arguments-in-EachOf-clause-counted
found_of-returns-in_err-arguments-in-EachOf-clause-counted t c =
    let about = system_of c.args.search.now in
    let budget = c.args.search.now.setting.now.budget.now in
    let last = c.args.search.now.last in
    let aims = c.in-EachOf.aims.items in
    let fault = c.in_err-arguments-in-EachOf.field-0.0 in
    let whole = statements.each_of (aims_state aims) in
    let e : aim_states c.args.aim.now ≡ whole =
    ap aim_states c.in-EachOf.is ∙ ap aim_states (sym (rolls-EachOf c.in-EachOf.aims)) ∙ fold-roll-Aim statements.Statement aim_node (Aim-F.EachOf c.in-EachOf.aims) in
    subst (λ (w : statements.Statement). IfErr c.from_residual.result (IsCountedFor about budget last w)) (sym e)
    (passed_on (IsCountedFor about budget last whole) c.from_residual.result c.from_residual.ensures.1
    (λ r is. subst (IsCountedFor about budget last whole) (sym is) (each_argument_counted about budget last fault (aims_state aims) (subst (λ xs. AreCountedFor about budget last (aims_state xs) fault) c.deref-in-EachOf.ensures.value c.in_err-arguments-in-EachOf.ensures.counted))))

pub found_of-returns-in_ok-arguments-in-EachOf-clause-counted : goal.found_of-returns-in_ok-arguments-in-EachOf-clause-counted
found_of-returns-in_ok-arguments-in-EachOf-clause-counted t c =
    let about = system_of c.args.search.now in
    let budget = c.args.search.now.setting.now.budget.now in
    let last = c.args.search.now.last in
    let aims = c.in-EachOf.aims.items in
    let arguments = c.in_ok-arguments-in-EachOf.arguments in
    let e : aim_states c.args.aim.now ≡ statements.each_of (aims_state aims) =
    ap aim_states c.in-EachOf.is ∙ ap aim_states (sym (rolls-EachOf c.in-EachOf.aims)) ∙ fold-roll-Aim statements.Statement aim_node (Aim-F.EachOf c.in-EachOf.aims) in
    let told : AreArguments about last (map aim_states aims) arguments = subst (λ xs. AreArguments about last (map aim_states xs) arguments) c.deref-in-EachOf.ensures.value c.in_ok-arguments-in-EachOf.ensures.found in
    subst (λ (w : statements.Statement). IfErr c.each_found.result (IsCountedFor about budget last w)) (sym e) (if_err c.each_found.result (λ x h. h (map aim_states aims) told) c.each_found.ensures.counted)

pub found_of-returns-in_err-arguments-in-OneOf-clause-counted : goal.found_of-returns-in_err-arguments-in-OneOf-clause-counted
found_of-returns-in_err-arguments-in-OneOf-clause-counted t c =
    let about = system_of c.args.search.now in
    let budget = c.args.search.now.setting.now.budget.now in
    let last = c.args.search.now.last in
    let aims = c.in-OneOf.aims.items in
    let fault = c.in_err-arguments-in-OneOf.field-0.0 in
    let whole = statements.one_of (aims_state aims) in
    let e : aim_states c.args.aim.now ≡ whole =
    ap aim_states c.in-OneOf.is ∙ ap aim_states (sym (rolls-OneOf c.in-OneOf.aims)) ∙ fold-roll-Aim statements.Statement aim_node (Aim-F.OneOf c.in-OneOf.aims) in
    subst (λ (w : statements.Statement). IfErr c.from_residual-in_err-arguments-in-OneOf.result (IsCountedFor about budget last w)) (sym e)
    (passed_on (IsCountedFor about budget last whole) c.from_residual-in_err-arguments-in-OneOf.result c.from_residual-in_err-arguments-in-OneOf.ensures.1
    (λ r is. subst (IsCountedFor about budget last whole) (sym is) (one_argument_counted about budget last fault (aims_state aims) (subst (λ xs. AreCountedFor about budget last (aims_state xs) fault) c.deref-in-OneOf.ensures.value c.in_err-arguments-in-OneOf.ensures.counted))))

pub found_of-returns-in_ok-arguments-in-OneOf-clause-counted : goal.found_of-returns-in_ok-arguments-in-OneOf-clause-counted
found_of-returns-in_ok-arguments-in-OneOf-clause-counted t c =
    let about = system_of c.args.search.now in
    let budget = c.args.search.now.setting.now.budget.now in
    let last = c.args.search.now.last in
    let aims = c.in-OneOf.aims.items in
    let arguments = c.in_ok-arguments-in-OneOf.arguments in
    let e : aim_states c.args.aim.now ≡ statements.one_of (aims_state aims) =
    ap aim_states c.in-OneOf.is ∙ ap aim_states (sym (rolls-OneOf c.in-OneOf.aims)) ∙ fold-roll-Aim statements.Statement aim_node (Aim-F.OneOf c.in-OneOf.aims) in
    let told : AreArguments about last (map aim_states aims) arguments = subst (λ xs. AreArguments about last (map aim_states xs) arguments) c.deref-in-OneOf.ensures.value c.in_ok-arguments-in-OneOf.ensures.found in
    subst (λ (w : statements.Statement). IfErr c.some_found.result (IsCountedFor about budget last w)) (sym e) (if_err c.some_found.result (λ x h. h (map aim_states aims) told) c.some_found.ensures.counted)

pub found_of-returns-in_ok-child-in-After-clause-counted : goal.found_of-returns-in_ok-child-in-After-clause-counted
found_of-returns-in_ok-child-in-After-clause-counted t c =
    let about = system_of c.args.search.now in
    let budget = c.args.search.now.setting.now.budget.now in
    let last = c.args.search.now.last in
    let s = aim_states c.in-After.inner.value in
    let child = c.in_ok-child-in-After.child in
    let e : aim_states c.args.aim.now ≡ statements.after c.in-After.path s =
    ap aim_states c.in-After.is ∙ ap aim_states (sym (rolls-After c.in-After.path c.in-After.inner)) ∙ fold-roll-Aim statements.Statement aim_node (Aim-F.After c.in-After.path c.in-After.inner) in
    let told = subst (λ (a : Aim). IsFound about last (aim_states a) child) c.deref-in-After.ensures c.in_ok-child-in-After.ensures.found in
    subst (λ (w : statements.Statement). IfErr c.after_found.result (IsCountedFor about budget last w)) (sym e) (if_err c.after_found.result (λ x h. h s told) c.after_found.ensures.counted)

pub all_found-returns-clause-found : goal.all_found-returns-clause-found
all_found-returns-clause-found t c =
    let about = system_of c.args.search.now in
    let last = c.args.search.now.last in
    let aims = c.args.aims.now in
    if_ok c.arguments_of.result (λ a h. h about last (map aim_states aims) (all_first about last aims c.aims.founds.items c.aims.aim-index c.aims-test.false c.aims.auto.aim-index-end c.aims.invariant.1 c.aims.invariant.0))
    c.arguments_of.ensures.arguments

pub all_found-aims-preserved-in-Some : goal.all_found-aims-preserved-in-Some
all_found-aims-preserved-in-Some t c =
    let about = system_of c.args.search.now in
    let last = c.args.search.now.last in
    let told = subst (λ o. IfSome o (IsFound about last (aim_states c.aim-item.result))) c.in-Some.is c.in_ok-again.ensures.found in
    let more = one_first about last c.args.aims.now c.aims.founds.items c.push_item.new.items.items c.aims.aim-index c.aim-item.result c.in-Some.again c.aims-test.true c.aim-item.is c.aims.invariant.1 c.aims.invariant.0 told c.in_ok-push_item.ensures in
    let known = subst (λ o. IfSome o (HasKnownStates about last c.args.search.now.alone (aim_states c.aim-item.result))) c.in-Some.is c.in_ok-again.ensures.known in (
      more.0,
      more.1,
      even_later about.variables c.args.aims.now (c.aims.aim-index + 1) c.requires.even,
      one_known about last c.args.search.now.alone c.args.aims.now c.aims.founds.items c.push_item.new.items.items c.aims.aim-index c.aim-item.result c.in-Some.again c.aims-test.true c.aim-item.is c.aims.invariant.1 c.aims.invariant.3 known c.in_ok-push_item.ensures,
    )

pub all_found-returns-clause-known : goal.all_found-returns-clause-known
all_found-returns-clause-known t c =
    let about = system_of c.args.search.now in
    let last = c.args.search.now.last in
    let alone = c.args.search.now.alone in
    let aims = c.args.aims.now in
    if_ok c.arguments_of.result (λ a h. all_known about last alone aims c.aims.founds.items a.regions.items c.aims.aim-index c.aims-test.false c.aims.auto.aim-index-end c.aims.invariant.1 c.aims.invariant.3 h)
    c.arguments_of.ensures.regions

pub found_of-returns-in-Ends-clause-known : goal.found_of-returns-in-Ends-clause-known
found_of-returns-in-Ends-clause-known t c =
    let about = system_of c.args.search.now in
    let last = c.args.search.now.last in
    let alone = c.args.search.now.alone in
    let e : aim_states c.args.aim.now ≡ statements.ends =
    ap aim_states c.in-Ends.is ∙ ap aim_states (sym rolls-Ends) ∙ fold-roll-Aim statements.Statement aim_node Aim-F.Ends in
    subst (λ (w : statements.Statement). IfOk c.ends_found.result (HasKnownStates about last alone w)) (sym e)
    (if_ok c.ends_found.result (λ x h. record { states = λ tame f e rows. h tame f e rows }) c.ends_found.ensures.known)

pub found_of-returns-in-NeverEnds-clause-known : goal.found_of-returns-in-NeverEnds-clause-known
found_of-returns-in-NeverEnds-clause-known t c =
    let about = system_of c.args.search.now in
    let last = c.args.search.now.last in
    let alone = c.args.search.now.alone in
    let e : aim_states c.args.aim.now ≡ statements.never_ends =
    ap aim_states c.in-NeverEnds.is ∙ ap aim_states (sym rolls-NeverEnds) ∙ fold-roll-Aim statements.Statement aim_node Aim-F.NeverEnds in
    subst (λ (w : statements.Statement). IfOk c.never_found.result (HasKnownStates about last alone w)) (sym e)
    (if_ok c.never_found.result (λ x h. record { states = λ tame f e rows. h tame f e rows }) c.never_found.ensures.known)

pub found_of-returns-in_err-front-in-Along-clause-refused : goal.found_of-returns-in_err-front-in-Along-clause-refused
found_of-returns-in_err-front-in-Along-clause-refused t c =
    let about = system_of c.args.search.now in
    let budget = c.args.search.now.setting.now.budget.now in
    let last = c.args.search.now.last in
    let s = aim_states c.in-Along.first.value in
    let o = aim_states c.in-Along.second.value in
    let fault = c.in_err-front-in-Along.field-0.0 in
    let whole = statements.along c.in-Along.path c.in-Along.shape s o in
    let e : aim_states c.args.aim.now ≡ whole =
    ap aim_states c.in-Along.is ∙ ap aim_states (sym (rolls-Along c.in-Along.path c.in-Along.shape c.in-Along.first c.in-Along.second)) ∙ fold-roll-Aim statements.Statement aim_node (Aim-F.Along c.in-Along.path c.in-Along.shape c.in-Along.first c.in-Along.second) in
    subst (λ (w : statements.Statement). IfErr c.from_residual-in_err-front-in-Along.result (IsRefusedFor about budget last w)) (sym e)
    (passed_on (IsRefusedFor about budget last whole) c.from_residual-in_err-front-in-Along.result c.from_residual-in_err-front-in-Along.ensures.1
    (λ r is. first_argument about last budget c.in-Along.path c.in-Along.shape s o fault r is (subst (λ (a : Aim). IsRefusedFor about budget last (aim_states a) fault) c.deref-then-not-must_end.ensures c.in_err-front-in-Along.ensures.refused)))

pub found_of-returns-in_err-front-in-Along-clause-counted : goal.found_of-returns-in_err-front-in-Along-clause-counted
found_of-returns-in_err-front-in-Along-clause-counted t c =
    let about = system_of c.args.search.now in
    let budget = c.args.search.now.setting.now.budget.now in
    let last = c.args.search.now.last in
    let s = aim_states c.in-Along.first.value in
    let o = aim_states c.in-Along.second.value in
    let fault = c.in_err-front-in-Along.field-0.0 in
    let whole = statements.along c.in-Along.path c.in-Along.shape s o in
    let e : aim_states c.args.aim.now ≡ whole =
    ap aim_states c.in-Along.is ∙ ap aim_states (sym (rolls-Along c.in-Along.path c.in-Along.shape c.in-Along.first c.in-Along.second)) ∙ fold-roll-Aim statements.Statement aim_node (Aim-F.Along c.in-Along.path c.in-Along.shape c.in-Along.first c.in-Along.second) in
    subst (λ (w : statements.Statement). IfErr c.from_residual-in_err-front-in-Along.result (IsCountedFor about budget last w)) (sym e)
    (passed_on (IsCountedFor about budget last whole) c.from_residual-in_err-front-in-Along.result c.from_residual-in_err-front-in-Along.ensures.1
    (λ r is. subst (IsCountedFor about budget last whole) (sym is) (first_argument_counted about budget last fault c.in-Along.path c.in-Along.shape s o (subst (λ (a : Aim). IsCountedFor about budget last (aim_states a) fault) c.deref-then-not-must_end.ensures c.in_err-front-in-Along.ensures.counted))))

pub found_of-returns-in_err-back-in-Along-clause-refused : goal.found_of-returns-in_err-back-in-Along-clause-refused
found_of-returns-in_err-back-in-Along-clause-refused t c =
    let about = system_of c.args.search.now in
    let budget = c.args.search.now.setting.now.budget.now in
    let last = c.args.search.now.last in
    let s = aim_states c.in-Along.first.value in
    let o = aim_states c.in-Along.second.value in
    let fault = c.in_err-back-in-Along.field-0.0 in
    let whole = statements.along c.in-Along.path c.in-Along.shape s o in
    let e : aim_states c.args.aim.now ≡ whole =
    ap aim_states c.in-Along.is ∙ ap aim_states (sym (rolls-Along c.in-Along.path c.in-Along.shape c.in-Along.first c.in-Along.second)) ∙ fold-roll-Aim statements.Statement aim_node (Aim-F.Along c.in-Along.path c.in-Along.shape c.in-Along.first c.in-Along.second) in
    subst (λ (w : statements.Statement). IfErr c.from_residual-in_err-back-in-Along.result (IsRefusedFor about budget last w)) (sym e)
    (passed_on (IsRefusedFor about budget last whole) c.from_residual-in_err-back-in-Along.result c.from_residual-in_err-back-in-Along.ensures.1
    (λ r is. second_argument about last budget c.in-Along.path c.in-Along.shape s o fault r is (subst (λ (a : Aim). IsRefusedFor about budget last (aim_states a) fault) c.deref-then-not-must_end-2.ensures c.in_err-back-in-Along.ensures.refused)))

pub found_of-returns-in_err-back-in-Along-clause-counted : goal.found_of-returns-in_err-back-in-Along-clause-counted
found_of-returns-in_err-back-in-Along-clause-counted t c =
    let about = system_of c.args.search.now in
    let budget = c.args.search.now.setting.now.budget.now in
    let last = c.args.search.now.last in
    let s = aim_states c.in-Along.first.value in
    let o = aim_states c.in-Along.second.value in
    let fault = c.in_err-back-in-Along.field-0.0 in
    let whole = statements.along c.in-Along.path c.in-Along.shape s o in
    let e : aim_states c.args.aim.now ≡ whole =
    ap aim_states c.in-Along.is ∙ ap aim_states (sym (rolls-Along c.in-Along.path c.in-Along.shape c.in-Along.first c.in-Along.second)) ∙ fold-roll-Aim statements.Statement aim_node (Aim-F.Along c.in-Along.path c.in-Along.shape c.in-Along.first c.in-Along.second) in
    subst (λ (w : statements.Statement). IfErr c.from_residual-in_err-back-in-Along.result (IsCountedFor about budget last w)) (sym e)
    (passed_on (IsCountedFor about budget last whole) c.from_residual-in_err-back-in-Along.result c.from_residual-in_err-back-in-Along.ensures.1
    (λ r is. subst (IsCountedFor about budget last whole) (sym is) (second_argument_counted about budget last fault c.in-Along.path c.in-Along.shape s o (subst (λ (a : Aim). IsCountedFor about budget last (aim_states a) fault) c.deref-then-not-must_end-2.ensures c.in_err-back-in-Along.ensures.counted))))

pub found_of-returns-in_err-front-in-Along-2-clause-refused : goal.found_of-returns-in_err-front-in-Along-2-clause-refused
found_of-returns-in_err-front-in-Along-2-clause-refused t c =
    let about = system_of c.args.search.now in
    let inner = c.of_arguments-inner.result in
    let outer = c.of_arguments-inner.ensures in
    let budget = c.args.search.now.setting.now.budget.now in
    let last = c.args.search.now.last in
    let s = aim_states c.in-Along.first.value in
    let o = aim_states c.in-Along.second.value in
    let fault = c.in_err-front-in-Along-2.field-0.0 in
    let whole = statements.along c.in-Along.path c.in-Along.shape s o in
    let e : aim_states c.args.aim.now ≡ whole =
    ap aim_states c.in-Along.is ∙ ap aim_states (sym (rolls-Along c.in-Along.path c.in-Along.shape c.in-Along.first c.in-Along.second)) ∙ fold-roll-Aim statements.Statement aim_node (Aim-F.Along c.in-Along.path c.in-Along.shape c.in-Along.first c.in-Along.second) in
    subst (λ (w : statements.Statement). IfErr c.from_residual-in_err-front-in-Along-2.result (IsRefusedFor about budget last w)) (sym e)
    (passed_on (IsRefusedFor about budget last whole) c.from_residual-in_err-front-in-Along-2.result c.from_residual-in_err-front-in-Along-2.ensures.1
    (λ r is. first_argument about last budget c.in-Along.path c.in-Along.shape s o fault r is
    (refused_outer c.args.search.now inner outer.setting outer.last s fault (subst (λ (a : Aim). IsRefusedFor (system_of inner) inner.setting.now.budget.now inner.last (aim_states a) fault) c.deref-in-Along.ensures c.in_err-front-in-Along-2.ensures.refused))))

pub found_of-returns-in_err-front-in-Along-2-clause-counted : goal.found_of-returns-in_err-front-in-Along-2-clause-counted
found_of-returns-in_err-front-in-Along-2-clause-counted t c =
    let about = system_of c.args.search.now in
    let budget = c.args.search.now.setting.now.budget.now in
    let last = c.args.search.now.last in
    let inner = c.of_arguments-inner.result in
    let outer = c.of_arguments-inner.ensures in
    let s = aim_states c.in-Along.first.value in
    let o = aim_states c.in-Along.second.value in
    let fault = c.in_err-front-in-Along-2.field-0.0 in
    let whole = statements.along c.in-Along.path c.in-Along.shape s o in
    let e : aim_states c.args.aim.now ≡ whole =
    ap aim_states c.in-Along.is ∙ ap aim_states (sym (rolls-Along c.in-Along.path c.in-Along.shape c.in-Along.first c.in-Along.second)) ∙ fold-roll-Aim statements.Statement aim_node (Aim-F.Along c.in-Along.path c.in-Along.shape c.in-Along.first c.in-Along.second) in
    subst (λ (w : statements.Statement). IfErr c.from_residual-in_err-front-in-Along-2.result (IsCountedFor about budget last w)) (sym e)
    (passed_on (IsCountedFor about budget last whole) c.from_residual-in_err-front-in-Along-2.result c.from_residual-in_err-front-in-Along-2.ensures.1
    (λ r is. subst (IsCountedFor about budget last whole) (sym is) (first_argument_counted about budget last fault c.in-Along.path c.in-Along.shape s o
    (counted_outer c.args.search.now inner outer.setting outer.last s fault (subst (λ (a : Aim). IsCountedFor (system_of inner) inner.setting.now.budget.now inner.last (aim_states a) fault) c.deref-in-Along.ensures c.in_err-front-in-Along-2.ensures.counted)))))

pub found_of-returns-in_err-back-in-Along-2-clause-refused : goal.found_of-returns-in_err-back-in-Along-2-clause-refused
found_of-returns-in_err-back-in-Along-2-clause-refused t c =
    let about = system_of c.args.search.now in
    let inner = c.of_arguments-inner.result in
    let outer = c.of_arguments-inner.ensures in
    let budget = c.args.search.now.setting.now.budget.now in
    let last = c.args.search.now.last in
    let s = aim_states c.in-Along.first.value in
    let o = aim_states c.in-Along.second.value in
    let fault = c.in_err-back-in-Along-2.field-0.0 in
    let whole = statements.along c.in-Along.path c.in-Along.shape s o in
    let e : aim_states c.args.aim.now ≡ whole =
    ap aim_states c.in-Along.is ∙ ap aim_states (sym (rolls-Along c.in-Along.path c.in-Along.shape c.in-Along.first c.in-Along.second)) ∙ fold-roll-Aim statements.Statement aim_node (Aim-F.Along c.in-Along.path c.in-Along.shape c.in-Along.first c.in-Along.second) in
    subst (λ (w : statements.Statement). IfErr c.from_residual-in_err-back-in-Along-2.result (IsRefusedFor about budget last w)) (sym e)
    (passed_on (IsRefusedFor about budget last whole) c.from_residual-in_err-back-in-Along-2.result c.from_residual-in_err-back-in-Along-2.ensures.1
    (λ r is. second_argument about last budget c.in-Along.path c.in-Along.shape s o fault r is
    (refused_outer c.args.search.now inner outer.setting outer.last o fault (subst (λ (a : Aim). IsRefusedFor (system_of inner) inner.setting.now.budget.now inner.last (aim_states a) fault) c.deref-in-Along-2.ensures c.in_err-back-in-Along-2.ensures.refused))))

pub found_of-returns-in_err-back-in-Along-2-clause-counted : goal.found_of-returns-in_err-back-in-Along-2-clause-counted
found_of-returns-in_err-back-in-Along-2-clause-counted t c =
    let about = system_of c.args.search.now in
    let budget = c.args.search.now.setting.now.budget.now in
    let last = c.args.search.now.last in
    let inner = c.of_arguments-inner.result in
    let outer = c.of_arguments-inner.ensures in
    let s = aim_states c.in-Along.first.value in
    let o = aim_states c.in-Along.second.value in
    let fault = c.in_err-back-in-Along-2.field-0.0 in
    let whole = statements.along c.in-Along.path c.in-Along.shape s o in
    let e : aim_states c.args.aim.now ≡ whole =
    ap aim_states c.in-Along.is ∙ ap aim_states (sym (rolls-Along c.in-Along.path c.in-Along.shape c.in-Along.first c.in-Along.second)) ∙ fold-roll-Aim statements.Statement aim_node (Aim-F.Along c.in-Along.path c.in-Along.shape c.in-Along.first c.in-Along.second) in
    subst (λ (w : statements.Statement). IfErr c.from_residual-in_err-back-in-Along-2.result (IsCountedFor about budget last w)) (sym e)
    (passed_on (IsCountedFor about budget last whole) c.from_residual-in_err-back-in-Along-2.result c.from_residual-in_err-back-in-Along-2.ensures.1
    (λ r is. subst (IsCountedFor about budget last whole) (sym is) (second_argument_counted about budget last fault c.in-Along.path c.in-Along.shape s o
    (counted_outer c.args.search.now inner outer.setting outer.last o fault (subst (λ (a : Aim). IsCountedFor (system_of inner) inner.setting.now.budget.now inner.last (aim_states a) fault) c.deref-in-Along-2.ensures c.in_err-back-in-Along-2.ensures.counted)))))

pub found_of-returns-in_err-wider-in-Along-clause-counted : goal.found_of-returns-in_err-wider-in-Along-clause-counted
found_of-returns-in_err-wider-in-Along-clause-counted t c =
    let about = system_of c.args.search.now in
    let budget = c.args.search.now.setting.now.budget.now in
    let last = c.args.search.now.last in
    let s = aim_states c.in-Along.first.value in
    let o = aim_states c.in-Along.second.value in
    let whole = statements.along c.in-Along.path c.in-Along.shape s o in
    let e : aim_states c.args.aim.now ≡ whole =
    ap aim_states c.in-Along.is ∙ ap aim_states (sym (rolls-Along c.in-Along.path c.in-Along.shape c.in-Along.first c.in-Along.second)) ∙ fold-roll-Aim statements.Statement aim_node (Aim-F.Along c.in-Along.path c.in-Along.shape c.in-Along.first c.in-Along.second) in
    let one = subst (λ (a : Aim). IsFound about last (aim_states a) c.in_ok-front-in-Along.front) c.deref-then-not-must_end.ensures c.in_ok-front-in-Along.ensures.found in
    let other = subst (λ (a : Aim). IsFound about last (aim_states a) c.in_ok-back-in-Along.back) c.deref-then-not-must_end-2.ensures c.in_ok-back-in-Along.ensures.found in
    subst (λ (w : statements.Statement). IfErr c.from_residual-in_err-wider-in-Along.result (IsCountedFor about budget last w)) (sym e)
    (passed_on (IsCountedFor about budget last whole) c.from_residual-in_err-wider-in-Along.result c.from_residual-in_err-wider-in-Along.ensures.1 (λ r is. subst (IsCountedFor about budget last whole) (sym is) (c.in_err-wider-in-Along.ensures.counted s o one other)))

pub found_of-returns-in_err-along-in-Along-clause-counted : goal.found_of-returns-in_err-along-in-Along-clause-counted
found_of-returns-in_err-along-in-Along-clause-counted t c =
    let about = system_of c.args.search.now in
    let budget = c.args.search.now.setting.now.budget.now in
    let inner = c.of_arguments-inner.result in
    let outer = c.of_arguments-inner.ensures in
    let last = c.args.search.now.last in
    let s = aim_states c.in-Along.first.value in
    let o = aim_states c.in-Along.second.value in
    let whole = statements.along c.in-Along.path c.in-Along.shape s o in
    let e : aim_states c.args.aim.now ≡ whole =
    ap aim_states c.in-Along.is ∙ ap aim_states (sym (rolls-Along c.in-Along.path c.in-Along.shape c.in-Along.first c.in-Along.second)) ∙ fold-roll-Aim statements.Statement aim_node (Aim-F.Along c.in-Along.path c.in-Along.shape c.in-Along.first c.in-Along.second) in
    let one = found_outer c.args.search.now inner outer.setting outer.last s c.in_ok-front-in-Along-2.front (subst (λ (a : Aim). IsFound (system_of inner) inner.last (aim_states a) c.in_ok-front-in-Along-2.front) c.deref-in-Along.ensures c.in_ok-front-in-Along-2.ensures.found) in
    let other = found_outer c.args.search.now inner outer.setting outer.last o c.in_ok-back-in-Along-2.back (subst (λ (a : Aim). IsFound (system_of inner) inner.last (aim_states a) c.in_ok-back-in-Along-2.back) c.deref-in-Along-2.ensures c.in_ok-back-in-Along-2.ensures.found) in
    subst (λ (w : statements.Statement). IfErr c.from_residual-in_err-along-in-Along.result (IsCountedFor about budget last w)) (sym e)
    (passed_on (IsCountedFor about budget last whole) c.from_residual-in_err-along-in-Along.result c.from_residual-in_err-along-in-Along.ensures.1 (λ r is. subst (IsCountedFor about budget last whole) (sym is) (c.in_err-along-in-Along.ensures.counted s o one other)))

pub found_of-returns-in_err-along-in-Along-clause-refused : goal.found_of-returns-in_err-along-in-Along-clause-refused
found_of-returns-in_err-along-in-Along-clause-refused t c =
    let about = system_of c.args.search.now in
    let inner = c.of_arguments-inner.result in
    let outer = c.of_arguments-inner.ensures in
    let budget = c.args.search.now.setting.now.budget.now in
    let last = c.args.search.now.last in
    let s = aim_states c.in-Along.first.value in
    let o = aim_states c.in-Along.second.value in
    let whole = statements.along c.in-Along.path c.in-Along.shape s o in
    let e : aim_states c.args.aim.now ≡ whole =
    ap aim_states c.in-Along.is ∙ ap aim_states (sym (rolls-Along c.in-Along.path c.in-Along.shape c.in-Along.first c.in-Along.second)) ∙ fold-roll-Aim statements.Statement aim_node (Aim-F.Along c.in-Along.path c.in-Along.shape c.in-Along.first c.in-Along.second) in
    let one = found_outer c.args.search.now inner outer.setting outer.last s c.in_ok-front-in-Along-2.front (subst (λ (a : Aim). IsFound (system_of inner) inner.last (aim_states a) c.in_ok-front-in-Along-2.front) c.deref-in-Along.ensures c.in_ok-front-in-Along-2.ensures.found) in
    let other = found_outer c.args.search.now inner outer.setting outer.last o c.in_ok-back-in-Along-2.back (subst (λ (a : Aim). IsFound (system_of inner) inner.last (aim_states a) c.in_ok-back-in-Along-2.back) c.deref-in-Along-2.ensures c.in_ok-back-in-Along-2.ensures.found) in
    subst (λ (w : statements.Statement). IfErr c.from_residual-in_err-along-in-Along.result (IsRefusedFor about budget last w)) (sym e)
    (passed_on (IsRefusedFor about budget last whole) c.from_residual-in_err-along-in-Along.result c.from_residual-in_err-along-in-Along.ensures.1 (λ r is. subst (IsRefusedFor about budget last whole) (sym is) (c.in_err-along-in-Along.ensures.refused s o one other)))

pub found_of-returns-then-wider-clause-found : goal.found_of-returns-then-wider-clause-found
found_of-returns-then-wider-clause-found t c =
    let about = system_of c.args.search.now in
    let last = c.args.search.now.last in
    let s = aim_states c.in-Along.first.value in
    let o = aim_states c.in-Along.second.value in
    let e : aim_states c.args.aim.now ≡ statements.along c.in-Along.path c.in-Along.shape s o =
    ap aim_states c.in-Along.is ∙ ap aim_states (sym (rolls-Along c.in-Along.path c.in-Along.shape c.in-Along.first c.in-Along.second)) ∙ fold-roll-Aim statements.Statement aim_node (Aim-F.Along c.in-Along.path c.in-Along.shape c.in-Along.first c.in-Along.second) in
    let one = subst (λ (a : Aim). IsFound about last (aim_states a) c.in_ok-front-in-Along.front) c.deref-then-not-must_end.ensures c.in_ok-front-in-Along.ensures.found in
    let other = subst (λ (a : Aim). IsFound about last (aim_states a) c.in_ok-back-in-Along.back) c.deref-then-not-must_end-2.ensures c.in_ok-back-in-Along.ensures.found in
    subst (λ (w : statements.Statement). IsFound about last w c.in_ok-wider-in-Along.wider.found) (sym e) (c.in_ok-wider-in-Along.ensures.found s o one other)

pub found_of-returns-then-wider-clause-known : goal.found_of-returns-then-wider-clause-known
found_of-returns-then-wider-clause-known t c =
    let about = system_of c.args.search.now in
    let last = c.args.search.now.last in
    let alone = c.args.search.now.alone in
    let s = aim_states c.in-Along.first.value in
    let o = aim_states c.in-Along.second.value in
    let e : aim_states c.args.aim.now ≡ statements.along c.in-Along.path c.in-Along.shape s o =
    ap aim_states c.in-Along.is ∙ ap aim_states (sym (rolls-Along c.in-Along.path c.in-Along.shape c.in-Along.first c.in-Along.second)) ∙ fold-roll-Aim statements.Statement aim_node (Aim-F.Along c.in-Along.path c.in-Along.shape c.in-Along.first c.in-Along.second) in
    let one_known = subst (λ (a : Aim). HasKnownStates about last alone (aim_states a) c.in_ok-front-in-Along.front) c.deref-then-not-must_end.ensures c.in_ok-front-in-Along.ensures.known in
    let other_known = subst (λ (a : Aim). HasKnownStates about last alone (aim_states a) c.in_ok-back-in-Along.back) c.deref-then-not-must_end-2.ensures c.in_ok-back-in-Along.ensures.known in
    let may : must_end c.in-Along.shape ≡ false = sym c.must_end.ensures ∙ c.if-not-must_end.true in
    subst (λ (w : statements.Statement). HasKnownStates about last alone w c.in_ok-wider-in-Along.wider.found) (sym e)
    (c.in_ok-wider-in-Along.ensures.settled c.if-not-search.true may c.if-wider.true s o one_known other_known)

pub found_of-returns-in_ok-along-in-Along-clause-found : goal.found_of-returns-in_ok-along-in-Along-clause-found
found_of-returns-in_ok-along-in-Along-clause-found t c =
    let about = system_of c.args.search.now in
    let inner = c.of_arguments-inner.result in
    let outer = c.of_arguments-inner.ensures in
    let last = c.args.search.now.last in
    let s = aim_states c.in-Along.first.value in
    let o = aim_states c.in-Along.second.value in
    let e : aim_states c.args.aim.now ≡ statements.along c.in-Along.path c.in-Along.shape s o =
    ap aim_states c.in-Along.is ∙ ap aim_states (sym (rolls-Along c.in-Along.path c.in-Along.shape c.in-Along.first c.in-Along.second)) ∙ fold-roll-Aim statements.Statement aim_node (Aim-F.Along c.in-Along.path c.in-Along.shape c.in-Along.first c.in-Along.second) in
    let one = found_outer c.args.search.now inner outer.setting outer.last s c.in_ok-front-in-Along-2.front (subst (λ (a : Aim). IsFound (system_of inner) inner.last (aim_states a) c.in_ok-front-in-Along-2.front) c.deref-in-Along.ensures c.in_ok-front-in-Along-2.ensures.found) in
    let other = found_outer c.args.search.now inner outer.setting outer.last o c.in_ok-back-in-Along-2.back (subst (λ (a : Aim). IsFound (system_of inner) inner.last (aim_states a) c.in_ok-back-in-Along-2.back) c.deref-in-Along-2.ensures c.in_ok-back-in-Along-2.ensures.found) in
    subst (λ (w : statements.Statement). IsFound about last w c.in_ok-along-in-Along.along.found) (sym e) (c.in_ok-along-in-Along.ensures.found s o one other)

pub found_of-returns-in_ok-along-in-Along-clause-known : goal.found_of-returns-in_ok-along-in-Along-clause-known
found_of-returns-in_ok-along-in-Along-clause-known t c =
    let about = system_of c.args.search.now in
    let inner = c.of_arguments-inner.result in
    let outer = c.of_arguments-inner.ensures in
    let last = c.args.search.now.last in
    let alone = c.args.search.now.alone in
    let s = aim_states c.in-Along.first.value in
    let o = aim_states c.in-Along.second.value in
    let e : aim_states c.args.aim.now ≡ statements.along c.in-Along.path c.in-Along.shape s o =
    ap aim_states c.in-Along.is ∙ ap aim_states (sym (rolls-Along c.in-Along.path c.in-Along.shape c.in-Along.first c.in-Along.second)) ∙ fold-roll-Aim statements.Statement aim_node (Aim-F.Along c.in-Along.path c.in-Along.shape c.in-Along.first c.in-Along.second) in
    let one = found_outer c.args.search.now inner outer.setting outer.last s c.in_ok-front-in-Along-2.front (subst (λ (a : Aim). IsFound (system_of inner) inner.last (aim_states a) c.in_ok-front-in-Along-2.front) c.deref-in-Along.ensures c.in_ok-front-in-Along-2.ensures.found) in
    let other = found_outer c.args.search.now inner outer.setting outer.last o c.in_ok-back-in-Along-2.back (subst (λ (a : Aim). IsFound (system_of inner) inner.last (aim_states a) c.in_ok-back-in-Along-2.back) c.deref-in-Along-2.ensures c.in_ok-back-in-Along-2.ensures.found) in
    let one_known = known_outer c.args.search.now inner outer.setting outer.last inner.alone s c.in_ok-front-in-Along-2.front (subst (λ (a : Aim). HasKnownStates (system_of inner) inner.last inner.alone (aim_states a) c.in_ok-front-in-Along-2.front) c.deref-in-Along.ensures c.in_ok-front-in-Along-2.ensures.known) in
    let other_known = known_outer c.args.search.now inner outer.setting outer.last inner.alone o c.in_ok-back-in-Along-2.back (subst (λ (a : Aim). HasKnownStates (system_of inner) inner.last inner.alone (aim_states a) c.in_ok-back-in-Along-2.back) c.deref-in-Along-2.ensures c.in_ok-back-in-Along-2.ensures.known) in
    let within : IsAloneIn alone c.in-Along.shape inner.alone = record { kept = outer.alone; shrinking = outer.shrinking } in
    subst (λ (w : statements.Statement). HasKnownStates about last alone w c.in_ok-along-in-Along.along.found) (sym e)
    (c.in_ok-along-in-Along.ensures.known inner.alone within s o one other one_known other_known)

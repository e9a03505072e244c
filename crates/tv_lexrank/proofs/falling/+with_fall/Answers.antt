use Rattle.std.proofs.Common.{rules, ◌∙◌, ◌+◌, ◌^◌, ◌<◌, ◌++◌, map, ap, sym, subst, arith}
use Rattle.tv_linear.specs.declared.cover.CoverTree as cover
use Rattle.tv_farkas.specs.Refuting.{AreShort}
use Rattle.tv_farkas.specs.Stretching.{IsSplitOf}
use Rattle.tv_farkas.specs.Trees.{TreeNumbers}
use Rattle.tv_rank.specs.Given.{lists}
use Rattle.tv_lexrank.specs.Falling.{spread, HasFall}
use Rattle.tv_lexrank.proofs.FallLemmas.{split_falls, empty_falls, into_falls}
use Rattle.tv_lexrank.proofs.falling.+with_fall.Goals as goal

pub returns-in_ok-split_of-in-Split : goal.returns-in_ok-split_of-in-Split
returns-in_ok-split_of-in-Split t c =
    let fall = c.args.fall.now in
    let above = c.args.above in
    let a = c.in_ok-holds-in-Split.holds in
    let b = c.in_ok-fails-in-Split.fails in
    let new = c.in_ok-split_of-in-Split.field-0 in
    let s = subst (λ r. IsSplitOf r a b new) c.in_ok-copy_row-in-Split.ensures.same c.in_ok-split_of-in-Split.ensures in
    let h = subst (λ x. HasFall fall (above + 1) x a) c.deref.ensures c.in_ok-holds-in-Split.ensures in
    let g = subst (λ x. HasFall fall (above + 1) x b) c.deref-in-Split.ensures c.in_ok-fails-in-Split.ensures in
    subst (λ x. HasFall fall above x new) (sym c.in-Split.is) (split_falls fall above c.in-Split.row _ _ _ _ a b new c.copy_row.ensures.narrow s h g)

pub returns-in_ok-from_slice-in-Empty : goal.returns-in_ok-from_slice-in-Empty
returns-in_ok-from_slice-in-Empty t c =
    subst (λ x. HasFall c.args.fall.now c.args.above x (cover.Empty c.in_ok-from_slice-in-Empty.field-0)) (sym c.in-Empty.is)
    (empty_falls c.args.fall.now c.args.above c.in-Empty.multipliers c.in_ok-from_slice-in-Empty.field-0 (c.in_ok-from_slice-in-Empty.ensures.items ∙ c.deref-in-Empty.ensures.value) (subst (TreeNumbers AreShort) c.in-Empty.is c.requires.short))

pub returns-in_ok-append_spread-in-Into : goal.returns-in_ok-append_spread-in-Into
returns-in_ok-append_spread-in-Into t c =
    let fall = c.args.fall.now in
    let above = c.args.above in
    let number = c.number_of.ensures in
    let small : c.in-Into.target < 2 ^ 32 = search rules in
    let slim : c.number_of.result < 2 ^ 32 = search rules in
    let old = c.in_ok-lists-in-Into.ensures ∙ ap lists c.deref-in-Into.ensures.value in
    let lines = ap lists c.deref-in-Into-2.ensures.value in
    let e = c.in_ok-append_spread-in-Into.ensures ∙ (λ i. old i ++ map (spread above) (lines i)) in
    subst (λ x. HasFall fall above x (cover.Into c.in-Into.target c.number_of.result c.append_spread.new.lists)) (sym c.in-Into.is)
    (subst (λ m. HasFall fall above (cover.Into c.in-Into.target c.in-Into.fall c.in-Into.refutations) (cover.Into c.in-Into.target m c.append_spread.new.lists)) (sym number)
    (into_falls fall above c.in-Into.target c.in-Into.fall c.in-Into.refutations c.append_spread.new.lists e small (omega (arith, number, slim)) (subst (TreeNumbers AreShort) c.in-Into.is c.requires.short) c.requires.lines))

use Rattle.std.proofs.Common.{◌∙◌, ◌+◌, ◌++◌, subst, sym, ap, map}
use Rattle.tv_linear.specs.declared.cover.CoverTree as cover
use Rattle.tv_farkas.specs.Stretching.{IsSplitOf}
use Rattle.tv_rank.specs.Given.{lists}
use Rattle.tv_shape.specs.Narrow.{CoverNarrow, CountNarrow}
use Rattle.tv_lexrank.specs.Falling.{spread}
use Rattle.tv_pre.specs.Lowering.{IsLowered}
use Rattle.tv_pre.proofs.LoweringLemmas.{split_of_lowers, empty_lowers, done_lowers, onward_lowers}
use Rattle.tv_pre.proofs.lowering.+lowered.Goals as goal

pub returns-then-target-first : goal.returns-then-target-first
returns-then-target-first t c =
    subst (λ tree. IsLowered c.args.fall.now c.args.first c.args.above tree (cover.Into c.in-Into.target c.in-Into.none c.in_ok-lists-in-Into.lists)) (sym c.in-Into.is)
    (done_lowers c.args.fall.now c.args.first c.args.above c.in-Into.target c.in-Into.none c.in-Into.refutations c.in_ok-lists-in-Into.lists
    (c.in_ok-lists-in-Into.ensures ∙ ap lists c.deref-in-Into.ensures.value) c.if-target-first.true (subst CoverNarrow c.in-Into.is c.requires.narrow))

pub returns-in_ok-split_of-in-Split : goal.returns-in_ok-split_of-in-Split
returns-in_ok-split_of-in-Split t c =
    let fall = c.args.fall.now in
    let first = c.args.first in
    let above = c.args.above in
    let a = c.in_ok-holds-in-Split.holds in
    let b = c.in_ok-fails-in-Split.fails in
    let new = c.in_ok-split_of-in-Split.field-0 in
    let narrow = subst CoverNarrow c.in-Split.is c.requires.narrow in
    let s = subst (λ r. IsSplitOf r a b new) c.in_ok-copy-in-Split.ensures c.in_ok-split_of-in-Split.ensures in
    let h = subst (λ x. IsLowered fall first (above + 1) x a) c.deref.ensures c.in_ok-holds-in-Split.ensures in
    let g = subst (λ x. IsLowered fall first (above + 1) x b) c.deref-in-Split.ensures c.in_ok-fails-in-Split.ensures in
    subst (λ x. IsLowered fall first above x new) (sym c.in-Split.is) (split_of_lowers fall first above c.in-Split.row _ _ _ _ a b new narrow.0 s h g)

pub returns-in_ok-from_slice-in-Empty : goal.returns-in_ok-from_slice-in-Empty
returns-in_ok-from_slice-in-Empty t c =
    subst (λ x. IsLowered c.args.fall.now c.args.first c.args.above x (cover.Empty c.in_ok-from_slice-in-Empty.field-0)) (sym c.in-Empty.is)
    (empty_lowers c.args.fall.now c.args.first c.args.above c.in-Empty.multipliers c.in_ok-from_slice-in-Empty.field-0 (c.in_ok-from_slice-in-Empty.ensures.items ∙ c.deref-in-Empty.ensures.value)
    (subst CoverNarrow c.in-Empty.is c.requires.narrow))

pub returns-in_ok-append_spread-in-Into : goal.returns-in_ok-append_spread-in-Into
returns-in_ok-append_spread-in-Into t c =
    let fall = c.args.fall.now in
    let first = c.args.first in
    let above = c.args.above in
    let number = c.number_of.ensures.is in
    let old = c.in_ok-lists-in-Into.ensures ∙ ap lists c.deref-in-Into.ensures.value in
    let lines = ap lists c.deref-in-Into-2.ensures.value in
    let e = c.in_ok-append_spread-in-Into.ensures ∙ (λ i. old i ++ map (spread above) (lines i)) in
    subst (λ x. IsLowered fall first above x (cover.Into c.in-Into.target c.number_of.result c.append_spread.new.lists)) (sym c.in-Into.is)
    (subst (λ m. IsLowered fall first above (cover.Into c.in-Into.target c.in-Into.none c.in-Into.refutations) (cover.Into c.in-Into.target m c.append_spread.new.lists)) (sym number)
    (onward_lowers fall first above c.in-Into.target c.in-Into.none c.in-Into.refutations c.append_spread.new.lists e c.if-target-first.false (subst CountNarrow number c.number_of.ensures.narrow)
    (subst CoverNarrow c.in-Into.is c.requires.narrow) c.requires.lines))

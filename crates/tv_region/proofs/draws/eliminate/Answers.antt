use Rattle.std.proofs.Common.{◌⊎◌, ◌+◌, subst, sym, pos, negsuc}
use Rattle.tv_region.specs.Met.{Has}
use Rattle.tv_region.specs.Draws.{AllEnd, IsSummed, IsWideAmong, IsWideDrawn}
use Rattle.tv_region.proofs.AddLemmas.{row_fault_weaker}
use Rattle.tv_region.proofs.PartLemmas.{wide_among_drawn}
use Rattle.tv_region.proofs.DrawLemmas.{eliminated_is}
use Rattle.tv_region.proofs.draws.eliminate.Goals as goal

pub returns-in-Ok-clause-projected : goal.returns-in-Ok-clause-projected
returns-in-Ok-clause-projected c =
    let n = c.args.column in
    let us = c.in_ok-parts.parts.uppers.items in
    let ls = c.in_ok-parts.parts.lowers.items in
    let rs = c.in_ok-parts.parts.rest.items in
    let one = subst (λ k. IsSummed n k c.deref-4.result.now rs c.in-Ok.rows.items) c.deref-3.ensures.value c.in-Ok.ensures.summed in
    let two = subst (λ k. IsSummed n us k rs c.in-Ok.rows.items) c.deref-4.ensures.value one in
    eliminated_is n c.args.rows.now us ls rs c.in-Ok.rows.items c.in_ok-parts.ensures two c.requires c.is_exact-exact.result
    (λ x. subst (λ k. AllEnd n (pos 1) k ⊎ AllEnd n (negsuc 0) ls) c.deref.ensures.value
    (subst (λ k. AllEnd n (pos 1) c.deref.result.now ⊎ AllEnd n (negsuc 0) k) c.deref-2.ensures.value (c.is_exact-exact.ensures.exact x)))
    (λ h. c.is_exact-exact.ensures.units (subst (AllEnd n (pos 1)) (sym c.deref.ensures.value) h))

pub returns-clause-refused : goal.returns-clause-refused
returns-clause-refused c =
    let n = c.args.column in
    let us = c.in_ok-parts.parts.uppers.items in
    let ls = c.in_ok-parts.parts.lowers.items in
    let rs = c.in_ok-parts.parts.rest.items in
    row_fault_weaker (IsWideAmong n c.deref-3.result.now c.deref-4.result.now) (IsWideDrawn n (n + 1) c.args.rows.now)
    (λ k w. wide_among_drawn n c.args.rows.now us ls rs c.in_ok-parts.ensures k
    (w.0, w.1, subst (λ x. Has x w.0) c.deref-3.ensures.value w.2, subst (λ x. Has x w.1) c.deref-4.ensures.value w.3, w.4)) c.in-Err.fault c.in-Err.ensures.refused

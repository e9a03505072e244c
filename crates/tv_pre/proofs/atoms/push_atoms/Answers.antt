use Rattle.std.proofs.Common.{◌∙◌, All, map, length, arith, ap, subst}
use Rattle.tv_linear.specs.Linear.{IsNarrow}
use Rattle.tv_cases.specs.Systems.{cases_of}
use Rattle.tv_cover.specs.Targets.{AreEven}
use Rattle.tv_pre.specs.Atoms.{AreAtoms}
use Rattle.tv_pre.proofs.AtomLemmas.{one_atom}
use Rattle.tv_pre.proofs.OfferLemmas.{got_mapped}
use Rattle.tv_pre.proofs.atoms.push_atoms.Goals as goal
use Rattle.std.proofs.lemmas.List.{length-map}
use Rattle.std.specs.Option.{option_map}
use Rattle.tv_linear.proofs.ListLaws.{take_past, all_at, all_unmapped}
use Rattle.tv_points.proofs.PlaceLemmas.{got as got_at}

pub lists-preserved : goal.lists-preserved
lists-preserved c =
    let about = cases_of c.args.about.now in
    let vs = c.args.lists.now in
    let k = c.lists.place in
    let v = c.index-lists-place.result in
    let lists = map (λ v. v.items) vs in
    let e = c.deref-rows.ensures.value in
    let got = got_mapped (λ v. v.items) vs k ∙ ap (option_map (λ v. v.items)) (got_at vs k v c.lists-test.true c.index-lists-place.is) in
    let even = all_at (λ v. AreEven about.variables v.items) vs k v (all_unmapped (AreEven about.variables) (λ v. v.items) vs c.requires.even) c.lists-test.true c.index-lists-place.is in
    let bounded = c.requires.bounded in
    let l = c.lists-test.true in
    let made = c.in_ok-piece_of.ensures in
    one_atom about c.args.location k (length c.deref-rows.result.now) lists v.items c.in_ok-piece_of.field-0 c.in_ok-own_cover.field-0 c.args.made.now.pieces.items c.lists.made.pieces.items c.push_item.new.items.items c.args.made.now.proofs.items c.lists.made.proofs.items c.push_item-in-lists.new.items.items
    c.requires.place (omega (arith, bounded, l)) got even (subst (All IsNarrow) e c.narrow_rows.ensures) made.place (made.columns ∙ c.variables-variables.ensures.same) (made.rows ∙ e) (ap length e) c.in_ok-own_cover.ensures
    c.in_ok-push_item.ensures c.in_ok-push_item-2.ensures c.lists.invariant

pub returns : goal.returns
returns c =
    let about = cases_of c.args.about.now in
    let lists = map (λ v. v.items) c.args.lists.now in
    let l = c.lists-test.false in
    let many = length-map c.args.lists.now (λ v. v.items) in
    subst (λ rows. AreAtoms about c.args.location lists rows c.args.made.now.pieces.items c.args.made.now.proofs.items c.lists.made.pieces.items c.lists.made.proofs.items) (take_past lists c.lists.place (omega (arith, l, many))) c.lists.invariant

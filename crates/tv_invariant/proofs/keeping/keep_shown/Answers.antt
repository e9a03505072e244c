use Rattle.std.proofs.Common.{refl, subst}
use Rattle.tv_invariant.specs.Thinning.{Shows}
use Rattle.tv_invariant.proofs.keeping.keep_shown.Goals as goal

pub returns : goal.returns
returns c =
    let columns = c.args.columns in
    let row = c.args.row.now in
    let tree = c.args.tree.now in
    let is_shown : Shows columns c.args.from.items row tree = subst (λ rows. Shows columns rows row tree) c.deref.ensures.value (c.is_shown_by.ensures.exact.0 c.if-not-is_shown_by.false) in
    record {
      shown = λ s. record {
        more = _;
        added = c.in_ok-push_item.ensures;
        over = refl;
        same = c.in_ok-row.ensures;
        by = refl;
      };
      unshown = λ n. absurd (n is_shown);
    }

use Rattle.std.proofs.Common.{◌∙◌, ap, length, ◌≡◌, refl, ◌++◌, ◌∷◌, [], inr, subst, sym, pos, All}
use Rattle.std.specs.List.{Contains}
use Rattle.std.proofs.lemmas.List.Elements.{All-from_get_or}
use Rattle.tv_linear.specs.Linear.{IsWithin}
use Rattle.tv_linear.specs.Arithmetic.{denial}
use Rattle.tv_farkas.specs.Refuting.{AreShort}
use Rattle.tv_farkas.specs.Stretching.{stretched}
use Rattle.tv_farkas.proofs.StretchLemmas.{stretched_short}
use Rattle.tv_cover.specs.Targets.{lists_of}
use Rattle.tv_cover.specs.Trying.{IsWideDenialAt}
use Rattle.tv_cover.specs.Looking.{IsRefusedAt}
use Rattle.tv_cover.proofs.LookLemmas.{refused_with, refuted_with, short_with, witness_with, looked_point, looked_none}
use Rattle.tv_cover.proofs.SharedLemmas.{own_showing}
use Rattle.tv_cover.proofs.looking.show.Goals as goal

pub shortened-requires : goal.shortened-requires
shortened-requires c =
    let h = short_with c.args.question.now.columns c.args.rows.now.items c.in-Ok.denied c.in-Ok-Empty.field-0 c.in-Ok-Empty.multipliers c.in-Ok-Empty.field-0-is c.in-Ok-Empty.ensures.1 in
    subst (λ v. All (IsWithin 62) v) (sym c.deref-in-Ok-Empty.ensures.value) (All-from_get_or (IsWithin 62) c.in-Ok-Empty.multipliers.items (pos 0) h)

pub returns-in-Err : goal.returns-in-Err
returns-in-Err c =
    let n = c.args.question.now.columns in
    let kept = c.args.rows.now.items in
    let row = c.args.row.now in
    let e = c.in-Ok.ensures.exact.same in
    refused_with (IsWideDenialAt row) n (lists_of c.args.question.now.targets.now) kept (denial row) c.args.question.now.pivots c.in-Err.fault (row, c.requires.target, inr (refl, c.in-Ok.ensures.exact.fits))
    (subst (λ r. Contains kept r → ⊥) e (subst (λ k. Contains k c.in-Ok.denied → ⊥) c.deref-2.ensures.value c.if-has_point.ensures))
    (subst (λ r. IsRefusedAt n (kept ++ r ∷ []) c.args.question.now.pivots c.in-Err.fault) e c.in-Err.ensures)

pub returns-in_ok-push_item-in-Ok-Point : goal.returns-in_ok-push_item-in-Ok-Point
returns-in_ok-push_item-in-Ok-Point c =
    let n = c.args.question.now.columns in
    let kept = c.args.rows.now.items in
    let row = denial c.args.row.now in
    let w = witness_with n kept c.in-Ok.denied row c.in-Ok-Point.field-0 c.in-Ok-Point.values c.in-Ok-Point.scale c.in-Ok.ensures.exact.same c.in-Ok-Point.field-0-is c.in-Ok-Point.ensures.1 in
    let p = looked_point n kept c.refute_with.new.rows.items row c.in-Ok-Point.values c.in-Ok-Point.scale c.args.points.now.items c.push_item.new.items.items w c.requires.points c.in-Ok-Point.ensures.0 c.in_ok-push_item-in-Ok-Point.ensures in
    (p.0, (c.in-Ok.ensures.exact.fits, p.1))

pub returns-in-Some : goal.returns-in-Some
returns-in-Some c =
    let n = c.args.question.now.columns in
    let kept = c.args.rows.now.items in
    let marks = c.args.question.now.repeated.now in
    let count : c.len.result ≡ length kept = c.len.ensures ∙ c.args.rows.now.ok.0 in (
      looked_none n kept c.args.points.now.items c.requires.points,
      own_showing n marks kept c.deref.result.now c.args.row.now c.in-Some.place c.len.result c.deref-in-Some.result.now c.in_ok-stretch.field-0.items c.in-Ok.ensures.exact.fits c.deref.ensures.value c.in-Some.ensures count (c.deref-in-Some.ensures.value ∙ c.in_ok-pair.ensures) c.in_ok-stretch.ensures,
    )

pub returns-in_ok-stretch-in-Ok-Empty : goal.returns-in_ok-stretch-in-Ok-Empty
returns-in_ok-stretch-in-Ok-Empty c =
    let n = c.args.question.now.columns in
    let kept = c.args.rows.now.items in
    let marks = c.args.question.now.repeated.now in
    let ms = c.in-Ok-Empty.multipliers in
    let row = denial c.args.row.now in
    let e = c.in_ok-stretch-in-Ok-Empty.ensures ∙ ap (λ m. stretched marks m) (c.deref-in-Ok-Empty-2.ensures.value ∙ c.in_ok-short-in-Ok-Empty.ensures ∙ c.deref-in-Ok-Empty.ensures.value) in
    let s = short_with n kept c.in-Ok.denied c.in-Ok-Empty.field-0 ms c.in-Ok-Empty.field-0-is c.in-Ok-Empty.ensures.1 in (
      record { same = c.in-Ok-Empty.ensures.0; witnesses = c.requires.points },
      record {
        narrow = c.in-Ok.ensures.exact.fits;
        short = subst (λ m. AreShort m) (sym e) (stretched_short marks ms.items s);
        multipliers = ms.items;
        refutes = refuted_with n kept c.in-Ok.denied row c.in-Ok-Empty.field-0 ms c.in-Ok.ensures.exact.same c.in-Ok-Empty.field-0-is c.in-Ok-Empty.ensures.1;
        stretch = e;
      },
    )

use Rattle.std.proofs.Common.{◌≡◌, ◌∙◌, ◌++◌, [], ◌∷◌, List, length, take, drop, map, true, refl, sym, ap, subst}
use Rattle.std.proofs.Math.Seq.{take-append_seam, drop-append_seam}
use Rattle.std.proofs.lemmas.List.{append-nil}
use Rattle.std.proofs.lemmas.List.Elements.{All-nil, All-append}
use Rattle.tv_linear.specs.Linear.{columns}
use Rattle.tv_cases.specs.Systems.{cases_of}
use Rattle.tv_cert.specs.declared.node.Mark.TheVariants.{Done, Go}
use Rattle.tv_cert.specs.declared.node.Marked.{Marked}
use Rattle.tv_cert.specs.Shapes.{PieceShape}
use Rattle.tv_region.specs.Regions.{IsPieceOf}
use Rattle.tv_pre.specs.Fixed.{IsJoined}
use Rattle.tv_formula.specs.Properties.{fix}
use Rattle.tv_pre.specs.Parts.{IsPart}
use Rattle.tv_pre.specs.Making.{ArePiecesOf, IsMade}
use Rattle.tv_pre.specs.Pieces.{AreMarked, ArePieces, marked_as}
use Rattle.tv_pre.proofs.FixedLemmas.{each_goes, fixed_part}
use Rattle.tv_pre.proofs.PieceLemmas.{are_marked, marked_append, marked_shape}
use Rattle.tv_pre.proofs.staying.weak.Goals as goal

pub returns-clause-region : goal.returns-clause-region
returns-clause-region c =
    let about = cases_of c.args.setting.now.about.now in
    let made = c.in_ok-own.ensures in
    let over : ArePieces about c.in_ok-own.own.pieces.items =
    subst (ArePieces about) (sym made.pieces) (All-append (IsPieceOf about.variables about.locations) c.args.done.pieces.items c.args.onward.pieces.items c.requires.done.pieces c.requires.onward.pieces)
    in
    subst (IsJoined about (c.args.done ∷ c.args.onward ∷ [])) (sym c.in_ok-part_of.ensures.region) (record {
      over = record { variables = made.variables ∙ c.requires.done.variables; locations = made.locations ∙ c.requires.done.locations; pieces = over };
      pieces = made.pieces ∙ ap (λ qs. c.args.done.pieces.items ++ qs) (sym (append-nil c.args.onward.pieces.items));
    })

pub returns-clause-part : goal.returns-clause-part
returns-clause-part c f g below =
    let about = cases_of c.args.setting.now.about.now in
    let sides = c.args.sides.now in
    let own = c.in_ok-own.own in
    let done = c.args.done.pieces.items in
    let onward = c.args.onward.pieces.items in
    let whole = c.deref-list.ensures.value ∙ c.in_ok-own.ensures.pieces in
    let count = ap length c.deref-first.ensures.value in
    let front = c.split_at.ensures.front ∙ (λ i. take (count i) (whole i)) ∙ take-append_seam done onward in
    let back = c.split_at.ensures.back ∙ (λ i. drop (count i) (whole i)) ∙ drop-append_seam done onward in
    let ps : List Marked = map (marked_as about.variables Done []) done in
    let qs : List Marked = map (marked_as about.variables Go []) onward in
    let pieces : c.push_marked-2.new.list.items ≡ ps ++ qs =
    c.in_ok-push_marked-2.ensures
    ∙ (λ i. (c.in_ok-push_marked.ensures ∙ (λ j. c.new-pieces.ensures.items j ++ map (marked_as (c.variables-variables.ensures.same j) Done []) (front j))) i ++ map (marked_as (c.variables-variables.ensures.same i) Go []) (back i))
    in
    let same : AreMarked (ps ++ qs) own.pieces.items = subst (AreMarked (ps ++ qs)) (sym c.in_ok-own.ensures.pieces) (marked_append ps qs done onward (are_marked about.variables Done [] done) (are_marked about.variables Go [] onward)) in
    let are : ArePiecesOf about own true 0 (ps ++ qs) = record {
      same = same;
      shape = All-append (PieceShape about 0 true) ps qs
          (marked_shape about 0 true Done [] (All-nil (λ r. columns r ≡ about.variables)) refl (λ e. let no : ⊥ = cc in absurd no) done c.requires.done.pieces)
          (marked_shape about 0 true Go [] (All-nil (λ r. columns r ≡ about.variables)) refl (λ e. refl) onward c.requires.onward.pieces);
    } in
    let made : IsMade about own true 0 (ps ++ qs) c.args.children.items c.in-Ok.proofs.items c.in_ok-part_of.field-0.node =
    subst (λ xs. IsMade about own true 0 xs c.args.children.items c.in-Ok.proofs.items c.in_ok-part_of.field-0.node) pieces (c.in_ok-part_of.ensures.made about true (subst (ArePiecesOf about own true 0) (sym pieces) are))
    in
    subst (λ r. IsPart about (fix sides.path sides.shape f g) r c.in_ok-part_of.field-0.node) (sym c.in_ok-part_of.ensures.region)
    (fixed_part about sides.path sides.shape f g own c.in_ok-part_of.field-0.node 0 ps qs sides.first.now sides.second.now c.args.children.items c.in-Ok.proofs.items made (λ e. refl) (each_goes about.variables Done [] done) (each_goes about.variables Go [] onward) below
    (λ number a b m n. c.in-Ok.ensures.shows number (ps ++ qs) a b ps qs m n same (subst (AreMarked ps) (sym front) (are_marked about.variables Done [] done)) (subst (AreMarked qs) (sym back) (are_marked about.variables Go [] onward))))

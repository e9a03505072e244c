use Rattle.std.proofs.Common.{◌≡◌, ◌∙◌, ◌++◌, [], ◌∷◌, List, length, take, drop, map, true, refl, sym, ap, subst}
use Rattle.std.proofs.Math.Seq.{take-append_seam, drop-append_seam}
use Rattle.std.proofs.lemmas.List.{append-nil}
use Rattle.std.proofs.lemmas.List.Elements.{All-nil, All-append}
use Rattle.tv_linear.specs.Linear.{columns}
use Rattle.tv_cases.specs.Systems.{cases_of}
use Rattle.tv_cert.specs.declared.node.Mark.TheVariants.{Done}
use Rattle.tv_cert.specs.declared.node.Marked.{Marked}
use Rattle.tv_cert.specs.declared.node.Node.{out-Node}
use Rattle.tv_cert.specs.Nodes.{pieces_of}
use Rattle.tv_cert.specs.Shapes.{PieceShape}
use Rattle.tv_region.specs.Regions.{IsPieceOf}
use Rattle.tv_formula.specs.Properties.{fix}
use Rattle.tv_pre.specs.Fixed.{IsJoined}
use Rattle.tv_pre.specs.Making.{ArePiecesOf, IsMade}
use Rattle.tv_pre.specs.Parts.{IsPart}
use Rattle.tv_pre.specs.Pieces.{AreMarked, ArePieces, marked_as}
use Rattle.tv_pre.specs.RankedUntil.{ranked_as}
use Rattle.tv_pre.proofs.FixedLemmas.{each_goes, fixed_part}
use Rattle.tv_pre.proofs.GrowingLemmas.{each_done, ranks_may}
use Rattle.tv_pre.proofs.PieceLemmas.{are_marked, marked_append, marked_shape}
use Rattle.tv_pre.proofs.RankedUntilLemmas.{ranked_each, ranked_goes, ranked_marked, ranked_shape}
use Rattle.tv_pre.proofs.ranked_coming.ranked_until.Goals as goal
use Rattle.tv_pre.proofs.NodeLemmas.{states}

pub returns-clause-region : goal.returns-clause-region
returns-clause-region c =
    let about = cases_of c.args.setting.now.about.now in
    let made = c.in_ok-own.ensures in
    let over : ArePieces about c.in_ok-own.own.pieces.items =
    subst (ArePieces about) (sym made.pieces) (All-append (IsPieceOf about.variables about.locations) c.args.done.pieces.items c.args.onward.pieces.items c.requires.done.pieces c.requires.onward.pieces)
    in
    subst (IsJoined about (c.args.done ∷ c.args.onward ∷ [])) (sym c.in_ok-part_of.ensures.region) (record {
      over = record { variables = made.variables ∙ c.requires.done.variables; locations = made.locations ∙ c.requires.done.locations; pieces = over };
      pieces = made.pieces ∙ ap (λ qs. c.args.done.pieces.items ++ qs) (sym (append-nil c.args.onward.pieces.items));
    })

pub returns-clause-part : goal.returns-clause-part
returns-clause-part c f g below =
    let about = cases_of c.args.setting.now.about.now in
    let n = about.variables in
    let sides = c.args.sides.now in
    let term_node = c.args.ranking.now.node.now in
    let ranked = pieces_of term_node in
    let ranks = (out-Node term_node).ranks in
    let own = c.in_ok-own.own in
    let node = c.in_ok-part_of.field-0.node in
    let nodes = c.args.children.items in
    let proofs = c.in-Ok.proofs.items in
    let done = c.args.done.pieces.items in
    let onward = c.args.onward.pieces.items in
    let whole = c.deref-list.ensures.value ∙ c.in_ok-own.ensures.pieces in
    let count = ap length c.deref-first.ensures.value in
    let front = c.split_at.ensures.front ∙ (λ i. take (count i) (whole i)) ∙ take-append_seam done onward in
    let back = c.split_at.ensures.back ∙ (λ i. drop (count i) (whole i)) ∙ drop-append_seam done onward in
    let ps : List Marked = map (marked_as n Done []) done in
    let qs : List Marked = map (ranked_as n ranked) onward in
    let pieces : c.push_ranked.new.list.items ≡ ps ++ qs =
    c.in_ok-push_ranked.ensures
    ∙ (λ i. (c.in_ok-push_marked.ensures ∙ (λ j. c.new-pieces.ensures.items j ++ map (marked_as (c.variables-variables.ensures.same j) Done []) (front j))) i ++ map (ranked_as (c.variables-variables.ensures.same i) ranked) (back i))
    in
    let same : AreMarked (ps ++ qs) own.pieces.items = subst (AreMarked (ps ++ qs)) (sym c.in_ok-own.ensures.pieces) (marked_append ps qs done onward (are_marked n Done [] done) (ranked_marked n ranked onward)) in
    let are : ArePiecesOf about own true ranks (ps ++ qs) = record {
      same = same;
      shape = All-append (PieceShape about ranks true) ps qs
          (marked_shape about ranks true Done [] (All-nil (λ r. columns r ≡ n)) refl (λ e. let no : ⊥ = cc in absurd no) done c.requires.done.pieces)
          (ranked_shape about term_node c.requires.ranked.ends onward c.requires.onward.pieces);
    } in
    let made : IsMade about own true ranks (ps ++ qs) nodes proofs node =
    subst (λ xs. IsMade about own true ranks xs nodes proofs node) pieces (c.in_ok-part_of.ensures.made about true (subst (ArePiecesOf about own true ranks) (sym pieces) are))
    in
    subst (λ path. IsPart about (fix path sides.shape f g) c.in_ok-part_of.field-0.region node) c.requires.path
    (subst (λ r. IsPart about (fix sides.path sides.shape f g) r node) (sym c.in_ok-part_of.ensures.region)
    (fixed_part about sides.path sides.shape f g own node ranks ps qs sides.first.now sides.second.now nodes proofs made (ranks_may sides.path sides.shape (states about f) (states about g) ranks c.requires.shape) (each_goes n Done [] done) (ranked_goes n ranked onward) below
    (λ number a b m k. c.in-Ok.ensures.shows number a b ps qs m k (subst (AreMarked (ps ++ qs)) (sym c.deref-list.ensures.value) same)
    (subst (AreMarked ps) (sym front) (are_marked n Done [] done)) (subst (AreMarked qs) (sym back) (ranked_marked n ranked onward)) (each_done n done) (ranked_each n ranked onward))))

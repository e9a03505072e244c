use Rattle.std.proofs.Common.{◌≡◌, ◌++◌, [], ◌∙◌, map, subst, sym}
use Rattle.tv_cases.specs.Systems.{cases_of}
use Rattle.tv_cert.specs.declared.node.Mark.TheVariants.{Go}
use Rattle.tv_pre.specs.Pieces.{marked_as}
use Rattle.tv_pre.specs.Making.{ArePiecesOf, IsMade, plain_pieces}
use Rattle.tv_pre.proofs.PieceLemmas.{plain_of}
use Rattle.tv_pre.proofs.plain.plain_with.Goals as goal

pub returns-clause-made : goal.returns-clause-made
returns-clause-made c ends =
    let about = cases_of c.args.about.now in
    let region = c.args.region in
    let plain = plain_pieces about.variables region in
    let node = c.in_ok-part_of.field-0.node in
    let pieces : c.push_marked.new.list.items ≡ plain =
    c.in_ok-push_marked.ensures ∙ (λ i. c.new-pieces.ensures.items i ++ map (marked_as (c.variables-variables.ensures.same i) Go []) (c.deref.ensures.value i))
    in
    subst (λ ps. IsMade about region ends 0 ps c.args.children.items c.args.proofs.items node) pieces
    (c.in_ok-part_of.ensures.made about ends (subst (λ ps. ArePiecesOf about region ends 0 ps) (sym pieces) (plain_of about region ends c.requires.over.pieces)))

use Rattle.std.proofs.Common.{◌≡◌, ◌∙◌, ◌<◌, ◌++◌, [], ◌∷◌, List, length, get_or, map, false, sym, ap, subst}
use Rattle.std.specs.List.{AllZip, flat_map}
use Rattle.tv_linear.specs.declared.region.Piece.{Piece}
use Rattle.tv_cases.specs.Systems.{cases_of}
use Rattle.tv_cert.specs.declared.node.Mark.TheVariants.{Done}
use Rattle.tv_cert.specs.declared.node.Marked.{Marked}
use Rattle.tv_known.specs.Rounds.{EndSides}
use Rattle.tv_region.specs.Regions.{IsPieceOf, IsRegion}
use Rattle.tv_region.specs.StepRegions.{InState}
use Rattle.tv_pre.specs.declared.growing.Grown.{Grown}
use Rattle.tv_pre.specs.Around.{Around}
use Rattle.tv_pre.specs.Fixed.{AtEnd, fixed_owes, AsksEnds}
use Rattle.tv_pre.specs.Inclusions.{OfPiece}
use Rattle.tv_pre.specs.Pieces.{IsMarked, AreMarked, marked_as}
use Rattle.tv_pre.proofs.AddLemmas.{all_added}
use Rattle.tv_pre.proofs.GrowingLemmas.{grown_start}
use Rattle.tv_pre.proofs.PieceLemmas.{are_marked, each_piece, zip_so}
use Rattle.tv_pre.proofs.RefusalLemmas.{refusal_weaker}
use Rattle.tv_pre.proofs.growing.started.Goals as goal

pub prove_all-requires-clause-of : goal.prove_all-requires-clause-of
prove_all-requires-clause-of c k d l =
    let about = cases_of c.args.setting.now.about.now in
    let sides = c.args.sides.now in
    let qs : List Piece = c.args.done.pieces.items in
    let within : k < length qs = subst (λ xs. k < length xs) c.deref.ensures.value l in
    subst (λ xs. IsPieceOf about.variables about.locations (get_or xs k d) × IsRegion about.variables about.locations sides.first.now × IsRegion about.variables about.locations sides.second.now
    × OfPiece about (get_or xs k d) (EndSides sides.shape (InState sides.first.now) (InState sides.second.now))) (sym c.deref.ensures.value)
    (c.requires.done.pieces k d within, c.requires.sides.first, c.requires.sides.second, each_piece about qs (AtEnd sides) c.requires.done.pieces c.requires.ends k d within)

pub returns-in-Err-clause-refusals : goal.returns-in-Err-clause-refusals
returns-in-Err-clause-refusals c =
    let about = cases_of c.args.setting.now.about.now in
    let sides = c.args.sides.now in
    refusal_weaker about c.args.setting.now.budget.now (AsksEnds sides c.deref.result.now) (AsksEnds sides c.args.done.pieces.items) c.in-Err.fault
    (λ a h. subst (λ qs. AsksEnds sides qs a) c.deref.ensures.value h) c.in-Err.ensures.refusals

pub returns-clause-grown : goal.returns-clause-grown
returns-clause-grown c =
    let about = cases_of c.args.setting.now.about.now in
    let n = about.variables in
    let sides = c.args.sides.now in
    let done = c.args.done in
    let qs : List Piece = done.pieces.items in
    let dones : List Marked = map (marked_as n Done []) qs in
    let count = ap length c.deref-list.ensures.value in
    let new : Grown = record { count = length c.deref-list.result.now; round = 0; region = done; pieces = c.push_marked.new.list; proofs = c.prove_all.new.proofs } in
    let pieces : new.pieces.items ≡ dones =
    c.in_ok-push_marked.ensures ∙ (λ i. c.new-pieces.ensures.items i ++ map (marked_as (c.variables-variables.ensures.same i) Done []) (c.deref-2.ensures.value i))
    in
    grown_start about sides new c.requires.done count pieces
    (λ number first second later a b.
    let all : List Marked = new.pieces.items ++ later in
    let around : Around = record { number = number; pieces = all; kids = first ∷ second ∷ [] } in
    let owes = fixed_owes about sides number all first second false in
    let fit = zip_so IsMarked (λ p q. IsMarked p q × AreMarked first sides.first.now.pieces.items × AreMarked second sides.second.now.pieces.items) (λ p q h. (h, a, b)) dones qs (are_marked n Done [] qs) in
    all_added (flat_map owes dones) c.new-proofs.result.items new.proofs.items c.new-proofs.ensures.items
    (c.in-Ok.ensures.adds around dones
    (subst (λ xs. AllZip (λ p q. IsMarked p q × AreMarked first sides.first.now.pieces.items × AreMarked second sides.second.now.pieces.items) dones xs) (sym c.deref.ensures.value) fit)))

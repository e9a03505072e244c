use Rattle.std.proofs.Common.{◌≡◌, ◌∙◌, ◌<◌, ◌++◌, [], ◌∷◌, List, length, get_or, map, pos, arith, sym, ap, subst}
use Rattle.std.specs.List.{AllZip}
use Rattle.std.proofs.lemmas.List.{append_assoc}
use Rattle.tv_formula.specs.declared.tree.Path.TheVariants.{Every}
use Rattle.tv_linear.specs.Linear.{Linear, IsWithin}
use Rattle.tv_linear.specs.Arithmetic.{constant_row}
use Rattle.tv_linear.specs.declared.region.Piece.{Piece}
use Rattle.tv_cases.specs.Systems.{cases_of}
use Rattle.tv_cert.specs.declared.node.Mark.TheVariants.{Go}
use Rattle.tv_cert.specs.declared.node.Marked.{Marked}
use Rattle.tv_region.specs.Regions.{IsPieceOf}
use Rattle.tv_pre.specs.declared.growing.Grown.{Grown}
use Rattle.tv_pre.specs.Around.{Around}
use Rattle.tv_pre.specs.Ending.{AsksEndLayer}
use Rattle.tv_pre.specs.Inclusions.{OfPiece, LeadsTo}
use Rattle.tv_pre.specs.Pieces.{ArePieces, InPieces, marked_as}
use Rattle.tv_pre.specs.Questions.{AsksOf, AsksSteps}
use Rattle.tv_pre.specs.Ranked.{IsLayered}
use Rattle.tv_pre.proofs.EndingLemmas.{descends, end_next}
use Rattle.tv_pre.proofs.PieceLemmas.{each_piece, zip_marked}
use Rattle.tv_pre.proofs.RefusalLemmas.{refusal_weaker}
use Rattle.tv_pre.proofs.ending.ended_by.Goals as goal

pub prove_all-requires-clause-of : goal.prove_all-requires-clause-of
prove_all-requires-clause-of c k d l =
    let about = cases_of c.args.setting.now.about.now in
    let over = c.requires.layer.over.pieces in
    let earlier : List Piece = c.args.grown.region.pieces.items in
    let qs : List Piece = c.args.layer.pieces.items in
    let within : k < length qs = subst (λ xs. k < length xs) c.deref-2.ensures.value l in
    subst (λ xs. IsPieceOf about.variables about.locations (get_or xs k d) × ArePieces about c.deref.result.now × OfPiece about (get_or xs k d) (LeadsTo about Every (InPieces c.deref.result.now))) (sym c.deref-2.ensures.value)
    (subst (λ es. IsPieceOf about.variables about.locations (get_or qs k d) × ArePieces about es × OfPiece about (get_or qs k d) (LeadsTo about Every (InPieces es))) (sym c.deref.ensures.value)
    (over k d within, c.requires.grown.over.pieces, each_piece about qs (LeadsTo about Every (InPieces earlier)) over c.requires.layer.leads k d within))

pub returns-in-Err-clause-refusals : goal.returns-in-Err-clause-refusals
returns-in-Err-clause-refusals c =
    let about = cases_of c.args.setting.now.about.now in
    let earlier = c.args.grown.region.pieces.items in
    refusal_weaker about c.args.setting.now.budget.now (AsksOf (λ q. AsksSteps about q c.deref.result.now) c.deref-2.result.now) (AsksEndLayer about earlier c.args.layer) c.in-Err.fault
    (λ a h.
    subst (λ qs. AsksOf (λ q. AsksSteps about q earlier) qs a) c.deref-2.ensures.value
    (subst (λ es. AsksOf (λ q. AsksSteps about q es) c.deref-2.result.now a) c.deref.ensures.value h)) c.in-Err.ensures.refusals

pub returns-clause-grown : goal.returns-clause-grown
returns-clause-grown c =
    let about = cases_of c.args.setting.now.about.now in
    let n = about.variables in
    let old : Grown = c.args.grown in
    let g = c.requires.grown in
    let earlier : List Piece = old.region.pieces.items in
    let qs : List Piece = c.args.layer.pieces.items in
    let new : Grown = c.in_ok-with_layer.field-0 in
    let has = c.in_ok-with_layer.ensures in
    let ranks : List Linear = constant_row n (pos new.round) ∷ [] in
    let added : List Marked = map (marked_as n Go ranks) qs in
    let bounded = has.small in
    let small : IsWithin 62 (pos new.round) = omega (arith, bounded) in
    end_next about old new c.prove_all.new.proofs c.args.layer g c.requires.layer.over has
    (λ number later.
    let all : List Marked = new.pieces.items ++ later in
    let around : Around = record { number = number; pieces = all; kids = [] } in
    let there : old.pieces.items ++ (added ++ later) ≡ all = sym (append_assoc old.pieces.items added later) ∙ ap (λ ps. ps ++ later) (sym has.pieces) in
    let fit =
    zip_marked (λ p q. IsLayered n q [] earlier p all) (IsPieceOf n about.locations) n Go ranks
    (λ q h. subst (IsLayered n q [] earlier (marked_as n Go ranks q)) there (descends about old g new.round has.round small q (added ++ later))) qs c.requires.layer.over.pieces
    in
    c.in-Ok.ensures.adds around added
    (subst (λ es. AllZip (λ p q. IsLayered n q [] es p all) added c.deref-2.result.now) (sym c.deref.ensures.value)
    (subst (λ xs. AllZip (λ p q. IsLayered n q [] earlier p all) added xs) (sym c.deref-2.ensures.value) fit)))

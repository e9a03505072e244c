use Rattle.std.proofs.Common.{◌≡◌, sym, subst, arith}
use Rattle.tv_linear.specs.declared.region.Region.{Region}
use Rattle.tv_cases.specs.Systems.{cases_of}
use Rattle.tv_cert.specs.declared.node.Kind.TheVariants as kind
use Rattle.tv_cert.specs.Claims.{about_with}
use Rattle.tv_cert.specs.Obligations.{cover_of}
use Rattle.tv_region.specs.Regions.{IsRegion}
use Rattle.tv_region.specs.StepRegions.{InState}
use Rattle.tv_pre.specs.Pieces.{AreMarked, ArePieces, InPieces}
use Rattle.tv_pre.specs.Inclusions.{OfPiece}
use Rattle.tv_pre.specs.Questions.{lies, AsksEach}
use Rattle.tv_pre.proofs.AddLemmas.{one_done, steps_whole, zip_at, zip_length}
use Rattle.tv_pre.proofs.RefusalLemmas.{refusal_weaker}
use Rattle.tv_pre.proofs.junction.InEachPieceProver.prove.Goals as goal
use Rattle.tv_linear.proofs.ListLaws.{all_at}

pub prove_cover-requires-clause-into : goal.prove_cover-requires-clause-into
prove_cover-requires-clause-into c =
    let about = cases_of c.args.setting.now.about.now in
    let each = all_at (λ (r : Region). IsRegion about.variables about.locations r × OfPiece about c.args.piece.now (InState r)) c.args.self.now.regions.now c.regions.region-index c.region-item.result c.requires.of.1 c.regions-test.true c.region-item.is in
    subst (ArePieces about) (sym c.deref.ensures.value) each.0.pieces

pub prove_cover-requires-clause-inside : goal.prove_cover-requires-clause-inside
prove_cover-requires-clause-inside c =
    let about = cases_of c.args.setting.now.about.now in
    let each = all_at (λ (r : Region). IsRegion about.variables about.locations r × OfPiece about c.args.piece.now (InState r)) c.args.self.now.regions.now c.regions.region-index c.region-item.result c.requires.of.1 c.regions-test.true c.region-item.is in
    subst (λ qs. OfPiece about c.args.piece.now (InPieces qs)) (sym c.deref.ensures.value) each.1

pub returns-in-Err-clause-refusals : goal.returns-in-Err-clause-refusals
returns-in-Err-clause-refusals c =
    let r = c.region-item.result in
    refusal_weaker (cases_of c.args.setting.now.about.now) c.args.setting.now.budget.now (λ a. a ≡ lies c.args.piece.now c.deref.result.now) (AsksEach c.args.piece.now c.args.self.now.regions.now) c.in-Err.fault
    (λ a e. (r, (c.regions.region-index, c.regions-test.true, sym c.region-item.is), subst (λ qs. a ≡ lies c.args.piece.now qs) c.deref.ensures.value e)) c.in-Err.ensures.refusals

pub regions-preserved : goal.regions-preserved
regions-preserved c a p m k =
    let about = about_with (cases_of c.args.setting.now.about.now) in
    let f = cover_of a.number kind.Child about p in
    let x = zip_at (λ ps (r : Region). AreMarked ps r.pieces.items) a.kids c.args.self.now.regions.now c.regions.region-index c.region-item.result k c.regions-test.true c.region-item.is in
    one_done f a.kids c.regions.region-index x.0 c.args.proofs.now.items c.regions.proofs.items c.prove_cover.new.proofs.items x.1
    (c.in-Ok.ensures.adds a.number kind.Child p x.0 m (subst (AreMarked x.0) (sym c.deref.ensures.value) x.2)) (c.regions.invariant a p m k)

pub returns-clause-adds : goal.returns-clause-adds
returns-clause-adds c a p f =
    let about = about_with (cases_of c.args.setting.now.about.now) in
    let e = zip_length (λ ps (r : Region). AreMarked ps r.pieces.items) a.kids c.args.self.now.regions.now f.1 in
    let l = c.regions-test.false in
    steps_whole (cover_of a.number kind.Child about p) a.kids c.regions.region-index c.args.proofs.now.items c.regions.proofs.items (omega (arith, e, l)) (c.regions.invariant a p f.0 f.1)

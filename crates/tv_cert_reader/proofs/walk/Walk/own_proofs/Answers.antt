use Rattle.std.proofs.Common.{◌+◌, ◌++◌, ◌<◌, ◌^◌, length, map, ap, ◌∙◌, arith}
use Rattle.std.proofs.lemmas.List.{length-map}
use Rattle.tv_cases.specs.Systems.{cases_of}
use Rattle.tv_cert.specs.AimViews.{aim_states}
use Rattle.tv_cert.specs.NodeViews.{pieces_list}
use Rattle.tv_cert.specs.Nodes.{node_owes}
use Rattle.tv_cert_reader.specs.Walks.{kept_proofs}
use Rattle.tv_cert_reader.proofs.CompleteDemands.{draw_free}
use Rattle.tv_cert_reader.proofs.ProofLemmas.{all_taken, taking_stopped}
use Rattle.tv_cert_reader.proofs.WalkLemmas.{own_room, own_counted}
use Rattle.tv_cert_reader.proofs.walk.Walk.own_proofs.Goals as goal

pub visit_pieces-requires : goal.visit_pieces-requires
visit_pieces-requires g c =
    let system = cases_of c.args.about.now in
    let kids = map pieces_list c.args.children.now in
    let bounded : length c.args.pieces.now + length kids < 2 ^ 32 = (let e = length-map c.args.children.now pieces_list in let r = c.requires.bounded in omega (arith, e, r)) in
    let w = c.args.self.now in
    own_room c.args.number system (aim_states c.args.aim.now) c.args.pieces.now kids w.cursor.taken (g.T.Taker.room w.taker) bounded c.args.about.now.are_cases.few_cases (let r = w.cursor.room in omega (arith, r)) c.requires.room.left

pub returns-then-visit_pieces-clause-taken : goal.returns-then-visit_pieces-clause-taken
returns-then-visit_pieces-clause-taken g c =
    let os = node_owes c.args.number (cases_of c.args.about.now) (aim_states c.args.aim.now) c.args.pieces.now (map pieces_list c.args.children.now) in
    let a = all_taken g.T.Taker.takes g.T.Taker.whole os _ c.visit_pieces.new.visitor c.if-visit_pieces.ensures.0 in
    record {
      proofs = a.proofs;
      are = a.are;
      took = a.took;
      taken = a.taken;
      nodes = a.nodes;
      kept = ap (λ v. v.items) c.replace.ensures.value ∙ a.kept ∙ ap (λ ps. ps ++ kept_proofs g.T.Taker.whole a.proofs) c.new.ensures.items;
    }

pub returns-then-visit_pieces-clause-room : goal.returns-then-visit_pieces-clause-room
returns-then-visit_pieces-clause-room g c =
    let os = node_owes c.args.number (cases_of c.args.about.now) (aim_states c.args.aim.now) c.args.pieces.now (map pieces_list c.args.children.now) in
    let a = all_taken g.T.Taker.takes g.T.Taker.whole os _ c.visit_pieces.new.visitor c.if-visit_pieces.ensures.0 in
    own_counted g.T.Taker.room os a.proofs c.args.self.now _ a.are a.took a.nodes c.if-visit_pieces.ensures.1 c.requires.room

pub returns-clause-taken : goal.returns-clause-taken
returns-clause-taken g c =
    let system = cases_of c.args.about.now in
    let s = aim_states c.args.aim.now in
    let kids = map pieces_list c.args.children.now in
    let os = node_owes c.args.number system s c.args.pieces.now kids in
    taking_stopped g.T.Taker.takes g.T.Taker.whole os _ c.visit_pieces.new.visitor (draw_free c.args.number system s c.args.pieces.now kids) c.if-visit_pieces.ensures.0 c.in-Some.failure c.in-Some.is

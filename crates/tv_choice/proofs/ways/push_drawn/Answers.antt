use Rattle.std.proofs.Common.{◌≡◌, ◌∙◌, ◌+◌, ◌++◌, ◌∷◌, [], map, All, subst, sym, ap}
use Rattle.std.specs.Prelude.{Contains}
use Rattle.std.proofs.lemmas.List.Elements.{All-nil, All-head, All-push}
use Rattle.tv_linear.specs.Linear.{columns as width}
use Rattle.tv_choice.specs.Asked.{query_of}
use Rattle.tv_choice.specs.Rows.{put_rows, put_terms, ArePut, IsWidePut}
use Rattle.tv_choice.specs.Targets.{draw_choices, IsFirstWidePut, with_these}
use Rattle.tv_choice.specs.Ways.{lists_of, way_rows, IsWay}
use Rattle.tv_choice.proofs.PieceLemmas.{piece_got}
use Rattle.tv_choice.proofs.FitLemmas.{piece_even}
use Rattle.tv_choice.proofs.WayLemmas.{unmade_more}
use Rattle.tv_choice.proofs.DrawLemmas.{AreLeft, AreTermsFor, IsFirstLeft, left_first, left_next, left_none, first_left, next_left, drawn_way}
use Rattle.tv_choice.proofs.ways.push_drawn.Goals as goal
use Rattle.std.proofs.lemmas.List.{map-append, nil_from_length}

pub choices-init : goal.choices-init
choices-init c = (
  c.requires.ways,
  left_first c.args.question.now.columns c.args.entry.now.case.now.draws c.args.rows.now (lists_of c.args.ways.now.items) _ c.requires.rows.even (ap (map (λ x. x.items)) c.into_iter-draws-iterator.ensures.into_iter_gives.0 ∙ c.requires.choices),
  first_left c.args.question.now.columns c.args.rows.now (draw_choices c.args.entry.now.case.now.draws c.args.question.now.columns c.args.rows.now) _ (ap (map (λ x. x.items)) c.into_iter-draws-iterator.ensures.into_iter_gives.0 ∙ c.requires.choices),
)

pub choices-preserved : goal.choices-preserved
choices-preserved c =
    let q = c.args.question.now in
    let n = q.columns in
    let e = c.args.entry.now in
    let d = e.case.now.draws in
    let rows = c.args.rows.now in
    let ds = c.in-Some.draws.items in
    let rest = map (λ x. x.items) c.next.new.self.rest.items in
    let left = subst (AreLeft n d rows (lists_of c.args.ways.now.items) (lists_of c.choices.ways.items)) (ap (map (λ x. x.items)) c.in-Some.ensures.steps.0) c.choices.invariant.1 in
    let terms = All-head (AreTermsFor n d) ds rest left.terms in
    let among = All-head (Contains (draw_choices d n rows)) ds rest left.among in
    let got = piece_got q.pieces.now e.case.now.to e.target e.piece.now c.requires.entered.target in
    let owed = piece_even n q.pieces.now e.piece.now q.even got.1 in
    let made = c.in-Ok.ensures.way in
    let way = drawn_way n (query_of q) e rows ds c.in-Ok.way c.requires.entered owed c.requires.rows terms among made in
    let same : way_rows c.in-Ok.way ≡ put_rows n ds rows = made.made.exact in (
      subst (All (IsWay n (query_of q) [])) (sym c.in_ok-push_item-in-Ok.ensures) (All-push (IsWay n (query_of q) []) c.choices.ways.items c.in-Ok.way c.choices.invariant.0 way),
      left_next n d rows (lists_of c.args.ways.now.items) (lists_of c.choices.ways.items) (lists_of c.push_item.new.items.items) ds rest
          (ap lists_of c.in_ok-push_item-in-Ok.ensures ∙ map-append way_rows c.choices.ways.items (c.in-Ok.way ∷ []) ∙ (λ i. lists_of c.choices.ways.items ++ same i ∷ [])) left,
      next_left n rows (draw_choices d n rows) ds rest made.made.fits (subst (IsFirstLeft n rows (draw_choices d n rows)) (ap (map (λ x. x.items)) c.in-Some.ensures.steps.0) c.choices.invariant.2),
    )

pub way_of-requires-clause-each : goal.way_of-requires-clause-each
way_of-requires-clause-each c =
    let n = c.args.question.now.columns in
    let d = c.args.entry.now.case.now.draws in
    let left = subst (AreLeft n d c.args.rows.now (lists_of c.args.ways.now.items) (lists_of c.choices.ways.items)) (ap (map (λ x. x.items)) c.in-Some.ensures.steps.0) c.choices.invariant.1 in
    let terms = All-head (AreTermsFor n d) c.in-Some.draws.items (map (λ x. x.items) c.next.new.self.rest.items) left.terms in
    subst (λ k. All (λ r. width r ≡ n + k) c.args.rows.now) (sym terms.many) c.requires.rows.even

pub way_of-requires-clause-even : goal.way_of-requires-clause-even
way_of-requires-clause-even c =
    let n = c.args.question.now.columns in
    let d = c.args.entry.now.case.now.draws in
    let left = subst (AreLeft n d c.args.rows.now (lists_of c.args.ways.now.items) (lists_of c.choices.ways.items)) (ap (map (λ x. x.items)) c.in-Some.ensures.steps.0) c.choices.invariant.1 in
    let terms = All-head (AreTermsFor n d) c.in-Some.draws.items (map (λ x. x.items) c.next.new.self.rest.items) left.terms in
    terms.even

pub returns-in-Err-clause-refusals : goal.returns-in-Err-clause-refusals
returns-in-Err-clause-refusals c =
    let n = c.args.question.now.columns in
    let rows = c.args.rows.now in
    let ds = c.in-Some.draws.items in
    let all = draw_choices c.args.entry.now.case.now.draws n rows in
    let rest = map (λ x. x.items) c.next.new.self.rest.items in
    let left = subst (IsFirstLeft n rows all) (ap (map (λ x. x.items)) c.in-Some.ensures.steps.0) c.choices.invariant.2 in
    unmade_more (IsWidePut (put_terms n ds) rows) (λ column. IsFirstWidePut n rows column all) c.in-Err.fault (λ column w. left.wide column (with_these ds rest w)) c.in-Err.ensures.refusals

pub returns : goal.returns
returns c =
    let n = c.args.question.now.columns in
    let e = c.args.entry.now in
    let d = e.case.now.draws in
    let rows = c.args.rows.now in
    let done = left_none n d rows (lists_of c.args.ways.now.items) (lists_of c.choices.ways.items) (map (λ x. x.items) c.choices.draws-iterator.rest.items) (ap (map (λ x. x.items)) (nil_from_length c.choices.draws-iterator.rest.items (sym c.choices.draws-iterator.rest.ok.0 ∙ c.in-None.ensures.steps.0))) c.choices.invariant.1 in
    let none = ap (map (λ x. x.items)) (nil_from_length c.choices.draws-iterator.rest.items (sym c.choices.draws-iterator.rest.ok.0 ∙ c.in-None.ensures.steps.0)) in
    let fits = (subst (IsFirstLeft n rows (draw_choices d n rows)) none c.choices.invariant.2).fits (All-nil (λ draws. ArePut (put_terms n draws) rows)) in
    record { ways = c.choices.invariant.0; fits = fits; lists = done ∙ (λ i. lists_of c.args.ways.now.items ++ map (λ draws. put_rows n draws (c.requires.rows.exact i)) (draw_choices d n (c.requires.rows.exact i))); refusals = tt }

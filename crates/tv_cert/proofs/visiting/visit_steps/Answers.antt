use Rattle.std.proofs.Common.{◌≡◌, ℕ, ◌+◌, ◌++◌, Bool, List, ◌∷◌, [], length, map, refl, sym, ap, ◌∙◌, subst, arith, Option, None, Some, slice_get}
use Rattle.tv_linear.specs.Known.{Known, as_given}
use Rattle.tv_cases.specs.LinearCases.{LinearCase, leaving}
use Rattle.tv_cases.specs.Systems.{cases_of}
use Rattle.tv_cases.specs.Views.{case_view}
use Rattle.tv_cases.proofs.LeavingLemmas.{case_among, case_within, case_there}
use Rattle.tv_cert.specs.declared.node.Kind.TheVariants as kind
use Rattle.tv_cert.specs.declared.node.Marked.{Marked}
use Rattle.tv_cert.specs.Pieces.{place_of, rows_of}
use Rattle.tv_cert.specs.Obligations.{About, Obligation, a_cover, case_change, step_of}
use Rattle.tv_cert.specs.AboutSystem.{about_of}
use Rattle.tv_cert.specs.OwesViews.{case_falls}
use Rattle.tv_cert.specs.Visits.{Visits}
use Rattle.tv_cert.proofs.VisitLemmas.{ahead_end, ahead_fails, ahead_next, ahead_room}
use Rattle.tv_cert.proofs.visiting.visit_steps.Goals as goal
use Rattle.tv_places.proofs.PlaceLemmas.{past_end}

-- the case from a location is also the case from an equal location
case_at : (cases : List LinearCase) (k : ℕ) (case : Option LinearCase) (l m : ℕ) → l ≡ m → slice_get (leaving l cases) k ≡ case → slice_get (leaving m cases) k ≡ case
case_at cases k case l m e h = ap (λ l. slice_get (leaving l cases) k) (sym e) ∙ h

-- a step into the targets that are owed
stepped : {S : Type 0} (passes stops : S → Obligation → S → Type 0) (room : S → ℕ) (t : Bool) (s u : S) (number : ℕ) (about : About) (p : Marked) (c : LinearCase) (owed wanted : ℕ → ℕ → Option (List Known)) → owed ≡ wanted
    → Visits passes stops room t s (record { node = number; kind = kind.Step; owed = a_cover (about.system.variables + c.draws) (as_given (rows_of p) ++ as_given c.guards) owed } ∷ []) u
    → Visits passes stops room t s (record { node = number; kind = kind.Step; owed = a_cover (about.system.variables + c.draws) (as_given (rows_of p) ++ as_given c.guards) wanted } ∷ []) u
stepped passes stops room t s u number about p c owed wanted e h = subst (λ owed. Visits passes stops room t s (record { node = number; kind = kind.Step; owed = a_cover (about.system.variables + c.draws) (as_given (rows_of p) ++ as_given c.guards) owed } ∷ []) u) e h

pub visit-requires-clause-owed : goal.visit-requires-clause-owed
visit-requires-clause-owed g c = case_among (place_of c.args.at.now.piece.now) (cases_of c.args.at.now.about.now).cases c.cases.k (case_view c.in-Some.case.now) (case_at (cases_of c.args.at.now.about.now).cases c.cases.k (Some (case_view c.in-Some.case.now)) _ _ c.location-location.ensures c.in-Some.ensures.case)

pub visit-requires-clause-room : goal.visit-requires-clause-room
visit-requires-clause-room g c =
    let system = cases_of c.args.at.now.about.now in
    let l = place_of c.args.at.now.piece.now in
    let case = case_view c.in-Some.case.now in
    let step = step_of c.args.at.now.number (about_of system) c.args.at.now.piece.now c.args.into.now (case_falls c.args.falls system c.args.at.now.piece.now) in
    ahead_room (g.V.Visitor.passes system) (g.V.Visitor.stops system) g.V.Visitor.room (map step) refl (λ x xs. refl) (leaving l system.cases) c.args.visitor.now c.cases.visitor c.cases.k c.cases.invariant case
    (case_within l system.cases c.cases.k case (case_at (cases_of c.args.at.now.about.now).cases c.cases.k (Some (case_view c.in-Some.case.now)) _ _ c.location-location.ensures c.in-Some.ensures.case)) (case_there l system.cases c.cases.k case (case_at (cases_of c.args.at.now.about.now).cases c.cases.k (Some (case_view c.in-Some.case.now)) _ _ c.location-location.ensures c.in-Some.ensures.case))

pub returns-then-not-visit : goal.returns-then-not-visit
returns-then-not-visit g c =
    let system = cases_of c.args.at.now.about.now in
    let passes = g.V.Visitor.passes system in
    let stops = g.V.Visitor.stops system in
    let l = place_of c.args.at.now.piece.now in
    let case = case_view c.in-Some.case.now in
    let step = step_of c.args.at.now.number (about_of system) c.args.at.now.piece.now c.args.into.now (case_falls c.args.falls system c.args.at.now.piece.now) in
    ahead_fails passes stops g.V.Visitor.room (map step) refl (λ x xs. refl) (leaving l system.cases) c.args.visitor.now c.cases.visitor c.cases.k c.cases.invariant case
    (case_within l system.cases c.cases.k case (case_at (cases_of c.args.at.now.about.now).cases c.cases.k (Some (case_view c.in-Some.case.now)) _ _ c.location-location.ensures c.in-Some.ensures.case)) (case_there l system.cases c.cases.k case (case_at (cases_of c.args.at.now.about.now).cases c.cases.k (Some (case_view c.in-Some.case.now)) _ _ c.location-location.ensures c.in-Some.ensures.case)) c.visit.new.visitor
    (subst (λ r. Visits passes stops g.V.Visitor.room r c.cases.visitor (step case ∷ []) c.visit.new.visitor) c.if-not-visit.true
    (stepped passes stops g.V.Visitor.room c.visit.result c.cases.visitor c.visit.new.visitor c.args.at.now.number (about_of system) c.args.at.now.piece.now case _ _ (c.pieces_into.ensures.owed (case_change system.variables case)) c.visit.ensures))

pub overflow_add-k : goal.overflow_add-k
overflow_add-k g c =
    let system = cases_of c.args.at.now.about.now in
    let below = case_within (place_of c.args.at.now.piece.now) system.cases c.cases.k (case_view c.in-Some.case.now) (case_at (cases_of c.args.at.now.about.now).cases c.cases.k (Some (case_view c.in-Some.case.now)) _ _ c.location-location.ensures c.in-Some.ensures.case) in
    let bounded = c.in-Some.ensures.bounded in
    let same = ap (λ l. length (leaving l system.cases)) c.location-location.ensures in
    omega (arith, below, bounded, same)

pub cases-smaller : goal.cases-smaller
cases-smaller g c =
    let system = cases_of c.args.at.now.about.now in
    let below = case_within (place_of c.args.at.now.piece.now) system.cases c.cases.k (case_view c.in-Some.case.now) (case_at (cases_of c.args.at.now.about.now).cases c.cases.k (Some (case_view c.in-Some.case.now)) _ _ c.location-location.ensures c.in-Some.ensures.case) in
    omega (arith, below)

pub cases-preserved : goal.cases-preserved
cases-preserved g c =
    let system = cases_of c.args.at.now.about.now in
    let passes = g.V.Visitor.passes system in
    let stops = g.V.Visitor.stops system in
    let l = place_of c.args.at.now.piece.now in
    let case = case_view c.in-Some.case.now in
    let step = step_of c.args.at.now.number (about_of system) c.args.at.now.piece.now c.args.into.now (case_falls c.args.falls system c.args.at.now.piece.now) in
    ahead_next passes stops g.V.Visitor.room (map step) refl (λ x xs. refl) (leaving l system.cases) c.args.visitor.now c.cases.visitor c.cases.k c.cases.invariant case
    (case_within l system.cases c.cases.k case (case_at (cases_of c.args.at.now.about.now).cases c.cases.k (Some (case_view c.in-Some.case.now)) _ _ c.location-location.ensures c.in-Some.ensures.case)) (case_there l system.cases c.cases.k case (case_at (cases_of c.args.at.now.about.now).cases c.cases.k (Some (case_view c.in-Some.case.now)) _ _ c.location-location.ensures c.in-Some.ensures.case)) c.visit.new.visitor
    (subst (λ r. Visits passes stops g.V.Visitor.room r c.cases.visitor (step case ∷ []) c.visit.new.visitor) c.if-not-visit.false
    (stepped passes stops g.V.Visitor.room c.visit.result c.cases.visitor c.visit.new.visitor c.args.at.now.number (about_of system) c.args.at.now.piece.now case _ _ (c.pieces_into.ensures.owed (case_change system.variables case)) c.visit.ensures))

pub returns : goal.returns
returns g c =
    let system = cases_of c.args.at.now.about.now in
    let l = place_of c.args.at.now.piece.now in
    let step = step_of c.args.at.now.number (about_of system) c.args.at.now.piece.now c.args.into.now (case_falls c.args.falls system c.args.at.now.piece.now) in
    ahead_end (g.V.Visitor.passes system) (g.V.Visitor.stops system) g.V.Visitor.room (map step) refl (λ x xs. refl) (leaving l system.cases) c.args.visitor.now c.cases.visitor c.cases.k c.cases.invariant
    (past_end (leaving l system.cases) c.cases.k (case_at (cases_of c.args.at.now.about.now).cases c.cases.k None _ _ c.location-location.ensures c.in_default.ensures.case))

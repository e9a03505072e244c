-- Certificates from nodes and from what is known of the start.
use Rattle.std.proofs.Common.{◌≡◌, ◌⊎◌, inl, inr, ℕ, zero, suc, ◌+◌, ◌<◌, ◌≤◌, List, [], ◌∷◌, map, take, length, length-append, get_or, All, Option, None, Some, slice_get, Bool, true, false, cond, ◌==◌, arith, refl, sym, ap, ◌∙◌, subst, ℤ}
use Rattle.std.specs.Option.{option_map}
use Rattle.std.proofs.lemmas.Bool.Decides.{nat_tests}
use Rattle.std.specs.Prelude.{Contains}
use Rattle.std.proofs.lemmas.List.{take_all}
use Rattle.std.proofs.lemmas.List.Elements.{Contains-append_cases}
use Rattle.std.proofs.lemmas.Bool.{eq-eqb}
use Rattle.tv_formula.specs.Limits.{operators, IsFormula}
use Rattle.tv_formula.specs.Properties.{Property}
use Rattle.tv_linear.specs.Linear.{Linear, IsMet}
use Rattle.tv_linear.specs.Known.{given, as_given}
use Rattle.tv_linear.specs.Covers.{IsMetCover}
use Rattle.tv_linear.specs.declared.cover.CoverTree.{CoverTree}
use Rattle.tv_linear.specs.declared.region.Piece.{Piece}
use Rattle.tv_linear.specs.declared.region.Region.{Region}
use Rattle.tv_farkas.specs.Paths.{IsWholePoint}
use Rattle.tv_cases.specs.LinearCases.{CaseSystem}
use Rattle.tv_cert.specs.declared.node.Kind.TheVariants as kind
use Rattle.tv_cert.specs.declared.node.Mark.TheVariants.{Go}
use Rattle.tv_cert.specs.declared.node.Marked.{Marked}
use Rattle.tv_cert.specs.declared.node.Node.{Node}
use Rattle.tv_cert.specs.Nodes.{pieces_of}
use Rattle.tv_cert.specs.Pieces.{rows_of, pieces_at}
use Rattle.tv_cert.specs.Targets.{owed_into, no_fall}
use Rattle.tv_shape.specs.Made.{IsOffered}
use Rattle.tv_cover.specs.declared.covered.Covered.{Covered}
use Rattle.tv_cover.specs.declared.covered.Covered.TheVariants.{Tree, Hole}
use Rattle.tv_cover.specs.Covering.{IsHole}
use Rattle.tv_cover.specs.Targets.{IsInTarget}
use Rattle.tv_region.specs.Regions.{lists_at}
use Rattle.tv_region.proofs.RegionLemmas.{lists_at-here, lists_at-there}
use Rattle.tv_choice.specs.Leading.{piece_rows}
use Rattle.tv_lexrank.specs.Certified.{IsRoot}
use Rattle.tv_points.specs.Nodes as points
use Rattle.tv_pre.specs.Pieces.{AreMarked, marked_as}
use Rattle.tv_pre.specs.Offers.{ShowsInside}
use Rattle.tv_pre.specs.Parts.{IsPart}
use Rattle.tv_pre.specs.Starting.{IsStart, IsInside, HasNoStart, CoversOrLeaves, StartAnswer}
use Rattle.tv_pre.specs.declared.starting.Inside.{Inside}
use Rattle.tv_pre.proofs.OfferLemmas.{lists_marked, got_mapped}
use Rattle.tv_pre.proofs.FallingLemmas.{shape_even}
use Rattle.tv_pre.proofs.RefusalLemmas.{one_list}

-- ---- the root of a proof
start_met : (about : CaseSystem) (ps : List Marked) (q : Piece) (tree : CoverTree) → IsStart about q → IsMetCover about.variables (owed_into ps q.location given no_fall) (as_given (piece_rows q)) tree → IsMetCover about.variables (owed_into ps about.start given no_fall) [] tree
start_met about ps q tree start h =
    subst (λ l. IsMetCover about.variables (owed_into ps l given no_fall) [] tree) start.place
    (subst (λ rows. IsMetCover about.variables (owed_into ps q.location given no_fall) (as_given rows) tree) start.bare h)

-- a node that shows a formula where its pieces are, and a cover of the start by them
pub root_of : (about : CaseSystem) (f : Property) (region : Region) (node : Node) (q : Piece) (tree : CoverTree) → IsPart about f region node → operators f ≤ 200 → IsStart about q → ShowsInside about q region.pieces.items tree → IsRoot about f node tree
root_of about f region node q tree part bounded start shows =
    let o : IsOffered _ _ = shows 0 kind.Root (marked_as about.variables Go [] q) (pieces_of node) (refl, refl) part.pieces in
    record {
      fits = record { shape = part.shows.shape; narrow = part.shows.narrow; depth = part.shows.within 1 (omega (arith, bounded)) };
      nodes = part.shows.met 0;
      met = start_met about (pieces_of node) q tree start o.met;
      shallow = o.shape.1;
      even = shape_even about.variables _ _ tree o.shape.0;
      narrow = o.narrow;
    }

-- ---- the root of a disproof
some_mapped : {A B : Type 0} (f : A → B) (x : Option A) (y : B) → option_map f x ≡ Some y → (a : A) × (x ≡ Some a) × (f a ≡ y)
some_mapped f None y e = absurd (let no : ⊥ = cc in no)
some_mapped f (Some a) y e = (a, refl, (let same : f a ≡ y = cc in same))

pub inside_of : (about : CaseSystem) (pieces : List Piece) (ps : List Marked) (found : Inside) → AreMarked ps pieces → IsInside about pieces found → points.IsInside about ps found.piece found.values.items
inside_of about pieces ps found ms h =
    let e : slice_get (map rows_of (pieces_at ps about.start)) found.piece ≡ Some h.rows = ap (λ ls. slice_get ls found.piece) (lists_marked about.start ps pieces ms) ∙ h.there in
    let m = some_mapped rows_of (slice_get (pieces_at ps about.start) found.piece) h.rows (sym (got_mapped rows_of (pieces_at ps about.start) found.piece) ∙ e) in
    record {
      many = h.point.width;
      narrow = h.narrow;
      piece = m.0;
      found = m.1;
      met = subst (λ rows. All (IsMet found.values.items) rows) (sym m.2) h.point.met;
    }

-- the limits of a formula leave room for its operators
pub few_operators : (n m : ℕ) (f : Property) → IsFormula n m f → operators f ≤ 200
few_operators n m f h = let t = h.few_operators in grind (arith, nat_tests, t)

-- ---- the pieces at the start, one after the other
first_there : (b : Bool) (r : List Linear) (xs : List (List Linear)) → b ≡ true → slice_get (cond b (r ∷ xs) xs) 0 ≡ Some r
first_there true r xs e = refl
first_there false r xs e = absurd (let no : ⊥ = cc in no)

later_there : (b : Bool) (r z : List Linear) (xs ys : List (List Linear)) → slice_get xs (length ys) ≡ Some z → slice_get (cond b (r ∷ xs) xs) (length (cond b (r ∷ ys) ys)) ≡ Some z
later_there true r z xs ys e = e
later_there false r z xs ys e = e

-- a piece stands where those before it end
pub place_there : (k : ℕ) (pieces : List Piece) (i : ℕ) (p : Piece) → i < length pieces → p ≡ get_or pieces i p → p.location ≡ k → slice_get (lists_at k pieces) (length (lists_at k (take i pieces))) ≡ Some (piece_rows p)
place_there k [] i p l e h = absurd (let no : ⊥ = omega (arith, l) in no)
place_there k (q ∷ qs) zero p l e h =
    subst (λ z. slice_get (lists_at k (q ∷ qs)) 0 ≡ Some (piece_rows z)) (sym e)
    (first_there (q.location == k) (piece_rows q) (lists_at k qs) (eq-eqb q.location k (subst (λ z. z.location ≡ k) e h)))
place_there k (q ∷ qs) (suc i) p l e h =
    later_there (q.location == k) (piece_rows q) (piece_rows p) (lists_at k qs) (lists_at k (take i qs)) (place_there k qs i p (omega (arith, l)) e h)

none_in : (rows : List Linear) → Contains {X = List Linear} [] rows → ⊥
none_in rows (k, l, e) = let no : ⊥ = omega (arith, l) in no

-- one more piece at the start has no state
pub none_here : (about : CaseSystem) (pieces : List Piece) (i : ℕ) (p : Piece) → i < length pieces → p ≡ get_or pieces i p → p.location ≡ about.start → HasNoStart about (take i pieces) → ((xs : List ℤ) → IsWholePoint about.variables (piece_rows p) xs → IsInTarget [] xs) → HasNoStart about (take (i + 1) pieces)
none_here about pieces i p l e h none empty rows among xs point =
    by_case (Contains-append_cases (lists_at about.start (take i pieces)) (piece_rows p ∷ []) rows (subst (λ ls. Contains ls rows) (lists_at-here about.start pieces i p l e h) among))
  where
    by_case : Contains (lists_at about.start (take i pieces)) rows ⊎ Contains (piece_rows p ∷ []) rows → ⊥
    by_case (inl a) = none rows a xs point
    by_case (inr a) =
        let t = empty xs (subst (λ rs. IsWholePoint about.variables rs xs) (one_list (piece_rows p) rows a) point) in
        none_in t.rows t.target

pub none_there : (about : CaseSystem) (pieces : List Piece) (i : ℕ) (p : Piece) → i < length pieces → p ≡ get_or pieces i p → (p.location ≡ about.start → ⊥) → HasNoStart about (take i pieces) → HasNoStart about (take (i + 1) pieces)
none_there about pieces i p l e h none rows among xs point =
    none rows (subst (λ ls. Contains ls rows) (lists_at-there about.start pieces i p l e h) among) xs point

pub none_at_all : (about : CaseSystem) (pieces : List Piece) (i : ℕ) → length pieces ≤ i → HasNoStart about (take i pieces) → HasNoStart about pieces
none_at_all about pieces i l none = subst (HasNoStart about) (take_all i pieces l) none

pub count_here : (k : ℕ) (pieces : List Piece) (i : ℕ) (p : Piece) → i < length pieces → p ≡ get_or pieces i p → p.location ≡ k → length (lists_at k (take (i + 1) pieces)) ≡ length (lists_at k (take i pieces)) + 1
count_here k pieces i p l e h = ap length (lists_at-here k pieces i p l e h) ∙ length-append (lists_at k (take i pieces)) (piece_rows p ∷ [])

pub count_there : (k : ℕ) (pieces : List Piece) (i : ℕ) (p : Piece) → i < length pieces → p ≡ get_or pieces i p → (p.location ≡ k → ⊥) → length (lists_at k (take (i + 1) pieces)) ≡ length (lists_at k (take i pieces))
count_there k pieces i p l e h = ap length (lists_at-there k pieces i p l e h)

-- ---- a cover of the start
pub start_answer : (about : CaseSystem) (q : Piece) (into : List Piece) (lists : List (List Linear)) (covered : Covered) → IsStart about q → lists ≡ lists_at q.location into → CoversOrLeaves about q lists covered → StartAnswer about into covered
start_answer about q into lists (Tree cover) start e h = (q, start, h.shows into e)
start_answer about q into lists (Hole values) start e h =
    subst (λ rows. IsHole about.variables (lists_at about.start into) rows values.items) start.bare
    (subst (λ ls. IsHole about.variables ls (piece_rows q) values.items) (e ∙ ap (λ l. lists_at l into) start.place) h.hole)

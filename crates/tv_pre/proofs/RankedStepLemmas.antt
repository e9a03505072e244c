-- Steps over which the ranks of a program fall.
use Rattle.std.proofs.Common.{◌≡◌, ℕ, ◌+◌, ◌<◌, get_or, ◌++◌, List, [], ◌∷◌, take, length, Some, Bool, true, false, if◌then◌else◌, slice_get, ◌==◌, arith, refl, sym, ap, ◌∙◌, subst, ℤ}
use Rattle.std.specs.Prelude.{Contains}
use Rattle.std.proofs.lemmas.List.{append-nil, length-map}
use Rattle.std.proofs.lemmas.List.Elements.{filter-append}
use Rattle.std.proofs.lemmas.Bool.{eq-eqb, ne_eqb}
use Rattle.tv_linear.specs.Known.{Known, as_given}
use Rattle.tv_linear.specs.Covers.{IsMetCover}
use Rattle.tv_linear.specs.Refutation.{Refutes}
use Rattle.tv_linear.specs.declared.cover.CoverTree.{CoverTree}
use Rattle.tv_linear.specs.declared.cover.CoverTree as cover
use Rattle.tv_linear.specs.declared.region.Piece.{Piece}
use Rattle.tv_linear.proofs.ListLaws.{take_more}
use Rattle.tv_cases.specs.LinearCases.{LinearCase, CaseSystem, from_of, leaving}
use Rattle.tv_cases.specs.declared.case.Case.{Case}
use Rattle.tv_cases.specs.Views.{case_view, case_views}
use Rattle.tv_cert.specs.declared.node.Marked.{Marked}
use Rattle.tv_cert.specs.Claims.{about_with}
use Rattle.tv_cert.specs.Obligations.{step_fall, case_change}
use Rattle.tv_cert.specs.Pieces.{rows_of}
use Rattle.tv_cert.specs.Targets.{owed_into}
use Rattle.tv_shape.specs.Narrow.{AreNarrow}
use Rattle.tv_choice.specs.Leading.{piece_rows}
use Rattle.tv_lexrank.specs.declared.shown.CaseShown.{CaseShown}
use Rattle.tv_lexrank.specs.More.{way_with, IsUnderMore}
use Rattle.tv_lexrank.specs.Shown.{RefutesWay, IsShownBy, IsShownIn, AreShown, ranks_there}
use Rattle.tv_lexrank.specs.Steps.{IsRefutation}
use Rattle.tv_lexrank.proofs.OfferLemmas.{met_shape}
use Rattle.tv_pre.specs.Lowering.{ShowsRankedStep}
use Rattle.tv_pre.proofs.AddLemmas.{zip_at, zip_length}
use Rattle.tv_pre.proofs.CycleLemmas.{case_there}
use Rattle.tv_cases.proofs.LeavingLemmas.{case_at}

-- what shows a case shows it under the rows of a piece
pub more_shown : (about : CaseSystem) (ranked : List Marked) (q : Piece) (c : LinearCase) (many : ℕ) (shown new : CaseShown) → many ≡ length (piece_rows q) → IsUnderMore 0 many shown new → IsShownIn about [] ranked c shown →
    IsShownBy about.variables (way_with c (piece_rows q)) (ranks_there ranked c.from) (ranks_there ranked c.to) new
more_shown about ranked q c many shown new e under h =
    subst (λ rows. IsShownBy about.variables (way_with c rows) (ranks_there ranked c.from) (ranks_there ranked c.to) new) (append-nil (piece_rows q))
    (under about.variables c [] (piece_rows q) [] (ranks_there ranked c.from) (ranks_there ranked c.to) refl (sym e) h)

-- a case that is never taken
pub shows_refuted : (about : CaseSystem) (ranked : List Marked) (q : Piece) (c : LinearCase) (done into : List Piece) (ms : List ℤ) (tree : CoverTree) → IsRefutation ms tree → RefutesWay about.variables (way_with c (piece_rows q)) ms → ShowsRankedStep about ranked q c done into tree
shows_refuted about ranked q c done into ms (cover.Split' r p a t b) is h number piece all placed = absurd is
shows_refuted about ranked q c done into ms (cover.Into target fall ls) is h number piece all placed = absurd is
shows_refuted about ranked q c done into ms (cover.Empty v) is h number piece all placed = record {
  shape = (met_shape w (owed_into all c.to (case_change n c) (step_fall (about_with about) piece c)) known (cover.Empty v) tt met, omega arith);
  met = met;
  narrow = subst AreNarrow (sym is) h.narrow;
}
  where
    n : ℕ
    n = about.variables

    w : ℕ
    w = about.variables + c.draws

    known : List Known
    known = as_given (rows_of piece) ++ as_given c.guards

    met : IsMetCover (about.variables + c.draws) (owed_into all c.to (case_change about.variables c) (step_fall (about_with about) piece c)) (as_given (rows_of piece) ++ as_given c.guards) (cover.Empty v)
    met = subst (λ rows. Refutes w (as_given rows ++ as_given c.guards) v.items) (sym placed.marked.1) (subst (Refutes w (as_given (piece_rows q) ++ as_given c.guards)) (sym is) h.refutes)

-- ---- the cases from a location, one by one
one_kept : (c : LinearCase) (b : Bool) → b ≡ true → (if b then c ∷ [] else []) ≡ c ∷ []
one_kept c true e = refl
one_kept c false e = absurd (let no : ⊥ = cc in no)

one_skipped : (c : LinearCase) (b : Bool) → b ≡ false → (if b then c ∷ [] else []) ≡ []
one_skipped c false e = refl
one_skipped c true e = absurd (let no : ⊥ = cc in no)

next_taken : (l : ℕ) (cs : List LinearCase) (k : ℕ) (c : LinearCase) → slice_get cs k ≡ Some c → leaving l (take (k + 1) cs) ≡ leaving l (take k cs) ++ leaving l (c ∷ [])
next_taken l cs k c e = ap (leaving l) (take_more cs k c e) ∙ filter-append (λ c. from_of c == l) (take k cs) (c ∷ [])

pub leaving_kept : (l : ℕ) (cs : List LinearCase) (k : ℕ) (c : LinearCase) → slice_get cs k ≡ Some c → c.from ≡ l → leaving l (take (k + 1) cs) ≡ leaving l (take k cs) ++ c ∷ []
leaving_kept l cs k c e t = next_taken l cs k c e ∙ ap (λ xs. leaving l (take k cs) ++ xs) (one_kept c (from_of c == l) (eq-eqb c.from l t))

pub leaving_skipped : (l : ℕ) (cs : List LinearCase) (k : ℕ) (c : LinearCase) → slice_get cs k ≡ Some c → (c.from ≡ l → ⊥) → leaving l (take (k + 1) cs) ≡ leaving l (take k cs)
leaving_skipped l cs k c e t = next_taken l cs k c e ∙ (ap (λ xs. leaving l (take k cs) ++ xs) (one_skipped c (from_of c == l) (ne_eqb c.from l t)) ∙ append-nil (leaving l (take k cs)))

-- ---- the case with a number
pub got_case : (list : List Case) (cases : List LinearCase) (k : ℕ) (x : Case) → case_views list ≡ cases → k < length list → x ≡ get_or list k x → slice_get cases k ≡ Some (case_view x)
got_case list cases k x same l e = subst (λ cs. slice_get cs k ≡ Some (case_view x)) same (case_at list k x l e)

pub case_within : (list : List Case) (cases : List LinearCase) (k : ℕ) (x : Case) → case_views list ≡ cases → k < length list → x ≡ get_or list k x → Contains cases (case_view x)
case_within list cases k x same l e = subst (λ cs. Contains cs (case_view x)) same (case_there list k x l e)

pub many_cases : (list : List Case) (cases : List LinearCase) → case_views list ≡ cases → length list ≡ length cases
many_cases list cases same = sym (length-map list case_view) ∙ ap length same

pub many_shown : (about : CaseSystem) (ranked : List Marked) (list : List Case) (shown : List CaseShown) → case_views list ≡ about.cases → AreShown about [] ranked shown → length list ≡ length shown
many_shown about ranked list shown same h = many_cases list about.cases same ∙ zip_length (IsShownIn about [] ranked) about.cases shown h

got : (x y : LinearCase) → Some x ≡ Some y → x ≡ y
got x y e = cc

pub shown_at : (about : CaseSystem) (ranked : List Marked) (list : List Case) (shown : List CaseShown) (k : ℕ) (x : Case) (y : CaseShown) → case_views list ≡ about.cases → AreShown about [] ranked shown → k < length list → x ≡ get_or list k x → y ≡ get_or shown k y →
    IsShownIn about [] ranked (case_view x) y
shown_at about ranked list shown k x y same h l e f =
    let z = zip_at (IsShownIn about [] ranked) about.cases shown k y h (let m = many_shown about ranked list shown same h in omega (arith, l, m)) f in
    subst (λ c. IsShownIn about [] ranked c y) (got z.0 (case_view x) (sym z.1 ∙ got_case list about.cases k x same l e)) z.2

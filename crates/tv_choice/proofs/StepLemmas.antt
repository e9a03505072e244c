-- Steps from an integer point.
use Rattle.std.proofs.Common.{◌≡◌, ℕ, ◌+◌, List, [], ◌++◌, length, map, All, sym, ap, ◌∙◌, subst, ℤ}
use Rattle.tv_linear.specs.Linear.{Linear, columns, value, IsMet}
use Rattle.tv_farkas.specs.Paths.{IsWholePoint}
use Rattle.tv_farkas.specs.EmptyPaths.{IsWholePointOf}
use Rattle.tv_cases.specs.Views.{case_view}
use Rattle.tv_choice.specs.declared.ways.Way.{Way}
use Rattle.tv_choice.specs.declared.ways.Entry.{Entry}
use Rattle.tv_choice.specs.Rows.{fixes}
use Rattle.tv_choice.specs.Leading.{Query, piece_rows}
use Rattle.tv_choice.specs.ChoicePaths.{stepping_rows, IsPointHere, AreDrawTerms, at_point, AreTermsAt, IsInner, stepping}
use Rattle.tv_choice.specs.Ways.{IsEntered, AreCaseRows}
use Rattle.tv_choice.specs.Stepping.{IsWayAt, IsWideAtPoint, IsWayFrom, NoStepTo}
use Rattle.tv_choice.specs.Refusals.{IsWideHere}
use Rattle.tv_choice.proofs.TermLemmas.{terms_even, terms_values}
use Rattle.tv_choice.proofs.DrawLemmas.{draw_wide}
use Rattle.tv_choice.proofs.WayLemmas.{is_way, in_way, way_met, answered_front, answered_met, asked_met}
use Rattle.std.proofs.lemmas.List.{append-nil}

module _ (n : ℕ) (q : Query) (above : List Linear) (e : Entry) (h : IsEntered q e) (rows : List Linear) (are : AreCaseRows n (case_view e.case.now) (piece_rows e.piece.now) rows) (owed : All (λ r. columns r ≡ n) (piece_rows e.piece.now)) (xs : List ℤ) (size : length xs ≡ n) (here : IsPointHere n q above xs) where
  d : ℕ
  d = e.case.now.draws

  -- the rows that are asked
  pub asked_is : (asked : List Linear) → asked ≡ fixes (n + e.case.now.draws) 0 xs ++ rows → asked ≡ stepping_rows n xs (case_view e.case.now) e.piece.now
  asked_is asked g = g ∙ ap (λ rs. fixes (n + e.case.now.draws) 0 xs ++ rs) are.exact

  pub asked_inner : (asked : List Linear) → asked ≡ fixes (n + e.case.now.draws) 0 xs ++ rows → IsInner n q above (n + e.case.now.draws) asked
  asked_inner asked g = subst (IsInner n q above (n + e.case.now.draws)) (sym (asked_is asked g)) (stepping (case_view e.case.now) e.piece.now xs (in_way n q (case_view e.case.now) e.piece.now e.taken e.target rows h.taken h.from h.target are) here)

  -- no integer point of them
  pub no_step : (asked : List Linear) → asked ≡ fixes (n + e.case.now.draws) 0 xs ++ rows → ((zs : List ℤ) → IsWholePoint (n + e.case.now.draws) asked zs → ⊥) → NoStepTo n xs (case_view e.case.now) e.piece.now
  no_step asked g none ds many guards met =
      none (xs ++ ds) (subst (λ rs. IsWholePoint (n + e.case.now.draws) rs (xs ++ ds)) (sym g) (asked_met n (case_view e.case.now) (piece_rows e.piece.now) rows xs ds are owed size many guards met))

  pub point_terms : (asked : List Linear) (zs : List ℤ) (draws : List Linear) → asked ≡ fixes (n + e.case.now.draws) 0 xs ++ rows → IsWholePointOf (n + e.case.now.draws) asked zs → AreTermsAt n e.case.now.draws rows zs draws → AreDrawTerms n q above (case_view e.case.now) e.piece.now draws
  point_terms asked zs draws g origin t =
      at_point draws above [] xs zs (sym (append-nil above)) here (subst (λ rs. IsWholePointOf (n + e.case.now.draws) rs zs) (asked_is asked g) origin) (subst (λ rs. AreTermsAt n e.case.now.draws rs zs draws) are.exact t)

  -- what is too wide at an integer point of them
  pub wide_there : (asked : List Linear) (zs : List ℤ) (column : ℕ) → asked ≡ fixes (n + e.case.now.draws) 0 xs ++ rows → IsWholePointOf (n + e.case.now.draws) asked zs → IsWideAtPoint n e.case.now.draws rows zs column → IsWideHere n q above column
  wide_there asked zs column g origin w = draw_wide n q above e rows w.draws h are (point_terms asked zs w.draws g origin w.terms) column w.wide

  -- an integer point of them
  pub stepping_way : (asked : List Linear) (zs : List ℤ) (w : Way) → asked ≡ fixes (n + e.case.now.draws) 0 xs ++ rows → IsWholePoint (n + e.case.now.draws) asked zs → IsWholePointOf (n + e.case.now.draws) asked zs → IsWayAt n e.case.now.draws e.taken e.target rows zs w → IsWayFrom n q above xs w
  stepping_way asked zs w g point origin t =
      let p = subst (λ rs. IsWholePoint (n + e.case.now.draws) rs zs) g point in
      let front = answered_front n e.case.now.draws rows xs zs size p in
      let values = ap (λ ys. map (λ s. value s ys) t.draws) (sym front) ∙ terms_values n e.case.now.draws rows zs t.draws p.width t.terms in
      record {
        way = is_way n q above (case_view e.case.now) e.piece.now e.taken e.target rows t.draws w h.taken h.from h.target h.case owed t.terms.many (terms_even n e.case.now.draws rows zs t.draws are.even t.terms)
            (point_terms asked zs t.draws g origin t.terms) are t.made;
        met = way_met n e.taken e.target rows t.draws xs w size (subst (λ ds. All (IsMet (xs ++ ds)) rows) (sym values) (answered_met n e.case.now.draws rows xs zs size p)) t.made;
      }

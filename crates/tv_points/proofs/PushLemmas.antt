-- lines that are pushed one after another
use Rattle.std.proofs.Common.{◌≡◌, List, [], ◌∷◌, ◌++◌, length, All, map, refl, sym, ap, subst, ◌∙◌, ℕ, ℤ}
use Rattle.std.specs.Prelude.{Result, Ok, Err, MatchResult}
use Rattle.std.proofs.lemmas.List.{append_assoc, append-nil, map-append}
use Rattle.std.proofs.lemmas.List.Elements.{All-nil, All-cons, All-append}
use Rattle.tv_linear.specs.Fits.{IsFirstWide}
use Rattle.tv_linear.specs.Known.{Known}
use Rattle.tv_points.specs.PointRows.{point_multipliers}
use Rattle.tv_points.specs.Lines.{Line, line, lines_at, FitsLine, ShowsAt, IsShown, IsLineFault, multiplier_lists, ArePushed}
use Rattle.tv_points.specs.declared.fault.PointFault.{PointFault}
use Rattle.tv_points.specs.declared.fault.PointFault.TheVariants.{Wide, Memory}

-- ---- refusals
-- lines after change nothing
pub fault_before : (ls more : List Line) (x : PointFault) → IsLineFault ls x → IsLineFault (ls ++ more) x
fault_before ls more (Wide c) h = record {
  before = h.before;
  wide = h.wide;
  after = h.after ++ more;
  parts = ap (λ ys. ys ++ more) h.parts ∙ append_assoc h.before (h.wide ∷ h.after) more;
  shown = h.shown;
  first = h.first;
}
fault_before ls more Memory h = tt

-- nor do lines before that are shown
pub fault_behind : (ls more : List Line) (x : PointFault) → All IsShown ls → IsLineFault more x → IsLineFault (ls ++ more) x
fault_behind ls more (Wide c) shown h = record {
  before = ls ++ h.before;
  wide = h.wide;
  after = h.after;
  parts = ap (λ ys. ls ++ ys) h.parts ∙ sym (append_assoc ls h.before (h.wide ∷ h.after));
  shown = All-append IsShown ls h.before shown h.shown;
  first = h.first;
}
fault_behind ls more Memory shown h = tt

pub one_fault : (xs : List ℤ) (row : Known) (c : ℕ) → IsFirstWide (FitsLine row xs) (length xs) c → IsLineFault (line xs row ∷ []) (Wide c)
one_fault xs row c h = record { before = []; wide = line xs row; after = []; parts = refl; shown = All-nil IsShown; first = h }

module _ (xs : List ℤ) where
  lines_join : (rs bs : List Known) → lines_at xs (rs ++ bs) ≡ lines_at xs rs ++ lines_at xs bs
  lines_join rs bs = map-append (λ r. line xs r) rs bs

  rows_fault_before : (rs bs : List Known) (x : PointFault) → IsLineFault (lines_at xs rs) x → IsLineFault (lines_at xs (rs ++ bs)) x
  rows_fault_before rs bs x h = subst (λ ls. IsLineFault ls x) (sym (lines_join rs bs)) (fault_before (lines_at xs rs) (lines_at xs bs) x h)

  -- ---- what is pushed
  pub one_pushed : (row : Known) (ms : List ℤ) (old new : List (List ℤ)) → ShowsAt xs row ms → new ≡ old ++ ms ∷ [] → ArePushed xs (row ∷ []) old new
  one_pushed row ms old new h e = record {
    shown = All-cons IsShown (line xs row) [] (subst (λ ys. ShowsAt xs row ys) h.meant h) (All-nil IsShown);
    pushed = e ∙ ap (λ ys. old ++ ys ∷ []) h.meant;
  }

  pub none_pushed : (old : List (List ℤ)) → ArePushed xs [] old old
  none_pushed old = record { shown = All-nil IsShown; pushed = sym (append-nil old) }

  both_pushed : (rs bs : List Known) (old mid new : List (List ℤ)) → ArePushed xs rs old mid → ArePushed xs bs mid new → ArePushed xs (rs ++ bs) old new
  both_pushed rs bs old mid new h k = record {
    shown = subst (All IsShown) (sym (lines_join rs bs)) (All-append IsShown (lines_at xs rs) (lines_at xs bs) h.shown k.shown);
    pushed = k.pushed ∙ ap (λ ls. ls ++ multiplier_lists xs bs) h.pushed ∙ append_assoc old (multiplier_lists xs rs) (multiplier_lists xs bs) ∙ ap (λ ls. old ++ ls) (sym (map-append (λ r. point_multipliers r xs) rs bs));
  }

  -- the rows before are shown, and then this comes of the others
  pub then_pushed : {A : Type 0} (rs bs whole : List Known) (old mid new : List (List ℤ)) (r : Result A PointFault) → whole ≡ rs ++ bs → ArePushed xs rs old mid → MatchResult r (λ _. ArePushed xs bs mid new) (IsLineFault (lines_at xs bs)) → MatchResult r (λ _. ArePushed xs whole old new) (IsLineFault (lines_at xs whole))
  then_pushed rs bs whole old mid new (Ok u) e h k = subst (λ ts. ArePushed xs ts old new) (sym e) (both_pushed rs bs old mid new h k)
  then_pushed rs bs whole old mid new (Err x) e h k = subst (λ ts. IsLineFault (lines_at xs ts) x) (sym e)
      (subst (λ ls. IsLineFault ls x) (sym (lines_join rs bs)) (fault_behind (lines_at xs rs) (lines_at xs bs) x h.shown k))

  pub then_fault : (rs bs whole : List Known) (x : PointFault) → whole ≡ rs ++ bs → IsLineFault (lines_at xs rs) x → IsLineFault (lines_at xs whole) x
  then_fault rs bs whole x e h = subst (λ ts. IsLineFault (lines_at xs ts) x) (sym e) (rows_fault_before rs bs x h)

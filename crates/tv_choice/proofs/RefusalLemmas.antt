-- What refusals show.
use Rattle.std.proofs.Common.{◌≡◌, inl, inr, ℕ, suc, ◌+◌, List, [], ◌∷◌, ◌++◌, length, refl, sym, ap, ◌∙◌, subst, arith, append_assoc}
use Rattle.tv_linear.specs.Linear.{Linear}
use Rattle.tv_linear.specs.declared.region.Piece.{Piece}
use Rattle.tv_farkas.specs.declared.branch.Branch.{Branch}
use Rattle.tv_farkas.specs.declared.fault.CoverFault.{CoverFault}
use Rattle.tv_farkas.specs.declared.fault.CoverFault.TheVariants.{Splits, Solve, Wide, Memory}
use Rattle.tv_farkas.specs.Judging.{IsJudgeFault}
use Rattle.tv_farkas.specs.EmptyPaths.{IsEmptyFault}
use Rattle.tv_cases.specs.LinearCases.{LinearCase}
use Rattle.tv_choice.specs.declared.ways.Way.{Way}
use Rattle.tv_choice.specs.Leading.{Query}
use Rattle.tv_choice.specs.ChoicePaths.{AreDrawTerms, by_rows, at_point, IsSplit, IsInner}
use Rattle.tv_choice.specs.Refusals.{place, inner, IsWideHere, IsFaultHere, IsJoinedPath, IsWideChoice, target, behind, IsChoiceFault}
use Rattle.tv_choice.specs.Targets.{IsWideTarget}
use Rattle.tv_choice.specs.Looking.{IsLookFault}
use Rattle.tv_choice.specs.Ways.{IsWay, AreWays, IsUnmade}
use Rattle.tv_choice.specs.Settling.{IsPutBefore}

module _ (n : ℕ) (q : Query) where
  -- ---- at the rows above
  pub inner_fault : (above asked : List Linear) (w pivots left : ℕ) (fault : CoverFault) → IsInner n q above w asked → IsEmptyFault w asked pivots left fault → IsFaultHere n q above pivots left fault
  inner_fault above asked w pivots left (Splits path) i h = (inr record { width = w; rows = asked; inner = i; is_path = h.0 }, h.1)
  inner_fault above asked w pivots left (Solve kept fault) i h = inner w asked i h
  inner_fault above asked w pivots left (Wide column) i h = absurd h
  inner_fault above asked w pivots left Memory i h = tt

  pub unmade_fault : (above : List Linear) (pivots left : ℕ) (fault : CoverFault) → IsUnmade (IsWideHere n q above) fault → IsFaultHere n q above pivots left fault
  unmade_fault above pivots left (Splits path) h = absurd h
  unmade_fault above pivots left (Solve kept fault) h = absurd h
  unmade_fault above pivots left (Wide column) h = h
  unmade_fault above pivots left Memory h = tt

  pub judge_fault : (above : List Linear) (pivots left : ℕ) (fault : CoverFault) → IsJudgeFault n above pivots fault → IsFaultHere n q above pivots left fault
  judge_fault above pivots left (Splits path) h = absurd h
  judge_fault above pivots left (Solve kept fault) h = place h.0 h.1
  judge_fault above pivots left (Wide column) h = absurd h
  judge_fault above pivots left Memory h = tt

  pub look_fault : (above : List Linear) (pivots left : ℕ) (fault : CoverFault) → IsLookFault (IsWideHere n q above) n q above pivots fault → IsFaultHere n q above pivots left fault
  look_fault above pivots left (Splits path) h = absurd h
  look_fault above pivots left (Solve kept fault) h = h
  look_fault above pivots left (Wide column) h = h
  look_fault above pivots left Memory h = tt

  -- ---- after no path
  pub here_fault : (rows : List Linear) (pivots left : ℕ) (fault : CoverFault) → IsFaultHere n q rows pivots left fault → IsChoiceFault n q rows pivots left fault
  here_fault rows pivots left (Splits path) h = (record { own = []; behind = path.items; parts = refl; is_path = tt; inner = h.0 }, h.1)
  here_fault rows pivots left (Solve kept fault) h = record { own = []; is_path = tt; here = h }
  here_fault rows pivots left (Wide column) h = behind [] tt h
  here_fault rows pivots left Memory h = tt

  pub none_left : (rows : List Linear) (left : ℕ) (path : List Branch) → path ≡ [] → left ≡ 0 → IsJoinedPath n q rows path × (length path ≡ left)
  none_left rows left path e z = (record { own = []; behind = path; parts = refl; is_path = tt; inner = inl e }, ap length e ∙ sym z)

  -- a row of a target is too wide
  pub target_fault : (rows : List Linear) (pivots left : ℕ) (fault : CoverFault) → IsUnmade (IsWideTarget n q) fault → IsChoiceFault n q rows pivots left fault
  target_fault rows pivots left (Splits path) h = absurd h
  target_fault rows pivots left (Solve kept fault) h = absurd h
  target_fault rows pivots left (Wide column) h = target h
  target_fault rows pivots left Memory h = tt

  wide_before : (rows : List Linear) (b : Branch) (column : ℕ) → IsSplit n q rows b → IsWideChoice n q (rows ++ b.row ∷ []) column → IsWideChoice n q rows column
  wide_before rows b column r (target h) = target h
  wide_before rows b column r (behind path is h) = behind (b ∷ path) (r, is) h

  -- ---- after one more split
  pub side_refused : (rows : List Linear) (pivots left : ℕ) (b : Branch) (fault new : CoverFault) → IsSplit n q rows b → IsChoiceFault n q (rows ++ b.row ∷ []) pivots left fault → IsPutBefore b fault new → IsChoiceFault n q rows pivots (left + 1) new
  side_refused rows pivots left b (Splits path) (Splits whole) r h p = (
    record { own = b ∷ h.0.own; behind = h.0.behind; parts = p ∙ ap (λ k. b ∷ k) h.0.parts; is_path = (r, h.0.is_path); inner = h.0.inner },
    ap length p ∙ (let c = h.1 in let g : suc (length path.items) ≡ left + 1 = omega (arith, c) in g),
  )
  side_refused rows pivots left b (Splits path) (Solve kept fault) r h p = absurd p
  side_refused rows pivots left b (Splits path) (Wide column) r h p = absurd p
  side_refused rows pivots left b (Splits path) Memory r h p = absurd p
  side_refused rows pivots left b (Solve kept fault) new r h p = subst (IsChoiceFault n q rows pivots (left + 1)) (sym p) record { own = b ∷ h.own; is_path = (r, h.is_path); here = h.here }
  side_refused rows pivots left b (Wide column) new r h p = subst (IsChoiceFault n q rows pivots (left + 1)) (sym p) (wide_before rows b column r h)
  side_refused rows pivots left b Memory new r h p = subst (IsChoiceFault n q rows pivots (left + 1)) (sym p) tt

  -- ---- more rows above
  terms_longer : (above more : List Linear) (c : LinearCase) (p : Piece) (draws : List Linear) → AreDrawTerms n q above c p draws → AreDrawTerms n q (above ++ more) c p draws
  terms_longer above more c p draws (by_rows ds h) = by_rows ds h
  terms_longer above more c p draws (at_point ds earlier later xs zs e h g t) = at_point ds earlier (later ++ more) xs zs (ap (λ rs. rs ++ more) e ∙ append_assoc earlier later more) h g t

  pub way_longer : (above more : List Linear) (w : Way) → IsWay n q above w → IsWay n q (above ++ more) w
  way_longer above more w h = record {
    case = h.case;
    found = h.found;
    leaves = h.leaves;
    piece = h.piece;
    enters = h.enters;
    is_case = h.is_case;
    way_in = h.way_in;
    owed = h.owed;
    drawn = h.drawn;
    terms = h.terms;
    origin = terms_longer above more h.case h.piece w.draws.items h.origin;
    exact = h.exact;
    even = h.even;
    narrow = h.narrow;
    seen = h.seen;
  }

  pub ways_longer : (above more : List Linear) (ways : List Way) → AreWays n q above ways → AreWays n q (above ++ more) ways
  ways_longer above more ways h = record { each = λ i d l. way_longer above more _ (h.each i d l); targets_there = h.targets_there }

-- What shows each case, by the rounds of all components.
use Rattle.std.proofs.Common.{◌≡◌, ◌⊎◌, inl, inr, ℕ, suc, ◌+◌, ◌-◌, ◌<◌, ◌≤◌, ◌^◌, List, [], ◌∷◌, ◌++◌, length, map, get_or, All, None, Bool, false, if◌then◌else◌, arith, refl, sym, ap, ◌∙◌, subst, ℤ, pos}
use Rattle.std.proofs.lemmas.List.Elements.{All-nil, All-cons, All-append}
use Rattle.tv_linear.specs.Arithmetic.{zeros}
use Rattle.tv_linear.specs.Linear.{Linear, IsWithin}
use Rattle.tv_linear.specs.Known.{as_given}
use Rattle.tv_linear.specs.Covers.{ShownAt}
use Rattle.tv_linear.specs.declared.region.Piece.{Piece}
use Rattle.tv_rank.specs.Given.{lists}
use Rattle.tv_rank.specs.Ways.{Way, case_at, met_rows}
use Rattle.tv_lexrank.specs.declared.falling.Fall.{Fall}
use Rattle.tv_lexrank.specs.declared.round.Round.{Round}
use Rattle.tv_lexrank.specs.Closing.{changed}
use Rattle.tv_lexrank.specs.Falling.{AreNarrowLines}
use Rattle.tv_lexrank.specs.Known.{way_rows}
use Rattle.tv_lexrank.specs.Pieces.{padded_ranks}
use Rattle.tv_lexrank.specs.Rounds.{falls_in}
use Rattle.tv_lexrank.specs.Shown.{owed_fall}
use Rattle.tv_lexrank.specs.Sorting.{StandsIn, LeadsInside, IsNeverTaken, refutation_at}
use Rattle.tv_lexrank.specs.Rounds.{place_in}
use Rattle.tv_lexrank.specs.Steps.{IsFall}
use Rattle.tv_lexrank.proofs.SortLemmas.{of_case}
use Rattle.tv_lexrank.proofs.StepLemmas.{stands_empty}
use Rattle.tv_lexrank.proofs.ZeroLines.{zero_line}
use Rattle.tv_finitely.specs.declared.part.Part.{Part}
use Rattle.tv_finitely.specs.declared.ranking.Ranking.{Ranking}
use Rattle.tv_finitely.specs.Kept.{kept_rows}
use Rattle.tv_finitely.specs.Lines.{zero_lines, round_lines, IsInsideFall}
use Rattle.tv_finitely.specs.Parts.{IsPart, rounds_in}
use Rattle.tv_finitely.specs.Ranked.{split_in, system_of, way_in, all_ranks, fall_owed, FallsOver}
use Rattle.tv_finitely.specs.Walks.{marked_at}
use Rattle.tv_finitely.proofs.KeptLines.{Keeps, leaving_padded, inside_padded, keeps_padded, zero_narrow, zeros_narrow, round_narrow}
use Rattle.tv_finitely.proofs.Taken.{Taken, taken_by}

-- the ranks of a location of a component
pub ranks_same : (r : Ranking) (component : ℕ) (rounds : List Round) (l : ℕ) → get_or r.numbers.now l 0 ≡ component → rounds ≡ rounds_in r.parts.now component → padded_ranks (system_of r).variables component rounds l r.count ≡ all_ranks r l
ranks_same r component rounds l e f = ap (λ rs. padded_ranks (system_of r).variables component rs l r.count) f ∙ ap (λ c. padded_ranks (system_of r).variables c (rounds_in r.parts.now c) l r.count) (sym e)

-- ---- what is owed by a fall
module _ (r : Ranking) (k : ℕ) where
  abbrev v : ℕ
  v = (system_of r).variables

  abbrev w : Way
  w = way_in r k

  abbrev n : ℕ
  n = v + w.taken.draws

  abbrev known : List Piece
  known = r.known.now.pieces.items

  abbrev met : ℕ
  met = length (met_rows w)

  abbrev enters : Bool
  enters = (marked_at (split_in r) k).1

  pub by_fall : (fall : Fall) (j : ℕ) (ls : List (List ℤ)) (old new : List Linear) → IsFall (suc j) ls fall → old ≡ all_ranks r w.taken.from → new ≡ all_ranks r w.taken.to → ShownAt n (way_rows w) (owed_fall v w old new (suc j)) ls → All (All (IsWithin 62)) ls → FallsOver r k fall
  by_fall fall j ls old new is e f shown narrow = record {
    shown =
        subst (λ z. ShownAt n (way_rows w) (fall_owed r k z) (lists fall.lines.items)) (sym is.0)
        (subst (λ z. ShownAt n (way_rows w) (fall_owed r k (suc j)) z) (sym is.1)
        (subst (λ z. ShownAt n (way_rows w) (owed_fall v w z (all_ranks r w.taken.to) (suc j)) ls) e
        (subst (λ z. ShownAt n (way_rows w) (owed_fall v w old z (suc j)) ls) f shown)));
    narrow = subst AreNarrowLines (sym is.1) narrow;
  }

  by_no_fall : (fall : Fall) (ls : List (List ℤ)) (old new : List Linear) → IsFall 0 ls fall → old ≡ all_ranks r w.taken.from → new ≡ all_ranks r w.taken.to → enters ≡ false → Keeps v w old new ls → All (All (IsWithin 62)) ls → FallsOver r k fall
  by_no_fall fall ls old new is e f stays shown narrow = record {
    shown =
        subst (λ z. ShownAt n (way_rows w) (fall_owed r k z) (lists fall.lines.items)) (sym is.0)
        (subst (λ z. ShownAt n (way_rows w) (fall_owed r k 0) z) (sym is.1)
        (subst (λ b. ShownAt n (way_rows w) (if b then None else kept_rows (as_given (all_ranks r w.taken.from)) (map (changed v w) (all_ranks r w.taken.to))) ls) (sym stays)
        (subst (λ z. Keeps v w z (all_ranks r w.taken.to) ls) e
        (subst (λ z. Keeps v w old z ls) f shown))));
    narrow = subst AreNarrowLines (sym is.1) narrow;
  }

  -- ---- the case inside a component
  pub inside_case : (component many : ℕ) (p : Part) (fall : Fall) → component < 2 ^ 32 → IsPart (split_in r) known r.numbers.now component p → p.rounds.items ≡ rounds_in r.parts.now component → LeadsInside r.numbers.now component (case_at (system_of r).cases k) → StandsIn p.sorted.set.items k → many ≡ met → IsInsideFall p.rounds.items k many r.count fall → FallsOver r k fall
  inside_case component many p fall small part rounds inside stands counted h = by_either (grind arith)
    where
      rs : List Round
      rs = p.rounds.items

      left : List ℕ
      left = part.enough.left

      taken : Taken (system_of r) known left p.sorted.set.items rs
      taken = taken_by (system_of r) known p.sorted.set.items rs left part.enough.lead

      from_same : padded_ranks v component rs w.taken.from r.count ≡ all_ranks r w.taken.from
      from_same = ranks_same r component rs w.taken.from inside.0 rounds

      to_same : padded_ranks v component rs w.taken.to r.count ≡ all_ranks r w.taken.to
      to_same = ranks_same r component rs w.taken.to inside.1 rounds

      lines : All (All (IsWithin 62)) (round_lines rs k met)
      lines = round_narrow (system_of r) known left p.sorted.set.items rs taken k met

      stays : StandsIn left k → enters ≡ false
      stays (j, l, e) = subst (λ z. get_or (split_in r).enters z false ≡ false) e (part.enough.none_enters j l)

      inside_fall : IsInsideFall rs k met r.count fall
      inside_fall = subst (λ z. IsInsideFall rs k z r.count fall) counted h

      by_either : (falls_in k rs < length rs) ⊎ (length rs ≤ falls_in k rs) → FallsOver r k fall
      by_either (inl l) =
          let e : falls_in k rs + 2 ≡ suc (falls_in k rs + 1) = omega arith in
          by_fall fall (falls_in k rs + 1) (round_lines rs k met) (padded_ranks v component rs w.taken.from r.count) (padded_ranks v component rs w.taken.to r.count)
          (subst (λ z. IsFall z (round_lines rs k met) fall) e (inside_fall.falls l)) from_same to_same
          (subst (λ z. ShownAt n (way_rows w) (owed_fall v w (padded_ranks v component rs w.taken.from r.count) (padded_ranks v component rs w.taken.to r.count) z) (round_lines rs k met)) e
          (inside_padded (system_of r) known left p.sorted.set.items rs taken component k r.count small stands l)) lines
      by_either (inr l) =
          let g = keeps_padded (system_of r) known left p.sorted.set.items rs taken component k r.count small stands l in
          by_no_fall fall (round_lines rs k met ++ zero_lines met (r.count - 1 - length rs)) (padded_ranks v component rs w.taken.from r.count) (padded_ranks v component rs w.taken.to r.count)
          (inside_fall.keeps l) from_same to_same (stays g.1) g.0
          (All-append (All (IsWithin 62)) (round_lines rs k met) (zero_lines met (r.count - 1 - length rs)) lines (zeros_narrow met (r.count - 1 - length rs)))

  pub refuted_case : (component : ℕ) (p : Part) (ms : List ℤ) → IsPart (split_in r) known r.numbers.now component p → k < length (system_of r).cases → LeadsInside r.numbers.now component (case_at (system_of r).cases k) → (place_in p.sorted.set.items k < length p.sorted.set.items → ⊥) → ms ≡ refutation_at p.sorted (place_in p.sorted.empty.items k) → IsNeverTaken v w ms
  refuted_case component p ms part k_in inside out h =
      subst (IsNeverTaken v w) (sym h) (stands_empty (system_of r) known r.numbers.now component k p.sorted.set.items p.sorted.empty.items (lists p.sorted.refutations.items) part.sorted k_in inside out).1

  -- ---- one that leaves its component
  pub leaving_case : (many : ℕ) (fall : Fall) → k < length (system_of r).cases → (get_or r.numbers.now (case_at (system_of r).cases k).to 0 ≡ get_or r.numbers.now (case_at (system_of r).cases k).from 0 → ⊥) → many ≡ met → IsFall 1 ((zeros many ++ pos 1 ∷ []) ∷ (zeros many ++ pos 1 ∷ []) ∷ []) fall → FallsOver r k fall
  leaving_case many fall k_in other counted h =
      let numbers = r.numbers.now in
      let from = get_or numbers w.taken.from 0 in
      let to = get_or numbers w.taken.to 0 in
      let lower = below_of to from (r.never_rises k k_in) other in
      let l = (of_case (system_of r) k r.about.now.cases.are_cases k_in).leaves in
      let m = r.located in
      let u = r.below w.taken.from (omega (arith, l, m)) in
      let bounded = r.few_parts in
      by_fall fall 0 (zero_line met ∷ zero_line met ∷ []) (all_ranks r w.taken.from) (all_ranks r w.taken.to)
      (subst (λ z. IsFall 1 ((zeros z ++ pos 1 ∷ []) ∷ (zeros z ++ pos 1 ∷ []) ∷ []) fall) counted h) refl refl
      (leaving_padded v w from to (rounds_in r.parts.now from) (rounds_in r.parts.now to) r.count lower (omega (arith, u, bounded)))
      (All-cons (All (IsWithin 62)) (zero_line met) (zero_line met ∷ []) (zero_narrow met) (All-cons (All (IsWithin 62)) (zero_line met) [] (zero_narrow met) (All-nil (All (IsWithin 62)))))
    where
      below_of : (a b : ℕ) → a ≤ b → (a ≡ b → ⊥) → a < b
      below_of a b h n = by_order (grind arith)
        where
          by_order : (a < b) ⊎ (a ≡ b) → a < b
          by_order (inl l) = l
          by_order (inr q) = absurd (n q)

-- What shows each case, from each piece of its location.
use Rattle.std.proofs.Common.{inl, inr, All, ◌≡◌, ℕ, ◌+◌, ◌^◌, ◌<◌, ◌≤◌, List, [], ◌∷◌, ◌++◌, length, length-append, get_or, Option, None, Some, Vec, arith, refl, sym, ap, ◌∙◌, subst, ℤ, pos}
use Rattle.std.specs.Global.{Global}
use Rattle.std.proofs.lemmas.List.{append-nil}
use Rattle.std.proofs.lemmas.List.Elements.{All-nil, All-cons}
use Rattle.std.proofs.lemmas.Bool.{cases_lt}
use Rattle.tv_linear.specs.Arithmetic.{zeros}
use Rattle.tv_linear.specs.Linear.{Linear, IsWithin}
use Rattle.tv_linear.specs.Known.{Known}
use Rattle.tv_linear.specs.Covers.{ShownAt}
use Rattle.tv_cases.specs.LinearCases.{LinearCase, CaseSystem}
use Rattle.tv_cases.specs.Systems.{cases_of}
use Rattle.tv_rank.specs.Given.{lists}
use Rattle.tv_rank.specs.Ways.{Way, case_at, way_of, met_rows}
use Rattle.tv_lexrank.specs.Falling.{AreNarrowLines}
use Rattle.tv_lexrank.specs.Known.{way_rows}
use Rattle.tv_lexrank.specs.More.{way_with, IsUnderMore}
use Rattle.tv_lexrank.specs.Rounds.{place_in, falls_in, lines_of, ranks_at}
use Rattle.tv_lexrank.specs.Shown.{owed_fall, RefutesWay, IsShownBy}
use Rattle.tv_lexrank.specs.Sorting.{StandsIn, LeadsInside, IsNeverTaken, refutation_at}
use Rattle.tv_lexrank.specs.Steps.{IsFall}
use Rattle.tv_lexrank.specs.declared.falling.Fall.{Fall}
use Rattle.tv_lexrank.specs.declared.shown.CaseShown.{CaseShown}
use Rattle.tv_lexrank.specs.declared.shown.CaseShown.TheVariants.{Untaken, Falls}
use Rattle.tv_lexrank.proofs.Chained.{found_at}
use Rattle.tv_lexrank.proofs.NodeLemmas.{fall_padded}
use Rattle.tv_lexrank.proofs.SortLemmas.{of_case}
use Rattle.tv_lexrank.proofs.StepLemmas.{leaving_falls, stands_if, stands_empty}
use Rattle.tv_lexrank.proofs.ZeroLines.{zero_line}
use Rattle.tv_nested.specs.declared.part.Part.{Part}
use Rattle.tv_nested.specs.declared.ranking.Ranking.{Ranking}
use Rattle.tv_nested.specs.Amounts.{rounds_in, tuple_at}
use Rattle.tv_nested.specs.Apart.{IsApart, ShowsBare}
use Rattle.tv_nested.specs.Parts.{tuple_in, signs_in, nested_ranks, ShowsFrom}
use Rattle.tv_nested.specs.Ranks.{component_of, tuple_of_place, ranks_of, signs_at, way_from, ShowsCase}
use Rattle.tv_nested.specs.Signs.{terms_there, signs_there, sign_rows}
use Rattle.tv_nested.proofs.RankingLemmas.{component_in, tuple_length, signs_length}
use Rattle.tv_nested.proofs.TakenLemmas.{lead_down, down_narrow, line_narrow, zero_narrow, round_falls}

-- further ranks at the end do not change what shows a case
pub shown_padded : (v : ℕ) (w : Way) (old new more more' : List Linear) (s : CaseShown) → IsShownBy v w old new s → IsShownBy v w (old ++ more) (new ++ more') s
shown_padded v w old new more more' (Untaken ms) h = h
shown_padded v w old new more more' (Falls fall) h = record { shown = by_owed (owed_fall v w old new fall.number) refl h.shown; narrow = h.narrow }
  where
    by_owed : (o : Option (List Known)) → owed_fall v w old new fall.number ≡ o → ShownAt (v + w.taken.draws) (way_rows w) o (lists fall.lines.items) → ShownAt (v + w.taken.draws) (way_rows w) (owed_fall v w (old ++ more) (new ++ more') fall.number) (lists fall.lines.items)
    by_owed None e g = absurd g
    by_owed (Some rows) e g = subst (λ o. ShownAt (v + w.taken.draws) (way_rows w) o (lists fall.lines.items)) (sym (fall_padded v w old new more more' fall.number rows e)) g

-- ---- cases inside a component that the rounds do not leave
module _ (about : CaseSystem) (component : ℕ) (p : Part) (k : ℕ) (h : IsApart about component p k) (small : component < 2 ^ 32) where
  no_rows : way_of about.cases h.known k ≡ way_with (case_at about.cases k) []
  no_rows = ap (λ rows. way_with (case_at about.cases k) rows) (h.bare (case_at about.cases k).from)

  not_left : StandsIn p.left.items k → ⊥
  not_left s = h.out (found_at p.left.items k s.0 s.1 s.2).0

  -- a case that the rounds take out falls at its round
  pub round_shown : (met : ℕ) (fall : Fall) → StandsIn p.sorted.set.items k → met ≡ length (case_at about.cases k).guards → IsFall (falls_in k p.rounds.items + 2) ((zeros met ++ pos 1 ∷ []) ∷ lines_of k p.rounds.items) fall → ShowsBare about component p k (Falls fall)
  round_shown met fall stands count falls =
      let v = about.variables in
      let down = lead_down about h.known p.sorted.set.items p.rounds.items p.left.items h.is_part.lead in
      let w = way_of about.cases h.known k in
      let f = subst (λ z. IsFall (falls_in k p.rounds.items + 2) ((zeros z ++ pos 1 ∷ []) ∷ lines_of k p.rounds.items) fall) (count ∙ sym (ap (λ y. length (met_rows y)) no_rows)) falls in
      let shown = round_falls about h.known p.sorted.set.items p.rounds.items p.left.items component k fall.number down stands not_left small f.0 (lists fall.lines.items) f.1 in
      record {
        shown = subst (λ y. ShownAt (v + y.taken.draws) (way_rows y) (owed_fall v y (ranks_at v component p.rounds.items y.taken.from) (ranks_at v component p.rounds.items y.taken.to) fall.number) (lists fall.lines.items)) no_rows shown;
        narrow = subst AreNarrowLines (sym f.1) (All-cons (All (IsWithin 62)) (zero_line (length (met_rows w))) (lines_of k p.rounds.items) (zero_narrow (length (met_rows w))) (down_narrow about h.known p.sorted.set.items p.rounds.items p.left.items down k));
      }

  -- a case without a point is never taken
  pub empty_there : (place_in p.sorted.set.items k < length p.sorted.set.items → ⊥) → place_in p.sorted.empty.items k < length (lists p.sorted.refutations.items)
  empty_there out = (stands_empty about h.known h.numbers component k p.sorted.set.items p.sorted.empty.items (lists p.sorted.refutations.items) h.is_part.sorted h.within h.inside out).0

  pub refuted_shown : (ms : Vec ℤ Global) → (place_in p.sorted.set.items k < length p.sorted.set.items → ⊥) → ms.items ≡ refutation_at p.sorted (place_in p.sorted.empty.items k) → ShowsBare about component p k (Untaken ms)
  refuted_shown ms out e =
      let s = stands_empty about h.known h.numbers component k p.sorted.set.items p.sorted.empty.items (lists p.sorted.refutations.items) h.is_part.sorted h.within h.inside out in
      subst (RefutesWay about.variables (way_with (case_at about.cases k) [])) (sym e) (record {
        refutes = subst (λ y. IsNeverTaken about.variables y (refutation_at p.sorted (place_in p.sorted.empty.items k))) no_rows s.1;
        narrow = line_narrow (lists p.sorted.refutations.items) (place_in p.sorted.empty.items k) h.is_part.sorted.narrow;
      })

-- ---- by the ranks of a ranking
module _ (r : Ranking) (k piece : ℕ) where
  abbrev about : CaseSystem
  about = cases_of r.about.now

  abbrev v : ℕ
  v = (cases_of r.about.now).variables

  abbrev c : LinearCase
  c = case_at (cases_of r.about.now).cases k

  -- the parts of a ranking's lists at a location of the component
  signs_same : (component : ℕ) (p : Part) (l : ℕ) → component_of r l ≡ component → tuple_in p ≡ tuple_at r.parts.now component → signs_in v p l ≡ signs_at r l
  signs_same component p l e t = ap (λ ts. signs_there v ts l) (t ∙ ap (tuple_at r.parts.now) (sym e))

  ranks_same : (component : ℕ) (p : Part) (l : ℕ) → component_of r l ≡ component → p.rounds.items ≡ rounds_in r.parts.now component → tuple_in p ≡ tuple_at r.parts.now component → nested_ranks v component p l ≡ ranks_of r l
  ranks_same component p l e rounds t =
      (λ i. ranks_at v component (rounds i) l ++ terms_there v (t i) l)
      ∙ ap (λ n. ranks_at v n (rounds_in r.parts.now n) l ++ terms_there v (tuple_at r.parts.now n) l) (sym e)

  rounds_same : (component : ℕ) (p : Part) (l : ℕ) → component_of r l ≡ component → p.rounds.items ≡ rounds_in r.parts.now component → ranks_at v component p.rounds.items l ≡ ranks_at v (component_of r l) (rounds_in r.parts.now (component_of r l)) l
  rounds_same component p l e rounds = ap (λ rs. ranks_at v component rs l) rounds ∙ ap (λ n. ranks_at v n (rounds_in r.parts.now n) l) (sym e)

  -- a case of the set over which terms are nested
  pub set_case : (component : ℕ) (p : Part) (s : CaseShown) → LeadsInside r.numbers.now component (case_at (cases_of r.about.now).cases k) → p.rounds.items ≡ rounds_in r.parts.now component → tuple_in p ≡ tuple_at r.parts.now component → ShowsFrom (cases_of r.about.now) component p k piece s → ShowsCase r k piece s
  set_case component p s inside rounds t h =
      subst (λ new. IsShownBy v (way_from r c piece) (ranks_of r c.from) new s) (ranks_same component p c.to inside.1 rounds t)
      (subst (λ old. IsShownBy v (way_from r c piece) old (nested_ranks v component p c.to) s) (ranks_same component p c.from inside.0 rounds t)
      (subst (λ signs. IsShownBy v (way_with c (sign_rows signs piece)) (nested_ranks v component p c.from) (nested_ranks v component p c.to) s) (signs_same component p c.from inside.0 t) h))

  -- what shows it where no rows are known shows it from each piece
  pub bare_case : (component rows : ℕ) (p : Part) (old s : CaseShown) → LeadsInside r.numbers.now component (case_at (cases_of r.about.now).cases k) → p.rounds.items ≡ rounds_in r.parts.now component → rows ≡ length (sign_rows (signs_at r (case_at (cases_of r.about.now).cases k).from) piece) → ShowsBare (cases_of r.about.now) component p k old → IsUnderMore 0 rows old s → ShowsCase r k piece s
  bare_case component rows p old s inside rounds count h under =
      let more = sign_rows (signs_at r c.from) piece in
      let shown = under v c [] more [] (ranks_at v component p.rounds.items c.from) (ranks_at v component p.rounds.items c.to) refl (sym count) h in
      let there = subst (λ ks. IsShownBy v (way_with c ks) (ranks_at v component p.rounds.items c.from) (ranks_at v component p.rounds.items c.to) s) (append-nil more) shown in
      let before = subst (λ z. IsShownBy v (way_from r c piece) z (ranks_at v component p.rounds.items c.to) s) (rounds_same component p c.from inside.0 rounds) there in
      let after = subst (λ z. IsShownBy v (way_from r c piece) (ranks_at v (component_of r c.from) (rounds_in r.parts.now (component_of r c.from)) c.from) z s) (rounds_same component p c.to inside.1 rounds) before in
      shown_padded v (way_from r c piece) (ranks_at v (component_of r c.from) (rounds_in r.parts.now (component_of r c.from)) c.from) (ranks_at v (component_of r c.to) (rounds_in r.parts.now (component_of r c.to)) c.to)
      (terms_there v (tuple_of_place r c.from) c.from) (terms_there v (tuple_of_place r c.to) c.to) s after

  -- a case that leads into another component
  pub leaving_case : (met : ℕ) (fall : Fall) → k < length (cases_of r.about.now).cases → (component_of r (case_at (cases_of r.about.now).cases k).to ≡ component_of r (case_at (cases_of r.about.now).cases k).from → ⊥) → met ≡ length (sign_rows (signs_at r (case_at (cases_of r.about.now).cases k).from) piece) + length (case_at (cases_of r.about.now).cases k).guards → IsFall 1 ((zeros met ++ pos 1 ∷ []) ∷ (zeros met ++ pos 1 ∷ []) ∷ []) fall → ShowsCase r k piece (Falls fall)
  leaving_case met fall k_in other count falls =
      let w = way_from r c piece in
      let zero = zero_line (length (met_rows w)) in
      let many : met ≡ length (met_rows (way_from r c piece)) = count ∙ sym (length-append (sign_rows (signs_at r c.from) piece) c.guards) in
      let f = subst (λ z. IsFall 1 ((zeros z ++ pos 1 ∷ []) ∷ (zeros z ++ pos 1 ∷ []) ∷ []) fall) many falls in
      let from = component_of r c.from in
      let to = component_of r c.to in
      let less = below_of to from (r.never_rises k k_in) other in
      let u = component_in r c.from (of_case about k r.about.now.are_cases k_in).leaves in
      let bounded = r.few_parts in
      shown_padded v w (ranks_at v (component_of r c.from) (rounds_in r.parts.now (component_of r c.from)) c.from) (ranks_at v (component_of r c.to) (rounds_in r.parts.now (component_of r c.to)) c.to)
      (terms_there v (tuple_of_place r c.from) c.from) (terms_there v (tuple_of_place r c.to) c.to) (Falls fall) (record {
        shown = subst (λ z. ShownAt (v + c.draws) (way_rows w) (owed_fall v w (ranks_at v from (rounds_in r.parts.now from) c.from) (ranks_at v to (rounds_in r.parts.now to) c.to) z) (lists fall.lines.items)) (sym f.0)
            (leaving_falls v w from to (rounds_in r.parts.now from) (rounds_in r.parts.now to) less (omega (arith, u, bounded)) (lists fall.lines.items) f.1);
        narrow = subst AreNarrowLines (sym f.1) (All-cons (All (IsWithin 62)) zero (zero ∷ []) (zero_narrow (length (met_rows w))) (All-cons (All (IsWithin 62)) zero [] (zero_narrow (length (met_rows w))) (All-nil (All (IsWithin 62)))));
      })
    where
      below_of : (a b : ℕ) → a ≤ b → (a ≡ b → ⊥) → a < b
      below_of a b h n = elim (cases_lt a b) [
        | inl l ↦ l
        | inr m ↦ absurd (n (omega (arith, h, m)))
      ]

-- the first place of a number that stands in a list
pub place_found : (xs : List ℕ) (k : ℕ) → place_in xs k < length xs → get_or xs (place_in xs k) 0 ≡ k
place_found xs k h = (let s = stands_if xs k h in (found_at xs k s.0 s.1 s.2).1)

-- a location of a component has a sign for each of its nested terms
pub terms_many : (r : Ranking) (k component : ℕ) (p : Part) → LeadsInside r.numbers.now component (case_at (cases_of r.about.now).cases k) → tuple_in p ≡ tuple_at r.parts.now component → length (signs_at r (case_at (cases_of r.about.now).cases k).from) ≡ length p.family.terms.items
terms_many r k component p inside t =
    let l = (case_at (cases_of r.about.now).cases k).from in
    signs_length (cases_of r.about.now).variables (tuple_of_place r (case_at (cases_of r.about.now).cases k).from) (case_at (cases_of r.about.now).cases k).from
    ∙ ap (λ n. length (tuple_at r.parts.now n)) inside.0 ∙ ap length (sym t) ∙ tuple_length p

-- What shows each case, by the ranks of a node.
use Rattle.std.proofs.Common.{All, ◌≡◌, ℕ, zero, suc, ◌+◌, ◌-◌, ◌<◌, List, [], ◌∷◌, ◌++◌, length, get_or, take, Option, None, Some, arith, refl, sym, ap, ◌∙◌, subst}
use Rattle.std.specs.Prelude.{slice_get}
use Rattle.std.specs.List.{AllZip}
use Rattle.std.proofs.lemmas.List.Elements.{All-head, All-tail}
use Rattle.std.proofs.Math.Seq.{take-suc}
use Rattle.tv_linear.specs.Linear.{Linear}
use Rattle.tv_linear.specs.Known.{Known}
use Rattle.tv_linear.specs.Covers.{ShownAt}
use Rattle.tv_linear.proofs.ListLaws.{zip_push}
use Rattle.tv_cases.specs.LinearCases.{LinearCase, IsCase}
use Rattle.tv_cases.specs.Systems.{cases_of}
use Rattle.tv_cert.specs.declared.node.Marked.{Marked}
use Rattle.tv_cert.specs.Pieces.{pieces_at, ranks_of as ranks_of_piece}
use Rattle.tv_rank.specs.Given.{lists}
use Rattle.tv_rank.specs.Ways.{Way, case_at, no_case}
use Rattle.tv_lexrank.specs.declared.ranking.Ranking.{Ranking}
use Rattle.tv_lexrank.specs.declared.shown.CaseShown.{CaseShown}
use Rattle.tv_lexrank.specs.declared.shown.CaseShown.TheVariants.{Untaken, Falls}
use Rattle.tv_lexrank.specs.Known.{way_rows}
use Rattle.tv_lexrank.specs.Attempt.{rounds_in}
use Rattle.tv_lexrank.specs.Shown.{owed_fall, IsShownBy, way_under, first_ranks, ranks_there, IsShownIn}
use Rattle.tv_lexrank.specs.Steps.{ranks_of, ShowsOver, ShowsCase, ShowsThese, ShowsEach}
use Rattle.tv_lexrank.specs.Pieces.{zero_ranks, all_ranks, ranked_piece}
use Rattle.tv_lexrank.specs.Offered.{ArePieces}
use Rattle.tv_lexrank.proofs.NodeLemmas.{fall_padded}

-- further ranks at the end do not change what shows a case
shown_padded : (v : ℕ) (w : Way) (old new more more' : List Linear) (s : CaseShown) → IsShownBy v w old new s → IsShownBy v w (old ++ more) (new ++ more') s
shown_padded v w old new more more' (Untaken ms) h = h
shown_padded v w old new more more' (Falls fall) h = record { shown = by_owed (owed_fall v w old new fall.number) refl h.shown; narrow = h.narrow }
  where
    by_owed : (o : Option (List Known)) → owed_fall v w old new fall.number ≡ o → ShownAt (v + w.taken.draws) (way_rows w) o (lists fall.lines.items) → ShownAt (v + w.taken.draws) (way_rows w) (owed_fall v w (old ++ more) (new ++ more') fall.number) (lists fall.lines.items)
    by_owed None e g = absurd g
    by_owed (Some rows) e g = subst (λ o. ShownAt (v + w.taken.draws) (way_rows w) o (lists fall.lines.items)) (sym (fall_padded v w old new more more' fall.number rows e)) g

first_is : (ps : List Marked) (p : Marked) → slice_get ps 0 ≡ Some p → first_ranks ps ≡ ranks_of_piece p
first_is [] p h = absurd cc
first_is (q ∷ ps) p h = (let e : q ≡ p = cc in ap ranks_of_piece e)

module _ (r : Ranking) (ps : List Marked) (pieces : ArePieces r ps) where
  abbrev v : ℕ
  v = (cases_of r.about.now).variables

  abbrev zeros_at : ℕ → List Linear
  zeros_at l = zero_ranks v (r.count - 1 - length (rounds_in r.parts.now (get_or r.numbers.now l 0)))

  ranks_are : (l : ℕ) → l < (cases_of r.about.now).locations → all_ranks r l ≡ ranks_there ps l
  ranks_are l h = sym (first_is (pieces_at ps l) (ranked_piece r l) (pieces l h))

  one_in : (c : LinearCase) (s : CaseShown) → IsCase v (cases_of r.about.now).locations c → ShowsOver r c s → IsShownIn (cases_of r.about.now) r.known.now.pieces.items ps c s
  one_in c s proper h =
      let w = way_under r.known.now.pieces.items c in
      subst (λ z. IsShownBy v w z (ranks_there ps c.to) s) (ranks_are c.from proper.leaves)
      (subst (λ z. IsShownBy v w (all_ranks r c.from) z s) (ranks_are c.to proper.enters)
      (shown_padded v w (ranks_of r c.from) (ranks_of r c.to) (zeros_at c.from) (zeros_at c.to) s h))

  pub each_in : (cases : List LinearCase) (shown : List CaseShown) → All (IsCase v (cases_of r.about.now).locations) cases → ShowsThese r cases shown → AllZip (IsShownIn (cases_of r.about.now) r.known.now.pieces.items ps) cases shown
  each_in [] [] proper h = tt
  each_in [] (s ∷ shown) proper h = absurd h
  each_in (c ∷ cases) [] proper h = absurd h
  each_in (c ∷ cases) (s ∷ shown) proper h =
      (one_in c s (All-head (IsCase v (cases_of r.about.now).locations) c cases proper) h.0, each_in cases shown (All-tail (IsCase v (cases_of r.about.now).locations) c cases proper) h.1)

-- ---- one for each case
pub shown_more : (r : Ranking) (k : ℕ) (old new : List CaseShown) (s : CaseShown) → k < length (cases_of r.about.now).cases → ShowsCase r k s → new ≡ old ++ s ∷ [] → ShowsThese r (take k (cases_of r.about.now).cases) old → ShowsThese r (take (k + 1) (cases_of r.about.now).cases) new
shown_more r k old new s k_in shown e h =
    let cases = (cases_of r.about.now).cases in
    let next = ap (λ n. take n cases) (let q : k + 1 ≡ suc k = omega arith in q) ∙ take-suc cases k no_case k_in in
    subst (ShowsThese r (take (k + 1) cases)) (sym e)
    (subst (λ cs. ShowsThese r cs (old ++ s ∷ [])) (sym next) (zip_push (ShowsOver r) (take k cases) old (case_at cases k) s h shown))

zip_at : (r : Ranking) (cases : List LinearCase) (shown : List CaseShown) (k : ℕ) (d : CaseShown) → ShowsThese r cases shown → k < length cases → ShowsOver r (case_at cases k) (get_or shown k d)
zip_at r [] shown k d h l = absurd (omega (arith, l))
zip_at r (c ∷ cases) [] k d h l = absurd h
zip_at r (c ∷ cases) (s ∷ shown) zero d h l = h.0
zip_at r (c ∷ cases) (s ∷ shown) (suc k) d h l = zip_at r cases shown k d h.1 (omega (arith, l))

pub shown_at : (r : Ranking) (shown : List CaseShown) (k : ℕ) (s : CaseShown) → ShowsEach r shown → k < length (cases_of r.about.now).cases → s ≡ get_or shown k s → ShowsCase r k s
shown_at r shown k s h l e = subst (ShowsCase r k) (sym e) (zip_at r (cases_of r.about.now).cases shown k s h l)

pub as_many : (r : Ranking) (cases : List LinearCase) (shown : List CaseShown) → ShowsThese r cases shown → length shown ≡ length cases
as_many r [] [] h = refl
as_many r [] (s ∷ shown) h = absurd h
as_many r (c ∷ cases) [] h = absurd h
as_many r (c ∷ cases) (s ∷ shown) h = ap suc (as_many r cases shown h.1)

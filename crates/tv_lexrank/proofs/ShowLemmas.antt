-- What the covers of steps show of a ranking.
use Rattle.std.proofs.Common.{◌⊎◌, inl, inr, All, ◌≡◌, ℕ, zero, suc, ◌+◌, ◌^◌, ◌<◌, ◌≤◌, List, [], ◌∷◌, ◌++◌, length, get_or, Bool, true, false, ◌==◌, if◌then◌else◌, arith, refl, sym, ap, ◌∙◌, subst, ℤ, pos, unsigned_abs}
use Rattle.std.proofs.lemmas.List.Elements.{All-nil, All-cons, All-push, All-head, All-tail}
use Rattle.tv_linear.specs.Arithmetic.{zeros}
use Rattle.tv_linear.specs.Linear.{Linear, columns, IsWithin}
use Rattle.tv_linear.specs.Covers.{ShownAt}
use Rattle.tv_linear.specs.declared.region.Piece.{Piece}
use Rattle.tv_linear.proofs.PlainLists.{length-zeros, zeros-narrow}
use Rattle.tv_cases.specs.LinearCases.{CaseSystem}
use Rattle.tv_cases.specs.Systems.{cases_of}
use Rattle.tv_rank.specs.declared.found.LocalTerm.{LocalTerm}
use Rattle.tv_rank.specs.Given.{lists}
use Rattle.tv_rank.specs.Ways.{met_rows, case_at}
use Rattle.tv_rank.specs.Rankings.{local_term}
use Rattle.tv_lexrank.specs.declared.round.Round.{Round}
use Rattle.tv_lexrank.specs.declared.part.Part.{Part}
use Rattle.tv_lexrank.specs.declared.ranking.Ranking.{Ranking}
use Rattle.tv_lexrank.specs.Greedy.{without}
use Rattle.tv_lexrank.specs.Rounds.{Chain, end, next, place_in, line_at, falling_of, falls_in, lines_of, terms_at, ranks_at}
use Rattle.tv_lexrank.specs.Sorting.{StandsIn, LeadsInside, refutation_at}
use Rattle.tv_lexrank.specs.Parts.{IsPart}
use Rattle.tv_lexrank.specs.Attempt.{PartsFrom, rounds_in, ranks_in}
use Rattle.tv_lexrank.specs.declared.falling.Fall.{Fall}
use Rattle.tv_lexrank.specs.Known.{way_rows}
use Rattle.tv_lexrank.specs.Falling.{AreNarrowLines}
use Rattle.tv_lexrank.specs.Shown.{owed_fall, RefutesWay}
use Rattle.tv_lexrank.specs.Steps.{FallsOver, way_in, ranks_of, IsFall}
use Rattle.tv_lexrank.proofs.Removing.{length-without}
use Rattle.tv_lexrank.proofs.SortLemmas.{few_below, of_case}
use Rattle.tv_lexrank.proofs.StepLemmas.{inside_falls, leaving_falls, stands_empty}
use Rattle.tv_lexrank.proofs.ZeroLines.{zero_line}

-- ---- narrow multipliers
abbrev Narrow : ℤ → Type 0
Narrow z = IsWithin 62 z

line_narrow : (ls : List (List ℤ)) (i : ℕ) → All (All Narrow) ls → All Narrow (get_or ls i [])
line_narrow [] i h = All-nil Narrow
line_narrow (l ∷ ls) zero h = All-head (All Narrow) l ls h
line_narrow (l ∷ ls) (suc i) h = line_narrow ls i (All-tail (All Narrow) l ls h)

pub chain_narrow : (about : CaseSystem) (known : List Piece) (set : List ℕ) (rounds : List Round) → Chain about known set rounds → (k : ℕ) → All (All Narrow) (lines_of k rounds)
chain_narrow about known set rounds end k = All-nil (All Narrow)
chain_narrow about known set rounds (next s r rs round chain) k = by_test (falling_of r == k) (chain_narrow about known (without s r.place) rs chain k)
  where
    one : (i : ℕ) → All Narrow (line_at r i)
    one i = line_narrow (lists r.multipliers.items) i round.family.narrow

    by_test : (b : Bool) → All (All Narrow) (lines_of k rs) → All (All Narrow) (if b then line_at r r.place ∷ line_at r (length r.set.items) ∷ [] else line_at r (place_in r.set.items k) ∷ lines_of k rs)
    by_test true rest = All-cons (All Narrow) (line_at r r.place) (line_at r (length r.set.items) ∷ []) (one r.place) (All-cons (All Narrow) (line_at r (length r.set.items)) [] (one (length r.set.items)) (All-nil (All Narrow)))
    by_test false rest = All-cons (All Narrow) (line_at r (place_in r.set.items k)) (lines_of k rs) (one (place_in r.set.items k)) rest

zero_narrow : (n : ℕ) → All Narrow (zero_line n)
zero_narrow n = All-push Narrow (zeros n) (pos 1) (zeros-narrow n) (let q : unsigned_abs (pos 1) < 2 ^ 62 = omega arith in q)

-- ---- the ranks of a location of a component
ranks_same : (v : ℕ) (numbers : List ℕ) (parts : List Part) (component : ℕ) (rounds : List Round) (l : ℕ) → get_or numbers l 0 ≡ component → rounds ≡ rounds_in parts component → ranks_at v component rounds l ≡ ranks_in v numbers parts l
ranks_same v numbers parts component rounds l e f = ap (λ rs. ranks_at v component rs l) f ∙ ap (λ c. ranks_at v c (rounds_in parts c) l) (sym e)

-- ---- what the covers show
module _ (r : Ranking) (k : ℕ) where
  abbrev about : CaseSystem
  about = cases_of r.about.now

  abbrev pieces : List Piece
  pieces = r.known.now.pieces.items

  -- moved from the ranks of two components to those of the ranking
  moved : (old new : List Linear) (fall : Fall) → old ≡ ranks_of r (way_in r k).taken.from → new ≡ ranks_of r (way_in r k).taken.to → ShownAt (about.variables + (way_in r k).taken.draws) (way_rows (way_in r k)) (owed_fall about.variables (way_in r k) old new fall.number) (lists fall.lines.items) → AreNarrowLines (lists fall.lines.items) → FallsOver r k fall
  moved old new fall e f shown narrow = record {
    shown = subst (λ z. ShownAt (about.variables + (way_in r k).taken.draws) (way_rows (way_in r k)) (owed_fall about.variables (way_in r k) z (ranks_of r (way_in r k).taken.to) fall.number) (lists fall.lines.items)) e
        (subst (λ z. ShownAt (about.variables + (way_in r k).taken.draws) (way_rows (way_in r k)) (owed_fall about.variables (way_in r k) old z fall.number) (lists fall.lines.items)) f shown);
    narrow = narrow;
  }

  pub inside_shown : (component met : ℕ) (p : Part) (fall : Fall) → component < 2 ^ 32 → IsPart about pieces r.numbers.now component p → p.rounds.items ≡ rounds_in r.parts.now component → LeadsInside r.numbers.now component (case_at about.cases k) → StandsIn p.sorted.set.items k → met ≡ length (met_rows (way_in r k)) → IsFall (falls_in k p.rounds.items + 2) ((zeros met ++ pos 1 ∷ []) ∷ lines_of k p.rounds.items) fall → FallsOver r k fall
  inside_shown component met p fall small part rounds inside stands count falls =
      let v = about.variables in
      let w = way_in r k in
      let f = subst (λ z. IsFall (falls_in k p.rounds.items + 2) ((zeros z ++ pos 1 ∷ []) ∷ lines_of k p.rounds.items) fall) count falls in
      let old = ranks_at v component p.rounds.items w.taken.from in
      let new = ranks_at v component p.rounds.items w.taken.to in
      moved old new fall
      (ranks_same v r.numbers.now r.parts.now component p.rounds.items w.taken.from inside.0 rounds)
      (ranks_same v r.numbers.now r.parts.now component p.rounds.items w.taken.to inside.1 rounds)
      (inside_falls about pieces p.sorted.set.items p.rounds.items component k fall.number part.chain stands small f.0 (lists fall.lines.items) f.1)
      (subst AreNarrowLines (sym f.1) (All-cons (All Narrow) (zero_line (length (met_rows w))) (lines_of k p.rounds.items) (zero_narrow (length (met_rows w))) (chain_narrow about pieces p.sorted.set.items p.rounds.items part.chain k)))

  pub refuted_shown : (component : ℕ) (p : Part) (ms : List ℤ) → IsPart about pieces r.numbers.now component p → k < length about.cases → LeadsInside r.numbers.now component (case_at about.cases k) → (place_in p.sorted.set.items k < length p.sorted.set.items → ⊥) → ms ≡ refutation_at p.sorted (place_in p.sorted.empty.items k) → RefutesWay about.variables (way_in r k) ms
  refuted_shown component p ms part k_in inside out h =
      let e = stands_empty about pieces r.numbers.now component k p.sorted.set.items p.sorted.empty.items (lists p.sorted.refutations.items) part.sorted k_in inside out in
      subst (RefutesWay about.variables (way_in r k)) (sym h) (record {
        refutes = e.1;
        narrow = line_narrow (lists p.sorted.refutations.items) (place_in p.sorted.empty.items k) part.sorted.narrow;
      })

  pub leaving_shown : (met : ℕ) (fall : Fall) → k < length about.cases → (get_or r.numbers.now (case_at about.cases k).to 0 ≡ get_or r.numbers.now (case_at about.cases k).from 0 → ⊥) → met ≡ length (met_rows (way_in r k)) → IsFall 1 ((zeros met ++ pos 1 ∷ []) ∷ (zeros met ++ pos 1 ∷ []) ∷ []) fall → FallsOver r k fall
  leaving_shown met fall k_in other count falls =
      let v = about.variables in
      let w = way_in r k in
      let numbers = r.numbers.now in
      let zero = zero_line (length (met_rows w)) in
      let f = subst (λ z. IsFall 1 ((zeros z ++ pos 1 ∷ []) ∷ (zeros z ++ pos 1 ∷ []) ∷ []) fall) count falls in
      let from = get_or numbers w.taken.from 0 in
      let to = get_or numbers w.taken.to 0 in
      let less = below_of to from (r.never_rises k k_in) other in
      let l = (of_case about k r.about.now.are_cases k_in).leaves in
      let m = r.located in
      let u = r.below w.taken.from (omega (arith, l, m)) in
      let bounded = r.few_parts in
      moved (ranks_of r w.taken.from) (ranks_of r w.taken.to) fall refl refl
      (subst (λ z. ShownAt (v + w.taken.draws) (way_rows w) (owed_fall v w (ranks_of r w.taken.from) (ranks_of r w.taken.to) z) (lists fall.lines.items)) (sym f.0)
      (leaving_falls v w from to (rounds_in r.parts.now from) (rounds_in r.parts.now to) less (omega (arith, u, bounded)) (lists fall.lines.items) f.1))
      (subst AreNarrowLines (sym f.1) (All-cons (All Narrow) zero (zero ∷ []) (zero_narrow (length (met_rows w))) (All-cons (All Narrow) zero [] (zero_narrow (length (met_rows w))) (All-nil (All Narrow)))))
    where
      below_of : (a b : ℕ) → a ≤ b → (a ≡ b → ⊥) → a < b
      below_of a b h n = by_either (grind arith)
        where
          by_either : (a < b) ⊎ (a ≡ b) → a < b
          by_either (inl l) = l
          by_either (inr q) = absurd (n q)

-- ---- what a component has
pub rounds_chain : (about : CaseSystem) (known : List Piece) (numbers : List ℕ) (d c : ℕ) (ps : List Part) → PartsFrom about known numbers d ps → c < length ps → (p : Part) × IsPart about known numbers (d + c) p × (p.rounds.items ≡ rounds_in ps c)
rounds_chain about known numbers d c [] h l = absurd (omega (arith, l))
rounds_chain about known numbers d zero (p ∷ ps) h l = (p, subst (λ z. IsPart about known numbers z p) (let q : d ≡ d + 0 = omega arith in q) h.0, refl)
rounds_chain about known numbers d (suc c) (p ∷ ps) h l =
    let s = rounds_chain about known numbers (suc d) c ps h.1 (omega (arith, l)) in
    (s.0, subst (λ z. IsPart about known numbers z s.0) (let q : suc d + c ≡ d + suc c = omega arith in q) s.1, s.2)

chain_length : (about : CaseSystem) (known : List Piece) (set : List ℕ) (rounds : List Round) → Chain about known set rounds → length rounds ≡ length set
chain_length about known set rounds end = refl
chain_length about known set rounds (next s r rs round chain) =
    let h = chain_length about known (without s r.place) rs chain in
    let e = length-without s r.place round.within in
    let q : suc (length rs) ≡ length s = omega (arith, h, e) in
    q

part_few : (about : CaseSystem) (known : List Piece) (numbers : List ℕ) (c : ℕ) (p : Part) → length about.cases ≤ 8192 → IsPart about known numbers c p → length p.rounds.items ≤ 8192
part_few about known numbers c p bounded h =
    let a = chain_length about known p.sorted.set.items p.rounds.items h.chain in
    let b = few_below (length about.cases) p.sorted.set.items h.sorted.ascends h.sorted.numbered in
    omega (arith, a, b, bounded)

none_there : (ps : List Part) (c : ℕ) → length ps ≤ c → rounds_in ps c ≡ []
none_there [] c h = refl
none_there (p ∷ ps) zero h = absurd (omega (arith, h))
none_there (p ∷ ps) (suc c) h = none_there ps c (omega (arith, h))

pub parts_few : (about : CaseSystem) (known : List Piece) (numbers : List ℕ) (ps : List Part) → length about.cases ≤ 8192 → PartsFrom about known numbers 0 ps → (c : ℕ) → length (rounds_in ps c) ≤ 8192
parts_few about known numbers ps bounded h c = by_either (grind arith)
  where
    by_either : (c < length ps) ⊎ (length ps ≤ c) → length (rounds_in ps c) ≤ 8192
    by_either (inl l) = let s = rounds_chain about known numbers 0 c ps h l in subst (λ z. length z ≤ 8192) s.2 (part_few about known numbers (0 + c) s.0 bounded s.1)
    by_either (inr l) = subst (λ z. length z ≤ 8192) (sym (none_there ps c l)) (omega arith)

-- ---- the terms are over the variables
pub local_wide : (v : ℕ) (ts : List LocalTerm) (l : ℕ) → All (λ t. columns t.row ≡ v) ts → columns (local_term v ts l) ≡ v
local_wide v [] l h = length-zeros v
local_wide v (t ∷ ts) l h = by_test (t.location == l) (local_wide v ts l (All-tail (λ t. columns t.row ≡ v) t ts h))
  where
    by_test : (b : Bool) → columns (local_term v ts l) ≡ v → columns (if b then t.row else local_term v ts l) ≡ v
    by_test true rest = All-head (λ t. columns t.row ≡ v) t ts h
    by_test false rest = rest

pub chain_wide : (about : CaseSystem) (known : List Piece) (set : List ℕ) (rounds : List Round) → Chain about known set rounds → (l : ℕ) → All (λ r. columns r ≡ about.variables) (terms_at about.variables rounds l)
chain_wide about known set rounds end l = All-nil (λ r. columns r ≡ about.variables)
chain_wide about known set rounds (next s r rs round chain) l = All-cons (λ q. columns q ≡ about.variables) (local_term about.variables r.terms.items l) (terms_at about.variables rs l) (local_wide about.variables r.terms.items l round.family.wide) (chain_wide about known (without s r.place) rs chain l)

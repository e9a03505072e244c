-- The ranks and the signs of locations.
use Rattle.std.proofs.Common.{◌⊎◌, inl, inr, All, ◌≡◌, ℕ, zero, suc, ◌+◌, ◌-◌, ◌<◌, ◌≤◌, List, [], ◌∷◌, length, length-append, map, arith, refl, sym, ap, ◌∙◌, subst, pos}
use Rattle.std.proofs.lemmas.List.{length-map}
use Rattle.std.proofs.lemmas.List.Elements.{All-nil, All-cons, All-push, All-append, All-head, All-tail}
use Rattle.tv_linear.specs.Linear.{Linear, columns}
use Rattle.tv_linear.specs.Arithmetic.{constant_row, opposite}
use Rattle.tv_linear.specs.declared.region.Piece.{Piece}
use Rattle.tv_linear.proofs.Entries.{columns-opposite}
use Rattle.tv_linear.proofs.PlainLists.{length-zeros}
use Rattle.tv_cases.specs.LinearCases.{CaseSystem}
use Rattle.tv_cases.specs.Systems.{cases_of}
use Rattle.tv_rank.specs.Rankings.{local_term}
use Rattle.tv_rank.specs.declared.found.LocalTerm.{LocalTerm}
use Rattle.tv_lexrank.specs.Pieces.{zero_ranks}
use Rattle.tv_lexrank.specs.Rounds.{ranks_at, terms_at}
use Rattle.tv_lexrank.proofs.ShowLemmas.{local_wide}
use Rattle.tv_lexrank.proofs.SortLemmas.{few_below}
use Rattle.tv_nested.specs.declared.part.Part.{Part}
use Rattle.tv_nested.specs.declared.ranking.Ranking.{Ranking}
use Rattle.tv_nested.specs.Amounts.{rounds_in, tuple_at, amount_in}
use Rattle.tv_nested.specs.Parts.{tuple_in, IsNestedPart, PartsFrom}
use Rattle.tv_nested.specs.Ranks.{AreRanked, component_of, tuple_of_place, ranks_of, all_ranks, signs_at}
use Rattle.tv_nested.specs.Signs.{terms_there, signs_there, sign_rows}
use Rattle.tv_nested.proofs.ComponentLemmas.{part_there}
use Rattle.tv_nested.proofs.TakenLemmas.{lead_down, down_length, down_wide}

-- ---- how many rows a piece has
pub sign_rows_length : (signs : List Linear) (q : ℕ) → q < length signs → length (sign_rows signs q) ≡ q + 1
sign_rows_length [] q h = absurd (omega (arith, h))
sign_rows_length (r ∷ signs) zero h = refl
sign_rows_length (r ∷ signs) (suc q) h = (let e = sign_rows_length signs q (omega (arith, h)) in omega (arith, e))

pub last_rows_length : (signs : List Linear) (q : ℕ) → q ≡ length signs → length (sign_rows signs q) ≡ q
last_rows_length [] q h = sym h
last_rows_length (r ∷ signs) zero h = absurd (omega (arith, h))
last_rows_length (r ∷ signs) (suc q) h = ap suc (last_rows_length signs q (omega (arith, h)))

pub signs_length : (v : ℕ) (tuple : List (List LocalTerm)) (l : ℕ) → length (signs_there v tuple l) ≡ length tuple
signs_length v tuple l = length-map (terms_there v tuple l) opposite ∙ length-map tuple (λ terms. local_term v terms l)

-- ---- how many terms a component has
pub tuple_length : (p : Part) → length (tuple_in p) ≡ length p.family.terms.items
tuple_length p = length-map p.family.terms.items (λ v. v.items)

pub rounds_few : (about : CaseSystem) (known : List Piece) (numbers : List ℕ) (c : ℕ) (p : Part) → length about.cases ≤ 8192 → IsNestedPart about known numbers c p → length p.rounds.items ≤ 8192
rounds_few about known numbers c p bounded h =
    let a = down_length about known p.sorted.set.items p.rounds.items p.left.items (lead_down about known p.sorted.set.items p.rounds.items p.left.items h.lead) in
    let b = few_below (length about.cases) p.sorted.set.items h.sorted.ascends h.sorted.numbered in
    omega (arith, a, b, bounded)

no_rounds : (ps : List Part) (c : ℕ) → length ps ≤ c → rounds_in ps c ≡ []
no_rounds [] c h = refl
no_rounds (p ∷ ps) zero h = absurd (omega (arith, h))
no_rounds (p ∷ ps) (suc c) h = no_rounds ps c (omega (arith, h))

no_tuple : (ps : List Part) (c : ℕ) → length ps ≤ c → tuple_at ps c ≡ []
no_tuple [] c h = refl
no_tuple (p ∷ ps) zero h = absurd (omega (arith, h))
no_tuple (p ∷ ps) (suc c) h = no_tuple ps c (omega (arith, h))

pub parts_few : (about : CaseSystem) (known : List Piece) (numbers : List ℕ) (ps : List Part) → length about.cases ≤ 8192 → PartsFrom about known numbers 0 ps → (c : ℕ) → amount_in ps c ≤ 8196
parts_few about known numbers ps bounded h c = by_either (grind arith)
  where
    by_either : (c < length ps) ⊎ (length ps ≤ c) → amount_in ps c ≤ 8196
    by_either (inl l) =
        let s = part_there about known numbers 0 c ps h l in
        let a = rounds_few about known numbers (0 + c) s.0 bounded s.1 in
        let b = s.1.shallow in
        let d = tuple_length s.0 in
        let e = ap length s.2 in
        let f = ap length s.3 in
        omega (arith, a, b, d, e, f)
    by_either (inr l) =
        let e = ap length (no_rounds ps c l) in
        let f = ap length (no_tuple ps c l) in
        omega (arith, e, f)

-- ---- terms are over the variables
opposites_wide : (v : ℕ) (rows : List Linear) → All (λ r. columns r ≡ v) rows → All (λ r. columns r ≡ v) (map opposite rows)
opposites_wide v [] h = All-nil (λ r. columns r ≡ v)
opposites_wide v (r ∷ rows) h =
    All-cons (λ r. columns r ≡ v) (opposite r) (map opposite rows) (columns-opposite r ∙ All-head (λ r. columns r ≡ v) r rows h) (opposites_wide v rows (All-tail (λ r. columns r ≡ v) r rows h))

tuple_wide : (v : ℕ) (tuple : List (List LocalTerm)) (l : ℕ) → All (All (λ t. columns t.row ≡ v)) tuple → All (λ r. columns r ≡ v) (terms_there v tuple l)
tuple_wide v [] l h = All-nil (λ r. columns r ≡ v)
tuple_wide v (t ∷ tuple) l h =
    All-cons (λ r. columns r ≡ v) (local_term v t l) (terms_there v tuple l) (local_wide v t l (All-head (All (λ t. columns t.row ≡ v)) t tuple h)) (tuple_wide v tuple l (All-tail (All (λ t. columns t.row ≡ v)) t tuple h))

module _ (r : Ranking) where
  abbrev v : ℕ
  v = (cases_of r.about.now).variables

  -- the component of a location is one of them
  pub component_in : (l : ℕ) → l < (cases_of r.about.now).locations → component_of r l < length r.parts.now
  component_in l h = r.below l (let e = r.located in omega (arith, e, h))

  zeros_wide : (n : ℕ) → All (λ q. columns q ≡ v) (zero_ranks v n)
  zeros_wide zero = All-nil (λ q. columns q ≡ v)
  zeros_wide (suc n) = All-push (λ q. columns q ≡ v) (zero_ranks v n) (constant_row v (pos 0)) (zeros_wide n) (length-zeros v)

  zeros_many : (n : ℕ) → length (zero_ranks v n) ≡ n
  zeros_many zero = refl
  zeros_many (suc n) = length-append (zero_ranks v n) (constant_row v (pos 0) ∷ []) ∙ (let h = zeros_many n in omega (arith, h))

  pub ranks_many : (l : ℕ) → length (all_ranks r l) ≡ r.count
  ranks_many l =
      let c = component_of r l in
      let n = r.count - 1 - amount_in r.parts.now (component_of r l) in
      let e = r.enough (component_of r l) in
      let a = length-append (ranks_of r l) (zero_ranks v (r.count - 1 - amount_in r.parts.now (component_of r l))) in
      let b = zeros_many (r.count - 1 - amount_in r.parts.now (component_of r l)) in
      let d = length-append (ranks_at v (component_of r l) (rounds_in r.parts.now (component_of r l)) l) (terms_there v (tuple_of_place r l) l) in
      let f = length-map (rounds_in r.parts.now (component_of r l)) (λ x. local_term v x.terms.items l) in
      let g = length-map (tuple_of_place r l) (λ x. local_term v x l) in
      omega (arith, e, a, b, d, f, g)

  -- what the component of a location has
  pub part_of : (known : List Piece) → PartsFrom (cases_of r.about.now) known r.numbers.now 0 r.parts.now → (l : ℕ) → l < (cases_of r.about.now).locations → (p : Part) × IsNestedPart (cases_of r.about.now) known r.numbers.now (component_of r l) p × (p.rounds.items ≡ rounds_in r.parts.now (component_of r l)) × (tuple_in p ≡ tuple_of_place r l)
  part_of known parts l h =
      let s = part_there (cases_of r.about.now) known r.numbers.now 0 (component_of r l) r.parts.now parts (component_in l h) in
      (s.0, subst (λ z. IsNestedPart (cases_of r.about.now) known r.numbers.now z s.0) (let q : 0 + component_of r l ≡ component_of r l = omega arith in q) s.1, s.2, s.3)

  terms_wide : AreRanked r → (l : ℕ) → l < (cases_of r.about.now).locations → All (λ q. columns q ≡ v) (terms_there v (tuple_of_place r l) l)
  terms_wide (components, (known, bare, parts)) l h =
      let s = part_of known parts l h in
      subst (λ ts. All (λ q. columns q ≡ v) (terms_there v ts l)) s.3 (tuple_wide v (tuple_in s.0) l s.1.family.wide)

  pub signs_wide : AreRanked r → (l : ℕ) → l < (cases_of r.about.now).locations → All (λ q. columns q ≡ v) (signs_at r l)
  signs_wide ranked l h = opposites_wide v (terms_there v (tuple_of_place r l) l) (terms_wide ranked l h)

  pub signs_few : AreRanked r → (l : ℕ) → l < (cases_of r.about.now).locations → length (signs_at r l) ≤ 4
  signs_few (components, (known, bare, parts)) l h =
      let s = part_of known parts l h in
      let a = s.1.shallow in
      let b = tuple_length s.0 in
      let d = ap length s.3 in
      let e = signs_length v (tuple_of_place r l) l in
      omega (arith, a, b, d, e)

  pub ranks_wide : AreRanked r → (l : ℕ) → l < (cases_of r.about.now).locations → All (λ q. columns q ≡ v) (all_ranks r l)
  ranks_wide (components, (known, bare, parts)) l h =
      let s = part_of known parts l h in
      let c = component_of r l in
      let rounds = subst (λ rs. All (λ q. columns q ≡ v) (terms_at v rs l)) s.2
      (down_wide (cases_of r.about.now) known s.0.sorted.set.items s.0.rounds.items s.0.left.items (lead_down (cases_of r.about.now) known s.0.sorted.set.items s.0.rounds.items s.0.left.items s.1.lead) l) in
      All-append (λ q. columns q ≡ v) (ranks_of r l) (zero_ranks v (r.count - 1 - amount_in r.parts.now (component_of r l)))
      (All-append (λ q. columns q ≡ v) (ranks_at v (component_of r l) (rounds_in r.parts.now (component_of r l)) l) (terms_there v (tuple_of_place r l) l)
      (All-cons (λ q. columns q ≡ v) (constant_row v (pos (component_of r l))) (terms_at v (rounds_in r.parts.now (component_of r l)) l) (length-zeros v) rounds)
      (terms_wide (components, (known, bare, parts)) l h))
      (zeros_wide (r.count - 1 - amount_in r.parts.now (component_of r l)))

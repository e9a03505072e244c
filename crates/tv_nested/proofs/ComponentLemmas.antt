-- The terms of the components, one after the other.
use Rattle.std.proofs.Common.{◌≡◌, ℕ, zero, suc, ◌+◌, ◌<◌, List, [], ◌∷◌, ◌++◌, length, get_or, arith, refl, sym, ap, ◌∙◌, subst}
use Rattle.std.proofs.lemmas.List.{get_or-map}
use Rattle.tv_linear.specs.declared.region.Piece.{Piece}
use Rattle.tv_cases.specs.LinearCases.{CaseSystem}
use Rattle.tv_simplex.specs.declared.fault.SolveFault.{SolveFault}
use Rattle.tv_rank.specs.declared.name.Name.TheVariants as name
use Rattle.tv_lexrank.specs.Parts.{NamesPart}
use Rattle.tv_nested.specs.declared.fault.NestName.{NestName}
use Rattle.tv_nested.specs.declared.fault.NestName.TheVariants as named
use Rattle.tv_nested.specs.declared.fault.NestFault.{NestFault}
use Rattle.tv_nested.specs.declared.fault.NestFault.TheVariants as fault
use Rattle.tv_nested.specs.declared.part.Part.{Part}
use Rattle.tv_nested.specs.Amounts.{rounds_in, tuple_at}
use Rattle.tv_nested.specs.Attempts.{RefusesAttempt}
use Rattle.tv_nested.specs.Nested.{NamesSystem}
use Rattle.tv_nested.specs.Parted.{NamesNested, RefusesParted}
use Rattle.tv_nested.specs.Parts.{IsNestedPart, PartsFrom, AreNestedBefore, IsLeft, tuple_in}

parts_from : (about : CaseSystem) (known : List Piece) (numbers : List ℕ) (c d : ℕ) (ps : List Part) (p : Part) → PartsFrom about known numbers c ps → d ≡ c + length ps → IsNestedPart about known numbers d p → PartsFrom about known numbers c (ps ++ p ∷ [])
parts_from about known numbers c d [] p h e i = (subst (λ z. IsNestedPart about known numbers z p) (let q : d ≡ c = omega (arith, e) in q) i, tt)
parts_from about known numbers c d (q ∷ ps) p h e i = (h.0, parts_from about known numbers (suc c) d ps p h.1 (omega (arith, e)) i)

pub parts_more : (about : CaseSystem) (known : List Piece) (numbers : List ℕ) (d : ℕ) (ps news : List Part) (p : Part) → PartsFrom about known numbers 0 ps → length ps ≡ d → IsNestedPart about known numbers d p → news ≡ ps ++ p ∷ [] → PartsFrom about known numbers 0 news
parts_more about known numbers d ps news p h e i m = subst (λ z. PartsFrom about known numbers 0 z) (sym m) (parts_from about known numbers 0 d ps p h (omega (arith, e)) i)

part_from : (about : CaseSystem) (known : List Piece) (numbers : List ℕ) (c k : ℕ) (ps : List Part) (d : Part) → PartsFrom about known numbers c ps → k < length ps → IsNestedPart about known numbers (c + k) (get_or ps k d)
part_from about known numbers c k [] d h l = absurd (omega (arith, l))
part_from about known numbers c zero (p ∷ ps) d h l = subst (λ z. IsNestedPart about known numbers z p) (let q : c ≡ c + 0 = omega arith in q) h.0
part_from about known numbers c (suc k) (p ∷ ps) d h l = subst (λ z. IsNestedPart about known numbers z (get_or ps k d)) (let q : suc c + k ≡ c + suc k = omega arith in q) (part_from about known numbers (suc c) k ps d h.1 (omega (arith, l)))

pub part_is : (about : CaseSystem) (known : List Piece) (numbers : List ℕ) (k : ℕ) (ps : List Part) (p : Part) → PartsFrom about known numbers 0 ps → k < length ps → p ≡ get_or ps k p → IsNestedPart about known numbers k p
part_is about known numbers k ps p h l e = subst (λ z. IsNestedPart about known numbers k z) (sym e) (subst (λ z. IsNestedPart about known numbers z (get_or ps k p)) (let q : 0 + k ≡ k = omega arith in q) (part_from about known numbers 0 k ps p h l))

pub rounds_are : (k : ℕ) (ps : List Part) (p : Part) → k < length ps → p ≡ get_or ps k p → rounds_in ps k ≡ p.rounds.items
rounds_are k ps p l e = get_or-map (λ q. q.rounds.items) ps k p [] l ∙ ap (λ q. q.rounds.items) (sym e)

pub tuple_is : (k : ℕ) (ps : List Part) (p : Part) → k < length ps → p ≡ get_or ps k p → tuple_at ps k ≡ tuple_in p
tuple_is k ps p l e = get_or-map (λ q. tuple_in q) ps k p [] l ∙ ap (λ q. tuple_in q) (sym e)

-- what a component has
pub part_there : (about : CaseSystem) (known : List Piece) (numbers : List ℕ) (d c : ℕ) (ps : List Part) → PartsFrom about known numbers d ps → c < length ps → (p : Part) × IsNestedPart about known numbers (d + c) p × (p.rounds.items ≡ rounds_in ps c) × (tuple_in p ≡ tuple_at ps c)
part_there about known numbers d c [] h l = absurd (omega (arith, l))
part_there about known numbers d zero (p ∷ ps) h l = (p, subst (λ z. IsNestedPart about known numbers z p) (let q : d ≡ d + 0 = omega arith in q) h.0, refl, refl)
part_there about known numbers d (suc c) (p ∷ ps) h l =
    let s = part_there about known numbers (suc d) c ps h.1 (omega (arith, l)) in
    (s.0, subst (λ z. IsNestedPart about known numbers z s.0) (let q : suc d + c ≡ d + suc c = omega arith in q) s.1, s.2, s.3)

-- ---- refusals
named_first : (about : CaseSystem) (known : List Piece) (numbers : List ℕ) (component pivots : ℕ) (system : NestName) (e : SolveFault) → AreNestedBefore about known numbers component → NamesNested about known numbers component pivots system e → NamesSystem about known numbers pivots system e
named_first about known numbers component pivots (named.Empty k) e before h = (component, h, before)
named_first about known numbers component pivots (named.Rank c round falling) e before (is, h) =
    (subst (λ z. NamesPart about known numbers z pivots (name.Rank c round falling) e) (sym is) h, subst (AreNestedBefore about known numbers) (sym is) before)
named_first about known numbers component pivots (named.Nest c d) e before (is, (set, left, h)) =
    (set, subst (λ z. IsLeft about known numbers z set) (sym is) left, h, subst (AreNestedBefore about known numbers) (sym is) before)

pub part_refused : (about : CaseSystem) (known : List Piece) (numbers : List ℕ) (component pivots : ℕ) (e : NestFault) → AreNestedBefore about known numbers component → RefusesParted about known numbers component pivots e → RefusesAttempt about known numbers pivots e
part_refused about known numbers component pivots (fault.Solve system e) before h = named_first about known numbers component pivots system e before h
part_refused about known numbers component pivots (fault.Cover f) before h = absurd h
part_refused about known numbers component pivots fault.Memory before h = tt

use Rattle.std.proofs.Common.{◌≡◌, ℕ, zero, suc, ◌+◌, ◌<◌, List, [], ◌∷◌, ◌++◌, length, get_or, arith, sym, ap, ◌∙◌, subst}
use Rattle.tv_linear.specs.declared.region.Piece.{Piece}
use Rattle.tv_cases.specs.LinearCases.{CaseSystem}
use Rattle.tv_lexrank.specs.declared.fault.RankFault.{RankFault}
use Rattle.tv_lexrank.specs.declared.fault.RankFault.TheVariants as fault
use Rattle.tv_lexrank.specs.declared.part.Part.{Part}
use Rattle.tv_lexrank.specs.Parts.{IsPart, RefusesPart}
use Rattle.tv_lexrank.specs.Attempt.{PartsFrom, rounds_in, AreRankedBefore, RefusesAttempt}
use Rattle.std.proofs.lemmas.List.{get_or-map}

parts_from : (about : CaseSystem) (known : List Piece) (numbers : List ℕ) (c d : ℕ) (ps : List Part) (p : Part) → PartsFrom about known numbers c ps → d ≡ c + length ps → IsPart about known numbers d p → PartsFrom about known numbers c (ps ++ p ∷ [])
parts_from about known numbers c d [] p h e i = (subst (λ z. IsPart about known numbers z p) (let q : d ≡ c = omega (arith, e) in q) i, tt)
parts_from about known numbers c d (q ∷ ps) p h e i = (h.0, parts_from about known numbers (suc c) d ps p h.1 (omega (arith, e)) i)

pub parts_more : (about : CaseSystem) (known : List Piece) (numbers : List ℕ) (d : ℕ) (ps news : List Part) (p : Part) → PartsFrom about known numbers 0 ps → length ps ≡ d → IsPart about known numbers d p → news ≡ ps ++ p ∷ [] → PartsFrom about known numbers 0 news
parts_more about known numbers d ps news p h e i m = subst (λ z. PartsFrom about known numbers 0 z) (sym m) (parts_from about known numbers 0 d ps p h (omega (arith, e)) i)

part_from : (about : CaseSystem) (known : List Piece) (numbers : List ℕ) (c k : ℕ) (ps : List Part) (d : Part) → PartsFrom about known numbers c ps → k < length ps → IsPart about known numbers (c + k) (get_or ps k d)
part_from about known numbers c k [] d h l = absurd (omega (arith, l))
part_from about known numbers c zero (p ∷ ps) d h l = subst (λ z. IsPart about known numbers z p) (let q : c ≡ c + 0 = omega arith in q) h.0
part_from about known numbers c (suc k) (p ∷ ps) d h l = subst (λ z. IsPart about known numbers z (get_or ps k d)) (let q : suc c + k ≡ c + suc k = omega arith in q) (part_from about known numbers (suc c) k ps d h.1 (omega (arith, l)))

pub part_is : (about : CaseSystem) (known : List Piece) (numbers : List ℕ) (k : ℕ) (ps : List Part) (p : Part) → PartsFrom about known numbers 0 ps → k < length ps → p ≡ get_or ps k p → IsPart about known numbers k p
part_is about known numbers k ps p h l e = subst (λ z. IsPart about known numbers k z) (sym e) (subst (λ z. IsPart about known numbers z (get_or ps k p)) (let q : 0 + k ≡ k = omega arith in q) (part_from about known numbers 0 k ps p h l))

pub rounds_are : (k : ℕ) (ps : List Part) (p : Part) → k < length ps → p ≡ get_or ps k p → rounds_in ps k ≡ p.rounds.items
rounds_are k ps p l e = get_or-map (λ q. q.rounds.items) ps k p [] l ∙ ap (λ q. q.rounds.items) (sym e)

pub part_refused : (about : CaseSystem) (known : List Piece) (numbers : List ℕ) (component pivots : ℕ) (e : RankFault) → AreRankedBefore about known numbers component → RefusesPart about known numbers component pivots e → RefusesAttempt about known numbers pivots e
part_refused about known numbers component pivots (fault.Solve system e) before h = (component, h, before)
part_refused about known numbers component pivots (fault.Open taken values) before h = absurd h
part_refused about known numbers component pivots (fault.Cover f) before h = absurd h
part_refused about known numbers component pivots fault.Memory before h = tt

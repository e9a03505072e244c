use Rattle.std.proofs.Common.{Option, None, Some, inl, inr, All, Bool, true, false, ◌==◌, if◌then◌else◌, ◌≡◌, ℕ, suc, ◌+◌, ◌<◌, ◌^◌, List, [], ◌∷◌, ◌++◌, length, map, get_or, arith, refl, sym, ap, subst, ℤ, pos}
use Rattle.std.proofs.lemmas.Int.{ints}
use Rattle.tv_linear.specs.Linear.{Linear}
use Rattle.tv_linear.specs.Arithmetic.{constant_row}
use Rattle.tv_linear.specs.Known.{Known, given, less, as_given}
use Rattle.tv_linear.specs.Covers.{ShownAt, IsMetCover}
use Rattle.tv_linear.specs.Falls.{fall_rows_at}
use Rattle.tv_linear.specs.Terms.{terms_after}
use Rattle.tv_linear.specs.declared.region.Piece.{Piece}
use Rattle.tv_cases.specs.LinearCases.{CaseSystem}
use Rattle.tv_rank.specs.Given.{lists}
use Rattle.tv_rank.specs.Ways.{Way, way_of, met_rows, case_at}
use Rattle.tv_lexrank.specs.declared.round.Round.{Round}
use Rattle.tv_lexrank.specs.Known.{way_rows}
use Rattle.tv_lexrank.specs.Rounds.{Chain, end, next, place_in, falls_in, lines_of, terms_at, ranks_at}
use Rattle.std.specs.Option.{option_map}
use Rattle.std.proofs.lemmas.List.{length-map, append-nil}
use Rattle.std.proofs.lemmas.List.Elements.{All-nil, All-cons}
use Rattle.std.proofs.lemmas.Bool.{eqb-true}
use Rattle.tv_linear.specs.declared.cover.CoverTree.{CoverTree}
use Rattle.tv_lexrank.specs.Greedy.{without, IsRound}
use Rattle.tv_lexrank.specs.Covering.{IsLined}
use Rattle.tv_lexrank.specs.Sorting.{StandsIn, LeadsInside, IsNeverTaken, AreSorted}
use Rattle.tv_lexrank.specs.declared.falling.Fall.{Fall}
use Rattle.tv_lexrank.specs.Closing.{owed_plain, changed, Leads}
use Rattle.tv_lexrank.specs.Falling.{HasFall}
use Rattle.tv_lexrank.specs.Shown.{owed_fall}
use Rattle.tv_lexrank.specs.Steps.{owed_step, IsStepCover}
use Rattle.tv_lexrank.proofs.Chained.{chain_shown, shown_more, found_at}
use Rattle.tv_lexrank.proofs.ZeroLines.{zero_line, change_shown, constant_shown}

-- a case that the rounds take out falls at its round
pub inside_falls : (about : CaseSystem) (known : List Piece) (set : List ℕ) (rounds : List Round) (component k fall : ℕ) → Chain about known set rounds → StandsIn set k → component < 2 ^ 32 → fall ≡ falls_in k rounds + 2 → (lines : List (List ℤ)) → lines ≡ zero_line (length (met_rows (way_of about.cases known k))) ∷ lines_of k rounds → ShownAt (about.variables + (way_of about.cases known k).taken.draws) (way_rows (way_of about.cases known k)) (owed_fall about.variables (way_of about.cases known k) (ranks_at about.variables component rounds (way_of about.cases known k).taken.from) (ranks_at about.variables component rounds (way_of about.cases known k).taken.to) fall) lines
inside_falls about known set rounds component k fall chain (j, l, e) small f lines g =
    let v = about.variables in
    let w = way_of about.cases known k in
    let old = ranks_at v component rounds w.taken.from in
    let new = ranks_at v component rounds w.taken.to in
    let head = change_shown v w (terms_after v w.taken.updates) (pos component) (pos component) (pos 0) (omega (arith, ints)) (omega (arith, small)) (omega (arith, small)) (omega arith) in
    let rest = chain_shown about known set rounds chain k j l e in
    let all = shown_more (v + w.taken.draws) (way_rows w) (less (changed v w (constant_row v (pos component))) (given (constant_row v (pos component))) (pos 0)) (fall_rows_at (as_given (terms_at v rounds w.taken.from)) (map (changed v w) (terms_at v rounds w.taken.to)) (falls_in k rounds)) (zero_line (length (met_rows w))) (lines_of k rounds) (head, tt) rest in
    let n : suc (suc (falls_in k rounds)) ≡ fall = omega (arith, f) in
    subst (λ z. ShownAt (v + w.taken.draws) (way_rows w) (owed_fall v w old new fall) z) (sym g) (subst (λ z. ShownAt (v + w.taken.draws) (way_rows w) (owed_fall v w old new z) (zero_line (length (met_rows w)) ∷ lines_of k rounds)) n all)

-- a case that leaves a component for one of a lesser number falls at once
pub leaving_falls : (v : ℕ) (w : Way) (component other : ℕ) (rounds others : List Round) → other < component → component < 2 ^ 32 → (lines : List (List ℤ)) → lines ≡ zero_line (length (met_rows w)) ∷ zero_line (length (met_rows w)) ∷ [] → ShownAt (v + w.taken.draws) (way_rows w) (owed_fall v w (ranks_at v component rounds w.taken.from) (ranks_at v other others w.taken.to) 1) lines
leaving_falls v w component other rounds others h small lines g =
    subst (λ z. ShownAt (v + w.taken.draws) (way_rows w) (owed_fall v w (ranks_at v component rounds w.taken.from) (ranks_at v other others w.taken.to) 1) z) (sym g) (
      change_shown v w (terms_after v w.taken.updates) (pos component) (pos other) (pos 1) (omega (arith, ints, h)) (omega (arith, small)) (omega (arith, h, small)) (omega arith),
      (constant_shown v w (pos component) (omega (arith, ints)) (omega (arith, small)), tt),
    )

-- ---- covers
-- where a case leads into rows, and the lines of a fall show that the ranks fall, the cover with the fall is that of the step
pub falling_met : (v : ℕ) (w : Way) (into old new : List Linear) (fall : Fall) (base tree : CoverTree) → Leads v w into base → ShownAt (v + w.taken.draws) (way_rows w) (owed_fall v w old new fall.number) (lists fall.lines.items) → HasFall fall 0 base tree → IsStepCover v w into old new tree
falling_met v w into old new fall base tree leads shown h = record {
  met = by_falls (owed_fall v w old new fall.number) refl shown;
  shallow = (let d = h.deep in let s = leads.shallow in omega (arith, d, s));
  even = h.even (v + w.taken.draws) leads.even;
  narrow = h.narrow;
}
  where
    n : ℕ
    n = v + w.taken.draws

    by_falls : (o : Option (List Known)) → owed_fall v w old new fall.number ≡ o → ShownAt (v + w.taken.draws) (way_rows w) o (lists fall.lines.items) → IsMetCover (v + w.taken.draws) (owed_step v w into old new) (way_rows w) tree
    by_falls None e g = absurd g
    by_falls (Some falls) e g =
        subst (λ ks. IsMetCover n (owed_step v w into old new) ks tree) (append-nil (way_rows w))
        (h.goes_on n (way_rows w) [] (map (changed v w) into) falls (owed_step v w into old new) refl tt g (ap (option_map (λ falls. map (changed v w) into ++ falls)) e)
        (subst (λ ks. IsMetCover n (owed_plain (map (changed v w) into)) ks base) (sym (append-nil (way_rows w))) leads.met))

-- ---- what a component has
lined : (about : CaseSystem) (known : List Piece) (set : List ℕ) (r : Round) → IsRound about known set r → IsLined r
lined about known set r h = record {
  within = (let a = ap length h.set_is in let b = h.within in omega (arith, a, b));
  counted = (let a = ap length h.set_is in let b = h.family.counted in let c = length-map r.multipliers.items (λ v. v.items) in omega (arith, a, b, c));
}

pub chain_lined : (about : CaseSystem) (known : List Piece) (set : List ℕ) (rounds : List Round) → Chain about known set rounds → All IsLined rounds
chain_lined about known set rounds end = All-nil IsLined
chain_lined about known set rounds (next s r rs h chain) = All-cons IsLined r rs (lined about known s r h) (chain_lined about known (without s r.place) rs chain)

pub stands_if : (set : List ℕ) (k : ℕ) → place_in set k < length set → StandsIn set k
stands_if [] k h = absurd (omega (arith, h))
stands_if (x ∷ xs) k h = by_test (x == k) refl h (λ l. stands_if xs k l)
  where
    by_test : (b : Bool) → (x == k) ≡ b → (if b then 0 else suc (place_in xs k)) < suc (length xs) → (place_in xs k < length xs → StandsIn xs k) → StandsIn (x ∷ xs) k
    by_test true t l rest = (0, omega arith, eqb-true x k t)
    by_test false t l rest = (let s = rest (omega (arith, l)) in (suc s.0, (let a = s.1 in let q : suc s.0 < suc (length xs) = omega (arith, a) in q), s.2))

-- a case inside that does not stand in the set stands among those that are never taken, at its first place
pub stands_empty : (about : CaseSystem) (known : List Piece) (numbers : List ℕ) (component k : ℕ) (set empty : List ℕ) (refutations : List (List ℤ)) → AreSorted about known numbers component (length about.cases) set empty refutations → k < length about.cases → LeadsInside numbers component (case_at about.cases k) → (place_in set k < length set → ⊥) → (place_in empty k < length refutations) × IsNeverTaken about.variables (way_of about.cases known k) (get_or refutations (place_in empty k) [])
stands_empty about known numbers component k set empty refutations h l inside n = elim (h.each k l inside) [
  | inl (j, a, e) ↦ absurd (n (found_at set k j a e).0)
  | inr (j, a, e) ↦ (
      let f = found_at empty k j a e in (
        (let q = f.0 in let c = h.counted in omega (arith, q, c)),
        subst (λ z. IsNeverTaken about.variables (way_of about.cases known z) (get_or refutations (place_in empty k) [])) f.1 (h.refuted (place_in empty k) f.0),
      ))
]

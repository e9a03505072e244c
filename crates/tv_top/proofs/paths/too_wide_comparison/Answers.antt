use Rattle.std.proofs.Common.{◌≡◌, ◌∙◌, ℕ, ◌++◌, ◌⊎◌, List, All, Option, None, Some, inl, inr, refl, sym, ap, subst, IsTrue}
use Rattle.std.proofs.lemmas.List.Elements.{All-contains}
use Rattle.tv_linear.proofs.ListLaws.{all_front, all_back, contains_at}
use Rattle.tv_formula.specs.declared.formula.Formula.{Formula}
use Rattle.tv_formula.specs.Formulas.{property_of}
use Rattle.tv_formula.specs.Properties.{Property, compare}
use Rattle.tv_cases.specs.Systems.{cases_of}
use Rattle.tv_known.specs.Subformulas.{subformulas}
use Rattle.tv_formula.specs.Normal.{normal}
use Rattle.tv_causes.specs.Widths.{HasOwnRows, TellsRows, IsFirstWideOf, all_parts}
use Rattle.tv_pre.specs.Wide.{IsWideAt}
use Rattle.tv_sound.proofs.Following.{never}
use Rattle.tv_top.proofs.paths.too_wide_comparison.Goals as goal

-- a comparison without rows is none of those that have rows
not_wide : (n : ℕ) (fs : List Property) (place : ℕ) → All (HasOwnRows n) fs → IsWideAt n fs place → ⊥
not_wide n fs place all w =
    let f = compare w.relation w.left w.right in
    let has = All-contains (HasOwnRows n) fs f all (contains_at fs place f w.there) in
    never (subst IsTrue w.wide has)

-- nor one of either list
neither : (n : ℕ) (first second : List Property) (place : ℕ) → All (HasOwnRows n) (first ++ second) → IsWideAt n first place ⊎ IsWideAt n second place → ⊥
neither n first second place all (inl w) = not_wide n first place (all_front (HasOwnRows n) first second all) w
neither n first second place all (inr w) = not_wide n second place (all_back (HasOwnRows n) first second all) w

-- what the call tells, in the words of the claim
told_rows : (n m : ℕ) (fs gs : List Property) (found : Option ℕ) → n ≡ m → fs ≡ gs → TellsRows n fs found → TellsRows m gs found
told_rows n m fs gs found e h t = rw (sym e, sym h) t

same_lists : (a b d e : Formula) → a ≡ b → d ≡ e → subformulas (property_of a) ++ subformulas (property_of d) ≡ subformulas (property_of b) ++ subformulas (property_of e)
same_lists a b d e h k = ap (λ g. subformulas (property_of g) ++ subformulas (property_of d)) h ∙ ap (λ g. subformulas (property_of b) ++ subformulas (property_of g)) k

none_wide : (n : ℕ) (fs : List Property) (found : Option ℕ) → found ≡ None → TellsRows n fs found → All (HasOwnRows n) fs
none_wide n fs found e t = subst (TellsRows n fs) e t

some_wide : (n column : ℕ) (fs : List Property) (found : Option ℕ) → found ≡ Some column → TellsRows n fs found → IsFirstWideOf (all_parts n fs) column
some_wide n column fs found e t = subst (TellsRows n fs) e t

pub unreachable-requires : goal.unreachable-requires
unreachable-requires c =
    let claim = c.args.search.now.claim.now in
    let n = (cases_of c.args.search.now.about.now).variables in
    let first = subformulas (property_of claim.proved) in
    let second = subformulas (property_of claim.denied) in
    let told = told_rows _ n _ (first ++ second) c.in-Ok-None.field-0 c.variables-variables.ensures.same (same_lists _ claim.proved _ claim.denied c.proved.ensures c.denied.ensures) c.in-Ok-None.ensures in
    neither n first second c.requires.0 (none_wide n (first ++ second) c.in-Ok-None.field-0 c.in-Ok-None.field-0-is told) c.requires.1

pub returns-in-Ok-Some : goal.returns-in-Ok-Some
returns-in-Ok-Some c = λ f is.
    let claim = c.args.search.now.claim.now in
    let n = (cases_of c.args.search.now.about.now).variables in
    let fs = subformulas (property_of claim.proved) ++ subformulas (property_of claim.denied) in
    let told = told_rows _ n _ fs c.in-Ok-Some.field-0 c.variables-variables.ensures.same (same_lists _ claim.proved _ claim.denied c.proved.ensures c.denied.ensures) c.in-Ok-Some.ensures in
    let wide = some_wide n c.in-Ok-Some.column fs c.in-Ok-Some.field-0 c.in-Ok-Some.field-0-is told in
    inr (c.in-Ok-Some.column, refl, subst (λ gs. IsFirstWideOf (all_parts n gs) c.in-Ok-Some.column) (ap (λ g. subformulas g ++ subformulas (property_of claim.denied)) is.proved ∙ ap (λ g. subformulas (normal f) ++ subformulas g) is.denied) wide)

pub returns-in-Err : goal.returns-in-Err
returns-in-Err c = λ f is. inl refl

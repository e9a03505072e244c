use Rattle.std.proofs.Common.{◌≡◌, inl, inr, ℕ, zero, suc, ◌+◌, ◌<◌, ◌≤◌, List, [], ◌∷◌, ◌++◌, length, length-append, get_or, All, arith, sym, ap, ◌∙◌, subst, ℤ}
use Rattle.std.proofs.lemmas.List.Elements.{All-push}
use Rattle.tv_linear.specs.Linear.{IsWithin}
use Rattle.tv_linear.specs.declared.region.Piece.{Piece}
use Rattle.tv_linear.proofs.ListLaws.{last_or_below}
use Rattle.tv_cases.specs.LinearCases.{LinearCase, CaseSystem, IsCase, AreCases}
use Rattle.tv_cases.specs.declared.case.Case.{Case}
use Rattle.tv_cases.specs.Views.{case_view, case_views}
use Rattle.tv_refute.proofs.Places.{get_or-left, get_or-right}
use Rattle.tv_farkas.proofs.SystemLemmas.{at_of}
use Rattle.tv_rank.specs.Given.{AreNumbered}
use Rattle.tv_rank.specs.Ways.{case_at, no_case, way_of}
use Rattle.tv_rank.specs.Rankings.{HasPoint}
use Rattle.tv_lexrank.specs.Sorting.{LeadsInside, StandsIn, Ascends, IsNeverTaken, AreSorted}
use Rattle.std.proofs.lemmas.List.{get_or-map}

-- what holds at each place of a list, and of a further item
grown : (P : ℕ → Type 0) (xs : List ℕ) (x : ℕ) → ((j : ℕ) → j < length xs → P (get_or xs j 0)) → P x → (j : ℕ) → j < length (xs ++ x ∷ []) → P (get_or (xs ++ x ∷ []) j 0)
grown P xs x h p j l = elim (last_or_below (length xs) j (let e = length-append xs (x ∷ []) in omega (arith, e, l))) [
  | inl e ↦ subst P (sym (get_or-right xs (x ∷ []) j 0 0 (omega (arith, e)))) p
  | inr b ↦ subst P (sym (get_or-left xs (x ∷ []) j 0 b)) (h j b)
]

stands_more : (xs : List ℕ) (x k : ℕ) → StandsIn xs k → StandsIn (xs ++ x ∷ []) k
stands_more xs x k (j, l, e) = (j, (let a = length-append xs (x ∷ []) in omega (arith, a, l)), get_or-left xs (x ∷ []) j 0 l ∙ e)

stands_last : (xs : List ℕ) (x : ℕ) → StandsIn (xs ++ x ∷ []) x
stands_last xs x = (length xs, (let a = length-append xs (x ∷ []) in omega (arith, a)), get_or-right xs (x ∷ []) (length xs) 0 0 (omega arith))

ascends_more : (xs : List ℕ) (k : ℕ) → Ascends xs → AreNumbered k xs → Ascends (xs ++ k ∷ [])
ascends_more xs k h n = λ i j l m. elim (last_or_below (length xs) j (let e = length-append xs (k ∷ []) in omega (arith, e, m))) [
  | inl e ↦ (
      let i_in : i < length xs = omega (arith, l, e) in
      let a = get_or-left xs (k ∷ []) i 0 i_in in
      let b = get_or-right xs (k ∷ []) j 0 0 (omega (arith, e)) in
      let below = n i i_in in
      omega (arith, a, b, below))
  | inr b ↦ (
      let x = get_or-left xs (k ∷ []) i 0 (omega (arith, l, b)) in
      let y = get_or-left xs (k ∷ []) j 0 b in
      let z = h i j l b in
      omega (arith, x, y, z))
]

wider : (k : ℕ) (xs : List ℕ) → AreNumbered k xs → AreNumbered (k + 1) xs
wider k xs h = λ j l. let a = h j l in omega (arith, a)

at_least : (xs : List ℕ) → Ascends xs → (k : ℕ) → k < length xs → k ≤ get_or xs k 0
at_least xs h zero l = omega arith
at_least xs h (suc k) l =
    let a = at_least xs h k (omega (arith, l)) in
    let b = h k (suc k) (omega arith) l in
    omega (arith, a, b)

-- numbers that ascend below a bound are no more than that
pub few_below : (many : ℕ) (xs : List ℕ) → Ascends xs → AreNumbered many xs → length xs ≤ many
few_below many [] h n = omega arith
few_below many (x ∷ xs) h n =
    let a = at_least (x ∷ xs) h (length xs) (omega arith) in
    let b = n (length xs) (omega arith) in
    let q : suc (length xs) ≤ many = omega (arith, a, b) in
    q

module _ (about : CaseSystem) (known : List Piece) (numbers : List ℕ) (component k : ℕ) (set empty : List ℕ) (refutations : List (List ℤ)) (h : AreSorted about known numbers component k set empty refutations) where
  pub none_more : (LeadsInside numbers component (case_at about.cases k) → ⊥) → AreSorted about known numbers component (k + 1) set empty refutations
  none_more n = record {
    numbered = wider k set h.numbered;
    ascends = h.ascends;
    inside = h.inside;
    points = h.points;
    counted = h.counted;
    refuted = h.refuted;
    narrow = h.narrow;
    each = λ i l inside. elim (last_or_below k i l) [ inl e ↦ absurd (n (subst (λ z. LeadsInside numbers component (case_at about.cases z)) e inside)) | inr b ↦ h.each i b inside ];
  }

  pub point_more : LeadsInside numbers component (case_at about.cases k) → HasPoint about.variables (way_of about.cases known k) → (news : List ℕ) → news ≡ set ++ k ∷ [] → AreSorted about known numbers component (k + 1) news empty refutations
  point_more inside point news e = subst (λ y. AreSorted about known numbers component (k + 1) y empty refutations) (sym e) (record {
    numbered = grown (λ y. y < k + 1) set k (wider k set h.numbered) (omega arith);
    ascends = ascends_more set k h.ascends h.numbered;
    inside = grown (λ y. LeadsInside numbers component (case_at about.cases y)) set k h.inside inside;
    points = grown (λ y. HasPoint about.variables (way_of about.cases known y)) set k h.points point;
    counted = h.counted;
    refuted = h.refuted;
    narrow = h.narrow;
    each = λ i l inside'. elim (last_or_below k i l) [ inl q ↦ inl (subst (λ y. StandsIn (set ++ k ∷ []) y) (sym q) (stands_last set k)) | inr b ↦ elim (h.each i b inside') [ inl s ↦ inl (stands_more set k i s) | inr s ↦ inr s ] ];
  })

  pub empty_more : LeadsInside numbers component (case_at about.cases k) → (ms : List ℤ) → IsNeverTaken about.variables (way_of about.cases known k) ms → All (IsWithin 62) ms → (news : List ℕ) (lines : List (List ℤ)) → news ≡ empty ++ k ∷ [] → lines ≡ refutations ++ ms ∷ [] → AreSorted about known numbers component (k + 1) set news lines
  empty_more inside ms r short news lines e f = subst (λ y. AreSorted about known numbers component (k + 1) set y lines) (sym e) (subst (λ y. AreSorted about known numbers component (k + 1) set (empty ++ k ∷ []) y) (sym f) (record {
    numbered = wider k set h.numbered;
    ascends = h.ascends;
    inside = h.inside;
    points = h.points;
    counted = length-append refutations (ms ∷ []) ∙ (let a = h.counted in let b = length-append empty (k ∷ []) in omega (arith, a, b));
    refuted = λ i l. elim (last_or_below (length empty) i (let a = length-append empty (k ∷ []) in omega (arith, a, l))) [
      | inl q ↦ (
          let x = get_or-right empty (k ∷ []) i 0 0 (omega (arith, q)) in
          let y = get_or-right refutations (ms ∷ []) i 0 [] (let a = h.counted in omega (arith, a, q)) in
          subst (λ z. IsNeverTaken about.variables (way_of about.cases known z) (get_or (refutations ++ ms ∷ []) i [])) (sym x) (subst (λ z. IsNeverTaken about.variables (way_of about.cases known k) z) (sym y) r))
      | inr b ↦ (
          let x = get_or-left empty (k ∷ []) i 0 b in
          let y = get_or-left refutations (ms ∷ []) i [] (let a = h.counted in omega (arith, a, b)) in
          subst (λ z. IsNeverTaken about.variables (way_of about.cases known z) (get_or (refutations ++ ms ∷ []) i [])) (sym x) (subst (λ z. IsNeverTaken about.variables (way_of about.cases known (get_or empty i 0)) z) (sym y) (h.refuted i b)))
    ];
    narrow = All-push (All (IsWithin 62)) refutations ms h.narrow short;
    each = λ i l inside'. elim (last_or_below k i l) [ inl q ↦ inr (subst (λ y. StandsIn (empty ++ k ∷ []) y) (sym q) (stands_last empty k)) | inr b ↦ elim (h.each i b inside') [ inl s ↦ inl s | inr s ↦ inr (stands_more empty k i s) ] ];
  }))

-- the case at a place of the cases
pub case_is : (list : List Case) (cases : List LinearCase) (k : ℕ) (d : Case) → case_views list ≡ cases → k < length list → case_view (get_or list k d) ≡ case_at cases k
case_is list cases k d e l = sym (get_or-map case_view list k d no_case l) ∙ ap (λ z. case_at z k) e

pub of_case : (about : CaseSystem) (k : ℕ) → AreCases about → k < length about.cases → IsCase about.variables about.locations (case_at about.cases k)
of_case about k h l = at_of (IsCase about.variables about.locations) about.cases no_case h.cases k l

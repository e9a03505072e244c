-- Candidates that are taken of proposers.
use Rattle.std.proofs.Common.{◌≡◌, ℕ, zero, suc, ◌+◌, ◌<◌, ◌≤◌, List, [], ◌∷◌, ◌++◌, length, take, drop, set, get_or, Option, None, Some, Result, Ok, Err, refl, sym, ap, ◌∙◌, subst, append_assoc, append-nil, arith, pos, All}
use Rattle.std.specs.List.{filter, AllZip}
use Rattle.std.specs.Result.{IfErr}
use Rattle.std.proofs.lemmas.List.Elements.{All-nil, All-cons, filter-append, Contains-append_left}
use Rattle.tv_linear.specs.Linear.{Linear, columns}
use Rattle.tv_linear.specs.Arithmetic.{constant_row}
use Rattle.tv_linear.specs.Terms.{table}
use Rattle.tv_linear.proofs.PlainLists.{length-zeros}
use Rattle.tv_linear.proofs.ListLaws.{zip_push, table-push, drop_past}
use Rattle.tv_cases.specs.LinearCases.{CaseSystem}
use Rattle.tv_candidates.specs.declared.candidate.Candidate.{Candidate}
use Rattle.tv_candidates.specs.Inductive.{IsInductive, IsPart, IsLargestInductive}
use Rattle.tv_candidates.specs.Offered.{candidate, fits, joined, false_candidates, offered}
use Rattle.tv_propose.specs.Rests.{IsGiven}
use Rattle.tv_invariant.specs.Asking.{IsTold, Gave, AreTaken, HaveNoMore}
use Rattle.std.proofs.lemmas.List.{nil_from_length}

-- ---- one proposer

-- what was taken so far; a rest that is reported now comes after it in what was reported at first
abbrev pub Asked : CaseSystem → Option (List Candidate) → Option (List Candidate) → List Candidate → List Candidate → Type 0
Asked about first now old list = (given : List Candidate) × AreTaken about old given list × ((after : List Candidate) → IsTold now after → IsTold first (given ++ after))

taken_more : (about : CaseSystem) (old list new given more : List Candidate) → AreTaken about old given list → AreTaken about list more new → AreTaken about old (given ++ more) new
taken_more about old list new given more e f =
    f
    ∙ ap (λ m. m ++ filter (fits about) more) e
    ∙ append_assoc old (filter (fits about) given) (filter (fits about) more)
    ∙ ap (λ m. old ++ m) (sym (filter-append (fits about) given more))

told_before : (now next : Option (List Candidate)) (c : Candidate) (after : List Candidate) → IsGiven now next (Some c) → IsTold next after → IsTold now (c ∷ after)
told_before None next c after g t = tt
told_before (Some old) next c after g t =
    let is : after ≡ g.0 = subst (λ r. IsTold r after) g.1 t in
    ap (λ cs. c ∷ cs) is ∙ sym g.2

told_end : (now next : Option (List Candidate)) → IsGiven now next None → IsTold now []
told_end None next g = tt
told_end (Some old) next g = sym g.2.0

pub asked_some : (about : CaseSystem) (first now next : Option (List Candidate)) (old list new : List Candidate) (c : Candidate) → Asked about first now old list → IsGiven now next (Some c) → AreTaken about list (c ∷ []) new → Asked about first next old new
asked_some about first now next old list new c h g e = (
  h.0 ++ c ∷ [],
  taken_more about old list new h.0 (c ∷ []) h.1 e,
  λ after t. subst (IsTold first) (sym (append_assoc h.0 (c ∷ []) after)) (h.2 (c ∷ after) (told_before now next c after g t)),
)

pub asked_end : (about : CaseSystem) (first now next : Option (List Candidate)) (old list : List Candidate) → Asked about first now old list → IsGiven now next None → (given : List Candidate) × IsTold first given × AreTaken about old given list
asked_end about first now next old list h g = (h.0, subst (IsTold first) (append-nil h.0) (h.2 [] (told_end now next g)), h.1)

-- ---- all proposers

joined_more : (lists : List (List Candidate)) (given : List Candidate) → joined (lists ++ given ∷ []) ≡ joined lists ++ given
joined_more [] given = append-nil given
joined_more (list ∷ lists) given = ap (λ cs. list ++ cs) (joined_more lists given) ∙ sym (append_assoc list (joined lists) given)

take_one_more : {A : Type 0} (xs : List A) (k : ℕ) (x : A) (rest : List A) → drop k xs ≡ x ∷ rest → take (suc k) xs ≡ take k xs ++ x ∷ []
take_one_more [] zero x rest e = absurd cc
take_one_more [] (suc k) x rest e = absurd cc
take_one_more (y ∷ xs) zero x rest e = let s : y ≡ x = cc in ap (λ z. z ∷ []) s
take_one_more (y ∷ xs) (suc k) x rest e = ap (λ zs. y ∷ zs) (take_one_more xs k x rest e)

drop_one_more : {A : Type 0} (xs : List A) (k : ℕ) (x : A) (rest : List A) → drop k xs ≡ x ∷ rest → drop (suc k) xs ≡ rest
drop_one_more [] zero x rest e = absurd cc
drop_one_more [] (suc k) x rest e = absurd cc
drop_one_more (y ∷ xs) zero x rest e = cc
drop_one_more (y ∷ xs) (suc k) x rest e = drop_one_more xs k x rest e

none_behind : {A : Type 0} (xs : List A) (k : ℕ) → drop k xs ≡ [] → take k xs ≡ xs
none_behind [] zero e = refl
none_behind [] (suc k) e = refl
none_behind (x ∷ xs) zero e = absurd cc
none_behind (x ∷ xs) (suc k) e = ap (λ ys. x ∷ ys) (none_behind xs k e)

first_and_rest : {A : Type 0} (xs : List A) (x : A) → 0 < length xs → x ≡ get_or xs 0 x → xs ≡ x ∷ drop 1 xs
first_and_rest [] x l e = absurd (omega (arith, l))
first_and_rest (y ∷ xs) x l e = ap (λ z. z ∷ xs) (sym e)

module _ {A : Type 0} (about : CaseSystem) (rest : A → Option (List Candidate)) (all : List A) (old : List Candidate) where
  -- some first proposers were asked, and the others stand
  abbrev pub AskedAll : List A → List Candidate → Type 0
  AskedAll now list = (k : ℕ) × (now ≡ drop k all) × ((lists : List (List Candidate)) × Gave rest (take k all) lists × AreTaken about old (joined lists) list)

  pub all_start : AskedAll all old
  all_start = (0, refl, ([], tt, sym (append-nil old)))

  pub all_next : (now new : List A) (list next : List Candidate) (first second : A) → AskedAll now list → 0 < length now → first ≡ get_or now 0 first → ((given : List Candidate) × IsTold (rest first) given × AreTaken about list given next) → new ≡ drop 1 (set now 0 second) → AskedAll new next
  all_next now new list next first second h l e g r =
      let cut : drop h.0 all ≡ first ∷ drop 1 now = sym h.1 ∙ first_and_rest now first l e in
      let set_rest : drop 1 (set now 0 second) ≡ drop 1 now = kept now second in (
        suc h.0,
        r ∙ set_rest ∙ sym (drop_one_more all h.0 first (drop 1 now) cut),
        (
          h.2.0 ++ g.0 ∷ [],
          subst (λ ps. Gave rest ps (h.2.0 ++ g.0 ∷ [])) (sym (take_one_more all h.0 first (drop 1 now) cut)) (zip_push (λ p given. IsTold (rest p) given) (take h.0 all) h.2.0 first g.0 h.2.1 g.1),
          subst (λ cs. AreTaken about old cs next) (sym (joined_more h.2.0 g.0)) (taken_more about old list next (joined h.2.0) g.0 h.2.2 g.2),
        ),
      )
    where
      kept : (xs : List A) (y : A) → drop 1 (set xs 0 y) ≡ drop 1 xs
      kept [] y = refl
      kept (x ∷ xs) y = refl

  pub all_end : (now : List A) (list : List Candidate) → AskedAll now list → length now ≡ 0 → (lists : List (List Candidate)) × Gave rest all lists × AreTaken about old (joined lists) list
  all_end now list h l = (h.2.0, subst (λ ps. Gave rest ps h.2.0) (none_behind all h.0 (sym h.1 ∙ nil_from_length now l)) h.2.1, h.2.2)

module _ {A : Type 0} (left : A → ℕ) where
  no_more_each : (xs : List A) → AllZip (λ p q. left q ≤ left p) xs xs
  no_more_each [] = tt
  no_more_each (x ∷ xs) = (omega arith, no_more_each xs)

  pub no_more_same : (xs : List A) → HaveNoMore left xs xs
  no_more_same xs = (0, no_more_each xs)

  pub no_more_none : (xs : List A) → HaveNoMore left xs []
  no_more_none xs = (length xs, subst (λ ys. AllZip (λ p q. left q ≤ left p) ys []) (sym (drop_past xs (length xs) (omega arith))) tt)

  first_less : (now : List A) (first second : A) → 0 < length now → first ≡ get_or now 0 first → left second ≤ left first → AllZip (λ p q. left q ≤ left p) now (set now 0 second)
  first_less [] first second l e m = absurd (omega (arith, l))
  first_less (x ∷ xs) first second l e m = (subst (λ p. left second ≤ left p) e m, no_more_each xs)

  pub no_more_first : (all now : List A) (first second : A) (k : ℕ) → now ≡ drop k all → 0 < length now → first ≡ get_or now 0 first → left second ≤ left first → HaveNoMore left all (set now 0 second)
  no_more_first all now first second k h l e m = (k, subst (λ ps. AllZip (λ p q. left q ≤ left p) ps (set now 0 second)) h (first_less now first second l e m))

-- ---- the false rows

pub false_more : (n k : ℕ) (old new : List Candidate) (r : Linear) → old ≡ table k (λ l. candidate l (constant_row n (pos 1))) → r ≡ constant_row n (pos 1) → new ≡ old ++ candidate k r ∷ [] → new ≡ table (k + 1) (λ l. candidate l (constant_row n (pos 1)))
false_more n k old new r e f g =
    let next : suc k ≡ k + 1 = omega arith in
    g ∙ (λ i. e i ++ candidate k (f i) ∷ []) ∙ sym (table-push k (λ l. candidate l (constant_row n (pos 1)))) ∙ ap (λ m. table m (λ l. candidate l (constant_row n (pos 1)))) next

table_over : (n m : ℕ) (f : ℕ → ℕ) → All (λ c. columns c.row ≡ n) (table m (λ l. candidate (f l) (constant_row n (pos 1))))
table_over n zero f = All-nil (λ c. columns c.row ≡ n)
table_over n (suc m) f = All-cons (λ c. columns c.row ≡ n) (candidate (f 0) (constant_row n (pos 1))) (table m (λ l. candidate (f (suc l)) (constant_row n (pos 1)))) (length-zeros n) (table_over n m (λ l. f (suc l)))

pub rows_over : (n k : ℕ) (list : List Candidate) → list ≡ table k (λ l. candidate l (constant_row n (pos 1))) → All (λ c. columns c.row ≡ n) list
rows_over n k list e = subst (All (λ c. columns c.row ≡ n)) (sym e) (table_over n k (λ l. l))

-- ---- what is offered

pub offered_list : (about : CaseSystem) (old new : List Candidate) (lists : List (List Candidate)) → old ≡ false_candidates about → AreTaken about old (joined lists) new → new ≡ offered about lists
offered_list about old new lists e f = f ∙ ap (λ cs. cs ++ filter (fits about) (joined lists)) e

pub has_false_parts : (about : CaseSystem) (lists : List (List Candidate)) (part : List Candidate) → IsLargestInductive about (offered about lists) part → (other : List Candidate) → IsPart other (false_candidates about) → IsInductive about other → IsPart other part
has_false_parts about lists part h other p inductive = h.greatest other (λ c a. Contains-append_left (false_candidates about) (filter (fits about) (joined lists)) c (p c a)) inductive

pub if_refused : {A E : Type 0} (P : Type 0) (r : Result A E) → P → IfErr r (λ _. P)
if_refused P (Ok x) p = tt
if_refused P (Err e) p = p

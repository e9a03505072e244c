-- Where the cases have a lexicographic ranking, every run ends.
use Rattle.std.proofs.Common.{◌≡◌, ◌⊎◌, inl, inr, ℕ, zero, suc, ◌+◌, ◌<◌, ◌≤◌, ◌∙◌, List, [], ◌∷◌, ◌++◌, map, length, length-append, get_or, refl, sym, ap, subst, arith, ℤ, pos, ◌+ℤ◌, ◌*ℤ◌, ◌≤ℤ◌, ◌<ℤ◌}
use Rattle.std.specs.Prelude.{All, unsigned_abs}
use Rattle.std.proofs.lemmas.Int.{ints}
use Rattle.std.proofs.lemmas.List.{length-map}
use Rattle.std.proofs.lemmas.List.Elements.{All-nil, All-cons, All-head, All-tail}
use Rattle.tv_linear.specs.Linear.{Linear, columns, dot, value, IsMet, scaled_value}
use Rattle.tv_linear.specs.Known.{Term, kept, put, term_value}
use Rattle.tv_linear.specs.Terms.{terms_after, update_of}
use Rattle.tv_linear.proofs.PlainLists.{length-table}
use Rattle.tv_program.specs.Steps.{State}
use Rattle.tv_cases.specs.LinearCases.{LinearCase, CaseSystem, CaseDoes, CaseSteps}
use Rattle.tv_program.specs.Runs.{Ends, all_end}
use Rattle.tv_known.specs.Cycles.{case_at, Leads, here, along}
use Rattle.tv_known.specs.Ranking.{IsCasePoint, HasCasePoint, term_at, scaled_term, value_before, value_after, RanksCases, case_in, AreInside, HasLexicographicRanking}
use Rattle.tv_known.proofs.Numbers.{Among, without, stays, stood, shorter, place_of, at_place, below, among_below, below_are, Pairs, none, pair, IsPair, all_pairs, in_all}
use Rattle.std.proofs.lemmas.Bool.{cases_eq}

-- ---- a step is a point over 1

one_scale : (r : Linear) (xs : List ℤ) → scaled_value r xs (pos 1) ≡ value r xs
one_scale r xs = omega (arith, ints)

scaled_terms : (xs : List ℤ) (ts : List Term) → map (scaled_term xs (pos 1)) ts ≡ map (term_value xs) ts
scaled_terms xs [] = refl
scaled_terms xs (kept v ∷ ts) = ap (λ ys. term_value xs (kept v) ∷ ys) (scaled_terms xs ts)
scaled_terms xs (put r ∷ ts) = (λ i. one_scale r xs i ∷ scaled_terms xs ts i)

scaled_met : (xs : List ℤ) (rows : List Linear) → All (IsMet xs) rows → All (λ r. scaled_value r xs (pos 1) ≤ℤ pos 0) rows
scaled_met xs [] h = All-nil (λ r. scaled_value r xs (pos 1) ≤ℤ pos 0)
scaled_met xs (r ∷ rows) h =
    All-cons (λ q. scaled_value q xs (pos 1) ≤ℤ pos 0) r rows (subst (λ z. z ≤ℤ pos 0) (sym (one_scale r xs)) (All-head (IsMet xs) r rows h)) (scaled_met xs rows (All-tail (IsMet xs) r rows h))

-- a row does not see what follows its columns
dot_front : (cs xs ys : List ℤ) → length cs ≤ length xs → dot cs (xs ++ ys) ≡ dot cs xs
dot_front [] xs ys l = refl
dot_front (c ∷ cs) [] ys l = absurd (omega arith)
dot_front (c ∷ cs) (x ∷ xs) ys l = ap (λ z. (c *ℤ x) +ℤ z) (dot_front cs xs ys (omega arith))

term_wide : (terms : List Linear) (n l : ℕ) → All (λ t. columns t ≡ n) terms → columns (term_at terms l) ≤ n
term_wide [] n l h = omega arith
term_wide (t ∷ terms) n zero h = let e = All-head (λ u. columns u ≡ n) t terms h in omega (arith, e)
term_wide (t ∷ terms) n (suc l) h = term_wide terms n l (All-tail (λ u. columns u ≡ n) t terms h)

pub values_kept : (c : LinearCase) (draws : List ℤ) (s t : State) → CaseDoes c draws s t → length t.values ≡ length s.values
values_kept c draws s t does =
    ap length does.gives ∙ length-map (terms_after (length s.values) c.updates) (term_value (s.values ++ draws)) ∙ length-table (length s.values) (update_of c.updates)

-- the value of the term at a state
abbrev pub rank : List Linear → State → ℤ
rank terms s = value (term_at terms s.location) s.values

module _ (n : ℕ) (c : LinearCase) (draws : List ℤ) (s t : State) (even : length s.values ≡ n) (does : CaseDoes c draws s t) where
  pub step_point : IsCasePoint n c (s.values ++ draws) (pos 1)
  step_point = record {
    width = length-append s.values draws ∙ (λ i. even i + does.drawn i);
    meets = record { positive = omega (arith, ints); met = scaled_met (s.values ++ draws) c.guards does.guards };
  }

  pub rank_before : (terms : List Linear) → All (λ u. columns u ≡ n) terms → value_before terms c (s.values ++ draws) (pos 1) ≡ rank terms s
  rank_before terms wide =
      one_scale (term_at terms c.from) (s.values ++ draws)
      ∙ ap (λ z. z +ℤ (term_at terms c.from).constant) (dot_front (term_at terms c.from).coefficients s.values draws (let w = term_wide terms n c.from wide in omega (arith, w, even)))
      ∙ ap (λ l. value (term_at terms l) s.values) (sym does.leaves)

  pub rank_after : (terms : List Linear) → value_after n terms c (s.values ++ draws) (pos 1) ≡ rank terms t
  rank_after terms =
      one_scale (term_at terms c.to) (map (scaled_term (s.values ++ draws) (pos 1)) (terms_after n c.updates))
      ∙ ap (value (term_at terms c.to)) (scaled_terms (s.values ++ draws) (terms_after n c.updates) ∙ ap (λ k. map (term_value (s.values ++ draws)) (terms_after k c.updates)) (sym even) ∙ sym does.gives)
      ∙ ap (λ l. value (term_at terms l) t.values) (sym does.enters)

-- ---- steps by some of the cases

found_at : (cases : List LinearCase) (i : ℕ) (c : LinearCase) → i < length cases → get_or cases i c ≡ c → case_at cases i ≡ c
found_at [] i c l e = absurd (omega arith)
found_at (d ∷ cases) zero c l e = e
found_at (d ∷ cases) (suc i) c l e = found_at cases i c (omega arith) e

pub record StepsBy (about : CaseSystem) (set : List ℕ) (s t : State) : Type 0 where
  pub number : ℕ
  pub among : Among number set
  pub draws : List ℤ
  pub does : CaseDoes (case_at about.cases number) draws s t

leads_on : (cases : List LinearCase) (a b : ℕ) (k : ℕ) → k < length cases → Leads cases a b → b ≡ (case_at cases k).from → Leads cases a (case_at cases k).to
leads_on cases a b k l (here s) e = subst (λ x. Leads cases x (case_at cases k).to) (sym e) (along k (case_at cases k).to l (here (case_at cases k).to))
leads_on cases a b k l (along j t m rest) e = along j (case_at cases k).to m (leads_on cases (case_at cases j).to t k l rest e)

module _ (about : CaseSystem) where
  abbrev pub IsEven : State → Type 0
  IsEven s = length s.values ≡ about.variables

  -- every run from each state ends
  abbrev pub AllEnd : List ℕ → Type 0
  AllEnd set = (s : State) → IsEven s → Ends (StepsBy about set) s

  even_after : {set : List ℕ} {s t : State} → IsEven s → StepsBy about set s t → IsEven t
  even_after {set = set} {s = s} {t = t} even st = values_kept (case_at about.cases st.number) st.draws s t st.does ∙ even

  avoids : {set : List ℕ} {s t : State} (c : ℕ) (st : StepsBy about set s t) → (st.number ≡ c → ⊥) → StepsBy about (without c set) s t
  avoids {set} c st n = record { number = st.number; among = stays c set st.number st.among n; draws = st.draws; does = st.does }

  has_point : {set : List ℕ} {s t : State} → IsEven s → (st : StepsBy about set s t) → HasCasePoint about.variables (case_at about.cases st.number)
  has_point {set = set} {s = s} {t = t} even st = (s.values ++ st.draws, pos 1, step_point about.variables (case_at about.cases st.number) st.draws s t even st.does)

  -- ---- one case falls, and the others without it end

  module _ (set : List ℕ) (c : ℕ) (terms : List Linear) where
    abbrev pub Stays : Type 0
    Stays = (s t : State) → IsEven s → StepsBy about set s t → rank terms t ≤ℤ rank terms s

    abbrev pub Falls : Type 0
    Falls = (s t : State) → IsEven s → (st : StepsBy about set s t) → st.number ≡ c → (pos 0 ≤ℤ rank terms s) × ((rank terms t +ℤ pos 1) ≤ℤ rank terms s)

    module _ (others : AllEnd (without c set)) (kept : Stays) (falls : Falls) where
      within : (bound : ℤ) → ((s t : State) → IsEven t → pos 0 ≤ℤ rank terms s → (rank terms t +ℤ pos 1) ≤ℤ rank terms s → rank terms s <ℤ bound → Ends (StepsBy about set) t) → {s : State} → Ends (StepsBy about (without c set)) s → IsEven s → rank terms s <ℤ bound → Ends (StepsBy about set) s
      within bound later {s} (all_end e) even low = all_end (λ t st. elim (cases_eq st.number c) [
        | inl is ↦ let f = falls s t even st is in later s t (even_after even st) f.0 f.1 low
        | inr n ↦
            let k = kept s t even st in
            within bound later (e t (avoids c st n)) (even_after even st) (omega (arith, ints, k, low))
      ])

      by_rank : (n : ℕ) (s : State) → IsEven s → rank terms s <ℤ pos n → Ends (StepsBy about set) s
      by_rank zero s even low = within (pos 0) (λ u t e a b l. absurd (omega (arith, ints, a, l))) (others s even) even low
      by_rank (suc n) s even low = within (pos (suc n)) (λ u t e a b l. by_rank n t e (omega (arith, ints, a, b, l))) (others s even) even low

      pub falling_ends : AllEnd set
      falling_ends s even = by_rank (suc (unsigned_abs (rank terms s))) s even (omega (arith, ints))

  -- ---- what a run shows of two cases, where the one is taken and later the other

  pub record Follows (c d : ℕ) : Type 0 where
    pub first : HasCasePoint about.variables (case_at about.cases c)
    pub second : HasCasePoint about.variables (case_at about.cases d)
    pub leads : Leads about.cases (case_at about.cases c).to (case_at about.cases d).from

  module _ (set : List ℕ) (numbered : (k : ℕ) → Among k set → k < length about.cases) (c d : ℕ) (later : Follows c d → AllEnd set) where
    after : HasCasePoint about.variables (case_at about.cases c) → {s : State} → Ends (StepsBy about (without d set)) s → IsEven s → Leads about.cases (case_at about.cases c).to s.location → Ends (StepsBy about set) s
    after point {s} (all_end e) even led = all_end (λ t st. elim (cases_eq st.number d) [
      | inl is ↦
          let from = st.does.leaves ∙ ap (λ k. (case_at about.cases k).from) is in
          let found : Follows c d = record {
            first = point;
            second = subst (λ k. HasCasePoint about.variables (case_at about.cases k)) is (has_point {set = set} {s = s} {t = t} even st);
            leads = subst (λ l. Leads about.cases (case_at about.cases c).to l) from led;
          } in
          later found t (even_after {set = set} {s = s} {t = t} even st)
      | inr n ↦
          let on = leads_on about.cases (case_at about.cases c).to s.location st.number (numbered st.number st.among) led st.does.leaves in
          after point (e t (avoids d st n)) (even_after {set = set} {s = s} {t = t} even st) (subst (λ l. Leads about.cases (case_at about.cases c).to l) (sym st.does.enters) on)
    ])

    before : AllEnd (without d set) → {s : State} → Ends (StepsBy about (without c set)) s → IsEven s → Ends (StepsBy about set) s
    before others {s} (all_end e) even = all_end (λ t st. elim (cases_eq st.number c) [
      | inl is ↦
          let point = subst (λ k. HasCasePoint about.variables (case_at about.cases k)) is (has_point {set = set} {s = s} {t = t} even st) in
          let entered = st.does.enters ∙ ap (λ k. (case_at about.cases k).to) is in
          after point (others t (even_after {set = set} {s = s} {t = t} even st)) (even_after {set = set} {s = s} {t = t} even st) (subst (λ l. Leads about.cases (case_at about.cases c).to l) (sym entered) (here (case_at about.cases c).to))
      | inr n ↦ before others (e t (avoids c st n)) (even_after {set = set} {s = s} {t = t} even st)
    ])

    pub unless_followed : AllEnd (without c set) → AllEnd (without d set) → AllEnd set
    unless_followed first second s even = before second (first s even) even

  -- ---- a set in which each case follows each is ranked

  module _ (set : List ℕ) (numbered : (k : ℕ) → Among k set → k < length about.cases) (follow : (c d : ℕ) → Among c set → Among d set → Follows c d) where
    own : (k : ℕ) → k < length set → Among (get_or set k 0) set
    own k l = at_place set k l

    inside : AreInside about set
    inside = record {
      numbered = λ k l. numbered (get_or set k 0) (own k l);
      inside = λ k l. (
        along (get_or set k 0) (case_in about set k).to (numbered (get_or set k 0) (own k l)) (here (case_in about set k).to),
        (follow (get_or set k 0) (get_or set k 0) (own k l) (own k l)).leads,
      );
      together = λ k j l m. (
        along (get_or set k 0) (case_in about set j).from (numbered (get_or set k 0) (own k l)) (follow (get_or set k 0) (get_or set j 0) (own k l) (own j m)).leads,
        along (get_or set j 0) (case_in about set k).from (numbered (get_or set j 0) (own j m)) (follow (get_or set j 0) (get_or set k 0) (own j m) (own k l)).leads,
      );
    }

    module _ (falling : ℕ) (is_one : falling < length set) (terms : List Linear) (wide : All (λ u. columns u ≡ about.variables) terms) (ranks : RanksCases about.variables (length set) (case_in about set) falling terms) where
      grows_not : Stays set (get_or set falling 0) terms
      grows_not s t even st =
          let p = place_of set st.number st.among in
          let xs = s.values ++ st.draws in
          let c = case_at about.cases st.number in
          let g : value_after about.variables terms c xs (pos 1) ≤ℤ value_before terms c xs (pos 1) =
          subst (λ k. IsCasePoint about.variables (case_at about.cases k) xs (pos 1) → value_after about.variables terms (case_at about.cases k) xs (pos 1) ≤ℤ value_before terms (case_at about.cases k) xs (pos 1)) p.is
          (ranks.grows_nowhere p.place p.within xs (pos 1))
          (step_point about.variables c st.draws s t even st.does) in
          subst (λ z. z ≤ℤ rank terms s) (rank_after about.variables c st.draws s t even st.does terms)
          (subst (λ z. value_after about.variables terms c xs (pos 1) ≤ℤ z) (rank_before about.variables c st.draws s t even st.does terms wide) g)

      falls : Falls set (get_or set falling 0) terms
      falls s t even st is =
          let xs = s.values ++ st.draws in
          let c = case_at about.cases st.number in
          let point = subst (λ k. IsCasePoint about.variables (case_at about.cases k) xs (pos 1)) is (step_point about.variables c st.draws s t even st.does) in
          let low = subst (λ k. pos 0 ≤ℤ value_before terms (case_at about.cases k) xs (pos 1)) (sym is) (ranks.bounded xs (pos 1) point) in
          let less = subst (λ k. (value_after about.variables terms (case_at about.cases k) xs (pos 1) +ℤ pos 1) ≤ℤ value_before terms (case_at about.cases k) xs (pos 1)) (sym is) (ranks.falls xs (pos 1) point) in
          let old = rank_before about.variables c st.draws s t even st.does terms wide in
          let new = rank_after about.variables c st.draws s t even st.does terms in
          (subst (λ z. pos 0 ≤ℤ z) old low, subst (λ z. (z +ℤ pos 1) ≤ℤ rank terms s) new (subst (λ z. (value_after about.variables terms c xs (pos 1) +ℤ pos 1) ≤ℤ z) old less))

      pub ranked_ends : AllEnd (without (get_or set falling 0) set) → AllEnd set
      ranked_ends others = falling_ends set (get_or set falling 0) terms others grows_not falls

    points : (k : ℕ) → k < length set → HasCasePoint about.variables (case_in about set k)
    points k l = (follow (get_or set k 0) (get_or set k 0) (own k l) (own k l)).first

    pub following_ends : HasLexicographicRanking about → 0 < length set → ((other : List ℕ) → length other < length set → ((k : ℕ) → Among k other → k < length about.cases) → AllEnd other) → AllEnd set
    following_ends ranking some smaller =
        let r = ranking set some inside points in
        ranked_ends r.0 r.1 r.2 r.3 r.4 (smaller (without (get_or set r.0 0) set) (shorter (get_or set r.0 0) set (own r.0 r.1)) (λ k a. numbered k (stood (get_or set r.0 0) set k a)))

  -- ---- all sets

  module _ (ranking : HasLexicographicRanking about) where
    none_step : AllEnd []
    none_step s even = all_end (λ t st. absurd st.among)

    by_pairs : (set : List ℕ) → 0 < length set → ((k : ℕ) → Among k set → k < length about.cases) → ((other : List ℕ) → length other < length set → ((k : ℕ) → Among k other → k < length about.cases) → AllEnd other) → (left : Pairs set) → ((c d : ℕ) → Among c set → Among d set → Follows c d ⊎ IsPair left c d) → AllEnd set
    by_pairs set some numbered smaller none known = following_ends set numbered (λ c d a b. elim (known c d a b) [ inl f ↦ f | inr n ↦ absurd n ]) ranking some smaller
    by_pairs set some numbered smaller (pair c d a b rest) known =
        unless_followed set numbered c d
        (λ f. by_pairs set some numbered smaller rest (λ x y k l. elim (known x y k l) [
          | inl g ↦ inl g
          | inr one ↦ elim one [ inl same ↦ inl (subst (λ u. Follows u y) (sym same.0) (subst (λ v. Follows c v) (sym same.1) f)) | inr later ↦ inr later ]
        ]))
        (smaller (without c set) (shorter c set a) (λ k x. numbered k (stood c set k x)))
        (smaller (without d set) (shorter d set b) (λ k x. numbered k (stood d set k x)))

    up_to : (n : ℕ) (set : List ℕ) → length set < n → ((k : ℕ) → Among k set → k < length about.cases) → AllEnd set
    up_to zero set l numbered = absurd (omega arith)
    up_to (suc n) [] l numbered = none_step
    up_to (suc n) (k ∷ set) l numbered =
        by_pairs (k ∷ set) (omega arith) numbered (λ other m w. up_to n other (omega arith) w) (all_pairs (k ∷ set)) (λ c d a b. inr (in_all (k ∷ set) c d a b))

    all_cases : AllEnd (below (length about.cases))
    all_cases = up_to (suc (length (below (length about.cases)))) (below (length about.cases)) (omega arith) (below_are (length about.cases))

    -- each step is by one of the cases
    number_of : (s t : State) → CaseSteps about s t → StepsBy about (below (length about.cases)) s t
    number_of s t st =
        let i = st.among in
        record { number = i.0; among = among_below (length about.cases) i.0 i.1; draws = st.draws; does = subst (λ c. CaseDoes c st.draws s t) (sym (found_at about.cases i.0 st.taken i.1 i.2)) st.does }

    from_all : {s : State} → Ends (StepsBy about (below (length about.cases))) s → Ends (CaseSteps about) s
    from_all {s} (all_end e) = all_end (λ t st. from_all (e t (number_of s t st)))

    pub every_run_ends : (s : State) → length s.values ≡ about.variables → Ends (CaseSteps about) s
    every_run_ends s even = from_all (all_cases s even)

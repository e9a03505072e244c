-- The rows that are owed, and where they are met.
use Rattle.std.proofs.Common.{◌≡◌, ℕ, ◌+◌, List, [], ◌∷◌, ◌++◌, length, map, All, sym, ap, ◌∙◌, subst, ℤ, pos, ◌≤ℤ◌}
use Rattle.std.proofs.lemmas.List.Elements.{All-nil, All-cons, All-head, All-tail, All-append, All-contains}
use Rattle.tv_linear.specs.Linear.{Linear, columns, value, IsMet}
use Rattle.tv_linear.specs.Arithmetic.{composed, width_of}
use Rattle.tv_linear.specs.Known.{as_given, term_value}
use Rattle.tv_linear.specs.Terms.{terms_after}
use Rattle.tv_linear.specs.Same.{AreSame}
use Rattle.tv_linear.proofs.SameLemmas.{same_append}
use Rattle.tv_linear.proofs.KnownLemmas.{as_given-append}
use Rattle.tv_cases.specs.Before.{before as case_before, rows_before}
use Rattle.tv_cases.specs.LinearCases.{LinearCase}
use Rattle.tv_cases.proofs.BeforeValue.{before-value}
use Rattle.tv_cert.specs.Choices.{drawn_change, drawn_guards}
use Rattle.tv_cover.specs.Covering.{IsHole}
use Rattle.tv_cover.specs.Targets.{IsOutside}
use Rattle.tv_points.specs.PointRows.{number_rows}
use Rattle.tv_recur.specs.Making.{rows_put, drawn_terms}
use Rattle.tv_recur.specs.OwedRows.{owed_rows, AreOwed, Enters, IsLeft}
use Rattle.tv_recur.proofs.DrawLemmas.{guards_same, into_same, put_value, terms-wide, terms-width, terms-length}

-- ---- the same numbers
pub owed_same : (n : ℕ) (c : LinearCase) (ds : List ℤ) (into made : List Linear) → length ds ≡ c.draws → All (λ r. columns r ≡ n + c.draws) c.guards → All (λ u. columns u.term ≡ n + c.draws) c.updates → All (λ r. columns r ≡ n) into → AreOwed n c ds into made → AreSame n (as_given made) (drawn_guards n c (number_rows n ds) ++ map (drawn_change n c (number_rows n ds)) into)
owed_same n c ds into made counted guards us wide owed =
    subst (λ ks. AreSame n ks (drawn_guards n c (number_rows n ds) ++ map (drawn_change n c (number_rows n ds)) into))
    (sym (ap as_given owed.exact ∙ as_given-append (rows_put (drawn_terms n ds) c.guards) (rows_put (drawn_terms n ds) (rows_before c into))))
    (same_append n (as_given (rows_put (drawn_terms n ds) c.guards)) (drawn_guards n c (number_rows n ds)) (as_given (rows_put (drawn_terms n ds) (rows_before c into))) (map (drawn_change n c (number_rows n ds)) into)
    (guards_same n c ds counted c.guards guards owed.guards)
    (into_same n c ds counted us into wide owed.before owed.put))

-- ---- where rows with the numbers put in are met
pub put_met : (n : ℕ) (ds xs : List ℤ) → length xs ≡ n → (rows : List Linear) → All (IsMet (xs ++ ds)) rows → All (IsMet xs) (rows_put (drawn_terms n ds) rows)
put_met n ds xs e [] h = All-nil (IsMet xs)
put_met n ds xs e (r ∷ rows) h =
    All-cons (IsMet xs) (composed r (drawn_terms n ds)) (rows_put (drawn_terms n ds) rows)
    (subst (λ z. z ≤ℤ pos 0) (sym (put_value n ds xs r e)) (All-head (IsMet (xs ++ ds)) r rows h))
    (put_met n ds xs e rows (All-tail (IsMet (xs ++ ds)) r rows h))

pub put_met_back : (n : ℕ) (ds xs : List ℤ) → length xs ≡ n → (rows : List Linear) → All (IsMet xs) (rows_put (drawn_terms n ds) rows) → All (IsMet (xs ++ ds)) rows
put_met_back n ds xs e [] h = All-nil (IsMet (xs ++ ds))
put_met_back n ds xs e (r ∷ rows) h =
    All-cons (IsMet (xs ++ ds)) r rows
    (subst (λ z. z ≤ℤ pos 0) (put_value n ds xs r e) (All-head (IsMet xs) (composed r (drawn_terms n ds)) (rows_put (drawn_terms n ds) rows) h))
    (put_met_back n ds xs e rows (All-tail (IsMet xs) (composed r (drawn_terms n ds)) (rows_put (drawn_terms n ds) rows) h))

-- ---- where rows before a case are met
module _ (n : ℕ) (c : LinearCase) (xs ds : List ℤ) (many : length xs ≡ n) (counted : length ds ≡ c.draws) where
  abbrev pub next : List ℤ
  next = map (term_value (xs ++ ds)) (terms_after (length xs) c.updates)

  value_before : (r : Linear) → columns r ≡ n → value (case_before r c) (xs ++ ds) ≡ value r next
  value_before r wide = before-value r c xs ds (many ∙ sym wide) counted

  pub before_met : (rows : List Linear) → All (λ r. columns r ≡ n) rows → All (IsMet next) rows → All (IsMet (xs ++ ds)) (rows_before c rows)
  before_met [] wide h = All-nil (IsMet (xs ++ ds))
  before_met (r ∷ rows) wide h =
      All-cons (IsMet (xs ++ ds)) (case_before r c) (rows_before c rows)
      (subst (λ z. z ≤ℤ pos 0) (sym (value_before r (All-head (λ r. columns r ≡ n) r rows wide))) (All-head (IsMet next) r rows h))
      (before_met rows (All-tail (λ r. columns r ≡ n) r rows wide) (All-tail (IsMet next) r rows h))

  pub before_met_back : (rows : List Linear) → All (λ r. columns r ≡ n) rows → All (IsMet (xs ++ ds)) (rows_before c rows) → All (IsMet next) rows
  before_met_back [] wide h = All-nil (IsMet next)
  before_met_back (r ∷ rows) wide h =
      All-cons (IsMet next) r rows
      (subst (λ z. z ≤ℤ pos 0) (value_before r (All-head (λ r. columns r ≡ n) r rows wide)) (All-head (IsMet (xs ++ ds)) (case_before r c) (rows_before c rows) h))
      (before_met_back rows (All-tail (λ r. columns r ≡ n) r rows wide) (All-tail (IsMet (xs ++ ds)) (case_before r c) (rows_before c rows) h))

  -- where the case leads into the rows, those that are owed are met
  pub owed_met : (into : List Linear) → All (λ r. columns r ≡ n) into → Enters c ds into xs → All (IsMet xs) (owed_rows n c ds into)
  owed_met into wide enters =
      All-append (IsMet xs) (rows_put (drawn_terms n ds) c.guards) (rows_put (drawn_terms n ds) (rows_before c into))
      (put_met n ds xs many c.guards enters.guards)
      (put_met n ds xs many (rows_before c into) (before_met into wide enters.into))

-- a hole is where the case does not lead into the rows
pub left_at : (n : ℕ) (c : LinearCase) (ds : List ℤ) (rows into made : List Linear) (xs : List ℤ) → length ds ≡ c.draws → All (λ r. columns r ≡ n) into → AreOwed n c ds into made → IsHole n (made ∷ []) rows xs → IsLeft n c ds rows into
left_at n c ds rows into made xs counted wide owed hole =
    let out = All-head (IsOutside xs) made [] hole.outside in
    record {
      values = xs;
      point = hole.point;
      leaves = λ enters. out.2 (All-contains (IsMet xs) made out.0 (subst (All (IsMet xs)) (sym owed.exact) (owed_met n c xs ds hole.point.width counted into wide enters)) out.1);
    }

-- ---- the columns of rows and of terms
pub terms_each : (n v d : ℕ) (ds : List ℤ) (terms rows same : List Linear) → v ≡ n → terms ≡ drawn_terms v ds → length ds ≡ d → rows ≡ same → All (λ r. columns r ≡ n + d) same → All (λ r. columns r ≡ length terms) rows
terms_each n v d ds terms rows same e f counted g wide =
    subst (λ k. All (λ r. columns r ≡ k) rows) (sym (ap length f ∙ terms-length v ds ∙ (λ i. e i + counted i)))
    (subst (All (λ r. columns r ≡ n + d)) (sym g) wide)

pub terms_even : (v : ℕ) (ds : List ℤ) (terms : List Linear) → terms ≡ drawn_terms v ds → All (λ t. columns t ≡ width_of terms) terms
terms_even v ds terms e = subst (λ ts. All (λ t. columns t ≡ width_of ts) ts) (sym e) (subst (λ k. All (λ t. columns t ≡ k) (drawn_terms v ds)) (sym (terms-width v ds)) (terms-wide v ds))

-- Where a case changes nothing.
use Rattle.std.proofs.Common.{◌≡◌, ℕ, zero, suc, ◌+◌, ◌<◌, ◌≤◌, List, [], ◌∷◌, ◌++◌, length, length-append, map, get_or, All, Bool, true, false, ◌==◌, if◌then◌else◌, arith, refl, sym, ap, ◌∙◌, subst, ℤ, pos, ◌+ℤ◌}
use Rattle.std.specs.Prelude.{nat_le}
use Rattle.std.proofs.lemmas.Int.{ints}
use Rattle.std.proofs.lemmas.List.Elements.{All-nil, All-cons, All-head, All-tail, All-append}
use Rattle.tv_linear.specs.Linear.{Linear, columns, value, IsMet}
use Rattle.tv_linear.specs.Arithmetic.{opposite, column_row}
use Rattle.tv_linear.specs.Known.{Term, put, term_value}
use Rattle.tv_linear.specs.Terms.{table, update_of, terms_after}
use Rattle.tv_linear.specs.declared.region.Update.{Update}
use Rattle.tv_linear.proofs.Entries.{columns-plus, columns-opposite}
use Rattle.tv_linear.proofs.PlainLists.{length-unit}
use Rattle.tv_linear.proofs.RowValues.{value-plus, value-opposite, value-column_row}
use Rattle.tv_linear.proofs.ListLaws.{map-table}
use Rattle.tv_cases.specs.LinearCases.{LinearCase, CaseSystem, IsCase, ascends}
use Rattle.tv_farkas.specs.Paths.{IsWholePoint}
use Rattle.tv_recur.specs.Making.{rows_put, drawn_terms}
use Rattle.tv_recur.specs.OwedRows.{Enters, IsLeft}
use Rattle.tv_recur.specs.Staying.{added, taken_off, unchanged_rows, staying_rows, NeverStays}
use Rattle.tv_recur.proofs.OwedLemmas.{put_met_back}
use Rattle.tv_cases.proofs.SameSteps.{front-get_or}
use Rattle.tv_cases.proofs.EdgeRoom.{at_most-true}
use Rattle.std.proofs.lemmas.Bool.{and_parts, eq-eqb, eqb-true, ne_eqb}

-- ---- one update
-- the value of its term is that of its variable
abbrev pub Keeps : List ℤ → Update → Type 0
Keeps p u = value u.term p ≡ get_or p u.variable (pos 0)

added_value : (w : ℕ) (p : List ℤ) (u : Update) → length p ≤ w → (value (added w u) p +ℤ get_or p u.variable (pos 0)) ≡ value u.term p
added_value w p u l =
    let a = value-plus u.term (opposite (column_row w u.variable)) p in
    let b = value-opposite (column_row w u.variable) p in
    let d = value-column_row w u.variable p l in
    omega (arith, ints, a, b, d)

taken_value : (w : ℕ) (p : List ℤ) (u : Update) → length p ≤ w → (value (taken_off w u) p +ℤ value u.term p) ≡ get_or p u.variable (pos 0)
taken_value w p u l =
    let a = value-plus (column_row w u.variable) (opposite u.term) p in
    let b = value-opposite u.term p in
    let d = value-column_row w u.variable p l in
    omega (arith, ints, a, b, d)

keeps : (w : ℕ) (p : List ℤ) (u : Update) → length p ≤ w → IsMet p (added w u) → IsMet p (taken_off w u) → Keeps p u
keeps w p u l h g = let a = added_value w p u l in let b = taken_value w p u l in omega (arith, ints, a, b, h, g)

kept_added : (w : ℕ) (p : List ℤ) (u : Update) → length p ≤ w → Keeps p u → IsMet p (added w u)
kept_added w p u l h = let a = added_value w p u l in omega (arith, ints, a, h)

kept_taken : (w : ℕ) (p : List ℤ) (u : Update) → length p ≤ w → Keeps p u → IsMet p (taken_off w u)
kept_taken w p u l h = let a = taken_value w p u l in omega (arith, ints, a, h)

-- ---- all of them
all_keep : (w : ℕ) (p : List ℤ) → length p ≤ w → (us : List Update) → All (IsMet p) (unchanged_rows w us) → All (Keeps p) us
all_keep w p l [] h = All-nil (Keeps p)
all_keep w p l (u ∷ us) h =
    let rest = All-tail (IsMet p) (added w u) (taken_off w u ∷ unchanged_rows w us) h in
    All-cons (Keeps p) u us
    (keeps w p u l (All-head (IsMet p) (added w u) (taken_off w u ∷ unchanged_rows w us) h) (All-head (IsMet p) (taken_off w u) (unchanged_rows w us) rest))
    (all_keep w p l us (All-tail (IsMet p) (taken_off w u) (unchanged_rows w us) rest))

all_unchanged : (w : ℕ) (p : List ℤ) → length p ≤ w → (us : List Update) → All (Keeps p) us → All (IsMet p) (unchanged_rows w us)
all_unchanged w p l [] h = All-nil (IsMet p)
all_unchanged w p l (u ∷ us) h =
    All-cons (IsMet p) (added w u) (taken_off w u ∷ unchanged_rows w us) (kept_added w p u l (All-head (Keeps p) u us h))
    (All-cons (IsMet p) (taken_off w u) (unchanged_rows w us) (kept_taken w p u l (All-head (Keeps p) u us h)) (all_unchanged w p l us (All-tail (Keeps p) u us h)))

-- ---- the values after the updates
either_term : (p : List ℤ) (b : Bool) (t s : Term) (z : ℤ) → (b ≡ true → term_value p t ≡ z) → term_value p s ≡ z → term_value p (if b then t else s) ≡ z
either_term p true t s z h g = h refl
either_term p false t s z h g = g

term_kept : (p : List ℤ) (us : List Update) (v : ℕ) → All (Keeps p) us → term_value p (update_of us v) ≡ get_or p v (pos 0)
term_kept p [] v h = refl
term_kept p (u ∷ us) v h =
    either_term p (u.variable == v) (put u.term) (update_of us v) (get_or p v (pos 0))
    (λ e. All-head (Keeps p) u us h ∙ ap (λ k. get_or p k (pos 0)) (eqb-true u.variable v e))
    (term_kept p us v (All-tail (Keeps p) u us h))

table_same : {A : Type 0} (n : ℕ) (f g : ℕ → A) → ((j : ℕ) → j < n → f j ≡ g j) → table n f ≡ table n g
table_same zero f g h = refl
table_same (suc n) f g h = (λ i. h 0 (omega arith) i ∷ table_same n (λ j. f (suc j)) (λ j. g (suc j)) (λ j l. h (suc j) (omega (arith, l))) i)

table_of : (xs : List ℤ) → table (length xs) (λ j. get_or xs j (pos 0)) ≡ xs
table_of [] = refl
table_of (x ∷ xs) = ap (λ ys. x ∷ ys) (table_of xs)

pub values_kept : (xs ds : List ℤ) (us : List Update) → All (Keeps (xs ++ ds)) us → map (term_value (xs ++ ds)) (terms_after (length xs) us) ≡ xs
values_kept xs ds us h =
    map-table (term_value (xs ++ ds)) (length xs) (update_of us)
    ∙ table_same (length xs) (λ j. term_value (xs ++ ds) (update_of us j)) (λ j. get_or xs j (pos 0)) (λ j l. term_kept (xs ++ ds) us j h ∙ front-get_or xs ds j l)
    ∙ table_of xs

-- ---- and back: each update is the first of its variable
above : (v : ℕ) (us : List Update) → ascends v us ≡ true → All (λ u. v ≤ u.variable) us
above v [] h = All-nil (λ u. v ≤ u.variable)
above v (u ∷ us) h =
    let k = and_parts (nat_le v u.variable) (ascends (suc u.variable) us) h in
    let l = at_most-true v u.variable k.0 in
    All-cons (λ u. v ≤ u.variable) u us l (higher v (suc u.variable) us (omega (arith, l)) (above (suc u.variable) us k.1))
  where
    higher : (v w : ℕ) (us : List Update) → v ≤ w → All (λ u. w ≤ u.variable) us → All (λ u. v ≤ u.variable) us
    higher v w [] l h = All-nil (λ u. v ≤ u.variable)
    higher v w (u ∷ us) l h = All-cons (λ u. v ≤ u.variable) u us (let a = All-head (λ u. w ≤ u.variable) u us h in omega (arith, l, a)) (higher v w us l (All-tail (λ u. w ≤ u.variable) u us h))

abbrev IsFirst : List Update → Update → Type 0
IsFirst us u = update_of us u.variable ≡ put u.term

if_true : {A : Type 0} (b : Bool) (x y : A) → b ≡ true → (if b then x else y) ≡ x
if_true true x y h = refl
if_true false x y h = absurd cc

if_false : {A : Type 0} (b : Bool) (x y : A) → b ≡ false → (if b then x else y) ≡ y
if_false true x y h = absurd cc
if_false false x y h = refl

later_first : (u : Update) (all us : List Update) → All (λ w. suc u.variable ≤ w.variable) us → All (IsFirst all) us → All (IsFirst (u ∷ all)) us
later_first u all [] l h = All-nil (IsFirst (u ∷ all))
later_first u all (w ∷ us) l h =
    let k = All-head (λ w. suc u.variable ≤ w.variable) w us l in
    All-cons (IsFirst (u ∷ all)) w us
    (if_false (u.variable == w.variable) (put u.term) (update_of all w.variable) (ne_eqb u.variable w.variable (λ e. absurd (omega (arith, e, k)))) ∙ All-head (IsFirst all) w us h)
    (later_first u all us (All-tail (λ w. suc u.variable ≤ w.variable) w us l) (All-tail (IsFirst all) w us h))

firsts : (v : ℕ) (us : List Update) → ascends v us ≡ true → All (IsFirst us) us
firsts v [] h = All-nil (IsFirst [])
firsts v (u ∷ us) h =
    let k = and_parts (nat_le v u.variable) (ascends (suc u.variable) us) h in
    All-cons (IsFirst (u ∷ us)) u us
    (if_true (u.variable == u.variable) (put u.term) (update_of us u.variable) (eq-eqb u.variable u.variable refl))
    (later_first u us us (above (suc u.variable) us k.1) (firsts (suc u.variable) us k.1))

in_table : {A : Type 0} (n : ℕ) (f : ℕ → A) (d : A) (v : ℕ) → v < n → get_or (table n f) v d ≡ f v
in_table zero f d v l = absurd (omega (arith, l))
in_table (suc n) f d zero l = refl
in_table (suc n) f d (suc v) l = in_table n (λ j. f (suc j)) d v (omega (arith, l))

each_kept : (xs ds : List ℤ) (all us : List Update) → xs ≡ map (term_value (xs ++ ds)) (terms_after (length xs) all) → All (λ u. u.variable < length xs) us → All (IsFirst all) us → All (Keeps (xs ++ ds)) us
each_kept xs ds all [] e l h = All-nil (Keeps (xs ++ ds))
each_kept xs ds all (u ∷ us) e l h =
    let k = All-head (λ u. u.variable < length xs) u us l in
    All-cons (Keeps (xs ++ ds)) u us
    (sym (
    front-get_or xs ds u.variable k
    ∙ ap (λ ys. get_or ys u.variable (pos 0)) (e ∙ map-table (term_value (xs ++ ds)) (length xs) (update_of all))
    ∙ in_table (length xs) (λ j. term_value (xs ++ ds) (update_of all j)) (pos 0) u.variable k
    ∙ ap (term_value (xs ++ ds)) (All-head (IsFirst all) u us h)
    ))
    (each_kept xs ds all us e (All-tail (λ u. u.variable < length xs) u us l) (All-tail (IsFirst all) u us h))

-- ---- the question
pub split_met : (p : List ℤ) (rows more : List Linear) → All (IsMet p) (rows ++ more) → All (IsMet p) rows × All (IsMet p) more
split_met p [] more h = (All-nil (IsMet p), h)
split_met p (r ∷ rows) more h =
    let k = split_met p rows more (All-tail (IsMet p) r (rows ++ more) h) in
    (All-cons (IsMet p) r rows (All-head (IsMet p) r (rows ++ more) h) k.0, k.1)

-- a state that steps to itself meets the rows
pub never_stays : (about : CaseSystem) (c : LinearCase) (rows : List Linear) → IsCase about.variables about.locations c → rows ≡ staying_rows about.variables c → ((xs : List ℤ) → IsWholePoint (about.variables + c.draws) rows xs → ⊥) → NeverStays about c
never_stays about c rows good same none s initial ds does =
    let n = about.variables in
    let many : length (s.values ++ ds) ≡ n + c.draws = length-append s.values ds ∙ (λ i. initial.counted i + does.drawn i) in
    none (s.values ++ ds) (record {
      width = many;
      met = subst (All (IsMet (s.values ++ ds))) (sym same)
          (All-append (IsMet (s.values ++ ds)) c.guards (unchanged_rows (n + c.draws) c.updates) does.guards
          (all_unchanged (n + c.draws) (s.values ++ ds) (omega (arith, many)) c.updates
          (each_kept s.values ds c.updates c.updates does.gives
          (subst (λ k. All (λ u. u.variable < k) c.updates) (sym initial.counted) good.assigned)
          (firsts 0 c.updates good.in_order))));
    })

-- at an integer point of the rows with the numbers put in the case leads into them again
pub stays_in : (n : ℕ) (c : LinearCase) (ds xs : List ℤ) (rows : List Linear) → rows ≡ staying_rows n c → length xs ≡ n → length ds ≡ c.draws → All (IsMet xs) (rows_put (drawn_terms n ds) rows) → Enters c ds (rows_put (drawn_terms n ds) rows) xs
stays_in n c ds xs rows same many counted met =
    let back = put_met_back n ds xs many rows met in
    let parts = split_met (xs ++ ds) c.guards (unchanged_rows (n + c.draws) c.updates) (subst (All (IsMet (xs ++ ds))) same back) in
    let wide : length (xs ++ ds) ≤ n + c.draws = (let e = length-append xs ds in omega (arith, e, many, counted)) in
    record {
      guards = parts.0;
      into = subst (λ ys. All (IsMet ys) (rows_put (drawn_terms n ds) rows)) (sym (values_kept xs ds c.updates (all_keep (n + c.draws) (xs ++ ds) wide c.updates parts.1))) met;
    }

pub never_left : (n : ℕ) (c : LinearCase) (ds : List ℤ) (rows drawn from into : List Linear) → rows ≡ staying_rows n c → drawn ≡ rows_put (drawn_terms n ds) rows → from ≡ drawn → into ≡ drawn → length ds ≡ c.draws → IsLeft n c ds from into → ⊥
never_left n c ds rows drawn from into same made f g counted left =
    left.leaves (subst (λ z. Enters c ds z left.values) (sym (g ∙ made))
    (stays_in n c ds left.values rows same left.point.width counted (subst (All (IsMet left.values)) (f ∙ made) left.point.met)))

-- ---- the columns of the rows
added_wide : (w : ℕ) (u : Update) → columns u.term ≡ w → columns (added w u) ≡ w
added_wide w u e = columns-plus u.term (opposite (column_row w u.variable)) (e ∙ sym (columns-opposite (column_row w u.variable) ∙ length-unit w u.variable)) ∙ e

taken_wide : (w : ℕ) (u : Update) → columns u.term ≡ w → columns (taken_off w u) ≡ w
taken_wide w u e = columns-plus (column_row w u.variable) (opposite u.term) (length-unit w u.variable ∙ sym (columns-opposite u.term ∙ e)) ∙ length-unit w u.variable

unchanged_wide : (w : ℕ) (us : List Update) → All (λ u. columns u.term ≡ w) us → All (λ r. columns r ≡ w) (unchanged_rows w us)
unchanged_wide w [] h = All-nil (λ r. columns r ≡ w)
unchanged_wide w (u ∷ us) h =
    let e = All-head (λ u. columns u.term ≡ w) u us h in
    All-cons (λ r. columns r ≡ w) (added w u) (taken_off w u ∷ unchanged_rows w us) (added_wide w u e)
    (All-cons (λ r. columns r ≡ w) (taken_off w u) (unchanged_rows w us) (taken_wide w u e) (unchanged_wide w us (All-tail (λ u. columns u.term ≡ w) u us h)))

pub staying_wide : (n : ℕ) (c : LinearCase) (rows : List Linear) → rows ≡ staying_rows n c → All (λ r. columns r ≡ n + c.draws) c.guards → All (λ u. columns u.term ≡ n + c.draws) c.updates → All (λ r. columns r ≡ n + c.draws) rows
staying_wide n c rows e guards us =
    subst (All (λ r. columns r ≡ n + c.draws)) (sym e)
    (All-append (λ r. columns r ≡ n + c.draws) c.guards (unchanged_rows (n + c.draws) c.updates) guards (unchanged_wide (n + c.draws) c.updates us))

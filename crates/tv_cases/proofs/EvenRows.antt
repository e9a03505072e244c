-- each row of an edge has a column for each variable and each draw
use Rattle.std.proofs.Common.{◌≡◌, ℕ, zero, suc, ◌+◌, ◌∙◌, List, [], ◌∷◌, ◌++◌, map, get_or, set, refl, sym, ℤ, pos, neg_ℤ, Bool, true, false, not}
use Rattle.std.specs.Prelude.{cond, All, ◌==◌, if◌then◌else◌}
use Rattle.std.proofs.lemmas.List.{length-map}
use Rattle.std.proofs.lemmas.List.Elements.{All-nil, All-cons, All-head, All-tail}
use Rattle.tv_linear.specs.Linear.{Linear, columns}
use Rattle.tv_linear.specs.Arithmetic.{constant_row, plus, opposite, scaled}
use Rattle.tv_linear.specs.Tight.{divisor, rounded_up, divided_unless_zero}
use Rattle.tv_linear.proofs.PlainLists.{length-zeros, length-unit, length-plus_each}
use Rattle.tv_program.specs.declared.tree.Relation.{Relation}
use Rattle.tv_program.specs.declared.tree.Relation.TheVariants.{Less, LessEqual, Greater, GreaterEqual, Equal, NotEqual}
use Rattle.tv_program.specs.Trees.{Expression, number, variable, draw, minus, sum as added, product, Expressions, no_part, part, Condition, truth, compare, negated, all_of, some_of, Conditions, no_test, test, Instruction, assume, assign, Transition}
use Rattle.tv_cases.specs.Forms.{is_number, times, form, sum_form, product_form}
use Rattle.tv_cases.specs.Lists.{pairs, difference, at_most, compared, relation_for, agrees, truth_lists, lists_of, paired, joined}
use Rattle.tv_cases.specs.EdgeCases.{Progress, columns_from, progressed, after, beginning, edge_end}
use Rattle.tv_linear.specs.Known.{Term, put}
use Rattle.tv_linear.specs.Terms.{table, update_of}
use Rattle.tv_linear.specs.declared.region.Update.{Update}
use Rattle.tv_linear.proofs.Entries.{columns-combined}
use Rattle.tv_cases.specs.LinearCases.{LinearCase}
use Rattle.tv_cases.specs.Before.{term_row, rows_after, before}

-- each row has w columns
abbrev pub AreWide : ℕ → List Linear → Type 0
AreWide w [] = Unit {0}
AreWide w (r ∷ rows) = (columns r ≡ w) × AreWide w rows

abbrev pub ListsWide : ℕ → List (List Linear) → Type 0
ListsWide w [] = Unit {0}
ListsWide w (l ∷ ls) = AreWide w l × ListsWide w ls

pub all-wide : (w : ℕ) (rows : List Linear) → AreWide w rows → All (λ r. columns r ≡ w) rows
all-wide w [] h = All-nil (λ r. columns r ≡ w)
all-wide w (r ∷ rows) h = All-cons (λ r. columns r ≡ w) r rows h.0 (all-wide w rows h.1)

-- ---- terms

at-wide : (w : ℕ) (terms : List Linear) (v : ℕ) → AreWide w terms → columns (get_or terms v (constant_row w (pos 0))) ≡ w
at-wide w [] v h = length-zeros w
at-wide w (t ∷ terms) zero h = h.0
at-wide w (t ∷ terms) (suc v) h = at-wide w terms v h.1

set-wide : (w : ℕ) (terms : List Linear) (v : ℕ) (r : Linear) → AreWide w terms → columns r ≡ w → AreWide w (set terms v r)
set-wide w [] v r h e = tt
set-wide w (t ∷ terms) zero r h e = (e, h.1)
set-wide w (t ∷ terms) (suc v) r h e = (h.0, set-wide w terms v r h.1 e)

columns_from-wide : (w v n : ℕ) → AreWide w (columns_from w v n)
columns_from-wide w v zero = tt
columns_from-wide w v (suc n) = (length-unit w v, columns_from-wide w (suc v) n)

times-wide : (w : ℕ) (r s : Linear) → columns r ≡ w → columns s ≡ w → columns (times r s) ≡ w
times-wide w r s h k = by_test (is_number s) where
  by_test : (b : Bool) → columns (cond b (scaled s.constant r) (scaled r.constant s)) ≡ w
  by_test true = length-map r.coefficients _ ∙ h
  by_test false = length-map s.coefficients _ ∙ k

plus-wide : (w : ℕ) (r s : Linear) → columns r ≡ w → columns s ≡ w → columns (plus r s) ≡ w
plus-wide w r s h k = length-plus_each r.coefficients s.coefficients (h ∙ sym k) ∙ h

module _ (n w : ℕ) (terms : List Linear) (wide : AreWide w terms) where
  mutual
    form-wide : (e : Expression) → columns (form n w terms e) ≡ w
    form-wide (number z) = length-zeros w
    form-wide (variable v) = at-wide w terms v wide
    form-wide (draw d) = length-unit w (n + d)
    form-wide (minus e) = length-map (form n w terms e).coefficients neg_ℤ ∙ form-wide e
    form-wide (added es) = sum-wide (constant_row w (pos 0)) es (length-zeros w)
    form-wide (product es) = product-wide (constant_row w (pos 1)) es (length-zeros w)

    sum-wide : (total : Linear) (es : Expressions) → columns total ≡ w → columns (sum_form n w terms total es) ≡ w
    sum-wide total no_part h = h
    sum-wide total (part e es) h = sum-wide (plus total (form n w terms e)) es (plus-wide w total (form n w terms e) h (form-wide e))

    product-wide : (total : Linear) (es : Expressions) → columns total ≡ w → columns (product_form n w terms total es) ≡ w
    product-wide total no_part h = h
    product-wide total (part e es) h = product-wide (times total (form n w terms e)) es (times-wide w total (form n w terms e) h (form-wide e))

-- ---- lists

pub divided-wide : (g : ℕ) (r : Linear) → columns (divided_unless_zero g r) ≡ columns r
divided-wide zero r = refl
divided-wide (suc g) r = length-map r.coefficients (rounded_up (suc g))

at_most-wide : (w : ℕ) (z : ℤ) (a b : Linear) → columns a ≡ w → columns b ≡ w → columns (at_most z a b) ≡ w
at_most-wide w z a b h k =
    divided-wide (divisor (difference z a b).coefficients) (difference z a b)
    ∙ plus-wide w a (opposite b) h (length-map b.coefficients neg_ℤ ∙ k)

compared-wide : (w : ℕ) (r : Relation) (a b : Linear) → columns a ≡ w → columns b ≡ w → ListsWide w (compared r a b)
compared-wide w Less a b h k = ((at_most-wide w (pos 1) a b h k, tt), tt)
compared-wide w LessEqual a b h k = ((at_most-wide w (pos 0) a b h k, tt), tt)
compared-wide w Greater a b h k = ((at_most-wide w (pos 1) b a k h, tt), tt)
compared-wide w GreaterEqual a b h k = ((at_most-wide w (pos 0) b a k h, tt), tt)
compared-wide w Equal a b h k = ((at_most-wide w (pos 0) a b h k, (at_most-wide w (pos 0) b a k h, tt)), tt)
compared-wide w NotEqual a b h k = ((at_most-wide w (pos 1) a b h k, tt), ((at_most-wide w (pos 1) b a k h, tt), tt))

append-wide : (w : ℕ) (l m : List Linear) → AreWide w l → AreWide w m → AreWide w (l ++ m)
append-wide w [] m h k = k
append-wide w (r ∷ l) m h k = (h.0, append-wide w l m h.1 k)

lists-append-wide : (w : ℕ) (ls ms : List (List Linear)) → ListsWide w ls → ListsWide w ms → ListsWide w (ls ++ ms)
lists-append-wide w [] ms h k = k
lists-append-wide w (l ∷ ls) ms h k = (h.0, lists-append-wide w ls ms h.1 k)

map-wide : (w : ℕ) (l : List Linear) (ms : List (List Linear)) → AreWide w l → ListsWide w ms → ListsWide w (map (λ m. l ++ m) ms)
map-wide w l [] h k = tt
map-wide w l (m ∷ ms) h k = (append-wide w l m h k.0, map-wide w l ms h k.1)

pairs-wide : (w : ℕ) (ls ms : List (List Linear)) → ListsWide w ls → ListsWide w ms → ListsWide w (pairs ls ms)
pairs-wide w [] ms h k = tt
pairs-wide w (l ∷ ls) ms h k = lists-append-wide w (map (λ m. l ++ m) ms) (pairs ls ms) (map-wide w l ms h.0 k) (pairs-wide w ls ms h.1 k)

truth-wide : (w : ℕ) (b : Bool) → ListsWide w (truth_lists b)
truth-wide w true = (tt, tt)
truth-wide w false = tt

module _ (n w : ℕ) (terms : List Linear) (wide : AreWide w terms) where
  mutual
    lists_of-wide : (wanted : Bool) (c : Condition) → ListsWide w (lists_of n w terms wanted c)
    lists_of-wide wanted (truth b) = truth-wide w (agrees wanted b)
    lists_of-wide wanted (compare r e f) = compared-wide w (relation_for wanted r) (form n w terms e) (form n w terms f) (form-wide n w terms wide e) (form-wide n w terms wide f)
    lists_of-wide wanted (negated c) = lists_of-wide (not wanted) c
    lists_of-wide true (all_of cs) = paired-wide true ([] ∷ []) cs (tt, tt)
    lists_of-wide false (all_of cs) = joined-wide false [] cs tt
    lists_of-wide true (some_of cs) = joined-wide true [] cs tt
    lists_of-wide false (some_of cs) = paired-wide false ([] ∷ []) cs (tt, tt)

    paired-wide : (wanted : Bool) (so_far : List (List Linear)) (cs : Conditions) → ListsWide w so_far → ListsWide w (paired n w terms wanted so_far cs)
    paired-wide wanted so_far no_test h = h
    paired-wide wanted so_far (test c cs) h = paired-wide wanted (pairs so_far (lists_of n w terms wanted c)) cs (pairs-wide w so_far (lists_of n w terms wanted c) h (lists_of-wide wanted c))

    joined-wide : (wanted : Bool) (so_far : List (List Linear)) (cs : Conditions) → ListsWide w so_far → ListsWide w (joined n w terms wanted so_far cs)
    joined-wide wanted so_far no_test h = h
    joined-wide wanted so_far (test c cs) h = joined-wide wanted (so_far ++ lists_of n w terms wanted c) cs (lists-append-wide w so_far (lists_of n w terms wanted c) h (lists_of-wide wanted c))

-- ---- edges

pub record IsWide (w : ℕ) (p : Progress) : Type 0 where
  pub terms : AreWide w p.terms
  pub lists : ListsWide w p.lists

after-wide : (n w : ℕ) (instructions : List Instruction) (p : Progress) → IsWide w p → IsWide w (after n w instructions p)
after-wide n w [] p h = h
after-wide n w (assume c ∷ rest) p h =
    after-wide n w rest (progressed n w (assume c) p) (record { terms = h.terms; lists = pairs-wide w p.lists (lists_of n w p.terms true c) h.lists (lists_of-wide n w p.terms h.terms true c) })
after-wide n w (assign v e ∷ rest) p h =
    after-wide n w rest (progressed n w (assign v e) p) (record { terms = set-wide w p.terms v (form n w p.terms e) h.terms (form-wide n w p.terms h.terms e); lists = h.lists })

pub edge-wide : (n : ℕ) (e : Transition) → IsWide (n + e.draws) (edge_end n e)
edge-wide n e = after-wide n (n + e.draws) e.instructions (beginning n (n + e.draws)) (record { terms = columns_from-wide (n + e.draws) 0 n; lists = (tt, tt) })

-- ---- before a case

module _ (w : ℕ) where
  if_wide : (b : Bool) (t u : Term) → columns (term_row w t) ≡ w → columns (term_row w u) ≡ w → columns (term_row w (if b then t else u)) ≡ w
  if_wide true t u h g = h
  if_wide false t u h g = g

  update_wide : (us : List Update) (v : ℕ) → All (λ u. columns u.term ≡ w) us → columns (term_row w (update_of us v)) ≡ w
  update_wide [] v h = length-unit w v
  update_wide (u ∷ us) v h = if_wide (u.variable == v) (put u.term) (update_of us v) (All-head (λ u. columns u.term ≡ w) u us h) (update_wide us v (All-tail (λ u. columns u.term ≡ w) u us h))

  table_wide : (n : ℕ) (f : ℕ → Term) → ((j : ℕ) → columns (term_row w (f j)) ≡ w) → All (λ r. columns r ≡ w) (map (term_row w) (table n f))
  table_wide zero f h = All-nil (λ r. columns r ≡ w)
  table_wide (suc n) f h = All-cons (λ r. columns r ≡ w) (term_row w (f 0)) (map (term_row w) (table n (λ j. f (suc j)))) (h 0) (table_wide n (λ j. f (suc j)) (λ j. h (suc j)))

pub columns-before : (r : Linear) (c : LinearCase) → All (λ u. columns u.term ≡ columns r + c.draws) c.updates → columns (before r c) ≡ columns r + c.draws
columns-before r c h =
    columns-combined (columns r + c.draws) r.coefficients (rows_after r c) (table_wide (columns r + c.draws) (columns r) (update_of c.updates) (λ j. update_wide (columns r + c.draws) c.updates j h))

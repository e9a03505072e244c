-- Terms for draws, and the ways that they make.
use Rattle.std.proofs.Common.{◌≡◌, ℕ, zero, suc, ◌+◌, ◌<◌, ◌≤◌, List, [], ◌∷◌, ◌++◌, length, map, drop, get_or, All, Some, None, Option, arith, refl, sym, ap, ◌∙◌, subst, ℤ, pos, negsuc, neg_ℤ, append_assoc, cond}
use Rattle.std.specs.Prelude.{slice_get, Contains}
use Rattle.std.proofs.lemmas.List.{length-map, append-nil}
use Rattle.std.proofs.lemmas.List.Elements.{All-nil, All-cons, All-head, All-tail, All-append, All-contains_itself}
use Rattle.std.proofs.lemmas.Bool.{eq-eqb, ne_eqb}
use Rattle.tv_linear.specs.Linear.{Linear, columns}
use Rattle.tv_linear.specs.Arithmetic.{opposite}
use Rattle.tv_linear.specs.declared.region.Piece.{Piece}
use Rattle.tv_linear.proofs.ListLaws.{length-front, drop_past, contains_at}
use Rattle.tv_cases.specs.declared.case.Case.{Case}
use Rattle.tv_cases.specs.LinearCases.{LinearCase, leaving}
use Rattle.tv_cases.specs.Views.{case_view, case_views}
use Rattle.tv_choice.specs.declared.ways.Way.{Way}
use Rattle.tv_choice.specs.declared.ways.Entry.{Entry}
use Rattle.tv_choice.specs.Rows.{put_rows, put_terms, ArePut, IsWideBefore, IsWidePut}
use Rattle.tv_choice.specs.Leading.{Query, IsEntry, pieces_at, piece_rows}
use Rattle.tv_choice.specs.ChoicePaths.{AreDrawTerms, by_rows}
use Rattle.tv_choice.specs.Refusals.{IsWideHere, entering, drawing}
use Rattle.tv_choice.specs.Ways.{IsEntered, AreCaseRows, IsWayOf, IsWay}
use Rattle.tv_choice.specs.Targets.{front, term_by, term_of, one_term, terms_given, draw_choices, targets_into, targets_by, targets_from, AreMadeInto, IsFirstWidePut, with_later, IsWideInto, IsFirstWideInto, into_this, into_later, IsFirstWideFrom, by_this, by_later}
use Rattle.tv_choice.proofs.WayLemmas.{drop_more, is_way, in_way}
use Rattle.tv_cases.proofs.LeavingLemmas.{none_left, first_left as get_drop}
use Rattle.tv_cases.proofs.OptionLemmas.{some_same}

-- ---- one term
pub plus_one : (c : ℤ) (rest : Linear) → c ≡ pos 1 → term_by c rest ≡ Some (opposite rest)
plus_one c rest e = ap (λ z. term_by z rest) e

pub no_term : (c : ℤ) (rest : Linear) → (c ≡ pos 1 → ⊥) → (c ≡ negsuc 0 → ⊥) → term_by c rest ≡ None
no_term (pos zero) rest p q = refl
no_term (pos (suc zero)) rest p q = absurd (p refl)
no_term (pos (suc (suc k))) rest p q = refl
no_term (negsuc zero) rest p q = absurd (q refl)
no_term (negsuc (suc k)) rest p q = refl

-- one more row
pub given_more : (n : ℕ) (rows : List Linear) (i : ℕ) (r : Linear) (old new all : List (List Linear)) → i < length rows → r ≡ get_or rows i r → new ≡ old ++ one_term (term_of n r) → all ≡ old ++ terms_given n (drop i rows) → all ≡ new ++ terms_given n (drop (i + 1) rows)
given_more n rows i r old new all l e en h =
    h
    ∙ ap (λ rs. old ++ terms_given n rs) (drop_more rows i r l e)
    ∙ sym (append_assoc old (one_term (term_of n r)) (terms_given n (drop (i + 1) rows)))
    ∙ ap (λ ls. ls ++ terms_given n (drop (i + 1) rows)) (sym en)

-- ---- what the terms are
even_term : (n : ℕ) (c : ℤ) (rest t : Linear) → columns rest ≡ n → term_by c rest ≡ Some t → columns t ≡ n
even_term n (pos zero) rest t e h = cc
even_term n (pos (suc zero)) rest t e h = ap columns (sym (some_same (opposite rest) t h)) ∙ length-map rest.coefficients neg_ℤ ∙ e
even_term n (pos (suc (suc k))) rest t e h = cc
even_term n (negsuc zero) rest t e h = ap columns (sym (some_same rest t h)) ∙ e
even_term n (negsuc (suc k)) rest t e h = cc

-- `count` terms over n columns
pub record AreTermsFor (n count : ℕ) (draws : List Linear) : Type 0 where
  pub many : length draws ≡ count
  pub even : All (λ r. columns r ≡ n) draws

one_even : (n : ℕ) (o : Option Linear) → ((t : Linear) → o ≡ Some t → columns t ≡ n) → All (AreTermsFor n 1) (one_term o)
one_even n None h = All-nil (AreTermsFor n 1)
one_even n (Some t) h = All-cons (AreTermsFor n 1) (t ∷ []) [] record { many = refl; even = All-cons (λ r. columns r ≡ n) t [] (h t refl) (All-nil (λ r. columns r ≡ n)) } (All-nil (AreTermsFor n 1))

given_even : (n : ℕ) (rows : List Linear) → All (λ r. columns r ≡ n + 1) rows → All (AreTermsFor n 1) (terms_given n rows)
given_even n [] h = All-nil (AreTermsFor n 1)
given_even n (r ∷ rows) h =
    All-append (AreTermsFor n 1) (one_term (term_of n r)) (terms_given n rows)
    (one_even n (term_of n r) (λ t. even_term n (get_or r.coefficients n (pos 0)) (front n r) t (length-front n 1 r.coefficients (All-head (λ r. columns r ≡ n + 1) r rows h))))
    (given_even n rows (All-tail (λ r. columns r ≡ n + 1) r rows h))

pub choices_even : (n d : ℕ) (rows : List Linear) → All (λ r. columns r ≡ n + d) rows → All (AreTermsFor n d) (draw_choices d n rows)
choices_even n zero rows h = All-cons (AreTermsFor n 0) [] [] record { many = refl; even = All-nil (λ r. columns r ≡ n) } (All-nil (AreTermsFor n 0))
choices_even n (suc zero) rows h = given_even n rows h
choices_even n (suc (suc k)) rows h = All-nil (AreTermsFor n (suc (suc k)))

pub no_choices : (n d : ℕ) (rows : List Linear) → 1 < d → draw_choices d n rows ≡ []
no_choices n zero rows l = absurd (omega (arith, l))
no_choices n (suc zero) rows l = absurd (omega (arith, l))
no_choices n (suc (suc k)) rows l = refl

-- ---- choices that are left
-- with those that are left the ways have all that the choices make, and each that is left is one of the choices
pub record AreLeft (n d : ℕ) (rows : List Linear) (old now rest : List (List Linear)) : Type 0 where
  pub all : old ++ map (λ draws. put_rows n draws rows) (draw_choices d n rows) ≡ now ++ map (λ draws. put_rows n draws rows) rest
  pub terms : All (AreTermsFor n d) rest
  pub among : All (Contains (draw_choices d n rows)) rest

pub left_first : (n d : ℕ) (rows : List Linear) (old rest : List (List Linear)) → All (λ r. columns r ≡ n + d) rows → rest ≡ draw_choices d n rows → AreLeft n d rows old old rest
left_first n d rows old rest h e = subst (AreLeft n d rows old old) (sym e) record { all = refl; terms = choices_even n d rows h; among = All-contains_itself (draw_choices d n rows) }

pub left_next : (n d : ℕ) (rows : List Linear) (old now new : List (List Linear)) (draws : List Linear) (rest : List (List Linear)) → new ≡ now ++ put_rows n draws rows ∷ [] → AreLeft n d rows old now (draws ∷ rest) → AreLeft n d rows old new rest
left_next n d rows old now new draws rest e h = record {
  all = h.all ∙ sym (append_assoc now (put_rows n draws rows ∷ []) (map (λ ds. put_rows n ds rows) rest)) ∙ ap (λ ls. ls ++ map (λ ds. put_rows n ds rows) rest) (sym e);
  terms = All-tail (AreTermsFor n d) draws rest h.terms;
  among = All-tail (Contains (draw_choices d n rows)) draws rest h.among;
}

pub left_none : (n d : ℕ) (rows : List Linear) (old now rest : List (List Linear)) → rest ≡ [] → AreLeft n d rows old now rest → now ≡ old ++ map (λ draws. put_rows n draws rows) (draw_choices d n rows)
left_none n d rows old now rest e h = sym (h.all ∙ ap (λ r. now ++ map (λ draws. put_rows n draws rows) r) e ∙ append-nil now)

-- ---- pieces and cases that are left
pub pieces_next : (n : ℕ) (c : LinearCase) (ps : List Piece) (i : ℕ) (p : Piece) (all now new : List (List Linear)) → slice_get ps i ≡ Some p → new ≡ now ++ targets_into n c (piece_rows p) → all ≡ now ++ targets_by n c (drop i ps) → all ≡ new ++ targets_by n c (drop (i + 1) ps)
pieces_next n c ps i p all now new g e h =
    h
    ∙ ap (λ qs. now ++ targets_by n c qs) (get_drop ps i p g)
    ∙ sym (append_assoc now (targets_into n c (piece_rows p)) (targets_by n c (drop (i + 1) ps)))
    ∙ ap (λ ls. ls ++ targets_by n c (drop (i + 1) ps)) (sym e)

pub pieces_done : (n : ℕ) (c : LinearCase) (ps : List Piece) (i : ℕ) (all now : List (List Linear)) → slice_get ps i ≡ None → all ≡ now ++ targets_by n c (drop i ps) → now ≡ all
pieces_done n c ps i all now g h = sym (h ∙ ap (λ qs. now ++ targets_by n c qs) (none_left ps i g) ∙ append-nil now)

views_drop : (cs : List Case) (i : ℕ) (c : Case) → i < length cs → c ≡ get_or cs i c → case_views (drop i cs) ≡ case_view c ∷ case_views (drop (i + 1) cs)
views_drop cs i c l e = ap case_views (drop_more cs i c l e)

pub cases_next : (n : ℕ) (ps : List Piece) (l : ℕ) (cs : List Case) (i : ℕ) (c : Case) (all now new : List (List Linear)) → i < length cs → c ≡ get_or cs i c → c.from ≡ l → new ≡ now ++ targets_by n (case_view c) (pieces_at ps c.to) → all ≡ now ++ targets_from n ps (leaving l (case_views (drop i cs))) → all ≡ new ++ targets_from n ps (leaving l (case_views (drop (i + 1) cs)))
cases_next n ps l cs i c all now new b e from en h =
    h
    ∙ ap (λ vs. now ++ targets_from n ps (leaving l vs)) (views_drop cs i c b e)
    ∙ ap (λ t. now ++ targets_from n ps (cond t (case_view c ∷ leaving l (case_views (drop (i + 1) cs))) (leaving l (case_views (drop (i + 1) cs))))) (eq-eqb c.from l from)
    ∙ sym (append_assoc now (targets_by n (case_view c) (pieces_at ps c.to)) (targets_from n ps (leaving l (case_views (drop (i + 1) cs)))))
    ∙ ap (λ ls. ls ++ targets_from n ps (leaving l (case_views (drop (i + 1) cs)))) (sym en)

pub cases_skip : (n : ℕ) (ps : List Piece) (l : ℕ) (cs : List Case) (i : ℕ) (c : Case) (all now : List (List Linear)) → i < length cs → c ≡ get_or cs i c → (c.from ≡ l → ⊥) → all ≡ now ++ targets_from n ps (leaving l (case_views (drop i cs))) → all ≡ now ++ targets_from n ps (leaving l (case_views (drop (i + 1) cs)))
cases_skip n ps l cs i c all now b e from h =
    h
    ∙ ap (λ vs. now ++ targets_from n ps (leaving l vs)) (views_drop cs i c b e)
    ∙ ap (λ t. now ++ targets_from n ps (cond t (case_view c ∷ leaving l (case_views (drop (i + 1) cs))) (leaving l (case_views (drop (i + 1) cs))))) (ne_eqb c.from l from)

pub cases_done : (n : ℕ) (ps : List Piece) (l : ℕ) (cs : List Case) (i : ℕ) (all now : List (List Linear)) → length cs ≤ i → all ≡ now ++ targets_from n ps (leaving l (case_views (drop i cs))) → now ≡ all
cases_done n ps l cs i all now b h = sym (h ∙ ap (λ vs. now ++ targets_from n ps (leaving l (case_views vs))) (drop_past cs i b) ∙ append-nil now)

-- ---- entries
pub entry_is : (q : Query) (e : Entry) → IsEntered q e → IsEntry q (case_view e.case.now) e.piece.now
entry_is q e h = record {
  among = contains_at q.system.cases e.taken (case_view e.case.now) h.taken;
  leaves = h.from;
  enters = contains_at (pieces_at q.pieces e.case.now.to) e.target e.piece.now h.target;
}

-- a way of the entry, with terms that its rows give
pub drawn_way : (n : ℕ) (q : Query) (e : Entry) (rows draws : List Linear) (w : Way) → IsEntered q e → All (λ r. columns r ≡ n) (piece_rows e.piece.now) → AreCaseRows n (case_view e.case.now) (piece_rows e.piece.now) rows → AreTermsFor n e.case.now.draws draws → Contains (draw_choices e.case.now.draws n rows) draws → IsWayOf n e.taken e.target rows draws w → IsWay n q [] w
drawn_way n q e rows draws w h owed r t among made =
    is_way n q [] (case_view e.case.now) e.piece.now e.taken e.target rows draws w h.taken h.from h.target h.case owed t.many t.even
    (by_rows draws (subst (λ rs. Contains (draw_choices e.case.now.draws n rs) draws) r.exact among)) r made

-- rows of an entry that are too wide
pub entry_wide : (n : ℕ) (q : Query) (above : List Linear) (e : Entry) → IsEntered q e → (column : ℕ) → IsWideBefore (case_view e.case.now) (piece_rows e.piece.now) column → IsWideHere n q above column
entry_wide n q above e h column w = entering (case_view e.case.now) e.piece.now (entry_is q e h) w

pub draw_wide : (n : ℕ) (q : Query) (above : List Linear) (e : Entry) (rows draws : List Linear) → IsEntered q e → AreCaseRows n (case_view e.case.now) (piece_rows e.piece.now) rows → AreDrawTerms n q above (case_view e.case.now) e.piece.now draws → (column : ℕ) → IsWidePut (put_terms n draws) rows column → IsWideHere n q above column
draw_wide n q above e rows draws h r t column w =
    drawing (case_view e.case.now) e.piece.now draws (in_way n q (case_view e.case.now) e.piece.now e.taken e.target rows h.taken h.from h.target r) t (subst (λ rs. IsWidePut (put_terms n draws) rs column) r.exact w)

-- ---- what is left fits, or the first of it that does not is the first of all
pub record IsFirstLeft (n : ℕ) (rows : List Linear) (all rest : List (List Linear)) : Type 0 where
  pub wide : (column : ℕ) → IsFirstWidePut n rows column rest → IsFirstWidePut n rows column all
  pub fits : All (λ draws. ArePut (put_terms n draws) rows) rest → All (λ draws. ArePut (put_terms n draws) rows) all

pub first_left : (n : ℕ) (rows : List Linear) (all rest : List (List Linear)) → rest ≡ all → IsFirstLeft n rows all rest
first_left n rows all rest e = subst (IsFirstLeft n rows all) (sym e) record { wide = λ column h. h; fits = λ h. h }

pub next_left : (n : ℕ) (rows : List Linear) (all : List (List Linear)) (draws : List Linear) (rest : List (List Linear)) → ArePut (put_terms n draws) rows → IsFirstLeft n rows all (draws ∷ rest) → IsFirstLeft n rows all rest
next_left n rows all draws rest put h = record {
  wide = λ column w. h.wide column (with_later draws rest put w);
  fits = λ k. h.fits (All-cons (λ ds. ArePut (put_terms n ds) rows) draws rest put k);
}

pub record ArePiecesLeft (n : ℕ) (c : LinearCase) (all rest : List Piece) : Type 0 where
  pub wide : (column : ℕ) → IsFirstWideInto n c column rest → IsFirstWideInto n c column all
  pub fits : All (AreMadeInto n c) rest → All (AreMadeInto n c) all

pub piece_left : (n : ℕ) (c : LinearCase) (ps : List Piece) (i : ℕ) (p : Piece) → slice_get ps i ≡ Some p → AreMadeInto n c p → ArePiecesLeft n c ps (drop i ps) → ArePiecesLeft n c ps (drop (i + 1) ps)
piece_left n c ps i p g made h =
    let k = subst (ArePiecesLeft n c ps) (get_drop ps i p g) h in
    record {
      wide = λ column w. k.wide column (into_later p (drop (i + 1) ps) made w);
      fits = λ f. k.fits (All-cons (AreMadeInto n c) p (drop (i + 1) ps) made f);
    }

pub piece_wide : (n : ℕ) (c : LinearCase) (ps : List Piece) (i : ℕ) (p : Piece) → slice_get ps i ≡ Some p → ArePiecesLeft n c ps (drop i ps) → (column : ℕ) → IsWideInto n c p column → IsFirstWideInto n c column ps
piece_wide n c ps i p g h column w = (subst (ArePiecesLeft n c ps) (get_drop ps i p g) h).wide column (into_this p (drop (i + 1) ps) w)

pub pieces_fit : (n : ℕ) (c : LinearCase) (ps : List Piece) (i : ℕ) → slice_get ps i ≡ None → ArePiecesLeft n c ps (drop i ps) → All (AreMadeInto n c) ps
pieces_fit n c ps i g h = h.fits (subst (All (AreMadeInto n c)) (sym (none_left ps i g)) (All-nil (AreMadeInto n c)))

pub record AreCasesLeft (n : ℕ) (ps : List Piece) (all rest : List LinearCase) : Type 0 where
  pub wide : (column : ℕ) → IsFirstWideFrom n ps column rest → IsFirstWideFrom n ps column all

leaving_here : (l : ℕ) (cs : List Case) (i : ℕ) (c : Case) → i < length cs → c ≡ get_or cs i c → c.from ≡ l → leaving l (case_views (drop i cs)) ≡ case_view c ∷ leaving l (case_views (drop (i + 1) cs))
leaving_here l cs i c b e from = ap (leaving l) (views_drop cs i c b e) ∙ ap (λ t. cond t (case_view c ∷ leaving l (case_views (drop (i + 1) cs))) (leaving l (case_views (drop (i + 1) cs)))) (eq-eqb c.from l from)

leaving_not : (l : ℕ) (cs : List Case) (i : ℕ) (c : Case) → i < length cs → c ≡ get_or cs i c → (c.from ≡ l → ⊥) → leaving l (case_views (drop i cs)) ≡ leaving l (case_views (drop (i + 1) cs))
leaving_not l cs i c b e from = ap (leaving l) (views_drop cs i c b e) ∙ ap (λ t. cond t (case_view c ∷ leaving l (case_views (drop (i + 1) cs))) (leaving l (case_views (drop (i + 1) cs)))) (ne_eqb c.from l from)

pub case_left : (n : ℕ) (ps : List Piece) (l : ℕ) (cs : List Case) (i : ℕ) (c : Case) (all : List LinearCase) → i < length cs → c ≡ get_or cs i c → c.from ≡ l → All (AreMadeInto n (case_view c)) (pieces_at ps c.to) → AreCasesLeft n ps all (leaving l (case_views (drop i cs))) → AreCasesLeft n ps all (leaving l (case_views (drop (i + 1) cs)))
case_left n ps l cs i c all b e from fit h =
    let k = subst (AreCasesLeft n ps all) (leaving_here l cs i c b e from) h in
    record { wide = λ column w. k.wide column (by_later (case_view c) (leaving l (case_views (drop (i + 1) cs))) fit w) }

pub case_skipped : (n : ℕ) (ps : List Piece) (l : ℕ) (cs : List Case) (i : ℕ) (c : Case) (all : List LinearCase) → i < length cs → c ≡ get_or cs i c → (c.from ≡ l → ⊥) → AreCasesLeft n ps all (leaving l (case_views (drop i cs))) → AreCasesLeft n ps all (leaving l (case_views (drop (i + 1) cs)))
case_skipped n ps l cs i c all b e from h = subst (AreCasesLeft n ps all) (leaving_not l cs i c b e from) h

pub case_wide : (n : ℕ) (ps : List Piece) (l : ℕ) (cs : List Case) (i : ℕ) (c : Case) (all : List LinearCase) → i < length cs → c ≡ get_or cs i c → c.from ≡ l → AreCasesLeft n ps all (leaving l (case_views (drop i cs))) → (column : ℕ) → IsFirstWideInto n (case_view c) column (pieces_at ps c.to) → IsFirstWideFrom n ps column all
case_wide n ps l cs i c all b e from h column w = (subst (AreCasesLeft n ps all) (leaving_here l cs i c b e from) h).wide column (by_this (case_view c) (leaving l (case_views (drop (i + 1) cs))) w)

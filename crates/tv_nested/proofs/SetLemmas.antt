-- What shows the cases of a set over which terms are nested.
use Rattle.std.proofs.Common.{◌≡◌, ℕ, zero, suc, ◌+◌, ◌-◌, ◌^◌, ◌<◌, ◌≤◌, List, [], ◌∷◌, ◌++◌, length, length-append, map, take, get_or, All, Vec, inl, inr, arith, refl, sym, ap, ◌∙◌, subst, append_assoc, ℤ, pos, unsigned_abs}
use Rattle.std.specs.Global.{Global}
use Rattle.std.proofs.lemmas.Int.{ints}
use Rattle.std.proofs.lemmas.Bool.{cases_lt}
use Rattle.std.proofs.lemmas.List.{length-map, get_or_past}
use Rattle.std.proofs.lemmas.List.Elements.{All-nil, All-cons, All-head, All-tail, All-append, All-get_or, All-take}
use Rattle.tv_linear.specs.Linear.{Linear, IsWithin}
use Rattle.tv_linear.specs.Arithmetic.{zeros, constant_row}
use Rattle.tv_linear.specs.Known.{Known, given, denied, less, as_given}
use Rattle.tv_linear.specs.Falls.{fall_rows_at}
use Rattle.tv_linear.specs.Refutation.{Refutes}
use Rattle.tv_linear.specs.Covers.{ShownAt}
use Rattle.tv_linear.specs.Terms.{table, terms_after}
use Rattle.tv_linear.specs.declared.region.Piece.{Piece}
use Rattle.tv_linear.proofs.PlainLists.{zeros-narrow}
use Rattle.tv_cases.specs.LinearCases.{LinearCase, CaseSystem}
use Rattle.tv_rank.specs.Given.{lists}
use Rattle.tv_rank.specs.Rankings.{local_term, IsShownBy}
use Rattle.tv_rank.specs.declared.found.LocalTerm.{LocalTerm}
use Rattle.tv_rank.specs.Ways.{Way, way_of, way_at, case_at}
use Rattle.tv_lexrank.specs.Closing.{changed}
use Rattle.tv_lexrank.specs.Falling.{AreNarrowLines}
use Rattle.tv_lexrank.specs.Known.{AreBare, way_rows}
use Rattle.tv_lexrank.specs.More.{way_with}
use Rattle.tv_lexrank.specs.Rounds.{falls_in, lines_of, terms_at}
use Rattle.tv_lexrank.specs.Shown.{owed_fall}
use Rattle.tv_lexrank.specs.declared.falling.Fall.{Fall}
use Rattle.tv_lexrank.specs.declared.shown.CaseShown.TheVariants.{Untaken, Falls}
use Rattle.tv_lexrank.proofs.Chained.{shown_more}
use Rattle.tv_lexrank.proofs.ZeroLines.{change_shown}
use Rattle.tv_nested.specs.Families.{IsNestedFamily, line_at}
use Rattle.tv_nested.specs.Lines.{own_line, under_line}
use Rattle.tv_nested.specs.Parts.{tuple_in, IsNestedPart, nested_ranks, ShowsFrom}
use Rattle.tv_nested.specs.Reading.{lines_of_cases}
use Rattle.tv_nested.specs.SetFalls.{HasLines, ends_under, family_line, set_lines, IsSetFall}
use Rattle.tv_nested.specs.Signs.{terms_there}
use Rattle.tv_nested.specs.declared.part.Part.{Part}
use Rattle.tv_nested.proofs.FrontLemmas.{under_none}
use Rattle.tv_nested.proofs.PrefixLemmas.{IsKept, all_kept, prefix_shown, kept_narrow}
use Rattle.tv_nested.proofs.SignLemmas.{rows_by, rows_length}
use Rattle.tv_nested.proofs.SplitLemmas.{own_line_narrow}
use Rattle.tv_nested.proofs.WayLemmas.{IsFamilyAt, fall_placed, end_placed}

-- a nested family at one of its ways
pub family_at : (v locations many d : ℕ) (ways : ℕ → Way) (terms : List (List LocalTerm)) (scale : ℤ) (lines : List (List (List ℤ))) (k : ℕ) → IsNestedFamily v locations many d ways terms scale lines → k < many → IsFamilyAt v d terms scale (line_at lines k) (ways k)
family_at v locations many d ways terms scale lines k h l = record {
  as_many = h.as_many;
  positive = h.positive;
  falls = h.falls k l;
  bounded = h.bounded k l;
  narrow = λ i i_in. line_narrow i;
  few = h.room.few k l;
  rows = h.room.rows k l;
  kept = h.room.kept k l;
  told = h.room.told k l;
  moved = h.room.moved k l;
  ones = h.room.ones k l;
}
  where
    all_lines : All (All (IsWithin 62)) (get_or lines k [])
    all_lines = All-get_or (All (All (IsWithin 62))) lines k [] (let c = h.counted in omega (arith, c, l)) h.narrow

    line_narrow : (i : ℕ) → All (IsWithin 62) (line_at lines k i)
    line_narrow i = elim (cases_lt i (length (get_or lines k []))) [
      | inl b ↦ All-get_or (All (IsWithin 62)) (get_or lines k []) i [] b all_lines
      | inr b ↦ subst (All (IsWithin 62)) (sym (get_or_past (get_or lines k []) i [] b)) (All-nil (IsWithin 62))
    ]

-- there are multipliers for each identity
pub has_lines : (v d : ℕ) (c : LinearCase) (terms : List (List LocalTerm)) (scale : ℤ) (ls : List (List ℤ)) → IsFamilyAt v d terms scale (λ i. get_or ls i []) (way_with c []) → (i : ℕ) → i ≤ d → i < length ls
has_lines v d c terms scale ls h i l = elim (cases_lt i (length ls)) [
  | inl b ↦ b
  | inr b ↦ absurd (let e = ap length (sym (get_or_past ls i [] b) ∙ (h.ones i l).1) in let f = length-append (h.ones i l).0 (pos 1 ∷ []) in omega (arith, e, f))
]

-- ---- narrow lines
one_narrow : IsWithin 62 (pos 1)
one_narrow = (let q : unsigned_abs (pos 1) < 2 ^ 62 = omega arith in q)

under_narrow : (many i : ℕ) (line : List ℤ) → All (IsWithin 62) line → All (IsWithin 62) (under_line many i line)
under_narrow many zero line h = All-append (IsWithin 62) (zeros many) line (zeros-narrow many) h
under_narrow many (suc i) line h =
    All-append (IsWithin 62) (zeros i) (pos 1 ∷ (zeros (many - i - 1) ++ line)) (zeros-narrow i)
    (All-cons (IsWithin 62) (pos 1) (zeros (many - i - 1) ++ line) one_narrow (All-append (IsWithin 62) (zeros (many - i - 1)) line (zeros-narrow (many - i - 1)) h))

all_under : (many : ℕ) (lines : List (List ℤ)) → AreNarrowLines lines → AreNarrowLines (map (under_line many 0) lines)
all_under many [] h = All-nil (All (IsWithin 62))
all_under many (l ∷ lines) h = All-cons (All (IsWithin 62)) (under_line many 0 l) (map (under_line many 0) lines) (under_narrow many 0 l (All-head (All (IsWithin 62)) l lines h)) (all_under many lines (All-tail (All (IsWithin 62)) l lines h))

table_narrow : (n : ℕ) (f : ℕ → List ℤ) → ((i : ℕ) → i < n → All (IsWithin 62) (f i)) → AreNarrowLines (table n f)
table_narrow zero f h = All-nil (All (IsWithin 62))
table_narrow (suc n) f h = All-cons (All (IsWithin 62)) (f 0) (table n (λ i. f (suc i))) (h 0 (omega arith)) (table_narrow n (λ i. f (suc i)) (λ i l. h (suc i) (omega (arith, l))))

module _ (about : CaseSystem) (known : List Piece) (numbers : List ℕ) (component : ℕ) (part : Part) (bare : AreBare known) (h : IsNestedPart about known numbers component part) (place : ℕ) (place_in : place < length part.left.items) (small : component < 2 ^ 32) where
  abbrev v : ℕ
  v = about.variables

  abbrev d : ℕ
  d = length part.family.terms.items

  abbrev k : ℕ
  k = get_or part.left.items place 0

  abbrev c : LinearCase
  c = case_at about.cases k

  abbrev terms : List (List LocalTerm)
  terms = tuple_in part

  abbrev line : ℕ → List ℤ
  line i = family_line part.family place i

  no_rows : way_of about.cases known k ≡ way_with c []
  no_rows = ap (λ rows. way_with c rows) (bare c.from)

  pub at_case : IsFamilyAt v d terms part.family.scale line (way_with c [])
  at_case = subst (IsFamilyAt v d terms part.family.scale line) no_rows
      (family_at v about.locations (length part.left.items) d (way_at about.cases known part.left.items) terms part.family.scale (lines_of_cases part.family.lines.items) place h.family place_in)

  some : 0 < d
  some = (let p = h.deep (omega (arith, place_in)) in omega (arith, p))

  old_many : length (terms_there v terms c.from) ≡ d
  old_many = (let a = length-map terms (λ t. local_term v t c.from) in let b = length-map part.family.terms.items (λ x. x.items) in omega (arith, a, b))

  pub lines_there : (i : ℕ) → i ≤ d → HasLines part.family place i
  lines_there i l = record {
    place_in = (let a = h.family.counted in let b = length-map part.family.lines.items (λ x. lists x.items) in omega (arith, a, b, place_in));
    index_in = has_lines v d c terms part.family.scale (get_or (lines_of_cases part.family.lines.items) place []) at_case i l;
  }

  kept : All (IsKept about known k) part.rounds.items
  kept = all_kept about known k part.sorted.set.items part.rounds.items part.left.items h.lead h.sorted.ascends place place_in refl

  module _ (piece : ℕ) (piece_in : piece < d) where
    abbrev rows : List Linear
    rows = rows_by (terms_there v terms c.from) piece

    abbrev w : Way
    w = way_with c rows

    many : piece + 1 ≡ length rows
    many = sym (rows_length (terms_there v terms c.from) piece (let e = old_many in omega (arith, e, piece_in)))

    spread : (row : Known) (ms : List ℤ) → IsShownBy v (way_of about.cases known k) row ms → Refutes (v + c.draws) (way_rows w ++ denied row ∷ []) (under_line (piece + 1) 0 ms)
    spread row ms s =
        subst (λ ks. Refutes (v + c.draws) ks (under_line (piece + 1) 0 ms)) (sym (append_assoc (as_given rows) (as_given c.guards) (denied row ∷ [])))
        (subst (λ m. Refutes (v + c.draws) (as_given rows ++ (as_given c.guards ++ denied row ∷ [])) (under_line m 0 ms)) (sym many)
        (under_none (v + c.draws) rows (as_given c.guards ++ denied row ∷ []) ms (subst (λ y. IsShownBy v y row ms) no_rows s)))

    abbrev zero_head : List ℤ
    zero_head = zeros (length c.guards) ++ pos 1 ∷ []

    head : Refutes (v + c.draws) (way_rows w ++ denied (less (changed v w (constant_row v (pos component))) (given (constant_row v (pos component))) (pos 0)) ∷ []) (under_line (piece + 1) 0 (zeros (length c.guards) ++ pos 1 ∷ []))
    head = spread (less (changed v w (constant_row v (pos component))) (given (constant_row v (pos component))) (pos 0)) (zeros (length c.guards) ++ pos 1 ∷ [])
        (subst (λ y. IsShownBy v y (less (changed v w (constant_row v (pos component))) (given (constant_row v (pos component))) (pos 0)) (zeros (length c.guards) ++ pos 1 ∷ [])) (sym no_rows)
        (change_shown v (way_with c []) (terms_after v c.updates) (pos component) (pos component) (pos 0) (omega (arith, ints)) (omega (arith, small)) (omega (arith, small)) (omega arith)))

    shown_lines : ShownAt (v + c.draws) (way_rows w) (owed_fall v w (nested_ranks v component part c.from) (nested_ranks v component part c.to) (suc (suc (falls_in k part.rounds.items + piece)))) (set_lines part place piece k (length c.guards))
    shown_lines =
        shown_more (v + c.draws) (way_rows w) (less (changed v w (constant_row v (pos component))) (given (constant_row v (pos component))) (pos 0))
        (fall_rows_at (as_given (terms_at v part.rounds.items c.from ++ terms_there v terms c.from)) (map (changed v w) (terms_at v part.rounds.items c.to ++ terms_there v terms c.to)) (falls_in k part.rounds.items + piece))
        (under_line (piece + 1) 0 (zeros (length c.guards) ++ pos 1 ∷ []))
        (map (under_line (piece + 1) 0) (lines_of k part.rounds.items) ++ (table (suc piece) (λ i. under_line (piece + 1) i (line i)) ++ own_line (piece + 1 + length c.guards) piece ∷ []))
        (head, tt)
        (prefix_shown about known k (v + c.draws) (way_rows w) (piece + 1) spread part.rounds.items kept (terms_there v terms c.from) (terms_there v terms c.to) piece (falls_in k part.rounds.items + piece)
        (table (suc piece) (λ i. under_line (piece + 1) i (line i)) ++ own_line (piece + 1 + length c.guards) piece ∷ []) refl
        (fall_placed v d c terms part.family.scale line at_case piece (piece + 1) piece_in many))

    lines_narrow : AreNarrowLines (set_lines part place piece k (length c.guards))
    lines_narrow =
        All-append (All (IsWithin 62)) (map (under_line (piece + 1) 0) ((zeros (length c.guards) ++ pos 1 ∷ []) ∷ lines_of k part.rounds.items))
        (table (suc piece) (λ i. under_line (piece + 1) i (line i)) ++ own_line (piece + 1 + length c.guards) piece ∷ [])
        (all_under (piece + 1) ((zeros (length c.guards) ++ pos 1 ∷ []) ∷ lines_of k part.rounds.items)
        (All-cons (All (IsWithin 62)) (zeros (length c.guards) ++ pos 1 ∷ []) (lines_of k part.rounds.items)
        (All-append (IsWithin 62) (zeros (length c.guards)) (pos 1 ∷ []) (zeros-narrow (length c.guards)) (All-cons (IsWithin 62) (pos 1) [] one_narrow (All-nil (IsWithin 62))))
        (kept_narrow about known k part.rounds.items kept)))
        (All-append (All (IsWithin 62)) (table (suc piece) (λ i. under_line (piece + 1) i (line i))) (own_line (piece + 1 + length c.guards) piece ∷ [])
        (table_narrow (suc piece) (λ i. under_line (piece + 1) i (line i)) (λ i l. under_narrow (piece + 1) i (line i) (at_case.narrow i (omega (arith, l, piece_in)))))
        (All-cons (All (IsWithin 62)) (own_line (piece + 1 + length c.guards) piece) [] (own_line_narrow (piece + 1 + length c.guards) piece) (All-nil (All (IsWithin 62)))))

    pub falls_from : (met : ℕ) (fall : Fall) → met ≡ length c.guards → IsSetFall part place piece k met fall → ShowsFrom about component part k piece (Falls fall)
    falls_from met fall e f =
        let number : suc (suc (falls_in k part.rounds.items + piece)) ≡ fall.number = (let q = f.0 in omega (arith, q)) in
        let lines = f.1 ∙ ap (set_lines part place piece k) e in
        record {
          shown = subst (λ j. ShownAt (v + c.draws) (way_rows w) (owed_fall v w (nested_ranks v component part c.from) (nested_ranks v component part c.to) j) (lists fall.lines.items)) number
              (subst (ShownAt (v + c.draws) (way_rows w) (owed_fall v w (nested_ranks v component part c.from) (nested_ranks v component part c.to) (suc (suc (falls_in k part.rounds.items + piece))))) (sym lines) shown_lines);
          narrow = subst AreNarrowLines (sym lines) lines_narrow;
        }

  pub untaken_from : (ms : Vec ℤ Global) → ms.items ≡ ends_under d (line d) → ShowsFrom about component part k d (Untaken ms)
  untaken_from ms e = record {
    refutes = subst (Refutes (v + c.draws) (way_rows (way_with c (rows_by (terms_there v terms c.from) d)))) (sym e) (end_placed v d c terms part.family.scale line at_case some);
    narrow = subst (All (IsWithin 62)) (sym e) (under_narrow d d (take (length (line d) - 1) (line d)) (All-take (IsWithin 62) (length (line d) - 1) (line d) (at_case.narrow d (omega arith))));
  }

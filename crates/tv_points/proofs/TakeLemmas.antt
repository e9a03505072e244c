-- a step whose rows are shown is a choice
use Rattle.std.proofs.Common.{◌≡◌, List, [], ◌∷◌, ◌++◌, length, length-append, All, map, arith, refl, sym, ap, subst, ◌∙◌, ℕ, zero, suc, ◌+◌, ◌≤◌, ℤ, pos, Option, Some, slice_get, Bool, true, false, ◌&&◌, if◌then◌else◌}
use Rattle.std.specs.Global.{Vec}
use Rattle.std.specs.Option.{option_map}
use Rattle.std.proofs.lemmas.List.{length-map}
use Rattle.std.proofs.lemmas.List.Elements.{All-nil, All-cons, All-head, All-tail}
use Rattle.tv_linear.specs.Linear.{Linear, IsWithin, columns}
use Rattle.tv_linear.specs.Arithmetic.{zeros, constant_row}
use Rattle.tv_linear.specs.Known.{Known, given, composed, as_given}
use Rattle.tv_linear.specs.Terms.{draw_terms}
use Rattle.tv_linear.specs.Covers.{Shown, ShownAt}
use Rattle.tv_linear.specs.Falls.{fall_rows}
use Rattle.tv_linear.proofs.PlainLists.{length-zeros}
use Rattle.tv_linear.proofs.SameLemmas.{shown_shape}
use Rattle.tv_cases.specs.LinearCases.{LinearCase, CaseSystem}
use Rattle.tv_cert.specs.declared.node.Marked.{Marked}
use Rattle.tv_cert.specs.Pieces.{place_of, rows_of, ranks_of, goes, pieces_at}
use Rattle.tv_cert.specs.Targets.{target_rows, no_fall}
use Rattle.tv_cert.specs.OwesViews.{falls_where}
use Rattle.tv_cert.specs.Choices.{drawn_guards, drawn_change, TakeMet}
use Rattle.tv_cert.specs.Shapes.{ListsShape, TakeShape}
use Rattle.tv_shape.specs.Narrow.{AreNarrow, ListsNarrow, RowNarrow}
use Rattle.tv_points.specs.PointRows.{point_rows, point_multipliers, number_rows}
use Rattle.tv_points.specs.Lines.{IsShown, line, lines_at, multiplier_lists}
use Rattle.tv_points.specs.Taking.{fall_list, fall_owed, fall_number, entered_rows, taken_rows, choice_owes}

shown_all : (xs : List ℤ) (rows : List Known) → All IsShown (lines_at xs rows) → Shown (length xs) (as_given (point_rows xs)) rows (multiplier_lists xs rows)
shown_all xs [] h = tt
shown_all xs (r ∷ rows) h = ((All-head IsShown (line xs r) (lines_at xs rows) h).refutes, shown_all xs rows (All-tail IsShown (line xs r) (lines_at xs rows) h))

lists_narrow : (xs : List ℤ) (rows : List Known) → All IsShown (lines_at xs rows) → All AreNarrow (multiplier_lists xs rows)
lists_narrow xs [] h = All-nil AreNarrow
lists_narrow xs (r ∷ rows) h =
    All-cons AreNarrow (point_multipliers r xs) (multiplier_lists xs rows) (All-head IsShown (line xs r) (lines_at xs rows) h).narrow
    (lists_narrow xs rows (All-tail IsShown (line xs r) (lines_at xs rows) h))

held_lists : (ls : List (Vec ℤ)) → All AreNarrow (map (λ l. l.items) ls) → ListsNarrow ls
held_lists [] h = All-nil (λ l. AreNarrow l.items)
held_lists (l ∷ ls) h = All-cons (λ l. AreNarrow l.items) l ls (All-head AreNarrow l.items (map (λ l. l.items) ls) h) (held_lists ls (All-tail AreNarrow l.items (map (λ l. l.items) ls) h))

pub lists_are_narrow : (xs : List ℤ) (rows : List Known) (ls : List (Vec ℤ)) → All IsShown (lines_at xs rows) → map (λ l. l.items) ls ≡ multiplier_lists xs rows → ListsNarrow ls
lists_are_narrow xs rows ls h e = held_lists ls (subst (All AreNarrow) (sym e) (lists_narrow xs rows h))

-- ---- the rows of the draws
zeros_narrow : (n : ℕ) → AreNarrow (zeros n)
zeros_narrow zero = All-nil (IsWithin 62)
zeros_narrow (suc n) = All-cons (IsWithin 62) (pos 0) (zeros n) (omega arith) (zeros_narrow n)

pub numbers_narrow : (n : ℕ) (ds : List ℤ) → All (IsWithin 62) ds → All RowNarrow (number_rows n ds)
numbers_narrow n [] h = All-nil RowNarrow
numbers_narrow n (d ∷ ds) h = All-cons RowNarrow (constant_row n d) (number_rows n ds) (record { coefficients = zeros_narrow n; constant = All-head (IsWithin 62) d ds h }) (numbers_narrow n ds (All-tail (IsWithin 62) d ds h))

pub numbers_wide : (n : ℕ) (ds : List ℤ) → All (λ r. columns r ≡ n) (number_rows n ds)
numbers_wide n [] = All-nil (λ r. columns r ≡ n)
numbers_wide n (d ∷ ds) = All-cons (λ r. columns r ≡ n) (constant_row n d) (number_rows n ds) (length-zeros n) (numbers_wide n ds)

-- ---- the fall
-- where a fall is owed, both pieces have a rank
abbrev pub HaveRanks : Bool → Marked → Marked → Type 0
HaveRanks true p q = (1 ≤ length (ranks_of p)) × (1 ≤ length (ranks_of q))
HaveRanks false p q = Unit {0}

ranks_fall : (change : Linear → Known) (fs gs : List Linear) → 1 ≤ length fs → 1 ≤ length gs → fall_rows (as_given fs) (map change gs) 1 ≡ Some (fall_list change fs gs)
ranks_fall change [] gs h k = absurd (omega (arith, h))
ranks_fall change (f ∷ fs) [] h k = absurd (omega (arith, k))
ranks_fall change (f ∷ fs) (g ∷ gs) h k = refl

fall_is : (change : Linear → Known) (p q : Marked) (g : Bool) → HaveRanks g p q → (if g then fall_rows (as_given (ranks_of p)) (map change (ranks_of q)) (fall_number g) else no_fall q (fall_number g)) ≡ Some (fall_owed g change p q)
fall_is change p q true h = ranks_fall change (ranks_of p) (ranks_of q) h.0 h.1
fall_is change p q false h = refl

where_is : (change : Linear → Known) (p q : Marked) (falls : Bool) → HaveRanks (falls && goes q) p q → falls_where falls change p q (fall_number (falls && goes q)) ≡ Some (fall_owed (falls && goes q) change p q)
where_is change p q true h = fall_is change p q (goes q) h
where_is change p q false h = refl

module _ (about : CaseSystem) (ps : List Marked) (falls : Bool) (p q : Marked) (c : LinearCase) (ds : List ℤ) (target : ℕ) where
  abbrev n : ℕ
  n = about.variables

  abbrev draws : List Linear
  draws = number_rows n ds

  abbrev rows : List Known
  rows = taken_rows n c draws falls p q

  owed_is : slice_get (pieces_at ps c.to) target ≡ Some q → HaveRanks (falls && goes q) p q → choice_owes n ps falls p c draws target (fall_number (falls && goes q)) ≡ Some (entered_rows falls (drawn_change n c draws) p q)
  owed_is found ranks =
      ap (λ o. target_rows (drawn_change n c draws) (falls_where falls (drawn_change n c draws) p) o (fall_number (falls && goes q))) found
      ∙ ap (option_map (λ fs. map (drawn_change n c draws) (rows_of q) ++ fs)) (where_is (drawn_change n c draws) p q falls ranks)

  abbrev owed : ℕ → ℕ → Option (List Known)
  owed = choice_owes n ps falls p c draws

  pub take_met : (xs : List ℤ) (k j : ℕ) (lists : List (List ℤ)) → length xs ≡ n → rows_of p ≡ point_rows xs → slice_get about.cases k ≡ Some c → c.from ≡ place_of p → length ds ≡ c.draws → slice_get (pieces_at ps c.to) target ≡ Some q → HaveRanks (falls && goes q) p q → j ≡ fall_number (falls && goes q) → All IsShown (lines_at xs rows) → lists ≡ multiplier_lists xs rows → TakeMet n (place_of p) (choice_owes n ps falls p) (as_given (rows_of p)) (slice_get about.cases k) target j draws lists
  take_met xs k j lists many fixed taken leaves drawn found ranks number shown meant =
      let at : Shown n (as_given (rows_of p)) rows lists =
      subst (λ m. Shown m (as_given (rows_of p)) rows lists) many
      (subst (λ rs. Shown (length xs) (as_given rs) rows lists) (sym fixed)
      (subst (λ ls. Shown (length xs) (as_given (point_rows xs)) rows ls) (sym meant) (shown_all xs rows shown))) in
      let all : option_map (λ rs. drawn_guards n c draws ++ rs) (owed target (fall_number (falls && goes q))) ≡ Some rows = ap (option_map (λ rs. drawn_guards n c draws ++ rs)) (owed_is found ranks) in
      subst (λ o. TakeMet n (place_of p) (choice_owes n ps falls p) (as_given (rows_of p)) o target j draws lists) (sym taken)
      (leaves, length-map ds (λ d. constant_row n d) ∙ drawn, subst (λ i. ShownAt n (as_given (rows_of p)) (option_map (λ rs. drawn_guards n c draws ++ rs) (owed target i)) lists) (sym number) (subst (λ o. ShownAt n (as_given (rows_of p)) o lists) (sym all) at))

  pub take_shape : (xs : List ℤ) (k j : ℕ) (lists : List (List ℤ)) → length xs ≡ n → rows_of p ≡ point_rows xs → slice_get about.cases k ≡ Some c → c.from ≡ place_of p → length ds ≡ c.draws → slice_get (pieces_at ps c.to) target ≡ Some q → HaveRanks (falls && goes q) p q → j ≡ fall_number (falls && goes q) → All IsShown (lines_at xs rows) → lists ≡ multiplier_lists xs rows → TakeShape n (place_of p) (choice_owes n ps falls p) (length (as_given (rows_of p))) (slice_get about.cases k) target j draws lists
  take_shape xs k j lists many fixed taken leaves drawn found ranks number shown meant =
      let entered = entered_rows falls (drawn_change n c draws) p q in
      let s = shown_shape (length xs) (as_given (point_rows xs)) rows (multiplier_lists xs rows) (shown_all xs rows shown) in
      let joined = length-append (drawn_guards n c draws) entered in
      let guards = length-map c.guards (λ r. composed (given r) (draw_terms n draws)) in
      let count : length (multiplier_lists xs rows) ≡ length c.guards + length entered = (let a = s.0 in omega (arith, a, joined, guards)) in
      let here : ListsShape (length (as_given (rows_of p)) + 1) (Some (length c.guards + length entered)) lists =
      subst (λ rs. ListsShape (length (as_given rs) + 1) (Some (length c.guards + length entered)) lists) (sym fixed)
      (subst (λ ls. ListsShape (length (as_given (point_rows xs)) + 1) (Some (length c.guards + length entered)) ls) (sym meant) (count, s.1)) in
      subst (λ o. TakeShape n (place_of p) (choice_owes n ps falls p) (length (as_given (rows_of p))) o target j draws lists) (sym taken) (
        leaves,
        length-map ds (λ d. constant_row n d) ∙ drawn,
        numbers_wide n ds,
        subst (λ i. ListsShape (length (as_given (rows_of p)) + 1) (option_map (λ rs. length c.guards + length rs) (owed target i)) lists) (sym number)
            (subst (λ o. ListsShape (length (as_given (rows_of p)) + 1) (option_map (λ rs. length c.guards + length rs) o) lists) (sym (owed_is found ranks)) here),
      )

-- Choices into the pieces of a region as proofs of obligations.
use Rattle.std.proofs.Common.{◌≡◌, inl, inr, ℕ, zero, suc, ◌+◌, ◌≤◌, List, [], ◌∷◌, ◌++◌, map, length, length-append, All, Option, None, Some, Bool, true, false, cond, slice_get, ◌==◌, refl, sym, ap, ◌∙◌, subst, ℤ}
use Rattle.std.specs.Option.{option_map}
use Rattle.std.proofs.lemmas.List.{length-map}
use Rattle.tv_linear.specs.Linear.{Linear, columns}
use Rattle.tv_linear.specs.Known.{Known, given, denied, as_given}
use Rattle.tv_linear.specs.Covers.{ShownAt}
use Rattle.tv_linear.specs.ChoiceDepth.{choice_splits}
use Rattle.tv_linear.specs.declared.choice.ChoiceTree.{ChoiceTree, Split', Empty, NoStep, Take}
use Rattle.tv_linear.specs.declared.region.Piece.{Piece}
use Rattle.tv_linear.specs.Same.{OwedSame}
use Rattle.tv_linear.proofs.SameLemmas.{all_same, same_append, shown_same, shown_shape}
use Rattle.tv_linear.proofs.KnownLemmas.{length-given}
use Rattle.tv_farkas.proofs.SideLemmas.{given_sides}
use Rattle.tv_cases.specs.LinearCases.{LinearCase, CaseSystem}
use Rattle.tv_cert.specs.declared.node.Marked.{Marked}
use Rattle.tv_cert.specs.Choices.{IsMetChoice, TakeMet, drawn_change, drawn_guards}
use Rattle.tv_cert.specs.Claims.{about_with}
use Rattle.tv_cert.specs.Obligations.{choice_into}
use Rattle.tv_cert.specs.Pieces.{rows_of, pieces_at}
use Rattle.tv_cert.specs.Shapes.{ChoiceShape, TakeShape, ListsShape}
use Rattle.tv_cert.specs.Targets.{owed_into, target_rows, no_fall}
use Rattle.tv_region.specs.Regions.{lists_at}
use Rattle.tv_shape.specs.Narrow.{ChoiceNarrow}
use Rattle.tv_choice.specs.Choosing.{AreKnownAs}
use Rattle.tv_choice.specs.Leading.{piece_rows, region_owes, state, IsHole}
use Rattle.tv_choice.specs.Leading as leading
use Rattle.tv_pre.specs.Pieces.{AreMarked}
use Rattle.tv_pre.specs.Inclusions.{Chooses}
use Rattle.tv_pre.specs.Offers.{ShowsChoice}
use Rattle.tv_pre.specs.Questions.{query_of}
use Rattle.tv_pre.proofs.OfferLemmas.{lists_marked, got_mapped, nil_behind}

abbrev pub RowsOwed : Type 0
RowsOwed = LinearCase → List Linear → ℕ → ℕ → Option (List Known)

-- ---- where what is owed is told in another way
pub at_same : (n : ℕ) (ks : List Known) (a b : Option (List Known)) → OwedSame n a b → (lists : List (List ℤ)) → ShownAt n ks a lists → ShownAt n ks b lists
at_same n ks None b e lists h = absurd h
at_same n ks (Some xs) None e lists h = absurd e
at_same n ks (Some xs) (Some ys) e lists h = shown_same n ks ks (all_same n ks) xs ys e lists h

pub guards_before : (n : ℕ) (guards : List Known) (a b : Option (List Known)) → OwedSame n a b → OwedSame n (option_map (λ rows. guards ++ rows) a) (option_map (λ rows. guards ++ rows) b)
guards_before n guards None b e = tt
guards_before n guards (Some xs) None e = absurd e
guards_before n guards (Some xs) (Some ys) e = same_append n guards guards xs ys (all_same n guards) e

take_same : (n l : ℕ) (owed wanted : RowsOwed) → ((c : LinearCase) (ds : List Linear) (k j : ℕ) → OwedSame n (owed c ds k j) (wanted c ds k j)) → (ks : List Known) (found : Option LinearCase) (k j : ℕ) (draws : List Linear) (lists : List (List ℤ)) → TakeMet n l owed ks found k j draws lists → TakeMet n l wanted ks found k j draws lists
take_same n l owed wanted e ks None k j draws lists h = absurd h
take_same n l owed wanted e ks (Some c) k j draws lists h = (
  h.0,
  h.1,
  at_same n ks (option_map (λ rows. drawn_guards n c draws ++ rows) (owed c draws k j)) (option_map (λ rows. drawn_guards n c draws ++ rows) (wanted c draws k j)) (guards_before n (drawn_guards n c draws) (owed c draws k j) (wanted c draws k j) (e c draws k j)) lists h.2,
)

pub choice_same : (n : ℕ) (cases : List LinearCase) (l : ℕ) (stop : Bool) (owed wanted : RowsOwed) → ((c : LinearCase) (ds : List Linear) (k j : ℕ) → OwedSame n (owed c ds k j) (wanted c ds k j)) → (ks : List Known) (tree : ChoiceTree) → IsMetChoice n cases l stop owed ks tree → IsMetChoice n cases l stop wanted ks tree
choice_same n cases l stop owed wanted e ks (Split' r p a q b) h = (
  choice_same n cases l stop owed wanted e (ks ++ given r ∷ []) a h.0,
  choice_same n cases l stop owed wanted e (ks ++ denied (given r) ∷ []) b h.1,
)
choice_same n cases l stop owed wanted e ks (Empty ms) h = h
choice_same n cases l stop owed wanted e ks (NoStep covers) h = h
choice_same n cases l stop owed wanted e ks (Take k target j draws lists) h = take_same n l owed wanted e ks (slice_get cases k) target j draws.items (map (λ x. x.items) lists.items) h

-- ---- the shape of a choice that is met
-- what of the shape does not hang on what is owed: the columns of split rows and of terms for draws
abbrev pub DrawsEven : ℕ → Option LinearCase → List Linear → Type 0
DrawsEven n None draws = Unit {0}
DrawsEven n (Some c) draws = All (λ r. columns r ≡ n) draws

pub lists_shape : (n : ℕ) (known : List Known) (c : LinearCase) (draws : List Linear) (o : Option (List Known)) (lists : List (List ℤ)) → ShownAt n known (option_map (λ rows. drawn_guards n c draws ++ rows) o) lists → ListsShape (length known + 1) (option_map (λ rows. length c.guards + length rows) o) lists
lists_shape n known c draws None lists h = absurd h
lists_shape n known c draws (Some rows) lists h =
    let s = shown_shape n known (drawn_guards n c draws ++ rows) lists h in
    (s.0 ∙ length-append (drawn_guards n c draws) rows ∙ ap (λ m. m + length rows) (length-map c.guards _), s.1)

take_shape : (n l : ℕ) (owed wanted : RowsOwed) (known : List Known) (found : Option LinearCase) (k j i : ℕ) (draws : List Linear) (before lists : List (List ℤ)) → TakeShape n l owed (length known) found k i draws before → TakeMet n l wanted known found k j draws lists → TakeShape n l wanted (length known) found k j draws lists
take_shape n l owed wanted known None k j i draws before lists s m = absurd m
take_shape n l owed wanted known (Some c) k j i draws before lists s m = (m.0, m.1, s.2, lists_shape n known c draws (wanted c draws k j) lists m.2)

one_more : (known : List Known) (x : Known) → length (known ++ x ∷ []) ≡ length known + 1
one_more known x = length-append known (x ∷ [])

-- the shape is kept where the same choice is met by what is owed otherwise
pub choice_shape : (n : ℕ) (cases : List LinearCase) (l : ℕ) (stop : Bool) (owed wanted : RowsOwed) (known : List Known) (tree : ChoiceTree) → ChoiceShape n cases l stop owed (length known) tree → IsMetChoice n cases l stop wanted known tree → ChoiceShape n cases l stop wanted (length known) tree
choice_shape n cases l stop owed wanted known (Split' r p a q b) s m = (
  s.0,
  subst (λ k. ChoiceShape n cases l stop wanted k a) (one_more known (given r)) (choice_shape n cases l stop owed wanted (known ++ given r ∷ []) a (subst (λ k. ChoiceShape n cases l stop owed k a) (sym (one_more known (given r))) s.1) m.0),
  subst (λ k. ChoiceShape n cases l stop wanted k b) (one_more known (denied (given r))) (choice_shape n cases l stop owed wanted (known ++ denied (given r) ∷ []) b (subst (λ k. ChoiceShape n cases l stop owed k b) (sym (one_more known (denied (given r)))) s.2) m.1),
)
choice_shape n cases l stop owed wanted known (Empty ms) s m = s
choice_shape n cases l stop owed wanted known (NoStep covers) s m = s
choice_shape n cases l stop owed wanted known (Take k target j draws lists) s m = take_shape n l owed wanted known (slice_get cases k) target j j draws.items (map (λ x. x.items) lists.items) (map (λ x. x.items) lists.items) s m

-- ---- the pieces of a region and those of a node
cond_mapped : (b : Bool) (q : Piece) (qs : List Piece) (ls : List (List Linear)) → map piece_rows qs ≡ ls → map piece_rows (cond b (q ∷ qs) qs) ≡ cond b (piece_rows q ∷ ls) ls
cond_mapped true q qs ls h = ap (λ xs. piece_rows q ∷ xs) h
cond_mapped false q qs ls h = h

pub lists_filtered : (l : ℕ) (qs : List Piece) → map piece_rows (leading.pieces_at qs l) ≡ lists_at l qs
lists_filtered l [] = refl
lists_filtered l (q ∷ qs) = cond_mapped (q.location == l) q (leading.pieces_at qs l) (lists_at l qs) (lists_filtered l qs)

mapped_twice : {A : Type 0} (f : Linear → Known) (rows : A → List Linear) (o : Option A) → option_map (λ p. map f (rows p)) o ≡ option_map (map f) (option_map rows o)
mapped_twice f rows None = refl
mapped_twice f rows (Some p) = refl

mapped_owed : (n : ℕ) (f : Linear → Known) (found : Option Marked) → OwedSame n (option_map (map f) (option_map rows_of found)) (target_rows f no_fall found 0)
mapped_owed n f None = tt
mapped_owed n f (Some q) = nil_behind n (map f (rows_of q))

-- the rows of target k
target_lists : (n : ℕ) (qs : List Piece) (c : LinearCase) (draws : List Linear) (k : ℕ) → region_owes n qs c draws k 0 ≡ option_map (map (drawn_change n c draws)) (slice_get (lists_at c.to qs) k)
target_lists n qs c draws k =
    mapped_twice (drawn_change n c draws) piece_rows (slice_get (leading.pieces_at qs c.to) k)
    ∙ ap (option_map (map (drawn_change n c draws))) (sym (got_mapped piece_rows (leading.pieces_at qs c.to) k) ∙ ap (λ ls. slice_get ls k) (lists_filtered c.to qs))

pub choice_owed : (n : ℕ) (ps : List Marked) (qs : List Piece) → AreMarked ps qs → (c : LinearCase) (draws : List Linear) (k j : ℕ) → OwedSame n (region_owes n qs c draws k j) (owed_into ps c.to (drawn_change n c draws) no_fall k j)
choice_owed n ps qs h c draws k zero =
    subst (λ o. OwedSame n o (owed_into ps c.to (drawn_change n c draws) no_fall k 0))
    (sym (target_lists n qs c draws k ∙ ap (λ ls. option_map (map (drawn_change n c draws)) (slice_get ls k)) (sym (lists_marked c.to ps qs h)) ∙ ap (option_map (map (drawn_change n c draws))) (got_mapped rows_of (pieces_at ps c.to) k)))
    (mapped_owed n (drawn_change n c draws) (slice_get (pieces_at ps c.to) k))
choice_owed n ps qs h c draws k (suc j) = tt

-- ---- proofs
abbrev pub IsMetAnywhere : CaseSystem → Piece → Bool → List Piece → ChoiceTree → Type 0
IsMetAnywhere about q stop into tree = (known : List Known) → AreKnownAs (piece_rows q) known → IsMetChoice about.variables about.cases q.location stop (region_owes about.variables into) known tree

pub met_given : (about : CaseSystem) (q : Piece) (stop : Bool) (into : List Piece) (tree : ChoiceTree) → IsMetAnywhere about q stop into tree → IsMetChoice about.variables about.cases q.location stop (region_owes about.variables into) (as_given (piece_rows q)) tree
met_given about q stop into tree h = h (as_given (piece_rows q)) (λ w. given_sides w (piece_rows q))

pub shows_choice : (about : CaseSystem) (q : Piece) (stop : Bool) (into : List Piece) (tree : ChoiceTree) → IsMetAnywhere about q stop into tree → ChoiceShape about.variables about.cases q.location stop (region_owes about.variables into) (length (piece_rows q)) tree → ChoiceNarrow tree → choice_splits tree ≤ 128 → ShowsChoice about q stop into tree
shows_choice about q stop into tree met shape narrow shallow number k p ps m ms = record {
  shape = (subst (λ l. ChoiceShape n about.cases l stop wanted (length (as_given (rows_of p))) tree) (sym m.0) (subst (λ rs. ChoiceShape n about.cases q.location stop wanted (length (as_given rs)) tree) (sym m.1) own_shape), shallow);
  met = subst (λ l. IsMetChoice n about.cases l stop wanted (as_given (rows_of p)) tree) (sym m.0) (subst (λ rs. IsMetChoice n about.cases q.location stop wanted (as_given rs) tree) (sym m.1) own_met);
  narrow = narrow;
}
  where
    n : ℕ
    n = about.variables

    wanted : RowsOwed
    wanted = choice_into (about_with about) ps (λ c draws. no_fall)

    own_met : IsMetChoice about.variables about.cases q.location stop (choice_into (about_with about) ps (λ c draws. no_fall)) (as_given (piece_rows q)) tree
    own_met = choice_same about.variables about.cases q.location stop (region_owes about.variables into) (choice_into (about_with about) ps (λ c draws. no_fall)) (choice_owed about.variables ps into ms) (as_given (piece_rows q)) tree (met_given about q stop into tree met)

    own_shape : ChoiceShape about.variables about.cases q.location stop (choice_into (about_with about) ps (λ c draws. no_fall)) (length (as_given (piece_rows q))) tree
    own_shape = choice_shape about.variables about.cases q.location stop (region_owes about.variables into) (choice_into (about_with about) ps (λ c draws. no_fall)) (as_given (piece_rows q)) tree (subst (λ k. ChoiceShape about.variables about.cases q.location stop (region_owes about.variables into) k tree) (sym (length-given (piece_rows q))) shape) own_met

-- ---- no hole
pub choice_whole : (about : CaseSystem) (q : Piece) (stop : Bool) (into : List Piece) (xs : List ℤ) → Chooses about stop into (state q.location xs) → IsHole (query_of about q stop into) xs → ⊥
choice_whole about q stop into xs (inl (t, step, (r, among, inside))) h = h.none record { next = t; step = step; piece = r; among = among; inside = inside }
choice_whole about q stop into xs (inr (s, none)) h = (let g = h.some s in none g.next g.step)

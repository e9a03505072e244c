-- Choices with falls, and what trees with falls are offered for.
use Rattle.std.proofs.Common.{◌≡◌, ℕ, ◌+◌, ◌++◌, List, [], ◌∷◌, map, length, All, Option, None, Some, slice_get, false, ◌==◌, arith, refl, sym, ap, ◌∙◌, subst, ℤ, length-append}
use Rattle.std.specs.Prelude.{max}
use Rattle.std.specs.List.{filter}
use Rattle.std.specs.Option.{option_map}
use Rattle.std.proofs.lemmas.List.{length-map, append_assoc}
use Rattle.tv_linear.specs.Linear.{Linear, columns}
use Rattle.tv_linear.specs.Arithmetic.{constant_row}
use Rattle.tv_linear.specs.Known.{Known, given, denied, as_given}
use Rattle.tv_linear.specs.Refutation.{Refutes}
use Rattle.tv_linear.specs.Covers.{IsMetCover}
use Rattle.tv_linear.specs.ChoiceDepth.{choice_splits}
use Rattle.tv_linear.specs.declared.cover.CoverTree.{CoverTree}
use Rattle.tv_linear.specs.declared.cover.CoverTree as cover
use Rattle.tv_linear.specs.declared.choice.ChoiceTree.{ChoiceTree}
use Rattle.tv_linear.specs.declared.choice.ChoiceTree as choice
use Rattle.tv_linear.specs.declared.region.Piece.{Piece}
use Rattle.tv_linear.proofs.SameLemmas.{all_same, same_append}
use Rattle.tv_linear.proofs.KnownLemmas.{length-given}
use Rattle.tv_farkas.specs.Trees.{TreeRows}
use Rattle.tv_cases.specs.LinearCases.{LinearCase, CaseSystem}
use Rattle.tv_cert.specs.declared.node.Kind.TheVariants as kind
use Rattle.tv_cert.specs.declared.node.Mark.TheVariants.{Go}
use Rattle.tv_cert.specs.declared.node.Marked.{Marked}
use Rattle.tv_cert.specs.declared.node.Proof.TheVariants.{Covered, Chosen}
use Rattle.tv_cert.specs.Choices.{IsMetChoice, TakeMet, drawn_change, drawn_guards}
use Rattle.tv_cert.specs.Claims.{about_with}
use Rattle.tv_cert.specs.Obligations.{step_of, step_fall, choice_of, case_change, choice_into, choice_fall}
use Rattle.tv_cert.specs.Pieces.{place_of, rows_of, ranks_of, pieces_at}
use Rattle.tv_cert.specs.Shapes.{CoverShape, ChoiceShape, TakeShape}
use Rattle.tv_cert.specs.Targets.{owed_into, no_fall, fall_from}
use Rattle.tv_shape.specs.Narrow.{AreNarrow, CountNarrow, RowNarrow, ChoiceNarrow}
use Rattle.tv_shape.specs.Made.{IsOffered}
use Rattle.tv_choice.specs.Leading.{piece_rows}
use Rattle.tv_choice.specs.Leading as leading
use Rattle.tv_lexrank.specs.Falling.{AllHeld}
use Rattle.tv_lexrank.proofs.OfferLemmas.{met_shape}
use Rattle.tv_pre.specs.Offers.{ShowsStep, ShowsChoice}
use Rattle.tv_pre.specs.Pieces.{AreMarked, marked_as}
use Rattle.tv_pre.specs.Ranked.{IsFallingEntry, IsFallingCover, first_past, IsFallingChoice, NeverStops, ShowsFallingStep, ShowsFallingChoice}
use Rattle.tv_pre.proofs.ChoiceLemmas.{RowsOwed, guards_before, lists_shape, lists_filtered}
use Rattle.tv_pre.proofs.FallLemmas.{WithFalls, FallsOwed, falls_owed, case_keeps, drawn_keeps}
use Rattle.tv_pre.proofs.OfferLemmas.{lists_marked}
use Rattle.tv_pre.proofs.PieceLemmas.{are_marked}
use Rattle.tv_pre.proofs.ShownLemmas.{entry_shown, given_more, denied_more, cover_falls, falling_even, falling_splits, falling_narrow, entry_narrow, all_mapped}
use Rattle.tv_lexrank.proofs.MoreLemmas.{given_held}
use Rattle.tv_linear.proofs.ListLaws.{all_unmapped}
use Rattle.tv_cases.proofs.AmountLemmas.{one_more}

-- ---- with the guards of a case before
with_guards : (n : ℕ) (guards : List Known) (a b : Option (List Known)) → WithFalls n a b → WithFalls n (option_map (λ rows. guards ++ rows) a) (option_map (λ rows. guards ++ rows) b)
with_guards n guards None b h = tt
with_guards n guards (Some xs) None h = absurd h
with_guards n guards (Some xs) (Some ys) h = record {
  same = guards ++ h.same;
  first = h.first;
  second = h.second;
  exact = ap (λ zs. guards ++ zs) h.exact ∙ sym (append_assoc guards h.same (h.first ∷ h.second ∷ []));
  are = same_append n guards guards xs h.same (all_same n guards) h.are;
  first_always = h.first_always;
  second_always = h.second_always;
}

guarded : (n first : ℕ) (guards : List Known) (owed wanted : ℕ → ℕ → Option (List Known)) → FallsOwed n first owed wanted → FallsOwed n first (λ k j. option_map (λ rows. guards ++ rows) (owed k j)) (λ k j. option_map (λ rows. guards ++ rows) (wanted k j))
guarded n first guards owed wanted f = record {
  before = λ k l. guards_before n guards (owed k 0) (wanted k 0) (f.before k l);
  onward = λ k l. with_guards n guards (owed k 0) (wanted k 1) (f.onward k l);
  only = λ k j. ap (option_map (λ rows. guards ++ rows)) (f.only k j);
}

-- ---- choices
module _ (about : CaseSystem) (l : ℕ) (done : List Piece) (owed wanted : RowsOwed) (f : (c : LinearCase) (draws : List Linear) → FallsOwed about.variables (length (filter (λ p. p.location == c.to) done)) (owed c draws) (wanted c draws)) where
  abbrev n : ℕ
  n = about.variables

  take_falls : (found : Option LinearCase) (count k j m i : ℕ) (draws terms : List Linear) (lists new : List (List ℤ)) (known : List Known) → length known ≡ count → AllHeld about.variables known → terms ≡ draws → IsFallingEntry (first_past found done) count k j m i lists new → TakeMet about.variables l owed known found k j draws lists → TakeMet about.variables l wanted known found m i terms new
  take_falls None count k j m i draws terms lists new known e held d h t = absurd t
  take_falls (Some c) count k j m i draws terms lists new known e held d h t =
      subst (λ ds. TakeMet n l wanted known (Some c) m i ds new) (sym d) (
        t.0,
        t.1,
        entry_shown n (length (filter (λ p. p.location == c.to) done)) count k j m i lists new (λ x y. option_map (λ rows. drawn_guards n c draws ++ rows) (owed c draws x y)) (λ x y. option_map (λ rows. drawn_guards n c draws ++ rows) (wanted c draws x y)) known e held
            (guarded n (length (filter (λ p. p.location == c.to) done)) (drawn_guards n c draws) (owed c draws) (wanted c draws) (f c draws)) h t.2,
      )

  choice_falls : (count : ℕ) (known : List Known) (old new : ChoiceTree) → length known ≡ count → AllHeld about.variables known → ChoiceNarrow old → IsFallingChoice about done count old new → IsMetChoice about.variables about.cases l false owed known old → IsMetChoice about.variables about.cases l false wanted known new
  choice_falls count known (choice.Split' r p a q b) (choice.Split' s t x u y) e held w h m = (
    subst (λ z. IsMetChoice n about.cases l false wanted (known ++ given z ∷ []) x) (sym h.0) (choice_falls (count + 1) (known ++ given r ∷ []) a x (one_more known (given r) count e) (given_more n known r held) w.1 h.1 m.0),
    subst (λ z. IsMetChoice n about.cases l false wanted (known ++ denied (given z) ∷ []) y) (sym h.0) (choice_falls (count + 1) (known ++ denied (given r) ∷ []) b y (one_more known (denied (given r)) count e) (denied_more n known r w.0 held) w.2 h.2 m.1),
  )
  choice_falls count known (choice.Split' r p a q b) (choice.Empty ms) e held w h m = absurd h
  choice_falls count known (choice.Split' r p a q b) (choice.NoStep covers) e held w h m = absurd h
  choice_falls count known (choice.Split' r p a q b) (choice.Take taken k j draws ls) e held w h m = absurd h
  choice_falls count known (choice.Empty ns) (choice.Split' s t x u y) e held w h m = absurd h
  choice_falls count known (choice.Empty ns) (choice.Empty ms) e held w h m = subst (Refutes n known) (sym h) m
  choice_falls count known (choice.Empty ns) (choice.NoStep covers) e held w h m = absurd h
  choice_falls count known (choice.Empty ns) (choice.Take taken k j draws ls) e held w h m = absurd h
  choice_falls count known (choice.NoStep olds) new e held w h m = absurd h
  choice_falls count known (choice.Take taken k j draws ls) (choice.Split' s t x u y) e held w h m = absurd h
  choice_falls count known (choice.Take taken k j draws ls) (choice.Empty ms) e held w h m = absurd h
  choice_falls count known (choice.Take taken k j draws ls) (choice.NoStep covers) e held w h m = absurd h
  choice_falls count known (choice.Take taken k j draws ls) (choice.Take other o i terms ns) e held w h m =
      subst (λ z. TakeMet n l wanted known (slice_get about.cases z) o i terms.items (map (λ v. v.items) ns.items)) (sym h.0)
      (take_falls (slice_get about.cases taken) count k j o i draws.items terms.items (map (λ v. v.items) ls.items) (map (λ v. v.items) ns.items) known e held h.1 h.2 m)

  take_shape : (known : List Known) (found : Option LinearCase) (k j m i : ℕ) (draws terms : List Linear) (lists new : List (List ℤ)) → terms ≡ draws → TakeShape about.variables l owed (length known) found k j draws lists → TakeMet about.variables l wanted known found m i terms new → TakeShape about.variables l wanted (length known) found m i terms new
  take_shape known None k j m i draws terms lists new d s t = absurd t
  take_shape known (Some c) k j m i draws terms lists new d s t = (t.0, t.1, subst (All (λ r. columns r ≡ n)) (sym d) s.2, lists_shape n known c terms (wanted c terms m i) new t.2)

  falling_shape : (count : ℕ) (known : List Known) (old new : ChoiceTree) → IsFallingChoice about done count old new → ChoiceShape about.variables about.cases l false owed (length known) old → IsMetChoice about.variables about.cases l false wanted known new → ChoiceShape about.variables about.cases l false wanted (length known) new
  falling_shape count known (choice.Split' r p a q b) (choice.Split' s t x u y) h g m = (
    subst (λ z. columns z ≡ n) (sym h.0) g.0,
    subst (λ k. ChoiceShape n about.cases l false wanted k x) (length-append known (given s ∷ [])) (falling_shape (count + 1) (known ++ given s ∷ []) a x h.1 (subst (λ k. ChoiceShape n about.cases l false owed k a) (sym (length-append known (given s ∷ []))) g.1) m.0),
    subst (λ k. ChoiceShape n about.cases l false wanted k y) (length-append known (denied (given s) ∷ [])) (falling_shape (count + 1) (known ++ denied (given s) ∷ []) b y h.2 (subst (λ k. ChoiceShape n about.cases l false owed k b) (sym (length-append known (denied (given s) ∷ []))) g.2) m.1),
  )
  falling_shape count known (choice.Split' r p a q b) (choice.Empty ms) h g m = absurd h
  falling_shape count known (choice.Split' r p a q b) (choice.NoStep covers) h g m = absurd h
  falling_shape count known (choice.Split' r p a q b) (choice.Take taken k j draws ls) h g m = absurd h
  falling_shape count known (choice.Empty ns) (choice.Split' s t x u y) h g m = absurd h
  falling_shape count known (choice.Empty ns) (choice.Empty ms) h g m = m.as_many
  falling_shape count known (choice.Empty ns) (choice.NoStep covers) h g m = absurd h
  falling_shape count known (choice.Empty ns) (choice.Take taken k j draws ls) h g m = absurd h
  falling_shape count known (choice.NoStep olds) new h g m = absurd h
  falling_shape count known (choice.Take taken k j draws ls) (choice.Split' s t x u y) h g m = absurd h
  falling_shape count known (choice.Take taken k j draws ls) (choice.Empty ms) h g m = absurd h
  falling_shape count known (choice.Take taken k j draws ls) (choice.NoStep covers) h g m = absurd h
  falling_shape count known (choice.Take taken k j draws ls) (choice.Take other o i terms ns) h g m =
      take_shape known (slice_get about.cases other) k j o i draws.items terms.items (map (λ v. v.items) ls.items) (map (λ v. v.items) ns.items) h.1
      (subst (λ z. TakeShape n l owed (length known) (slice_get about.cases z) k j draws.items (map (λ v. v.items) ls.items)) (sym h.0) g) m

pub choice_depth : (about : CaseSystem) (done : List Piece) (count : ℕ) (old new : ChoiceTree) → IsFallingChoice about done count old new → choice_splits new ≡ choice_splits old
choice_depth about done count (choice.Split' r p a q b) (choice.Split' s t x u y) h = λ i. 1 + max (choice_depth about done (count + 1) a x h.1 i) (choice_depth about done (count + 1) b y h.2 i)
choice_depth about done count (choice.Split' r p a q b) (choice.Empty ms) h = absurd h
choice_depth about done count (choice.Split' r p a q b) (choice.NoStep covers) h = absurd h
choice_depth about done count (choice.Split' r p a q b) (choice.Take taken k j draws ls) h = absurd h
choice_depth about done count (choice.Empty ns) (choice.Split' s t x u y) h = absurd h
choice_depth about done count (choice.Empty ns) (choice.Empty ms) h = refl
choice_depth about done count (choice.Empty ns) (choice.NoStep covers) h = absurd h
choice_depth about done count (choice.Empty ns) (choice.Take taken k j draws ls) h = absurd h
choice_depth about done count (choice.NoStep olds) new h = absurd h
choice_depth about done count (choice.Take taken k j draws ls) (choice.Split' s t x u y) h = absurd h
choice_depth about done count (choice.Take taken k j draws ls) (choice.Empty ms) h = absurd h
choice_depth about done count (choice.Take taken k j draws ls) (choice.NoStep covers) h = absurd h
choice_depth about done count (choice.Take taken k j draws ls) (choice.Take other o i terms ns) h = refl

choice_narrow : (about : CaseSystem) (done : List Piece) (count : ℕ) (old new : ChoiceTree) → IsFallingChoice about done count old new → ChoiceNarrow old → ChoiceNarrow new
choice_narrow about done count (choice.Split' r p a q b) (choice.Split' s t x u y) h w = (subst RowNarrow (sym h.0) w.0, choice_narrow about done (count + 1) a x h.1 w.1, choice_narrow about done (count + 1) b y h.2 w.2)
choice_narrow about done count (choice.Split' r p a q b) (choice.Empty ms) h w = absurd h
choice_narrow about done count (choice.Split' r p a q b) (choice.NoStep covers) h w = absurd h
choice_narrow about done count (choice.Split' r p a q b) (choice.Take taken k j draws ls) h w = absurd h
choice_narrow about done count (choice.Empty ns) (choice.Split' s t x u y) h w = absurd h
choice_narrow about done count (choice.Empty ns) (choice.Empty ms) h w = subst AreNarrow (sym h) w
choice_narrow about done count (choice.Empty ns) (choice.NoStep covers) h w = absurd h
choice_narrow about done count (choice.Empty ns) (choice.Take taken k j draws ls) h w = absurd h
choice_narrow about done count (choice.NoStep olds) new h w = absurd h
choice_narrow about done count (choice.Take taken k j draws ls) (choice.Split' s t x u y) h w = absurd h
choice_narrow about done count (choice.Take taken k j draws ls) (choice.Empty ms) h w = absurd h
choice_narrow about done count (choice.Take taken k j draws ls) (choice.NoStep covers) h w = absurd h
choice_narrow about done count (choice.Take taken k j draws ls) (choice.Take other o i terms ns) h w =
    let e = entry_narrow (first_past (slice_get about.cases taken) done) count k j o i (map (λ l. l.items) ls.items) (map (λ l. l.items) ns.items) h.2 w.1 w.2 (all_mapped AreNarrow (λ l. l.items) ls.items w.4) in
    (subst CountNarrow (sym h.0) w.0, e.0, e.1, subst (All RowNarrow) (sym h.1) w.3, all_unmapped AreNarrow (λ l. l.items) ns.items e.2)

-- ---- what they are offered for
pub shape_even : (n : ℕ) (counts : ℕ → ℕ → Option ℕ) (count : ℕ) (tree : CoverTree) → CoverShape n counts count tree → TreeRows (λ r. columns r ≡ n) tree
shape_even n counts count (cover.Split' r p a q b) h = (h.0, shape_even n counts (count + 1) a h.1, shape_even n counts (count + 1) b h.2)
shape_even n counts count (cover.Empty ms) h = tt
shape_even n counts count (cover.Into k j ls) h = tt

pub held_append : (N : ℕ) (ks qs : List Known) → AllHeld N ks → AllHeld N qs → AllHeld N (ks ++ qs)
held_append N [] qs h g = g
held_append N (k ∷ ks) qs h g = (h.0, h.1, held_append N ks qs h.2 g)

-- as many pieces that are done at a location
pub done_count : (l : ℕ) (dones : List Marked) (done : List Piece) → AreMarked dones done → length (pieces_at dones l) ≡ length (filter (λ p. p.location == l) done)
done_count l dones done h =
    sym (length-map (pieces_at dones l) rows_of) ∙ ap length (lists_marked l dones done h) ∙ sym (ap length (lists_filtered l done)) ∙ length-map (leading.pieces_at done l) piece_rows

pub shows_falling_step : (about : CaseSystem) (q : Piece) (c : LinearCase) (done into : List Piece) (first count : ℕ) (old new : CoverTree) → first ≡ length (filter (λ p. p.location == c.to) done) → count ≡ length (piece_rows q) + length c.guards → ShowsStep about q c into old → IsFallingCover first count old new → ShowsFallingStep about q c done into new
shows_falling_step about q c done into first count old new e many shows falling number p all h = record {
  shape = (met_shape w (owed_into all c.to (case_change n c) (step_fall (about_with about) p c)) known new (falling_even w first count old new falling (shape_even w _ (length known) old plain.shape.0)) met, (let d = falling_splits first count old new falling in let s = plain.shape.1 in omega (arith, d, s)));
  met = met;
  narrow = falling_narrow first count old new falling plain.narrow;
}
  where
    n : ℕ
    n = about.variables

    w : ℕ
    w = about.variables + c.draws

    known : List Known
    known = as_given (rows_of p) ++ as_given c.guards

    plain : IsOffered (step_of number (about_with about) p (h.dones ++ h.ranked) (λ c. no_fall) c) (Covered old)
    plain = shows number p (h.dones ++ h.ranked) h.marked h.all_are

    many_known : length (as_given (rows_of p) ++ as_given c.guards) ≡ count
    many_known = length-append (as_given (rows_of p)) (as_given c.guards) ∙ (λ i. (length-given (rows_of p) ∙ ap length h.marked.1) i + length-given c.guards i) ∙ sym many

    owed : FallsOwed (about.variables + c.draws) first (owed_into (h.dones ++ h.ranked) c.to (case_change about.variables c) no_fall) (owed_into all c.to (case_change about.variables c) (step_fall (about_with about) p c))
    owed =
        subst (λ ps. FallsOwed w first (owed_into (h.dones ++ h.ranked) c.to (case_change n c) no_fall) (owed_into ps c.to (case_change n c) (step_fall (about_with about) p c))) (sym h.parts)
        (subst (λ rs. FallsOwed w first (owed_into (h.dones ++ h.ranked) c.to (case_change n c) no_fall) (owed_into (h.dones ++ (h.ranked ++ h.later)) c.to (case_change n c) (fall_from (case_change n c) rs))) (sym h.ranks)
        (subst (λ k. FallsOwed w k (owed_into (h.dones ++ h.ranked) c.to (case_change n c) no_fall) (owed_into (h.dones ++ (h.ranked ++ h.later)) c.to (case_change n c) (fall_from (case_change n c) (constant_row n h.rank ∷ [])))) (done_count c.to h.dones done h.done_are ∙ sym e)
        (falls_owed w n h.rank (case_change n c) (case_keeps n n c) h.low h.small h.dones h.ranked h.later c.to (record { done_with = h.done_with; ranked = h.below }))))

    met : IsMetCover (about.variables + c.draws) (owed_into all c.to (case_change about.variables c) (step_fall (about_with about) p c)) (as_given (rows_of p) ++ as_given c.guards) new
    met = cover_falls w first count (owed_into (h.dones ++ h.ranked) c.to (case_change n c) no_fall) (owed_into all c.to (case_change n c) (step_fall (about_with about) p c)) owed known old new many_known
        (held_append w (as_given (rows_of p)) (as_given c.guards) (given_held w (rows_of p)) (given_held w c.guards)) plain.narrow falling plain.met

pub shows_falling_choice : (about : CaseSystem) (q : Piece) (done into : List Piece) (count : ℕ) (old new : ChoiceTree) → count ≡ length (piece_rows q) → ShowsChoice about q false into old → IsFallingChoice about done count old new → ShowsFallingChoice about q done into new
shows_falling_choice about q done into count old new many shows falling number p all h = record {
  shape = (falling_shape about (place_of p) done plain_owed wanted owed count (as_given (rows_of p)) old new falling plain.shape.0 met, (let d = choice_depth about done count old new falling in let s = plain.shape.1 in omega (arith, d, s)));
  met = met;
  narrow = choice_narrow about done count old new falling plain.narrow;
}
  where
    n : ℕ
    n = about.variables

    plain_owed : RowsOwed
    plain_owed = choice_into (about_with about) (h.dones ++ h.ranked) (λ c draws. no_fall)

    wanted : RowsOwed
    wanted = choice_into (about_with about) all (choice_fall (about_with about) p)

    plain : IsOffered (choice_of number kind.Choice (about_with about) p false (choice_into (about_with about) (h.dones ++ h.ranked) (λ c draws. no_fall))) (Chosen old)
    plain = shows number kind.Choice p (h.dones ++ h.ranked) h.marked h.all_are

    owed : (c : LinearCase) (draws : List Linear) → FallsOwed about.variables (length (filter (λ p. p.location == c.to) done)) (choice_into (about_with about) (h.dones ++ h.ranked) (λ c draws. no_fall) c draws) (choice_into (about_with about) all (choice_fall (about_with about) p) c draws)
    owed c draws =
        let change = drawn_change n c draws in
        let first = length (filter (λ p. p.location == c.to) done) in
        subst (λ ps. FallsOwed n first (owed_into (h.dones ++ h.ranked) c.to change no_fall) (owed_into ps c.to change (fall_from change (ranks_of p)))) (sym h.parts)
        (subst (λ rs. FallsOwed n first (owed_into (h.dones ++ h.ranked) c.to change no_fall) (owed_into (h.dones ++ (h.ranked ++ h.later)) c.to change (fall_from change rs))) (sym h.ranks)
        (subst (λ k. FallsOwed n k (owed_into (h.dones ++ h.ranked) c.to change no_fall) (owed_into (h.dones ++ (h.ranked ++ h.later)) c.to change (fall_from change (constant_row n h.rank ∷ [])))) (done_count c.to h.dones done h.done_are)
        (falls_owed n n h.rank change (drawn_keeps n n c draws) h.low h.small h.dones h.ranked h.later c.to (record { done_with = h.done_with; ranked = h.below }))))

    met : IsMetChoice about.variables about.cases (place_of p) false (choice_into (about_with about) all (choice_fall (about_with about) p)) (as_given (rows_of p)) new
    met = choice_falls about (place_of p) done plain_owed wanted owed count (as_given (rows_of p)) old new (length-given (rows_of p) ∙ ap length h.marked.1 ∙ sym many) (given_held n (rows_of p)) plain.narrow falling plain.met

-- ---- no choice stops where none may
shape_goes : (n : ℕ) (cases : List LinearCase) (l : ℕ) (owed : RowsOwed) (count : ℕ) (tree : ChoiceTree) → ChoiceShape n cases l false owed count tree → NeverStops tree
shape_goes n cases l owed count (choice.Split' r p a q b) h = (shape_goes n cases l owed (count + 1) a h.1, shape_goes n cases l owed (count + 1) b h.2)
shape_goes n cases l owed count (choice.Empty ms) h = tt
shape_goes n cases l owed count (choice.NoStep covers) h = (let x = h.0 in let no : ⊥ = cc in absurd no)
shape_goes n cases l owed count (choice.Take taken k j draws ls) h = tt

pub never_stops : (about : CaseSystem) (q : Piece) (into : List Piece) (tree : ChoiceTree) → ShowsChoice about q false into tree → NeverStops tree
never_stops about q into tree h =
    let p = marked_as about.variables Go [] q in
    let offered = h 0 kind.Choice p (map (marked_as about.variables Go []) into) (refl, refl) (are_marked about.variables Go [] into) in
    shape_goes about.variables about.cases (place_of p) _ (length (as_given (rows_of p))) tree offered.shape.0

-- A choice made of a cover is met, and has the shape of one.
use Rattle.std.proofs.Common.{◌≡◌, ℕ, zero, suc, ◌+◌, ◌^◌, ◌<◌, List, [], ◌∷◌, ◌++◌, length, length-append, map, All, Some, slice_get, Vec, false, arith, refl, sym, ap, ◌∙◌, subst, ℤ}
use Rattle.std.specs.Prelude.{max}
use Rattle.std.specs.Global.{Global}
use Rattle.std.specs.Option.{option_map}
use Rattle.std.proofs.lemmas.List.{length-map, append-nil}
use Rattle.std.proofs.lemmas.List.Elements.{All-nil, All-cons, All-head, All-tail}
use Rattle.tv_linear.specs.Linear.{Linear, columns, IsNarrow, IsWithin}
use Rattle.tv_linear.specs.Known.{Known, given, denied, as_given}
use Rattle.tv_linear.specs.Refutation.{Refutes}
use Rattle.tv_linear.specs.Covers.{Shown, ShownAt, IsMetCover}
use Rattle.tv_linear.specs.ChoiceDepth.{choice_splits}
use Rattle.tv_linear.specs.Depth.{splits}
use Rattle.tv_linear.specs.declared.cover.CoverTree.{CoverTree}
use Rattle.tv_linear.specs.declared.cover.CoverTree as cover
use Rattle.tv_linear.specs.declared.choice.ChoiceTree.{ChoiceTree}
use Rattle.tv_linear.specs.declared.choice.ChoiceTree as choice
use Rattle.tv_linear.specs.Same.{AreSame}
use Rattle.tv_linear.proofs.SameLemmas.{all_same, shown_same}
use Rattle.tv_farkas.specs.Refuting.{AreShort}
use Rattle.tv_farkas.specs.Trees.{TreeRows, TreeNumbers}
use Rattle.tv_cases.specs.LinearCases.{LinearCase, CaseSystem}
use Rattle.tv_cert.specs.declared.node.Marked.{Marked}
use Rattle.tv_cert.specs.Choices.{IsMetChoice, TakeMet, drawn_change, drawn_guards}
use Rattle.tv_cert.specs.Pieces.{rows_of, pieces_at}
use Rattle.tv_cert.specs.Shapes.{ChoiceShape, TakeShape, ListsShape}
use Rattle.tv_cert.specs.Targets.{target_rows, no_fall}
use Rattle.tv_cover.specs.Targets.{owed_lists}
use Rattle.tv_cover.specs.Single.{IsCoverInto}
use Rattle.tv_shape.specs.Narrow.{ChoiceNarrow, RowNarrow, AreNarrow, CountNarrow}
use Rattle.tv_recur.specs.Choosing.{IsChoiceOf, entering, IsChoiceAt, LeadsInto}
use Rattle.tv_farkas.proofs.StretchLemmas.{short_all}
use Rattle.tv_linear.proofs.ListLaws.{all_unmapped}
use Rattle.tv_shape.proofs.NumberLemmas.{narrow_count, row_narrow, rows_narrow}
use Rattle.tv_cases.proofs.AmountLemmas.{one_more}

-- ---- lists of lines
shown_many : (n : ℕ) (known owed : List Known) (lists : List (List ℤ)) → Shown n known owed lists → length lists ≡ length owed
shown_many n known [] [] h = refl
shown_many n known [] (ms ∷ lists) h = absurd h
shown_many n known (r ∷ owed) [] h = absurd h
shown_many n known (r ∷ owed) (ms ∷ lists) h = ap suc (shown_many n known owed lists h.1)

shown_each : (n count : ℕ) (known owed : List Known) (lists : List (List ℤ)) → length known ≡ count → Shown n known owed lists → All (λ ms. length ms ≡ count + 1) lists
shown_each n count known [] [] e h = All-nil (λ ms. length ms ≡ count + 1)
shown_each n count known [] (ms ∷ lists) e h = absurd h
shown_each n count known (r ∷ owed) [] e h = absurd h
shown_each n count known (r ∷ owed) (ms ∷ lists) e h =
    All-cons (λ ms. length ms ≡ count + 1) ms lists
    (h.0.as_many ∙ length-append known (denied r ∷ []) ∙ ap (λ k. k + 1) e)
    (shown_each n count known owed lists e h.1)

all_within : (lists : List (List ℤ)) → All AreShort lists → All (All (IsWithin 62)) lists
all_within [] h = All-nil (All (IsWithin 62))
all_within (ms ∷ lists) h = All-cons (All (IsWithin 62)) ms lists (short_all ms (All-head AreShort ms lists h)) (all_within lists (All-tail AreShort ms lists h))

-- ---- the depth
pub same_depth : (k place : ℕ) (draws : List Linear) (old : CoverTree) (new : ChoiceTree) → IsChoiceOf k place draws old new → choice_splits new ≡ splits old
same_depth k place draws (cover.Split' r p a q b) (choice.Split' s t x u y) h = (λ i. 1 + max (same_depth k place draws a x h.2 i) (same_depth k place draws b y h.3 i))
same_depth k place draws (cover.Split' r p a q b) (choice.Empty ms) h = absurd h
same_depth k place draws (cover.Split' r p a q b) (choice.NoStep covers) h = absurd h
same_depth k place draws (cover.Split' r p a q b) (choice.Take taken target fall terms lists) h = absurd h
same_depth k place draws (cover.Empty ns) (choice.Split' s t x u y) h = absurd h
same_depth k place draws (cover.Empty ns) (choice.Empty ms) h = refl
same_depth k place draws (cover.Empty ns) (choice.NoStep covers) h = absurd h
same_depth k place draws (cover.Empty ns) (choice.Take taken target fall terms lists) h = absurd h
same_depth k place draws (cover.Into other none lines) (choice.Split' s t x u y) h = absurd h
same_depth k place draws (cover.Into other none lines) (choice.Empty ms) h = absurd h
same_depth k place draws (cover.Into other none lines) (choice.NoStep covers) h = absurd h
same_depth k place draws (cover.Into other none lines) (choice.Take taken target fall terms lists) h = refl

-- ---- the numbers
choice_narrow : (k place : ℕ) (draws : List Linear) → k < 2 ^ 32 → place < 2 ^ 32 → All IsNarrow draws → (old : CoverTree) (new : ChoiceTree) → TreeNumbers AreShort old → IsChoiceOf k place draws old new → ChoiceNarrow new
choice_narrow k place draws small near narrow (cover.Split' r p a q b) (choice.Split' s t x u y) n h =
    (subst RowNarrow (sym h.0) (row_narrow r h.1), choice_narrow k place draws small near narrow a x n.0 h.2, choice_narrow k place draws small near narrow b y n.1 h.3)
choice_narrow k place draws small near narrow (cover.Split' r p a q b) (choice.Empty ms) n h = absurd h
choice_narrow k place draws small near narrow (cover.Split' r p a q b) (choice.NoStep covers) n h = absurd h
choice_narrow k place draws small near narrow (cover.Split' r p a q b) (choice.Take taken target fall terms lists) n h = absurd h
choice_narrow k place draws small near narrow (cover.Empty ns) (choice.Split' s t x u y) n h = absurd h
choice_narrow k place draws small near narrow (cover.Empty ns) (choice.Empty ms) n h = subst (All (IsWithin 62)) (sym h) (short_all ns.items n)
choice_narrow k place draws small near narrow (cover.Empty ns) (choice.NoStep covers) n h = absurd h
choice_narrow k place draws small near narrow (cover.Empty ns) (choice.Take taken target fall terms lists) n h = absurd h
choice_narrow k place draws small near narrow (cover.Into other none lines) (choice.Split' s t x u y) n h = absurd h
choice_narrow k place draws small near narrow (cover.Into other none lines) (choice.Empty ms) n h = absurd h
choice_narrow k place draws small near narrow (cover.Into other none lines) (choice.NoStep covers) n h = absurd h
choice_narrow k place draws small near narrow (cover.Into other none lines) (choice.Take taken target fall terms lists) n h = (
  subst CountNarrow (sym h.0) (narrow_count k small),
  subst CountNarrow (sym h.1) (narrow_count place near),
  subst CountNarrow (sym h.2) (narrow_count 0 (omega arith)),
  subst (All RowNarrow) (sym h.3) (rows_narrow draws narrow),
  all_unmapped AreNarrow (λ (l : Vec ℤ Global). l.items) lists.items (subst (All AreNarrow) (sym h.4) (all_within (map (λ l. l.items) lines.items) n)),
)

-- ---- the piece that is entered
module _ (about : CaseSystem) (c : LinearCase) (k place : ℕ) (draws into target : List Linear) (found : slice_get about.cases k ≡ Some c) (counted : length draws ≡ c.draws) (same : AreSame about.variables (as_given target) (drawn_guards about.variables c draws ++ map (drawn_change about.variables c draws) into)) (ps : List Marked) (q : Marked) (there : slice_get (pieces_at ps c.to) place ≡ Some q) (rows : rows_of q ≡ into) where
  abbrev n : ℕ
  n = about.variables

  abbrev change : Linear → Known
  change = drawn_change n c draws

  entered_is : entering about ps c draws place 0 ≡ Some (map change into)
  entered_is = ap (λ o. target_rows change no_fall o 0) there ∙ ap (λ rs. Some (map change rs ++ [])) rows ∙ ap Some (append-nil (map change into))

  owed_is : option_map (λ rows. drawn_guards n c draws ++ rows) (entering about ps c draws place 0) ≡ Some (drawn_guards n c draws ++ map change into)
  owed_is = ap (option_map (λ rows. drawn_guards n c draws ++ rows)) entered_is

  -- the lines of the target are those that are owed
  lines_owed : (known : List Known) (other none : ℕ) (lines : List (List ℤ)) → ShownAt n known (owed_lists (target ∷ []) other none) lines → Shown n known (drawn_guards n c draws ++ map change into) lines
  lines_owed known zero zero lines h = shown_same n known known (all_same n known) (as_given target) (drawn_guards n c draws ++ map change into) same lines h
  lines_owed known zero (suc j) lines h = absurd h
  lines_owed known (suc m) zero lines h = absurd h
  lines_owed known (suc m) (suc j) lines h = absurd h

  take_met : (known : List Known) (taken to fall : ℕ) (terms : List Linear) (lists lines : List (List ℤ)) → taken ≡ k → to ≡ place → fall ≡ 0 → terms ≡ draws → lists ≡ lines → Shown n known (drawn_guards n c draws ++ map change into) lines → TakeMet n c.from (entering about ps) known (slice_get about.cases taken) to fall terms lists
  take_met known taken to fall terms lists lines a b d e f h =
      subst (λ x. x) (sym (λ i. TakeMet n c.from (entering about ps) known ((ap (slice_get about.cases) a ∙ found) i) (b i) (d i) (e i) (f i)))
      (refl, counted, subst (λ o. ShownAt n known o lines) (sym owed_is) h)

  lists_shape : (count : ℕ) (known : List Known) (lines : List (List ℤ)) → length known ≡ count → Shown n known (drawn_guards n c draws ++ map change into) lines → ListsShape (count + 1) (option_map (λ rows. length c.guards + length rows) (entering about ps c draws place 0)) lines
  lists_shape count known lines e h =
      subst (λ o. ListsShape (count + 1) (option_map (λ rows. length c.guards + length rows) o) lines) (sym entered_is) (
        shown_many n known (drawn_guards n c draws ++ map change into) lines h ∙ length-append (drawn_guards n c draws) (map change into) ∙ ap (λ m. m + length (map change into)) (length-map c.guards _),
        shown_each n count known (drawn_guards n c draws ++ map change into) lines e h,
      )

  take_shape : (count : ℕ) (known : List Known) (taken to fall : ℕ) (terms : List Linear) (lists lines : List (List ℤ)) → length known ≡ count → All (λ r. columns r ≡ n) draws → taken ≡ k → to ≡ place → fall ≡ 0 → terms ≡ draws → lists ≡ lines → Shown n known (drawn_guards n c draws ++ map change into) lines → TakeShape n c.from (entering about ps) count (slice_get about.cases taken) to fall terms lists
  take_shape count known taken to fall terms lists lines many wide a b d e f h =
      subst (λ x. x) (sym (λ i. TakeShape n c.from (entering about ps) count ((ap (slice_get about.cases) a ∙ found) i) (b i) (d i) (e i) (f i)))
      (refl, counted, wide, lists_shape count known lines many h)

  choice_met : (known : List Known) (old : CoverTree) (new : ChoiceTree) → IsMetCover n (owed_lists (target ∷ [])) known old → IsChoiceOf k place draws old new → IsMetChoice n about.cases c.from false (entering about ps) known new
  choice_met known (cover.Split' r p a q b) (choice.Split' s t x u y) m h = (
    subst (λ z. IsMetChoice n about.cases c.from false (entering about ps) (known ++ given z ∷ []) x) (sym h.0) (choice_met (known ++ given r ∷ []) a x m.0 h.2),
    subst (λ z. IsMetChoice n about.cases c.from false (entering about ps) (known ++ denied (given z) ∷ []) y) (sym h.0) (choice_met (known ++ denied (given r) ∷ []) b y m.1 h.3),
  )
  choice_met known (cover.Split' r p a q b) (choice.Empty ms) m h = absurd h
  choice_met known (cover.Split' r p a q b) (choice.NoStep covers) m h = absurd h
  choice_met known (cover.Split' r p a q b) (choice.Take taken to fall terms lists) m h = absurd h
  choice_met known (cover.Empty ns) (choice.Split' s t x u y) m h = absurd h
  choice_met known (cover.Empty ns) (choice.Empty ms) m h = subst (Refutes n known) (sym h) m
  choice_met known (cover.Empty ns) (choice.NoStep covers) m h = absurd h
  choice_met known (cover.Empty ns) (choice.Take taken to fall terms lists) m h = absurd h
  choice_met known (cover.Into other none lines) (choice.Split' s t x u y) m h = absurd h
  choice_met known (cover.Into other none lines) (choice.Empty ms) m h = absurd h
  choice_met known (cover.Into other none lines) (choice.NoStep covers) m h = absurd h
  choice_met known (cover.Into other none lines) (choice.Take taken to fall terms lists) m h =
      take_met known taken to fall terms.items (map (λ l. l.items) lists.items) (map (λ l. l.items) lines.items) h.0 h.1 h.2 h.3 h.4 (lines_owed known other none (map (λ l. l.items) lines.items) m)

  choice_shape : All (λ r. columns r ≡ n) draws → (count : ℕ) (known : List Known) (old : CoverTree) (new : ChoiceTree) → length known ≡ count → IsMetCover n (owed_lists (target ∷ [])) known old → TreeRows (λ r. columns r ≡ n) old → IsChoiceOf k place draws old new → ChoiceShape n about.cases c.from false (entering about ps) count new
  choice_shape wide count known (cover.Split' r p a q b) (choice.Split' s t x u y) e m even h = (
    subst (λ z. columns z ≡ n) (sym h.0) even.0,
    choice_shape wide (count + 1) (known ++ given r ∷ []) a x (one_more known (given r) count e) m.0 even.1 h.2,
    choice_shape wide (count + 1) (known ++ denied (given r) ∷ []) b y (one_more known (denied (given r)) count e) m.1 even.2 h.3,
  )
  choice_shape wide count known (cover.Split' r p a q b) (choice.Empty ms) e m even h = absurd h
  choice_shape wide count known (cover.Split' r p a q b) (choice.NoStep covers) e m even h = absurd h
  choice_shape wide count known (cover.Split' r p a q b) (choice.Take taken to fall terms lists) e m even h = absurd h
  choice_shape wide count known (cover.Empty ns) (choice.Split' s t x u y) e m even h = absurd h
  choice_shape wide count known (cover.Empty ns) (choice.Empty ms) e m even h = ap length h ∙ m.as_many ∙ e
  choice_shape wide count known (cover.Empty ns) (choice.NoStep covers) e m even h = absurd h
  choice_shape wide count known (cover.Empty ns) (choice.Take taken to fall terms lists) e m even h = absurd h
  choice_shape wide count known (cover.Into other none lines) (choice.Split' s t x u y) e m even h = absurd h
  choice_shape wide count known (cover.Into other none lines) (choice.Empty ms) e m even h = absurd h
  choice_shape wide count known (cover.Into other none lines) (choice.NoStep covers) e m even h = absurd h
  choice_shape wide count known (cover.Into other none lines) (choice.Take taken to fall terms lists) e m even h =
      take_shape count known taken to fall terms.items (map (λ l. l.items) lists.items) (map (λ l. l.items) lines.items) e wide h.0 h.1 h.2 h.3 h.4 (lines_owed known other none (map (λ l. l.items) lines.items) m)

  -- all of it
  pub choice_at : All (λ r. columns r ≡ n) draws → All IsNarrow draws → k < 2 ^ 32 → place < 2 ^ 32 → (from : List Linear) (old : CoverTree) (new : ChoiceTree) → IsCoverInto n from target old → IsChoiceOf k place draws old new → IsChoiceAt about ps c.from from new
  choice_at wide narrow small near from old new h same = record {
    met = choice_met (as_given from) old new h.met same;
    shape = choice_shape wide (length (as_given from)) (as_given from) old new refl h.met h.even same;
    narrow = choice_narrow k place draws small near narrow old new h.short same;
    shallow = (let e = same_depth k place draws old new same in let s = h.shallow in omega (arith, e, s));
  }

-- wherever the piece stands
pub leads_into : (about : CaseSystem) (c : LinearCase) (k place : ℕ) (draws into target from : List Linear) (old : CoverTree) (new : ChoiceTree) → slice_get about.cases k ≡ Some c → length draws ≡ c.draws → AreSame about.variables (as_given target) (drawn_guards about.variables c draws ++ map (drawn_change about.variables c draws) into) → All (λ r. columns r ≡ about.variables) draws → All IsNarrow draws → k < 2 ^ 32 → place < 2 ^ 32 → IsCoverInto about.variables from target old → IsChoiceOf k place draws old new → LeadsInto about c place from into new
leads_into about c k place draws into target from old new found counted same wide narrow small near h made ps q there rows =
    choice_at about c k place draws into target found counted same ps q there rows wide narrow small near from old new h made

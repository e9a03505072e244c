-- What is read of choices.
use Rattle.std.proofs.Common.{◌≡◌, ℕ, zero, suc, ◌+◌, ◌-◌, ◌<◌, ◌≤◌, ◌^◌, ℤ, pos, negsuc, Bool, true, false, List, [], ◌∷◌, ◌++◌, length, Option, Some, None, Ok, refl, sym, ap, ◌∙◌, subst, arith, slice_get}
use Rattle.std.specs.Prelude.{◌==◌}
use Rattle.std.specs.Global.{Vec}
use Rattle.std.specs.List.{AllZip, flat_map}
use Rattle.std.specs.Option.{option_map, ForSome}
use Rattle.std.proofs.lemmas.Bool.{eq-eqb, eqb-true}
use Rattle.tv_grammar.specs.Langs.{headed, mapped, each, stop}
use Rattle.tv_lines.specs.Lines.{PlainLine, formed, count_of, FitsHead}
use Rattle.tv_lines.specs.declared.head.Head.{Head}
use Rattle.tv_lines.specs.declared.head.Head.TheVariants as heads
use Rattle.tv_linear.specs.Linear.{Linear, columns}
use Rattle.tv_linear.specs.Known.{Known, given}
use Rattle.tv_linear.specs.ChoiceDepth.{most_splits, choice_splits}
use Rattle.tv_linear.specs.declared.row.Row.{Row}
use Rattle.tv_linear.specs.declared.cover.CoverTree.{CoverTree}
use Rattle.tv_linear.specs.declared.choice.ChoiceTree.{ChoiceTree, Split', Empty, NoStep, Take}
use Rattle.tv_cases.specs.LinearCases.{LinearCase, CaseSystem, leaving}
use Rattle.tv_cert.specs.declared.node.Marked.{Marked}
use Rattle.tv_cert.specs.declared.owes.Destination.{Destination}
use Rattle.tv_cert.specs.declared.owes.Destination.TheVariants.{Anywhere, Into}
use Rattle.tv_cert.specs.Choices.{drawn_change}
use Rattle.tv_cert.specs.OwesViews.{destination_owes, falls_where}
use Rattle.tv_cert.specs.Pieces.{place_of, ranks_of}
use Rattle.tv_cert.specs.Shapes.{ChoiceShape, ListsShape, NoStepShape, TakeShape, owed_count}
use Rattle.tv_cert.specs.Targets.{owed_into}
use Rattle.tv_cert.specs.TargetViews.{AreFewAt}
use Rattle.tv_cert.proofs.TargetLemmas.{count_same}
use Rattle.tv_cert_reader.specs.CertificateLines.{row_lines, row_line, by_lines, cover_lines, choice_lines}
use Rattle.tv_cert_reader.specs.declared.kind.LineKind.TheVariants.{Syntax, Shape}
use Rattle.tv_cert_reader.specs.LineGrammar.{Grammar, Behind, many, by, draw, with_three}
use Rattle.tv_cert_reader.specs.CoverGrammar.{both}
use Rattle.tv_cert_reader.specs.ChoiceGrammar.{Choosing, choice, choice_cases, stop_cover, no_step, no_step_behind, only_where, taken_rows, taken_case, take_behind, Taken}
use Rattle.tv_cert_reader.proofs.CompleteParts.{draws_read}
use Rattle.tv_cert_reader.proofs.CompleteCovers.{choice_read}
use Rattle.tv_cert_reader.specs.declared.cursor.Cursor.{Cursor}
use Rattle.tv_cert_reader.specs.declared.failure.Failure.{Failure}
use Rattle.tv_cert_reader.specs.Reading.{Takes, FaultAt, FailsBy}
use Rattle.tv_cert_reader.specs.Parts.{AreMany, AreNumbers, IsWide, IsRowOf, lists_in}
use Rattle.tv_cert_reader.specs.Covers.{IsBehind}
use Rattle.tv_cert_reader.specs.Choices.{choosing_of, IsChoiceSplitOf, IsChoiceWithin, IsStop, IsTaken, NamesNoCase}
use Rattle.tv_cert_reader.proofs.ReadingLemmas.{first_fails, second_fails, takes_both, takes_as}
use Rattle.tv_cert_reader.proofs.SideLemmas.{sides_at}
use Rattle.tv_cert_reader.proofs.CountLemmas.{few_into, few_ranked, few_lists}
use Rattle.tv_cert_reader.proofs.TreeLemmas.{IsTree, tree_stops, tree_goes}
use Rattle.tv_cert_reader.proofs.CoverLemmas.{listed_wide}

-- ---- a case that is taken, its target and its fall are few

falls_few : (p : Marked) (into : List Marked) (l k j n : ℕ) (falls : Bool) → length into < 2 ^ 32 → length (ranks_of p) < 2 ^ 32 → owed_count (owed_into into l given (falls_where falls given p)) k j ≡ Some n → (k < 2 ^ 32) × (j < 2 ^ 32)
falls_few p into l k j n true a b e = (let h = few_ranked p into l k j n e in (omega (arith, h.0, a), omega (arith, h.1, b)))
falls_few p into l k j n false a b e = (let h = few_into None into l k j n e in (omega (arith, h.0, a), omega (arith, h.1)))

pub few_taken : (system : CaseSystem) (p : Marked) (destination : Destination) (case : LinearCase) (draws : List Linear) (k j n : ℕ) → AreFewAt p destination → owed_count (destination_owes system.variables p destination case draws) k j ≡ Some n → (k < 2 ^ 32) × (j < 2 ^ 32)
few_taken system p Anywhere case draws k j n bounded e = (let h = few_lists ([] ∷ []) k j n e in (omega (arith, h.0), omega (arith, h.1)))
few_taken system p (Into pieces falls) case draws k j n bounded e =
    falls_few p pieces.now case.to k j n falls bounded.0 bounded.1 (sym (count_same (drawn_change system.variables case draws) given falls p pieces.now case.to k j) ∙ e)

-- ---- the numbers of a line that takes a case

where_true : (b : Bool) (t : Option Taken) → (b ≡ true → t ≡ None) → only_where b t ≡ None
where_true true t h = h refl
where_true false t h = refl

taken_none : (l : ℕ) (counts : LinearCase → ℕ → ℕ → Option ℕ) (o : Option LinearCase) (k j : ℕ) → ((case : LinearCase) (n : ℕ) → o ≡ Some case → case.from ≡ l → counts case k j ≡ Some n → ⊥) → taken_case l counts o k j ≡ None
taken_none l counts None k j h = refl
taken_none l counts (Some case) k j h = where_true (case.from == l) (taken_rows case (counts case k j)) (λ b. rows (counts case k j) (λ n e. h case n refl (eqb-true case.from l b) e)) where
  rows : (o : Option ℕ) → ((n : ℕ) → o ≡ Some n → ⊥) → taken_rows case o ≡ None
  rows None h = refl
  rows (Some n) h = absurd (h n refl)

three_none : (l : ℕ) (cases : List LinearCase) (counts : LinearCase → ℕ → ℕ → Option ℕ) (zs : List ℤ) → ((case : LinearCase) (c k j n : ℕ) → zs ≡ pos c ∷ pos k ∷ pos j ∷ [] → slice_get cases c ≡ Some case → case.from ≡ l → counts case k j ≡ Some n → ⊥) → with_three zs (λ c k j. taken_case l counts (slice_get cases c) k j) ≡ None
three_none l cases counts (pos c ∷ pos k ∷ pos j ∷ []) h = taken_none l counts (slice_get cases c) k j (λ case n e from f. h case c k j n refl e from f)
three_none l cases counts (pos c ∷ pos k ∷ negsuc j ∷ []) h = refl
three_none l cases counts (pos c ∷ negsuc k ∷ j ∷ []) h = refl
three_none l cases counts (negsuc c ∷ k ∷ j ∷ []) h = refl
three_none l cases counts [] h = refl
three_none l cases counts (a ∷ []) h = refl
three_none l cases counts (a ∷ b ∷ []) h = refl
three_none l cases counts (a ∷ b ∷ c ∷ d ∷ zs) h = refl

guards_and : (guards n : ℕ) (o : Option (List Known)) → option_map length o ≡ Some n → option_map (λ rows. guards + length rows) o ≡ Some (guards + n)
guards_and guards n None e = absurd (let h : ⊥ = cc in h)
guards_and guards n (Some rows) e = (let h : length rows ≡ n = cc in ap (λ m. Some (guards + m)) h)

-- how many rows are owed does not depend on the terms of the draws
pub owes_free : (n : ℕ) (p : Marked) (destination : Destination) (case : LinearCase) (draws : List Linear) → owed_count (destination_owes n p destination case draws) ≡ owed_count (destination_owes n p destination case [])
owes_free n p Anywhere case draws = refl
owes_free n p (Into pieces falls) case draws = λ i k j. count_same (drawn_change n case draws) (drawn_change n case []) falls p pieces.now case.to k j i

-- ---- covers without targets, one for each of some cases

stops_shape : (n known left : ℕ) (cases : List LinearCase) (trees : List CoverTree) → AllZip (IsStop n known left) cases trees → NoStepShape n known cases trees
stops_shape n known left [] [] h = tt
stops_shape n known left [] (t ∷ trees) h = absurd h
stops_shape n known left (c ∷ cases) [] h = absurd h
stops_shape n known left (c ∷ cases) (t ∷ trees) h = (h.0.shape, stops_shape n known left cases trees h.1)

stops_shallow : (n known left : ℕ) (cases : List LinearCase) (trees : List CoverTree) → AllZip (IsStop n known left) cases trees → most_splits trees ≤ left
stops_shallow n known left [] [] h = omega arith
stops_shallow n known left [] (t ∷ trees) h = absurd h
stops_shallow n known left (c ∷ cases) [] h = absurd h
stops_shallow n known left (c ∷ cases) (t ∷ trees) h = (let later = stops_shallow n known left cases trees h.1 in omega (arith, h.0.shallow, later))

-- no numbers stand on the line that there is no step
pub no_numbers_fit : (head : Head) (zs : List ℤ) → head ≡ heads.NoStep → FitsHead head zs → zs ≡ []
no_numbers_fit head [] e fit = refl
no_numbers_fit head (z ∷ zs) e fit = absurd (let h = subst (λ h. ForSome (count_of h) (λ count. length (z ∷ zs) ≡ count)) e fit.counted 0 refl in omega (arith, h))

module _ (system : CaseSystem) (p : Marked) (may_stop : Bool) (destination : Destination) where
  abbrev pub x : Choosing
  x = choosing_of system p may_stop destination

  abbrev pub side : ℕ → ℕ → Grammar (Unit {0})
  side known left = choice false left x known

  choice_fails : (known left : ℕ) (c : Cursor) (f : Failure) → FailsBy (headed Syntax (choice_cases (sides_at side known left) (no_step false left x known) x known)) c f → FailsBy (side known left) c f
  unfolding choice
  choice_fails known zero c f h = h
  choice_fails known (suc left) c f h = h

  -- the lines of a choice are read
  pub choice_taken : {known left : ℕ} (tree : ChoiceTree) → IsChoiceWithin system p may_stop destination known left tree → (rest : List PlainLine) → (side known left).read (choice_lines tree ++ rest) ≡ Ok (tt, rest)
  choice_taken {known = known} {left = left} tree one rest =
      choice_read false system.variables system.cases (place_of p) may_stop (destination_owes system.variables p destination) (owes_free system.variables p destination) left known tree rest one.shape one.shallow

  module _ (known left : ℕ) where
    abbrev cases : PlainLine → Behind (Unit {0})
    cases = choice_cases (sides_at side known left) (no_step false left x known) x known

    pub choice_tree : IsTree system.variables side known left cases
    choice_tree = record { fails = choice_fails known left; of_formless = refl; of_wide = refl; of_split = λ zs. refl; of_empty = λ zs. refl }

    pub other_head : (head : Head) (zs : List ℤ) → (head ≡ heads.Split → ⊥) → (head ≡ heads.Empty → ⊥) → (head ≡ heads.NoStep → ⊥) → (head ≡ heads.Take → ⊥) → cases (formed head zs) ≡ stop Shape
    other_head heads.Split zs a b c d = absurd (a refl)
    other_head heads.Empty zs a b c d = absurd (b refl)
    other_head heads.NoStep zs a b c d = absurd (c refl)
    other_head heads.Take zs a b c d = absurd (d refl)
    other_head head zs a b c d = refl

  module _ (known left : ℕ) (old : Cursor) where
    -- ---- a case that is taken

    pub take_stops : (mid : Cursor) (zs : List ℤ) → IsBehind heads.Take zs old mid → NamesNoCase system p destination zs → FaultAt (side known left) old Shape mid.taken
    take_stops mid zs at none =
        tree_stops (choice_tree known left) old mid heads.Take zs at Shape (ap (take_behind system.variables known) (three_none (place_of p) system.cases x.counts zs none))

    module _ (mid : Cursor) (zs : List ℤ) (at : IsBehind heads.Take zs old mid) (case : LinearCase) (c k j n : ℕ) (is : IsTaken system p destination zs case c k j n) where
      abbrev found : Taken
      found = record { case = case; owed = n }

      named : with_three zs (λ c k j. taken_case x.place x.counts (slice_get system.cases c) k j) ≡ Some found
      named = ap (λ ys. with_three ys (λ c k j. taken_case x.place x.counts (slice_get system.cases c) k j)) is.numbers
          ∙ ap (λ o. taken_case x.place x.counts o k j) is.there
          ∙ ap (λ b. only_where b (taken_rows case (x.counts case k j))) (eq-eqb case.from (place_of p) is.from)
          ∙ ap (taken_rows case) (is.owes [])

      abbrev terms : Grammar (Unit {0})
      terms = many case.draws (draw system.variables)

      abbrev shown : Grammar (Unit {0})
      shown = many (length case.guards + n) (by (known + 1))

      pub draws_stop : (f : Failure) → FailsBy terms mid f → FailsBy (side known left) old f
      draws_stop f h = tree_goes (choice_tree known left) old mid heads.Take zs at (both terms shown) f (ap (take_behind system.variables known) named) (first_fails terms (λ _. shown) mid f h)

      module _ (draws : Vec Row) (next : Cursor) (are : AreMany (IsWide system.variables) case.draws draws.items) (first : Takes (row_lines heads.Draw draws.items) mid next) where
        pub shown_stop : (f : Failure) → FailsBy shown next f → FailsBy (side known left) old f
        shown_stop f h =
            tree_goes (choice_tree known left) old mid heads.Take zs at (both terms shown) f (ap (take_behind system.variables known) named)
            (second_fails terms (λ _. shown) tt mid next f (ap terms.read first.lines ∙ draws_read system.variables case.draws draws.items next.lines are.many are.each) first.last h)

        pub take_read : (lists : Vec (Vec ℤ)) (new : Cursor) → AreMany (AreNumbers (known + 1)) (length case.guards + n) (lists_in lists) → Takes (by_lines (lists_in lists)) next new → (tree : ChoiceTree) → tree ≡ Take c k j draws lists → IsChoiceWithin system p may_stop destination known left tree × Takes (choice_lines tree) old new
        take_read lists new many t tree made = subst (λ t. IsChoiceWithin system p may_stop destination known left t × Takes (choice_lines t) old new) (sym made) (
          record {
            shape = subst (λ o. TakeShape system.variables (place_of p) (destination_owes system.variables p destination) known o k j draws.items (lists_in lists)) (sym is.there) (
              is.from,
              are.many,
              are.each,
              subst (λ o. ListsShape (known + 1) o (lists_in lists)) (sym (guards_and (length case.guards) n (destination_owes system.variables p destination case draws.items k j) (is.owes draws.items))) (many.many, listed_wide (known + 1) (lists_in lists) many.each),
            );
            shallow = omega arith;
          },
          takes_as ((formed heads.Take zs ∷ []) ++ (row_lines heads.Draw draws.items ++ by_lines (lists_in lists))) (choice_lines (Take c k j draws lists)) old new (λ i. formed heads.Take (is.numbers i) ∷ (row_lines heads.Draw draws.items ++ by_lines (lists_in lists)))
              (takes_both (formed heads.Take zs ∷ []) (row_lines heads.Draw draws.items ++ by_lines (lists_in lists)) old mid new at.front (takes_both (row_lines heads.Draw draws.items) (by_lines (lists_in lists)) mid next new first t)),
        )

    -- ---- a split

    module _ (mid : Cursor) (zs : List ℤ) (at : IsBehind heads.Split zs old mid) (row : Linear) (is : IsRowOf system.variables zs row) (some : left ≡ 0 → ⊥) (holds : ChoiceTree) (next : Cursor) (one : IsChoiceWithin system p may_stop destination (known + 1) (left - 1) holds) (first : Takes (choice_lines holds) mid next) where
      pub split_read : (fails tree : ChoiceTree) (new : Cursor) → IsChoiceWithin system p may_stop destination (known + 1) (left - 1) fails → Takes (choice_lines fails) next new → IsChoiceSplitOf row holds fails tree → IsChoiceWithin system p may_stop destination known left tree × Takes (choice_lines tree) old new
      split_read fails (Split' r q a s b) new two second split = (
        record {
          shape = (
            ap columns split.0 ∙ is.wide,
            subst (ChoiceShape system.variables system.cases (place_of p) may_stop (destination_owes system.variables p destination) (known + 1)) (sym split.1) one.shape,
            subst (ChoiceShape system.variables system.cases (place_of p) may_stop (destination_owes system.variables p destination) (known + 1)) (sym split.2) two.shape,
          );
          shallow = (let x = ap choice_splits split.1 in let y = ap choice_splits split.2 in omega (arith, x, y, one.shallow, two.shallow, some));
        },
        takes_as ((formed heads.Split zs ∷ []) ++ (choice_lines holds ++ choice_lines fails)) (choice_lines (Split' r q a s b)) old new
            ((λ i. formed heads.Split (is.numbers i) ∷ (choice_lines holds ++ choice_lines fails)) ∙ (λ i. row_line heads.Split (sym split.0 i) ∷ (choice_lines (sym split.1 i) ++ choice_lines (sym split.2 i))))
            (takes_both (formed heads.Split zs ∷ []) (choice_lines holds ++ choice_lines fails) old mid new at.front (takes_both (choice_lines holds) (choice_lines fails) mid next new first second)),
      )
      split_read fails (Empty ms) new two second split = absurd split
      split_read fails (NoStep covers) new two second split = absurd split
      split_read fails (Take c k j draws lists) new two second split = absurd split

    -- ---- no step

    module _ (mid : Cursor) (at : IsBehind heads.NoStep [] old mid) where
      pub no_step_stops : may_stop ≡ false → FaultAt (side known left) old Shape mid.taken
      no_step_stops never = tree_stops (choice_tree known left) old mid heads.NoStep [] at Shape (ap (no_step_behind (no_step false left x known)) never)

      module _ (may : may_stop ≡ true) where
        pub covers_fail : (f : Failure) → FailsBy (mapped (λ all. tt {0}) (each (stop_cover false left system.variables known) (leaving (place_of p) system.cases))) mid f → FailsBy (side known left) old f
        covers_fail f h = tree_goes (choice_tree known left) old mid heads.NoStep [] at (no_step false left x known) f (ap (no_step_behind (no_step false left x known)) may) h

        pub covers_read : (covers : Vec CoverTree) (new : Cursor) → AllZip (IsStop system.variables known left) (leaving (place_of p) system.cases) covers.items → Takes (flat_map cover_lines covers.items) mid new → IsChoiceWithin system p may_stop destination known left (NoStep covers) × Takes (choice_lines (NoStep covers)) old new
        covers_read covers new all t =
            let from = leaving (place_of p) system.cases in (
              record {
                shape = (may, stops_shape system.variables known left from covers.items all);
                shallow = stops_shallow system.variables known left from covers.items all;
              },
              takes_both (formed heads.NoStep [] ∷ []) (flat_map cover_lines covers.items) old mid new at.front t,
            )

-- The choices that lines are those of.
use Rattle.std.proofs.Common.{◌≡◌, ◌↔◌, ℕ, ◌+◌, ◌-◌, ◌≤◌, ℤ, Bool, true, false, IsTrue, List, [], ◌∷◌, ◌++◌, length, Some, Result, Ok, Err, refl, sym, ap, ◌∙◌, subst, arith, length-append}
use Rattle.std.specs.Global.{Vec, Global}
use Rattle.std.specs.Option.{option_map}
use Rattle.std.proofs.lemmas.List.{length-map}
use Rattle.tv_grammar.specs.Langs.{mapped, each}
use Rattle.tv_lines.specs.declared.head.Head.TheVariants as heads
use Rattle.tv_linear.specs.Linear.{Linear}
use Rattle.tv_linear.specs.Known.{Known, given, denied, composed}
use Rattle.tv_linear.specs.Covers.{ShownAt}
use Rattle.tv_linear.specs.Refutation.{Refutes}
use Rattle.tv_linear.specs.Terms.{draw_terms}
use Rattle.tv_linear.specs.declared.row.Row.{Row}
use Rattle.tv_linear.specs.declared.choice.ChoiceTree.{Split', Empty, NoStep, Take}
use Rattle.tv_cases.specs.LinearCases.{LinearCase, CaseSystem, leaving}
use Rattle.tv_cert.specs.declared.node.Marked.{Marked}
use Rattle.tv_cert.specs.declared.owes.Destination.{Destination}
use Rattle.tv_cert.specs.Choices.{TakeMet, drawn_guards}
use Rattle.tv_cert.specs.OwesViews.{destination_owes}
use Rattle.tv_cert.specs.Pieces.{place_of}
use Rattle.tv_cert_reader.specs.CertificateLines.{row_lines}
use Rattle.tv_cert_reader.specs.ChoiceGrammar.{choice, stop_cover}
use Rattle.tv_cert_reader.specs.CoverGrammar.{both}
use Rattle.tv_cert_reader.specs.LineGrammar.{Grammar, many, by}
use Rattle.tv_cert_reader.proofs.CompleteCovers.{choice_read}
use Rattle.tv_cert_reader.specs.declared.cursor.Cursor.{Cursor}
use Rattle.tv_cert_reader.specs.declared.failure.Failure.{Failure}
use Rattle.tv_cert_reader.specs.Reading.{Takes, FailsBy}
use Rattle.tv_cert_reader.specs.Parts.{IsRowOf, AreMany, AreNumbers, IsWide}
use Rattle.tv_cert_reader.specs.Covers.{IsBehind}
use Rattle.tv_cert_reader.specs.Choices.{choosing_of, IsChoiceWithin, IsStop, IsTaken}
use Rattle.tv_cert_reader.proofs.ChoiceLemmas.{choice_tree, owes_free, split_read, covers_fail, covers_read, shown_stop, take_read}
use Rattle.tv_cert_reader.proofs.TreeLemmas.{sides_fail}
use Rattle.tv_cert_reader.proofs.ReadingLemmas.{first_fails, second_fails}
use Rattle.tv_check_text.specs.Checking.{choice_side, numbers_in, CheckedChoice, CheckedChoiceSides, CheckedLists, CheckedStops, ChecksChoice, ChecksChoiceSides, ChecksStops}
use Rattle.tv_cert_reader.proofs.WalkLemmas.{vector}
use Rattle.tv_check_text.proofs.TreeLemmas.{room_at, few_taken, one_more}
use Rattle.tv_check_text.proofs.StopLemmas.{zip_many}

module _ (system : CaseSystem) (p : Marked) (stop : Bool) (destination : Destination) where
  abbrev pub FailsChoice : List Known → ℕ → Cursor → Failure → Type 0
  FailsChoice known left old f = FailsBy (choice false left (choosing_of system p stop destination) (length known)) old f

  -- both sides of a split
  module _ (known : List Known) (left : ℕ) (row : Linear) (old : Cursor) where
    abbrev pub side : Grammar (Unit {0})
    side = choice_side system p stop destination known left

    pub inside_fails : (f : Failure) → FailsChoice (known ++ given row ∷ []) left old f → FailsBy (both side side) old f
    inside_fails f h = first_fails side (λ _. side) old f (subst (λ m. FailsBy (choice false left (choosing_of system p stop destination) m) old f) (one_more known (given row)) h)

    pub outside_fails : (next : Cursor) (inside : Bool) → CheckedChoice system p stop destination (known ++ given row ∷ []) left old next inside → (f : Failure) → FailsChoice (known ++ denied (given row) ∷ []) left next f → FailsBy (both side side) old f
    outside_fails next inside one f h =
        let within = subst (λ m. IsChoiceWithin system p stop destination m left one.tree) (one_more known (given row)) one.within in
        second_fails side (λ _. side) tt old next f
        (ap side.read one.took.lines ∙ choice_read false system.variables system.cases (place_of p) stop (destination_owes system.variables p destination) (owes_free system.variables p destination) left (length known + 1) one.tree next.lines within.shape within.shallow) one.took.last
        (subst (λ m. FailsBy (choice false left (choosing_of system p stop destination) m) next f) (one_more known (denied (given row))) h)

  module _ (known : List Known) (left : ℕ) (old mid : Cursor) (zs : List ℤ) (at : IsBehind heads.Split zs old mid) (row : Linear) (is : IsRowOf system.variables zs row) (some : left ≡ 0 → ⊥) where
    sides_checked : (heap : Global) (new : Cursor) (met : Bool) → CheckedChoiceSides system p stop destination known (left - 1) row mid new met → CheckedChoice system p stop destination known left old new met
    sides_checked heap new met h =
        let one = h.holds in
        let two = h.fails in
        let tree = Split' row (room_at heap) one.tree (room_at heap) two.tree in
        let r =
        split_read system p stop destination (length known) left old mid zs at row is some one.tree h.middle (subst (λ m. IsChoiceWithin system p stop destination m (left - 1) one.tree) (one_more known (given row)) one.within) one.took
        two.tree tree new (subst (λ m. IsChoiceWithin system p stop destination m (left - 1) two.tree) (one_more known (denied (given row))) two.within) two.took (refl, refl, refl) in
        record { tree = tree; within = r.0; took = r.1; told = (λ t. (one.told.0 (h.told.0 t).0, two.told.0 (h.told.0 t).1), λ k. h.told.1 (one.told.1 k.0, two.told.1 k.1)) }

    pub split_checks : (heap : Global) (new : Cursor) (result : Result Bool Failure) → ChecksChoiceSides system p stop destination known (left - 1) row mid new result → ChecksChoice system p stop destination known left old new result
    split_checks heap new (Ok met) h = sides_checked heap new met h
    split_checks heap new (Err f) h = sides_fail (choice_tree system p stop destination (length known) left) old mid zs at row is some f h

  module _ (known : List Known) (left : ℕ) (old : Cursor) where
    pub empty_checked : (new : Cursor) (ms : Vec ℤ) → IsBehind heads.Empty ms.items old new → length ms.items ≡ length known → (met : Bool) → (IsTrue met ↔ Refutes system.variables known ms.items) → CheckedChoice system p stop destination known left old new met
    empty_checked new ms at many met told = record { tree = Empty ms; within = record { shape = many; shallow = omega arith }; took = at.front; told = told }

    -- ---- no step

    module _ (mid : Cursor) (at : IsBehind heads.NoStep [] old mid) (may : stop ≡ true) where
      pub stops_fail : (f : Failure) → FailsBy (mapped (λ all. tt {0}) (each (stop_cover false left system.variables (length known)) (leaving (place_of p) system.cases))) mid f → FailsChoice known left old f
      stops_fail f h = covers_fail system p stop destination (length known) left old mid at may f h

      pub stops_checked : (heap : Global) (new : Cursor) (met : Bool) → length (leaving (place_of p) system.cases) ≤ 8192 → CheckedStops system.variables known left (leaving (place_of p) system.cases) mid new met → CheckedChoice system p stop destination known left old new met
      stops_checked heap new met bounded h =
          let many = zip_many (IsStop system.variables (length known) left) (leaving (place_of p) system.cases) h.covers h.zip in
          let covers = vector heap h.covers (omega (arith, bounded, many)) in
          let r = covers_read system p stop destination (length known) left old mid at may covers new h.zip h.took in
          record { tree = NoStep covers; within = r.0; took = r.1; told = (λ t. (may, h.told.0 t), λ m. h.told.1 m.1) }

      pub stops_checks : (heap : Global) (new : Cursor) (result : Result Bool Failure) → length (leaving (place_of p) system.cases) ≤ 8192 → ChecksStops system.variables known left (leaving (place_of p) system.cases) mid new result → ChecksChoice system p stop destination known left old new result
      stops_checks heap new (Ok met) bounded h = stops_checked heap new met bounded h
      stops_checks heap new (Err f) bounded h = stops_fail f h

    -- ---- a case that is taken

    module _ (mid : Cursor) (zs : List ℤ) (at : IsBehind heads.Take zs old mid) (case : LinearCase) (c k j m : ℕ) (is : IsTaken system p destination zs case c k j m) (draws : Vec Row) (next : Cursor) (are : AreMany (IsWide system.variables) case.draws draws.items) (first : Takes (row_lines heads.Draw draws.items) mid next) (rows : List Known) (owes : destination_owes system.variables p destination case draws.items k j ≡ Some rows) where
      counted : length (drawn_guards system.variables case draws.items ++ rows) ≡ length case.guards + m
      counted =
          let e = length-append (drawn_guards system.variables case draws.items) rows in
          let g = length-map case.guards (λ r. composed (given r) (draw_terms system.variables draws.items)) in
          let o : Some (length rows) ≡ Some m = ap (option_map length) (sym owes) ∙ is.owes draws.items in
          let l : length rows ≡ m = cc in
          omega (arith, e, g, l)

      pub rows_fail : (f : Failure) → FailsBy (many (length (drawn_guards system.variables case draws.items ++ rows)) (by (length known + 1))) next f → FailsChoice known left old f
      rows_fail f h = shown_stop system p stop destination (length known) left old mid zs at case c k j m is draws next are first f (subst (λ count. FailsBy (many count (by (length known + 1))) next f) counted h)

      pub take_checked : (heap : Global) (new : Cursor) (met : Bool) → CheckedLists system.variables known (drawn_guards system.variables case draws.items ++ rows) next new met → CheckedChoice system p stop destination known left old new met
      take_checked heap new met h =
          let lists = vector heap h.lists (few_taken h.lists next new h.took) in
          let r = take_read system p stop destination (length known) left old mid zs at case c k j m is draws next are first lists new (subst (λ count. AreMany (AreNumbers (length known + 1)) count (numbers_in h.lists)) counted h.many) h.took (Take c k j draws lists) refl in
          let here : IsTrue met ↔ TakeMet system.variables (place_of p) (destination_owes system.variables p destination) known (Some case) k j draws.items (numbers_in h.lists) = (
            λ t. (is.from, are.many, subst (λ o. ShownAt system.variables known (option_map (λ rows. drawn_guards system.variables case draws.items ++ rows) o) (numbers_in h.lists)) (sym owes) (h.told.0 t)),
            λ e. h.told.1 (subst (λ o. ShownAt system.variables known (option_map (λ rows. drawn_guards system.variables case draws.items ++ rows) o) (numbers_in h.lists)) owes e.2),
          ) in
          record {
            tree = Take c k j draws lists;
            within = r.0;
            took = r.1;
            told = subst (λ o. IsTrue met ↔ TakeMet system.variables (place_of p) (destination_owes system.variables p destination) known o k j draws.items (numbers_in h.lists)) (sym is.there) here;
          }

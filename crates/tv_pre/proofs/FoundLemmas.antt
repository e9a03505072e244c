-- What is found of a formula, from what is found of its arguments.
use Rattle.std.proofs.Common.{zero, ◌<◌, length, get_or, ◌≡◌, inl, inr, ℕ, suc, ◌+◌, ◌≤◌, List, [], ◌∷◌, ◌++◌, refl, sym, ap, ◌∙◌, subst, arith}
use Rattle.std.specs.Prelude.{All, Option, None, Some, IfSome, sum}
use Rattle.std.proofs.lemmas.List.Elements.{All-nil, All-cons}
use Rattle.tv_formula.specs.declared.tree.Path.{Path}
use Rattle.tv_formula.specs.declared.tree.Shape.{Shape}
use Rattle.tv_formula.specs.Properties.{Property, Properties, none, more}
use Rattle.tv_formula.specs.Properties as props
use Rattle.tv_linear.specs.declared.region.Region.{Region}
use Rattle.tv_cases.specs.Comparisons.{comparison_lists}
use Rattle.tv_cases.specs.LinearCases.{CaseSystem, IsCase}
use Rattle.tv_cases.proofs.ContainsLemmas.{Contains-none}
use Rattle.tv_cert.specs.declared.node.Node.{Node}
use Rattle.tv_cert.specs.declared.aim.Aim.{Aim}
use Rattle.tv_cert.specs.AimViews.{statements_of, aim_states, aims_state}
use Rattle.tv_cert.specs.Statements.{Statement, each_of, one_of, after, along, no_statement, denial_of, stated, stated_all}
use Rattle.tv_cert.specs.Statements as statements
use Rattle.tv_farkas.specs.declared.budget.Budget.{Budget}
use Rattle.tv_farkas.specs.declared.fault.CoverFault.{CoverFault}
use Rattle.tv_known.specs.Cycles.{IsLastRound, IsStateOf}
use Rattle.tv_known.specs.Sizes.{product, fix_count, count, product_count, sum_count}
use Rattle.tv_program.specs.Steps.{State}
use Rattle.tv_region.specs.Regions.{IsRegion, count_at}
use Rattle.tv_region.specs.StepRegions.{InState, IsTame, HasNoDraws}
use Rattle.tv_pre.specs.declared.fault.PreFault.{PreFault}
use Rattle.tv_pre.specs.declared.outcome.Found.{Found}
use Rattle.tv_pre.specs.declared.test.Test.{Test}
use Rattle.tv_pre.specs.declared.test.Test.TheVariants.{Rows, Here, Elsewhere}
use Rattle.tv_pre.specs.Atoms.{IsTested, IsTestOf, test_lists}
use Rattle.tv_pre.specs.Faults.{IsOfCover}
use Rattle.tv_pre.specs.Parts.{IsPart, AreParts, joined_pieces}
use Rattle.tv_pre.specs.Questions.{Question, lies, IsRefusal, AsksOf, AsksEach, AsksNext}
use Rattle.tv_pre.specs.Along.{OthersLeadOut}
use Rattle.tv_pre.specs.Full.{HasRows, AllHaveRows, IsFull, AreFull}
use Rattle.tv_pre.specs.Inclusions.{OfPieces}
use Rattle.tv_pre.specs.declared.gap.Gap.{Gap}
use Rattle.tv_pre.specs.declared.gap.Gap.TheVariants.{Inexact, Open}
use Rattle.tv_pre.specs.Finding.{IsGapFor, IsGapAmong, first_of, gap_behind, IsFullFor, ArePartsFor, steps_back, all_steps_back, size, total_size, IsFound, IsRefusedFor, test_statement}
use Rattle.tv_pre.specs.Arguments.{IsArgument, AreEachArgument, AreFullFor, AreArguments}
use Rattle.tv_pre.specs.declared.finding.Arguments.{Arguments}
use Rattle.tv_pre.specs.Sized.{counts_at, IsFewBefore}
use Rattle.tv_pre.specs.Built.{HasAtom, SomeHasAtom, atom_lists, IsAtomRegion, IsBuilt, of_atom, AreBuilt, IsAsked, IsBuiltOf, IsFaultOf, IsPreFault}
use Rattle.tv_pre.proofs.BuiltLemmas.{asked_to, built_to, built_wider, fault_to, fault_wider, one_built, more_built, pieces_of, joined_of, first_built}
use Rattle.tv_pre.proofs.PassedLemmas.{cover_fault}
use Rattle.tv_pre.proofs.AskedLemmas.{each_asked, place_asked, next_asked}
use Rattle.tv_pre.proofs.FullLemmas.{atom_full, each_full, some_full, next_full}
use Rattle.tv_pre.proofs.GapLemmas.{gap_weaker, among_more, each_gap, one_gap}
use Rattle.tv_pre.proofs.FormulaLemmas.{each_is, one_is, after_is, along_is}
use Rattle.tv_pre.proofs.SizedAtoms.{test_few, tested_few}
use Rattle.tv_pre.proofs.SizedLemmas.{none_summed, more_summed}
use Rattle.tv_known.proofs.SizeLemmas.{trans}
use Rattle.std.proofs.lemmas.Nat.{mul-le}

-- ---- gaps
pub none_of_two : (first second : Option Gap) → first_of first second ≡ None → (first ≡ None) × (second ≡ None)
none_of_two None second e = (refl, e)
none_of_two (Some gap) second e = absurd cc

pub none_behind : (count : ℕ) (gap : Option Gap) → gap_behind count gap ≡ None → gap ≡ None
none_behind count None e = refl
none_behind count (Some Inexact) e = absurd cc
none_behind count (Some (Open place)) e = absurd cc

-- ---- the last round
pub one_last : (about : CaseSystem) (n m : ℕ) → IsLastRound about 8 n → IsLastRound about 8 m → n ≡ m
one_last about n m (inl a) (inl b) = a.1 ∙ sym b.1
one_last about n m (inl a) (inr b) = absurd (b.0 a.0)
one_last about n m (inr a) (inl b) = absurd (a.0 b.0)
one_last about n m (inr a) (inr b) = a.1 ∙ sym b.1

module _ (about : CaseSystem) (last : ℕ) where
  -- ---- arguments
  pub found_argument : (s : Statement) (found : Found) → IsFound about last s found → IsArgument about last s found.part.region found.part.node
  found_argument s found h = record { over = h.over; shows = h.shows; built = h.built; bounded = h.bounded }

  pub argument_more : (ss : List Statement) (rs : List Region) (ns : List Node) (s : Statement) (r : Region) (n : Node) → AreEachArgument about last ss rs ns → IsArgument about last s r n → AreEachArgument about last (ss ++ s ∷ []) (rs ++ r ∷ []) (ns ++ n ∷ [])
  argument_more [] [] [] s r n h k = (k, tt)
  argument_more [] [] (m ∷ ns) s r n h k = absurd h
  argument_more [] (q ∷ rs) ns s r n h k = absurd h
  argument_more (t ∷ ss) [] ns s r n h k = absurd h
  argument_more (t ∷ ss) (q ∷ rs) [] s r n h k = absurd h
  argument_more (t ∷ ss) (q ∷ rs) (m ∷ ns) s r n h k = (h.0, argument_more ss rs ns s r n h.1 k)

  total_more : (ss : List Statement) (s : Statement) → total_size (statements_of (ss ++ s ∷ [])) ≡ total_size (statements_of ss) + size s
  total_more [] s = omega arith
  total_more (t ∷ ss) s = (let e = total_more ss s in omega (arith, e))

  pub argument_over : (ss : List Statement) (rs : List Region) (ns : List Node) → AreEachArgument about last ss rs ns → All (IsRegion about.variables about.locations) rs
  argument_over [] [] [] h = All-nil (IsRegion about.variables about.locations)
  argument_over [] [] (m ∷ ns) h = absurd h
  argument_over [] (q ∷ rs) ns h = absurd h
  argument_over (t ∷ ss) [] ns h = absurd h
  argument_over (t ∷ ss) (q ∷ rs) [] h = absurd h
  argument_over (t ∷ ss) (q ∷ rs) (m ∷ ns) h = All-cons (IsRegion about.variables about.locations) q rs h.0.over (argument_over ss rs ns h.1)

  argument_parts : (ss : List Statement) (rs : List Region) (ns : List Node) → AreEachArgument about last ss rs ns → ArePartsFor about (statements_of ss) rs ns
  argument_parts [] [] [] h none e = tt
  argument_parts [] [] [] h (more f fs) e = absurd cc
  argument_parts [] [] (m ∷ ns) h fs e = absurd h
  argument_parts [] (q ∷ rs) ns h fs e = absurd h
  argument_parts (t ∷ ss) [] ns h fs e = absurd h
  argument_parts (t ∷ ss) (q ∷ rs) [] h fs e = absurd h
  argument_parts (t ∷ ss) (q ∷ rs) (m ∷ ns) h none e = absurd cc
  argument_parts (t ∷ ss) (q ∷ rs) (m ∷ ns) h (more f fs) e = (h.0.shows f cc, argument_parts ss rs ns h.1 fs cc)

  pub argument_built : (ss : List Statement) (rs : List Region) (ns : List Node) (whole : Statement) (k : ℕ) → ((a : Statement) → SomeHasAtom (statements_of ss) a → HasAtom whole a) → all_steps_back last (statements_of ss) ≤ k → AreEachArgument about last ss rs ns → AreBuilt about whole k rs
  argument_built [] [] [] whole k w l h = λ x c. absurd (Contains-none x c)
  argument_built [] [] (m ∷ ns) whole k w l h = absurd h
  argument_built [] (q ∷ rs) ns whole k w l h = absurd h
  argument_built (t ∷ ss) [] ns whole k w l h = absurd h
  argument_built (t ∷ ss) (q ∷ rs) [] whole k w l h = absurd h
  argument_built (t ∷ ss) (q ∷ rs) (m ∷ ns) whole k w l h =
      more_built about whole k q rs (built_wider about t whole (λ a x. w a (inl x)) k q (built_to about t (steps_back last t) k q (omega (arith, l)) h.0.built))
      (argument_built ss rs ns whole k (λ a x. w a (inr x)) (omega (arith, l)) h.1)

  argument_full : (ss : List Statement) (rs : List Region) → AreFullFor about ss rs → (fs : Properties) → statements_of ss ≡ stated_all (comparison_lists about.variables) fs → AllHaveRows about.variables fs → AreFull about fs rs
  argument_full [] [] h none e w = tt
  argument_full [] [] h (more f fs) e w = absurd cc
  argument_full [] (q ∷ rs) h fs e w = absurd h
  argument_full (t ∷ ss) [] h fs e w = absurd h
  argument_full (t ∷ ss) (q ∷ rs) h none e w = absurd cc
  argument_full (t ∷ ss) (q ∷ rs) h (more f fs) e w =
      let first : t ≡ stated (comparison_lists about.variables) f = cc in
      let rest : statements_of ss ≡ stated_all (comparison_lists about.variables) fs = cc in
      (h.0 f first w.0, argument_full ss rs h.1 fs rest w.1)

  -- how many pieces the arguments have at a location, where no case has a draw
  module _ (plain : HasNoDraws about) (m : ℕ) (is : IsLastRound about 9 m) (l : ℕ) where
    argument_product : (ss : List Statement) (rs : List Region) (ns : List Node) → AreEachArgument about last ss rs ns → (fs : Properties) → statements_of ss ≡ stated_all (comparison_lists about.variables) fs → product (counts_at l rs) ≤ product_count about.cases m fs l
    argument_product [] [] [] h none e = omega arith
    argument_product [] [] [] h (more f fs) e = absurd cc
    argument_product [] [] (n ∷ ns) h fs e = absurd h
    argument_product [] (q ∷ rs) ns h fs e = absurd h
    argument_product (t ∷ ss) [] ns h fs e = absurd h
    argument_product (t ∷ ss) (q ∷ rs) [] h fs e = absurd h
    argument_product (t ∷ ss) (q ∷ rs) (n ∷ ns) h none e = absurd cc
    argument_product (t ∷ ss) (q ∷ rs) (n ∷ ns) h (more f fs) e =
        let first : t ≡ stated (comparison_lists about.variables) f = cc in
        let rest : statements_of ss ≡ stated_all (comparison_lists about.variables) fs = cc in
        mul-le (count_at l q) (product (counts_at l rs)) (count about.cases m f l) (product_count about.cases m fs l) (h.0.bounded plain m is f first l) (argument_product ss rs ns h.1 fs rest)

    pub argument_sum : (ss : List Statement) (rs : List Region) (ns : List Node) → AreEachArgument about last ss rs ns → (fs : Properties) → statements_of ss ≡ stated_all (comparison_lists about.variables) fs → sum (counts_at l rs) ≤ sum_count about.cases m fs l
    argument_sum [] [] [] h none e = none_summed
    argument_sum [] [] [] h (more f fs) e = absurd cc
    argument_sum [] [] (n ∷ ns) h fs e = absurd h
    argument_sum [] (q ∷ rs) ns h fs e = absurd h
    argument_sum (t ∷ ss) [] ns h fs e = absurd h
    argument_sum (t ∷ ss) (q ∷ rs) [] h fs e = absurd h
    argument_sum (t ∷ ss) (q ∷ rs) (n ∷ ns) h none e = absurd cc
    argument_sum (t ∷ ss) (q ∷ rs) (n ∷ ns) h (more f fs) e =
        let first : t ≡ stated (comparison_lists about.variables) f = cc in
        let rest : statements_of ss ≡ stated_all (comparison_lists about.variables) fs = cc in
        more_summed (count_at l q) (counts_at l rs) (count about.cases m f l) (sum_count about.cases m fs l) (h.0.bounded plain m is f first l) (argument_sum ss rs ns h.1 fs rest)

  full_more : (ss : List Statement) (rs : List Region) (s : Statement) (r : Region) → AreFullFor about ss rs → IsFullFor about s r → AreFullFor about (ss ++ s ∷ []) (rs ++ r ∷ [])
  full_more [] [] s r h k = (k, tt)
  full_more [] (q ∷ rs) s r h k = absurd h
  full_more (t ∷ ss) [] s r h k = absurd h
  full_more (t ∷ ss) (q ∷ rs) s r h k = (h.0, full_more ss rs s r h.1 k)

  -- ---- conjunctions and disjunctions
  module _ (ss : List Statement) (rs : List Region) (ns : List Node) (h : AreEachArgument about last ss rs ns) where
    each_built : AreBuilt about (each_of (statements_of ss)) (all_steps_back last (statements_of ss)) rs
    each_built = argument_built ss rs ns (each_of (statements_of ss)) (all_steps_back last (statements_of ss)) (λ a x. x) (omega arith) h

    some_built : AreBuilt about (one_of (statements_of ss)) (all_steps_back last (statements_of ss)) rs
    some_built = argument_built ss rs ns (one_of (statements_of ss)) (all_steps_back last (statements_of ss)) (λ a x. x) (omega arith) h

    pub each_is_found : (found : Found) → IsRegion about.variables about.locations found.part.region → ((fs : Properties) → AreParts about fs rs ns → IsPart about (props.all_of fs) found.part.region found.part.node) → IsBuiltOf about 0 rs found.part.region → found.size ≡ 1 + total_size (statements_of ss) →
        (found.gap ≡ None → AreFullFor about ss rs) → ((s : State) → IsStateOf about s → All (λ x. InState x s) rs → InState found.part.region s) → IfSome found.gap (IsGapAmong about last (statements_of ss)) →
        ((l : ℕ) → count_at l found.part.region ≤ product (counts_at l rs)) → IsFound about last (each_of (statements_of ss)) found
    each_is_found found over p b z full all of bounded = record {
      bounded = λ plain m is f e l.
          (let w = each_is (comparison_lists about.variables) (statements_of ss) f e in
          subst (λ g. count_at l found.part.region ≤ count about.cases m g l) (sym w.1) (trans (count_at l found.part.region) (product (counts_at l rs)) (product_count about.cases m w.0 l) (bounded l) (argument_product plain m is l ss rs ns h w.0 w.2)));
      gap = gap_weaker (IsGapAmong about last (statements_of ss)) (IsGapFor about last (each_of (statements_of ss))) found.gap (each_gap about last (statements_of ss)) of;
      over = over;
      shows = λ f e. (let w = each_is (comparison_lists about.variables) (statements_of ss) f e in subst (λ g. IsPart about g found.part.region found.part.node) (sym w.1) (p w.0 (argument_parts ss rs ns h w.0 w.2)));
      built = (let k = all_steps_back last (statements_of ss) in built_to about (each_of (statements_of ss)) (0 + k) k found.part.region (omega arith) (b (each_of (statements_of ss)) k each_built));
      size = z;
      full = λ gap f e rows.
          (let w = each_is (comparison_lists about.variables) (statements_of ss) f e in
          let kept = subst (HasRows about.variables) w.1 rows in
          subst (λ g. IsFull about g found.part.region) (sym w.1) (each_full about w.0 rs found.part.region (argument_over ss rs ns h) (argument_full ss rs (full gap) w.0 w.2 kept) all));
    }

    pub some_is_found : (found : Found) → IsRegion about.variables about.locations found.part.region → ((fs : Properties) → AreParts about fs rs ns → IsPart about (props.some_of fs) found.part.region found.part.node) → IsBuiltOf about 0 rs found.part.region → found.size ≡ 1 + total_size (statements_of ss) →
        (found.gap ≡ None → AreFullFor about ss rs) → All (λ x. OfPieces about x.pieces.items (InState found.part.region)) rs → IfSome found.gap (IsGapAmong about last (statements_of ss)) →
        ((l : ℕ) → count_at l found.part.region ≤ sum (counts_at l rs)) → IsFound about last (one_of (statements_of ss)) found
    some_is_found found over p b z full all of bounded = record {
      bounded = λ plain m is f e l.
          (let w = one_is (comparison_lists about.variables) (statements_of ss) f e in
          subst (λ g. count_at l found.part.region ≤ count about.cases m g l) (sym w.1) (trans (count_at l found.part.region) (sum (counts_at l rs)) (sum_count about.cases m w.0 l) (bounded l) (argument_sum plain m is l ss rs ns h w.0 w.2)));
      gap = gap_weaker (IsGapAmong about last (statements_of ss)) (IsGapFor about last (one_of (statements_of ss))) found.gap (one_gap about last (statements_of ss)) of;
      over = over;
      shows = λ f e. (let w = one_is (comparison_lists about.variables) (statements_of ss) f e in subst (λ g. IsPart about g found.part.region found.part.node) (sym w.1) (p w.0 (argument_parts ss rs ns h w.0 w.2)));
      built = (let k = all_steps_back last (statements_of ss) in built_to about (one_of (statements_of ss)) (0 + k) k found.part.region (omega arith) (b (one_of (statements_of ss)) k some_built));
      size = z;
      full = λ gap f e rows.
          (let w = one_is (comparison_lists about.variables) (statements_of ss) f e in
          let kept = subst (HasRows about.variables) w.1 rows in
          subst (λ g. IsFull about g found.part.region) (sym w.1) (some_full about w.0 rs found.part.region (argument_full ss rs (full gap) w.0 w.2 kept) all));
    }

    pub each_fault : (budget : Budget) (fault r : PreFault) → r ≡ fault → IsFaultOf about budget 0 rs fault → IsRefusedFor about budget last (each_of (statements_of ss)) r
    each_fault budget fault r e f =
        let k = all_steps_back last (statements_of ss) in
        subst (IsPreFault about (each_of (statements_of ss)) budget k) (sym e) (fault_to about (each_of (statements_of ss)) budget (0 + k) k fault (omega arith) (f (each_of (statements_of ss)) k each_built))

    pub some_fault : (budget : Budget) (fault r : PreFault) → r ≡ fault → IsFaultOf about budget 0 rs fault → IsRefusedFor about budget last (one_of (statements_of ss)) r
    some_fault budget fault r e f =
        let k = all_steps_back last (statements_of ss) in
        subst (IsPreFault about (one_of (statements_of ss)) budget k) (sym e) (fault_to about (one_of (statements_of ss)) budget (0 + k) k fault (omega arith) (f (one_of (statements_of ss)) k some_built))

    pub each_asks : (region : Region) → IsBuiltOf about 0 rs region → (a : Question) → AsksOf (λ q. AsksEach q rs) region.pieces.items a → IsAsked about (each_of (statements_of ss)) (all_steps_back last (statements_of ss)) a
    each_asks region b a w =
        let t = each_of (statements_of ss) in
        let k = all_steps_back last (statements_of ss) in
        let own = pieces_of about t k region (built_to about t (0 + k) k region (omega arith) (b t k each_built)) in
        each_asked about t k region.pieces.items w.0 rs a own w.1 each_built w.2

    pub some_asks : (region : Region) → IsBuiltOf about 0 rs region → (a : Question) → AsksOf (λ q b. b ≡ lies q (joined_pieces rs)) region.pieces.items a → IsAsked about (one_of (statements_of ss)) (all_steps_back last (statements_of ss)) a
    some_asks region b a w =
        let t = one_of (statements_of ss) in
        let k = all_steps_back last (statements_of ss) in
        let own = pieces_of about t k region (built_to about t (0 + k) k region (omega arith) (b t k some_built)) in
        place_asked about t k region.pieces.items (joined_pieces rs) w.0 a own w.1 (joined_of about t k rs some_built) w.2

    pub each_question : (budget : Budget) (region : Region) (fault : CoverFault) (r : PreFault) → IsBuiltOf about 0 rs region → IsOfCover fault r → IsRefusal about budget (AsksOf (λ q. AsksEach q rs) region.pieces.items) fault → IsRefusedFor about budget last (each_of (statements_of ss)) r
    each_question budget region fault r b is f =
        cover_fault about budget (each_of (statements_of ss)) (all_steps_back last (statements_of ss)) (AsksOf (λ q. AsksEach q rs) region.pieces.items) (each_asks region b) fault r is f

    pub some_question : (budget : Budget) (region : Region) (fault : CoverFault) (r : PreFault) → IsBuiltOf about 0 rs region → IsOfCover fault r → IsRefusal about budget (AsksOf (λ q a. a ≡ lies q (joined_pieces rs)) region.pieces.items) fault → IsRefusedFor about budget last (one_of (statements_of ss)) r
    some_question budget region fault r b is f =
        cover_fault about budget (one_of (statements_of ss)) (all_steps_back last (statements_of ss)) (AsksOf (λ q a. a ≡ lies q (joined_pieces rs)) region.pieces.items) (some_asks region b) fault r is f

  -- ---- next states
  module _ (path : Path) (s : Statement) (child : Found) (h : IsFound about last s child) where
    child_built : AreBuilt about (after path s) (steps_back last s) (child.part.region ∷ [])
    child_built = one_built about (after path s) (steps_back last s) child.part.region (built_wider about s (after path s) (λ a x. x) (steps_back last s) child.part.region h.built)

    pub after_is_found : (found : Found) → IsRegion about.variables about.locations found.part.region → ((f : Property) → AreParts about (more f none) (child.part.region ∷ []) (child.part.node ∷ []) → IsPart about (props.next path f) found.part.region found.part.node) → IsBuiltOf about 1 (child.part.region ∷ []) found.part.region → found.size ≡ 1 + child.size →
        All (IsCase about.variables about.locations) about.cases → (found.gap ≡ None → IsTame about child.part.region × (child.gap ≡ None)) → OthersLeadOut about path child.part.region found.part.region → IfSome found.gap (IsGapFor about last (after path s)) →
        IsFewBefore about path child.part.region found.part.region → IsFound about last (after path s) found
    after_is_found found over p b z cases told others of bounded = record {
      bounded = λ plain m is f e l.
          (let w = after_is (comparison_lists about.variables) path s f e in
          subst (λ g. count_at l found.part.region ≤ count about.cases m g l) (sym w.1) (bounded plain (λ k. count about.cases m w.0 k) (λ k. h.bounded plain m is w.0 w.2 k) l));
      gap = of;
      over = over;
      shows = λ f e. (let w = after_is (comparison_lists about.variables) path s f e in subst (λ g. IsPart about g found.part.region found.part.node) (sym w.1) (p w.0 (h.shows w.0 w.2, tt)));
      built = built_to about (after path s) (1 + steps_back last s) ((last + 2) + steps_back last s) found.part.region (omega arith) (b (after path s) (steps_back last s) child_built);
      size = z ∙ ap (λ k. 1 + k) h.size;
      full = λ gap f e rows.
          (let w = after_is (comparison_lists about.variables) path s f e in
          let kept = subst (HasRows about.variables) w.1 rows in
          let tame = told gap in
          subst (λ g. IsFull about g found.part.region) (sym w.1) (next_full about cases path w.0 child.part.region found.part.region tame.0 others (h.full tame.1 w.0 w.2 kept)));
    }

    pub after_fault : (budget : Budget) (fault r : PreFault) → r ≡ fault → IsFaultOf about budget 1 (child.part.region ∷ []) fault → IsRefusedFor about budget last (after path s) r
    after_fault budget fault r e f =
        subst (IsPreFault about (after path s) budget ((last + 2) + steps_back last s)) (sym e)
        (fault_to about (after path s) budget (1 + steps_back last s) ((last + 2) + steps_back last s) fault (omega arith) (f (after path s) (steps_back last s) child_built))

    pub after_asks : (region : Region) → IsBuiltOf about 1 (child.part.region ∷ []) region → (a : Question) → AsksOf (λ q. AsksNext about path q child.part.region.pieces.items) region.pieces.items a → IsAsked about (after path s) ((last + 2) + steps_back last s) a
    after_asks region b a w =
        let t = after path s in
        let k = 1 + steps_back last s in
        let own = pieces_of about t k region (b t (steps_back last s) child_built) in
        let into = pieces_of about t k child.part.region (built_to about t (steps_back last s) k child.part.region (omega arith) (first_built about t (steps_back last s) child.part.region [] child_built)) in
        asked_to about t (suc k) ((last + 2) + steps_back last s) a (omega arith) (next_asked about t k path region.pieces.items child.part.region.pieces.items w.0 a own w.1 into w.2)

    pub after_question : (budget : Budget) (region : Region) (fault : CoverFault) (r : PreFault) → IsBuiltOf about 1 (child.part.region ∷ []) region → IsOfCover fault r → IsRefusal about budget (AsksOf (λ q. AsksNext about path q child.part.region.pieces.items) region.pieces.items) fault → IsRefusedFor about budget last (after path s) r
    after_question budget region fault r b is f =
        cover_fault about budget (after path s) ((last + 2) + steps_back last s) (AsksOf (λ q. AsksNext about path q child.part.region.pieces.items) region.pieces.items) (after_asks region b) fault r is f

  -- ---- fixpoints
  module _ (path : Path) (shape : Shape) (s t : Statement) (first second : Found) (h : IsFound about last s first) (g : IsFound about last t second) where
    pub sides_built : AreBuilt about (along path shape s t) (steps_back last s + steps_back last t) (first.part.region ∷ second.part.region ∷ [])
    sides_built =
        let whole = along path shape s t in
        let k = steps_back last s + steps_back last t in
        more_built about whole k first.part.region (second.part.region ∷ []) (built_wider about s whole (λ a x. inl x) k first.part.region (built_to about s (steps_back last s) k first.part.region (omega arith) h.built))
        (one_built about whole k second.part.region (built_wider about t whole (λ a x. inr x) k second.part.region (built_to about t (steps_back last t) k second.part.region (omega arith) g.built)))

    pub along_is_found : (found : Found) → IsRegion about.variables about.locations found.part.region →
        ((f k : Property) → AreParts about (more f (more k none)) (first.part.region ∷ second.part.region ∷ []) (first.part.node ∷ second.part.node ∷ []) → IsPart about (props.fix path shape f k) found.part.region found.part.node) →
        IsBuiltOf about (last + 2) (first.part.region ∷ second.part.region ∷ []) found.part.region → found.size ≡ 1 + (first.size + second.size) →
        (found.gap ≡ None → (first.gap ≡ None) × (second.gap ≡ None) × ((f k : Property) → IsFull about f first.part.region → IsFull about k second.part.region → IsFull about (props.fix path shape f k) found.part.region)) → IfSome found.gap (IsGapFor about last (along path shape s t)) →
        (HasNoDraws about → (m : ℕ) → IsLastRound about 9 m → (a b : ℕ → ℕ) → ((l : ℕ) → count_at l first.part.region ≤ a l) → ((l : ℕ) → count_at l second.part.region ≤ b l) → (l : ℕ) → count_at l found.part.region ≤ fix_count about.cases m path shape a b l) →
        IsFound about last (along path shape s t) found
    along_is_found found over p b z told of bounded = record {
      bounded = λ plain m is f e l.
          (let w = along_is (comparison_lists about.variables) path shape s t f e in
          subst (λ z. count_at l found.part.region ≤ count about.cases m z l) (sym w.2)
          (bounded plain m is (λ k. count about.cases m w.0 k) (λ k. count about.cases m w.1 k) (λ k. h.bounded plain m is w.0 w.3 k) (λ k. g.bounded plain m is w.1 w.4 k) l));
      gap = of;
      over = over;
      shows = λ f e. (let w = along_is (comparison_lists about.variables) path shape s t f e in subst (λ z. IsPart about z found.part.region found.part.node) (sym w.2) (p w.0 w.1 (h.shows w.0 w.3, (g.shows w.1 w.4, tt))));
      built = b (along path shape s t) (steps_back last s + steps_back last t) sides_built;
      size = z ∙ (λ i. 1 + (h.size i + g.size i));
      full = λ gap f e rows.
          (let w = along_is (comparison_lists about.variables) path shape s t f e in
          let kept = subst (HasRows about.variables) w.2 rows in
          let so = told gap in
          subst (λ z. IsFull about z found.part.region) (sym w.2) (so.2 w.0 w.1 (h.full so.0 w.0 w.3 kept.0) (g.full so.1 w.1 w.4 kept.1)));
    }

    pub along_fault : (budget : Budget) (fault r : PreFault) → r ≡ fault → IsFaultOf about budget (last + 2) (first.part.region ∷ second.part.region ∷ []) fault → IsRefusedFor about budget last (along path shape s t) r
    along_fault budget fault r e f = subst (IsPreFault about (along path shape s t) budget ((last + 2) + (steps_back last s + steps_back last t))) (sym e) (f (along path shape s t) (steps_back last s + steps_back last t) sides_built)

  -- ---- atoms
  denied_rows : (lists : _) (g : Property) → test_statement (Rows lists) ≡ denial_of g → IsTestOf about.variables (Rows lists) (props.negated g)
  denied_rows lists (props.truth b) e = absurd cc
  denied_rows lists (props.compare r a b) e = absurd cc
  denied_rows lists (props.at l) e = absurd cc
  denied_rows lists props.term e = absurd cc
  denied_rows lists (props.negated f) e = absurd cc
  denied_rows lists (props.all_of fs) e = absurd cc
  denied_rows lists (props.some_of fs) e = absurd cc
  denied_rows lists (props.next path f) e = absurd cc
  denied_rows lists (props.fix path shape f g) e = absurd cc

  denied_here : (k : ℕ) (g : Property) → statements.here k ≡ denial_of g → IsTestOf about.variables (Here k) (props.negated g)
  denied_here k (props.truth b) e = absurd cc
  denied_here k (props.compare r a b) e = absurd cc
  denied_here k (props.at l) e = absurd cc
  denied_here k props.term e = absurd cc
  denied_here k (props.negated f) e = absurd cc
  denied_here k (props.all_of fs) e = absurd cc
  denied_here k (props.some_of fs) e = absurd cc
  denied_here k (props.next path f) e = absurd cc
  denied_here k (props.fix path shape f g) e = absurd cc

  denied_elsewhere : (k : ℕ) (g : Property) → statements.elsewhere k ≡ denial_of g → IsTestOf about.variables (Elsewhere k) (props.negated g)
  denied_elsewhere k (props.truth b) e = absurd cc
  denied_elsewhere k (props.compare r a b) e = absurd cc
  denied_elsewhere k (props.at l) e = cc
  denied_elsewhere k props.term e = absurd cc
  denied_elsewhere k (props.negated f) e = absurd cc
  denied_elsewhere k (props.all_of fs) e = absurd cc
  denied_elsewhere k (props.some_of fs) e = absurd cc
  denied_elsewhere k (props.next path f) e = absurd cc
  denied_elsewhere k (props.fix path shape f g) e = absurd cc

  pub test_states : (t : Test) (f : Property) → test_statement t ≡ stated (comparison_lists about.variables) f → IsTestOf about.variables t f
  test_states (Rows lists) (props.truth b) e = cc
  test_states (Rows lists) (props.compare r a b) e = cc
  test_states (Rows lists) (props.at l) e = absurd cc
  test_states (Rows lists) props.term e = absurd cc
  test_states (Rows lists) (props.negated f) e = denied_rows lists f e
  test_states (Rows lists) (props.all_of fs) e = absurd cc
  test_states (Rows lists) (props.some_of fs) e = absurd cc
  test_states (Rows lists) (props.next path f) e = absurd cc
  test_states (Rows lists) (props.fix path shape f g) e = absurd cc
  test_states (Here k) (props.truth b) e = absurd cc
  test_states (Here k) (props.compare r a b) e = absurd cc
  test_states (Here k) (props.at l) e = cc
  test_states (Here k) props.term e = absurd cc
  test_states (Here k) (props.negated f) e = denied_here k f e
  test_states (Here k) (props.all_of fs) e = absurd cc
  test_states (Here k) (props.some_of fs) e = absurd cc
  test_states (Here k) (props.next path f) e = absurd cc
  test_states (Here k) (props.fix path shape f g) e = absurd cc
  test_states (Elsewhere k) (props.truth b) e = absurd cc
  test_states (Elsewhere k) (props.compare r a b) e = absurd cc
  test_states (Elsewhere k) (props.at l) e = absurd cc
  test_states (Elsewhere k) props.term e = absurd cc
  test_states (Elsewhere k) (props.negated f) e = denied_elsewhere k f e
  test_states (Elsewhere k) (props.all_of fs) e = absurd cc
  test_states (Elsewhere k) (props.some_of fs) e = absurd cc
  test_states (Elsewhere k) (props.next path f) e = absurd cc
  test_states (Elsewhere k) (props.fix path shape f g) e = absurd cc

  test_region : (t : Test) (region : Region) → IsTested about t region → IsAtomRegion about (test_statement t) region
  test_region t region h = record { over = h.over; lists = λ l k. h.lists l k ∙ same t l } where
    same : (t : Test) (l : ℕ) → test_lists t l ≡ atom_lists (test_statement t) l
    same (Rows lists) l = refl
    same (Here k) l = refl
    same (Elsewhere k) l = refl

  own_atom : (t : Test) → HasAtom (test_statement t) (test_statement t)
  own_atom (Rows lists) = refl
  own_atom (Here k) = refl
  own_atom (Elsewhere k) = refl

  no_steps : (t : Test) (found : Found) → IsBuilt about (test_statement t) 0 found.part.region → IsBuilt about (test_statement t) (steps_back last (test_statement t)) found.part.region
  no_steps (Rows lists) found h = h
  no_steps (Here k) found h = h
  no_steps (Elsewhere k) found h = h

  one_size : (t : Test) → size (test_statement t) ≡ 1
  one_size (Rows lists) = refl
  one_size (Here k) = refl
  one_size (Elsewhere k) = refl

  pub atom_is_found : (t : Test) (found : Found) → IsTested about t found.part.region → ((f : Property) → IsTestOf about.variables t f → IsPart about f found.part.region found.part.node) → found.size ≡ 1 → IfSome found.gap (IsGapFor about last (test_statement t)) → IsFound about last (test_statement t) found
  atom_is_found t found h p z of = record {
    gap = of;
    over = h.over;
    shows = λ f e. p f (test_states t f e);
    built = no_steps t found (of_atom 0 (test_statement t) found.part.region (own_atom t) (test_region t found.part.region h));
    size = z ∙ sym (one_size t);
    full = λ gap f e rows. atom_full about t f found.part.region (test_states t f e) rows h;
    bounded = λ plain m is f e l. tested_few about t found.part.region h (count about.cases m f l) l (test_few about m t f (test_states t f e) l);
  }

  -- ---- arguments one after the other
  pub argument_added : (before : List Statement) (s : Statement) (found : Found) (old new : Arguments) → AreArguments about last before old → IsFound about last s found →
      new.regions.items ≡ old.regions.items ++ found.part.region ∷ [] → new.nodes.items ≡ old.nodes.items ++ found.part.node ∷ [] → new.size ≡ old.size + found.size → new.gap ≡ first_of old.gap (gap_behind (1 + old.size) found.gap) → AreArguments about last (before ++ s ∷ []) new
  argument_added before s found old new h f r n z g = record {
    each = subst (λ rs. AreEachArgument about last (before ++ s ∷ []) rs new.nodes.items) (sym r)
        (subst (λ ns. AreEachArgument about last (before ++ s ∷ []) (old.regions.items ++ found.part.region ∷ []) ns) (sym n)
        (argument_more before old.regions.items old.nodes.items s found.part.region found.part.node h.each (found_argument s found f)));
    size = z ∙ (λ j. h.size j + f.size j) ∙ sym (total_more before s);
    full = λ none.
        (let so = none_of_two old.gap (gap_behind (1 + old.size) found.gap) (sym g ∙ none) in
        subst (AreFullFor about (before ++ s ∷ [])) (sym r) (full_more before old.regions.items s found.part.region (h.full so.0) (f.full (none_behind (1 + old.size) found.gap so.1))));
    gap = subst (λ o. IfSome o (IsGapAmong about last (statements_of (before ++ s ∷ [])))) (sym g) (among_more about last before s old.size h.size old.gap found.gap h.gap f.gap);
  }

  pub first_arguments : (new : Arguments) → new.regions.items ≡ [] → new.nodes.items ≡ [] → new.size ≡ 0 → new.gap ≡ None → AreArguments about last [] new
  first_arguments new r n z o = record {
    gap = subst (λ g. IfSome g (IsGapAmong about last no_statement)) (sym o) tt;
    each = subst (λ rs. AreEachArgument about last [] rs new.nodes.items) (sym r) (subst (AreEachArgument about last [] []) (sym n) tt);
    size = z;
    full = λ none. subst (AreFullFor about []) (sym r) tt;
  }

  -- a fault of one argument is one of them all
  pub argument_fault : (budget : Budget) (aims : List Aim) (i : ℕ) (aim : Aim) (whole : Statement) (k : ℕ) (fault : PreFault) → i < length aims → aim ≡ get_or aims i aim → ((a : Statement) → SomeHasAtom (aims_state aims) a → HasAtom whole a) → all_steps_back last (aims_state aims) ≤ k →
      IsRefusedFor about budget last (aim_states aim) fault → IsPreFault about whole budget k fault
  argument_fault budget [] i aim whole k fault l e w m f = absurd (omega (arith, l))
  argument_fault budget (a ∷ aims) zero aim whole k fault l e w m f =
      let here = subst (λ (z : Aim). IsRefusedFor about budget last (aim_states z) fault) e f in
      fault_to about whole budget (steps_back last (aim_states a)) k fault (omega (arith, m)) (fault_wider about (aim_states a) whole (λ x y. w x (inl y)) budget (steps_back last (aim_states a)) fault here)
  argument_fault budget (a ∷ aims) (suc i) aim whole k fault l e w m f = argument_fault budget aims i aim whole k fault (omega (arith, l)) e (λ x y. w x (inr y)) (omega (arith, m)) f

  pub after_argument : (budget : Budget) (path : Path) (s : Statement) (fault r : PreFault) → r ≡ fault → IsRefusedFor about budget last s fault → IsRefusedFor about budget last (after path s) r
  after_argument budget path s fault r e f =
      subst (IsPreFault about (after path s) budget ((last + 2) + steps_back last s)) (sym e)
      (fault_to about (after path s) budget (steps_back last s) ((last + 2) + steps_back last s) fault (omega arith) (fault_wider about s (after path s) (λ a x. x) budget (steps_back last s) fault f))

  pub first_argument : (budget : Budget) (path : Path) (shape : Shape) (s t : Statement) (fault r : PreFault) → r ≡ fault → IsRefusedFor about budget last s fault → IsRefusedFor about budget last (along path shape s t) r
  first_argument budget path shape s t fault r e f =
      let whole = along path shape s t in
      let k = (last + 2) + (steps_back last s + steps_back last t) in
      subst (IsPreFault about whole budget k) (sym e) (fault_to about whole budget (steps_back last s) k fault (omega arith) (fault_wider about s whole (λ a x. inl x) budget (steps_back last s) fault f))

  pub second_argument : (budget : Budget) (path : Path) (shape : Shape) (s t : Statement) (fault r : PreFault) → r ≡ fault → IsRefusedFor about budget last t fault → IsRefusedFor about budget last (along path shape s t) r
  second_argument budget path shape s t fault r e f =
      let whole = along path shape s t in
      let k = (last + 2) + (steps_back last s + steps_back last t) in
      subst (IsPreFault about whole budget k) (sym e) (fault_to about whole budget (steps_back last t) k fault (omega arith) (fault_wider about t whole (λ a x. inr x) budget (steps_back last t) fault f))

-- the choice of a step
use Rattle.std.proofs.Common.{◌≡◌, ℕ, zero, suc, ◌<◌, List, [], ◌++◌, length, All, map, Some, slice_get, Bool, true, false, ◌&&◌, arith, refl, sym, ap, subst, ◌∙◌, ℤ}
use Rattle.std.specs.Global.{Vec}
use Rattle.tv_linear.specs.Linear.{Linear, IsNarrow}
use Rattle.tv_linear.specs.Known.{as_given, term_value}
use Rattle.tv_linear.specs.Terms.{terms_after}
use Rattle.tv_linear.specs.declared.choice.ChoiceTree as choice
use Rattle.tv_cases.specs.LinearCases.{LinearCase, CaseSystem, CaseDoes}
use Rattle.tv_cases.specs.Systems.{cases_of}
use Rattle.tv_cert.specs.declared.node.Marked.{Marked}
use Rattle.tv_cert.specs.Pieces.{place_of, rows_of, goes, pieces_at}
use Rattle.tv_cert.specs.Choices.{TakeMet}
use Rattle.tv_cert.specs.Shapes.{TakeShape}
use Rattle.tv_shape.specs.Narrow.{CountNarrow, RowNarrow}
use Rattle.tv_points.specs.PointRows.{point_rows, number_rows}
use Rattle.tv_points.specs.Lines.{IsShowable, multiplier_lists, ArePushed}
use Rattle.tv_points.specs.States.{seen}
use Rattle.tv_points.specs.StatePieces.{state_piece}
use Rattle.tv_points.specs.Taking.{taken_rows, rows_by, fall_number, choice_owes, IsChosen, IsTaking, IsFound, owed_rows}
use Rattle.tv_points.specs.declared.state.State.{State}
use Rattle.tv_points.specs.declared.taking.Taking.{Taking}
use Rattle.tv_points.proofs.FlatLemmas.{AreNarrowUpdates}
use Rattle.tv_points.proofs.MetLemmas.{taken_show}
use Rattle.tv_points.proofs.PlaceLemmas.{got_one}
use Rattle.tv_points.proofs.TakeLemmas.{HaveRanks, take_met, take_shape, lists_are_narrow, numbers_narrow}
use Rattle.std.proofs.lemmas.Option.{slice_get_within}

have_ranks : (n : ℕ) (ends : Bool) (left rest : ℕ) (s t : State) → (ends ≡ true → rest < left) → HaveRanks (ends && goes (state_piece n ends rest t)) (state_piece n ends left s) (state_piece n ends rest t)
have_ranks n false left rest s t h = tt
have_ranks n true left zero s t h = tt
have_ranks n true zero (suc rest) s t h = absurd (let l = h refl in omega (arith, l))
have_ranks n true (suc left) (suc rest) s t h = (omega arith, omega arith)

module _ (t : Taking) (h : IsTaking t) (c : LinearCase) (found : slice_get (cases_of t.about.now).cases t.step.now.taken ≡ Some c) where
  abbrev about : CaseSystem
  about = cases_of t.about.now

  abbrev n : ℕ
  n = about.variables

  abbrev xs : List ℤ
  xs = t.state.now.values.items

  abbrev ds : List ℤ
  ds = t.step.now.draws.items

  abbrev p : Marked
  p = t.from.now

  abbrev q : Marked
  q = t.into.now

  does : CaseDoes c ds (seen t.state.now) (seen h.next)
  does = subst (λ k. CaseDoes k ds (seen t.state.now) (seen h.next)) (got_one about.cases t.step.now.taken h.leads.taken c h.leads.found found) h.leads.does

  pub owed_are : owed_rows t ≡ taken_rows n c (number_rows n ds) t.falls p q
  owed_are = ap (rows_by n t.falls t.step.now p q) found

  pub can_show : All IsNarrow c.guards → AreNarrowUpdates c.updates → All (IsShowable xs) (taken_rows n c (number_rows n ds) t.falls p q)
  can_show guards updates =
      subst (λ y. All (IsShowable xs) (taken_rows n c (number_rows n ds) t.falls y q)) (sym h.from)
      (subst (λ y. All (IsShowable xs) (taken_rows n c (number_rows n ds) t.falls (state_piece n t.falls h.left t.state.now) y)) (sym h.into)
      (taken_show n c xs ds h.next.values.items h.state.point.many updates (does.gives ∙ ap (λ m. map (term_value (xs ++ ds)) (terms_after m c.updates)) h.state.point.many) t.falls h.left h.less t.state.now h.next refl refl guards does.guards h.falling))

  pub is_chosen : (ps : List Marked) (j : ℕ) (draws : Vec Linear) (lists : Vec (Vec ℤ)) (old : List (List ℤ)) → IsFound t ps → j ≡ fall_number (t.falls && goes q) → draws.items ≡ number_rows n ds → old ≡ [] → ArePushed xs (taken_rows n c (number_rows n ds) t.falls p q) old (map (λ l. l.items) lists.items) → IsChosen about ps t.falls p (choice.Take t.step.now.taken t.place j draws lists)
  is_chosen ps j draws lists old at number drawn none pushed = record {
    met = subst (λ rs. TakeMet n (place_of p) (choice_owes n ps t.falls p) (as_given (rows_of p)) (slice_get about.cases t.step.now.taken) t.place j rs (map (λ l. l.items) lists.items)) (sym drawn)
        (take_met about ps t.falls p q c ds t.place xs t.step.now.taken j (map (λ l. l.items) lists.items) h.state.point.many rows found leaves does.drawn there ranks number pushed.shown meant);
    shape = subst (λ rs. TakeShape n (place_of p) (choice_owes n ps t.falls p) (length (as_given (rows_of p))) (slice_get about.cases t.step.now.taken) t.place j rs (map (λ l. l.items) lists.items)) (sym drawn)
        (take_shape about ps t.falls p q c ds t.place xs t.step.now.taken j (map (λ l. l.items) lists.items) h.state.point.many rows found leaves does.drawn there ranks number pushed.shown meant);
    narrow = (
      (let l = slice_get_within about.cases t.step.now.taken c found in let f = t.about.now.are_cases.few_cases in omega (arith, l, f)),
      (let l = h.placed in omega (arith, l)),
      subst CountNarrow (sym number) (fall_small (t.falls && goes q)),
      subst (All RowNarrow) (sym drawn) (numbers_narrow n ds h.leads.narrow),
      lists_are_narrow xs (taken_rows n c (number_rows n ds) t.falls p q) lists.items pushed.shown meant,
    );
    flat = refl;
  }
    where
      rows : rows_of p ≡ point_rows xs
      rows = ap rows_of h.from

      leaves : c.from ≡ place_of p
      leaves = sym does.leaves ∙ sym (ap place_of h.from)

      there : slice_get (pieces_at ps c.to) t.place ≡ Some q
      there = subst (λ l. slice_get (pieces_at ps l) t.place ≡ Some q) (ap place_of h.into ∙ does.enters) at

      ranks : HaveRanks (t.falls && goes q) p q
      ranks = subst (λ y. HaveRanks (t.falls && goes q) y q) (sym h.from) (subst (λ y. HaveRanks (t.falls && goes y) (state_piece n t.falls h.left t.state.now) y) (sym h.into) (have_ranks n t.falls h.left h.less t.state.now h.next h.falling))

      meant : map (λ l. l.items) lists.items ≡ multiplier_lists xs (taken_rows n c (number_rows n ds) t.falls p q)
      meant = pushed.pushed ∙ ap (λ ys. ys ++ multiplier_lists xs (taken_rows n c (number_rows n ds) t.falls p q)) none

      fall_small : (b : Bool) → CountNarrow (fall_number b)
      fall_small true = omega arith
      fall_small false = omega arith

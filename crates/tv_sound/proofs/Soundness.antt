-- What a certificate all of whose obligations are met shows of a program.
use Rattle.std.proofs.Common.{◌≡◌, ℕ, List, [], ◌∷◌, length, Option, None, Some, refl, sym, ◌∙◌, slice_get}
use Rattle.std.proofs.lemmas.List.Elements.{All-nil}
use Rattle.tv_linear.specs.Known.{given, IsKnownMet}
use Rattle.tv_linear.specs.declared.cover.CoverTree.{CoverTree}
use Rattle.tv_linear.proofs.KnownLemmas.{met-as_given}
use Rattle.std.specs.Option.{option_map}
use Rattle.tv_program.specs.Systems.{System}
use Rattle.tv_program.specs.Steps.{State, Steps}
use Rattle.tv_formula.specs.Properties.{Property}
use Rattle.tv_formula.specs.Normal.{normal, negation}
use Rattle.tv_meaning.specs.Meaning.{Holds, HoldsInitially}
use Rattle.tv_meaning.proofs.Negation.{negation_excludes, normal_holds}
use Rattle.tv_meaning.proofs.SameSteps.{SameOn, turned, Holds_along}
use Rattle.tv_cases.specs.Comparisons.{comparison_lists}
use Rattle.tv_cases.proofs.ComparisonLemmas.{comparison_shows}
use Rattle.tv_cases.specs.LinearCases.{CaseSystem, CaseSteps}
use Rattle.tv_cases.specs.Answers.{IsOfProgram, HaveSameSteps}
use Rattle.tv_cert.specs.declared.node.Marked.{Marked}
use Rattle.tv_cert.specs.declared.node.Node.{Node}
use Rattle.tv_cert.specs.declared.node.Verdict.{Verdict}
use Rattle.tv_cert.specs.declared.node.Verdict.TheVariants.{Proved, Disproved}
use Rattle.tv_cert.specs.Pieces.{rows_of, pieces_at, InPieces}
use Rattle.tv_cert.specs.Targets.{no_fall}
use Rattle.tv_cert.specs.Obligations.{About, IsMetEntry, AllMet, PointMet}
use Rattle.tv_cert.specs.Nodes.{pieces_of, entries, root_entry, obligations}
use Rattle.tv_cert.specs.Fits.{NodeFits}
use Rattle.tv_cert.proofs.PieceLemmas.{piece_got}
use Rattle.tv_sound.proofs.Entering.{entered, wide_after}
use Rattle.tv_sound.proofs.NodesSound.{TestsShow, node_sound, AllMet-left, AllMet-right}

-- ---- the steps of the program, where there is a number for each variable

abbrev Wide : ℕ → State → Type 0
Wide n s = length s.values ≡ n

same_on : (p : System) (system : CaseSystem) → IsOfProgram p system → HaveSameSteps p system → SameOn (Wide system.variables) (CaseSteps system) (Steps p)
same_on p system of_program steps = record {
  to = λ s t wide step. (steps s t (wide ∙ of_program.variables)).1 step;
  back = λ s t wide step. (steps s t (wide ∙ of_program.variables)).0 step;
  stays = λ s t wide step. wide_after system.variables step.taken step.draws s t step.does wide;
}

-- ---- the root

pub root_met : (about : About) (f : Property) (root : Node) (verdict : Verdict) → AllMet (obligations about f root verdict) → IsMetEntry (root_entry about (pieces_of root) verdict)
root_met about f root verdict met = (AllMet-right (entries 0 about f root) (root_entry about (pieces_of root) verdict ∷ []) met).0

-- proved: the property holds at every initial state
pub proved_sound : (p : System) (about : About) → IsOfProgram p about.system → HaveSameSteps p about.system → TestsShow about → (property : Property) (root : Node) (tree : CoverTree) → NodeFits about.system.variables (normal property) root → AllMet (obligations about (normal property) root (Proved tree)) → HoldsInitially p property
proved_sound p about of_program steps tests property root tree fits met s initial =
    let n = about.system.variables in
    let wide : length s.values ≡ n = initial.counted ∙ sym of_program.variables in
    let e = entered n s.values (pieces_of root) about.system.start given no_fall [] tree (root_met about (normal property) root (Proved tree) met) wide (All-nil (IsKnownMet s.values)) in
    let rows = (met-as_given s.values (rows_of e.piece)).1 e.rows in
    let place = initial.place ∙ sym of_program.start ∙ sym e.place in
    let here = node_sound about tests 0 (normal property) root fits (AllMet-left (entries 0 about (normal property) root) _ met) s wide (record { piece = e.piece; among = e.among; inside = record { place = place; rows = rows } }) in
    Holds_along (Wide n) (CaseSteps about.system) (Steps p) (same_on p about.system of_program steps) property s wide (normal_holds (CaseSteps about.system) property s here)

point_inside : (about : About) (ps : List Marked) (s : State) (k : ℕ) (o : Option Marked) → s.location ≡ about.system.start → slice_get (pieces_at ps about.system.start) k ≡ o → PointMet s.values (option_map rows_of o) → InPieces ps s
point_inside about ps s k None start e h = absurd h
point_inside about ps s k (Some q) start e h =
    let got = piece_got ps about.system.start k q e in
    record { piece = q; among = got.1; inside = record { place = start ∙ sym got.0; rows = h } }

-- disproved: it fails at the initial state with the values
pub disproved_sound : (p : System) (about : About) → IsOfProgram p about.system → HaveSameSteps p about.system → TestsShow about → (property : Property) (root : Node) (k : ℕ) (values : _) → NodeFits about.system.variables (negation property) root → AllMet (obligations about (negation property) root (Disproved k values)) → length values.items ≡ about.system.variables → Holds (Steps p) property (record { location = p.start; values = values.items }) → ⊥
disproved_sound p about of_program steps tests property root k values fits met wide h =
    let n = about.system.variables in
    let s : State = record { location = p.start; values = values.items } in
    let inside = point_inside about (pieces_of root) s k (slice_get (pieces_at (pieces_of root) about.system.start) k) (sym of_program.start) refl (root_met about (negation property) root (Disproved k values) met) in
    let here = node_sound about tests 0 (negation property) root fits (AllMet-left (entries 0 about (negation property) root) _ met) s wide inside in
    negation_excludes (CaseSteps about.system) property s here (Holds_along (Wide n) (Steps p) (CaseSteps about.system) (turned (same_on p about.system of_program steps)) property s wide h)

-- ---- formulas with comparisons

-- a certificate with the rows of comparisons as those of assumptions
abbrev pub about_with : CaseSystem → About
about_with system = record { system = system; tests = comparison_lists system.variables }

pub comparisons_show : (system : CaseSystem) → TestsShow (about_with system)
comparisons_show system = record { shows = λ r a b lines xs among wide met. comparison_shows system.variables r a b xs wide lines among ((met-as_given xs lines).1 met) }

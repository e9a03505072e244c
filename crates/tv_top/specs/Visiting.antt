-- What the answer says where it is asked whether a property of states holds only finitely often on every run.
use Rattle.std.specs.Prelude.{◌≡◌, []}
use Rattle.tv_program.specs.Systems.{System}
use Rattle.tv_formula.specs.Properties.{Property}
use Rattle.tv_cert.specs.Obligations.{AllMet}
use Rattle.tv_farkas.specs.declared.fault.CoverFault.{CoverFault}
use Rattle.tv_farkas.specs.declared.fault.CoverFault.TheVariants as covers
use Rattle.tv_rank.specs.declared.name.Name.TheVariants.{Rows}
use Rattle.tv_finitely.specs.Finite.{HoldsFinitely}
use Rattle.tv_finitely.specs.Obligations.{VisitParts, visit_entries}
use Rattle.tv_finitely.specs.Refusals.{RefusesFinitely}
use Rattle.tv_finitely.specs.Shapes.{VisitShape}
use Rattle.tv_finitely.specs.Splits.{SplitSystem, IsSplitOf, IsSplitFault}
use Rattle.tv_finitely.specs.declared.fault.VisitFault.{VisitFault}
use Rattle.tv_finitely.specs.declared.fault.VisitFault.TheVariants as visits
use Rattle.tv_top.specs.Answers.{unsettled}
use Rattle.tv_top.specs.Finding.{Offers, budget_of}
use Rattle.tv_top.specs.Tasks.{Task}
use Rattle.tv_top.specs.declared.answer.Answer.{Answer}
use Rattle.tv_top.specs.declared.answer.Answer.TheVariants.{Proved, Condition, Unknown, Memory}
use Rattle.tv_top.specs.declared.cause.Cause.{Cause}
use Rattle.tv_top.specs.declared.cause.Cause.TheVariants.{Spent, Composed, Unranked}
use Rattle.tv_top.specs.declared.named_system.NamedSystem.TheVariants.{Visited}

-- The program split by the property, and visits of it that fit, and all of whose obligations are met; so the property holds only finitely
-- often on every run from each initial state.
pub record IsShownFinitely (p : System) (f : Property) : Type 0 where
  pub split : SplitSystem
  pub is_split : IsSplitOf p f split
  pub visits : VisitParts
  pub fits : VisitShape split visits
  pub met : AllMet (visit_entries split visits)
  pub holds : HoldsFinitely p f

-- the answer where a question of integer points was not settled
abbrev pub unvisited_question : CoverFault → Answer
unvisited_question (covers.Splits path) = Unknown (Spent path)
unvisited_question (covers.Solve rows fault) = unsettled (Visited (Rows rows)) fault
unvisited_question (covers.Wide column) = Unknown (Composed column)
unvisited_question covers.Memory = Memory

-- the answer where no visits are found
abbrev pub unvisited : VisitFault → Answer
unvisited (visits.Rank set barriers) = Unknown (Unranked set barriers)
unvisited (visits.Solve system fault) = unsettled (Visited system) fault
unvisited (visits.Cover fault) = unvisited_question fault
unvisited visits.Memory = Memory

-- why no visits of the split program are found, as it is answered
pub record IsUnshownFinitely (offers : Offers) (task : Task) (p : System) (f : Property) (cause : Cause) : Type 0 where
  pub split : SplitSystem
  pub is_split : IsSplitOf p f split
  pub fault : VisitFault
  pub refused : RefusesFinitely split (offers split.system) (budget_of task.limits) fault
  pub answered : Unknown cause ≡ unvisited fault

-- what the answer says of the property
abbrev pub FindsFinitely : Offers → Task → System → Property → Answer → Type 0
FindsFinitely offers task p f (Proved text) = (text.items ≡ []) × IsShownFinitely p f
FindsFinitely offers task p f (Unknown cause) = IsUnshownFinitely offers task p f cause
FindsFinitely offers task p f (Condition fault) = IsSplitFault p f fault
FindsFinitely offers task p f Memory = Unit {0}
FindsFinitely offers task p f answer = ⊥

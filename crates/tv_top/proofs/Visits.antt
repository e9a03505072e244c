-- What visits that were found show, and why there are none.
use Rattle.std.proofs.Common.{◌≡◌, refl}
use Rattle.tv_program.specs.Systems.{System}
use Rattle.tv_formula.specs.Properties.{Property}
use Rattle.tv_farkas.specs.declared.fault.CoverFault.{CoverFault}
use Rattle.tv_farkas.specs.declared.fault.CoverFault.TheVariants as covers
use Rattle.tv_simplex.specs.declared.fault.SolveFault.TheVariants as solving
use Rattle.tv_finitely.specs.Finite.{HoldsFinitely}
use Rattle.tv_finitely.specs.Found.{AreVisits}
use Rattle.tv_finitely.specs.Obligations.{visits_of}
use Rattle.tv_finitely.specs.Refusals.{RefusesFinitely}
use Rattle.tv_finitely.specs.Splits.{SplitSystem, IsSplitOf}
use Rattle.tv_finitely.specs.declared.fault.VisitFault.{VisitFault}
use Rattle.tv_finitely.specs.declared.fault.VisitFault.TheVariants as visits
use Rattle.tv_finitely.specs.declared.visits.Visits.{Visits}
use Rattle.tv_top.specs.Finding.{Offers, budget_of}
use Rattle.tv_top.specs.Tasks.{Task}
use Rattle.tv_top.specs.Visiting.{IsShownFinitely, IsUnshownFinitely, FindsFinitely, unvisited}
use Rattle.tv_top.specs.declared.answer.Answer.TheVariants.{Unknown}
use Rattle.tv_top.specs.declared.cause.Cause.{Cause}

module _ (offers : Offers) (task : Task) (p : System) (f : Property) (split : SplitSystem) (is : IsSplitOf p f split) where
  -- visits all of whose obligations are met
  pub shown_so : (v : Visits) → AreVisits split v → HoldsFinitely p f → IsShownFinitely p f
  shown_so v are holds = record { split = split; is_split = is; visits = visits_of v; fits = are.shape; met = are.met; holds = holds }

  abbrev Refused : VisitFault → Type 0
  Refused fault = RefusesFinitely split (offers split.system) (budget_of task.limits) fault

  told : (fault : VisitFault) → Refused fault → (cause : Cause) → Unknown cause ≡ unvisited fault → IsUnshownFinitely offers task p f cause
  told fault h cause e = record { split = split; is_split = is; fault = fault; refused = h; answered = e }

  question_so : (fault : CoverFault) → Refused (visits.Cover fault) → FindsFinitely offers task p f (unvisited (visits.Cover fault))
  question_so (covers.Splits path) h = told (visits.Cover (covers.Splits path)) h _ refl
  question_so (covers.Wide column) h = told (visits.Cover (covers.Wide column)) h _ refl
  question_so (covers.Solve rows (solving.Width basis row column)) h = told (visits.Cover (covers.Solve rows (solving.Width basis row column))) h _ refl
  question_so (covers.Solve rows (solving.Scale basis)) h = told (visits.Cover (covers.Solve rows (solving.Scale basis))) h _ refl
  question_so (covers.Solve rows (solving.Pivots bases)) h = told (visits.Cover (covers.Solve rows (solving.Pivots bases))) h _ refl
  question_so (covers.Solve rows (solving.Size count columns)) h = told (visits.Cover (covers.Solve rows (solving.Size count columns))) h _ refl
  question_so (covers.Solve rows solving.Memory) h = tt
  question_so covers.Memory h = tt

  -- why no visits were found is answered
  pub unvisited_so : (fault : VisitFault) → Refused fault → FindsFinitely offers task p f (unvisited fault)
  unvisited_so (visits.Rank set barriers) h = told (visits.Rank set barriers) h _ refl
  unvisited_so (visits.Solve system (solving.Width basis row column)) h = told (visits.Solve system (solving.Width basis row column)) h _ refl
  unvisited_so (visits.Solve system (solving.Scale basis)) h = told (visits.Solve system (solving.Scale basis)) h _ refl
  unvisited_so (visits.Solve system (solving.Pivots bases)) h = told (visits.Solve system (solving.Pivots bases)) h _ refl
  unvisited_so (visits.Solve system (solving.Size rows columns)) h = told (visits.Solve system (solving.Size rows columns)) h _ refl
  unvisited_so (visits.Solve system solving.Memory) h = tt
  unvisited_so (visits.Cover fault) h = question_so fault h
  unvisited_so visits.Memory h = tt

-- What is owed, as a piece and the cases have it.
use Rattle.std.specs.Prelude.{ℕ, ◌+◌, ◌++◌, List, Bool, true, false, Option, None, Some, Contains}
use Rattle.tv_linear.specs.Linear.{Linear}
use Rattle.tv_linear.specs.Known.{Known, given, as_given}
use Rattle.tv_cases.specs.LinearCases.{LinearCase, CaseSystem}
use Rattle.tv_cases.specs.Views.{case_view}
use Rattle.tv_cert.specs.declared.node.Kind.{Kind}
use Rattle.tv_cert.specs.declared.node.Marked.{Marked}
use Rattle.tv_cert.specs.declared.owes.Destination.{Destination}
use Rattle.tv_cert.specs.declared.owes.Destination.TheVariants.{Anywhere, Into}
use Rattle.tv_cert.specs.declared.owes.Owes.{Owes}
use Rattle.tv_cert.specs.declared.owes.Owes.TheVariants as owes
use Rattle.tv_cert.specs.declared.targets.Targets.{Targets}
use Rattle.tv_cert.specs.Pieces.{place_of, rows_of, ranks_of}
use Rattle.tv_cert.specs.Targets.{owed_into, owed_nothing, no_fall, fall_from}
use Rattle.tv_cert.specs.TargetViews.{owed_at}
use Rattle.tv_cert.specs.Choices.{drawn_change}
use Rattle.tv_cert.specs.Obligations.{Obligation, Owed, a_cover, a_choice, case_change}

-- the falls that are owed from a piece, where there are some
abbrev pub falls_where : Bool → (Linear → Known) → Marked → Marked → ℕ → Option (List Known)
falls_where true change p = fall_from change (ranks_of p)
falls_where false change p = no_fall

-- the rows that a choice at a piece owes on entering a target of its destination
abbrev pub destination_owes : ℕ → Marked → Destination → LinearCase → List Linear → ℕ → ℕ → Option (List Known)
destination_owes n p Anywhere c draws = owed_nothing
destination_owes n p (Into pieces falls) c draws = owed_into pieces.now c.to (drawn_change n c draws) (falls_where falls (drawn_change n c draws) p)

-- what is owed
abbrev pub owed_by : CaseSystem → Owes → Owed
owed_by system (owes.Cover p None ts) = a_cover system.variables (as_given (rows_of p.now)) (owed_at given ts)
owed_by system (owes.Cover p (Some c) ts) =
    a_cover (system.variables + c.now.draws) (as_given (rows_of p.now) ++ as_given c.now.guards.rows.items) (owed_at (case_change system.variables (case_view c.now)) ts)
owed_by system (owes.Choice p stop destination) =
    a_choice system.variables system.cases (place_of p.now) stop (destination_owes system.variables p.now destination) (as_given (rows_of p.now))

-- what is owed is owed in the system: a step is one by a case of its own
abbrev pub OwedIn : CaseSystem → Owes → Type 0
OwedIn system (owes.Cover p None ts) = Unit {0}
OwedIn system (owes.Cover p (Some c) ts) = Contains system.cases (case_view c.now)
OwedIn system (owes.Choice p stop destination) = Unit {0}

abbrev pub obligation_by : CaseSystem → ℕ → Kind → Owes → Obligation
obligation_by system number kind o = record { node = number; kind = kind; owed = owed_by system o }

-- a cover of a piece into targets
abbrev pub targets_of : ℕ → Kind → CaseSystem → Marked → Targets → Obligation
targets_of number kind system p ts = record { node = number; kind = kind; owed = a_cover system.variables (as_given (rows_of p)) (owed_at given ts) }

-- the falls that are owed over a case
abbrev pub case_falls : Bool → CaseSystem → Marked → LinearCase → Marked → ℕ → Option (List Known)
case_falls falls system p c = falls_where falls (case_change system.variables c) p

-- Tasks, written out.
use Rattle.std.specs.Prelude.{ℕ, Bool}
use Rattle.tv_top.specs.Tasks.{Query, Limits, Wanted, Task}

abbrev pub limits : ℕ → ℕ → ℕ → Limits
limits pivots splits disjuncts = record { pivots = pivots; splits = splits; disjuncts = disjuncts }

-- those where nothing is said
abbrev pub usual : Limits
usual = limits 100000 64 256

abbrev pub asks : Query → Bool → Wanted → Limits → Task
asks query checks wanted within = record { query = query; checks = checks; wanted = wanted; limits = within }

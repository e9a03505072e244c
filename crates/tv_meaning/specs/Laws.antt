-- What the normal form and the negation of a formula say.
use Rattle.std.specs.Prelude.{◌↔◌, IsTrue}
use Rattle.tv_formula.specs.Forms.{is_local}
use Rattle.tv_formula.specs.Normal.{normal, negation}
use Rattle.tv_formula.specs.Properties.{Property}
use Rattle.tv_program.specs.Steps.{State}
use Rattle.tv_meaning.specs.Meaning.{Holds}

-- where the normal form holds, the property holds
abbrev pub NormalImplies : (State → State → Type 0) → Property → Type 0
NormalImplies step f = (s : State) → Holds step (normal f) s → Holds step f s

-- the property and its negation hold at no state together
abbrev pub NegationExcludes : (State → State → Type 0) → Property → Type 0
NegationExcludes step f = (s : State) → Holds step (negation f) s → Holds step f s → ⊥

-- a property of one state holds exactly where its normal form does
abbrev pub NormalSays : (State → State → Type 0) → Property → Type 0
NormalSays step f = IsTrue (is_local f) → (s : State) → Holds step (normal f) s ↔ Holds step f s

-- and its negation holds exactly where it does not
abbrev pub NegationSays : (State → State → Type 0) → Property → Type 0
NegationSays step f = IsTrue (is_local f) → (s : State) → Holds step (negation f) s ↔ (¬ (Holds step f s))

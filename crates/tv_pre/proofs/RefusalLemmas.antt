-- Refusals of questions.
use Rattle.std.proofs.Common.{◌≡◌, zero, suc, List, [], ◌∷◌, arith, refl, sym, subst}
use Rattle.std.specs.Prelude.{Contains}
use Rattle.tv_linear.specs.Linear.{Linear}
use Rattle.tv_linear.specs.declared.region.Piece.{Piece}
use Rattle.tv_linear.specs.declared.region.Region.{Region}
use Rattle.tv_cases.specs.LinearCases.{LinearCase, CaseSystem}
use Rattle.tv_farkas.specs.declared.budget.Budget.{Budget}
use Rattle.tv_farkas.specs.declared.fault.CoverFault.{CoverFault}
use Rattle.tv_farkas.specs.declared.fault.CoverFault.TheVariants.{Splits, Solve, Wide, Memory}
use Rattle.tv_region.specs.Regions.{lists_at}
use Rattle.tv_pre.specs.Questions.{Question, lies, steps, AsksEach, Refuses, IsRefused, IsRefusal, too_wide}
use Rattle.tv_pre.specs.Targets.{IsUnmade}

pub refusal_of : (about : CaseSystem) (budget : Budget) (asks : Question → Type 0) (a : Question) (fault : CoverFault) → asks a → Refuses about budget a fault → IsRefusal about budget asks fault
refusal_of about budget asks a (Splits path) h g = record { question = a; asked = h; refuses = g }
refusal_of about budget asks a (Solve kept f) h g = record { question = a; asked = h; refuses = g }
refusal_of about budget asks a (Wide column) h g = record { question = a; asked = h; refuses = g }
refusal_of about budget asks a Memory h g = tt

refused_weaker : (about : CaseSystem) (budget : Budget) (asks more : Question → Type 0) (fault : CoverFault) → ((a : Question) → asks a → more a) → IsRefused about budget asks fault → IsRefused about budget more fault
refused_weaker about budget asks more fault w h = record { question = h.question; asked = w h.question h.asked; refuses = h.refuses }

-- a refusal of some questions is one of more questions
pub refusal_weaker : (about : CaseSystem) (budget : Budget) (asks more : Question → Type 0) (fault : CoverFault) → ((a : Question) → asks a → more a) → IsRefusal about budget asks fault → IsRefusal about budget more fault
refusal_weaker about budget asks more (Splits path) w h = refused_weaker about budget asks more (Splits path) w h
refusal_weaker about budget asks more (Solve kept f) w h = refused_weaker about budget asks more (Solve kept f) w h
refusal_weaker about budget asks more (Wide column) w h = refused_weaker about budget asks more (Wide column) w h
refusal_weaker about budget asks more Memory w h = tt

-- ---- rows that were not made
pub one_list : (rows at : List Linear) → Contains (rows ∷ []) at → at ≡ rows
one_list rows at (zero, l, e) = sym e
one_list rows at (suc k, l, e) = absurd (omega (arith, l))

pub unmade_target : (c : LinearCase) (lists : List (List Linear)) (rows : List Linear) (fault : CoverFault) → Contains lists rows → IsUnmade c (rows ∷ []) fault → IsUnmade c lists fault
unmade_target c lists rows (Splits path) among h = absurd h
unmade_target c lists rows (Solve kept f) among h = absurd h
unmade_target c lists rows (Wide column) among h = record { rows = rows; target = among; at = h.at; among = subst (λ rs. Contains rs h.at) (one_list rows h.rows h.target) h.among; wide = h.wide }
unmade_target c lists rows Memory among h = tt

pub unmade_step : (about : CaseSystem) (budget : Budget) (q : Piece) (c : LinearCase) (into : List Piece) (fault : CoverFault) → IsUnmade c (lists_at c.to into) fault → IsRefusal about budget (λ a. a ≡ steps q c into) fault
unmade_step about budget q c into (Splits path) h = absurd h
unmade_step about budget q c into (Solve kept f) h = absurd h
unmade_step about budget q c into (Wide column) h = record { question = steps q c into; asked = refl; refuses = too_wide column h }
unmade_step about budget q c into Memory h = tt

-- of one of the regions in which the piece is to lie
pub each_refused : (about : CaseSystem) (budget : Budget) (q : Piece) (regions : List Region) (r : Region) (into : List Piece) (fault : CoverFault) → Contains regions r → into ≡ r.pieces.items → IsRefusal about budget (λ a. a ≡ lies q into) fault → IsRefusal about budget (AsksEach q regions) fault
each_refused about budget q regions r into fault among e h = refusal_weaker about budget (λ a. a ≡ lies q into) (AsksEach q regions) fault (λ a g. (r, among, subst (λ qs. a ≡ lies q qs) e g)) h

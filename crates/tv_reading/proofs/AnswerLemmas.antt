-- What an answer of code that reads says about the grammar that it reads by.
use Rattle.std.proofs.Common.{◌≡◌, ◌<◌, true, List, length, Result, Ok, Err, refl, sym, subst, ◌∙◌}
use Rattle.tv_grammar.specs.Reads.{Fault, faulty, fault, next}
use Rattle.tv_grammar.specs.Langs.{Branch, headed_read, goes_at, turns}
use Rattle.tv_grammar.specs.Exact.{ExactBranch}
use Rattle.tv_grammar.proofs.TurningLemmas.{loop_ends, loop_fails, loop_goes, turn_shrinks}
use Rattle.tv_reading.specs.Marks as marks
use Rattle.tv_reading.specs.Marks.{Kind}
use Rattle.tv_reading.specs.declared.reason.Reason.{Reason}
use Rattle.tv_reading.specs.declared.reason.Reason.TheVariants.{Syntax, Wide, Deep, NotLinear, TwoStarts, TooMany, UnknownName, Memory}
use Rattle.tv_reading.specs.declared.reason.Turn.TheVariants.{On, Off}
use Rattle.tv_reading.specs.Answers.{kind_of, Unless, Gives, Turned}

pub gives_along : {T X Y : Type 0} (view : X → Y) (r : Result X Reason) (left : List T) (a b : Result (Y × List T) (Fault T Kind)) → a ≡ b → Gives view r left b → Gives view r left a
gives_along view r left a b e h = subst (Gives view r left) (sym e) h

pub unless_map : (e : Reason) (p q : Type 0) → (p → q) → Unless e p → Unless e q
unless_map Memory p q f h = tt
unless_map Syntax p q f h = f h
unless_map Wide p q f h = f h
unless_map Deep p q f h = f h
unless_map NotLinear p q f h = f h
unless_map TwoStarts p q f h = f h
unless_map TooMany p q f h = f h
unless_map UnknownName p q f h = f h

-- ---- turns

module _ {T X S : Type 0} (view : X → S) (cases : S → T → Branch T Kind S) (h : (s : S) (t : T) → ExactBranch (cases s t)) (all : Result (S × List T) (Fault T Kind)) (s : S) (ts left : List T) (so_far : (turns cases s).read ts ≡ all) where
  pub turn_failed : (e : Reason) → Turned view (Err e) left cases s ts → Unless e (all ≡ fault (kind_of e) left)
  turn_failed e t = unless_map e ((goes_at (cases s) (next ts) ≡ true) × (headed_read marks.Syntax (cases s) ts ≡ fault (kind_of e) left)) (all ≡ fault (kind_of e) left) (λ w. sym so_far ∙ loop_fails cases h marks.Syntax s ts (faulty (kind_of e) left) w.0 w.1) t

  pub turn_on : (x : X) → Turned view (Ok (On x)) left cases s ts → (turns cases (view x)).read left ≡ all
  turn_on x t = sym (loop_goes cases h marks.Syntax s ts (view x) left t.0 t.1) ∙ so_far

  pub turn_less : (x : X) → Turned view (Ok (On x)) left cases s ts → length left < length ts
  turn_less x t = turn_shrinks cases h marks.Syntax s ts (view x) left t.1

  pub turn_off : (x : X) → Turned view (Ok (Off x)) left cases s ts → all ≡ Ok (view x, left)
  turn_off x t = sym so_far ∙ loop_ends cases h s ts t.0 ∙ rw (t.1, t.2) refl

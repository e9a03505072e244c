-- What a reading answers, by what its parts do.
use Rattle.std.proofs.Common.{◌≡◌, ℕ, true, List, Result, Err, refl, sym, ap, subst, ◌∙◌}
use Rattle.tv_program.specs.Trees.{Expression, Condition}
use Rattle.tv_grammar.specs.Reads.{Fault, fault}
use Rattle.tv_reading.specs.Marks as marks
use Rattle.tv_reading.specs.Marks.{Kind, Mark, Stand, left, Passes, stay}
use Rattle.tv_reading.specs.SumGrammar.{every, sum_at}
use Rattle.tv_reading.specs.ConditionGrammar.{condition_at}
use Rattle.tv_reading.specs.declared.source.Source.{Source}
use Rattle.tv_reading.specs.declared.cursor.Cursor.{Cursor}
use Rattle.tv_reading.specs.declared.reason.Reason.{Reason}
use Rattle.tv_reading.specs.declared.reason.Reason.TheVariants as reasons
use Rattle.tv_reading.specs.declared.fault.PartFault.{PartFault}
use Rattle.tv_reading.specs.declared.fault.PartFault.TheVariants as faults
use Rattle.tv_reading.specs.Views.{stand, Keeps}
use Rattle.tv_reading.specs.Answers as answers
use Rattle.tv_reading.specs.Answers.{Unless}
use Rattle.tv_reading.specs.Readings.{token_at, sum_levels, condition_levels, IsFault, IsTold, IsRead}

pub passed_by : (s : Source) (old new : Cursor) (v : Stand) → stand s old ≡ v → Keeps s old new → Passes v (stand s new)
passed_by s old new v is k = subst (λ (x : Stand). Passes x (stand s new)) is (k (stand s old) (stay (stand s old)))

-- a fault of a kind at a place is reported by its own kind
told_kind : {X Y : Type 0} (view : X → Y) (now : Stand) (read : Result (Y × List Mark) (Fault Mark Kind)) (k : Kind) (f : PartFault) → read ≡ fault k (left now) → IsFault f k (token_at now).at → IsRead view (Err f) now read
told_kind {X} {Y} view now read k (faults.Syntax at) e h = (e ∙ ap (λ (j : Kind). fault {X = Y × List Mark} j (left now)) h.0, (refl, h.1))
told_kind {X} {Y} view now read k (faults.Wide at) e h = (e ∙ ap (λ (j : Kind). fault {X = Y × List Mark} j (left now)) h.0, (refl, h.1))
told_kind {X} {Y} view now read k (faults.Deep at) e h = (e ∙ ap (λ (j : Kind). fault {X = Y × List Mark} j (left now)) h.0, (refl, h.1))
told_kind {X} {Y} view now read k (faults.NotLinear at) e h = (e ∙ ap (λ (j : Kind). fault {X = Y × List Mark} j (left now)) h.0, (refl, h.1))
told_kind {X} {Y} view now read k (faults.TooMany at) e h = (e ∙ ap (λ (j : Kind). fault {X = Y × List Mark} j (left now)) h.0, (refl, h.1))
told_kind {X} {Y} view now read k (faults.UnknownName at) e h = (e ∙ ap (λ (j : Kind). fault {X = Y × List Mark} j (left now)) h.0, (refl, h.1))
told_kind view now read k faults.Memory e h = absurd h

memory_told : {X Y : Type 0} (view : X → Y) (now : Stand) (read : Result (Y × List Mark) (Fault Mark Kind)) (f : PartFault) → f ≡ faults.Memory → IsRead view (Err f) now read
memory_told view now read f e = subst (λ (g : PartFault). IsRead view (Err g) now read) (sym e) tt

told_now : {X Y : Type 0} (view : X → Y) (now : Stand) (read : Result (Y × List Mark) (Fault Mark Kind)) (e : Reason) (f : PartFault) → Unless e (read ≡ fault (answers.kind_of e) (left now)) → IsTold e f (token_at now).at → IsRead view (Err f) now read
told_now view now read reasons.Memory f h t = memory_told view now read f t
told_now view now read reasons.Syntax f h t = told_kind view now read marks.Syntax f h t
told_now view now read reasons.Wide f h t = told_kind view now read marks.Wide f h t
told_now view now read reasons.Deep f h t = told_kind view now read marks.Deep f h t
told_now view now read reasons.NotLinear f h t = told_kind view now read marks.NotLinear f h t
told_now view now read reasons.TwoStarts f h t = told_kind view now read marks.TwoStarts f h t
told_now view now read reasons.TooMany f h t = told_kind view now read marks.TooMany f h t
told_now view now read reasons.UnknownName f h t = told_kind view now read marks.UnknownName f h t

pub told : {X Y : Type 0} (view : X → Y) (read : Stand → Result (Y × List Mark) (Fault Mark Kind)) (old v now : Stand) → old ≡ v → (e : Reason) (f : PartFault) → Unless e (read old ≡ fault (answers.kind_of e) (left now)) → IsTold e f (token_at now).at → IsRead view (Err f) now (read v)
told view read old v now is e f h t = subst (λ (s : Stand). IsRead view (Err f) now (read s)) is (told_now view now (read old) e f h t)

abbrev pub read_sum : Stand → Result (Expression × List Mark) (Fault Mark Kind)
read_sum s = (sum_at every (sum_levels s) true).read (left s)

abbrev pub read_condition : Stand → Result (Condition × List Mark) (Fault Mark Kind)
read_condition s = (condition_at every (condition_levels s)).read (left s)

pub same_sum : (s : Stand) (n : ℕ) → n ≡ sum_levels s → (sum_at every n true).read (left s) ≡ read_sum s
same_sum s n e = ap (λ (m : ℕ). (sum_at every m true).read (left s)) e

pub same_condition : (s : Stand) (n : ℕ) → n ≡ condition_levels s → (condition_at every n).read (left s) ≡ read_condition s
same_condition s n e = ap (λ (m : ℕ). (condition_at every m).read (left s)) e

pub unless_along : {X : Type 0} (e : Reason) (a b c : X) → a ≡ b → Unless e (a ≡ c) → Unless e (b ≡ c)
unless_along {X} e a b c is h = subst (λ (x : X). Unless e (x ≡ c)) is h

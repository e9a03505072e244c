-- Two grammars side by side, and a grammar of marks as one of tokens.
use Rattle.std.proofs.Common.{inl, inr}
use Rattle.std.specs.Prelude.{◌≡◌, ◌⊎◌, ℕ, ◌-◌, Bool, List, [], ◌++◌, length, drop, Option, Some, None, Result, Ok, Err, nat_lt, cond}
use Rattle.tv_grammar.specs.Reads.{Fault, faulty, fault}
use Rattle.tv_grammar.specs.Langs.{Lang, Branch}
use Rattle.tv_reading.specs.Marks.{Kind, Syntax, Mark}
use Rattle.tv_reading.specs.SumGrammar as sums
use Rattle.tv_formula_reader.specs.Seen.{Seen, marks}

abbrev pub Grammar : Type 0 → Type 1
Grammar X = Lang Seen Kind X

abbrev pub Behind : Type 0 → Type 1
Behind X = Branch Seen Kind X

-- ---- a grammar of marks

abbrev pub mark_at : Option Seen → Option Mark
mark_at None = None
mark_at (Some t) = Some t.mark

-- the last n of these
abbrev pub last : {T : Type 0} → ℕ → List T → List T
last n ts = drop (length ts - n) ts

abbrev pub lifted_read : {X : Type 0} → List Seen → Result (X × List Mark) (Fault Mark Kind) → Result (X × List Seen) (Fault Seen Kind)
lifted_read ts (Ok x) = Ok (x.0, last (length x.1) ts)
lifted_read ts (Err (faulty k r)) = fault k (last (length r) ts)

-- a text of l whose marks these tokens have
pub record Marked {X : Type 0} (l : sums.Grammar X) : Type 0 where
  pub of : l.Of
  pub tokens : List Seen
  pub same : marks tokens ≡ l.text of []

abbrev pub lifted : {X : Type 0} → sums.Grammar X → Grammar X
lifted l = record {
  Of = Marked l;
  text = λ d rest. d.tokens ++ rest;
  value = λ d. l.value d.of;
  goes_on = λ d t. l.goes_on d.of (mark_at t);
  read = λ ts. lifted_read ts (l.read (marks ts));
}

-- ---- two grammars

abbrev pub OfEither : {X : Type 0} → Grammar X → Grammar X → Type 0
OfEither a b = a.Of ⊎ b.Of

-- the fault that is further on; at one place the second
abbrev pub further : {X : Type 0} → List Seen → Kind → List Seen → Result X (Fault Seen Kind)
further r k s = cond (nat_lt (length r) (length s)) (fault Syntax r) (fault k s)

abbrev pub or_further : {X : Type 0} → List Seen → Result X (Fault Seen Kind) → Result X (Fault Seen Kind)
or_further r (Ok x) = Ok x
or_further r (Err (faulty k s)) = further r k s

-- the second is tried where the first is at fault by its grammar alone
abbrev pub either_read : {X : Type 0} → Result X (Fault Seen Kind) → Result X (Fault Seen Kind) → Result X (Fault Seen Kind)
either_read (Ok x) other = Ok x
either_read (Err (faulty Syntax r)) other = or_further r other
either_read (Err (faulty k r)) other = Err (faulty k r)

abbrev pub text_of_either : {X : Type 0} (a b : Grammar X) → OfEither a b → List Seen → List Seen
text_of_either a b (inl d) rest = a.text d rest
text_of_either a b (inr d) rest = b.text d rest

abbrev pub value_of_either : {X : Type 0} (a b : Grammar X) → OfEither a b → X
value_of_either a b (inl d) = a.value d
value_of_either a b (inr d) = b.value d

abbrev pub either_goes_on : {X : Type 0} (a b : Grammar X) → OfEither a b → Option Seen → Bool
either_goes_on a b (inl d) t = a.goes_on d t
either_goes_on a b (inr d) t = b.goes_on d t

-- a text of a, or else one of b
abbrev pub either : {X : Type 0} → Grammar X → Grammar X → Grammar X
either a b = record {
  Of = OfEither a b;
  text = text_of_either a b;
  value = value_of_either a b;
  goes_on = either_goes_on a b;
  read = λ ts. either_read (a.read ts) (b.read ts);
}

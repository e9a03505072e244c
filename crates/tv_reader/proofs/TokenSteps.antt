-- What single tokens do to the grammar.
use Rattle.std.proofs.Common.{◌≡◌, ℕ, ◌^◌, Bool, true, false, cond, List, [], ◌∷◌, Option, Some, None, ◌⊎◌, inl, inr, refl, ap, sym, ◌∙◌}
use Rattle.std.specs.Prelude.{nat_lt}
use Rattle.tv_language.specs.declared.token.TokenKind.{TokenKind}
use Rattle.tv_language.specs.declared.token.TokenKind.TheVariants as kinds
use Rattle.tv_language.specs.Numbers.{value_of_digits}
use Rattle.tv_program.specs.Words.{Word, number_of}
use Rattle.tv_language.specs.Symbols.{Symbol, number, name, label, drawn, fixed, Vocabulary}
use Rattle.tv_grammar.specs.Reads.{fault, next}
use Rattle.tv_grammar.specs.Langs.{branch_read, headed}
use Rattle.tv_reading.specs.Marks.{Mark, plain, refused, Syntax, Wide, TooMany}
use Rattle.tv_reading.specs.SumGrammar.{every}
use Rattle.tv_reading.specs.Views.{kind_at}
use Rattle.tv_reader.specs.ProgramMarks.{numbered, mark_by}
use Rattle.tv_reader.specs.ProgramGrammar.{label_cases}
use Rattle.tv_reader.specs.Readers.{is_fixed}

-- ---- the mark of a token of a fixed kind

not_fixed : (kind : TokenKind) → is_fixed kind ≡ true → kind ≡ kinds.Unread → ⊥
not_fixed kind h e = let no : is_fixed kinds.Unread ≡ true = ap is_fixed (sym e) ∙ h in cc

not_wide : (kind : TokenKind) → is_fixed kind ≡ true → kind ≡ kinds.Wide → ⊥
not_wide kind h e = let no : is_fixed kinds.Wide ≡ true = ap is_fixed (sym e) ∙ h in cc

numbered_kind : (k : TokenKind) (make : ℕ → Symbol) → ((n : ℕ) → kind_at (Some (plain (make n))) ≡ kinds.Unread) → (o : Option ℕ) → kind_at (Some (numbered k make o)) ≡ kinds.Unread
numbered_kind k make h (Some n) = h n
numbered_kind k make h None = refl

number_kind : (b : Bool) (n : ℕ) (kind : TokenKind) → is_fixed kind ≡ true → kind_at (Some (cond b (plain (number n)) (plain (fixed kinds.Wide)))) ≡ kind → ⊥
number_kind true n kind h e = not_fixed kind h (sym e)
number_kind false n kind h e = not_wide kind h (sym e)

draw_kind : (b : Bool) (d : ℕ) → kind_at (Some (cond b (plain (drawn d)) (refused TooMany kinds.Nondet))) ≡ kinds.Unread
draw_kind true d = refl
draw_kind false d = refl

-- a mark that has a fixed kind is of a token of this kind
pub kind_of_mark : (v : Vocabulary) (b : Bool) (d : ℕ) (k : TokenKind) (w : Word) (kind : TokenKind) → is_fixed kind ≡ true → kind_at (Some (mark_by v b d k w)) ≡ kind → k ≡ kind
kind_of_mark v true d kinds.Name w kind h e = absurd (not_fixed kind h (sym e ∙ numbered_kind kinds.Number label (λ n. refl) (number_of w v.labels)))
kind_of_mark v true d kinds.Number w kind h e = absurd (not_fixed kind h (sym e ∙ numbered_kind kinds.Number label (λ n. refl) (number_of w v.labels)))
kind_of_mark v false d kinds.Name w kind h e = absurd (not_fixed kind h (sym e ∙ numbered_kind kinds.Name name (λ n. refl) (number_of w v.variables)))
kind_of_mark v false d kinds.Number w kind h e = absurd (number_kind (nat_lt (value_of_digits w) (2 ^ 62)) (value_of_digits w) kind h e)
kind_of_mark v true d kinds.Nondet w kind h e = absurd (not_fixed kind h (sym e ∙ draw_kind (nat_lt d 64) d))
kind_of_mark v false d kinds.Nondet w kind h e = absurd (not_fixed kind h (sym e ∙ draw_kind (nat_lt d 64) d))
kind_of_mark v true d k w kind h e = e
kind_of_mark v false d k w kind h e = e

-- ---- a token that is wanted

pub from_mark : (v : Vocabulary) (b : Bool) (d : ℕ) (w : Word) → mark_by v b d kinds.From w ≡ plain (fixed kinds.From)
from_mark v true d w = refl
from_mark v false d w = refl

-- ---- a label

pub label_many : (v : Vocabulary) (d : ℕ) (kind : TokenKind) (w : Word) → (kind ≡ kinds.Name) ⊎ (kind ≡ kinds.Number) → number_of w v.labels ≡ None → mark_by v true d kind w ≡ refused TooMany kinds.Number
label_many v d kind w (inl e) h = ap (λ k. mark_by v true d k w) e ∙ ap (numbered kinds.Number label) h
label_many v d kind w (inr e) h = ap (λ k. mark_by v true d k w) e ∙ ap (numbered kinds.Number label) h

pub label_refused : (ms : List Mark) → next ms ≡ Some (refused TooMany kinds.Number) → (headed Syntax (label_cases every)).read ms ≡ fault TooMany ms
label_refused [] e = absurd cc
label_refused (m ∷ us) e = let is : m ≡ refused TooMany kinds.Number = cc in ap (λ x. branch_read (label_cases every x) (m ∷ us) us) is

pub label_wide : (ms : List Mark) → next ms ≡ Some (plain (fixed kinds.Wide)) → (headed Syntax (label_cases every)).read ms ≡ fault Wide ms
label_wide [] e = absurd cc
label_wide (m ∷ us) e = let is : m ≡ plain (fixed kinds.Wide) = cc in ap (λ x. branch_read (label_cases every x) (m ∷ us) us) is

label_none : (v : Vocabulary) (d : ℕ) (kind : TokenKind) (w : Word) → (kind ≡ kinds.Name → ⊥) → (kind ≡ kinds.Number → ⊥) → (kind ≡ kinds.Wide → ⊥) → (ms us : List Mark) → branch_read (label_cases every (mark_by v true d kind w)) ms us ≡ fault Syntax ms
label_none v d kinds.Name w a b c ms us = absurd (a refl)
label_none v d kinds.Number w a b c ms us = absurd (b refl)
label_none v d kinds.Wide w a b c ms us = absurd (c refl)
label_none v d kinds.Nondet w a b c ms us = by (nat_lt d 64)
  where
    by : (t : Bool) → branch_read (label_cases every (cond t (plain (drawn d)) (refused TooMany kinds.Nondet))) ms us ≡ fault Syntax ms
    by true = refl
    by false = refl
label_none v d kind w a b c ms us = refl

pub label_syntax : (v : Vocabulary) (d : ℕ) (kind : TokenKind) (w : Word) → (kind ≡ kinds.Name → ⊥) → (kind ≡ kinds.Number → ⊥) → (kind ≡ kinds.Wide → ⊥) → (ms : List Mark) → next ms ≡ Some (mark_by v true d kind w) → (headed Syntax (label_cases every)).read ms ≡ fault Syntax ms
label_syntax v d kind w a b c [] e = absurd cc
label_syntax v d kind w a b c (m ∷ us) e = let is : m ≡ mark_by v true d kind w = cc in ap (λ x. branch_read (label_cases every x) (m ∷ us) us) is ∙ label_none v d kind w a b c (m ∷ us) us

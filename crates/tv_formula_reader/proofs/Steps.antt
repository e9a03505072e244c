-- What one step of the code that reads formulas does.
use Rattle.std.proofs.Common.{◌≡◌, ℕ, zero, suc, ◌<◌, ◌≤◌, false, List, [], ◌∷◌, drop, length, Some, Ok, refl, sym, ap, subst, ◌∙◌}
use Rattle.tv_language.specs.declared.token.TokenKind.{TokenKind}
use Rattle.tv_language.specs.declared.token.TokenKind.TheVariants as kinds
use Rattle.tv_language.specs.Symbols.{number, name, label, drawn, fixed}
use Rattle.tv_program.specs.Words.{Word}
use Rattle.tv_formula.specs.Properties.{Property, negated}
use Rattle.tv_grammar.specs.Reads.{Fault, fault, next}
use Rattle.tv_grammar.specs.Langs.{unit, branch_read, headed_read, then, mapped}
use Rattle.tv_reading.specs.Marks as marks
use Rattle.tv_reading.specs.Marks.{Kind, Mark, plain, refused}
use Rattle.tv_reading.specs.Views.{kind_at}
use Rattle.tv_reading.specs.SumGrammar.{every}
use Rattle.tv_reading.specs.declared.reason.Reason.{Reason}
use Rattle.tv_reading.specs.declared.reason.Reason.TheVariants.{Syntax, Wide, Deep, NotLinear, TwoStarts, TooMany, UnknownName, Memory}
use Rattle.tv_reading.proofs.AnswerLemmas.{unless_map}
use Rattle.tv_grammar.proofs.Results.{ok_is}
use Rattle.tv_formula_reader.specs.Seen.{Seen}
use Rattle.tv_formula_reader.specs.Choice.{Grammar, Behind}
use Rattle.tv_formula_reader.specs.FormulaGrammar.{at_kind, open_by, opened, closed, operated, plain_by, leaf_by, leaves, below, comparison, plain_at, literal_at, formula_at}
use Rattle.tv_reading.specs.Answers.{kind_of, Unless}
use Rattle.tv_formula_reader.specs.Answers.{kind_seen, is_memory, the_nothing}
use Rattle.tv_formula_reader.proofs.ChoiceLemmas.{first_further, second_further}
use Rattle.tv_formula_reader.proofs.PlainOrSum.{plain_read, nothing_read}

abbrev kind_of_mark : Mark → TokenKind
kind_of_mark m = kind_at (Some m)

-- the mark of a kind that stands in the grammar
mark_is : (m : Mark) (k : TokenKind) → k ≡ kind_of_mark m → (k ≡ kinds.Unread → ⊥) → m ≡ plain (fixed k)
mark_is (plain (fixed j)) k e n = ap (λ (i : TokenKind). plain (fixed i)) (sym e)
mark_is (plain (number v)) k e n = absurd (n e)
mark_is (plain (name v)) k e n = absurd (n e)
mark_is (plain (label v)) k e n = absurd (n e)
mark_is (plain (drawn v)) k e n = absurd (n e)
mark_is (refused j kind) k e n = absurd (n e)

-- what reads by the kind of the first token, given the kind
kind_read : {X : Type 0} (f : Seen → TokenKind → Behind X) (g : TokenKind → Behind X) (ts : List Seen) (k : TokenKind) → k ≡ kind_seen (next ts) → (k ≡ kinds.Unread → ⊥) → ((t : Seen) (here us : List Seen) → branch_read (f t k) here us ≡ branch_read (g k) here us) → headed_read marks.Syntax (λ t. at_kind (f t) t.mark) ts ≡ branch_read (g k) ts (drop 1 ts)
kind_read f g [] k e n h = absurd (n e)
kind_read f g (t ∷ ts) k e n h = ap (λ (m : Mark). branch_read (at_kind (f t) m) (t ∷ ts) ts) (mark_is t.mark k e n) ∙ h t (t ∷ ts) ts

module _ (n : ℕ) (ts us : List Seen) (rest : us ≡ drop 1 ts) where
  pub plain_left : (m : ℕ) → m ≡ suc n → kinds.LeftRound ≡ kind_seen (next ts) → (plain_at every m).read ts ≡ (then (formula_at every n) closed).read us
  plain_left m is k =
      subst (λ (q : ℕ). (plain_at every q).read ts ≡ (then (formula_at every n) closed).read us) (sym is)
      (plain_read every (suc n) ts ∙ kind_read (λ t. plain_by every (below every (suc n)) t.word) (plain_by every (below every (suc n)) []) ts kinds.LeftRound k (λ w. cc) (λ t here vs. refl) ∙ ap (then (formula_at every n) closed).read (sym rest))

  pub plain_not : (m : ℕ) → m ≡ suc n → kinds.Not ≡ kind_seen (next ts) → (plain_at every m).read ts ≡ (mapped negated (plain_at every n)).read us
  plain_not m is k =
      subst (λ (q : ℕ). (plain_at every q).read ts ≡ (mapped negated (plain_at every n)).read us) (sym is)
      (plain_read every (suc n) ts ∙ kind_read (λ t. plain_by every (below every (suc n)) t.word) (plain_by every (below every (suc n)) []) ts kinds.Not k (λ w. cc) (λ t here vs. refl) ∙ ap (mapped negated (plain_at every n)).read (sym rest))

  pub plain_square : (m : ℕ) → m ≡ suc n → kinds.LeftSquare ≡ kind_seen (next ts) → (plain_at every m).read ts ≡ (operated (formula_at every n)).read us
  plain_square m is k =
      subst (λ (q : ℕ). (plain_at every q).read ts ≡ (operated (formula_at every n)).read us) (sym is)
      (plain_read every (suc n) ts ∙ kind_read (λ t. plain_by every (below every (suc n)) t.word) (plain_by every (below every (suc n)) []) ts kinds.LeftSquare k (λ w. cc) (λ t here vs. refl) ∙ ap (operated (formula_at every n)).read (sym rest))

deep_at : (ts : List Seen) (k : TokenKind) → k ≡ kind_seen (next ts) → (k ≡ kinds.Unread → ⊥) → ((w : Word) (here us : List Seen) → branch_read (plain_by every (below every 0) w k) here us ≡ fault marks.Deep here) → (n : ℕ) → n ≡ 0 → (plain_at every n).read ts ≡ fault marks.Deep ts
deep_at ts k e u h n is =
    subst (λ (q : ℕ). (plain_at every q).read ts ≡ fault marks.Deep ts) (sym is)
    (plain_read every 0 ts ∙ kind_read (λ t. plain_by every (below every 0) t.word) (plain_by every (below every 0) []) ts k e u (λ t here us. h t.word here us ∙ sym (h [] here us)) ∙ h [] ts (drop 1 ts))

pub deep_left : (n : ℕ) (ts : List Seen) → n ≡ 0 → kinds.LeftRound ≡ kind_seen (next ts) → (plain_at every n).read ts ≡ fault marks.Deep ts
deep_left n ts is k = deep_at ts kinds.LeftRound k (λ w. cc) (λ w here us. refl) n is

pub deep_not : (n : ℕ) (ts : List Seen) → n ≡ 0 → kinds.Not ≡ kind_seen (next ts) → (plain_at every n).read ts ≡ fault marks.Deep ts
deep_not n ts is k = deep_at ts kinds.Not k (λ w. cc) (λ w here us. refl) n is

pub deep_square : (n : ℕ) (ts : List Seen) → n ≡ 0 → kinds.LeftSquare ≡ kind_seen (next ts) → (plain_at every n).read ts ≡ fault marks.Deep ts
deep_square n ts is k = deep_at ts kinds.LeftSquare k (λ w. cc) (λ w here us. refl) n is

-- a kind that opens no level
abbrev IsFlat : TokenKind → Type 0
IsFlat k = (k ≡ kinds.LeftRound → ⊥) × (k ≡ kinds.Not → ⊥) × (k ≡ kinds.LeftSquare → ⊥)

flat_kind : (n : ℕ) (w : Word) (k : TokenKind) → IsFlat k → (here us : List Seen) → branch_read (plain_by every (below every n) w k) here us ≡ branch_read (leaf_by every w k) here us
flat_kind n w kinds.LeftRound h here us = absurd (h.0 refl)
flat_kind n w kinds.Not h here us = absurd (h.1 refl)
flat_kind n w kinds.LeftSquare h here us = absurd (h.2 refl)
flat_kind zero w kinds.True h here us = refl
flat_kind (suc n) w kinds.True h here us = refl
flat_kind zero w kinds.False h here us = refl
flat_kind (suc n) w kinds.False h here us = refl
flat_kind zero w kinds.Name h here us = refl
flat_kind (suc n) w kinds.Name h here us = refl
flat_kind zero w k h here us = refl
flat_kind (suc n) w k h here us = refl

flat_mark : (n : ℕ) (w : Word) (m : Mark) → IsFlat (kind_of_mark m) → (here us : List Seen) → branch_read (at_kind (plain_by every (below every n) w) m) here us ≡ branch_read (at_kind (leaf_by every w) m) here us
flat_mark n w (plain (fixed k)) h here us = flat_kind n w k h here us
flat_mark n w _ h here us = refl

pub plain_flat : (n : ℕ) (ts : List Seen) (k : TokenKind) → k ≡ kind_seen (next ts) → (k ≡ kinds.LeftRound → ⊥) → (k ≡ kinds.Not → ⊥) → (k ≡ kinds.LeftSquare → ⊥) → (plain_at every n).read ts ≡ (leaves every).read ts
plain_flat n [] k e a b c = plain_read every n []
plain_flat n (t ∷ ts) k e a b c = plain_read every n (t ∷ ts) ∙ flat_mark n t.word t.mark (λ w. a (e ∙ w), λ w. b (e ∙ w), λ w. c (e ∙ w)) (t ∷ ts) ts

-- ---- a literal

pub literal_second : (n : ℕ) (ts s : List Seen) (x : Property) (r : List Seen) → (comparison every n).read ts ≡ fault marks.Syntax s → (plain_at every n).read ts ≡ Ok (x, r) → (literal_at every n).read ts ≡ Ok (x, r)
literal_second n ts s x r e f = rw (e, f) refl

second_fault : (n : ℕ) (ts s : List Seen) (k : Kind) (r : List Seen) → (comparison every n).read ts ≡ fault marks.Syntax s → (plain_at every n).read ts ≡ fault k r → length r ≤ length s → (literal_at every n).read ts ≡ fault k r
second_fault n ts s k r e f l = rw (e, f) (second_further s k r l)

first_fault : (n : ℕ) (ts s : List Seen) (k : Kind) (r : List Seen) → (comparison every n).read ts ≡ fault marks.Syntax s → (plain_at every n).read ts ≡ fault k r → length s < length r → (literal_at every n).read ts ≡ fault marks.Syntax s
first_fault n ts s k r e f l = rw (e, f) (first_further s k r l)

pub literal_further : (n : ℕ) (ts s : List Seen) (e : Reason) (r : List Seen) → (comparison every n).read ts ≡ fault marks.Syntax s → length r ≤ length s → Unless e ((plain_at every n).read ts ≡ fault (kind_of e) r) → Unless e ((literal_at every n).read ts ≡ fault (kind_of e) r)
literal_further n ts s e r c l h = unless_map e ((plain_at every n).read ts ≡ fault (kind_of e) r) ((literal_at every n).read ts ≡ fault (kind_of e) r) (λ f. second_fault n ts s (kind_of e) r c f l) h

-- the comparison is read again, since its fault is further on
again_by : (n : ℕ) (ts s : List Seen) (k : Kind) (r : List Seen) → (comparison every n).read ts ≡ fault marks.Syntax s → (plain_at every n).read ts ≡ fault k r → length s < length r → (literal_at every n).read ts ≡ (comparison every n).read ts
again_by n ts s k r e f l = first_fault n ts s k r e f l ∙ sym e

again_at : (e : Reason) → is_memory e ≡ false → (p : Type 0) → Unless e p → p
again_at Memory n p h = absurd cc
again_at Syntax n p h = h
again_at Wide n p h = h
again_at Deep n p h = h
again_at NotLinear n p h = h
again_at TwoStarts n p h = h
again_at TooMany n p h = h
again_at UnknownName n p h = h

pub literal_again : (n : ℕ) (ts s : List Seen) (e : Reason) (r : List Seen) → is_memory e ≡ false → (comparison every n).read ts ≡ fault marks.Syntax s → Unless e ((plain_at every n).read ts ≡ fault (kind_of e) r) → length s < length r → (literal_at every n).read ts ≡ (comparison every n).read ts
literal_again n ts s e r m c h l = again_by n ts s (kind_of e) r c (again_at e m ((plain_at every n).read ts ≡ fault (kind_of e) r) h) l

pub literal_none : (n : ℕ) (ts : List Seen) → ts ≡ [] → (literal_at every n).read ts ≡ fault marks.Syntax ts
literal_none n ts e = rw e (rw (nothing_read every n, plain_read every n []) refl)

-- ---- brackets

pub opened_on : {X : Type 0} (l : Grammar X) (ts us : List Seen) → (opened (unit the_nothing)).read ts ≡ Ok (the_nothing, us) → (opened l).read ts ≡ l.read us
opened_on l [] us e = absurd cc
opened_on {X} l (t ∷ ts) us e = by t.mark e
  where
    by : (m : Mark) → branch_read (at_kind (open_by (unit the_nothing)) m) (t ∷ ts) ts ≡ Ok (the_nothing, us) → branch_read (at_kind (open_by l) m) (t ∷ ts) ts ≡ l.read us
    by (plain (fixed kinds.LeftRound)) f = ap (λ (p : Unit {0} × List Seen). l.read p.1) (ok_is {E = Fault Seen Kind} (the_nothing, ts) (the_nothing, us) f)
    by _ f = absurd cc

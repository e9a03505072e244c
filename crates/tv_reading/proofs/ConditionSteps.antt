-- What one step of the code that reads conditions does.
use Rattle.std.proofs.Common.{◌≡◌, ℕ, zero, suc, true, false, List, [], ◌∷◌, drop, Option, Some, None, Result, Ok, refl, sym, ap, subst, ◌∙◌, arith}
use Rattle.tv_language.specs.declared.token.TokenKind.{TokenKind}
use Rattle.tv_language.specs.declared.token.TokenKind.TheVariants as kinds
use Rattle.tv_program.specs.declared.tree.Relation.{Relation}
use Rattle.tv_program.specs.Trees.{Expression, Condition, truth, compare, negated}
use Rattle.tv_language.specs.Symbols.{number, name, label, drawn, fixed}
use Rattle.tv_language.specs.Conditions.{relation_of}
use Rattle.tv_grammar.specs.Reads.{Fault, faulty, ◌>>=◌, fault, next}
use Rattle.tv_grammar.specs.Langs.{stop, go, branch_read, headed_read, goes_at, then, mapped, turns, is_go}
use Rattle.tv_grammar.specs.Exact.{ExactBranch}
use Rattle.tv_grammar.proofs.TurningLemmas.{loop_ends, loop_fails, loop_goes}
use Rattle.tv_reading.specs.Marks as marks
use Rattle.tv_reading.specs.Marks.{Kind, Mark, plain, refused}
use Rattle.tv_reading.specs.SumGrammar.{Grammar, Behind, every, closed, factor_cases, below, factor_at, sum_at}
use Rattle.tv_reading.specs.ConditionGrammar.{Thing, value, tested, relation_by, compared, relation_cases, tail, after_factor, Under, ground, level, plain_cases, in_brackets, thing_cases, thing_at, plain_at, condition_at}
use Rattle.tv_reading.specs.declared.reason.Reason.{Reason}
use Rattle.tv_reading.specs.Views.{kind_at}
use Rattle.tv_reading.specs.Answers.{kind_of, Unless}
use Rattle.tv_reading.proofs.SumLemmas.{sum_exact}
use Rattle.tv_reading.proofs.ConditionLemmas.{relation_branch}
use Rattle.tv_reading.proofs.AnswerLemmas.{unless_map}
use Rattle.tv_reading.proofs.SumSteps.{at_mark, factor_mark, none_read, kind_is}

-- ---- a relation after a sum

abbrev Cases : ℕ → Thing → Mark → Behind Thing
Cases n = relation_cases (sum_at every n true)

branches : (n : ℕ) (x : Thing) (m : Mark) → ExactBranch (Cases n x m)
branches n = relation_branch (sum_at every n true) (sum_exact every n true)

pub stands : (kind : TokenKind) (r : Relation) → relation_of kind ≡ Some r → kind ≡ kinds.Unread → ⊥
stands kind r e w = let none : None ≡ Some r = ap relation_of (sym w) ∙ e in cc

goes_by : (o : Option Relation) (r : Relation) → o ≡ Some r → (a : Expression) (l : Grammar Expression) → is_go (relation_by o (compared a) l) ≡ true
goes_by None r e a l = absurd cc
goes_by (Some s) r e a l = refl

read_by : (o : Option Relation) (r : Relation) → o ≡ Some r → (a : Expression) (l : Grammar Expression) (ts us : List Mark) → branch_read (relation_by o (compared a) l) ts us ≡ (mapped (compared a r) l).read us
read_by o r e a l ts us = rw e refl

module _ (n : ℕ) (a : Expression) (ts us : List Mark) (kind : TokenKind) (r : Relation) (at : kind ≡ kind_at (next ts)) (is : relation_of kind ≡ Some r) (rest : us ≡ drop 1 ts) where
  first : Some (plain (fixed kind)) ≡ next ts
  first = kind_is (next ts) kind at (stands kind r is)

  goes : goes_at (Cases n (value a)) (next ts) ≡ true
  goes = ap (goes_at (Cases n (value a))) (sym first) ∙ goes_by (relation_of kind) r is a (sum_at every n true)

  reads : headed_read marks.Syntax (Cases n (value a)) ts ≡ (mapped (compared a r) (sum_at every n true)).read us
  reads = at_mark (Cases n (value a)) ts (plain (fixed kind)) first ∙ read_by (relation_of kind) r is a (sum_at every n true) ts (drop 1 ts) ∙ ap (mapped (compared a r) (sum_at every n true)).read (sym rest)

  nothing_more : (c : Condition) (left : List Mark) → goes_at (Cases n (tested c)) (next left) ≡ false
  nothing_more c [] = refl
  nothing_more c (m ∷ left) = refl

  pub related_on : (b : Expression) (left : List Mark) → (sum_at every n true).read us ≡ Ok (b, left) → (turns (Cases n) (value a)).read ts ≡ Ok (tested (compare r a b), left)
  related_on b left e =
      loop_goes (Cases n) (branches n) marks.Syntax (value a) ts (tested (compare r a b)) left goes (reads ∙ rw e refl)
      ∙ loop_ends (Cases n) (branches n) (tested (compare r a b)) left (nothing_more (compare r a b) left)

  failed : (k : Kind) (left : List Mark) → (sum_at every n true).read us ≡ fault k left → (turns (Cases n) (value a)).read ts ≡ fault k left
  failed k left e = loop_fails (Cases n) (branches n) marks.Syntax (value a) ts (faulty k left) goes (reads ∙ rw e refl)

  pub related_failed : (e : Reason) (left : List Mark) → Unless e ((sum_at every n true).read us ≡ fault (kind_of e) left) → Unless e ((turns (Cases n) (value a)).read ts ≡ fault (kind_of e) left)
  related_failed e left h = unless_map e ((sum_at every n true).read us ≡ fault (kind_of e) left) ((turns (Cases n) (value a)).read ts ≡ fault (kind_of e) left) (failed (kind_of e) left) h

none_by : (o : Option Relation) → o ≡ None → (a : Expression) (l : Grammar Expression) → is_go (relation_by o (compared a) l) ≡ false
none_by None e a l = refl
none_by (Some r) e a l = absurd cc

off : (n : ℕ) (a : Expression) (o : Option Mark) → relation_of (kind_at o) ≡ None → goes_at (Cases n (value a)) o ≡ false
off n a None e = refl
off n a (Some (plain (fixed kind))) e = none_by (relation_of kind) e a (sum_at every n true)
off n a (Some (plain (number v))) e = refl
off n a (Some (plain (name v))) e = refl
off n a (Some (plain (label v))) e = refl
off n a (Some (plain (drawn v))) e = refl
off n a (Some (refused k kind)) e = refl

pub related_off : (n : ℕ) (a : Expression) (ts : List Mark) (kind : TokenKind) → kind ≡ kind_at (next ts) → relation_of kind ≡ None → (turns (Cases n) (value a)).read ts ≡ Ok (value a, ts)
related_off n a ts kind at is = loop_ends (Cases n) (branches n) (value a) ts (off n a (next ts) (ap relation_of (sym at) ∙ is))

-- ---- things and plain conditions

abbrev under : ℕ → Under
under zero = ground
under (suc n) = level (thing_at every n) (plain_at every n)

thing_read : (n : ℕ) (ts : List Mark) → (thing_at every n).read ts ≡ headed_read marks.Syntax (thing_cases every n (under n)) ts
unfolding thing_at plain_at
thing_read zero ts = refl
thing_read (suc n) ts = refl

plain_read : (n : ℕ) (ts : List Mark) → (plain_at every n).read ts ≡ headed_read marks.Syntax (plain_cases (under n)) ts
unfolding thing_at plain_at
plain_read zero ts = refl
plain_read (suc n) ts = refl

thing_mark : (n : ℕ) (ts : List Mark) (kind : TokenKind) → kind ≡ kind_at (next ts) → (kind ≡ kinds.Unread → ⊥) → (thing_at every n).read ts ≡ branch_read (thing_cases every n (under n) (plain (fixed kind))) ts (drop 1 ts)
thing_mark n ts kind at not = thing_read n ts ∙ at_mark (thing_cases every n (under n)) ts (plain (fixed kind)) (kind_is (next ts) kind at not)

plain_mark : (n : ℕ) (ts : List Mark) (kind : TokenKind) → kind ≡ kind_at (next ts) → (kind ≡ kinds.Unread → ⊥) → (plain_at every n).read ts ≡ branch_read (plain_cases (under n) (plain (fixed kind))) ts (drop 1 ts)
plain_mark n ts kind at not = plain_read n ts ∙ at_mark (plain_cases (under n)) ts (plain (fixed kind)) (kind_is (next ts) kind at not)

pub thing_deep_left : (n : ℕ) (ts : List Mark) → n ≡ 0 → kinds.LeftRound ≡ kind_at (next ts) → (thing_at every n).read ts ≡ fault marks.Deep ts
thing_deep_left zero ts e at = thing_mark zero ts kinds.LeftRound at (λ w. cc)
thing_deep_left (suc n) ts e at = absurd (omega arith)

pub thing_deep_not : (n : ℕ) (ts : List Mark) → n ≡ 0 → kinds.Not ≡ kind_at (next ts) → (thing_at every n).read ts ≡ fault marks.Deep ts
thing_deep_not zero ts e at = thing_mark zero ts kinds.Not at (λ w. cc)
thing_deep_not (suc n) ts e at = absurd (omega arith)

pub plain_deep_left : (n : ℕ) (ts : List Mark) → n ≡ 0 → kinds.LeftRound ≡ kind_at (next ts) → (plain_at every n).read ts ≡ fault marks.Deep ts
plain_deep_left zero ts e at = plain_mark zero ts kinds.LeftRound at (λ w. cc)
plain_deep_left (suc n) ts e at = absurd (omega arith)

pub plain_deep_not : (n : ℕ) (ts : List Mark) → n ≡ 0 → kinds.Not ≡ kind_at (next ts) → (plain_at every n).read ts ≡ fault marks.Deep ts
plain_deep_not zero ts e at = plain_mark zero ts kinds.Not at (λ w. cc)
plain_deep_not (suc n) ts e at = absurd (omega arith)

thing_left_suc : (m : ℕ) (ts us : List Mark) → kinds.LeftRound ≡ kind_at (next ts) → us ≡ drop 1 ts → (thing_at every (suc m)).read ts ≡ (in_brackets every (suc m) (thing_at every m)).read us
thing_left_suc m ts us at e = thing_mark (suc m) ts kinds.LeftRound at (λ w. cc) ∙ ap (in_brackets every (suc m) (thing_at every m)).read (sym e)

pub thing_left : (n m q : ℕ) (ts us : List Mark) → n ≡ suc m → q ≡ suc m → kinds.LeftRound ≡ kind_at (next ts) → us ≡ drop 1 ts → (thing_at every n).read ts ≡ (in_brackets every q (thing_at every m)).read us
thing_left n m q ts us is qs at e =
    subst (λ (k : ℕ). (thing_at every k).read ts ≡ (in_brackets every q (thing_at every m)).read us) (sym is)
    (subst (λ (k : ℕ). (thing_at every (suc m)).read ts ≡ (in_brackets every k (thing_at every m)).read us) (sym qs) (thing_left_suc m ts us at e))

pub thing_not : (n m : ℕ) (ts us : List Mark) → n ≡ suc m → kinds.Not ≡ kind_at (next ts) → us ≡ drop 1 ts → (thing_at every n).read ts ≡ (mapped (λ c. tested (negated c)) (plain_at every m)).read us
thing_not n m ts us is at e = subst (λ (k : ℕ). (thing_at every k).read ts ≡ (mapped (λ c. tested (negated c)) (plain_at every m)).read us) (sym is) (thing_mark (suc m) ts kinds.Not at (λ w. cc) ∙ ap (mapped (λ c. tested (negated c)) (plain_at every m)).read (sym e))

pub plain_left : (n m : ℕ) (ts us : List Mark) → n ≡ suc m → kinds.LeftRound ≡ kind_at (next ts) → us ≡ drop 1 ts → (plain_at every n).read ts ≡ (then (condition_at every m) closed).read us
plain_left n m ts us is at e = subst (λ (k : ℕ). (plain_at every k).read ts ≡ (then (condition_at every m) closed).read us) (sym is) (plain_mark (suc m) ts kinds.LeftRound at (λ w. cc) ∙ ap (then (condition_at every m) closed).read (sym e))

pub plain_not : (n m : ℕ) (ts us : List Mark) → n ≡ suc m → kinds.Not ≡ kind_at (next ts) → us ≡ drop 1 ts → (plain_at every n).read ts ≡ (mapped negated (plain_at every m)).read us
plain_not n m ts us is at e = subst (λ (k : ℕ). (plain_at every k).read ts ≡ (mapped negated (plain_at every m)).read us) (sym is) (plain_mark (suc m) ts kinds.Not at (λ w. cc) ∙ ap (mapped negated (plain_at every m)).read (sym e))

pub thing_true : (n : ℕ) (ts : List Mark) → kinds.True ≡ kind_at (next ts) → (thing_at every n).read ts ≡ Ok (tested (truth true), drop 1 ts)
thing_true zero ts at = thing_mark zero ts kinds.True at (λ w. cc)
thing_true (suc n) ts at = thing_mark (suc n) ts kinds.True at (λ w. cc)

pub thing_false : (n : ℕ) (ts : List Mark) → kinds.False ≡ kind_at (next ts) → (thing_at every n).read ts ≡ Ok (tested (truth false), drop 1 ts)
thing_false zero ts at = thing_mark zero ts kinds.False at (λ w. cc)
thing_false (suc n) ts at = thing_mark (suc n) ts kinds.False at (λ w. cc)

pub plain_true : (n : ℕ) (ts : List Mark) → kinds.True ≡ kind_at (next ts) → (plain_at every n).read ts ≡ Ok (truth true, drop 1 ts)
plain_true zero ts at = plain_mark zero ts kinds.True at (λ w. cc)
plain_true (suc n) ts at = plain_mark (suc n) ts kinds.True at (λ w. cc)

pub plain_false : (n : ℕ) (ts : List Mark) → kinds.False ≡ kind_at (next ts) → (plain_at every n).read ts ≡ Ok (truth false, drop 1 ts)
plain_false zero ts at = plain_mark zero ts kinds.False at (λ w. cc)
plain_false (suc n) ts at = plain_mark (suc n) ts kinds.False at (λ w. cc)

-- neither a bracket, nor "!", nor a truth value
abbrev IsOther : TokenKind → Type 0
IsOther k = (k ≡ kinds.LeftRound → ⊥) × (k ≡ kinds.Not → ⊥) × (k ≡ kinds.True → ⊥) × (k ≡ kinds.False → ⊥)

other_thing : (n : ℕ) (u : Under) (m : Mark) → IsOther (kind_at (Some m)) → thing_cases every n u m ≡ after_factor every n (factor_cases every true (below every n true) m)
other_thing n u (plain (fixed kinds.LeftRound)) h = absurd (h.0 refl)
other_thing n u (plain (fixed kinds.Not)) h = absurd (h.1 refl)
other_thing n u (plain (fixed kinds.True)) h = absurd (h.2 refl)
other_thing n u (plain (fixed kinds.False)) h = absurd (h.3 refl)
other_thing n ground m h = refl
other_thing n (level thing plainly) m h = refl

other_plain : (u : Under) (m : Mark) → IsOther (kind_at (Some m)) → plain_cases u m ≡ stop marks.Syntax
other_plain u (plain (fixed kinds.LeftRound)) h = absurd (h.0 refl)
other_plain u (plain (fixed kinds.Not)) h = absurd (h.1 refl)
other_plain u (plain (fixed kinds.True)) h = absurd (h.2 refl)
other_plain u (plain (fixed kinds.False)) h = absurd (h.3 refl)
other_plain ground m h = refl
other_plain (level thing plainly) m h = refl

after_read : (n : ℕ) (b : Behind Expression) (ts us : List Mark) → branch_read (after_factor every n b) ts us ≡ (branch_read b ts us >>= λ x. (tail every n x.0).read x.1)
after_read n (stop k) ts us = refl
after_read n (go l) ts us = refl

others : (k : TokenKind) (o : Option Mark) → k ≡ kind_at o → IsOther k → IsOther (kind_at o)
others k o e h = subst IsOther e h

thing_other_at : (n : ℕ) (ts : List Mark) → IsOther (kind_at (next ts)) → (thing_at every n).read ts ≡ (then (factor_at every n true) (tail every n)).read ts
thing_other_at n [] h = thing_read n [] ∙ sym (rw (none_read n true [] refl) refl)
thing_other_at n (m ∷ ts) h =
    thing_read n (m ∷ ts)
    ∙ ap (λ (b : Behind Thing). branch_read b (m ∷ ts) ts) (other_thing n (under n) m h)
    ∙ after_read n (factor_cases every true (below every n true) m) (m ∷ ts) ts
    ∙ ap (λ (r : Result (Expression × List Mark) (Fault Mark Kind)). r >>= λ x. (tail every n x.0).read x.1) (sym (factor_mark n true (m ∷ ts) m refl))

pub thing_other : (n : ℕ) (ts : List Mark) (k : TokenKind) → k ≡ kind_at (next ts) → (k ≡ kinds.LeftRound → ⊥) → (k ≡ kinds.Not → ⊥) → (k ≡ kinds.True → ⊥) → (k ≡ kinds.False → ⊥) → (thing_at every n).read ts ≡ (then (factor_at every n true) (tail every n)).read ts
thing_other n ts k e a b c d = thing_other_at n ts (others k (next ts) e (a, b, c, d))

plain_other_at : (n : ℕ) (ts : List Mark) → IsOther (kind_at (next ts)) → (plain_at every n).read ts ≡ fault marks.Syntax ts
plain_other_at n [] h = plain_read n []
plain_other_at n (m ∷ ts) h = plain_read n (m ∷ ts) ∙ ap (λ (b : Behind Condition). branch_read b (m ∷ ts) ts) (other_plain (under n) m h)

pub plain_other : (n : ℕ) (ts : List Mark) (k : TokenKind) → k ≡ kind_at (next ts) → (k ≡ kinds.LeftRound → ⊥) → (k ≡ kinds.Not → ⊥) → (k ≡ kinds.True → ⊥) → (k ≡ kinds.False → ⊥) → (plain_at every n).read ts ≡ fault marks.Syntax ts
plain_other n ts k e a b c d = plain_other_at n ts (others k (next ts) e (a, b, c, d))

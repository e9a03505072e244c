-- What the kind of a refusal says, for each grammar that asks less where fewer kinds are kept.
use Rattle.std.proofs.Common.{◌≡◌, ℕ, Bool, true, false, List, refl}
use Rattle.tv_grammar.specs.Reads.{fault}
use Rattle.tv_grammar.specs.Langs.{Lang}
use Rattle.tv_grammar.specs.Exact.{Exact, Ends}
use Rattle.tv_grammar.specs.Faults.{Loosens}
use Rattle.tv_grammar.proofs.LooseLemmas.{none_in, begun}
use Rattle.tv_reading.specs.Marks.{Kind, Syntax, Wide, Deep, NotLinear, TwoStarts, TooMany, UnknownName}
use Rattle.tv_reading.specs.SumGrammar.{every}
use Rattle.tv_reading.specs.Refusals.{upto, under, Levels, Refuses}

pub kept_itself : (k : Kind) → upto k k ≡ true
kept_itself Syntax = refl
kept_itself Wide = refl
kept_itself Deep = refl
kept_itself NotLinear = refl
kept_itself TwoStarts = refl
kept_itself TooMany = refl
kept_itself UnknownName = refl

pub syntax_kept : (k : Kind) → upto k Syntax ≡ true
syntax_kept Syntax = refl
syntax_kept Wide = refl
syntax_kept Deep = refl
syntax_kept NotLinear = refl
syntax_kept TwoStarts = refl
syntax_kept TooMany = refl
syntax_kept UnknownName = refl

pub itself_not : (k : Kind) → under k k ≡ false
itself_not Syntax = refl
itself_not Wide = refl
itself_not Deep = refl
itself_not NotLinear = refl
itself_not TwoStarts = refl
itself_not TooMany = refl
itself_not UnknownName = refl

pub syntax_under : (k : Kind) → (k ≡ Syntax → ⊥) → under k Syntax ≡ true
syntax_under Syntax n = absurd (n refl)
syntax_under Wide n = refl
syntax_under Deep n = refl
syntax_under NotLinear n = refl
syntax_under TwoStarts n = refl
syntax_under TooMany n = refl
syntax_under UnknownName n = refl

pub refuses : {T X : Type 0} (grammar : (Kind → Bool) → ℕ → Lang T Kind X) → ((kept : Kind → Bool) (n : ℕ) → Exact (grammar kept n)) → ((kept : Kind → Bool) (n : ℕ) → Ends (grammar kept n)) → ((kept : Kind → Bool) → kept Syntax ≡ true → (n m : ℕ) → Levels (kept Deep) n m → Loosens kept (grammar every n) (grammar kept m)) → (n : ℕ) (k : Kind) (ts r : List T) → (grammar every n).read ts ≡ fault k r → Refuses grammar n k ts r
refuses grammar exact ends loose n k ts r e =
    let f = (exact every n).least ts k r e in
    record {
      before = f.before;
      parts = f.parts;
      some = record { it = f.it; more = f.more; whole = f.whole };
      none = λ m w. none_in (upto k) (grammar every n) (grammar (upto k) m) (exact (upto k) m) (ends (upto k) m) (loose (upto k) (syntax_kept k) n m w) k (kept_itself k) ts r f;
      begun = λ not t first m w. begun (under k) (grammar every n) (grammar (under k) m) (exact (under k) m) (loose (under k) (syntax_under k not) n m w) k (itself_not k) ts r t first f;
    }

-- A grammar of formulas with fewer kinds of fault asks less.
use Rattle.std.proofs.Common.{◌≡◌, ℕ, zero, suc, Bool, true, false, List, [], ◌∷◌, ◌++◌, Option, Some, None, refl, arith}
use Rattle.tv_language.specs.declared.token.TokenKind.{TokenKind}
use Rattle.tv_language.specs.declared.token.TokenKind.TheVariants as kinds
use Rattle.tv_program.specs.declared.tree.Relation.{Relation}
use Rattle.tv_program.specs.Trees.{Expression}
use Rattle.tv_program.specs.Words.{Word}
use Rattle.tv_language.specs.Symbols.{label, fixed}
use Rattle.tv_language.specs.Conditions.{relation_of}
use Rattle.tv_formula.specs.Properties.{Property, truth, compare, at, term, negated, all_of, some_of, fix}
use Rattle.tv_grammar.specs.Langs.{then, mapped, headed, turns}
use Rattle.tv_grammar.specs.Exact.{Exact}
use Rattle.tv_grammar.specs.Faults.{Loosens, LoosensBranch, LoosensTurn}
use Rattle.tv_grammar.proofs.ExactLemmas.{mapped_exact}
use Rattle.tv_grammar.proofs.LooseLemmas.{unit_loose, then_loose, mapped_loose, headed_loose, turns_loose}
use Rattle.tv_reading.specs.Marks.{Kind, Syntax, Wide, Deep, UnknownName, Mark, plain, refused}
use Rattle.tv_reading.specs.SumGrammar.{every, sum_at}
use Rattle.tv_reading.specs.Refusals.{Levels}
use Rattle.tv_reading.proofs.SumLemmas.{sum_exact}
use Rattle.tv_reading.proofs.LooseSums.{refuse_loose, levels_less, no_levels, sums_loose}
use Rattle.tv_formula_reader.specs.Seen.{Seen}
use Rattle.tv_formula_reader.specs.Choice.{Grammar, Behind}
use Rattle.tv_formula_reader.specs.declared.operators.Operator.{Operator}
use Rattle.tv_formula_reader.specs.declared.operators.Operator.TheVariants.{One, Two}
use Rattle.tv_formula_reader.specs.Operators.{operator_of, applied}
use Rattle.tv_formula_reader.specs.FormulaTexts.{joined}
use Rattle.tv_reading.specs.ConditionGrammar.{is_and, is_or}
use Rattle.tv_formula_reader.specs.FormulaGrammar.{at_kind, open_by, close_by, square_by, end_by, opened, closed, behind_square, at_end, summed, relation_by, related_by, related, comparison, label_cases, place, word_by, argument, operator_by, operated, Under, ground, level, plain_by, plain_over, more_by, more_cases, conjunction_from, conjunction_over, formula_from, formula_over, plain_at, literal_at, formula_at, text_at}
use Rattle.tv_formula_reader.proofs.LooseChoice.{lifted_loose, either_loose}
use Rattle.tv_formula_reader.proofs.FormulaLemmas.{closed_exact, end_exact, closing_exact, argument_exact, operated_exact, summed_exact, related_exact, conjunction_from_exact, conjunction_exact, formula_from_exact}
use Rattle.tv_formula_reader.proofs.FormulaExact.{plain_exact, plain_halts, comparison_halts, literal_exact, formula_exact}
use Rattle.tv_formula_reader.proofs.PlainOrSum.{together}

module _ (kept : Kind → Bool) (syntax : kept Syntax ≡ true) where
  kind_loose : {X : Type 0} (f g : TokenKind → Behind X) → ((kind : TokenKind) → LoosensBranch kept (f kind) (g kind)) → (m : Mark) → LoosensBranch kept (at_kind f m) (at_kind g m)
  kind_loose f g h (plain (fixed kind)) = h kind
  kind_loose f g h _ = (syntax, refl)

  kind_headed : {X : Type 0} (f g : Seen → TokenKind → Behind X) → ((t : Seen) (kind : TokenKind) → LoosensBranch kept (f t kind) (g t kind)) → Loosens kept (headed Syntax (λ t. at_kind (f t) t.mark)) (headed Syntax (λ t. at_kind (g t) t.mark))
  kind_headed f g h = headed_loose kept Syntax (λ t. at_kind (f t) t.mark) (λ t. at_kind (g t) t.mark) syntax (λ t. kind_loose (f t) (g t) (h t) t.mark)

  open_loose : {X : Type 0} (l m : Grammar X) → Loosens kept l m → (kind : TokenKind) → LoosensBranch kept (open_by l kind) (open_by m kind)
  open_loose l m h kinds.LeftRound = h
  open_loose l m h _ = (syntax, refl)

  opened_loose : {X : Type 0} (l m : Grammar X) → Loosens kept l m → Loosens kept (opened l) (opened m)
  opened_loose l m h = kind_headed (λ t kind. open_by l kind) (λ t kind. open_by m kind) (λ t. open_loose l m h)

  close_loose : {X : Type 0} (x : X) (kind : TokenKind) → LoosensBranch kept (close_by x kind) (close_by x kind)
  close_loose x kinds.RightRound = unit_loose kept x
  close_loose x _ = (syntax, refl)

  closed_loose : {X : Type 0} (x : X) → Loosens kept (closed x) (closed x)
  closed_loose x = kind_headed (λ t kind. close_by x kind) (λ t kind. close_by x kind) (λ t. close_loose x)

  square_branch : {X : Type 0} (l m : Grammar X) → Loosens kept l m → (kind : TokenKind) → LoosensBranch kept (square_by l kind) (square_by m kind)
  square_branch l m h kinds.RightSquare = h
  square_branch l m h _ = (syntax, refl)

  square_loose : {X : Type 0} (l m : Grammar X) → Loosens kept l m → Loosens kept (behind_square l) (behind_square m)
  square_loose l m h = kind_headed (λ t kind. square_by l kind) (λ t kind. square_by m kind) (λ t. square_branch l m h)

  end_branch : {X : Type 0} (x : X) (kind : TokenKind) → LoosensBranch kept (end_by x kind) (end_by x kind)
  end_branch x kinds.End = unit_loose kept x
  end_branch x _ = (syntax, refl)

  end_loose : {X : Type 0} (x : X) → Loosens kept (at_end x) (at_end x)
  end_loose x = kind_headed (λ t kind. end_by x kind) (λ t kind. end_by x kind) (λ t. end_branch x)

  -- ---- a comparison

  summed_loose : (n m : ℕ) → Levels (kept Deep) n m → Loosens kept (summed every n) (summed kept m)
  summed_loose n m w = lifted_loose kept (sum_at every n true) (sum_at kept m true) (sum_exact every n true) (sums_loose kept syntax n m w true)

  relation_loose : (a : Expression) (s u : Grammar Expression) → Loosens kept s u → (o : Option Relation) → LoosensBranch kept (relation_by a s o) (relation_by a u o)
  relation_loose a s u h None = (syntax, refl)
  relation_loose a s u h (Some r) = mapped_loose kept (compare r a) s u h

  related_loose : (s u : Grammar Expression) → Loosens kept s u → (a : Expression) → Loosens kept (related s a) (related u a)
  related_loose s u h a = kind_headed (λ t kind. related_by a s kind) (λ t kind. related_by a u kind) (λ t kind. relation_loose a s u h (relation_of kind))

  comparison_loose : (n m : ℕ) → Levels (kept Deep) n m → Loosens kept (comparison every n) (comparison kept m)
  comparison_loose n m w = then_loose kept (summed every n) (summed kept m) (related (summed every n)) (related (summed kept m)) (summed_loose n m w) (related_loose (summed every n) (summed kept m) (summed_loose n m w)) (related_exact (summed kept m) (summed_exact kept m))

  -- ---- plain formulas

  label_loose : (m : Mark) → LoosensBranch kept (label_cases every m) (label_cases kept m)
  label_loose (plain (label l)) = closed_loose (at l)
  label_loose (plain (fixed kinds.Wide)) = refuse_loose kept (kept Wide) Wide refl (closed (at 0)) (closed_exact (at 0))
  label_loose (refused k kinds.Name) = refuse_loose kept (kept UnknownName) UnknownName refl (closed (at 0)) (closed_exact (at 0))
  label_loose _ = (syntax, refl)

  place_loose : Loosens kept (place every) (place kept)
  place_loose = opened_loose (headed Syntax (λ t. label_cases every t.label)) (headed Syntax (λ t. label_cases kept t.label)) (headed_loose kept Syntax (λ t. label_cases every t.label) (λ t. label_cases kept t.label) syntax (λ t. label_loose t.label))

  word_loose : (a b : Bool) → LoosensBranch kept (word_by every a b) (word_by kept a b)
  word_loose true b = place_loose
  word_loose false true = unit_loose kept term
  word_loose false false = (syntax, refl)

  closing_loose : (l m : Grammar Property) → Loosens kept l m → Loosens kept (then l closed) (then m closed)
  closing_loose l m h = then_loose kept l m closed closed h closed_loose closed_exact

  argument_loose : (l m : Grammar Property) → Loosens kept l m → Loosens kept (argument l) (argument m)
  argument_loose l m h = opened_loose (then l closed) (then m closed) (closing_loose l m h)

  operator_loose : (l m : Grammar Property) → Loosens kept l m → Exact m → (o : Option Operator) → LoosensBranch kept (operator_by l o) (operator_by m o)
  operator_loose l m h e None = (syntax, refl)
  operator_loose l m h e (Some (One p k)) = square_loose (mapped (applied p k) (argument l)) (mapped (applied p k) (argument m)) (mapped_loose kept (applied p k) (argument l) (argument m) (argument_loose l m h))
  operator_loose l m h e (Some (Two p s)) =
      square_loose (then (argument l) (λ f. mapped (fix p s f) (argument l))) (then (argument m) (λ f. mapped (fix p s f) (argument m)))
      (then_loose kept (argument l) (argument m) (λ f. mapped (fix p s f) (argument l)) (λ f. mapped (fix p s f) (argument m)) (argument_loose l m h)
      (λ f. mapped_loose kept (fix p s f) (argument l) (argument m) (argument_loose l m h)) (λ f. mapped_exact (fix p s f) (argument m) (argument_exact m e)))

  operated_loose : (l m : Grammar Property) → Loosens kept l m → Exact m → Loosens kept (operated l) (operated m)
  operated_loose l m h e = headed_loose kept Syntax (λ t. operator_by l (operator_of t.word)) (λ t. operator_by m (operator_of t.word)) syntax (λ t. operator_loose l m h e (operator_of t.word))

  abbrev LoosensUnder : Under → Under → Type 0
  LoosensUnder ground ground = kept Deep ≡ true
  LoosensUnder ground (level g q) = (kept Deep ≡ false) × Exact g × Exact q
  LoosensUnder (level f p) ground = ⊥
  LoosensUnder (level f p) (level g q) = Loosens kept f g × Loosens kept p q × Exact g

  plain_branch : (a b : Under) → LoosensUnder a b → (w : Word) (kind : TokenKind) → LoosensBranch kept (plain_by every a w kind) (plain_by kept b w kind)
  plain_branch (level f p) ground h w kind = absurd h
  plain_branch ground ground h w kinds.True = unit_loose kept (truth true)
  plain_branch ground ground h w kinds.False = unit_loose kept (truth false)
  plain_branch ground ground h w kinds.Name = word_loose _ _
  plain_branch ground ground h w kinds.Not = (h, refl)
  plain_branch ground ground h w kinds.LeftRound = (h, refl)
  plain_branch ground ground h w kinds.LeftSquare = (h, refl)
  plain_branch ground (level g q) h w kinds.True = unit_loose kept (truth true)
  plain_branch ground (level g q) h w kinds.False = unit_loose kept (truth false)
  plain_branch ground (level g q) h w kinds.Name = word_loose _ _
  plain_branch ground (level g q) h w kinds.Not = (h.0, mapped_exact negated q h.2)
  plain_branch ground (level g q) h w kinds.LeftRound = (h.0, closing_exact g h.1)
  plain_branch ground (level g q) h w kinds.LeftSquare = (h.0, operated_exact g h.1)
  plain_branch (level f p) (level g q) h w kinds.True = unit_loose kept (truth true)
  plain_branch (level f p) (level g q) h w kinds.False = unit_loose kept (truth false)
  plain_branch (level f p) (level g q) h w kinds.Name = word_loose _ _
  plain_branch (level f p) (level g q) h w kinds.Not = mapped_loose kept negated p q h.1
  plain_branch (level f p) (level g q) h w kinds.LeftRound = closing_loose f g h.0
  plain_branch (level f p) (level g q) h w kinds.LeftSquare = operated_loose f g h.0 h.2
  plain_branch ground ground h w _ = (syntax, refl)
  plain_branch ground (level g q) h w _ = (syntax, refl)
  plain_branch (level f p) (level g q) h w _ = (syntax, refl)

  plain_loose_over : (a b : Under) → LoosensUnder a b → Loosens kept (plain_over every a) (plain_over kept b)
  plain_loose_over a b h = kind_headed (λ t. plain_by every a t.word) (λ t. plain_by kept b t.word) (λ t. plain_branch a b h t.word)

  -- ---- joined by "&&" or "||"

  more_loose : (l m : Grammar Property) → Loosens kept l m → Exact m → (fs : List Property) (b : Bool) → LoosensTurn kept (more_by l fs b) (more_by m fs b)
  more_loose l m h e fs false = tt
  more_loose l m h e fs true = (mapped_loose kept (λ f. fs ++ f ∷ []) l m h, mapped_exact (λ f. fs ++ f ∷ []) m e)

  joins_loose : (joins : TokenKind → Bool) (l m : Grammar Property) → Loosens kept l m → Exact m → (fs : List Property) (x : Mark) → LoosensTurn kept (at_kind (λ kind. more_by l fs (joins kind)) x) (at_kind (λ kind. more_by m fs (joins kind)) x)
  joins_loose joins l m h e fs (plain (fixed kind)) = more_loose l m h e fs (joins kind)
  joins_loose joins l m h e fs _ = tt

  mores_loose : (joins : TokenKind → Bool) (l m : Grammar Property) → Loosens kept l m → Exact m → (fs : List Property) → Loosens kept (turns (more_cases joins l) fs) (turns (more_cases joins m) fs)
  mores_loose joins l m h e fs = turns_loose kept (more_cases joins l) (more_cases joins m) (λ gs t. joins_loose joins l m h e gs t.mark) fs

  conjunction_from_loose : (l m : Grammar Property) → Loosens kept l m → Exact m → (f : Property) → Loosens kept (conjunction_from l f) (conjunction_from m f)
  conjunction_from_loose l m h e f = mapped_loose kept (joined all_of) (turns (more_cases is_and l) (f ∷ [])) (turns (more_cases is_and m) (f ∷ [])) (mores_loose is_and l m h e (f ∷ []))

  conjunction_loose : (l m : Grammar Property) → Loosens kept l m → Exact m → Loosens kept (conjunction_over l) (conjunction_over m)
  conjunction_loose l m h e = then_loose kept l m (conjunction_from l) (conjunction_from m) h (conjunction_from_loose l m h e) (conjunction_from_exact m e)

  formula_from_loose : (l m : Grammar Property) → Loosens kept l m → Exact m → (f : Property) → Loosens kept (formula_from l f) (formula_from m f)
  formula_from_loose l m h e f = mapped_loose kept (joined some_of) (turns (more_cases is_or l) (f ∷ [])) (turns (more_cases is_or m) (f ∷ [])) (mores_loose is_or l m h e (f ∷ []))

  formula_loose_over : (l m : Grammar Property) → Loosens kept l m → Exact m → Loosens kept (formula_over l) (formula_over m)
  formula_loose_over l m h e = then_loose kept (conjunction_over l) (conjunction_over m) (formula_from (conjunction_over l)) (formula_from (conjunction_over m)) (conjunction_loose l m h e)
      (formula_from_loose (conjunction_over l) (conjunction_over m) (conjunction_loose l m h e) (conjunction_exact m e)) (formula_from_exact (conjunction_over m) (conjunction_exact m e))

  -- ---- by levels

  literal_loose_by : (n m : ℕ) → Levels (kept Deep) n m → Loosens kept (plain_at every n) (plain_at kept m) → Loosens kept (literal_at every n) (literal_at kept m)
  literal_loose_by n m w h = either_loose kept syntax (comparison every n) (plain_at every n) (comparison kept m) (plain_at kept m) (comparison_loose n m w) h (plain_exact kept m) (λ d r. comparison_halts kept m ((plain_at kept m).text d r) r (plain_halts kept m d r)) (together every n)

  ground_under : (b : Bool) → kept Deep ≡ b → (m : ℕ) → Levels b zero (suc m) → LoosensUnder ground (level (formula_at kept m) (plain_at kept m))
  ground_under true e m w = absurd (omega arith)
  ground_under false e m w = (e, formula_exact kept m, plain_exact kept m)

  ground_ground : (b : Bool) → kept Deep ≡ b → Levels b zero zero → LoosensUnder ground ground
  ground_ground true e w = e
  ground_ground false e w = absurd (omega arith)

  plain_loose : (n m : ℕ) → Levels (kept Deep) n m → Loosens kept (plain_at every n) (plain_at kept m)
  unfolding plain_at
  plain_loose zero zero w = plain_loose_over ground ground (ground_ground (kept Deep) refl w)
  plain_loose zero (suc m) w = plain_loose_over ground (level (formula_at kept m) (plain_at kept m)) (ground_under (kept Deep) refl m w)
  plain_loose (suc n) zero w = absurd (no_levels (kept Deep) n w)
  plain_loose (suc n) (suc m) w =
      let v : Levels (kept Deep) n m = levels_less (kept Deep) n m w in
      let h = plain_loose n m v in
      plain_loose_over (level (formula_at every n) (plain_at every n)) (level (formula_at kept m) (plain_at kept m))
      (formula_loose_over (literal_at every n) (literal_at kept m) (literal_loose_by n m v h) (literal_exact kept m), h, formula_exact kept m)

  formula_loose : (n m : ℕ) → Levels (kept Deep) n m → Loosens kept (formula_at every n) (formula_at kept m)
  formula_loose n m w = formula_loose_over (literal_at every n) (literal_at kept m) (literal_loose_by n m w (plain_loose n m w)) (literal_exact kept m)

  pub text_loose : (n m : ℕ) → Levels (kept Deep) n m → Loosens kept (text_at every n) (text_at kept m)
  text_loose n m w = then_loose kept (formula_at every n) (formula_at kept m) at_end at_end (formula_loose n m w) end_loose end_exact

-- A sum of a formula is read as a sum of its marks.
use Rattle.std.proofs.Common.{◌≡◌, ℕ, zero, suc, ◌+◌, ◌-◌, ◌≤◌, Bool, true, false, List, [], ◌∷◌, ◌++◌, drop, length, Ok, Err, refl, sym, ap, ◌∙◌, arith}
use Rattle.std.proofs.lemmas.List.{drop-drop}
use Rattle.tv_language.specs.declared.token.TokenKind.{TokenKind}
use Rattle.tv_language.specs.declared.token.TokenKind.TheVariants as kinds
use Rattle.tv_language.specs.declared.token.Token.{Token}
use Rattle.tv_program.specs.Words.{Word}
use Rattle.tv_program.specs.Trees.{Expression}
use Rattle.tv_language.specs.Symbols.{lexeme, Vocabulary}
use Rattle.tv_grammar.specs.Reads.{fault}
use Rattle.tv_reading.specs.Marks as marking
use Rattle.tv_reading.specs.Marks.{Kind, Stand, Passes, mark_by, draws_behind, marks_from}
use Rattle.tv_reading.specs.SumGrammar.{every, sum_at}
use Rattle.tv_reading.specs.Readings.{moved, sum_levels, IsKept, IsRead}
use Rattle.tv_reading.specs.declared.fault.PartFault.{PartFault}
use Rattle.tv_reading.specs.declared.fault.PartFault.TheVariants as parts
use Rattle.tv_reading.proofs.RoomLemmas.{passed_names}
use Rattle.tv_formula_reader.specs.Seen.{Seen, seen, seen_all, marks}
use Rattle.tv_formula_reader.specs.Choice.{last, lifted_read}
use Rattle.tv_formula_reader.specs.FormulaGrammar.{summed}
use Rattle.tv_reading.specs.Answers.{kind_of, reason_of, Unless}
use Rattle.tv_formula_reader.specs.Answers.{left, IsOver, Stays}
use Rattle.tv_formula_reader.specs.declared.source.Source.{Source}
use Rattle.tv_formula_reader.proofs.ChoiceLemmas.{last_of, length-marks}
use Rattle.tv_formula_reader.proofs.SourceLemmas.{words, none_at}
use Rattle.tv_formula_reader.proofs.PlainOrSum.{nothing_read}

-- ---- the marks of what is left

-- where no name is added, the draws before a token do not count
no_draws : (names : List Word) (draws : ℕ) (kind : TokenKind) (w : Word) → mark_by false names 0 kind w ≡ mark_by false names draws kind w
no_draws names draws kinds.Nondet w = refl
no_draws names draws kind w = refl

pub marks_all : (v : Vocabulary) (text : List ℕ) (ts : List Token) (draws : ℕ) → marks (seen_all v text ts) ≡ marks_from text false v.variables draws ts
unfolding marks_from
marks_all v text [] draws = refl
marks_all v text (t ∷ ts) draws = rw (no_draws v.variables draws t.kind (lexeme text t).word, marks_all v text ts (draws_behind t.kind draws)) refl

pub marks_left : (source : Source) (s : Stand) → s.grows ≡ false → marks (left source s) ≡ marking.left s
marks_left source s e = marks_all (words source s) s.text (drop s.at s.tokens) s.draws ∙ ap (λ (b : Bool). marks_from s.text b s.names s.draws (drop s.at s.tokens)) (sym e)

-- ---- what is passed

record Front (v : Vocabulary) (text : List ℕ) (xs : List Token) (k : ℕ) : Type 0 where
  front : List Seen
  parts : seen_all v text xs ≡ front ++ seen_all v text (drop k xs)

front_of : (v : Vocabulary) (text : List ℕ) (xs : List Token) (k : ℕ) → Front v text xs k
front_of v text xs zero = record { front = []; parts = refl }
front_of v text [] (suc k) = record { front = []; parts = refl }
front_of v text (x ∷ xs) (suc k) = let w = front_of v text xs k in record { front = seen v (lexeme text x) ∷ w.front; parts = ap (λ (ts : List Seen). seen v (lexeme text x) ∷ ts) w.parts }

module _ (source : Source) (s u : Stand) (level : ℕ) (h : IsOver source s) (kept : IsKept (moved s s.at level) u) (passed : Passes (moved s s.at level) u) where
  names : u.names ≡ s.names
  names = passed_names passed h.fixed

  pub sum_stays : Stays source s u
  sum_stays = record {
    over = record {
      text = kept.text ∙ h.text;
      tokens = kept.tokens ∙ h.tokens;
      scanned = rw (kept.text, kept.tokens) h.scanned;
      fixed = kept.grows ∙ h.fixed;
      inside = kept.inside h.inside;
    };
    names = names;
  }

  left_now : left source u ≡ seen_all (words source s) s.text (drop u.at s.tokens)
  left_now = rw (names, kept.text, kept.tokens) refl

  -- what is left now is the last of what was left
  pub left_last : last (length (marking.left u)) (left source s) ≡ left source u
  left_last =
      let w = front_of (words source s) s.text (drop s.at s.tokens) (u.at - s.at) in
      let further : u.at - s.at + s.at ≡ u.at = (let l = kept.further in omega arith) in
      let same : drop (u.at - s.at) (drop s.at s.tokens) ≡ drop u.at s.tokens = drop-drop (u.at - s.at) s.at s.tokens ∙ ap (λ (n : ℕ). drop n s.tokens) (omega arith) in
      let parts : left source s ≡ w.front ++ left source u = w.parts ∙ ap (λ (ts : List Token). w.front ++ seen_all (words source s) s.text ts) same ∙ ap (λ (ts : List Seen). w.front ++ ts) (sym left_now) in
      ap (last (length (marking.left u))) parts ∙ last_of w.front (left source u) (length (marking.left u)) (ap length (sym (marks_left source u (kept.grows ∙ h.fixed))) ∙ length-marks (left source u))

  read_same : (n : ℕ) → sum_levels (moved s s.at level) ≡ n → (sum_at every n true).read (marks (left source s)) ≡ (sum_at every (sum_levels (moved s s.at level)) true).read (marking.left (moved s s.at level))
  read_same n e = ap (λ (k : ℕ). (sum_at every k true).read (marks (left source s))) (sym e) ∙ ap (sum_at every (sum_levels (moved s s.at level)) true).read (marks_left source s h.fixed)

  pub sum_given : (n : ℕ) → sum_levels (moved s s.at level) ≡ n → (e : Expression) → (sum_at every (sum_levels (moved s s.at level)) true).read (marking.left (moved s s.at level)) ≡ Ok (e, marking.left u) → (summed every n).read (left source s) ≡ Ok (e, left source u)
  sum_given n l e r = ap (lifted_read (left source s)) (read_same n l ∙ r) ∙ ap (λ (ts : List Seen). Ok (e, ts)) left_last

  fault_given : (n : ℕ) → sum_levels (moved s s.at level) ≡ n → (k : Kind) → (sum_at every (sum_levels (moved s s.at level)) true).read (marking.left (moved s s.at level)) ≡ fault k (marking.left u) → (summed every n).read (left source s) ≡ fault k (left source u)
  fault_given n l k r = ap (lifted_read (left source s)) (read_same n l ∙ r) ∙ ap (λ (ts : List Seen). fault k ts) left_last

  pub sum_refused : {X : Type 0} (view : X → Expression) (n : ℕ) → sum_levels (moved s s.at level) ≡ n → (f : PartFault) → IsRead view (Err f) u ((sum_at every (sum_levels (moved s s.at level)) true).read (marking.left (moved s s.at level))) → Unless (reason_of f) ((summed every n).read (left source s) ≡ fault (kind_of (reason_of f)) (left source u))
  sum_refused view n l (parts.Syntax at) r = fault_given n l marking.Syntax r.0
  sum_refused view n l (parts.Wide at) r = fault_given n l marking.Wide r.0
  sum_refused view n l (parts.Deep at) r = fault_given n l marking.Deep r.0
  sum_refused view n l (parts.NotLinear at) r = fault_given n l marking.NotLinear r.0
  sum_refused view n l (parts.TooMany at) r = fault_given n l marking.TooMany r.0
  sum_refused view n l (parts.UnknownName at) r = fault_given n l marking.UnknownName r.0
  sum_refused view n l parts.Memory r = tt

pub sum_at_end : (source : Source) (s : Stand) (n : ℕ) → IsOver source s → length source.list.now ≤ s.at → (summed every n).read (left source s) ≡ fault marking.Syntax (left source s)
sum_at_end source s n h l =
    let none : left source s ≡ [] = ap (seen_all (words source s) s.text) (none_at s.tokens s.at (omega (arith, ap length h.tokens))) in
    rw none (nothing_read every n)

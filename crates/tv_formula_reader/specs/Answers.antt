-- Where the reading of a formula stands, and what it answers.
use Rattle.std.specs.Prelude.{◌≡◌, ◌≤◌, ℕ, Bool, true, false, List, [], length, drop, Option, Some, None, Result, Ok, Err, Vec, map}
use Rattle.std.specs.Global.{Global}
use Rattle.tv_language.specs.declared.token.TokenKind.{TokenKind}
use Rattle.tv_language.specs.declared.token.TokenKind.TheVariants as kinds
use Rattle.tv_language.specs.Tokens.{IsTokens}
use Rattle.tv_program.specs.Words.{Word}
use Rattle.tv_grammar.specs.Reads.{Fault, fault}
use Rattle.tv_reading.specs.Marks as marks
use Rattle.tv_reading.specs.Marks.{Kind, Mark, plain, refused, Stand}
use Rattle.tv_language.specs.Symbols.{label, fixed}
use Rattle.tv_reading.specs.Views.{kind_at}
use Rattle.tv_formula.specs.declared.tree.Tree.{Tree}
use Rattle.tv_formula.specs.Properties.{Property}
use Rattle.tv_formula.specs.Views.{property}
use Rattle.tv_formula_reader.specs.Seen.{Seen, seen_all}
use Rattle.tv_formula_reader.specs.Choice.{mark_at}
use Rattle.tv_reading.specs.Answers.{kind_of, Unless}
use Rattle.tv_reading.specs.declared.reason.Reason.{Reason}
use Rattle.tv_reading.specs.declared.reason.Reason.TheVariants.{Syntax, Wide, UnknownName, Memory}
use Rattle.tv_formula_reader.specs.declared.source.Source.{Source}

-- what is left to read
abbrev pub left : Source → Stand → List Seen
left source s = seen_all (record { variables = s.names; labels = source.labels.now }) s.text (drop s.at s.tokens)

-- the reading goes over the tokens of the source; it adds no name
pub record IsOver (source : Source) (s : Stand) : Type 0 where
  pub text : s.text ≡ source.text.now
  pub tokens : s.tokens ≡ source.list.now
  pub scanned : IsTokens 0 s.text s.tokens
  pub fixed : s.grows ≡ false
  pub inside : s.at ≤ length s.tokens

-- it is so still, and the names are the same
pub record Stays (source : Source) (s u : Stand) : Type 0 where
  pub over : IsOver source u
  pub names : u.names ≡ s.names

-- the kind of a token that is neither a number nor a name; that of no token else
abbrev pub kind_seen : Option Seen → TokenKind
kind_seen t = kind_at (mark_at t)

-- the bytes of a token that is a name
abbrev pub word_seen : Option Seen → Word
word_seen None = []
word_seen (Some t) = t.word

abbrev pub is_memory : Reason → Bool
is_memory Memory = true
is_memory reason = false

abbrev pub trees_view : Vec Tree Global → List Property
trees_view ts = map property ts.items

-- what is no label at all
abbrev pub IsNoLabel : Mark → Type 0
IsNoLabel (plain (fixed kinds.Wide)) = ⊥
IsNoLabel (plain (fixed kind)) = Unit {0}
IsNoLabel m = ⊥

abbrev pub the_nothing : Unit {0}
the_nothing = tt

-- what stands for no value
abbrev pub nothing : {X : Type 0} → X → Unit {0}
nothing x = tt

-- the number of a label, or why there is none
abbrev pub IsLabelOf : Result ℕ Reason → Mark → Type 0
IsLabelOf (Ok l) m = m ≡ plain (label l)
IsLabelOf (Err UnknownName) m = m ≡ refused marks.UnknownName kinds.Name
IsLabelOf (Err Wide) m = m ≡ plain (fixed kinds.Wide)
IsLabelOf (Err Syntax) m = IsNoLabel m
IsLabelOf (Err e) m = ⊥

-- what is answered at the end of the text, where nothing is taken
abbrev pub Ends : {X Y : Type 0} → (X → Y) → Result X Reason → List Seen → Result (Y × List Seen) (Fault Seen Kind) → Type 0
Ends view (Ok x) ts read = read ≡ Ok (view x, drop 1 ts)
Ends view (Err e) ts read = Unless e (read ≡ fault (kind_of e) ts)

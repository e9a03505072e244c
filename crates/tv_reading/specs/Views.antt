-- What the program's values stand for.
use Rattle.std.specs.Prelude.{Bool, true, false, List, map, Option, Some, Vec}
use Rattle.tv_language.specs.declared.token.TokenKind.{TokenKind}
use Rattle.tv_language.specs.declared.token.TokenKind.TheVariants as kinds
use Rattle.tv_language.specs.Symbols.{number, name, drawn, fixed}
use Rattle.tv_reading.specs.Marks.{TooMany, UnknownName, Mark, plain, refused, Stand, Passes}
use Rattle.std.specs.Global.{Global}
use Rattle.tv_program.specs.declared.tree.Cond.{Cond}
use Rattle.tv_program.specs.Trees.{Expression, Condition}
use Rattle.tv_program.specs.Views.{expression, condition}
use Rattle.tv_reading.specs.ConditionGrammar.{Thing, value, tested}
use Rattle.tv_reading.specs.declared.joined.Piece.{Piece}
use Rattle.tv_reading.specs.declared.joined.Piece.TheVariants.{Value, Test}
use Rattle.tv_reading.specs.declared.trees.Made.{Made}
use Rattle.tv_reading.specs.declared.trees.Run.{Run}
use Rattle.tv_reading.specs.declared.marks.Part.{Part}
use Rattle.tv_reading.specs.declared.marks.Part.TheVariants as parts
use Rattle.tv_reading.specs.declared.source.Source.{Source}
use Rattle.tv_reading.specs.declared.cursor.Cursor.{Cursor}

abbrev pub mark_of : Part → Mark
mark_of (parts.Number n) = plain (number n)
mark_of (parts.Variable v) = plain (name v)
mark_of (parts.Draw d) = plain (drawn d)
mark_of parts.NameTooMany = refused TooMany kinds.Name
mark_of parts.UnknownName = refused UnknownName kinds.Name
mark_of parts.DrawTooMany = refused TooMany kinds.Nondet
mark_of (parts.Fixed kind) = plain (fixed kind)

-- the kind of a token that is neither a number, nor a name, nor a draw; that of no token else
abbrev pub kind_at : Option Mark → TokenKind
kind_at (Some (plain (fixed kind))) = kind
kind_at _ = kinds.Unread

-- the end of a text, or the first byte that no token can hold
abbrev pub is_last : TokenKind → Bool
is_last kinds.End = true
is_last kinds.Unread = true
is_last kind = false

-- the token is a name or a draw
abbrev pub IsNamed : Part → Type 0
IsNamed (parts.Number n) = ⊥
IsNamed (parts.Fixed kind) = ⊥
IsNamed part = Unit {0}

abbrev pub stand : Source → Cursor → Stand
stand s c = record { text = s.text.now; tokens = s.list.now; grows = s.grows; level = s.level; at = c.at; names = c.names; draws = c.draws }

-- what is passed from elsewhere to the one place is passed to the other
abbrev pub Keeps : Source → Cursor → Cursor → Type 0
Keeps s c d = (from : Stand) → Passes from (stand s c) → Passes from (stand s d)

abbrev pub made_view : Made → Expression
made_view m = expression m.expr

-- the parts so far
abbrev pub parts_view : Run → List Expression
parts_view r = map expression r.parts.items

abbrev pub piece_view : Piece → Thing
piece_view (Value m) = value (made_view m)
piece_view (Test c) = tested (condition c)

abbrev pub conds_view : Vec Cond Global → List Condition
conds_view cs = map condition cs.items

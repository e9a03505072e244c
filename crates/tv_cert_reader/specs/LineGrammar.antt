-- Lines that are wanted one at a time, and the lines of pieces.
use Rattle.std.specs.Prelude.{ℕ, ◌+◌, ◌^◌, ℤ, pos, negsuc, Bool, true, false, ◌&&◌, ◌||◌, List, [], ◌∷◌, length, Option, Some, None, nat_lt, ◌==◌}
use Rattle.tv_grammar.specs.Langs.{Lang, unit, then, mapped, Branch, stop, go, headed, times}
use Rattle.tv_lines.specs.Lines.{PlainLine, formed, formless, wide}
use Rattle.tv_lines.specs.declared.head.Head.{Head}
use Rattle.tv_lines.specs.declared.head.Head.TheVariants as heads
use Rattle.tv_lines.specs.declared.head.NodeKind.{NodeKind}
use Rattle.tv_lines.specs.declared.head.NodeKind.TheVariants as kinds
use Rattle.tv_lines.specs.declared.head.PieceMark.{PieceMark}
use Rattle.tv_lines.specs.declared.head.PieceMark.TheVariants as marks
use Rattle.tv_cases.specs.LinearCases.{CaseSystem}
use Rattle.tv_cert.specs.Statements.{Statement, rows, here, elsewhere, ends, never_ends, each_of, one_of, after, along, unsaid}
use Rattle.tv_cert.specs.Shapes.{may_be_done, may_rank}
use Rattle.tv_cert_reader.specs.declared.kind.LineKind.{LineKind}
use Rattle.tv_cert_reader.specs.declared.kind.LineKind.TheVariants.{Syntax, Wide, Shape}
use Rattle.tv_cert_reader.specs.Demands.{Outline}

-- a grammar over lines
abbrev pub Grammar : Type 0 → Type 1
Grammar X = Lang PlainLine LineKind X

-- what may stand after a line
abbrev pub Behind : Type 0 → Type 1
Behind X = Branch PlainLine LineKind X

abbrev pub line_branch : {X : Type 0} → Option X → Behind X
line_branch None = stop Shape
line_branch (Some x) = go (unit x)

abbrev pub line_cases : {X : Type 0} → (Head → List ℤ → Option X) → PlainLine → Behind X
line_cases f (formed head zs) = line_branch (f head zs)
line_cases f formless = stop Syntax
line_cases f wide = stop Wide

-- a line that f takes
abbrev pub line : {X : Type 0} → (Head → List ℤ → Option X) → Grammar X
line f = headed Syntax (line_cases f)

-- x, where the test is true
abbrev pub guarded : {X : Type 0} → Bool → X → Option X
guarded true x = Some x
guarded false x = None

-- ---- lines of numbers

abbrev pub is_row : Head → Bool
is_row heads.Row = true
is_row head = false

abbrev pub is_rank : Head → Bool
is_rank heads.Rank = true
is_rank head = false

abbrev pub is_by : Head → Bool
is_by heads.By = true
is_by head = false

abbrev pub is_draw : Head → Bool
is_draw heads.Draw = true
is_draw head = false

abbrev pub is_header : Head → Bool
is_header heads.Header = true
is_header head = false

abbrev pub is_end : Head → Bool
is_end heads.End = true
is_end head = false

-- a line of such a head with `count` numbers
abbrev pub sized : (Head → Bool) → ℕ → Head → List ℤ → Option (Unit {0})
sized is count head zs = guarded (is head && (length zs == count)) tt

-- a row of a piece, a rank, or a term for a draw, over `width` columns
abbrev pub row : ℕ → Grammar (Unit {0})
row width = line (sized is_row (width + 1))

abbrev pub rank : ℕ → Grammar (Unit {0})
rank width = line (sized is_rank (width + 1))

abbrev pub draw : ℕ → Grammar (Unit {0})
draw width = line (sized is_draw (width + 1))

-- `count` multipliers
abbrev pub by : ℕ → Grammar (Unit {0})
by count = line (sized is_by count)

abbrev pub header : Grammar (Unit {0})
header = line (sized is_header 0)

abbrev pub last : Grammar (Unit {0})
last = line (sized is_end 0)

-- `count` of these
abbrev pub many : ℕ → Grammar (Unit {0}) → Grammar (Unit {0})
many count l = mapped (λ all. tt) (times count l)

-- ---- numbers that count or name something

abbrev pub natural : ℤ → Option ℕ
natural (pos n) = Some n
natural (negsuc n) = None

abbrev pub if_natural : {X : Type 0} → Option ℕ → (ℕ → Option X) → Option X
if_natural None f = None
if_natural (Some n) f = f n

-- two numbers, or three, of at least 0
abbrev pub with_two : {X : Type 0} → List ℤ → (ℕ → ℕ → Option X) → Option X
with_two (a ∷ b ∷ []) f = if_natural (natural a) (λ m. if_natural (natural b) (λ n. f m n))
with_two zs f = None

abbrev pub with_three : {X : Type 0} → List ℤ → (ℕ → ℕ → ℕ → Option X) → Option X
with_three (a ∷ b ∷ c ∷ []) f = if_natural (natural a) (λ k. if_natural (natural b) (λ m. if_natural (natural c) (λ n. f k m n)))
with_three zs f = None

-- ---- the head of a node

abbrev pub same_kind : NodeKind → NodeKind → Bool
same_kind kinds.Atom kinds.Atom = true
same_kind kinds.And kinds.And = true
same_kind kinds.Or kinds.Or = true
same_kind kinds.Next kinds.Next = true
same_kind kinds.Fix kinds.Fix = true
same_kind kinds.Term kinds.Term = true
same_kind kinds.NoTerm kinds.NoTerm = true
same_kind a b = false

-- the kind of a node that is to show this
abbrev pub kind_of : Statement → NodeKind
kind_of (rows lists) = kinds.Atom
kind_of (here l) = kinds.Atom
kind_of (elsewhere l) = kinds.Atom
kind_of ends = kinds.Term
kind_of never_ends = kinds.NoTerm
kind_of (each_of ss) = kinds.And
kind_of (one_of ss) = kinds.Or
kind_of (after path s) = kinds.Next
kind_of (along path shape s t) = kinds.Fix
kind_of unsaid = kinds.Atom

-- how many pieces and ranks: ranks only where there may be some, and fewer than 2^32
pub record NodeHead : Type 0 where
  pub pieces : ℕ
  pub ranks : ℕ

abbrev pub node_numbers : Bool → Bool → ℕ → ℕ → Option NodeHead
node_numbers same ranked p m = guarded (same && ((m == 0) || ranked) && nat_lt m (2 ^ 32)) (record { pieces = p; ranks = m })

abbrev pub node_line : NodeKind → Bool → Head → List ℤ → Option NodeHead
node_line kind ranked (heads.Node k) zs = with_two zs (node_numbers (same_kind kind k) ranked)
node_line kind ranked head zs = None

-- ---- pieces

abbrev pub is_going : PieceMark → Bool
is_going marks.Go = true
is_going marks.Done = false

abbrev pub piece_numbers : ℕ → Bool → Bool → ℕ → ℕ → Option Outline
piece_numbers locations done going l r = guarded (nat_lt l locations && (done || going)) (record { place = l; going = going; rows = r })

-- a piece at one of `locations` locations, which may be done or may not
abbrev pub piece_line : ℕ → Bool → Head → List ℤ → Option Outline
piece_line locations done (heads.Piece mark) zs = with_two zs (piece_numbers locations done (is_going mark))
piece_line locations done head zs = None

-- how many ranks a piece has: as many as its node says, where it goes on
abbrev pub rank_count : ℕ → Bool → ℕ
rank_count m true = m
rank_count m false = 0

-- a piece of a node with m ranks
abbrev pub piece : CaseSystem → ℕ → Bool → Grammar Outline
piece system m done =
    then (line (piece_line system.locations done)) (λ o.
    then (many o.rows (row system.variables)) (λ _.
    mapped (λ _. o) (many (rank_count m o.going) (rank system.variables))))

-- the pieces of a node, and how many ranks it has
pub record Region : Type 0 where
  pub ranks : ℕ
  pub pieces : List Outline

abbrev pub region_of : ℕ → List Outline → Region
region_of m os = record { ranks = m; pieces = os }

-- the head of a node that is to show this, and its pieces
abbrev pub region : CaseSystem → Statement → Grammar Region
region system s =
    then (line (node_line (kind_of s) (may_rank s))) (λ x.
    mapped (region_of x.ranks) (times x.pieces (piece system x.ranks (may_be_done s))))

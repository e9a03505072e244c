-- Lines that are wanted one at a time, and those of pieces, are read exactly.
use Rattle.std.proofs.Common.{◌≡◌, ℕ, ◌+◌, ◌<◌, ℤ, pos, Bool, true, false, List, [], ◌∷◌, length, Option, Some, None, refl, ap, ◌∙◌, arith}
use Rattle.std.specs.Prelude.{nat_lt, ◌==◌, ◌||◌}
use Rattle.std.proofs.lemmas.Bool.Decides.{nat_tests}
use Rattle.tv_grammar.specs.Langs.{OfBranch, times}
use Rattle.tv_grammar.specs.Exact.{Exact, ExactBranch}
use Rattle.tv_grammar.proofs.ExactLemmas.{unit_exact, then_exact, mapped_exact, headed_exact, times_exact}
use Rattle.tv_lines.specs.Lines.{PlainLine, formed, formless, wide}
use Rattle.tv_lines.specs.declared.head.Head.{Head}
use Rattle.tv_lines.specs.declared.head.Head.TheVariants as heads
use Rattle.tv_lines.specs.declared.head.NodeKind.{NodeKind}
use Rattle.tv_lines.specs.declared.head.PieceMark.TheVariants as marks
use Rattle.tv_linear.specs.Arithmetic.{zeros}
use Rattle.tv_linear.proofs.PlainLists.{length-zeros}
use Rattle.tv_cases.specs.LinearCases.{CaseSystem}
use Rattle.tv_cert.specs.Statements.{Statement}
use Rattle.tv_cert.specs.Shapes.{may_be_done, may_rank}
use Rattle.tv_cert_reader.specs.declared.kind.LineKind.TheVariants.{Syntax}
use Rattle.tv_cert_reader.specs.LineGrammar.{Grammar, line_branch, line_cases, line, sized, is_row, is_rank, is_by, is_draw, is_header, is_end, row, rank, draw, by, header, last, many, kind_of, node_line, piece_line, rank_count, piece, region_of, region}
use Rattle.tv_cases.proofs.Updated.{same_number}
use Rattle.tv_cert_reader.proofs.CompleteParts.{kind_same}

-- ---- one line

line_branch_exact : {X : Type 0} (o : Option X) → ExactBranch (line_branch o)
line_branch_exact None = tt
line_branch_exact (Some x) = unit_exact x

line_cases_exact : {X : Type 0} (f : Head → List ℤ → Option X) (t : PlainLine) → ExactBranch (line_cases f t)
line_cases_exact f (formed head zs) = line_branch_exact (f head zs)
line_cases_exact f formless = tt
line_cases_exact f wide = tt

pub some_line : {X : Type 0} (o : Option X) (x : X) → o ≡ Some x → OfBranch (line_branch o)
some_line None x e = absurd cc
some_line (Some y) x e = tt

-- where some line is one
pub line_exact : {X : Type 0} (f : Head → List ℤ → Option X) (head : Head) (zs : List ℤ) (x : X) → f head zs ≡ Some x → Exact (line f)
line_exact f head zs x e = headed_exact Syntax (line_cases f) (line_cases_exact f) (formed head zs) (some_line (f head zs) x e)

pub zeros_are : (n : ℕ) → (length (zeros n) == n) ≡ true
zeros_are n = ap (λ (m : ℕ). m == n) (length-zeros n) ∙ same_number n

sized_exact : (is : Head → Bool) (head : Head) → is head ≡ true → (count : ℕ) → Exact (line (sized is count))
sized_exact is head e count = line_exact (sized is count) head (zeros count) tt (rw (e, zeros_are count) refl)

pub row_exact : (width : ℕ) → Exact (row width)
row_exact width = sized_exact is_row heads.Row refl (width + 1)

pub rank_exact : (width : ℕ) → Exact (rank width)
rank_exact width = sized_exact is_rank heads.Rank refl (width + 1)

pub draw_exact : (width : ℕ) → Exact (draw width)
draw_exact width = sized_exact is_draw heads.Draw refl (width + 1)

pub by_exact : (count : ℕ) → Exact (by count)
by_exact count = sized_exact is_by heads.By refl count

pub header_exact : Exact header
header_exact = sized_exact is_header heads.Header refl 0

pub last_exact : Exact last
last_exact = sized_exact is_end heads.End refl 0

pub many_exact : (count : ℕ) (l : Grammar (Unit {0})) → Exact l → Exact (many count l)
many_exact count l h = mapped_exact (λ all. tt) (times count l) (times_exact count l h)

-- ---- pieces: a program has a location

node_line_exact : (kind : NodeKind) (ranked : Bool) → Exact (line (node_line kind ranked))
node_line_exact kind ranked = line_exact (node_line kind ranked) (heads.Node kind) (pos 0 ∷ pos 0 ∷ []) (record { pieces = 0; ranks = 0 }) (rw (kind_same kind) refl)

some_location : (n : ℕ) → 0 < n → nat_lt 0 n ≡ true
some_location n h = grind (arith, nat_tests)

go_or : (done : Bool) → (done || true) ≡ true
go_or true = refl
go_or false = refl

piece_line_exact : (locations : ℕ) → 0 < locations → (done : Bool) → Exact (line (piece_line locations done))
piece_line_exact locations some done = line_exact (piece_line locations done) (heads.Piece marks.Go) (pos 0 ∷ pos 0 ∷ []) (record { place = 0; going = true; rows = 0 }) (rw (some_location locations some, go_or done) refl)

module _ (system : CaseSystem) (some : 0 < system.locations) where
  pub piece_exact : (m : ℕ) (done : Bool) → Exact (piece system m done)
  piece_exact m done = then_exact _ _ (piece_line_exact system.locations some done) (λ o.
      then_exact _ _ (many_exact o.rows (row system.variables) (row_exact system.variables)) (λ x.
      mapped_exact (λ y. o) _ (many_exact (rank_count m o.going) (rank system.variables) (rank_exact system.variables))))

  pub region_exact : (s : Statement) → Exact (region system s)
  region_exact s = then_exact _ _ (node_line_exact (kind_of s) (may_rank s)) (λ x.
      mapped_exact (region_of x.ranks) _ (times_exact x.pieces _ (piece_exact x.ranks (may_be_done s))))

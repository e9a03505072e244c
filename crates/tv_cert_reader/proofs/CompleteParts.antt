-- The lines of the pieces of a node are read.
use Rattle.std.proofs.Common.{◌≡◌, ℕ, ◌+◌, ◌<◌, ◌^◌, ℤ, pos, Bool, true, false, List, [], ◌∷◌, ◌++◌, length, map, All, Option, Some, Ok, refl, sym, ap, ◌∙◌, arith, length-append, cond}
use Rattle.std.specs.Prelude.{◌==◌, ◌&&◌, ◌||◌}
use Rattle.std.specs.List.{flat_map}
use Rattle.std.proofs.lemmas.List.{append_assoc}
use Rattle.std.proofs.lemmas.List.Concat.{flat_map_single}
use Rattle.std.proofs.lemmas.Bool.{lt-ltb, eq-eqb}
use Rattle.tv_grammar.specs.Langs.{then, mapped, branch_read, times}
use Rattle.tv_lines.specs.Lines.{PlainLine, formed}
use Rattle.tv_lines.specs.declared.head.Head.{Head}
use Rattle.tv_lines.specs.declared.head.Head.TheVariants as heads
use Rattle.tv_lines.specs.declared.head.NodeKind.{NodeKind}
use Rattle.tv_lines.specs.declared.head.NodeKind.TheVariants as kinds
use Rattle.tv_linear.specs.Linear.{Linear, columns}
use Rattle.tv_cases.specs.LinearCases.{CaseSystem}
use Rattle.tv_cert.specs.declared.node.Mark.{Mark}
use Rattle.tv_cert.specs.declared.node.Mark.TheVariants.{Done, Go}
use Rattle.tv_cert.specs.declared.node.Marked.{Marked}
use Rattle.tv_cert.specs.Pieces.{place_of, rows_of, ranks_of, is_go, goes}
use Rattle.tv_cert.specs.Shapes.{PieceShape, may_be_done, may_rank}
use Rattle.tv_cert.specs.Statements.{Statement}
use Rattle.tv_cert_reader.specs.CertificateLines.{row_line, row_lines, by_lines, mark_named, piece_lines}
use Rattle.tv_cert_reader.specs.Demands.{Outline, outline, outlines}
use Rattle.tv_cert_reader.specs.LineGrammar.{Grammar, line, line_branch, guarded, is_row, is_rank, is_by, is_draw, sized, row, rank, draw, by, many, same_kind, kind_of, NodeHead, node_line, is_going, piece_numbers, piece_line, rank_count, piece, region_of, region}
use Rattle.tv_cert_reader.proofs.CompleteReads.{then_read, mapped_read, times_read}

-- ---- one line

-- a line that f takes
pub line_read : {X : Type 0} (f : Head → List ℤ → Option X) (head : Head) (zs : List ℤ) (x : X) (rest : List PlainLine) → f head zs ≡ Some x → (line f).read (formed head zs ∷ rest) ≡ Ok (x, rest)
line_read f head zs x rest e = ap (λ o. branch_read (line_branch o) (formed head zs ∷ rest) rest) e

-- a line of such a head with `count` numbers
pub sized_read : (is : Head → Bool) (head : Head) (count : ℕ) (zs : List ℤ) (rest : List PlainLine) → is head ≡ true → length zs ≡ count → (line (sized is count)).read (formed head zs ∷ rest) ≡ Ok (tt, rest)
sized_read is head count zs rest e many = let t = eq-eqb (length zs) count many in line_read (sized is count) head zs tt rest (λ i. guarded (e i && t i) tt)

-- the numbers of a row
pub numbers_long : (width : ℕ) (r : Linear) → columns r ≡ width → length (r.coefficients ++ r.constant ∷ []) ≡ width + 1
numbers_long width r e = omega (arith, length-append r.coefficients (r.constant ∷ []), e)

-- ---- lines of rows and multipliers

module _ (is : Head → Bool) (head : Head) (named : is head ≡ true) (width : ℕ) where
  one_read : (r : Linear) (rest : List PlainLine) → columns r ≡ width → (line (sized is (width + 1))).read (row_line head r ∷ rest) ≡ Ok (tt, rest)
  one_read r rest e = sized_read is head (width + 1) (r.coefficients ++ r.constant ∷ []) rest named (numbers_long width r e)

  all_read : (n : ℕ) (rs : List Linear) (rest : List PlainLine) → length rs ≡ n → All (λ r. columns r ≡ width) rs → (many n (line (sized is (width + 1)))).read (row_lines head rs ++ rest) ≡ Ok (tt, rest)
  all_read n rs rest e all =
      ap (λ ls. (many n (line (sized is (width + 1)))).read (ls ++ rest)) (sym (flat_map_single (row_line head) rs))
      ∙ mapped_read (λ all. tt) (times n (line (sized is (width + 1)))) (flat_map (λ r. row_line head r ∷ []) rs ++ rest) (map (λ r. tt) rs) rest
      (times_read (line (sized is (width + 1))) (λ r. columns r ≡ width) (λ r. row_line head r ∷ []) (λ r. tt) one_read n rs rest e all)

pub rows_read : (width n : ℕ) (rs : List Linear) (rest : List PlainLine) → length rs ≡ n → All (λ r. columns r ≡ width) rs → (many n (row width)).read (row_lines heads.Row rs ++ rest) ≡ Ok (tt, rest)
rows_read width n rs rest e all = all_read is_row heads.Row refl width n rs rest e all

pub ranks_read : (width n : ℕ) (rs : List Linear) (rest : List PlainLine) → length rs ≡ n → All (λ r. columns r ≡ width) rs → (many n (rank width)).read (row_lines heads.Rank rs ++ rest) ≡ Ok (tt, rest)
ranks_read width n rs rest e all = all_read is_rank heads.Rank refl width n rs rest e all

pub draws_read : (width n : ℕ) (rs : List Linear) (rest : List PlainLine) → length rs ≡ n → All (λ r. columns r ≡ width) rs → (many n (draw width)).read (row_lines heads.Draw rs ++ rest) ≡ Ok (tt, rest)
draws_read width n rs rest e all = all_read is_draw heads.Draw refl width n rs rest e all

pub by_read : (count : ℕ) (ms : List ℤ) (rest : List PlainLine) → length ms ≡ count → (by count).read (formed heads.By ms ∷ rest) ≡ Ok (tt, rest)
by_read count ms rest e = sized_read is_by heads.By count ms rest refl e

pub lists_read : (count n : ℕ) (lists : List (List ℤ)) (rest : List PlainLine) → length lists ≡ n → All (λ ms. length ms ≡ count) lists → (many n (by count)).read (by_lines lists ++ rest) ≡ Ok (tt, rest)
lists_read count n lists rest e all =
    ap (λ ls. (many n (by count)).read (ls ++ rest)) (sym (flat_map_single (formed heads.By) lists))
    ∙ mapped_read (λ all. tt) (times n (by count)) (flat_map (λ ms. formed heads.By ms ∷ []) lists ++ rest) (map (λ ms. tt) lists) rest
    (times_read (by count) (λ ms. length ms ≡ count) (λ ms. formed heads.By ms ∷ []) (λ ms. tt) (by_read count) n lists rest e all)

-- ---- pieces

pub mark_going : (k : Mark) → is_going (mark_named k) ≡ is_go k
mark_going Done = refl
mark_going Go = refl

pub marked : (done going : Bool) → (done ≡ false → going ≡ true) → (done || going) ≡ true
marked true going h = refl
marked false going h = h refl

rank_many : (m : ℕ) (going : Bool) → cond going m 0 ≡ rank_count m going
rank_many m true = refl
rank_many m false = refl

module _ (system : CaseSystem) (m : ℕ) (done : Bool) where
  head_read : (p : Marked) (rest : List PlainLine) → PieceShape system m done p → (line (piece_line system.locations done)).read (formed (heads.Piece (mark_named p.mark)) (pos (place_of p) ∷ pos (length (rows_of p)) ∷ []) ∷ rest) ≡ Ok (outline p, rest)
  head_read p rest h =
      let place = lt-ltb (place_of p) system.locations h.place in
      let mark = marked done (goes p) h.marks in
      line_read (piece_line system.locations done) (heads.Piece (mark_named p.mark)) (pos (place_of p) ∷ pos (length (rows_of p)) ∷ []) (outline p) rest
      (ap (λ going. piece_numbers system.locations done going (place_of p) (length (rows_of p))) (mark_going p.mark) ∙ (λ i. guarded (place i && mark i) (outline p)))

  -- a piece
  pub piece_read : (p : Marked) (rest : List PlainLine) → PieceShape system m done p → (piece system m done).read (piece_lines p ++ rest) ≡ Ok (outline p, rest)
  piece_read p rest h =
      let rows = row_lines heads.Row (rows_of p) in
      let ranks = row_lines heads.Rank (ranks_of p) in
      let ranking : Grammar Outline = mapped (λ _. outline p) (many (rank_count m (goes p)) (rank system.variables)) in
      then_read (line (piece_line system.locations done)) (λ o. then (many o.rows (row system.variables)) (λ _. mapped (λ _. o) (many (rank_count m o.going) (rank system.variables))))
      (piece_lines p ++ rest) (outline p) ((rows ++ ranks) ++ rest) (head_read p ((rows ++ ranks) ++ rest) h)
      ∙ ap (then (many (length (rows_of p)) (row system.variables)) (λ _. ranking)).read (append_assoc rows ranks rest)
      ∙ then_read (many (length (rows_of p)) (row system.variables)) (λ _. ranking) (rows ++ (ranks ++ rest)) tt (ranks ++ rest) (rows_read system.variables (length (rows_of p)) (rows_of p) (ranks ++ rest) refl h.rows)
      ∙ mapped_read (λ _. outline p) (many (rank_count m (goes p)) (rank system.variables)) (ranks ++ rest) tt rest (ranks_read system.variables (rank_count m (goes p)) (ranks_of p) rest (h.many ∙ rank_many m (goes p)) h.ranks)

  -- `length ps` pieces
  pub pieces_read : (ps : List Marked) (rest : List PlainLine) → All (PieceShape system m done) ps → (times (length ps) (piece system m done)).read (flat_map piece_lines ps ++ rest) ≡ Ok (outlines ps, rest)
  pieces_read ps rest all = times_read (piece system m done) (PieceShape system m done) piece_lines outline piece_read (length ps) ps rest refl all

-- ---- the head of a node, and its pieces

pub kind_same : (k : NodeKind) → same_kind k k ≡ true
kind_same kinds.Atom = refl
kind_same kinds.And = refl
kind_same kinds.Or = refl
kind_same kinds.Next = refl
kind_same kinds.Fix = refl
kind_same kinds.Term = refl
kind_same kinds.NoTerm = refl

pub ranked : (m : ℕ) (may : Bool) → (may ≡ false → m ≡ 0) → ((m == 0) || may) ≡ true
ranked m true h = either (m == 0)
  where
    either : (b : Bool) → (b || true) ≡ true
    either true = refl
    either false = refl
ranked m false h = ap (λ b. b || false) (eq-eqb m 0 (h refl))

-- the head of a node with `count` pieces and `m` ranks
pub opening_read : (s : Statement) (m count : ℕ) (rest : List PlainLine) → (may_rank s ≡ false → m ≡ 0) → m < 2 ^ 32 → (line (node_line (kind_of s) (may_rank s))).read (formed (heads.Node (kind_of s)) (pos count ∷ pos m ∷ []) ∷ rest) ≡ Ok (record { pieces = count; ranks = m }, rest)
opening_read s m count rest may small =
    let a = kind_same (kind_of s) in
    let b = ranked m (may_rank s) may in
    let c = lt-ltb m (2 ^ 32) small in
    let x : NodeHead = record { pieces = count; ranks = m } in
    line_read (node_line (kind_of s) (may_rank s)) (heads.Node (kind_of s)) (pos count ∷ pos m ∷ []) x rest (λ i. guarded (a i && b i && c i) x)

pub region_read : (system : CaseSystem) (s : Statement) (m : ℕ) (ps : List Marked) (rest : List PlainLine) → (may_rank s ≡ false → m ≡ 0) → m < 2 ^ 32 → All (PieceShape system m (may_be_done s)) ps → (region system s).read (formed (heads.Node (kind_of s)) (pos (length ps) ∷ pos m ∷ []) ∷ (flat_map piece_lines ps ++ rest)) ≡ Ok (region_of m (outlines ps), rest)
region_read system s m ps rest may small all =
    then_read (line (node_line (kind_of s) (may_rank s))) (λ x. mapped (region_of x.ranks) (times x.pieces (piece system x.ranks (may_be_done s)))) (formed (heads.Node (kind_of s)) (pos (length ps) ∷ pos m ∷ []) ∷ (flat_map piece_lines ps ++ rest)) (record { pieces = length ps; ranks = m }) (flat_map piece_lines ps ++ rest) (opening_read s m (length ps) (flat_map piece_lines ps ++ rest) may small)
    ∙ mapped_read (region_of m) (times (length ps) (piece system m (may_be_done s))) (flat_map piece_lines ps ++ rest) (outlines ps) rest (pieces_read system m (may_be_done s) ps rest all)

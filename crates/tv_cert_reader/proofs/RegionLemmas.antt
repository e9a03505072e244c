-- What is read of the pieces of a node.
use Rattle.std.proofs.Common.{◌≡◌, ℕ, ◌+◌, ◌<◌, ℤ, pos, Bool, true, false, cond, List, [], ◌∷◌, ◌++◌, length, Ok, refl, sym, ap, ◌∙◌}
use Rattle.std.specs.List.{flat_map}
use Rattle.tv_grammar.specs.Langs.{then, mapped, times}
use Rattle.tv_lines.specs.Lines.{formed}
use Rattle.tv_lines.specs.declared.head.Head.{Head}
use Rattle.tv_lines.specs.declared.head.Head.TheVariants as heads
use Rattle.tv_lines.specs.declared.head.NodeKind.{NodeKind}
use Rattle.tv_linear.specs.Linear.{Linear}
use Rattle.tv_cases.specs.LinearCases.{CaseSystem}
use Rattle.tv_cert.specs.declared.node.Mark.{Mark}
use Rattle.tv_cert.specs.declared.node.Marked.{Marked}
use Rattle.tv_cert.specs.MarkedRows.{marked}
use Rattle.tv_cert.specs.Pieces.{is_go}
use Rattle.tv_cert.specs.Shapes.{PieceShape}
use Rattle.tv_cert_reader.specs.CertificateLines.{mark_named, row_lines, piece_lines}
use Rattle.tv_cert_reader.specs.declared.kind.LineKind.TheVariants.{Shape}
use Rattle.tv_cert_reader.specs.Demands.{Outline, outline}
use Rattle.tv_cert_reader.specs.LineGrammar.{Grammar, Region, line, line_cases, line_branch, many, row, rank, rank_count, piece_line, piece, node_line, region_of, NodeHead}
use Rattle.tv_cert_reader.proofs.CompleteParts.{line_read, rows_read, piece_read}
use Rattle.tv_cert_reader.specs.declared.cursor.Cursor.{Cursor}
use Rattle.tv_cert_reader.specs.declared.failure.Failure.{Failure}
use Rattle.tv_cert_reader.specs.declared.failure.Failure.TheVariants.{Fault}
use Rattle.tv_cert_reader.specs.Reading.{Takes, FaultAt, FailsBy}
use Rattle.tv_cert_reader.specs.Parts.{AreMany, IsWide}
use Rattle.tv_cert_reader.specs.Heads.{IsPieceHead, IsNodeHead}
use Rattle.tv_cert_reader.specs.Regions.{region_with}
use Rattle.tv_cert_reader.proofs.HeadLemmas.{piece_none, piece_some, begun, node_none, node_some, counted}
use Rattle.tv_cert_reader.proofs.ReadingLemmas.{Gathered, takes_as, takes_both, line_stops, first_fails, second_fails, mapped_fails, times_fails}

-- ---- a piece

module _ (system : CaseSystem) (m : ℕ) (done : Bool) (old mid : Cursor) (head : Head) (zs : List ℤ) (front : Takes (formed head zs ∷ []) old mid) where
  abbrev opening : Grammar Outline
  opening = line (piece_line system.locations done)

  abbrev ranking : Outline → Grammar Outline
  ranking o = mapped (λ _. o) (many (rank_count m o.going) (rank system.variables))

  abbrev behind : Outline → Grammar Outline
  behind o = then (many o.rows (row system.variables)) (λ _. ranking o)

  pub piece_stops : mid.taken ≡ old.taken + 1 → ((mark : Mark) (l count : ℕ) → IsPieceHead system.locations done head zs mark l count → ⊥) → FaultAt (piece system m done) old Shape mid.taken
  piece_stops one none =
      first_fails opening behind old (Fault Shape mid.taken) (line_stops (line_cases (piece_line system.locations done)) old mid head zs Shape front one (ap line_branch (piece_none system.locations done head zs none)))

  module _ (mark : Mark) (l count : ℕ) (is : IsPieceHead system.locations done head zs mark l count) where
    opened : opening.read old.lines ≡ Ok (begun mark l count, mid.lines)
    opened = ap opening.read front.lines ∙ line_read (piece_line system.locations done) head zs (begun mark l count) mid.lines (piece_some system.locations done head zs mark l count is)

    pub rows_stop : (f : Failure) → FailsBy (many count (row system.variables)) mid f → FailsBy (piece system m done) old f
    rows_stop f h = second_fails opening behind (begun mark l count) old mid f opened front.last (first_fails (many count (row system.variables)) (λ _. ranking (begun mark l count)) mid f h)

    pub ranks_stop : (rows : List Linear) (next : Cursor) (f : Failure) → AreMany (IsWide system.variables) count rows → Takes (row_lines heads.Row rows) mid next → FailsBy (many (rank_count m (is_go mark)) (rank system.variables)) next f → FailsBy (piece system m done) old f
    ranks_stop rows next f are t h =
        second_fails opening behind (begun mark l count) old mid f opened front.last
        (second_fails (many count (row system.variables)) (λ _. ranking (begun mark l count)) tt mid next f
        (ap (many count (row system.variables)).read t.lines ∙ rows_read system.variables count rows next.lines are.many are.each) t.last
        (mapped_fails (λ _. begun mark l count) (many (rank_count m (is_go mark)) (rank system.variables)) next f h))

-- a piece that is read, by its head, its rows and its ranks
module _ (system : CaseSystem) (m : ℕ) (done : Bool) (old mid next new : Cursor) (head : Head) (zs : List ℤ) (mark : Mark) (l count : ℕ) (rows ranks : List Linear) where
  ranks_counted : (b : Bool) (k : ℕ) → k ≡ rank_count m b → k ≡ cond b m 0
  ranks_counted true k e = e
  ranks_counted false k e = e

  pub piece_made : Takes (formed head zs ∷ []) old mid → IsPieceHead system.locations done head zs mark l count → AreMany (IsWide system.variables) count rows → AreMany (IsWide system.variables) (rank_count m (is_go mark)) ranks → Takes (row_lines heads.Row rows) mid next → Takes (row_lines heads.Rank ranks) next new → PieceShape system m done (marked l system.variables mark rows ranks) × Takes (piece_lines (marked l system.variables mark rows ranks)) old new
  piece_made front is are others first second = (
    record {
      place = is.place;
      poly = refl;
      rows = are.each;
      ranks = others.each;
      many = ranks_counted (is_go mark) (length ranks) others.many;
      marks = is.marked;
    },
    takes_both (formed (heads.Piece (mark_named mark)) (pos l ∷ pos (length rows) ∷ []) ∷ []) (row_lines heads.Row rows ++ row_lines heads.Rank ranks) old mid new
        (takes_as (formed head zs ∷ []) (formed (heads.Piece (mark_named mark)) (pos l ∷ pos (length rows) ∷ []) ∷ []) old mid (λ i. formed (is.opening i) ((is.numbers ∙ ap (λ k. pos l ∷ pos k ∷ []) (sym are.many)) i) ∷ []) front)
        (takes_both (row_lines heads.Row rows) (row_lines heads.Rank ranks) mid next new first second),
  )

-- ---- pieces

module _ (system : CaseSystem) (m : ℕ) (done : Bool) where
  pub pieces_fail : (n i : ℕ) (old now : Cursor) (ps : List Marked) (f : Failure) → Gathered (PieceShape system m done) piece_lines old i now ps → i < n → FailsBy (piece system m done) now f → FailsBy (times n (piece system m done)) old f
  pieces_fail n i old now ps f g bounded h = times_fails (piece system m done) (PieceShape system m done) piece_lines outline (piece_read system m done) n i old now ps f g bounded h

  pub pieces_end : (n i : ℕ) (old now : Cursor) (ps : List Marked) → Gathered (PieceShape system m done) piece_lines old i now ps → i ≡ n → AreMany (PieceShape system m done) n ps × Takes (flat_map piece_lines ps) old now
  pieces_end n i old now ps g e = (record { many = g.many ∙ e; each = g.each }, g.took)

-- ---- the head of a node, and its pieces

module _ (system : CaseSystem) (kind : NodeKind) (ranked done : Bool) (old mid : Cursor) (head : Head) (zs : List ℤ) (front : Takes (formed head zs ∷ []) old mid) where
  abbrev pieces_behind : NodeHead → Grammar Region
  pieces_behind x = mapped (region_of x.ranks) (times x.pieces (piece system x.ranks done))

  pub node_stops : mid.taken ≡ old.taken + 1 → ((count m : ℕ) → IsNodeHead kind ranked head zs count m → ⊥) → FaultAt (region_with system kind ranked done) old Shape mid.taken
  node_stops one none =
      first_fails (line (node_line kind ranked)) pieces_behind old (Fault Shape mid.taken) (line_stops (line_cases (node_line kind ranked)) old mid head zs Shape front one (ap line_branch (node_none kind ranked head zs none)))

  pub pieces_stop : (count m : ℕ) → IsNodeHead kind ranked head zs count m → (f : Failure) → FailsBy (times count (piece system m done)) mid f → FailsBy (region_with system kind ranked done) old f
  pieces_stop count m is f h =
      second_fails (line (node_line kind ranked)) pieces_behind (counted count m) old mid f
      (ap (line (node_line kind ranked)).read front.lines ∙ line_read (node_line kind ranked) head zs (counted count m) mid.lines (node_some kind ranked head zs count m is)) front.last
      (mapped_fails (region_of m) (times count (piece system m done)) mid f h)

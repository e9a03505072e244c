-- The lines of a certificate have narrow numbers exactly where the certificate has.
use Rattle.std.proofs.Common.{◌≡◌, ℕ, ℤ, pos, List, [], ◌∷◌, ◌++◌, length, map, All, Some, None, refl, ◌∙◌}
use Rattle.std.specs.Global.{Vec}
use Rattle.std.specs.List.{flat_map}
use Rattle.std.proofs.lemmas.List.Elements.{All-nil, All-cons, All-head, All-tail, All-append}
use Rattle.tv_lines.specs.Pieces.{pieces}
use Rattle.tv_lines.specs.Numbers.{IsNarrow}
use Rattle.tv_lines.specs.Lines.{PlainLine, formed, formless, wide, line_of, line_texts, lines_of, count_of, FitsHead, IsFit}
use Rattle.tv_lines.specs.declared.head.Head.{Head}
use Rattle.tv_lines.specs.declared.head.Head.TheVariants as heads
use Rattle.tv_lines.proofs.FitLemmas.{line_fit}
use Rattle.tv_linear.specs.Linear.{Linear}
use Rattle.tv_linear.specs.declared.cover.CoverTree.{CoverTree}
use Rattle.tv_linear.specs.declared.cover.CoverTree as cover
use Rattle.tv_linear.specs.declared.choice.ChoiceTree.{ChoiceTree}
use Rattle.tv_linear.specs.declared.choice.ChoiceTree as choice
use Rattle.tv_cases.specs.LinearCases.{CaseSystem}
use Rattle.tv_cert.specs.declared.node.Marked.{Marked}
use Rattle.tv_cert.specs.declared.node.Proof.{Proof}
use Rattle.tv_cert.specs.declared.node.Proof.TheVariants.{Covered, Chosen}
use Rattle.tv_cert.specs.declared.node.Node.{Node, Node', Row_of-Node, end_of-Node, more_of-Node}
use Rattle.tv_cert.specs.declared.node.Verdict.{Verdict}
use Rattle.tv_cert.specs.declared.node.Verdict.TheVariants.{Proved, Disproved}
use Rattle.tv_cert.specs.Pieces.{place_of, rows_of, ranks_of}
use Rattle.tv_cert.specs.Statements.{Statement, parts_of, Statements, no_statement, statement}
use Rattle.tv_cert.specs.Shapes.{NodeShape, KidsShape}
use Rattle.tv_shape.specs.Fitting.{NodeNarrow, KidsNarrow, VerdictNarrow}
use Rattle.tv_shape.specs.Narrow.{ListsNarrow, RowNarrow, CoverNarrow, ChoiceNarrow, ProofNarrow, PieceNarrow}
use Rattle.tv_cert_reader.specs.CertificateLines.{row_line, row_lines, by_lines, piece_lines, cover_lines, choice_lines, proof_lines, node_lines, kid_lines, certificate_lines}
use Rattle.tv_cert_reader.specs.Wholes.{behind_root}

-- ---- lines

abbrev pub AreFit : List PlainLine → Type 0
AreFit [] = Unit {0}
AreFit (l ∷ ls) = IsFit l × AreFit ls

lines_fit : (texts : List (List ℕ)) → AreFit (map line_of texts)
lines_fit [] = tt
lines_fit (t ∷ texts) = (line_fit t (line_of t) refl, lines_fit texts)

pub text_fit : (text : List ℕ) → AreFit (lines_of text)
text_fit text = lines_fit (line_texts (pieces 10 text))

fit_left : (ls later : List PlainLine) → AreFit (ls ++ later) → AreFit ls
fit_left [] later h = tt
fit_left (l ∷ ls) later h = (h.0, fit_left ls later h.1)

fit_right : (ls later : List PlainLine) → AreFit (ls ++ later) → AreFit later
fit_right [] later h = h
fit_right (l ∷ ls) later h = fit_right ls later h.1

pub behind_two : (k l : PlainLine) (ls : List PlainLine) → AreFit (k ∷ l ∷ ls) → AreFit ls
behind_two k l ls h = fit_right (k ∷ l ∷ []) ls h

-- a line that has a form, and numbers that fit it
abbrev IsTold : PlainLine → Type 0
IsTold (formed head zs) = FitsHead head zs
IsTold formless = ⊥
IsTold wide = ⊥

abbrev pub AreTold : List PlainLine → Type 0
AreTold [] = Unit {0}
AreTold (l ∷ ls) = IsTold l × AreTold ls

told_both : (ls later : List PlainLine) → AreTold ls → AreTold later → AreTold (ls ++ later)
told_both [] later h k = k
told_both (l ∷ ls) later h k = (h.0, told_both ls later h.1 k)

-- ---- numbers

all_left : (xs ys : List ℤ) → All IsNarrow (xs ++ ys) → All IsNarrow xs
all_left [] ys h = All-nil IsNarrow
all_left (x ∷ xs) ys h = All-cons IsNarrow x xs (All-head IsNarrow x (xs ++ ys) h) (all_left xs ys (All-tail IsNarrow x (xs ++ ys) h))

all_last : (xs : List ℤ) (y : ℤ) → All IsNarrow (xs ++ y ∷ []) → IsNarrow y
all_last [] y h = All-head IsNarrow y [] h
all_last (x ∷ xs) y h = all_last xs y (All-tail IsNarrow x (xs ++ y ∷ []) h)

one : (a : ℤ) → IsNarrow a → All IsNarrow (a ∷ [])
one a h = All-cons IsNarrow a [] h (All-nil IsNarrow)

two : (a b : ℤ) → IsNarrow a → IsNarrow b → All IsNarrow (a ∷ b ∷ [])
two a b h k = All-cons IsNarrow a (b ∷ []) h (one b k)

first_of_two : (a : ℤ) (zs : List ℤ) → All IsNarrow (a ∷ zs) → IsNarrow a
first_of_two a zs h = All-head IsNarrow a zs h

second_of_two : (a b : ℤ) (zs : List ℤ) → All IsNarrow (a ∷ b ∷ zs) → IsNarrow b
second_of_two a b zs h = All-head IsNarrow b zs (All-tail IsNarrow a (b ∷ zs) h)

third_of_three : (a b c : ℤ) → All IsNarrow (a ∷ b ∷ c ∷ []) → IsNarrow c
third_of_three a b c h = second_of_two b c [] (All-tail IsNarrow a (b ∷ c ∷ []) h)

-- a head that wants no number of numbers, and one that does
uncounted : (head : Head) (zs : List ℤ) → count_of head ≡ None → All IsNarrow zs → FitsHead head zs
uncounted head zs e h = record { counted = λ n f. absurd (let never : ⊥ = cc in never); narrow = h }

counted : (head : Head) (zs : List ℤ) (n : ℕ) → count_of head ≡ Some n → length zs ≡ n → All IsNarrow zs → FitsHead head zs
counted head zs n e long h = record { counted = λ m f. (let same : n ≡ m = cc in long ∙ same); narrow = h }

-- ---- lines that fit are of narrow numbers

row_fit : (head : Head) (r : Linear) → IsFit (row_line head r) → RowNarrow r
row_fit head r h = record { coefficients = all_left r.coefficients (r.constant ∷ []) h.narrow; constant = all_last r.coefficients r.constant h.narrow }

rows_fit : (head : Head) (rows : List Linear) → AreFit (row_lines head rows) → All RowNarrow rows
rows_fit head [] h = All-nil RowNarrow
rows_fit head (r ∷ rows) h = All-cons RowNarrow r rows (row_fit head r h.0) (rows_fit head rows h.1)

lists_narrow : (lists : List (Vec ℤ)) → AreFit (by_lines (map (λ l. l.items) lists)) → ListsNarrow lists
lists_narrow [] h = All-nil (λ (l : Vec ℤ). All IsNarrow l.items)
lists_narrow (l ∷ lists) h = All-cons (λ (l : Vec ℤ). All IsNarrow l.items) l lists h.0.narrow (lists_narrow lists h.1)

cover_fit : (tree : CoverTree) → AreFit (cover_lines tree) → CoverNarrow tree
cover_fit (cover.Split' r p a q b) h = (row_fit heads.Split r h.0, cover_fit a (fit_left (cover_lines a) (cover_lines b) h.1), cover_fit b (fit_right (cover_lines a) (cover_lines b) h.1))
cover_fit (cover.Empty ms) h = h.0.narrow
cover_fit (cover.Into k j lists) h = (first_of_two (pos k) (pos j ∷ []) h.0.narrow, second_of_two (pos k) (pos j) [] h.0.narrow, lists_narrow lists.items h.1)

covers_fit : (trees : List CoverTree) → AreFit (flat_map cover_lines trees) → All CoverNarrow trees
covers_fit [] h = All-nil CoverNarrow
covers_fit (t ∷ trees) h = All-cons CoverNarrow t trees (cover_fit t (fit_left (cover_lines t) (flat_map cover_lines trees) h)) (covers_fit trees (fit_right (cover_lines t) (flat_map cover_lines trees) h))

choice_fit : (tree : ChoiceTree) → AreFit (choice_lines tree) → ChoiceNarrow tree
choice_fit (choice.Split' r p a q b) h = (row_fit heads.Split r h.0, choice_fit a (fit_left (choice_lines a) (choice_lines b) h.1), choice_fit b (fit_right (choice_lines a) (choice_lines b) h.1))
choice_fit (choice.Empty ms) h = h.0.narrow
choice_fit (choice.NoStep covers) h = covers_fit covers.items h.1
choice_fit (choice.Take c k j draws lists) h =
    let rows = row_lines heads.Draw draws.items in
    let shown = by_lines (map (λ l. l.items) lists.items) in (
      first_of_two (pos c) (pos k ∷ pos j ∷ []) h.0.narrow,
      second_of_two (pos c) (pos k) (pos j ∷ []) h.0.narrow,
      third_of_three (pos c) (pos k) (pos j) h.0.narrow,
      rows_fit heads.Draw draws.items (fit_left rows shown h.1),
      lists_narrow lists.items (fit_right rows shown h.1),
    )

proof_fit : (proof : Proof) → AreFit (proof_lines proof) → ProofNarrow proof
proof_fit (Covered tree) h = cover_fit tree h
proof_fit (Chosen tree) h = choice_fit tree h

proofs_fit : (proofs : List Proof) → AreFit (flat_map proof_lines proofs) → All ProofNarrow proofs
proofs_fit [] h = All-nil ProofNarrow
proofs_fit (p ∷ proofs) h = All-cons ProofNarrow p proofs (proof_fit p (fit_left (proof_lines p) (flat_map proof_lines proofs) h)) (proofs_fit proofs (fit_right (proof_lines p) (flat_map proof_lines proofs) h))

piece_fit : (p : Marked) → AreFit (piece_lines p) → PieceNarrow p
piece_fit p h =
    let rows = row_lines heads.Row (rows_of p) in
    let ranks = row_lines heads.Rank (ranks_of p) in
    record {
      place = first_of_two (pos (place_of p)) (pos (length (rows_of p)) ∷ []) h.0.narrow;
      count = second_of_two (pos (place_of p)) (pos (length (rows_of p))) [] h.0.narrow;
      rows = rows_fit heads.Row (rows_of p) (fit_left rows ranks h.1);
      ranks = rows_fit heads.Rank (ranks_of p) (fit_right rows ranks h.1);
    }

pieces_fit : (ps : List Marked) → AreFit (flat_map piece_lines ps) → All PieceNarrow ps
pieces_fit [] h = All-nil PieceNarrow
pieces_fit (p ∷ ps) h = All-cons PieceNarrow p ps (piece_fit p (fit_left (piece_lines p) (flat_map piece_lines ps) h)) (pieces_fit ps (fit_right (piece_lines p) (flat_map piece_lines ps) h))

mutual
  pub node_fit : (system : CaseSystem) (s : Statement) (node : Node) → NodeShape system s node → AreFit (node_lines s node) → NodeNarrow node
  node_fit system s (Node' ps m shape kids proofs) has h =
      let first = flat_map piece_lines ps in
      let below = kid_lines (parts_of s) kids in
      let last = flat_map proof_lines proofs.items in
      let later = fit_right first (below ++ last) h.1 in (
        record {
          count = first_of_two (pos (length ps)) (pos m ∷ []) h.0.narrow;
          ranks = second_of_two (pos (length ps)) (pos m) [] h.0.narrow;
          pieces = pieces_fit ps (fit_left first (below ++ last) h.1);
          offered = proofs_fit proofs.items (fit_right below last later);
        },
        kids_fit system (parts_of s) kids has.1 (fit_left below last later),
      )

  kids_fit : {k : _} (system : CaseSystem) (ss : Statements) (kids : Row_of-Node k) → KidsShape system ss kids → AreFit (kid_lines ss kids) → KidsNarrow kids
  kids_fit system ss end_of-Node has h = tt
  kids_fit system no_statement (more_of-Node a kids) has h = absurd has
  kids_fit system (statement s ss) (more_of-Node a kids) has h =
      (node_fit system s a has.0 (fit_left (node_lines s a) (kid_lines ss kids) h), kids_fit system ss kids has.1 (fit_right (node_lines s a) (kid_lines ss kids) h))

pub verdict_fit : (verdict : Verdict) → AreFit (behind_root verdict) → VerdictNarrow verdict
verdict_fit (Proved tree) h = cover_fit tree (fit_left (cover_lines tree) (formed heads.End [] ∷ []) h)
verdict_fit (Disproved k values) h = (first_of_two (pos k) values.items h.0.narrow, All-tail IsNarrow (pos k) values.items h.0.narrow)

-- the lines of what is read of a text
pub root_and_rest : (s : Statement) (root : Node) (verdict : Verdict) → AreFit (node_lines s root ++ behind_root verdict) → AreFit (node_lines s root) × AreFit (behind_root verdict)
root_and_rest s root verdict h = (fit_left (node_lines s root) (behind_root verdict) h, fit_right (node_lines s root) (behind_root verdict) h)

-- ---- narrow numbers are told

rows_told : (head : Head) (rows : List Linear) → count_of head ≡ None → All RowNarrow rows → AreTold (row_lines head rows)
rows_told head [] e h = tt
rows_told head (r ∷ rows) e h = (row_told head r e (All-head RowNarrow r rows h), rows_told head rows e (All-tail RowNarrow r rows h))
  where
    row_told : (head : Head) (r : Linear) → count_of head ≡ None → RowNarrow r → IsTold (row_line head r)
    row_told head r e h = uncounted head (r.coefficients ++ r.constant ∷ []) e (All-append IsNarrow r.coefficients (r.constant ∷ []) h.coefficients (one r.constant h.constant))

split_told : (r : Linear) → RowNarrow r → IsTold (row_line heads.Split r)
split_told r h = (rows_told heads.Split (r ∷ []) refl (All-cons RowNarrow r [] h (All-nil RowNarrow))).0

lists_told : (lists : List (Vec ℤ)) → ListsNarrow lists → AreTold (by_lines (map (λ l. l.items) lists))
lists_told [] h = tt
lists_told (l ∷ lists) h =
    let narrow = λ (l : Vec ℤ). All IsNarrow l.items in
    (uncounted heads.By l.items refl (All-head narrow l lists h), lists_told lists (All-tail narrow l lists h))

cover_told : (tree : CoverTree) → CoverNarrow tree → AreTold (cover_lines tree)
cover_told (cover.Split' r p a q b) h = (split_told r h.0, told_both (cover_lines a) (cover_lines b) (cover_told a h.1) (cover_told b h.2))
cover_told (cover.Empty ms) h = (uncounted heads.Empty ms.items refl h, tt)
cover_told (cover.Into k j lists) h = (counted heads.Into (pos k ∷ pos j ∷ []) 2 refl refl (two (pos k) (pos j) h.0 h.1), lists_told lists.items h.2)

covers_told : (trees : List CoverTree) → All CoverNarrow trees → AreTold (flat_map cover_lines trees)
covers_told [] h = tt
covers_told (t ∷ trees) h = told_both (cover_lines t) (flat_map cover_lines trees) (cover_told t (All-head CoverNarrow t trees h)) (covers_told trees (All-tail CoverNarrow t trees h))

choice_told : (tree : ChoiceTree) → ChoiceNarrow tree → AreTold (choice_lines tree)
choice_told (choice.Split' r p a q b) h = (split_told r h.0, told_both (choice_lines a) (choice_lines b) (choice_told a h.1) (choice_told b h.2))
choice_told (choice.Empty ms) h = (uncounted heads.Empty ms.items refl h, tt)
choice_told (choice.NoStep covers) h = (counted heads.NoStep [] 0 refl refl (All-nil IsNarrow), covers_told covers.items h)
choice_told (choice.Take c k j draws lists) h = (
  counted heads.Take (pos c ∷ pos k ∷ pos j ∷ []) 3 refl refl (All-cons IsNarrow (pos c) (pos k ∷ pos j ∷ []) h.0 (two (pos k) (pos j) h.1 h.2)),
  told_both (row_lines heads.Draw draws.items) (by_lines (map (λ l. l.items) lists.items)) (rows_told heads.Draw draws.items refl h.3) (lists_told lists.items h.4),
)

proof_told : (proof : Proof) → ProofNarrow proof → AreTold (proof_lines proof)
proof_told (Covered tree) h = cover_told tree h
proof_told (Chosen tree) h = choice_told tree h

proofs_told : (proofs : List Proof) → All ProofNarrow proofs → AreTold (flat_map proof_lines proofs)
proofs_told [] h = tt
proofs_told (p ∷ proofs) h = told_both (proof_lines p) (flat_map proof_lines proofs) (proof_told p (All-head ProofNarrow p proofs h)) (proofs_told proofs (All-tail ProofNarrow p proofs h))

piece_told : (p : Marked) → PieceNarrow p → AreTold (piece_lines p)
piece_told p h = (
  counted (heads.Piece _) (pos (place_of p) ∷ pos (length (rows_of p)) ∷ []) 2 refl refl (two (pos (place_of p)) (pos (length (rows_of p))) h.place h.count),
  told_both (row_lines heads.Row (rows_of p)) (row_lines heads.Rank (ranks_of p)) (rows_told heads.Row (rows_of p) refl h.rows) (rows_told heads.Rank (ranks_of p) refl h.ranks),
)

pieces_told : (ps : List Marked) → All PieceNarrow ps → AreTold (flat_map piece_lines ps)
pieces_told [] h = tt
pieces_told (p ∷ ps) h = told_both (piece_lines p) (flat_map piece_lines ps) (piece_told p (All-head PieceNarrow p ps h)) (pieces_told ps (All-tail PieceNarrow p ps h))

mutual
  node_told : (s : Statement) (node : Node) → NodeNarrow node → AreTold (node_lines s node)
  node_told s (Node' ps m shape kids proofs) h = (
    counted (heads.Node _) (pos (length ps) ∷ pos m ∷ []) 2 refl refl (two (pos (length ps)) (pos m) h.0.count h.0.ranks),
    told_both (flat_map piece_lines ps) (kid_lines (parts_of s) kids ++ flat_map proof_lines proofs.items) (pieces_told ps h.0.pieces)
        (told_both (kid_lines (parts_of s) kids) (flat_map proof_lines proofs.items) (kids_told (parts_of s) kids h.1) (proofs_told proofs.items h.0.offered)),
  )

  kids_told : {k : _} (ss : Statements) (kids : Row_of-Node k) → KidsNarrow kids → AreTold (kid_lines ss kids)
  kids_told ss end_of-Node h = tt
  kids_told no_statement (more_of-Node a kids) h = tt
  kids_told (statement s ss) (more_of-Node a kids) h = told_both (node_lines s a) (kid_lines ss kids) (node_told s a h.0) (kids_told ss kids h.1)

bare : (head : Head) → count_of head ≡ Some 0 → FitsHead head []
bare head e = counted head [] 0 e refl (All-nil IsNarrow)

pub certificate_told : (s : Statement) (root : Node) (verdict : Verdict) → NodeNarrow root → VerdictNarrow verdict → AreTold (certificate_lines s root verdict)
certificate_told s root (Proved tree) h k =
    (bare heads.Header refl, (bare heads.Proved refl, told_both (node_lines s root) (cover_lines tree ++ formed heads.End [] ∷ []) (node_told s root h) (told_both (cover_lines tree) (formed heads.End [] ∷ []) (cover_told tree k) (bare heads.End refl, tt))))
certificate_told s root (Disproved j values) h k =
    (bare heads.Header refl, (bare heads.Disproved refl, told_both (node_lines s root) (formed heads.At (pos j ∷ values.items) ∷ formed heads.End [] ∷ []) (node_told s root h) (uncounted heads.At (pos j ∷ values.items) refl (All-cons IsNarrow (pos j) values.items k.0 k.1), (bare heads.End refl, tt))))

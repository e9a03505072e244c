-- Rows, multipliers and pieces are told by their lines.
use Rattle.std.proofs.Common.{◌≡◌, ℕ, ℤ, pos, Bool, List, [], ◌∷◌, ◌++◌, length, cond, refl, sym, ap, ◌∙◌, arith, length-append}
use Rattle.tv_lines.specs.Lines.{PlainLine, formed}
use Rattle.tv_lines.specs.declared.head.Head.{Head}
use Rattle.tv_lines.specs.declared.head.Head.TheVariants as heads
use Rattle.tv_lines.specs.declared.head.PieceMark.{PieceMark}
use Rattle.tv_lines.specs.declared.head.PieceMark.TheVariants as marks
use Rattle.tv_linear.specs.Linear.{Linear, linear}
use Rattle.tv_cases.specs.LinearCases.{CaseSystem}
use Rattle.tv_cert.specs.declared.node.Mark.{Mark}
use Rattle.tv_cert.specs.declared.node.Mark.TheVariants.{Done, Go}
use Rattle.tv_cert.specs.Pieces.{place_of, rows_of, ranks_of, is_go}
use Rattle.tv_cert.specs.Shapes.{PieceShape}
use Rattle.tv_cert_reader.specs.CertificateLines.{row_line, row_lines, by_lines, mark_named, piece_lines}
use Rattle.tv_cert_spelling.specs.NodeValues.{piece_value}
use Rattle.tv_cert_spelling.proofs.Fronts.{same_head, same_tail, behind_first, Told, tokens_told}

-- ---- lines

pub same_numbers : (h k : Head) (zs ws : List ℤ) → formed h zs ≡ formed k ws → zs ≡ ws
same_numbers h k zs ws e = cc

pub same_form : (h k : Head) (zs ws : List ℤ) → formed h zs ≡ formed k ws → h ≡ k
same_form h k zs ws e = cc

-- lines of one head are not those of another
pub other_head : {A : Type 0} (h k : Head) (zs ws : List ℤ) (xs ys : List PlainLine) → (h ≡ k → ⊥) → formed h zs ∷ xs ≡ formed k ws ∷ ys → A
other_head h k zs ws xs ys other e = absurd (other (same_form h k zs ws (same_head (formed h zs) (formed k ws) xs ys e)))

pub same_number : (m n : ℕ) → pos m ≡ pos n → m ≡ n
same_number m n e = cc

-- two numbers
pub same_two : (k j m n : ℕ) → pos k ∷ pos j ∷ [] ≡ pos m ∷ pos n ∷ [] → (k ≡ m) × (j ≡ n)
same_two k j m n e = (same_number k m (same_head _ _ _ _ e), same_number j n (same_head _ _ _ _ (same_tail _ _ _ _ e)))

-- three numbers
pub same_three : (c k j l m n : ℕ) → pos c ∷ pos k ∷ pos j ∷ [] ≡ pos l ∷ pos m ∷ pos n ∷ [] → (c ≡ l) × (k ≡ m) × (j ≡ n)
same_three c k j l m n e = let more = same_two k j m n (same_tail _ _ _ _ e) in (same_number c l (same_head _ _ _ _ e), more.0, more.1)

-- ---- rows

-- the last of the numbers is the constant
same_last : (cs ds : List ℤ) (k l : ℤ) → cs ++ k ∷ [] ≡ ds ++ l ∷ [] → (cs ≡ ds) × (k ≡ l)
same_last [] [] k l e = (refl, same_head k l [] [] e)
same_last [] (d ∷ ds) k l e = absurd (omega (arith, ap length e, length-append ds (l ∷ [])))
same_last (c ∷ cs) [] k l e = absurd (omega (arith, ap length e, length-append cs (k ∷ [])))
same_last (c ∷ cs) (d ∷ ds) k l e =
    let more = same_last cs ds k l (same_tail c d (cs ++ k ∷ []) (ds ++ l ∷ []) e) in
    (λ i. same_head c d (cs ++ k ∷ []) (ds ++ l ∷ []) e i ∷ more.0 i, more.1)

pub row_told : (head : Head) (r s : Linear) → row_line head r ≡ row_line head s → r ≡ s
row_told head r s e =
    let same = same_last r.coefficients s.coefficients r.constant s.constant (same_numbers head head (r.coefficients ++ r.constant ∷ []) (s.coefficients ++ s.constant ∷ []) e) in
    (λ i. linear (same.0 i) (same.1 i))

pub rows_told : (head : Head) (rs ss : List Linear) (xs ys : List PlainLine) → length rs ≡ length ss → row_lines head rs ++ xs ≡ row_lines head ss ++ ys → (rs ≡ ss) × (xs ≡ ys)
rows_told head = tokens_told (row_line head) (row_told head)

pub lists_told : (vs ws : List (List ℤ)) (xs ys : List PlainLine) → length vs ≡ length ws → by_lines vs ++ xs ≡ by_lines ws ++ ys → (vs ≡ ws) × (xs ≡ ys)
lists_told = tokens_told (formed heads.By) (same_numbers heads.By heads.By)

-- ---- pieces

mark_back : PieceMark → Mark
mark_back marks.Done = Done
mark_back marks.Go = Go

mark_there : (m : Mark) → mark_back (mark_named m) ≡ m
unfolding mark_back
mark_there Done = refl
mark_there Go = refl

same_mark : (m n : Mark) → heads.Piece (mark_named m) ≡ heads.Piece (mark_named n) → m ≡ n
same_mark m n e = sym (mark_there m) ∙ ap mark_back (named (mark_named m) (mark_named n) e) ∙ mark_there n
  where
    named : (j k : PieceMark) → heads.Piece j ≡ heads.Piece k → j ≡ k
    named j k e = cc

pub piece_told : (system : CaseSystem) (m : ℕ) (done : Bool) → Told piece_lines piece_value (PieceShape system m done)
piece_told system m done p q xs ys h g e =
    let first = same_head _ _ _ _ e in
    let mark = same_mark p.mark q.mark (same_form _ _ _ _ first) in
    let two = same_two (place_of p) (length (rows_of p)) (place_of q) (length (rows_of q)) (same_numbers _ _ _ _ first) in
    let behind = behind_first (row_lines heads.Row (rows_of p)) (row_lines heads.Rank (ranks_of p)) (row_lines heads.Row (rows_of q)) (row_lines heads.Rank (ranks_of q)) xs ys (same_tail _ _ _ _ e) in
    let rows = rows_told heads.Row (rows_of p) (rows_of q) (row_lines heads.Rank (ranks_of p) ++ xs) (row_lines heads.Rank (ranks_of q) ++ ys) two.1 behind in
    let many = h.many ∙ ap (λ k. cond (is_go k) m 0) mark ∙ sym g.many in
    let ranks = rows_told heads.Rank (ranks_of p) (ranks_of q) xs ys many rows.1 in
    let wide = h.poly ∙ sym g.poly in
    (λ i. record { location = two.0 i; mark = mark i; columns = wide i; rows = rows.0 i; ranks = ranks.0 i }, ranks.1)

-- The lines that begin nodes and pieces, and what their grammars take.
use Rattle.std.proofs.Common.{◌≡◌, ℕ, ◌^◌, ℤ, pos, negsuc, Bool, true, false, List, [], ◌∷◌, Some, None, refl, ap, ◌∙◌}
use Rattle.std.specs.Prelude.{◌==◌, ◌&&◌, ◌||◌, nat_lt}
use Rattle.std.proofs.lemmas.Bool.{eqb-true, lt-ltb, ltb-true}
use Rattle.tv_cases.proofs.ProductLemmas.{or_else}
use Rattle.tv_lines.specs.declared.head.Head.{Head}
use Rattle.tv_lines.specs.declared.head.Head.TheVariants as heads
use Rattle.tv_lines.specs.declared.head.NodeKind.{NodeKind}
use Rattle.tv_lines.specs.declared.head.NodeKind.TheVariants as kinds
use Rattle.tv_lines.specs.declared.head.PieceMark.{PieceMark}
use Rattle.tv_lines.specs.declared.head.PieceMark.TheVariants as marks
use Rattle.tv_cert.specs.declared.node.Mark.{Mark}
use Rattle.tv_cert.specs.declared.node.Mark.TheVariants.{Done, Go}
use Rattle.tv_cert.specs.Pieces.{is_go}
use Rattle.tv_cert_reader.specs.CertificateLines.{mark_named}
use Rattle.tv_cert_reader.specs.Demands.{Outline}
use Rattle.tv_cert_reader.specs.LineGrammar.{guarded, same_kind, NodeHead, node_line, is_going, piece_numbers, piece_line}
use Rattle.tv_cert_reader.specs.Heads.{IsPieceHead, IsNodeHead}
use Rattle.tv_cert_reader.proofs.CompleteParts.{mark_going, marked as either, kind_same, ranked as some_ranks}

two_none : {X : Type 0} (x : X) (a b : Bool) → (a ≡ true → b ≡ true → ⊥) → guarded (a && b) x ≡ None
two_none x true true h = absurd (h refl refl)
two_none x true false h = refl
two_none x false b h = refl

three_none : {X : Type 0} (x : X) (a b c : Bool) → (a ≡ true → b ≡ true → c ≡ true → ⊥) → guarded (a && b && c) x ≡ None
three_none x true true true h = absurd (h refl refl refl)
three_none x true true false h = refl
three_none x true false c h = refl
three_none x false b c h = refl

-- ---- pieces

abbrev mark_back : PieceMark → Mark
mark_back marks.Go = Go
mark_back marks.Done = Done

back_named : (k : PieceMark) → k ≡ mark_named (mark_back k)
back_named marks.Go = refl
back_named marks.Done = refl

back_going : (done : Bool) (k : PieceMark) → (done || is_going k) ≡ true → done ≡ false → is_go (mark_back k) ≡ true
back_going done marks.Go e f = refl
back_going true marks.Done e f = absurd cc
back_going false marks.Done e f = absurd cc

pub piece_none : (locations : ℕ) (done : Bool) (head : Head) (zs : List ℤ) → ((mark : Mark) (l count : ℕ) → IsPieceHead locations done head zs mark l count → ⊥) → piece_line locations done head zs ≡ None
piece_none locations done (heads.Piece k) (pos l ∷ pos r ∷ []) h =
    two_none _ (nat_lt l locations) (done || is_going k) (λ a b. h (mark_back k) l r (record { opening = ap heads.Piece (back_named k); numbers = refl; place = ltb-true l locations a; marked = back_going done k b }))
piece_none locations done (heads.Piece k) (pos l ∷ negsuc r ∷ []) h = refl
piece_none locations done (heads.Piece k) (negsuc l ∷ r ∷ []) h = refl
piece_none locations done (heads.Piece k) [] h = refl
piece_none locations done (heads.Piece k) (a ∷ []) h = refl
piece_none locations done (heads.Piece k) (a ∷ b ∷ c ∷ zs) h = refl
piece_none locations done head zs h = refl

abbrev pub begun : Mark → ℕ → ℕ → Outline
begun mark l count = record { place = l; going = is_go mark; rows = count }

pub piece_some : (locations : ℕ) (done : Bool) (head : Head) (zs : List ℤ) (mark : Mark) (l count : ℕ) → IsPieceHead locations done head zs mark l count → piece_line locations done head zs ≡ Some (begun mark l count)
piece_some locations done head zs mark l count is =
    let place = lt-ltb l locations is.place in
    let goes = either done (is_go mark) is.marked in
    (λ i. piece_line locations done (is.opening i) (is.numbers i))
    ∙ ap (λ going. piece_numbers locations done going l count) (mark_going mark)
    ∙ (λ i. guarded (place i && goes i) (begun mark l count))

-- ---- nodes

same_is : (a b : NodeKind) → same_kind a b ≡ true → b ≡ a
same_is kinds.Atom kinds.Atom e = refl
same_is kinds.And kinds.And e = refl
same_is kinds.Or kinds.Or e = refl
same_is kinds.Next kinds.Next e = refl
same_is kinds.Fix kinds.Fix e = refl
same_is kinds.Term kinds.Term e = refl
same_is kinds.NoTerm kinds.NoTerm e = refl
same_is a b e = absurd cc

no_ranks : (m : ℕ) (ranked : Bool) → ((m == 0) || ranked) ≡ true → ranked ≡ false → m ≡ 0
no_ranks m ranked e f = eqb-true m 0 (or_else (m == 0) ranked e f)

abbrev pub counted : ℕ → ℕ → NodeHead
counted count m = record { pieces = count; ranks = m }

pub node_none : (kind : NodeKind) (ranked : Bool) (head : Head) (zs : List ℤ) → ((count m : ℕ) → IsNodeHead kind ranked head zs count m → ⊥) → node_line kind ranked head zs ≡ None
node_none kind ranked (heads.Node k) (pos p ∷ pos m ∷ []) h =
    three_none _ (same_kind kind k) ((m == 0) || ranked) (nat_lt m (2 ^ 32)) (λ a b c. h p m (record { opening = ap heads.Node (same_is kind k a); numbers = refl; ranks = no_ranks m ranked b; small = ltb-true m (2 ^ 32) c }))
node_none kind ranked (heads.Node k) (pos p ∷ negsuc m ∷ []) h = refl
node_none kind ranked (heads.Node k) (negsuc p ∷ m ∷ []) h = refl
node_none kind ranked (heads.Node k) [] h = refl
node_none kind ranked (heads.Node k) (a ∷ []) h = refl
node_none kind ranked (heads.Node k) (a ∷ b ∷ c ∷ zs) h = refl
node_none kind ranked head zs h = refl

pub node_some : (kind : NodeKind) (ranked : Bool) (head : Head) (zs : List ℤ) (count m : ℕ) → IsNodeHead kind ranked head zs count m → node_line kind ranked head zs ≡ Some (counted count m)
node_some kind ranked head zs count m is =
    let a = kind_same kind in
    let b = some_ranks m ranked is.ranks in
    let c = lt-ltb m (2 ^ 32) is.small in
    (λ i. node_line kind ranked (is.opening i) (is.numbers i)) ∙ (λ i. guarded (a i && b i && c i) (counted count m))

-- The ranks and the pieces of locations as they are built.
use Rattle.std.proofs.Common.{◌≡◌, ℕ, suc, ◌+◌, ◌-◌, List, [], ◌∷◌, ◌++◌, length, map, arith, sym, ap, ◌∙◌, append_assoc}
use Rattle.std.proofs.lemmas.List.{append-nil, map_push}
use Rattle.tv_linear.specs.Linear.{Linear}
use Rattle.tv_cases.specs.Systems.{cases_of}
use Rattle.tv_cert.specs.MarkedRows.{marked}
use Rattle.tv_cert.specs.declared.node.Mark.TheVariants.{Go}
use Rattle.tv_cert.specs.declared.node.Marked.{Marked}
use Rattle.tv_lexrank.specs.Pieces.{zero_ranks}
use Rattle.tv_lexrank.specs.Rounds.{ranks_at}
use Rattle.tv_nested.specs.declared.part.Part.{Part}
use Rattle.tv_nested.specs.declared.ranking.Ranking.{Ranking}
use Rattle.tv_nested.specs.Amounts.{rounds_in, tuple_at, amount_in}
use Rattle.tv_nested.specs.NodePieces.{piece_with, nested_piece, pieces_there, node_pieces}
use Rattle.tv_nested.specs.Parts.{tuple_in, nested_ranks}
use Rattle.tv_nested.specs.Ranks.{component_of, all_ranks, signs_at}
use Rattle.tv_nested.specs.Signs.{terms_there, sign_rows, first_pieces}
use Rattle.tv_nested.proofs.RankingLemmas.{tuple_length}

pub all_ranks_are : (r : Ranking) (l v component : ℕ) (p : Part) (ranks : List Linear) → v ≡ (cases_of r.about.now).variables → component ≡ component_of r l → p.rounds.items ≡ rounds_in r.parts.now component → tuple_in p ≡ tuple_at r.parts.now component → ranks ≡ nested_ranks v component p l ++ zero_ranks v (r.count - 1 - (length p.rounds.items + length p.family.terms.items)) → ranks ≡ all_ranks r l
all_ranks_are r l v component p ranks a b rounds t e =
    e ∙ ap (λ n. nested_ranks v component p l ++ zero_ranks v (r.count - 1 - (length p.rounds.items + n))) (sym (tuple_length p))
    ∙ (λ i. (ranks_at (a i) component (rounds i) l ++ terms_there (a i) (t i) l) ++ zero_ranks (a i) (r.count - 1 - (length (rounds i) + length (t i))))
    ∙ ap (λ n. (ranks_at (cases_of r.about.now).variables n (rounds_in r.parts.now n) l ++ terms_there (cases_of r.about.now).variables (tuple_at r.parts.now n) l) ++ zero_ranks (cases_of r.about.now).variables (r.count - 1 - amount_in r.parts.now n)) b

pub piece_made : (r : Ranking) (l v q : ℕ) (signs ranks : List Linear) (p : Marked) → v ≡ (cases_of r.about.now).variables → signs ≡ signs_at r l → ranks ≡ all_ranks r l → p ≡ marked l v Go (sign_rows signs q) ranks → p ≡ nested_piece r l q
piece_made r l v q signs ranks p a b d e = e ∙ (λ i. marked l (a i) Go (sign_rows (b i) q) (d i))

pub none_pushed : (start : List Marked) → start ≡ start ++ []
none_pushed start = sym (append-nil start)

pub pieces_pushed : (r : Ranking) (l q : ℕ) (start mid new : List Marked) (p : Marked) → mid ≡ start ++ map (piece_with r l) (first_pieces (signs_at r l) q) → p ≡ nested_piece r l q → new ≡ mid ++ p ∷ [] → new ≡ start ++ map (piece_with r l) (first_pieces (signs_at r l) (q + 1))
pieces_pushed r l q start mid new p h e m =
    m ∙ (λ i. h i ++ e i ∷ [])
    ∙ append_assoc start (map (piece_with r l) (first_pieces (signs_at r l) q)) (nested_piece r l q ∷ [])
    ∙ ap (λ z. start ++ z) (sym (map_push (piece_with r l) (first_pieces (signs_at r l) q) (sign_rows (signs_at r l) q)))
    ∙ ap (λ n. start ++ map (piece_with r l) (first_pieces (signs_at r l) n)) (let f : suc q ≡ q + 1 = omega arith in f)

pub pieces_ended : (r : Ranking) (l q : ℕ) (start mid : List Marked) → q ≡ length (signs_at r l) + 1 → mid ≡ start ++ map (piece_with r l) (first_pieces (signs_at r l) q) → mid ≡ start ++ pieces_there r l
pieces_ended r l q start mid e h = h ∙ ap (λ n. start ++ map (piece_with r l) (first_pieces (signs_at r l) n)) (let f : q ≡ suc (length (signs_at r l)) = omega (arith, e) in f)

pub node_more : (r : Ranking) (l : ℕ) (mid new : List Marked) → mid ≡ node_pieces r l → new ≡ mid ++ pieces_there r l → new ≡ node_pieces r (l + 1)
node_more r l mid new h m = m ∙ ap (λ z. z ++ pieces_there r l) h ∙ ap (node_pieces r) (let e : suc l ≡ l + 1 = omega arith in e)

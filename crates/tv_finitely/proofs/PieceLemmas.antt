-- The pieces of visits by the rounds of all components.
use Rattle.std.proofs.Common.{◌⊎◌, inl, inr, All, ◌≡◌, ℕ, zero, suc, ◌-◌, ◌<◌, ◌≤◌, List, [], ◌∷◌, ◌++◌, length, length-append, get_or, Some, true, false, ◌==◌, if◌then◌else◌, arith, refl, sym, ap, ◌∙◌, subst, pos}
use Rattle.std.specs.Prelude.{slice_get}
use Rattle.std.proofs.lemmas.List.{length-map}
use Rattle.std.proofs.lemmas.List.Elements.{All-nil, All-cons, All-push, All-append, filter-append}
use Rattle.std.proofs.lemmas.Bool.{eq-eqb, ne_eqb}
use Rattle.tv_linear.specs.Linear.{Linear, columns}
use Rattle.tv_linear.specs.Arithmetic.{constant_row}
use Rattle.tv_linear.proofs.PlainLists.{length-zeros}
use Rattle.tv_linear.proofs.ListLaws.{same_or_below}
use Rattle.tv_cert.specs.declared.node.Marked.{Marked}
use Rattle.tv_cert.specs.Pieces.{place_of, pieces_at}
use Rattle.tv_cert.specs.Shapes.{PieceShape}
use Rattle.tv_lexrank.specs.declared.round.Round.{Round}
use Rattle.tv_lexrank.specs.Pieces.{zero_ranks, padded_ranks}
use Rattle.tv_lexrank.specs.Rounds.{terms_at, ranks_at}
use Rattle.tv_lexrank.proofs.MetLemmas.{over_at}
use Rattle.tv_finitely.specs.declared.ranking.Ranking.{Ranking}
use Rattle.tv_finitely.specs.Parts.{rounds_in}
use Rattle.tv_finitely.specs.Ranked.{split_in, system_of, AreRanked, all_ranks, ranked_piece, ranked_pieces, all_pieces}
use Rattle.tv_finitely.proofs.PartLemmas.{rounds_part}
use Rattle.tv_finitely.proofs.Taken.{taken_by, taken_wide}

pub all_ranks_are : (r : Ranking) (l v component : ℕ) (rounds : List Round) (ranks : List Linear) → v ≡ (system_of r).variables → component ≡ get_or r.numbers.now l 0 → rounds ≡ rounds_in r.parts.now component → ranks ≡ padded_ranks v component rounds l r.count → ranks ≡ all_ranks r l
all_ranks_are r l v component rounds ranks a b d e =
    e ∙ ap (λ z. padded_ranks z component rounds l r.count) a
    ∙ ap (λ rs. padded_ranks (system_of r).variables component rs l r.count) d
    ∙ ap (λ n. padded_ranks (system_of r).variables n (rounds_in r.parts.now n) l r.count) b

module _ (r : Ranking) where
  abbrev v : ℕ
  v = (system_of r).variables

  keep_if : (b : _) (p : Marked) → b ≡ true → (if b then p ∷ [] else []) ≡ p ∷ []
  keep_if true p e = refl
  keep_if false p e = absurd cc

  drop_if : (b : _) (p : Marked) → b ≡ false → (if b then p ∷ [] else []) ≡ []
  drop_if true p e = absurd cc
  drop_if false p e = refl

  one_at : (l m : ℕ) → l ≡ m → pieces_at (ranked_piece r l ∷ []) m ≡ ranked_piece r l ∷ []
  one_at l m e = by_test (l == m) (eq-eqb l m e)
    where
      by_test : (b : _) → b ≡ true → (if b then ranked_piece r l ∷ [] else []) ≡ ranked_piece r l ∷ []
      by_test b e = keep_if b (ranked_piece r l) e

  none_at : (l m : ℕ) → (l ≡ m → ⊥) → pieces_at (ranked_piece r l ∷ []) m ≡ []
  none_at l m n = by_test (l == m) (ne_eqb l m n)
    where
      by_test : (b : _) → b ≡ false → (if b then ranked_piece r l ∷ [] else []) ≡ []
      by_test b e = drop_if b (ranked_piece r l) e

  none_past : (n l : ℕ) → n ≤ l → pieces_at (ranked_pieces r n) l ≡ []
  none_past zero l h = refl
  none_past (suc n) l h = filter-append (λ p. place_of p == l) (ranked_pieces r n) (ranked_piece r n ∷ []) ∙ (λ i. none_past n l (omega (arith, h)) i ++ none_at n l (λ e. omega (arith, h, e)) i)

  one_there : (n l : ℕ) → l < n → pieces_at (ranked_pieces r n) l ≡ ranked_piece r l ∷ []
  one_there zero l h = absurd (omega (arith, h))
  one_there (suc n) l h = filter-append (λ p. place_of p == l) (ranked_pieces r n) (ranked_piece r n ∷ []) ∙ by_place (same_or_below n l h) (λ b. one_there n l b)
    where
      by_place : (l ≡ n) ⊎ (l < n) → (l < n → pieces_at (ranked_pieces r n) l ≡ ranked_piece r l ∷ []) → pieces_at (ranked_pieces r n) l ++ pieces_at (ranked_piece r n ∷ []) l ≡ ranked_piece r l ∷ []
      by_place (inl e) rest = (λ i. none_past n l (omega (arith, e)) i ++ one_at n l (sym e) i) ∙ ap (λ z. ranked_piece r z ∷ []) (sym e)
      by_place (inr b) rest = (λ i. rest b i ++ none_at n l (λ e. omega (arith, b, e)) i)

  -- the first piece at a location
  pub first_piece : (l : ℕ) → l < (system_of r).locations → slice_get (pieces_at (all_pieces r) l) 0 ≡ Some (ranked_piece r l)
  first_piece l h = ap (λ ps. slice_get ps 0) (one_there (system_of r).locations l h)

  -- ---- the ranks of a location
  zeros_wide : (n : ℕ) → All (λ q. columns q ≡ v) (zero_ranks v n)
  zeros_wide zero = All-nil (λ q. columns q ≡ v)
  zeros_wide (suc n) = All-push (λ q. columns q ≡ v) (zero_ranks v n) (constant_row v (pos 0)) (zeros_wide n) (length-zeros v)

  length-zero_ranks : (n : ℕ) → length (zero_ranks v n) ≡ n
  length-zero_ranks zero = refl
  length-zero_ranks (suc n) = length-append (zero_ranks v n) (constant_row v (pos 0) ∷ []) ∙ (let h = length-zero_ranks n in omega (arith, h))

  ranks_wide : AreRanked r → (l : ℕ) → l < (system_of r).locations → All (λ q. columns q ≡ v) (all_ranks r l)
  ranks_wide ranked l h =
      let c = get_or r.numbers.now l 0 in
      let m = r.located in
      let known = r.known.now.pieces.items in
      let s = rounds_part (split_in r) known r.numbers.now 0 c r.parts.now ranked (r.below l (omega (arith, h, m))) in
      let e = s.1.enough in
      let terms = subst (λ rs. All (λ q. columns q ≡ v) (terms_at v rs l)) s.2 (taken_wide (system_of r) known e.left s.0.sorted.set.items s.0.rounds.items (taken_by (system_of r) known s.0.sorted.set.items s.0.rounds.items e.left e.lead) l) in
      All-append (λ q. columns q ≡ v) (ranks_at v c (rounds_in r.parts.now c) l) (zero_ranks v (r.count - 1 - length (rounds_in r.parts.now c)))
      (All-cons (λ q. columns q ≡ v) (constant_row v (pos c)) (terms_at v (rounds_in r.parts.now c) l) (length-zeros v) terms)
      (zeros_wide (r.count - 1 - length (rounds_in r.parts.now c)))

  ranks_many : (l : ℕ) → length (all_ranks r l) ≡ r.count
  ranks_many l =
      let c = get_or r.numbers.now l 0 in
      let e = r.enough c in
      let a = length-append (ranks_at v c (rounds_in r.parts.now c) l) (zero_ranks v (r.count - 1 - length (rounds_in r.parts.now c))) in
      let b = length-zero_ranks (r.count - 1 - length (rounds_in r.parts.now c)) in
      let d = ranks_length (rounds_in r.parts.now c) l in
      omega (arith, e, a, b, d)
    where
      ranks_length : (rs : List Round) (l : ℕ) → length (terms_at v rs l) ≡ length rs
      ranks_length rs l = length-map rs _

  pub pieces_shaped : AreRanked r → (n : ℕ) → n ≤ (system_of r).locations → All (PieceShape (system_of r) r.count false) (ranked_pieces r n)
  pieces_shaped ranked zero h = All-nil (PieceShape (system_of r) r.count false)
  pieces_shaped ranked (suc n) h = All-push (PieceShape (system_of r) r.count false) (ranked_pieces r n) (ranked_piece r n) (pieces_shaped ranked n (omega (arith, h))) (record {
    place = omega (arith, h);
    poly = refl;
    rows = over_at v r.known.now.pieces.items n r.known_rows.over;
    ranks = ranks_wide ranked n (omega (arith, h));
    many = ranks_many n;
    marks = λ e. refl;
  })

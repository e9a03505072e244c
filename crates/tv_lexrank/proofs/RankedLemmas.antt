-- The node of a ranking fits and is met.
use Rattle.std.proofs.Common.{◌⊎◌, inl, inr, All, ◌≡◌, ℕ, zero, suc, ◌-◌, ◌^◌, ◌<◌, ◌≤◌, List, [], ◌∷◌, ◌++◌, length, length-append, map, get_or, Some, true, false, ◌==◌, if◌then◌else◌, arith, refl, sym, ap, ◌∙◌, subst, pos}
use Rattle.std.specs.Prelude.{slice_get}
use Rattle.std.specs.List.{AllZip, flat_map}
use Rattle.std.proofs.lemmas.List.{length-map, append-nil}
use Rattle.std.proofs.lemmas.List.Elements.{All-nil, All-cons, All-push, All-append, filter-append}
use Rattle.std.proofs.lemmas.Grind.{flat_map-append}
use Rattle.std.proofs.lemmas.Bool.{eq-eqb, ne_eqb}
use Rattle.tv_linear.specs.Linear.{columns}
use Rattle.tv_linear.specs.Arithmetic.{constant_row}
use Rattle.tv_linear.proofs.PlainLists.{length-zeros}
use Rattle.tv_linear.proofs.ListLaws.{same_or_below, zip_both}
use Rattle.tv_cases.specs.LinearCases.{LinearCase, leaving}
use Rattle.tv_cases.specs.Systems.{cases_of}
use Rattle.tv_formula.specs.Properties.{term}
use Rattle.tv_cert.specs.declared.node.Marked.{Marked}
use Rattle.tv_cert.specs.declared.node.Proof.{Proof}
use Rattle.tv_cert.specs.declared.node.Node.{Node, Node', outs-Node'}
use Rattle.tv_cert.specs.Claims.{about_with}
use Rattle.tv_cert.specs.Nodes.{pieces_of, own_of, piece_of}
use Rattle.tv_cert.specs.Obligations.{About, Obligation}
use Rattle.tv_cert.specs.Pieces.{place_of, pieces_at}
use Rattle.tv_cert.specs.Shapes.{PieceShape}
use Rattle.tv_cert.proofs.NodeLemmas.{pieces_are}
use Rattle.tv_shape.specs.Made.{HasOwn, IsOffered, IsFitted}
use Rattle.tv_shape.proofs.MadeLemmas.{node_fitted}
use Rattle.tv_lexrank.specs.declared.round.Round.{Round}
use Rattle.tv_lexrank.specs.declared.ranking.Ranking.{Ranking}
use Rattle.tv_lexrank.specs.Rounds.{terms_at}
use Rattle.tv_lexrank.specs.Attempt.{rounds_in}
use Rattle.tv_lexrank.specs.declared.shown.CaseShown.{CaseShown}
use Rattle.tv_lexrank.specs.Shown.{AreShown}
use Rattle.tv_lexrank.specs.Steps.{AreRanked, ranks_of, ShowsEach}
use Rattle.tv_lexrank.specs.Pieces.{zero_ranks, all_ranks, ranked_piece, ranked_pieces}
use Rattle.tv_lexrank.specs.Offered.{IsOfferedAt, ArePieces, step_owed, AreShownBelow}
use Rattle.tv_lexrank.specs.Nodes.{ShowsEnd}
use Rattle.tv_lexrank.proofs.MetLemmas.{over_at}
use Rattle.tv_lexrank.proofs.ShowLemmas.{rounds_chain, chain_wide}
use Rattle.tv_lexrank.proofs.PartShown.{each_in}

-- ---- the pieces
module _ (r : Ranking) where
  abbrev v : ℕ
  v = (cases_of r.about.now).variables

  keep_if : (b : _) (p : Marked) → b ≡ true → (if b then p ∷ [] else []) ≡ p ∷ []
  keep_if true p e = refl
  keep_if false p e = absurd cc

  drop_if : (b : _) (p : Marked) → b ≡ false → (if b then p ∷ [] else []) ≡ []
  drop_if true p e = absurd cc
  drop_if false p e = refl

  one_at : (l m : ℕ) → l ≡ m → pieces_at (ranked_piece r l ∷ []) m ≡ ranked_piece r l ∷ []
  one_at l m e = by_test (l == m) (eq-eqb l m e)
    where
      by_test : (b : _) → b ≡ true → (if b then ranked_piece r l ∷ [] else []) ≡ ranked_piece r l ∷ []
      by_test b e = keep_if b (ranked_piece r l) e

  none_at : (l m : ℕ) → (l ≡ m → ⊥) → pieces_at (ranked_piece r l ∷ []) m ≡ []
  none_at l m n = by_test (l == m) (ne_eqb l m n)
    where
      by_test : (b : _) → b ≡ false → (if b then ranked_piece r l ∷ [] else []) ≡ []
      by_test b e = drop_if b (ranked_piece r l) e

  none_past : (n l : ℕ) → n ≤ l → pieces_at (ranked_pieces r n) l ≡ []
  none_past zero l h = refl
  none_past (suc n) l h = filter-append (λ p. place_of p == l) (ranked_pieces r n) (ranked_piece r n ∷ []) ∙ (λ i. none_past n l (omega (arith, h)) i ++ none_at n l (λ e. omega (arith, h, e)) i)

  one_there : (n l : ℕ) → l < n → pieces_at (ranked_pieces r n) l ≡ ranked_piece r l ∷ []
  one_there zero l h = absurd (omega (arith, h))
  one_there (suc n) l h = filter-append (λ p. place_of p == l) (ranked_pieces r n) (ranked_piece r n ∷ []) ∙ by_place (same_or_below n l h) (λ b. one_there n l b)
    where
      by_place : (l ≡ n) ⊎ (l < n) → (l < n → pieces_at (ranked_pieces r n) l ≡ ranked_piece r l ∷ []) → pieces_at (ranked_pieces r n) l ++ pieces_at (ranked_piece r n ∷ []) l ≡ ranked_piece r l ∷ []
      by_place (inl e) rest = (λ i. none_past n l (omega (arith, e)) i ++ one_at n l (sym e) i) ∙ ap (λ z. ranked_piece r z ∷ []) (sym e)
      by_place (inr b) rest = (λ i. rest b i ++ none_at n l (λ e. omega (arith, b, e)) i)

  pub pieces_there : ArePieces r (ranked_pieces r (cases_of r.about.now).locations)
  pieces_there l h = ap (λ ps. slice_get ps 0) (one_there (cases_of r.about.now).locations l h)

  -- ---- the ranks of a location
  zeros_wide : (n : ℕ) → All (λ q. columns q ≡ v) (zero_ranks v n)
  zeros_wide zero = All-nil (λ q. columns q ≡ v)
  zeros_wide (suc n) = All-push (λ q. columns q ≡ v) (zero_ranks v n) (constant_row v (pos 0)) (zeros_wide n) (length-zeros v)

  length-zeros_ranks : (n : ℕ) → length (zero_ranks v n) ≡ n
  length-zeros_ranks zero = refl
  length-zeros_ranks (suc n) = length-append (zero_ranks v n) (constant_row v (pos 0) ∷ []) ∙ (let h = length-zeros_ranks n in omega (arith, h))

  pub ranks_wide : AreRanked r → (l : ℕ) → l < (cases_of r.about.now).locations → All (λ q. columns q ≡ v) (all_ranks r l)
  ranks_wide ranked l h =
      let c = get_or r.numbers.now l 0 in
      let m = r.located in
      let s = rounds_chain (cases_of r.about.now) r.known.now.pieces.items r.numbers.now 0 c r.parts.now ranked (r.below l (omega (arith, h, m))) in
      let terms = subst (λ rs. All (λ q. columns q ≡ v) (terms_at v rs l)) s.2 (chain_wide (cases_of r.about.now) r.known.now.pieces.items s.0.sorted.set.items s.0.rounds.items s.1.chain l) in
      All-append (λ q. columns q ≡ v) (ranks_of r l) (zero_ranks v (r.count - 1 - length (rounds_in r.parts.now c)))
      (All-cons (λ q. columns q ≡ v) (constant_row v (pos c)) (terms_at v (rounds_in r.parts.now c) l) (length-zeros v) terms)
      (zeros_wide (r.count - 1 - length (rounds_in r.parts.now c)))

  ranks_many : (l : ℕ) → length (all_ranks r l) ≡ r.count
  ranks_many l =
      let c = get_or r.numbers.now l 0 in
      let e = r.enough c in
      let a = length-append (ranks_of r l) (zero_ranks v (r.count - 1 - length (rounds_in r.parts.now c))) in
      let b = length-zeros_ranks (r.count - 1 - length (rounds_in r.parts.now c)) in
      let d = ranks_length (rounds_in r.parts.now c) l in
      omega (arith, e, a, b, d)
    where
      ranks_length : (rs : List Round) (l : ℕ) → length (terms_at v rs l) ≡ length rs
      ranks_length rs l = length-map rs _

  pieces_shaped : AreRanked r → (n : ℕ) → n ≤ (cases_of r.about.now).locations → All (PieceShape (cases_of r.about.now) r.count false) (ranked_pieces r n)
  pieces_shaped ranked zero h = All-nil (PieceShape (cases_of r.about.now) r.count false)
  pieces_shaped ranked (suc n) h = All-push (PieceShape (cases_of r.about.now) r.count false) (ranked_pieces r n) (ranked_piece r n) (pieces_shaped ranked n (omega (arith, h))) (record {
    place = omega (arith, h);
    poly = refl;
    rows = over_at v r.known.now.pieces.items n r.known_rows.over;
    ranks = ranks_wide ranked n (omega (arith, h));
    many = ranks_many n;
    marks = λ e. refl;
  })

  -- ---- the proofs

  module _ (ps : List Marked) (pieces : ArePieces r ps) where
    steps_offered : (number l : ℕ) (cases : List LinearCase) (proofs : List Proof) → AllZip (IsOfferedAt r l) cases proofs → AllZip IsOffered (map (step_owed r number ps l) cases) proofs
    steps_offered number l [] [] h = tt
    steps_offered number l [] (p ∷ proofs) h = absurd h
    steps_offered number l (c ∷ cases) [] h = absurd h
    steps_offered number l (c ∷ cases) (p ∷ proofs) h = (h.0 number ps pieces, steps_offered number l cases proofs h.1)

    abbrev owes : ℕ → Marked → List Obligation
    owes number = piece_of number (about_with (cases_of r.about.now)) term ps []

    pub all_offered : (number n : ℕ) (proofs : List Proof) → AreShownBelow r n proofs → AllZip IsOffered (flat_map (owes number) (ranked_pieces r n)) proofs
    all_offered number zero proofs h = subst (λ z. AllZip IsOffered [] z) (sym h) tt
    all_offered number (suc n) proofs (front, below, steps) =
        subst (λ z. AllZip IsOffered (flat_map (owes number) (ranked_pieces r (suc n))) z) (sym steps.parts)
        (subst (λ z. AllZip IsOffered z (front ++ steps.more)) (sym (flat_map-append (owes number) (ranked_pieces r n) (ranked_piece r n ∷ []) ∙ ap (λ z. flat_map (owes number) (ranked_pieces r n) ++ z) (append-nil (owes number (ranked_piece r n)))))
        (zip_both IsOffered (flat_map (owes number) (ranked_pieces r n)) (owes number (ranked_piece r n)) front steps.more (all_offered number n front below)
        (steps_offered number n (leaving n (cases_of r.about.now).cases) steps.more steps.each)))

length-ranked_pieces : (r : Ranking) (n : ℕ) → length (ranked_pieces r n) ≡ n
length-ranked_pieces r zero = refl
length-ranked_pieces r (suc n) = length-append (ranked_pieces r n) (ranked_piece r n ∷ []) ∙ (let h = length-ranked_pieces r n in omega (arith, h))

-- ---- the node
abbrev asked : Ranking → About
asked r = about_with (cases_of r.about.now)

abbrev all_pieces : Ranking → List Marked
all_pieces r = ranked_pieces r (cases_of r.about.now).locations

abbrev all_owed : Ranking → ℕ → List Obligation
all_owed r number = own_of number (asked r) term (all_pieces r) []

pub node_ranked : (r : Ranking) → AreRanked r → (node : Node) (pieces : List Marked) (proofs : List Proof) → pieces ≡ all_pieces r → HasOwn node pieces r.count [] proofs → AreShownBelow r (cases_of r.about.now).locations proofs → (cases_of r.about.now).locations < 2 ^ 32 → ShowsEnd (cases_of r.about.now) r.known.now.pieces.items node
node_ranked r ranked node pieces proofs same own shown located = record {
  fits = record { shape = fitted.shape; narrow = fitted.narrow; depth = fitted.within };
  met = fitted.met;
  pieces = λ l h. record {
    piece = ranked_piece r l;
    first = subst (λ z. slice_get (pieces_at z l) 0 ≡ Some (ranked_piece r l)) (sym pieces_same) (pieces_there r l h);
    has = refl;
  };
  single = λ l h. subst (λ z. length (pieces_at z l) ≡ 1) (sym pieces_same) (ap length (one_there r (cases_of r.about.now).locations l h));
}
  where
    given : HasOwn node (all_pieces r) r.count [] proofs
    given = subst (λ z. HasOwn node z r.count [] proofs) same own

    pieces_same : pieces_of node ≡ all_pieces r
    pieces_same = pieces_are node ∙ given.pieces_are

    fitted : IsFitted (asked r) term 1 node
    fitted = node_fitted (asked r) term 1 node (all_pieces r) r.count [] proofs given (record {
      said = tt;
      ranked = λ e. absurd cc;
      small = (let f = r.bounded in omega (arith, f));
      bounded = (let n = length-ranked_pieces r (cases_of r.about.now).locations in omega (arith, n, located));
      each = pieces_shaped r ranked (cases_of r.about.now).locations (omega arith);
      offered = λ number. all_offered r (all_pieces r) (pieces_there r) number (cases_of r.about.now).locations proofs shown;
      below = tt;
      shallow = omega arith;
    })

-- what shows each case by the ranking shows it by the pieces of the node
pub node_shown : (r : Ranking) (node : Node) (pieces : List Marked) (proofs : List Proof) (shown : List CaseShown) → pieces ≡ ranked_pieces r (cases_of r.about.now).locations → HasOwn node pieces r.count [] proofs → ShowsEach r shown → AreShown (cases_of r.about.now) r.known.now.pieces.items (pieces_of node) shown
node_shown r (Node' ps m shape kids list) pieces proofs shown same own h =
    subst (λ z. AreShown (cases_of r.about.now) r.known.now.pieces.items z shown) (sym (sym (ap (λ x. x.pieces) (outs-Node' ps m shape kids list)) ∙ own.pieces_are ∙ same))
    (each_in r (all_pieces r) (pieces_there r) (cases_of r.about.now).cases shown r.about.now.are_cases.cases h)

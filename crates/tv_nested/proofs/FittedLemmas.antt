-- The node of nested terms fits and is met, and it covers every location.
use Rattle.std.proofs.Common.{◌⊎◌, inl, inr, All, ◌≡◌, ℕ, zero, suc, ◌*◌, ◌<◌, ◌≤◌, List, [], ◌∷◌, ◌++◌, length, length-append, map, Option, None, Some, Bool, true, false, cond, ◌==◌, if◌then◌else◌, arith, refl, sym, ap, ◌∙◌, subst, ℤ, pos, negsuc, ◌≤ℤ◌}
use Rattle.std.specs.Prelude.{slice_get, Contains}
use Rattle.std.specs.List.{filter}
use Rattle.std.specs.Option.{option_map}
use Rattle.std.proofs.lemmas.Int.{ints}
use Rattle.std.proofs.lemmas.List.{length-map, append-nil, map_push}
use Rattle.std.proofs.lemmas.List.Elements.{All-nil, All-cons, All-push, All-append, All-head, All-tail, filter-append}
use Rattle.std.proofs.lemmas.Bool.{eq-eqb, ne_eqb}
use Rattle.std.proofs.lemmas.Option.{slice_get-map}
use Rattle.tv_linear.specs.Linear.{Linear, columns, value, IsMet}
use Rattle.tv_linear.specs.Arithmetic.{denial}
use Rattle.tv_linear.specs.Known.{Known, given}
use Rattle.tv_linear.specs.declared.cover.CoverTree.{CoverTree}
use Rattle.tv_linear.proofs.ListLaws.{same_or_below, contains_at}
use Rattle.tv_linear.proofs.RowValues.{denial-met}
use Rattle.tv_cases.specs.Systems.{cases_of}
use Rattle.tv_formula.specs.Properties.{term}
use Rattle.tv_cert.specs.declared.node.Marked.{Marked}
use Rattle.tv_cert.specs.declared.node.Proof.{Proof}
use Rattle.tv_cert.specs.declared.node.Node.{Node}
use Rattle.tv_cert.specs.Claims.{about_with}
use Rattle.tv_cert.specs.Nodes.{pieces_of}
use Rattle.tv_cert.specs.Obligations.{About}
use Rattle.tv_cert.specs.Pieces.{place_of, pieces_at}
use Rattle.tv_cert.specs.Shapes.{PieceShape}
use Rattle.tv_cert.specs.Targets.{owed_into, target_rows, changed_lists, no_fall}
use Rattle.tv_cert.proofs.NodeLemmas.{pieces_are}
use Rattle.tv_shape.specs.Made.{HasOwn, IsFitted}
use Rattle.tv_shape.proofs.MadeLemmas.{node_fitted}
use Rattle.tv_lexrank.proofs.NodeLemmas.{met_weaker}
use Rattle.tv_nested.specs.declared.ranking.Ranking.{Ranking}
use Rattle.tv_nested.specs.Nested.{CoversAll, IsNestedNode}
use Rattle.tv_nested.specs.NodePieces.{piece_with, nested_piece, pieces_there, node_pieces, ArePieces}
use Rattle.tv_nested.specs.NodeProofs.{Offer}
use Rattle.tv_nested.specs.NodesShown.{IsRankedNode}
use Rattle.tv_nested.specs.Ranks.{AreRanked, signs_at}
use Rattle.tv_nested.specs.Signs.{sign_rows, first_pieces, sign_pieces}
use Rattle.tv_nested.specs.Steps.{IsSignStart}
use Rattle.tv_nested.proofs.ChangedLemmas.{first_length, piece_there}
use Rattle.tv_nested.proofs.RankingLemmas.{signs_wide, signs_few, ranks_wide, ranks_many}

-- ---- the rows of a piece
denials_wide : (v : ℕ) (r : Linear) → columns r ≡ v → columns (denial r) ≡ v
denials_wide v r h = length-map r.coefficients _ ∙ h

rows_wide : (v : ℕ) (signs : List Linear) (q : ℕ) → All (λ r. columns r ≡ v) signs → All (λ r. columns r ≡ v) (sign_rows signs q)
rows_wide v [] q h = All-nil (λ r. columns r ≡ v)
rows_wide v (r ∷ signs) zero h = All-cons (λ r. columns r ≡ v) r [] (All-head (λ r. columns r ≡ v) r signs h) (All-nil (λ r. columns r ≡ v))
rows_wide v (r ∷ signs) (suc q) h = All-cons (λ r. columns r ≡ v) (denial r) (sign_rows signs q) (denials_wide v r (All-head (λ r. columns r ≡ v) r signs h)) (rows_wide v signs q (All-tail (λ r. columns r ≡ v) r signs h))

among_later : {A : Type 0} (a x : A) (xs : List A) → Contains xs x → Contains (a ∷ xs) x
among_later a x xs (k, l, e) = (suc k, omega (arith, l), e)

among_if : {A : Type 0} (b : Bool) (a x : A) (xs ys : List A) → (Contains ys x → Contains xs x) → Contains (cond b (a ∷ ys) ys) x → Contains (a ∷ xs) x
among_if true a x xs ys h (zero, l, e) = (zero, omega arith, e)
among_if true a x xs ys h (suc k, l, e) = among_later a x xs (h (k, omega (arith, l), e))
among_if false a x xs ys h c = among_later a x xs (h c)

-- what a test keeps stands in the list
among_kept : {A : Type 0} (p : A → Bool) (xs : List A) (x : A) → Contains (filter p xs) x → Contains xs x
among_kept p [] x h = h
among_kept p (a ∷ xs) x h = among_if (p a) a x xs (filter p xs) (among_kept p xs x) h

-- some piece has the values
met_or_not : (z : ℤ) → (z ≤ℤ pos 0) ⊎ (z ≤ℤ pos 0 → ⊥)
met_or_not (pos zero) = inl (omega (arith, ints))
met_or_not (pos (suc n)) = inr (λ h. omega (arith, ints, h))
met_or_not (negsuc n) = inl (omega (arith, ints))

pub some_piece : (xs : List ℤ) (signs : List Linear) → (q : ℕ) × (q ≤ length signs) × All (IsMet xs) (sign_rows signs q)
some_piece xs [] = (0, omega arith, All-nil (IsMet xs))
some_piece xs (r ∷ signs) = by_sign (met_or_not (value r xs)) (some_piece xs signs)
  where
    by_sign : (value r xs ≤ℤ pos 0) ⊎ (value r xs ≤ℤ pos 0 → ⊥) → (q : ℕ) × (q ≤ length signs) × All (IsMet xs) (sign_rows signs q) → (q : ℕ) × (q ≤ suc (length signs)) × All (IsMet xs) (sign_rows (r ∷ signs) q)
    by_sign (inl m) rest = (0, omega arith, All-cons (IsMet xs) r [] m (All-nil (IsMet xs)))
    by_sign (inr n) (q, l, met) = (suc q, omega (arith, l), All-cons (IsMet xs) (denial r) (sign_rows signs q) ((denial-met r xs).1 n) met)

-- ---- the pieces of the node
module _ (r : Ranking) where
  abbrev v : ℕ
  v = (cases_of r.about.now).variables

  keep_if : (b : Bool) (p : Marked) (rest : List Marked) → b ≡ true → (if b then p ∷ rest else rest) ≡ p ∷ rest
  keep_if true p rest e = refl
  keep_if false p rest e = absurd cc

  drop_if : (b : Bool) (p : Marked) (rest : List Marked) → b ≡ false → (if b then p ∷ rest else rest) ≡ rest
  drop_if true p rest e = absurd cc
  drop_if false p rest e = refl

  all_at : (l m : ℕ) (lists : List (List Linear)) → l ≡ m → pieces_at (map (piece_with r l) lists) m ≡ map (piece_with r l) lists
  all_at l m [] e = refl
  all_at l m (rows ∷ lists) e =
      keep_if (l == m) (piece_with r l rows) (pieces_at (map (piece_with r l) lists) m) (eq-eqb l m e)
      ∙ ap (λ z. piece_with r l rows ∷ z) (all_at l m lists e)

  none_at : (l m : ℕ) (lists : List (List Linear)) → (l ≡ m → ⊥) → pieces_at (map (piece_with r l) lists) m ≡ []
  none_at l m [] n = refl
  none_at l m (rows ∷ lists) n =
      drop_if (l == m) (piece_with r l rows) (pieces_at (map (piece_with r l) lists) m) (ne_eqb l m n) ∙ none_at l m lists n

  none_past : (n l : ℕ) → n ≤ l → pieces_at (node_pieces r n) l ≡ []
  none_past zero l h = refl
  none_past (suc n) l h = filter-append (λ p. place_of p == l) (node_pieces r n) (pieces_there r n) ∙ (λ i. none_past n l (omega (arith, h)) i ++ none_at n l (sign_pieces (signs_at r n)) (λ e. omega (arith, h, e)) i)

  all_there : (n l : ℕ) → l < n → pieces_at (node_pieces r n) l ≡ pieces_there r l
  all_there zero l h = absurd (omega (arith, h))
  all_there (suc n) l h = filter-append (λ p. place_of p == l) (node_pieces r n) (pieces_there r n) ∙ by_place (same_or_below n l h) (λ b. all_there n l b)
    where
      by_place : (l ≡ n) ⊎ (l < n) → (l < n → pieces_at (node_pieces r n) l ≡ pieces_there r l) → pieces_at (node_pieces r n) l ++ pieces_at (pieces_there r n) l ≡ pieces_there r l
      by_place (inl e) rest = (λ i. none_past n l (omega (arith, e)) i ++ all_at n l (sign_pieces (signs_at r n)) (sym e) i) ∙ ap (pieces_there r) (sym e)
      by_place (inr b) rest = (λ i. rest b i ++ none_at n l (sign_pieces (signs_at r n)) (λ e. omega (arith, b, e)) i) ∙ append-nil (pieces_there r l)

  pub are_pieces : ArePieces r (node_pieces r (cases_of r.about.now).locations)
  are_pieces l h = all_there (cases_of r.about.now).locations l h

  -- ---- their shape
  there_shaped : AreRanked r → (l : ℕ) → l < (cases_of r.about.now).locations → (n : ℕ) → All (PieceShape (cases_of r.about.now) r.count false) (map (piece_with r l) (first_pieces (signs_at r l) n))
  there_shaped ranked l h zero = All-nil (PieceShape (cases_of r.about.now) r.count false)
  there_shaped ranked l h (suc n) =
      subst (All (PieceShape (cases_of r.about.now) r.count false)) (sym (map_push (piece_with r l) (first_pieces (signs_at r l) n) (sign_rows (signs_at r l) n)))
      (All-push (PieceShape (cases_of r.about.now) r.count false) (map (piece_with r l) (first_pieces (signs_at r l) n)) (nested_piece r l n) (there_shaped ranked l h n) (record {
        place = h;
        poly = refl;
        rows = rows_wide v (signs_at r l) n (signs_wide r ranked l h);
        ranks = ranks_wide r ranked l h;
        many = ranks_many r l;
        marks = λ e. refl;
      }))

  pieces_shaped : AreRanked r → (n : ℕ) → n ≤ (cases_of r.about.now).locations → All (PieceShape (cases_of r.about.now) r.count false) (node_pieces r n)
  pieces_shaped ranked zero h = All-nil (PieceShape (cases_of r.about.now) r.count false)
  pieces_shaped ranked (suc n) h =
      All-append (PieceShape (cases_of r.about.now) r.count false) (node_pieces r n) (pieces_there r n) (pieces_shaped ranked n (omega (arith, h)))
      (there_shaped ranked n (omega (arith, h)) (suc (length (signs_at r n))))

  there_many : AreRanked r → (l : ℕ) → l < (cases_of r.about.now).locations → length (pieces_there r l) ≤ 5
  there_many ranked l h =
      let a = length-map (sign_pieces (signs_at r l)) (piece_with r l) in
      let b = first_length (signs_at r l) (suc (length (signs_at r l))) in
      let d = signs_few r ranked l h in
      omega (arith, a, b, d)

  pieces_many : AreRanked r → (n : ℕ) → n ≤ (cases_of r.about.now).locations → length (node_pieces r n) ≤ 5 * n
  pieces_many ranked zero h = omega arith
  pieces_many ranked (suc n) h =
      let a = length-append (node_pieces r n) (pieces_there r n) in
      let b = pieces_many ranked n (omega (arith, h)) in
      let d = there_many ranked n (omega (arith, h)) in
      omega (arith, a, b, d)

  -- ---- every location is covered
  pub covers_all : (node : Node) → ArePieces r (pieces_of node) → CoversAll (cases_of r.about.now) node
  covers_all node pieces s l_in wide =
      let l = s.location in
      let found = some_piece s.values (signs_at r l) in
      let at : slice_get (pieces_at (pieces_of node) s.location) found.0 ≡ Some (nested_piece r s.location found.0) =
      ap (λ z. slice_get z found.0) (pieces s.location l_in)
      ∙ slice_get-map (piece_with r s.location) (sign_pieces (signs_at r s.location)) found.0
      ∙ ap (option_map (piece_with r s.location)) (piece_there (signs_at r s.location) (suc (length (signs_at r s.location))) found.0 (let b = found.1 in omega (arith, b))) in
      record {
        piece = nested_piece r l found.0;
        among = among_kept (λ p. place_of p == s.location) (pieces_of node) (nested_piece r s.location found.0) (contains_at (pieces_at (pieces_of node) l) found.0 (nested_piece r l found.0) at);
        inside = record { place = refl; rows = found.2 };
      }

  -- ---- the start
  pub begins : (node : Node) (tree : CoverTree) → IsRankedNode r node → IsSignStart v (signs_at r (cases_of r.about.now).start) tree → IsNestedNode (cases_of r.about.now) node tree
  begins node tree h start = record {
    root = record {
      fits = h.fits;
      nodes = h.met 0;
      met = met_weaker v (changed_lists given (sign_pieces (signs_at r (cases_of r.about.now).start))) (owed_into (pieces_of node) (cases_of r.about.now).start given no_fall) owed_all [] tree start.met;
      shallow = start.shallow;
      even = start.even;
      narrow = start.narrow;
    };
    covers = covers_all node h.pieces;
  }
    where
      l : ℕ
      l = (cases_of r.about.now).start

      by_piece : (o : Option (List Linear)) (rows : List Known) → option_map (map (λ x. given x)) o ≡ Some rows → target_rows (λ x. given x) no_fall (option_map (piece_with r l) o) 0 ≡ Some rows
      by_piece None rows e = absurd cc
      by_piece (Some rs) rows e = ap Some (append-nil (map (λ x. given x) rs)) ∙ e

      owed_all : (k j : ℕ) (rows : List Known) → changed_lists given (sign_pieces (signs_at r (cases_of r.about.now).start)) k j ≡ Some rows → owed_into (pieces_of node) (cases_of r.about.now).start given no_fall k j ≡ Some rows
      owed_all k (suc j) rows e = absurd cc
      owed_all k zero rows e =
          subst (λ z. target_rows (λ x. given x) no_fall z 0 ≡ Some rows) (sym (ap (λ z. slice_get z k) (h.pieces l r.about.now.are_cases.starts) ∙ slice_get-map (piece_with r l) (sign_pieces (signs_at r l)) k))
          (by_piece (slice_get (sign_pieces (signs_at r l)) k) rows e)

-- ---- the node
abbrev asked : Ranking → About
asked r = about_with (cases_of r.about.now)

abbrev every_piece : Ranking → List Marked
every_piece r = node_pieces r (cases_of r.about.now).locations

pub node_nested : (r : Ranking) → AreRanked r → (node : Node) (pieces : List Marked) (proofs : List Proof) → pieces ≡ node_pieces r (cases_of r.about.now).locations → HasOwn node pieces r.count [] proofs → Offer r (node_pieces r (cases_of r.about.now).locations) proofs → IsRankedNode r node
node_nested r ranked node pieces proofs same own offer = record {
  fits = record { shape = fitted.shape; narrow = fitted.narrow; depth = fitted.within };
  met = fitted.met;
  pieces = subst (ArePieces r) (sym (pieces_are node ∙ given_own.pieces_are)) (are_pieces r);
}
  where
    given_own : HasOwn node (every_piece r) r.count [] proofs
    given_own = subst (λ z. HasOwn node z r.count [] proofs) same own

    fitted : IsFitted (asked r) term 1 node
    fitted = node_fitted (asked r) term 1 node (every_piece r) r.count [] proofs given_own (record {
      said = tt;
      ranked = λ e. absurd cc;
      small = (let f = r.bounded in omega (arith, f));
      bounded = (let n = pieces_many r ranked (cases_of r.about.now).locations (omega arith) in let m = r.about.now.are_cases.few_locations in omega (arith, n, m));
      each = pieces_shaped r ranked (cases_of r.about.now).locations (omega arith);
      offered = λ number. offer number (every_piece r) (are_pieces r);
      below = tt;
      shallow = omega arith;
    })

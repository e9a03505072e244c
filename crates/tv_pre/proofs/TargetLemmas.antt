-- One more target.
use Rattle.std.proofs.Common.{◌≡◌, ℕ, suc, ◌+◌, ◌<◌, List, [], ◌∷◌, ◌++◌, length, take, get_or, All, Bool, true, false, cond, ◌==◌, arith, sym, ap, ◌∙◌, subst, refl}
use Rattle.std.proofs.Math.Seq.{take-suc}
use Rattle.std.proofs.lemmas.List.{append_assoc, append-nil, map_push}
use Rattle.tv_linear.specs.declared.region.Region.{Region}
use Rattle.tv_pre.specs.Parts.{joined_pieces}
use Rattle.std.proofs.lemmas.List.Elements.{All-nil, All-push}
use Rattle.tv_linear.specs.Linear.{Linear}
use Rattle.tv_linear.specs.declared.region.Piece.{Piece}
use Rattle.tv_linear.specs.declared.region.Poly.{Poly}
use Rattle.tv_cases.specs.LinearCases.{LinearCase}
use Rattle.tv_cases.specs.Before.{FitsBefore, rows_before, AreRowsBefore}
use Rattle.tv_cover.specs.Targets.{lists_of}
use Rattle.tv_region.specs.Regions.{lists_at}
use Rattle.tv_region.proofs.RegionLemmas.{lists_at-here}
use Rattle.tv_pre.specs.Targets.{AreBefore}

pub none_before : (c : LinearCase) → AreBefore c [] []
none_before c = record { exact = refl; fits = All-nil (All (FitsBefore c)) }

pub target_before : (c : LinearCase) (ps : List Piece) (i : ℕ) (p : Piece) (made : List Linear) (old new : List Poly) (poly : Poly) → i < length ps → p ≡ get_or ps i p → p.location ≡ c.to → AreRowsBefore c p.poly.rows.items made → poly.rows.items ≡ made → new ≡ old ++ poly ∷ [] → AreBefore c (lists_at c.to (take i ps)) (lists_of old) → AreBefore c (lists_at c.to (take (i + 1) ps)) (lists_of new)
target_before c ps i p made old new poly l e at r is m h = subst (λ ls. AreBefore c ls (lists_of new)) (sym (lists_at-here c.to ps i p l e at)) (record {
  exact =
      ap lists_of m ∙ map_push (λ (t : Poly). t.rows.items) old poly
      ∙ (λ j. h.exact j ++ (is ∙ r.exact) j ∷ [])
      ∙ sym (map_push (rows_before c) (lists_at c.to (take i ps)) p.poly.rows.items);
  fits = All-push (All (FitsBefore c)) (lists_at c.to (take i ps)) p.poly.rows.items h.fits r.fits;
})

-- ---- the pieces of some regions together
cond_append : (b : Bool) (rows : List Linear) (all xs ys : List (List Linear)) → all ≡ xs ++ ys → cond b (rows ∷ all) all ≡ cond b (rows ∷ xs) xs ++ ys
cond_append true rows all xs ys e = ap (λ ls. rows ∷ ls) e
cond_append false rows all xs ys e = e

pub lists_at-append : (l : ℕ) (ps qs : List Piece) → lists_at l (ps ++ qs) ≡ lists_at l ps ++ lists_at l qs
lists_at-append l [] qs = refl
lists_at-append l (p ∷ ps) qs = cond_append (p.location == l) p.poly.rows.items (lists_at l (ps ++ qs)) (lists_at l ps) (lists_at l qs) (lists_at-append l ps qs)

pub joined_append : (rs ss : List Region) → joined_pieces (rs ++ ss) ≡ joined_pieces rs ++ joined_pieces ss
joined_append [] ss = refl
joined_append (r ∷ rs) ss = ap (λ ps. r.pieces.items ++ ps) (joined_append rs ss) ∙ sym (append_assoc r.pieces.items (joined_pieces rs) (joined_pieces ss))

pub joined_more : (l : ℕ) (rs : List Region) (i : ℕ) (r : Region) → i < length rs → r ≡ get_or rs i r → lists_at l (joined_pieces (take (i + 1) rs)) ≡ lists_at l (joined_pieces (take i rs)) ++ lists_at l r.pieces.items
joined_more l rs i r s e =
    ap (λ ss. lists_at l (joined_pieces ss)) (ap (λ k. take k rs) (let g : i + 1 ≡ suc i = omega arith in g) ∙ take-suc rs i r s ∙ ap (λ y. take i rs ++ y ∷ []) (sym e))
    ∙ ap (lists_at l) (joined_append (take i rs) (r ∷ []) ∙ ap (λ ps. joined_pieces (take i rs) ++ ps) (append-nil r.pieces.items))
    ∙ lists_at-append l (joined_pieces (take i rs)) r.pieces.items

-- Pieces in the order of their locations.
use Rattle.std.proofs.Common.{◌≡◌, ◌⊎◌, inl, inr, ℕ, zero, suc, ◌<◌, get_or, List, [], ◌∷◌, ◌++◌, length, map, All, Some, Bool, true, false, cond, refl, sym, ap, ◌∙◌, subst}
use Rattle.std.specs.Prelude.{◌==◌}
use Rattle.std.specs.List.{slice_get, filter, Contains}
use Rattle.std.proofs.lemmas.List.Elements.{All-contains, All-filter, All-map, Contains-get_or}
use Rattle.std.proofs.lemmas.Bool.{eq-eqb, eqb-true}
use Rattle.tv_linear.specs.Linear.{Linear, columns}
use Rattle.tv_linear.specs.declared.region.Piece.{Piece}
use Rattle.tv_candidates.specs.declared.candidate.Candidate.{Candidate}
use Rattle.tv_invariant.specs.Rows.{IsStronger}
use Rattle.tv_invariant.specs.Places.{row_of, place_of, rows_at}
use Rattle.tv_invariant.specs.Passes.{AreOver}
use Rattle.tv_invariant.specs.Pieces.{IsPieceOf, AreInPlace}
use Rattle.tv_cases.proofs.ContainsLemmas.{Contains-here, Contains-later, Contains-cases, Contains-none}
use Rattle.tv_invariant.proofs.ListLemmas.{all_by}

old_or_last : {A : Type 0} (xs : List A) (y x : A) (k : ℕ) → slice_get (xs ++ y ∷ []) k ≡ Some x → (slice_get xs k ≡ Some x) ⊎ ((k ≡ length xs) × (y ≡ x))
old_or_last [] y x zero h = inr (refl, cc)
old_or_last [] y x (suc k) h = absurd cc
old_or_last (z ∷ xs) y x zero h = inl h
old_or_last (z ∷ xs) y x (suc k) h = elim (old_or_last xs y x k h) [ inl e ↦ inl e | inr e ↦ inr (ap suc e.0, e.1) ]

pub in_place_none : (v : ℕ) (list : List Candidate) → AreInPlace v list []
in_place_none v list l piece h = absurd cc

pub in_place_more : (v : ℕ) (list : List Candidate) (old new : List Piece) (piece : Piece) → AreInPlace v list old → IsPieceOf v list (length old) piece → new ≡ old ++ piece ∷ [] → AreInPlace v list new
in_place_more v list old new piece h is e l p at =
    elim (old_or_last old piece p l (subst (λ ps. slice_get ps l ≡ Some p) e at)) [
      | inl g ↦ h l p g
      | inr g ↦ subst (λ k. IsPieceOf v list k p) (sym g.0) (subst (IsPieceOf v list (length old)) g.1 is)
    ]

-- rows of those at a location are over as many columns as all
pub stronger_over : (v l : ℕ) (list : List Candidate) (new : List Linear) → AreOver v list → IsStronger (rows_at l list) new → All (λ r. columns r ≡ v) new
stronger_over v l list new over h =
    let all = All-map (λ r. columns r ≡ v) row_of (filter (λ c. place_of c == l) list) (All-filter (λ c. place_of c == l) (λ c. columns c.row ≡ v) list over) in
    all_by (λ r. columns r ≡ v) new (λ r k. All-contains (λ q. columns q ≡ v) (rows_at l list) r all (h.from r k))

-- ---- candidates and the rows at a location
module _ (l : ℕ) where
  cond_head : (b : Bool) (c : Candidate) (cs : List Candidate) → b ≡ true → Contains (map row_of (cond b (c ∷ cs) cs)) c.row
  cond_head true c cs e = Contains-here c.row (map row_of cs)
  cond_head false c cs e = absurd cc

  cond_tail : (b : Bool) (c : Candidate) (cs : List Candidate) (r : Linear) → Contains (map row_of cs) r → Contains (map row_of (cond b (c ∷ cs) cs)) r
  cond_tail true c cs r a = Contains-later c.row r (map row_of cs) a
  cond_tail false c cs r a = a

  pub in_rows : (list : List Candidate) (c : Candidate) → Contains list c → c.location ≡ l → Contains (rows_at l list) c.row
  in_rows [] c a e = absurd (Contains-none c a)
  in_rows (d ∷ list) c a e = elim (Contains-cases d c list a) [
    | inl same ↦ subst (Contains (rows_at l (d ∷ list))) (ap row_of same) (cond_head (place_of d == l) d (filter (λ x. place_of x == l) list) (eq-eqb (place_of d) l (ap place_of same ∙ e)))
    | inr r ↦ cond_tail (place_of d == l) d (filter (λ x. place_of x == l) list) c.row (in_rows list c r e)
  ]

  -- a row at the location is that of a candidate there
  pub row_there : (list : List Candidate) (r : Linear) → Contains (rows_at l list) r → (c : Candidate) × Contains list c × (c.location ≡ l) × (c.row ≡ r)
  row_there [] r a = absurd (Contains-none r a)
  row_there (d ∷ list) r a = by_test (place_of d == l) refl a (λ b. row_there list r b)
    where
      behind : (c : Candidate) × Contains list c × (c.location ≡ l) × (c.row ≡ r) → (c : Candidate) × Contains (d ∷ list) c × (c.location ≡ l) × (c.row ≡ r)
      behind h = (h.0, Contains-later d h.0 list h.1, h.2, h.3)

      by_test : (b : Bool) → (place_of d == l) ≡ b → Contains (map row_of (cond b (d ∷ filter (λ x. place_of x == l) list) (filter (λ x. place_of x == l) list))) r → (Contains (rows_at l list) r → (c : Candidate) × Contains list c × (c.location ≡ l) × (c.row ≡ r)) → (c : Candidate) × Contains (d ∷ list) c × (c.location ≡ l) × (c.row ≡ r)
      by_test true e g rest = elim (Contains-cases d.row r (map row_of (filter (λ x. place_of x == l) list)) g) [
        | inl same ↦ (d, Contains-here d list, eqb-true (place_of d) l e, same)
        | inr k ↦ behind (rest k)
      ]
      by_test false e g rest = behind (rest g)

  -- so is each of the strongest
  pub strongest_there : (list : List Candidate) (new items : List Linear) (k : ℕ) (r : Linear) → IsStronger (rows_at l list) new → items ≡ new → k < length items → r ≡ get_or items k r → (c : Candidate) × Contains list c × (c.location ≡ l) × (c.row ≡ r)
  strongest_there list new items k r h e inside is =
      row_there list r (h.from r (subst (λ rs. Contains rs r) e (subst (Contains items) (sym is) (Contains-get_or items k r inside))))

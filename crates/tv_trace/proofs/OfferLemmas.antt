-- What is offered at a place of those at a location.
use Rattle.std.proofs.Common.{◌≡◌, ℕ, zero, suc, ◌+◌, ◌-◌, ◌<◌, ◌∙◌, inl, inr, List, [], ◌∷◌, length, drop, get_or, Some, cond, slice_get, ◌==◌, refl, ap, arith}
use Rattle.std.proofs.Math.ListN.{drop_of_length-le}
use Rattle.std.proofs.lemmas.Bool.{cases_lt, eq-eqb, ne_eqb}
use Rattle.std.proofs.lemmas.Option.{slice_get_within}
use Rattle.tv_cert.specs.declared.node.Marked.{Marked}
use Rattle.tv_cert.specs.declared.node.Proof.{Proof}
use Rattle.tv_cert.specs.Pieces.{place_of}
use Rattle.tv_edges.proofs.EdgeLemmas.{left_from}
use Rattle.tv_sound.specs.Following.{offered, offered_at}

none_offered : (ps : List Marked) → offered ps [] ≡ []
none_offered [] = refl
none_offered (p ∷ ps) = refl

element : {A : Type 0} (xs : List A) (i : ℕ) → i < length xs → (x : A) × (x ≡ get_or xs i x)
element [] i h = absurd (omega arith)
element (x ∷ xs) zero h = (x, refl)
element (x ∷ xs) (suc i) h = element xs i (omega arith)

got_later : {A : Type 0} (x : A) (xs : List A) (k : ℕ) → (k ≡ 0 → ⊥) → slice_get (x ∷ xs) k ≡ slice_get xs (k - 1)
got_later x xs zero h = absurd (h refl)
got_later x xs (suc k) h = ap (slice_get xs) (let e : k ≡ suc k - 1 = omega arith in e)

-- what is offered at a location by the pieces from one on
abbrev pub offers_from : List Marked → List Proof → ℕ → ℕ → List (Marked × Proof)
offers_from ps proofs l i = offered_at (offered (drop i ps) (drop i proofs)) l

module _ (ps : List Marked) (proofs : List Proof) (l i left : ℕ) where
  -- where something is offered there is a proof
  pub proof_within : (o : Marked × Proof) → slice_get (offers_from ps proofs l i) left ≡ Some o → i < length proofs
  proof_within o e = elim (cases_lt i (length proofs)) [
    | inl below ↦ below
    | inr past ↦ (
        let none : offers_from ps proofs l i ≡ [] = ap (λ qs. offered_at (offered (drop i ps) qs) l) (drop_of_length-le proofs past) ∙ ap (λ os. offered_at os l) (none_offered (drop i ps)) in
        let within = slice_get_within (offers_from ps proofs l i) left o e in
        let many = ap length none in
        absurd (omega (arith, within, many)))
  ]

  module _ (p : Marked) (below : i < length ps) (is : p ≡ get_or ps i p) where
    next : (q : Proof) → i < length proofs → q ≡ get_or proofs i q → offers_from ps proofs l i ≡ cond (place_of p == l) ((p, q) ∷ offers_from ps proofs l (i + 1)) (offers_from ps proofs l (i + 1))
    next q within there = (λ j. offered_at (offered (left_from ps i p below is j) (left_from proofs i q within there j)) l)

    pub offer_here : (q : Proof) → i < length proofs → q ≡ get_or proofs i q → place_of p ≡ l → left ≡ 0 → slice_get (offers_from ps proofs l i) left ≡ Some (p, q)
    offer_here q within there at first =
        ap (λ os. slice_get os left) (next q within there ∙ ap (λ b. cond b ((p, q) ∷ offers_from ps proofs l (i + 1)) (offers_from ps proofs l (i + 1))) (eq-eqb (place_of p) l at))
        ∙ ap (slice_get ((p, q) ∷ offers_from ps proofs l (i + 1))) first

    pub offer_later : i < length proofs → place_of p ≡ l → (left ≡ 0 → ⊥) → slice_get (offers_from ps proofs l i) left ≡ slice_get (offers_from ps proofs l (i + 1)) (left - 1)
    offer_later within at more =
        let q = element proofs i within in
        ap (λ os. slice_get os left) (next q.0 within q.1 ∙ ap (λ b. cond b ((p, q.0) ∷ offers_from ps proofs l (i + 1)) (offers_from ps proofs l (i + 1))) (eq-eqb (place_of p) l at))
        ∙ got_later (p, q.0) (offers_from ps proofs l (i + 1)) left more

    pub offer_elsewhere : i < length proofs → (place_of p ≡ l → ⊥) → slice_get (offers_from ps proofs l i) left ≡ slice_get (offers_from ps proofs l (i + 1)) left
    offer_elsewhere within apart =
        let q = element proofs i within in
        ap (λ os. slice_get os left) (next q.0 within q.1 ∙ ap (λ b. cond b ((p, q.0) ∷ offers_from ps proofs l (i + 1)) (offers_from ps proofs l (i + 1))) (ne_eqb (place_of p) l apart))

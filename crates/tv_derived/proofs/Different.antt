-- rows taken once stand at one place each
use Rattle.std.proofs.Common.{◌≡◌, ◌⊎◌, inl, inr, ℕ, ◌+◌, ◌<◌, ◌∙◌, List, [], ◌∷◌, ◌++◌, length, length-append, get_or, sym, subst, arith}
use Rattle.std.proofs.lemmas.List.{get_or_append_left}
use Rattle.std.proofs.Math.Seq.{get_or-append_seam}
use Rattle.std.proofs.lemmas.Option.{slice_get_within, get_or_from_slice_get}
use Rattle.tv_linear.specs.Linear.{Linear}
use Rattle.tv_farkas.specs.Paths.{TakenOnce, none, first, again}
use Rattle.tv_derived.specs.Laws.{AreDifferent}

pub front_or_last : (i n : ℕ) → i < n + 1 → (i < n) ⊎ (i ≡ n)
front_or_last i n l = grind arith

module _ (ks : List Linear) (r : Linear) where
  long : length (ks ++ r ∷ []) ≡ length ks + 1
  long = length-append ks (r ∷ [])

  place : (i : ℕ) → i < length (ks ++ r ∷ []) → (i < length ks) ⊎ (i ≡ length ks)
  place i l = front_or_last i (length ks) (subst (λ n. i < n) long l)

  in_front : (i : ℕ) (y : Linear) → i < length ks → get_or (ks ++ r ∷ []) i y ≡ y → get_or ks i y ≡ y
  in_front i y l e = sym (get_or_append_left ks (r ∷ []) y i l) ∙ e

  the_last : (i : ℕ) (y : Linear) → i ≡ length ks → get_or (ks ++ r ∷ []) i y ≡ y → r ≡ y
  the_last i y l e = sym (get_or-append_seam ks r [] y) ∙ subst (λ k. get_or (ks ++ r ∷ []) k y ≡ y) l e

one_place : {rows kept : List Linear} → TakenOnce rows kept → (y : Linear) (i j : ℕ) → i < length kept → j < length kept → get_or kept i y ≡ y → get_or kept j y ≡ y → i ≡ j
one_place none y i j l m e g = absurd (omega arith)
one_place (first rows ks r t never) y i j l m e g = elim (place ks r i l) [
  | inl early ↦ elim (place ks r j m) [
    | inl also ↦ one_place t y i j early also (in_front ks r i y early e) (in_front ks r j y also g)
    | inr last ↦ absurd (never (i, early, subst (λ x. get_or ks i x ≡ x) (sym (the_last ks r j y last g)) (in_front ks r i y early e)))
  ]
  | inr late ↦ elim (place ks r j m) [
    | inl also ↦ absurd (never (j, also, subst (λ x. get_or ks j x ≡ x) (sym (the_last ks r i y late e)) (in_front ks r j y also g)))
    | inr last ↦ late ∙ sym last
  ]
]
one_place (again rows ks r t among) y i j l m e g = one_place t y i j l m e g

pub different : (rows : List Linear) → TakenOnce rows rows → AreDifferent rows
different rows t i j r e g =
    one_place t r i j (slice_get_within rows i r e) (slice_get_within rows j r g) (get_or_from_slice_get rows i r r e) (get_or_from_slice_get rows j r r g)

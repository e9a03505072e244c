-- Proofs that are added.
use Rattle.tv_shape.specs.Made.{IsOffered, Offers}
use Rattle.std.proofs.Common.{◌≡◌, ℕ, zero, suc, ◌+◌, ◌<◌, ◌≤◌, ◌++◌, List, [], ◌∷◌, map, take, length, get_or, Some, slice_get, arith, refl, sym, ap, ◌∙◌, subst}
use Rattle.std.specs.List.{flat_map, AllZip}
use Rattle.std.proofs.lemmas.List.{append_assoc, append-nil, map-append}
use Rattle.tv_linear.specs.declared.region.Piece.{Piece}
use Rattle.tv_linear.proofs.ListLaws.{take_past, take_more}
use Rattle.tv_cert.specs.declared.node.Marked.{Marked}
use Rattle.tv_cert.specs.declared.node.Proof.{Proof}
use Rattle.tv_cert.specs.Obligations.{Obligation}
use Rattle.tv_pre.specs.Offers.{Adds}
use Rattle.std.proofs.lemmas.Grind.{flat_map-append}

pub offers_append : (os more : List Obligation) (ps qs : List Proof) → Offers os ps → Offers more qs → Offers (os ++ more) (ps ++ qs)
offers_append [] more [] qs h g = g
offers_append [] more (p ∷ ps) qs h g = absurd h
offers_append (o ∷ os) more [] qs h g = absurd h
offers_append (o ∷ os) more (p ∷ ps) qs h g = (h.0, offers_append os more ps qs h.1 g)

pub adds_then : (os more : List Obligation) (a b c : List Proof) → Adds os a b → Adds more b c → Adds (os ++ more) a c
adds_then os more a b c h g before k = subst (λ os. Offers os c) (append_assoc before os more) (g (before ++ os) (h before k))

pub adds_one : (o : Obligation) (proof : Proof) (old new : List Proof) → new ≡ old ++ proof ∷ [] → IsOffered o proof → Adds (o ∷ []) old new
adds_one o proof old new e offered before h = subst (λ ps. Offers (before ++ o ∷ []) ps) (sym e) (offers_append before (o ∷ []) old (proof ∷ []) h (offered, tt))

pub all_added : (os : List Obligation) (old new : List Proof) → old ≡ [] → Adds os old new → Offers os new
all_added os old new e h = h [] (subst (Offers []) (sym e) tt)

-- ---- one more
pub one_done : {A : Type 0} (f : A → Obligation) (xs : List A) (k : ℕ) (x : A) (old now new : List Proof) → slice_get xs k ≡ Some x → Adds (f x ∷ []) now new → Adds (map f (take k xs)) old now → Adds (map f (take (k + 1) xs)) old new
one_done f xs k x old now new got one h =
    subst (λ os. Adds os old new) (sym (ap (map f) (take_more xs k x got) ∙ map-append f (take k xs) (x ∷ [])))
    (adds_then (map f (take k xs)) (f x ∷ []) old now new h one)

pub steps_whole : {A : Type 0} (f : A → Obligation) (xs : List A) (k : ℕ) (old now : List Proof) → length xs ≤ k → Adds (map f (take k xs)) old now → Adds (map f xs) old now
steps_whole f xs k old now l h = subst (λ ys. Adds (map f ys) old now) (take_past xs k l) h

pub zip_at : {A B : Type 0} (R : A → B → Type 0) (xs : List A) (ys : List B) (i : ℕ) (y : B) → AllZip R xs ys → i < length ys → y ≡ get_or ys i y → (x : A) × (slice_get xs i ≡ Some x) × R x y
zip_at R [] [] i y h l e = absurd (omega (arith, l))
zip_at R [] (b ∷ ys) i y h l e = absurd h
zip_at R (a ∷ xs) [] i y h l e = absurd h
zip_at R (a ∷ xs) (b ∷ ys) zero y h l e = (a, refl, subst (R a) (sym e) h.0)
zip_at R (a ∷ xs) (b ∷ ys) (suc i) y h l e = zip_at R xs ys i y h.1 (omega (arith, l)) e

pub zip_length : {A B : Type 0} (R : A → B → Type 0) (xs : List A) (ys : List B) → AllZip R xs ys → length xs ≡ length ys
zip_length R [] [] h = refl
zip_length R [] (y ∷ ys) h = absurd h
zip_length R (x ∷ xs) [] h = absurd h
zip_length R (x ∷ xs) (y ∷ ys) h = ap suc (zip_length R xs ys h.1)

pub pieces_more : (fits : Marked → Piece → Type 0) (owes : Marked → List Obligation) (ps : List Marked) (qs : List Piece) (i : ℕ) (q : Piece) (old now new : List Proof) → AllZip fits ps qs → i < length qs → q ≡ get_or qs i q → ((p : Marked) → fits p q → Adds (owes p) now new) → Adds (flat_map owes (take i ps)) old now → Adds (flat_map owes (take (i + 1) ps)) old new
pieces_more fits owes ps qs i q old now new z l e one h =
    let x = zip_at fits ps qs i q z l e in
    let p = x.0 in
    subst (λ os. Adds os old new) (sym (ap (flat_map owes) (take_more ps i p x.1) ∙ flat_map-append owes (take i ps) (p ∷ []) ∙ ap (λ os. flat_map owes (take i ps) ++ os) (append-nil (owes p))))
    (adds_then (flat_map owes (take i ps)) (owes p) old now new h (one p x.2))

pub pieces_all : (fits : Marked → Piece → Type 0) (owes : Marked → List Obligation) (ps : List Marked) (qs : List Piece) (i : ℕ) (old now : List Proof) → AllZip fits ps qs → length qs ≤ i → Adds (flat_map owes (take i ps)) old now → Adds (flat_map owes ps) old now
pieces_all fits owes ps qs i old now z l h = let e = zip_length fits ps qs z in subst (λ xs. Adds (flat_map owes xs) old now) (take_past ps i (omega (arith, e, l))) h

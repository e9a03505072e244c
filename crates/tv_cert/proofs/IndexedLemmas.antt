-- Pieces that are looked up.
use Rattle.std.proofs.Common.{◌≡◌, ℕ, zero, suc, nat_lt, Bool, true, false, List, length, map, slice_get, get_or, Option, None, Some, MatchOption, inl, inr, Bor, ltb-true, ltb-false, sym, ap, subst, refl, arith, ◌==◌}
use Rattle.std.proofs.lemmas.Option.{slice_get_past, slice_get_read}
use Rattle.std.specs.Option.{is_some, IfSome}
use Rattle.tv_places.specs.declared.places.Stand.{Stand}
use Rattle.tv_places.specs.Places.{IsIndexOf}
use Rattle.tv_cert.specs.declared.node.Marked.{Marked}
use Rattle.tv_cert.specs.Pieces.{place_of}
use Rattle.tv_cert.specs.Indexed.{IsIndexed}

abbrev Fails : Bool → Type 0
Fails false = Unit {0}
Fails true = ⊥

none_empty : (n : ℕ) → false ≡ (n == 0) → n ≡ 0 → ⊥
none_empty zero h e = subst Fails h tt
none_empty (suc n) h e = absurd (omega (arith, e))

-- an index that is not empty is one of the locations
pub index_used : (ps : List Marked) (stands told : List Stand) (n : ℕ) → told ≡ stands → length told ≡ n → false ≡ (n == 0) → IsIndexed ps stands → IsIndexOf (map place_of ps) told
index_used ps stands told n same many h (inl e) = absurd (none_empty n h (let t = ap length same in omega (arith, t, many, e)))
index_used ps stands told n same many h (inr is) = subst (λ x. IsIndexOf (map place_of ps) x) (sym same) is

-- what is got at a place of a list
pub got_at : {X : Type 0} (xs : List X) (i : ℕ) (r : Option (Bor X)) → is_some r ≡ nat_lt i (length xs) → IfSome r (λ q. q.now ≡ get_or xs i q.now) → MatchOption r (slice_get xs i ≡ None) (λ q. slice_get xs i ≡ Some q.now)
got_at xs i None s h = slice_get_past xs i (ltb-false _ _ (sym s))
got_at xs i (Some q) s h = slice_get_read xs (length xs) i q.now refl (ltb-true _ _ (sym s)) h

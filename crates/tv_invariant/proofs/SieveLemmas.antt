-- Candidates taken out of a list.
use Rattle.std.proofs.Common.{◌≡◌, ◌⊎◌, inl, inr, ◌≤◌, List, [], ◌∷◌, ◌++◌, length, All, arith, refl, ap, subst}
use Rattle.std.specs.List.{Contains}
use Rattle.std.proofs.lemmas.List.Elements.{All-nil, All-cons}
use Rattle.tv_candidates.specs.declared.candidate.Candidate.{Candidate}
use Rattle.tv_candidates.specs.Inductive.{IsPart}
use Rattle.tv_invariant.specs.Sieves.{Sieved, none, stay, fall}
use Rattle.tv_cases.proofs.ContainsLemmas.{Contains-here, Contains-later, Contains-cases}

module _ (stays falls : Candidate → Type 0) where
  pub one_stays : (old new : List Candidate) (c : Candidate) → stays c → Sieved stays falls old new → Sieved stays falls (old ++ c ∷ []) (new ++ c ∷ [])
  one_stays old new c h none = stay c [] [] h none
  one_stays old new c h (stay d olds news p s) = stay d (olds ++ c ∷ []) (news ++ c ∷ []) p (one_stays olds news c h s)
  one_stays old new c h (fall d olds news p s) = fall d (olds ++ c ∷ []) (news ++ c ∷ []) p (one_stays olds news c h s)

  pub one_falls : (old new : List Candidate) (c : Candidate) → falls c → Sieved stays falls old new → Sieved stays falls (old ++ c ∷ []) new
  one_falls old new c h none = fall c [] [] h none
  one_falls old new c h (stay d olds news p s) = stay d (olds ++ c ∷ []) news p (one_falls olds news c h s)
  one_falls old new c h (fall d olds news p s) = fall d (olds ++ c ∷ []) news p (one_falls olds news c h s)

  pub sieved_part : (old new : List Candidate) → Sieved stays falls old new → IsPart new old
  sieved_part old new none = λ c a. a
  sieved_part old new (stay c olds news p s) = λ d a. elim (Contains-cases c d news a) [ inl e ↦ subst (Contains (c ∷ olds)) e (Contains-here c olds) | inr r ↦ Contains-later c d olds (sieved_part olds news s d r) ]
  sieved_part old new (fall c olds news p s) = λ d a. Contains-later c d olds (sieved_part olds news s d a)

  pub sieved_stay : (old new : List Candidate) → Sieved stays falls old new → All stays new
  sieved_stay old new none = All-nil stays
  sieved_stay old new (stay c olds news p s) = All-cons stays c news p (sieved_stay olds news s)
  sieved_stay old new (fall c olds news p s) = sieved_stay olds news s

  pub sieved_fall : (old new : List Candidate) → Sieved stays falls old new → (d : Candidate) → Contains old d → Contains new d ⊎ falls d
  sieved_fall old new none d a = inl a
  sieved_fall old new (stay c olds news p s) d a = elim (Contains-cases c d olds a) [ inl e ↦ inl (subst (Contains (c ∷ news)) e (Contains-here c news)) | inr r ↦ elim (sieved_fall olds news s d r) [ inl k ↦ inl (Contains-later c d news k) | inr f ↦ inr f ] ]
  sieved_fall old new (fall c olds news p s) d a = elim (Contains-cases c d olds a) [ inl e ↦ inr (subst falls e p) | inr r ↦ sieved_fall olds news s d r ]

  pub sieved_length : (old new : List Candidate) → Sieved stays falls old new → length new ≤ length old
  sieved_length old new none = omega arith
  sieved_length old new (stay c olds news p s) = let l = sieved_length olds news s in omega (arith, l)
  sieved_length old new (fall c olds news p s) = let l = sieved_length olds news s in omega (arith, l)

  pub sieved_same : (old new : List Candidate) → Sieved stays falls old new → length old ≤ length new → new ≡ old
  sieved_same old new none l = refl
  sieved_same old new (stay c olds news p s) l = ap (λ cs. c ∷ cs) (sieved_same olds news s (omega (arith, l)))
  sieved_same old new (fall c olds news p s) l = absurd (let m = sieved_length olds news s in omega (arith, l, m))

module _ (stays falls more : Candidate → Type 0) (weaker : (c : Candidate) → falls c → more c) where
  abbrev pub Out : List Candidate → List Candidate → Type 0
  Out = Sieved (λ c. Unit {0}) more

  passed : (c : Candidate) (lists olds new : List Candidate) → ((news : List Candidate) → Sieved stays falls olds news → Out lists news) → Sieved stays falls (c ∷ olds) new → Out (c ∷ lists) new
  passed c lists olds new again (stay d os news q t) = stay c lists news tt (again news t)
  passed c lists olds new again (fall d os news q t) = fall c lists new (weaker c q) (again new t)

  only : (new : List Candidate) → Sieved stays falls [] new → Out [] new
  only new none = none

  -- what is taken out of a list that was taken out of one
  pub sieved_again : (list old new : List Candidate) → Out list old → Sieved stays falls old new → Out list new
  sieved_again list old new none s = only new s
  sieved_again list old new (stay c lists olds p h) s = passed c lists olds new (λ news t. sieved_again lists olds news h t) s
  sieved_again list old new (fall c lists olds p h) s = fall c lists new p (sieved_again lists old new h s)

pub sieved_map : (stays falls stays2 falls2 : Candidate → Type 0) (old new : List Candidate) → ((c : Candidate) → Contains old c → stays c → stays2 c) → ((c : Candidate) → Contains old c → falls c → falls2 c) → Sieved stays falls old new → Sieved stays2 falls2 old new
sieved_map stays falls stays2 falls2 old new f g none = none
sieved_map stays falls stays2 falls2 old new f g (stay c olds news p s) = stay c olds news (f c (Contains-here c olds) p) (sieved_map stays falls stays2 falls2 olds news (λ d a. f d (Contains-later c d olds a)) (λ d a. g d (Contains-later c d olds a)) s)
sieved_map stays falls stays2 falls2 old new f g (fall c olds news p s) = fall c olds new (g c (Contains-here c olds) p) (sieved_map stays falls stays2 falls2 olds new (λ d a. f d (Contains-later c d olds a)) (λ d a. g d (Contains-later c d olds a)) s)

-- Lists of obligations that are gone over item by item: what is settled, and what has its shape.
use Rattle.std.proofs.Common.{◌≡◌, ◌↔◌, ℕ, zero, suc, ◌+◌, ◌≤◌, List, [], ◌∷◌, ◌++◌, length, drop, take, slice_get, None, Some, Ok, arith, refl, sym, ap, ◌∙◌, subst, append_assoc, length-append}
use Rattle.std.specs.List.{flat_map}
use Rattle.std.proofs.lemmas.List.{append-nil, take-append-drop}
use Rattle.std.proofs.lemmas.Grind.{flat_map-append}
use Rattle.std.proofs.Math.Seq.{take-length}
use Rattle.tv_linear.proofs.ListLaws.{drop_past, take_more}
use Rattle.tv_cert.specs.declared.failing.Failing.{Failing}
use Rattle.tv_cert.specs.declared.node.Proof.{Proof}
use Rattle.tv_cert.specs.FirstFailing.{IsFirstFailing}
use Rattle.tv_cert.specs.Obligations.{Obligation, AllMet, paired}
use Rattle.tv_cert.proofs.FailingLemmas.{failing_left, failing_right, all_join}
use Rattle.tv_cert.proofs.NodeLemmas.{length-paired}
use Rattle.tv_finitely.specs.Walks.{Offered, IsShaped, IsSettledFrom}
use Rattle.tv_finitely.proofs.Paired.{paired_append}

drop_more : {A : Type 0} (a b : ℕ) (xs : List A) → drop b (drop a xs) ≡ drop (a + b) xs
drop_more zero b xs = (let e : b ≡ 0 + b = omega arith in ap (λ k. drop k xs) e)
drop_more {A} (suc a) b [] = drop_past {A = A} [] b (omega arith) ∙ sym (drop_past {A = A} [] (suc a + b) (omega arith))
drop_more (suc a) b (x ∷ xs) = drop_more a b xs ∙ (let e : suc (a + b) ≡ suc a + b = omega arith in ap (λ k. drop k (x ∷ xs)) e)

module _ {A : Type 0} (f : A → List Obligation) (xs : List A) (proofs : List Proof) (from : ℕ) where
  module _ (k : ℕ) (x : A) (at : slice_get xs k ≡ Some x) where
    next_list : flat_map f (take (k + 1) xs) ≡ flat_map f (take k xs) ++ f x
    next_list = ap (flat_map f) (take_more xs k x at) ∙ flat_map-append f (take k xs) (x ∷ []) ∙ ap (λ os. flat_map f (take k xs) ++ os) (append-nil (f x))

    whole : flat_map f xs ≡ (flat_map f (take k xs) ++ f x) ++ flat_map f (drop (k + 1) xs)
    whole = ap (flat_map f) (sym (take-append-drop (k + 1) xs)) ∙ flat_map-append f (take (k + 1) xs) (drop (k + 1) xs) ∙ ap (λ os. os ++ flat_map f (drop (k + 1) xs)) next_list

  -- ---- what is settled
  -- the obligations of the first k items are met, and `met` is the proof after theirs
  pub record Settled (k met : ℕ) : Type 0 where
    pub all : AllMet (paired (flat_map f (take k xs)) (drop from proofs))
    pub counted : met ≡ from + length (flat_map f (take k xs))
    pub within : met ≤ length proofs

  pub settled_none : from ≤ length proofs → Settled 0 from
  settled_none h = record { all = tt; counted = omega arith; within = h }

  module _ (k met : ℕ) (h : Settled k met) (x : A) (at : slice_get xs k ≡ Some x) where
    rest_is : drop (length (flat_map f (take k xs))) (drop from proofs) ≡ drop met proofs
    rest_is = drop_more from (length (flat_map f (take k xs))) proofs ∙ ap (λ j. drop j proofs) (sym h.counted)

    next_entries : paired (flat_map f (take k xs) ++ f x) (drop from proofs) ≡ paired (flat_map f (take k xs)) (drop from proofs) ++ paired (f x) (drop met proofs)
    next_entries = paired_append (flat_map f (take k xs)) (f x) (drop from proofs) ∙ ap (λ ps. paired (flat_map f (take k xs)) (drop from proofs) ++ paired (f x) ps) rest_is

    pub settled_next : (next : ℕ) → AllMet (paired (f x) (drop met proofs)) → next ≡ met + length (f x) → next ≤ length proofs → Settled (k + 1) next
    settled_next next all e within = record {
      all = subst AllMet (sym (ap (λ os. paired os (drop from proofs)) (next_list k x at) ∙ next_entries)) (all_join (paired (flat_map f (take k xs)) (drop from proofs)) (paired (f x) (drop met proofs)) h.all all);
      counted = (let l = ap length (next_list k x at) in let m = length-append (flat_map f (take k xs)) (f x) in let c = h.counted in omega (arith, l, m, c, e));
      within = within;
    }

    pub settled_fails : (g : Failing) → IsFirstFailing (paired (f x) (drop met proofs)) met g → IsFirstFailing (paired (flat_map f xs) (drop from proofs)) from g
    settled_fails g fails =
        let before = paired (flat_map f (take k xs)) (drop from proofs) in
        let here = failing_right before (paired (f x) (drop met proofs)) from met g h.all (h.counted ∙ ap (λ j. from + j) (sym (length-paired (flat_map f (take k xs)) (drop from proofs)))) fails in
        let both = subst (λ es. IsFirstFailing es from g) (sym next_entries) here in
        subst (λ es. IsFirstFailing es from g)
        (sym (ap (λ os. paired os (drop from proofs)) (whole k x at) ∙ paired_append (flat_map f (take k xs) ++ f x) (flat_map f (drop (k + 1) xs)) (drop from proofs)))
        (failing_left (paired (flat_map f (take k xs) ++ f x) (drop from proofs)) _ from g both)

  pub settled_all : (k met : ℕ) → length xs ≡ k → Settled k met → IsSettledFrom (flat_map f xs) proofs from (Ok met)
  settled_all k met e h =
      let same : flat_map f (take k xs) ≡ flat_map f xs = ap (λ j. flat_map f (take j xs)) (sym e) ∙ ap (flat_map f) (take-length xs) in
      (subst (λ os. AllMet (paired os (drop from proofs))) same h.all, h.counted ∙ ap (λ os. from + length os) same, h.within)

  -- ---- what has its shape
  -- the proofs begin with those of the obligations of the first k items, and go on with `next`
  pub record Shaped (k next : ℕ) : Type 0 where
    pub counted : next ≡ from + length (flat_map f (take k xs))
    pub within : next ≤ length proofs
    pub same : (more : List Obligation) → Offered more (drop next proofs) ↔ Offered (flat_map f (take k xs) ++ more) (drop from proofs)

  pub shaped_none : from ≤ length proofs → Shaped 0 from
  shaped_none h = record { counted = omega arith; within = h; same = λ more. (λ k. k, λ k. k) }

  module _ (k next : ℕ) (h : Shaped k next) (x : A) (at : slice_get xs k ≡ Some x) where
    regrouped : (more : List Obligation) → flat_map f (take (k + 1) xs) ++ more ≡ flat_map f (take k xs) ++ (f x ++ more)
    regrouped more = ap (λ os. os ++ more) (next_list k x at) ∙ append_assoc (flat_map f (take k xs)) (f x) more

    pub shaped_next : (after : ℕ) → IsShaped (f x) proofs next (Some after) → Shaped (k + 1) after
    shaped_next after g = record {
      counted = (let l = ap length (next_list k x at) in let m = length-append (flat_map f (take k xs)) (f x) in let c = h.counted in let e = g.0 in omega (arith, l, m, c, e));
      within = g.1;
      same = λ more. (
        λ t. subst (λ os. Offered os (drop from proofs)) (sym (regrouped more)) ((h.same (f x ++ more)).0 ((g.2 more).0 t)),
        λ t. (g.2 more).1 ((h.same (f x ++ more)).1 (subst (λ os. Offered os (drop from proofs)) (regrouped more) t)),
      );
    }

    pub shaped_fails : IsShaped (f x) proofs next None → IsShaped (flat_map f xs) proofs from None
    shaped_fails g = λ more t.
        let e = ap (λ os. os ++ more) (whole k x at) ∙ append_assoc (flat_map f (take k xs) ++ f x) (flat_map f (drop (k + 1) xs)) more ∙ append_assoc (flat_map f (take k xs)) (f x) (flat_map f (drop (k + 1) xs) ++ more) in
        g (flat_map f (drop (k + 1) xs) ++ more) ((h.same (f x ++ (flat_map f (drop (k + 1) xs) ++ more))).1 (subst (λ os. Offered os (drop from proofs)) e t))

  pub shaped_all : (k next : ℕ) → length xs ≡ k → Shaped k next → IsShaped (flat_map f xs) proofs from (Some next)
  shaped_all k next e h =
      let same : flat_map f (take k xs) ≡ flat_map f xs = ap (λ j. flat_map f (take j xs)) (sym e) ∙ ap (flat_map f) (take-length xs) in
      (h.counted ∙ ap (λ os. from + length os) same, h.within, subst (λ os. (more : List Obligation) → Offered more (drop next proofs) ↔ Offered (os ++ more) (drop from proofs)) same h.same)

-- ---- all that are offered, from the first on
none_after : (ps : List Proof) → length ps ≡ 0 → Offered [] ps
none_after [] e = tt
none_after (p ∷ ps) e = absurd (omega (arith, e))

after_none : (ps : List Proof) → Offered [] ps → length ps ≡ 0
after_none [] h = refl
after_none (p ∷ ps) h = absurd h

length_left : {A : Type 0} (xs : List A) (n : ℕ) → n ≤ length xs → length (drop n xs) + n ≡ length xs
length_left xs zero h = omega arith
length_left [] (suc n) h = absurd (omega (arith, h))
length_left (x ∷ xs) (suc n) h = (let e = length_left xs n (omega (arith, h)) in omega (arith, e))

module _ (os : List Obligation) (proofs : List Proof) (next : ℕ) (h : IsShaped os proofs 0 (Some next)) where
  same_all : Offered [] (drop next proofs) ↔ Offered os proofs
  same_all =
      let e = ap (λ xs. Offered xs proofs) (append-nil os) in
      (λ t. subst (λ (x : Type 0). x) e ((h.2 []).0 t), λ t. (h.2 []).1 (subst (λ (x : Type 0). x) (sym e) t))

  pub all_offered : next ≡ length proofs ↔ Offered os proofs
  all_offered =
      let l = length_left proofs next h.1 in
      (λ e. same_all.0 (none_after (drop next proofs) (omega (arith, l, e))), λ t. let z = after_none (drop next proofs) (same_all.1 t) in omega (arith, l, z))

pub none_offered : (os : List Obligation) (proofs : List Proof) → IsShaped os proofs 0 None → Offered os proofs → ⊥
none_offered os proofs h t = h [] (subst (λ xs. Offered xs proofs) (sym (append-nil os)) t)

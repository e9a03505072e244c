use Rattle.std.proofs.Common.{◌≡◌, ℕ, ◌+◌, ◌<◌, List, [], ◌∷◌, ◌++◌, length, get_or, take, All, Bool, true, false, refl, sym, ap, ◌∙◌, subst}
use Rattle.std.specs.List.{Contains}
use Rattle.std.proofs.lemmas.List.Elements.{All-cons, All-head, All-tail, All-push, All-contains}
use Rattle.tv_linear.specs.Linear.{Linear, columns}
use Rattle.tv_farkas.specs.Paths.{TakenOnce, none, first, again}
use Rattle.tv_farkas.specs.Stretching.{IsTakenBy}
use Rattle.tv_linear.proofs.ListLaws.{all_front, take_next}

pub all_last : {A : Type 0} (P : A → Type 0) (xs : List A) (x : A) → All P (xs ++ x ∷ []) → P x
all_last P [] x h = All-head P x [] h
all_last P (y ∷ ys) x h = all_last P ys x (All-tail P y (ys ++ x ∷ []) h)

-- what holds of the kept rows holds of all
pub all_taken : (P : Linear → Type 0) (rows kept : List Linear) → TakenOnce rows kept → All P kept → All P rows
all_taken P rows kept none h = h
all_taken P rows kept (first rs ks r t never) h = All-push P rs r (all_taken P rs ks t (all_front P ks (r ∷ []) h)) (all_last P ks r h)
all_taken P rows kept (again rs ks r t among) h = All-push P rs r (all_taken P rs ks t h) (All-contains P ks r h among)

-- the kept rows have as many columns as all
pub kept_even : (n : ℕ) (marks : List Bool) (rows kept : List Linear) → IsTakenBy marks rows kept → All (λ r. columns r ≡ n) rows → All (λ r. columns r ≡ n) kept
kept_even n [] [] [] k h = h
kept_even n [] [] (x ∷ kept) k h = cc
kept_even n [] (r ∷ rows) kept k h = absurd k
kept_even n (c ∷ marks) [] kept k h = absurd k
kept_even n (true ∷ marks) (r ∷ rows) kept k h = kept_even n marks rows kept k (All-tail (λ q. columns q ≡ n) r rows h)
kept_even n (false ∷ marks) (r ∷ rows) [] k h = absurd k
kept_even n (false ∷ marks) (r ∷ rows) (x ∷ kept) k h =
    All-cons (λ q. columns q ≡ n) x kept (ap columns k.0 ∙ All-head (λ q. columns q ≡ n) r rows h) (kept_even n marks rows kept k.1 (All-tail (λ q. columns q ≡ n) r rows h))

pub marked_again : (marks : List Bool) (rows kept : List Linear) (r : Linear) → IsTakenBy marks rows kept → IsTakenBy (marks ++ true ∷ []) (rows ++ r ∷ []) kept
marked_again [] [] kept r h = h
marked_again [] (x ∷ rows) kept r h = absurd h
marked_again (b ∷ marks) [] kept r h = absurd h
marked_again (true ∷ marks) (x ∷ rows) kept r h = marked_again marks rows kept r h
marked_again (false ∷ marks) (x ∷ rows) [] r h = absurd h
marked_again (false ∷ marks) (x ∷ rows) (k ∷ kept) r h = (h.0, marked_again marks rows kept r h.1)

pub marked_first : (marks : List Bool) (rows kept : List Linear) (r : Linear) → IsTakenBy marks rows kept → IsTakenBy (marks ++ false ∷ []) (rows ++ r ∷ []) (kept ++ r ∷ [])
marked_first [] [] [] r h = (refl, refl)
marked_first [] [] (k ∷ kept) r h = cc
marked_first [] (x ∷ rows) kept r h = absurd h
marked_first (b ∷ marks) [] kept r h = absurd h
marked_first (true ∷ marks) (x ∷ rows) kept r h = marked_first marks rows kept r h
marked_first (false ∷ marks) (x ∷ rows) [] r h = absurd h
marked_first (false ∷ marks) (x ∷ rows) (k ∷ kept) r h = (h.0, marked_first marks rows kept r h.1)

-- one more row
pub record TakenTo (rows : List Linear) (marks : List Bool) (kept : List Linear) : Type 0 where
  pub taken : TakenOnce rows kept
  pub marked : IsTakenBy marks rows kept

pub taken_none : (marks : List Bool) (kept : List Linear) → marks ≡ [] → kept ≡ [] → TakenTo [] marks kept
taken_none marks kept e g = record {
  taken = subst (λ k. TakenOnce [] k) (sym g) none;
  marked = subst (λ m. IsTakenBy m [] kept) (sym e) g;
}

pub taken_again : (rows : List Linear) (i : ℕ) (r : Linear) (marks new : List Bool) (kept : List Linear) → i < length rows → r ≡ get_or rows i r → new ≡ marks ++ true ∷ [] → Contains kept r → TakenTo (take i rows) marks kept → TakenTo (take (i + 1) rows) new kept
taken_again rows i r marks new kept l e m among h =
    subst (λ rs. TakenTo rs new kept) (sym (take_next rows i r l e)) (subst (λ b. TakenTo (take i rows ++ r ∷ []) b kept) (sym m) record {
      taken = again (take i rows) kept r h.taken among;
      marked = marked_again marks (take i rows) kept r h.marked;
    })

pub taken_first : (rows : List Linear) (i : ℕ) (r : Linear) (marks new : List Bool) (kept more : List Linear) → i < length rows → r ≡ get_or rows i r → new ≡ marks ++ false ∷ [] → more ≡ kept ++ r ∷ [] → (Contains kept r → ⊥) → TakenTo (take i rows) marks kept → TakenTo (take (i + 1) rows) new more
taken_first rows i r marks new kept more l e m k never h =
    subst (λ rs. TakenTo rs new more) (sym (take_next rows i r l e)) (subst (λ b. TakenTo (take i rows ++ r ∷ []) b more) (sym m) (subst (λ q. TakenTo (take i rows ++ r ∷ []) (marks ++ false ∷ []) q) (sym k) record {
      taken = first (take i rows) kept r h.taken never;
      marked = marked_first marks (take i rows) kept r h.marked;
    }))

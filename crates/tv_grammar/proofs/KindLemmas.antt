-- The ways to make a grammar keep that the kind of a fault is one that its token can have.
use Rattle.std.proofs.Common.{◌≡◌, ℕ, zero, suc, List, [], ◌∷◌, length, Option, None, subst, inl, inr}
use Rattle.tv_grammar.specs.Reads.{faulty, Read, fault, next}
use Rattle.tv_grammar.specs.Langs.{Lang, unit, then, mapped, Branch, stop, go, branch_read, headed_read, headed, turn_read, turns_read, turns, times, each}
use Rattle.tv_grammar.specs.Faults.{Kinded, KindedBranch, KindedTurn}
use Rattle.tv_grammar.proofs.Results.{bind_err, clash}

pub unit_kinded : {T K X : Type 0} (P : K → Option T → Type 0) (x : X) → Kinded P (unit x)
unit_kinded P x = record { kind = λ ts k r e. absurd cc }

pub then_kinded : {T K X Y : Type 0} (P : K → Option T → Type 0) (a : Lang T K X) (b : X → Lang T K Y) → Kinded P a → ((x : X) → Kinded P (b x)) → Kinded P (then a b)
then_kinded P a b h i = record {
  kind = λ ts k r e. elim (bind_err (a.read ts) (λ x. (b x.0).read x.1) (faulty k r) e) [
    | inl x ↦ h.kind ts k r x
    | inr x ↦ (i x.0.0).kind x.0.1 k r x.2
  ];
}

pub mapped_kinded : {T K X Y : Type 0} (P : K → Option T → Type 0) (f : X → Y) (l : Lang T K X) → Kinded P l → Kinded P (mapped f l)
mapped_kinded P f l h = then_kinded P l (λ x. unit (f x)) h (λ x. unit_kinded P (f x))

at_kind : {T K : Type 0} (P : K → Option T → Type 0) (j k : K) (ts r : List T) → P j (next ts) → j ≡ k → ts ≡ r → P k (next r)
at_kind {T} {K} P j k ts r p e f = subst (λ (s : List T). P k (next s)) f (subst (λ (i : K). P i (next ts)) e p)

branch_kinded : {T K X : Type 0} (P : K → Option T → Type 0) (t : T) (b : Branch T K X) → KindedBranch P t b → (us : List T) (k : K) (r : List T) → branch_read b (t ∷ us) us ≡ fault k r → P k (next r)
branch_kinded P t (stop j) h us k r e = let is : j ≡ k = cc in let at : t ∷ us ≡ r = cc in at_kind P j k (t ∷ us) r h is at
branch_kinded P t (go l) h us k r e = h.kind us k r e

headed_kind : {T K X : Type 0} (P : K → Option T → Type 0) (missing : K) (cases : T → Branch T K X) → P missing None → ((t : T) → KindedBranch P t (cases t)) → (ts : List T) (k : K) (r : List T) → headed_read missing cases ts ≡ fault k r → P k (next r)
headed_kind P missing cases n h [] k r e = let is : missing ≡ k = cc in let at : [] ≡ r = cc in at_kind P missing k [] r n is at
headed_kind P missing cases n h (t ∷ us) k r e = branch_kinded P t (cases t) (h t) us k r e

pub headed_kinded : {T K X : Type 0} (P : K → Option T → Type 0) (missing : K) (cases : T → Branch T K X) → P missing None → ((t : T) → KindedBranch P t (cases t)) → Kinded P (headed missing cases)
headed_kinded P missing cases n h = record { kind = headed_kind P missing cases n h }

turn_kind : {T K S : Type 0} (P : K → Option T → Type 0) (b : Branch T K S) → KindedTurn P b → (again : S → Read T K S) → ((s : S) (ts : List T) (k : K) (r : List T) → again s ts ≡ fault k r → P k (next r)) → (s : S) (here us : List T) (k : K) (r : List T) → turn_read b again s here us ≡ fault k r → P k (next r)
turn_kind {T} {K} {S} P (stop j) h again i s here us k r e = absurd (clash {A = S × List T} (s, here) (faulty k r) e)
turn_kind P (go l) h again i s here us k r e = elim (bind_err (l.read us) (λ x. again x.0 x.1) (faulty k r) e) [
  | inl x ↦ h.kind us k r x
  | inr x ↦ i x.0.0 x.0.1 k r x.2
]

turns_kind : {T K S : Type 0} (P : K → Option T → Type 0) (cases : S → T → Branch T K S) → ((s : S) (t : T) → KindedTurn P (cases s t)) → (n : ℕ) (s : S) (ts : List T) (k : K) (r : List T) → turns_read cases n s ts ≡ fault k r → P k (next r)
unfolding turns_read
turns_kind {T} {K} {S} P cases h zero s ts k r e = absurd (clash {A = S × List T} (s, ts) (faulty k r) e)
turns_kind {T} {K} {S} P cases h (suc n) s [] k r e = absurd (clash {A = S × List T} (s, []) (faulty k r) e)
turns_kind P cases h (suc n) s (t ∷ us) k r e = turn_kind P (cases s t) (h s t) (turns_read cases n) (turns_kind P cases h n) s (t ∷ us) us k r e

pub turns_kinded : {T K S : Type 0} (P : K → Option T → Type 0) (cases : S → T → Branch T K S) → ((s : S) (t : T) → KindedTurn P (cases s t)) → (s : S) → Kinded P (turns cases s)
turns_kinded P cases h s = record { kind = λ ts k r e. turns_kind P cases h (suc (length ts)) s ts k r e }

pub times_kinded : {T K X : Type 0} (P : K → Option T → Type 0) (n : ℕ) (l : Lang T K X) → Kinded P l → Kinded P (times n l)
unfolding times
times_kinded P zero l h = unit_kinded P []
times_kinded P (suc n) l h = then_kinded P l (λ x. mapped (λ xs. x ∷ xs) (times n l)) h (λ x. mapped_kinded P (λ xs. x ∷ xs) (times n l) (times_kinded P n l h))

pub each_kinded : {T K A X : Type 0} (P : K → Option T → Type 0) (l : A → Lang T K X) (for : List A) → ((a : A) → Kinded P (l a)) → Kinded P (each l for)
unfolding each
each_kinded P l [] h = unit_kinded P []
each_kinded P l (a ∷ rest) h = then_kinded P (l a) (λ x. mapped (λ xs. x ∷ xs) (each l rest)) (h a) (λ x. mapped_kinded P (λ xs. x ∷ xs) (each l rest) (each_kinded P l rest h))

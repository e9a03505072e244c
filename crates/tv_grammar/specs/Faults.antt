-- The kind of a fault: what its token says, and what a grammar that asks less says.
use Rattle.std.specs.Prelude.{◌≡◌, ℕ, ◌<◌, Bool, true, false, List, [], ◌++◌, length, Option, Some, Result, Ok, Err}
use Rattle.tv_grammar.specs.Reads.{Fault, faulty, fault, next}
use Rattle.tv_grammar.specs.Langs.{Lang, Branch, stop, go}
use Rattle.tv_grammar.specs.Exact.{Exact}

-- The kind of a fault is of those that its token can have.
pub record Kinded {T K X : Type 0} (P : K → Option T → Type 0) (l : Lang T K X) : Type 0 where
  pub kind : (ts : List T) (k : K) (r : List T) → l.read ts ≡ fault k r → P k (next r)

abbrev pub KindedBranch : {T K X : Type 0} → (K → Option T → Type 0) → T → Branch T K X → Type 0
KindedBranch P t (stop k) = P k (Some t)
KindedBranch P t (go l) = Kinded P l

-- a turn that is not taken makes no fault
abbrev pub KindedTurn : {T K X : Type 0} → (K → Option T → Type 0) → Branch T K X → Type 0
KindedTurn P (stop k) = Unit {0}
KindedTurn P (go l) = Kinded P l

-- what is left is shorter than n
abbrev pub Below : {T K X : Type 0} → ℕ → Result (X × List T) (Fault T K) → Type 0
Below n (Ok x) = length x.1 < n
Below n (Err (faulty k s)) = length s < n

abbrev pub AfterFault : {T K X : Type 0} → Bool → K → List T → Result (X × List T) (Fault T K) → Type 0
AfterFault true k r out = out ≡ fault k r
AfterFault false k r out = Below (length r) out

-- out is the same, but where the fault is of a kind that is not kept, out goes past it
abbrev pub Follows : {T K X : Type 0} → (K → Bool) → Result (X × List T) (Fault T K) → Result (X × List T) (Fault T K) → Type 0
Follows kept (Ok x) out = out ≡ Ok x
Follows kept (Err (faulty k r)) out = AfterFault (kept k) k r out

-- m reads as l does, but goes past the faults of kinds that are not kept
pub record Loosens {T K X : Type 0} (kept : K → Bool) (l m : Lang T K X) : Type 0 where
  pub at : (ts : List T) → Follows kept (l.read ts) (m.read ts)

abbrev pub LoosensBranch : {T K X : Type 0} → (K → Bool) → Branch T K X → Branch T K X → Type 0
LoosensBranch kept (stop k) (stop j) = (kept k ≡ true) × (j ≡ k)
LoosensBranch kept (stop k) (go m) = (kept k ≡ false) × Exact m
LoosensBranch kept (go l) (stop j) = ⊥
LoosensBranch kept (go l) (go m) = Loosens kept l m

abbrev pub LoosensTurn : {T K X : Type 0} → (K → Bool) → Branch T K X → Branch T K X → Type 0
LoosensTurn kept (stop k) (stop j) = Unit {0}
LoosensTurn kept (stop k) (go m) = ⊥
LoosensTurn kept (go l) (stop j) = ⊥
LoosensTurn kept (go l) (go m) = Loosens kept l m × Exact m

-- no text of m begins with the tokens up to the first of r
pub record NoneIn {T K X : Type 0} (m : Lang T K X) (before r : List T) : Type 0 where
  pub none : (d : m.Of) (other : List T) → next other ≡ next r → m.text d [] ≡ before ++ other → ⊥

-- a text of m begins with these tokens
pub record Begins {T K X : Type 0} (m : Lang T K X) (ts : List T) : Type 0 where
  pub it : m.Of
  pub more : List T
  pub whole : m.text it [] ≡ ts ++ more

-- the kinds that are kept, as those a token can have
abbrev pub AllKept : {T K : Type 0} → (K → Bool) → K → Option T → Type 0
AllKept kept k t = kept k ≡ true

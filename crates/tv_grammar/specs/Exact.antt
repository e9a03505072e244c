-- A grammar is read exactly: all that is read is a text of it, each text is read, and a fault is at the first token that cannot stand there.
use Rattle.std.specs.Prelude.{◌≡◌, List, [], ◌++◌, Bool, false, Option, None, Ok}
use Rattle.tv_grammar.specs.Reads.{fault, next}
use Rattle.tv_grammar.specs.Langs.{Lang, Branch, stop, go, OfBranch, branch_goes_on}

-- ts is a derivation that stands for x, and r, at which it does not go on
pub record Found {T K X : Type 0} (l : Lang T K X) (ts : List T) (x : X) (r : List T) : Type 0 where
  pub it : l.Of
  pub text : ts ≡ l.text it r
  pub is : l.value it ≡ x
  pub stops : l.goes_on it (next r) ≡ false

-- Reading stops at r, whatever stands after the next token; what stands before it goes on.
pub record Least {T K X : Type 0} (l : Lang T K X) (k : K) (ts r : List T) : Type 0 where
  pub before : List T
  pub parts : ts ≡ before ++ r
  pub again : (other : List T) → next other ≡ next r → l.read (before ++ other) ≡ fault k other
  pub it : l.Of
  pub more : List T
  pub whole : l.text it [] ≡ before ++ more

pub record Exact {T K X : Type 0} (l : Lang T K X) : Type 0 where
  pub some : l.Of
  pub append : (d : l.Of) (a c : List T) → l.text d (a ++ c) ≡ l.text d a ++ c
  pub only : (d : l.Of) (r : List T) → l.goes_on d (next r) ≡ false → l.read (l.text d r) ≡ Ok (l.value d, r)
  pub found : (ts : List T) (x : X) (r : List T) → l.read ts ≡ Ok (x, r) → Found l ts x r
  pub least : (ts : List T) (k : K) (r : List T) → l.read ts ≡ fault k r → Least l k ts r

abbrev pub ExactBranch : {T K X : Type 0} → Branch T K X → Type 0
ExactBranch (stop k) = Unit {0}
ExactBranch (go l) = Exact l

-- ---- at which tokens a derivation goes on

-- at those of a set, whichever derivation it is
abbrev pub Goes : {T K X : Type 0} → Lang T K X → (Option T → Bool) → Type 0
Goes {T} l at = (d : l.Of) (t : Option T) → l.goes_on d t ≡ at t

abbrev pub BranchGoes : {T K X : Type 0} → Branch T K X → (Option T → Bool) → Type 0
BranchGoes {T} b at = (d : OfBranch b) (t : Option T) → branch_goes_on b d t ≡ at t

-- at none
abbrev pub nowhere : {T : Type 0} → Option T → Bool
nowhere t = false

-- at none outside of a set
abbrev pub Outside : {T K X : Type 0} → Lang T K X → (Option T → Bool) → Type 0
Outside {T} l at = (d : l.Of) (t : Option T) → at t ≡ false → l.goes_on d t ≡ false

-- a derivation may end with the text
abbrev pub Ends : {T K X : Type 0} → Lang T K X → Type 0
Ends l = (d : l.Of) → l.goes_on d None ≡ false

-- ---- whole texts

-- The tokens are a text that stands for x.
pub record IsText {T K X : Type 0} (l : Lang T K X) (ts : List T) (x : X) : Type 0 where
  pub it : l.Of
  pub text : ts ≡ l.text it []
  pub is : l.value it ≡ x

-- No text of the grammar begins with the tokens up to the first of r, and one does with those before.
pub record StopsAt {T K X : Type 0} (l : Lang T K X) (ts r : List T) : Type 0 where
  pub before : List T
  pub parts : ts ≡ before ++ r
  pub none : (d : l.Of) (other : List T) → next other ≡ next r → l.text d [] ≡ before ++ other → ⊥
  pub some : (d : l.Of) × ((more : List T) × (l.text d [] ≡ before ++ more))

-- a whole text, and a token after it
pub record Ended {T K X : Type 0} (l : Lang T K X) (after k : K) (ts r : List T) : Type 0 where
  pub is : k ≡ after
  pub it : l.Of
  pub text : ts ≡ l.text it r

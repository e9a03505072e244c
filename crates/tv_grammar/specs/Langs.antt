-- Grammars: their derivations, what each spells and what it stands for, and how it is read.
use Rattle.std.specs.Prelude.{ℕ, zero, suc, List, [], ◌∷◌, length, Bool, true, false, ◌||◌, Option, Some, None, Result, Ok}
use Rattle.tv_grammar.specs.Reads.{Fault, Read, ◌>>=◌, fault, next, first_or}

-- A grammar over tokens T, with kinds of fault K, whose texts stand for values X.
pub record Lang (T K X : Type 0) : Type 1 where
  -- the derivations
  pub Of : Type 0
  -- the tokens of a derivation, and these after them
  pub text : Of → List T → List T
  pub value : Of → X
  -- the derivation could go on at this token (at the end, where there is none)
  pub goes_on : Of → Option T → Bool
  pub read : Read T K X

-- nothing, which stands for x
abbrev pub unit : {T K X : Type 0} → X → Lang T K X
unit {T} {K} {X} x = record {
  Of = Unit {0};
  text = λ d rest. rest;
  value = λ d. x;
  goes_on = λ d t. false;
  read = λ ts. Ok (x, ts);
}

-- a front, and what its value asks for after it
abbrev pub then : {T K X Y : Type 0} → Lang T K X → (X → Lang T K Y) → Lang T K Y
then {T} {K} {X} {Y} a b = record {
  Of = (d : a.Of) × (b (a.value d)).Of;
  text = λ d rest. a.text d.0 ((b (a.value d.0)).text d.1 rest);
  value = λ d. (b (a.value d.0)).value d.1;
  goes_on = λ d t. (b (a.value d.0)).goes_on d.1 t || a.goes_on d.0 (first_or ((b (a.value d.0)).text d.1 []) t);
  read = λ ts. a.read ts >>= λ x. (b x.0).read x.1;
}

abbrev pub mapped : {T K X Y : Type 0} → (X → Y) → Lang T K X → Lang T K Y
mapped f l = then l (λ x. unit (f x))

-- what may stand after a token, or why the token may not stand here
pub data Branch (T K X : Type 0) : Type 1 where
  stop : K → Branch T K X
  go : Lang T K X → Branch T K X

abbrev pub OfBranch : {T K X : Type 0} → Branch T K X → Type 0
OfBranch (stop k) = ⊥
OfBranch (go l) = l.Of

abbrev pub branch_text : {T K X : Type 0} (b : Branch T K X) → OfBranch b → List T → List T
branch_text (stop k) d rest = absurd d
branch_text (go l) d rest = l.text d rest

abbrev pub branch_value : {T K X : Type 0} (b : Branch T K X) → OfBranch b → X
branch_value (stop k) d = absurd d
branch_value (go l) d = l.value d

abbrev pub branch_goes_on : {T K X : Type 0} (b : Branch T K X) → OfBranch b → Option T → Bool
branch_goes_on (stop k) d t = false
branch_goes_on (go l) d t = l.goes_on d t

-- the tokens from the one at hand on, and those after it
abbrev pub branch_read : {T K X : Type 0} → Branch T K X → List T → List T → Result (X × List T) (Fault T K)
branch_read (stop k) here behind = fault k here
branch_read (go l) here behind = l.read behind

abbrev pub is_go : {T K X : Type 0} → Branch T K X → Bool
is_go (stop k) = false
is_go (go l) = true

-- the kind is for a token that is missing
abbrev pub headed_read : {T K X : Type 0} → K → (T → Branch T K X) → Read T K X
headed_read missing cases [] = fault missing []
headed_read missing cases (t ∷ ts) = branch_read (cases t) (t ∷ ts) ts

-- a token, and what may stand after it
abbrev pub headed : {T K X : Type 0} → K → (T → Branch T K X) → Lang T K X
headed {T} {K} {X} missing cases = record {
  Of = (t : T) × OfBranch (cases t);
  text = λ d rest. d.0 ∷ branch_text (cases d.0) d.1 rest;
  value = λ d. branch_value (cases d.0) d.1;
  goes_on = λ d t. branch_goes_on (cases d.0) d.1 t;
  read = headed_read missing cases;
}

-- { token, and what may stand after it }, where each turn makes a state of the one before
pub data Turns {T K S : Type 0} (cases : S → T → Branch T K S) : S → Type 0 where
  done : {s : S} → Turns cases s
  turn : {s : S} (t : T) (d : OfBranch (cases s t)) → Turns cases (branch_value (cases s t) d) → Turns cases s

abbrev pub turns_text : {T K S : Type 0} (cases : S → T → Branch T K S) (s : S) → Turns cases s → List T → List T
turns_text cases s done rest = rest
turns_text cases s (turn t d ds) rest = t ∷ branch_text (cases s t) d (turns_text cases (branch_value (cases s t) d) ds rest)

abbrev pub turns_value : {T K S : Type 0} (cases : S → T → Branch T K S) (s : S) → Turns cases s → S
turns_value cases s done = s
turns_value cases s (turn t d ds) = turns_value cases (branch_value (cases s t) d) ds

-- a turn may begin with this token
abbrev pub goes_at : {T K S : Type 0} → (T → Branch T K S) → Option T → Bool
goes_at cases None = false
goes_at cases (Some t) = is_go (cases t)

abbrev pub turns_go_on : {T K S : Type 0} (cases : S → T → Branch T K S) (s : S) → Turns cases s → Option T → Bool
turns_go_on cases s done u = goes_at (cases s) u
turns_go_on cases s (turn t d ds) u = turns_go_on cases (branch_value (cases s t) d) ds u || branch_goes_on (cases s t) d (first_or (turns_text cases (branch_value (cases s t) d) ds []) u)

abbrev pub turn_read : {T K S : Type 0} → Branch T K S → (S → Read T K S) → S → List T → List T → Result (S × List T) (Fault T K)
turn_read (stop k) again s here behind = Ok (s, here)
turn_read (go l) again s here behind = l.read behind >>= λ x. again x.0 x.1

-- at most n turns
unfoldable pub turns_read : {T K S : Type 0} (cases : S → T → Branch T K S) → ℕ → S → Read T K S
turns_read cases zero s ts = Ok (s, ts)
turns_read cases (suc n) s [] = Ok (s, [])
turns_read cases (suc n) s (t ∷ ts) = turn_read (cases s t) (turns_read cases n) s (t ∷ ts) ts

abbrev pub turns : {T K S : Type 0} → (S → T → Branch T K S) → S → Lang T K S
turns {T} {K} {S} cases s = record {
  Of = Turns cases s;
  text = turns_text cases s;
  value = turns_value cases s;
  goes_on = turns_go_on cases s;
  read = λ ts. turns_read cases (suc (length ts)) s ts;
}

-- l, n times
unfoldable pub times : {T K X : Type 0} → ℕ → Lang T K X → Lang T K (List X)
times zero l = unit []
times (suc n) l = then l (λ x. mapped (λ xs. x ∷ xs) (times n l))

-- for each of these what it asks for
unfoldable pub each : {T K A X : Type 0} → (A → Lang T K X) → List A → Lang T K (List X)
each l [] = unit []
each l (a ∷ rest) = then (l a) (λ x. mapped (λ xs. x ∷ xs) (each l rest))

-- Texts of l, all refused at their first token, with a kind that depends on it: none of them is read.
abbrev pub refused : {T K X : Type 0} → (Option T → K) → Lang T K X → Lang T K X
refused {T} {K} {X} kind l = record {
  Of = l.Of;
  text = l.text;
  value = l.value;
  goes_on = λ d t. true;
  read = λ ts. fault (kind (next ts)) ts;
}

-- ---- a part of what l reads

abbrev pub Is : {X : Type 0} → Option X → Type 0
Is None = ⊥
Is (Some x) = Unit {0}

abbrev pub the : {X : Type 0} (o : Option X) → Is o → X
the None d = absurd d
the (Some x) d = x

abbrev pub narrow : {T K X : Type 0} → K → Option X → List T → Result (X × List T) (Fault T K)
narrow k None rest = fault k rest
narrow k (Some x) rest = Ok (x, rest)

-- texts of l whose value f takes; what it does not take is at fault after the text
abbrev pub narrowed : {T K X Y : Type 0} → K → (X → Option Y) → Lang T K X → Lang T K Y
narrowed {T} {K} {X} {Y} k f l = record {
  Of = (d : l.Of) × Is (f (l.value d));
  text = λ d rest. l.text d.0 rest;
  value = λ d. the (f (l.value d.0)) d.1;
  goes_on = λ d t. l.goes_on d.0 t;
  read = λ ts. l.read ts >>= λ x. narrow k (f x.0) x.1;
}

-- nothing may stand after a whole text; the kind is for a token that does
abbrev pub at_end : {T K X : Type 0} → K → X → List T → Result (X × List T) (Fault T K)
at_end after x [] = Ok (x, [])
at_end after x (t ∷ ts) = fault after (t ∷ ts)

-- the whole of a text
abbrev pub read_all : {T K X : Type 0} → K → Lang T K X → Read T K X
read_all after l ts = l.read ts >>= λ x. at_end after x.0 x.1

-- The ways to make a grammar keep that it asks less, and what that says about the kind of a fault.
use Rattle.std.proofs.Common.{◌≡◌, ℕ, zero, suc, ◌≤◌, Bool, true, false, List, [], ◌∷◌, ◌++◌, length, Some, Result, Ok, Err, refl, sym, ap, subst, ◌∙◌, length-append, arith}
use Rattle.std.proofs.lemmas.List.{append-nil}
use Rattle.tv_grammar.specs.Reads.{Fault, faulty, Read, ◌>>=◌, fault, next}
use Rattle.tv_grammar.specs.Langs.{Lang, unit, then, mapped, Branch, stop, go, branch_read, headed_read, headed, turn_read, turns_read, turns, each}
use Rattle.tv_grammar.specs.Exact.{Exact, Least, Ends}
use Rattle.tv_grammar.specs.Faults.{Kinded, AllKept, Below, AfterFault, Follows, Loosens, LoosensBranch, LoosensTurn, NoneIn, Begins}
use Rattle.tv_grammar.proofs.Results.{clash}
use Rattle.tv_grammar.proofs.ExactLemmas.{unit_exact, mapped_exact, each_exact}
use Rattle.tv_grammar.proofs.TurningLemmas.{shrinks}

reach_by : {T K X : Type 0} (l : Lang T K X) → Exact l → (ts : List T) (r : Result (X × List T) (Fault T K)) → l.read ts ≡ r → Below (suc (length ts)) r
reach_by l h ts (Ok x) e = omega (arith, shrinks l h ts x.0 x.1 e)
reach_by l h ts (Err (faulty k s)) e = let f = h.least ts k s e in omega (arith, ap length f.parts, length-append f.before s)

pub reach : {T K X : Type 0} (l : Lang T K X) → Exact l → (ts : List T) → Below (suc (length ts)) (l.read ts)
reach l h ts = reach_by l h ts (l.read ts) refl

below_more : {T K X : Type 0} (m n : ℕ) → m ≤ n → (r : Result (X × List T) (Fault T K)) → Below m r → Below n r
below_more m n le (Ok x) h = omega arith
below_more m n le (Err (faulty k s)) h = omega arith

-- what goes on from there stays below
below_bind : {T K X Y : Type 0} (n : ℕ) (f : X × List T → Result (Y × List T) (Fault T K)) → ((x : X × List T) → Below (suc (length x.1)) (f x)) → (r : Result (X × List T) (Fault T K)) → Below n r → Below n (r >>= f)
below_bind n f h (Ok x) b = below_more (suc (length x.1)) n (omega arith) (f x) (h x)
below_bind n f h (Err (faulty k s)) b = b

fault_bind : {T K X Y : Type 0} (b : Bool) (k : K) (r : List T) (f : X × List T → Result (Y × List T) (Fault T K)) → ((x : X × List T) → Below (suc (length x.1)) (f x)) → (out : Result (X × List T) (Fault T K)) → AfterFault b k r out → AfterFault b k r (out >>= f)
fault_bind true k r f h out w = rw w refl
fault_bind false k r f h out w = below_bind (length r) f h out w

pub follows_bind : {T K X Y : Type 0} (kept : K → Bool) (f g : X × List T → Result (Y × List T) (Fault T K)) → ((x : X × List T) → Follows kept (f x) (g x)) → ((x : X × List T) → Below (suc (length x.1)) (g x)) → (r out : Result (X × List T) (Fault T K)) → Follows kept r out → Follows kept (r >>= f) (out >>= g)
follows_bind {T} {K} {X} {Y} kept f g h b (Ok x) out w = subst (λ (o : Result (X × List T) (Fault T K)). Follows kept (f x) (o >>= g)) (sym w) (h x)
follows_bind kept f g h b (Err (faulty k r)) out w = fault_bind (kept k) k r g b out w

pub unit_loose : {T K X : Type 0} (kept : K → Bool) (x : X) → Loosens {T = T} kept (unit x) (unit x)
unit_loose kept x = record { at = λ ts. refl }

pub then_loose : {T K X Y : Type 0} (kept : K → Bool) (a a' : Lang T K X) (b b' : X → Lang T K Y) → Loosens kept a a' → ((x : X) → Loosens kept (b x) (b' x)) → ((x : X) → Exact (b' x)) → Loosens kept (then a b) (then a' b')
then_loose kept a a' b b' h i e = record { at = λ ts. follows_bind kept (λ x. (b x.0).read x.1) (λ x. (b' x.0).read x.1) (λ x. (i x.0).at x.1) (λ x. reach (b' x.0) (e x.0) x.1) (a.read ts) (a'.read ts) (h.at ts) }

pub mapped_loose : {T K X Y : Type 0} (kept : K → Bool) (f : X → Y) (l m : Lang T K X) → Loosens kept l m → Loosens kept (mapped f l) (mapped f m)
mapped_loose kept f l m h = then_loose kept l m (λ x. unit (f x)) (λ x. unit (f x)) h (λ x. unit_loose kept (f x)) (λ x. unit_exact (f x))

pub each_loose : {T K A X : Type 0} (kept : K → Bool) (l m : A → Lang T K X) (for : List A) → ((a : A) → Exact (m a)) → ((a : A) → Loosens kept (l a) (m a)) → Loosens kept (each l for) (each m for)
unfolding each
each_loose kept l m [] e h = unit_loose kept []
each_loose kept l m (a ∷ rest) e h = then_loose kept (l a) (m a) (λ x. mapped (λ xs. x ∷ xs) (each l rest)) (λ x. mapped (λ xs. x ∷ xs) (each m rest)) (h a) (λ x. mapped_loose kept (λ xs. x ∷ xs) (each l rest) (each m rest) (each_loose kept l m rest e h)) (λ x. mapped_exact (λ xs. x ∷ xs) (each m rest) (each_exact m rest e))

-- ---- a grammar all of whose faults are kept loosens itself

same_by : {T K X : Type 0} (kept : K → Bool) (r : Result (X × List T) (Fault T K)) → ((k : K) (s : List T) → r ≡ fault k s → kept k ≡ true) → Follows kept r r
same_by kept (Ok x) h = refl
same_by {T} {K} {X} kept (Err (faulty k s)) h = subst (λ (b : Bool). AfterFault {X = X} b k s (fault k s)) (sym (h k s refl)) refl

pub same_loose : {T K X : Type 0} (kept : K → Bool) (l : Lang T K X) → Kinded (AllKept kept) l → Loosens kept l l
same_loose kept l h = record { at = λ ts. same_by kept (l.read ts) (λ k s e. h.kind ts k s e) }

-- ---- after a token

branch_loose : {T K X : Type 0} (kept : K → Bool) (b c : Branch T K X) → LoosensBranch kept b c → (t : T) (us : List T) → Follows kept (branch_read b (t ∷ us) us) (branch_read c (t ∷ us) us)
branch_loose kept (stop k) (stop j) h t us = rw (h.0, h.1) refl
branch_loose {T} {K} {X} kept (stop k) (go m) h t us = subst (λ (v : Bool). AfterFault v k (t ∷ us) (m.read us)) (sym h.0) (reach m h.1 us)
branch_loose kept (go l) (stop j) h t us = absurd h
branch_loose kept (go l) (go m) h t us = h.at us

headed_at : {T K X : Type 0} (kept : K → Bool) (missing : K) (cases looser : T → Branch T K X) → kept missing ≡ true → ((t : T) → LoosensBranch kept (cases t) (looser t)) → (ts : List T) → Follows kept (headed_read missing cases ts) (headed_read missing looser ts)
headed_at kept missing cases looser n h [] = rw n refl
headed_at kept missing cases looser n h (t ∷ us) = branch_loose kept (cases t) (looser t) (h t) t us

pub headed_loose : {T K X : Type 0} (kept : K → Bool) (missing : K) (cases looser : T → Branch T K X) → kept missing ≡ true → ((t : T) → LoosensBranch kept (cases t) (looser t)) → Loosens kept (headed missing cases) (headed missing looser)
headed_loose kept missing cases looser n h = record { at = headed_at kept missing cases looser n h }

-- ---- turns

turn_loose : {T K S : Type 0} (kept : K → Bool) (b c : Branch T K S) → LoosensTurn kept b c → (p q : S → Read T K S) → ((s : S) (ts : List T) → Follows kept (p s ts) (q s ts)) → ((s : S) (ts : List T) → Below (suc (length ts)) (q s ts)) → (s : S) (here us : List T) → Follows kept (turn_read b p s here us) (turn_read c q s here us)
turn_loose kept (stop k) (stop j) h p q f g s here us = refl
turn_loose kept (stop k) (go m) h p q f g s here us = absurd h
turn_loose kept (go l) (stop j) h p q f g s here us = absurd h
turn_loose kept (go l) (go m) h p q f g s here us = follows_bind kept (λ x. p x.0 x.1) (λ x. q x.0 x.1) (λ x. f x.0 x.1) (λ x. g x.0 x.1) (l.read us) (m.read us) (h.0.at us)

turn_below : {T K S : Type 0} (kept : K → Bool) (b c : Branch T K S) → LoosensTurn kept b c → (q : S → Read T K S) → ((s : S) (ts : List T) → Below (suc (length ts)) (q s ts)) → (s : S) (t : T) (us : List T) → Below (suc (length (t ∷ us))) (turn_read c q s (t ∷ us) us)
turn_below kept (stop k) (stop j) h q g s t us = omega arith
turn_below kept (stop k) (go m) h q g s t us = absurd h
turn_below kept (go l) (stop j) h q g s t us = absurd h
turn_below kept (go l) (go m) h q g s t us = below_bind (suc (length (t ∷ us))) (λ x. q x.0 x.1) (λ x. g x.0 x.1) (m.read us) (below_more (suc (length us)) (suc (length (t ∷ us))) (omega arith) (m.read us) (reach m h.1 us))

module _ {T K S : Type 0} (kept : K → Bool) (cases looser : S → T → Branch T K S) (h : (s : S) (t : T) → LoosensTurn kept (cases s t) (looser s t)) where
  turns_below : (n : ℕ) (s : S) (ts : List T) → Below (suc (length ts)) (turns_read looser n s ts)
  unfolding turns_read
  turns_below zero s ts = omega arith
  turns_below (suc n) s [] = omega arith
  turns_below (suc n) s (t ∷ us) = turn_below kept (cases s t) (looser s t) (h s t) (turns_read looser n) (turns_below n) s t us

  turns_follow : (n : ℕ) (s : S) (ts : List T) → Follows kept (turns_read cases n s ts) (turns_read looser n s ts)
  unfolding turns_read
  turns_follow zero s ts = refl
  turns_follow (suc n) s [] = refl
  turns_follow (suc n) s (t ∷ us) = turn_loose kept (cases s t) (looser s t) (h s t) (turns_read cases n) (turns_read looser n) (turns_follow n) (turns_below n) s (t ∷ us) us

  pub turns_loose : (s : S) → Loosens kept (turns cases s) (turns looser s)
  turns_loose s = record { at = λ ts. turns_follow (suc (length ts)) s ts }

-- ---- what the kind of a fault says

-- A kind that is kept: the looser grammar stops there too.
pub none_in : {T K X : Type 0} (kept : K → Bool) (l m : Lang T K X) → Exact m → Ends m → Loosens kept l m → (k : K) → kept k ≡ true → (ts r : List T) → (f : Least l k ts r) → NoneIn m f.before r
none_in {T} {K} {X} kept l m e ends h k is ts r f = record {
  none = λ d other same text.
      let v : Follows kept (fault {X = X × List T} k other) (m.read (f.before ++ other)) = subst (λ (o : Result (X × List T) (Fault T K)). Follows kept o (m.read (f.before ++ other))) (f.again other same) (h.at (f.before ++ other)) in
      let stops : m.read (f.before ++ other) ≡ fault k other = subst (λ (b : Bool). AfterFault b k other (m.read (f.before ++ other))) is v in
      clash {A = X × List T} (m.value d, []) (faulty k other) (sym (ap m.read (sym text) ∙ e.only d [] (ends d)) ∙ stops);
}

begun_by : {T K X : Type 0} (m : Lang T K X) → Exact m → (ts : List T) (out : Result (X × List T) (Fault T K)) → m.read ts ≡ out → Below 1 out → Begins m ts
begun_by m e ts (Ok (x, [])) is b = let f = e.found ts x [] is in record { it = f.it; more = []; whole = sym f.text ∙ sym (append-nil ts) }
begun_by m e ts (Ok (x, t ∷ us)) is b = absurd (omega arith)
begun_by {T} m e ts (Err (faulty k [])) is b =
    let f = e.least ts k [] is in
    record { it = f.it; more = f.more; whole = f.whole ∙ ap (λ (us : List T). us ++ f.more) (sym (f.parts ∙ append-nil f.before)) }
begun_by m e ts (Err (faulty k (t ∷ us))) is b = absurd (omega arith)

-- A kind that is not kept: a text of the looser grammar begins with the tokens up to there, this one with them.
pub begun : {T K X : Type 0} (kept : K → Bool) (l m : Lang T K X) → Exact m → Loosens kept l m → (k : K) → kept k ≡ false → (ts r : List T) (t : T) → next r ≡ Some t → (f : Least l k ts r) → Begins m (f.before ++ t ∷ [])
begun {T} {K} {X} kept l m e h k is ts r t b f =
    let us : List T = f.before ++ t ∷ [] in
    let v : Follows kept (fault {X = X × List T} k (t ∷ [])) (m.read us) = subst (λ (o : Result (X × List T) (Fault T K)). Follows kept o (m.read us)) (f.again (t ∷ []) (sym b)) (h.at us) in
    let past : Below 1 (m.read us) = subst (λ (w : Bool). AfterFault w k (t ∷ []) (m.read us)) is v in
    begun_by m e us (m.read us) refl past

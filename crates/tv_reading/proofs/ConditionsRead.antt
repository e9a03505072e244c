-- Each condition is read.
use Rattle.std.proofs.Common.{◌≡◌, ℕ, zero, suc, Bool, true, false, List, [], ◌∷◌, ◌++◌, Option, Some, None, refl, sym, ap, subst, ◌∙◌, append_assoc}
use Rattle.std.proofs.lemmas.List.{append-nil}
use Rattle.tv_language.specs.declared.token.TokenKind.{TokenKind}
use Rattle.tv_language.specs.declared.token.TokenKind.TheVariants as kinds
use Rattle.tv_program.specs.declared.tree.Relation.{Relation}
use Rattle.tv_program.specs.Trees.{Expression, Condition, truth, compare, negated, all_of, some_of}
use Rattle.tv_language.specs.Symbols.{Symbol, fixed}
use Rattle.tv_language.specs.Conditions as conditions
use Rattle.tv_language.specs.Conditions.{relation_of, joined, IsPlain, always, never, denied, IsLiteral, comparison, AreLiterals, no_literal, and, IsConjunction, literals, AreConjunctions, no_conjunction, or, IsCondition, conjunctions}
use Rattle.tv_grammar.specs.Langs.{unit, then, mapped, stop, go, turns, Is, the, OfBranch, branch_text, branch_value, Turns, done, turn, turns_text, turns_value}
use Rattle.tv_reading.specs.Marks.{Mark, plain, symbols_of}
use Rattle.tv_reading.specs.SumGrammar.{Grammar, Behind, every, close_cases, closed, factor_cases, below, factor_at, sum_at}
use Rattle.tv_reading.specs.ConditionGrammar.{Thing, value, tested, relation_by, compared, relation_cases, tail, opened, as_test, literal_over, is_and, is_or, more_by, more_cases, conjunction_from, conjunction_over, condition_from, continued, after_factor, ground, level, thing_cases, thing_at, plain_at, literal_at, condition_at}
use Rattle.tv_reading.proofs.SumTexts.{Back, Front, front, sum_is_read}

-- ---- parts put together

unit_back : {X : Type 0} (x : X) (ms : List Mark) (rest : List Symbol) → symbols_of ms ≡ rest → Back (unit x) x ms rest
unit_back x ms rest e = record { it = tt; left = ms; text = refl; same = e; is = refl }

closed_back : {X : Type 0} (x : X) (ms : List Mark) (rest : List Symbol) → symbols_of ms ≡ fixed kinds.RightRound ∷ rest → Back (closed x) x ms rest
closed_back x ms rest e = let f = front (fixed kinds.RightRound) ms rest (λ w. cc) e in record { it = (plain (fixed kinds.RightRound), tt); left = f.rest; text = f.text; same = f.same; is = refl }

-- the marks are a derivation that stands for x, and these
record Derived {X : Type 0} (l : Grammar X) (x : X) (ms left : List Mark) : Type 0 where
  it : l.Of
  text : ms ≡ l.text it left
  is : l.value it ≡ x

back_then : {X Y : Type 0} (a : Grammar X) (b : X → Grammar Y) (x : X) (y : Y) (ms : List Mark) (us rest : List Symbol) (p : Back a x ms us) → Back (b x) y p.left rest → Back (then a b) y ms rest
back_then {X} {Y} a b x y ms us rest p q =
    let r : Derived (b (a.value p.it)) y p.left q.left = subst (λ (z : X). Derived (b z) y p.left q.left) (sym p.is) (record { it = q.it; text = q.text; is = q.is }) in
    record { it = (p.it, r.it); left = q.left; text = p.text ∙ ap (a.text p.it) r.text; same = q.same; is = r.is }

back_mapped : {X Y : Type 0} (f : X → Y) (l : Grammar X) (x : X) (ms : List Mark) (rest : List Symbol) → Back l x ms rest → Back (mapped f l) (f x) ms rest
back_mapped f l x ms rest p = record { it = (p.it, tt); left = p.left; text = p.text; same = p.same; is = ap f p.is }

record Taken (c : Condition) (x : Thing) : Type 0 where
  taken : Is (as_test x)
  same : the (as_test x) taken ≡ c

back_narrowed : (thing : Grammar Thing) (c : Condition) (ms : List Mark) (rest : List Symbol) → Back thing (tested c) ms rest → Back (literal_over thing) c ms rest
back_narrowed thing c ms rest p =
    let w : Taken c (thing.value p.it) = subst (Taken c) (sym p.is) (record { taken = tt; same = refl }) in
    record { it = (p.it, w.taken); left = p.left; text = p.text; same = p.same; is = w.same }

record OneMore (b : Bool) (item : Grammar Condition) (cs : List Condition) (d : item.Of) : Type 0 where
  it : OfBranch (more_by b item cs)
  text : (r : List Mark) → branch_text (more_by b item cs) it r ≡ item.text d r
  is : branch_value (more_by b item cs) it ≡ cs ++ item.value d ∷ []

one_more : (b : Bool) (item : Grammar Condition) (cs : List Condition) (d : item.Of) → b ≡ true → OneMore b item cs d
one_more true item cs d e = record { it = (d, tt); text = λ r. refl; is = refl }
one_more false item cs d e = absurd cc

back_turn : (joins : TokenKind → Bool) (item : Grammar Condition) (kind : TokenKind) → joins kind ≡ true → (cs : List Condition) (c : Condition) (all : List Condition) (ms : List Mark) (ts us rest : List Symbol) (f : Front (fixed kind) ms ts) (p : Back item c f.rest us) → Back (turns (more_cases joins item) (cs ++ c ∷ [])) all p.left rest → Back (turns (more_cases joins item) cs) all ms rest
back_turn joins item kind on cs c all ms ts us rest f p q =
    let r : Back (turns (more_cases joins item) (cs ++ item.value p.it ∷ [])) all p.left rest = subst (λ (x : Condition). Back (turns (more_cases joins item) (cs ++ x ∷ [])) all p.left rest) (sym p.is) q in
    let w = one_more (joins kind) item cs p.it on in
    let v : Back (turns (more_cases joins item) (branch_value (more_by (joins kind) item cs) w.it)) all p.left rest = subst (λ (xs : List Condition). Back (turns (more_cases joins item) xs) all p.left rest) (sym w.is) r in
    record {
      it = turn (plain (fixed kind)) w.it v.it;
      left = v.left;
      text = f.text ∙ ap (λ (ns : List Mark). plain (fixed kind) ∷ ns) (p.text ∙ ap (item.text p.it) v.text ∙ sym (w.text (turns_text (more_cases joins item) (branch_value (more_by (joins kind) item cs) w.it) v.it v.left)));
      same = v.same;
      is = v.is;
    }

-- ---- a comparison

abbrev Sums : ℕ → Grammar Expression
Sums n = sum_at every n true

-- a thing that is a sum and the relation after it
record ThingOf (n : ℕ) (s : (Sums n).Of) (d : Turns (relation_cases (Sums n)) (value ((Sums n).value s))) : Type 0 where
  it : (thing_at every n).Of
  text : (r : List Mark) → (thing_at every n).text it r ≡ (Sums n).text s (turns_text (relation_cases (Sums n)) (value ((Sums n).value s)) d r)
  is : (thing_at every n).value it ≡ turns_value (relation_cases (Sums n)) (value ((Sums n).value s)) d

-- the derivation of a branch after a factor
record After (n : ℕ) (b : Behind Expression) (fd : OfBranch b) (t : (tail every n (branch_value b fd)).Of) : Type 0 where
  it : OfBranch (after_factor every n b)
  text : (r : List Mark) → branch_text (after_factor every n b) it r ≡ branch_text b fd ((tail every n (branch_value b fd)).text t r)
  is : branch_value (after_factor every n b) it ≡ (tail every n (branch_value b fd)).value t

after_factor_of : (n : ℕ) (b : Behind Expression) (fd : OfBranch b) (t : (tail every n (branch_value b fd)).Of) → After n b fd t
after_factor_of n (stop k) fd t = absurd fd
after_factor_of n (go l) fd t = record { it = (fd, t); text = λ r. refl; is = refl }

-- the same of any branch
record SameBranch (n : ℕ) (m : Mark) (fd : OfBranch (factor_cases every true (below every n true) m)) (t : (tail every n (branch_value (factor_cases every true (below every n true) m) fd)).Of) (b : Behind Thing) : Type 0 where
  it : OfBranch b
  text : (r : List Mark) → branch_text b it r ≡ branch_text (factor_cases every true (below every n true) m) fd ((tail every n (branch_value (factor_cases every true (below every n true) m) fd)).text t r)
  is : branch_value b it ≡ (tail every n (branch_value (factor_cases every true (below every n true) m) fd)).value t

same_after : (n : ℕ) (m : Mark) (fd : OfBranch (factor_cases every true (below every n true) m)) (t : (tail every n (branch_value (factor_cases every true (below every n true) m) fd)).Of) → SameBranch n m fd t (after_factor every n (factor_cases every true (below every n true) m))
same_after n m fd t = let a = after_factor_of n (factor_cases every true (below every n true) m) fd t in record { it = a.it; text = a.text; is = a.is }

abbrev Below : ℕ → Mark → Behind Expression
Below n m = factor_cases every true (below every n true) m

zero_thing : (m : Mark) (fd : OfBranch (Below 0 m)) (t : (tail every 0 (branch_value (Below 0 m) fd)).Of) → SameBranch 0 m fd t (thing_cases every 0 ground m)
zero_thing (plain (fixed kinds.LeftRound)) fd t = absurd fd
zero_thing (plain (fixed kinds.Not)) fd t = absurd fd
zero_thing (plain (fixed kinds.True)) fd t = absurd fd
zero_thing (plain (fixed kinds.False)) fd t = absurd fd
zero_thing m fd t = same_after 0 m fd t

-- in brackets, after which a product, a sum and a relation may go on
record Enclosed (n : ℕ) (lit : Grammar Condition) (x : Thing) (a : Expression) (t : (tail every n a).Of) : Type 0 where
  it : (then (continued lit x) (λ y. then (closed y) (opened every n))).Of
  text : (r : List Mark) → (then (continued lit x) (λ y. then (closed y) (opened every n))).text it r ≡ plain (fixed kinds.RightRound) ∷ (tail every n a).text t r
  is : (then (continued lit x) (λ y. then (closed y) (opened every n))).value it ≡ (tail every n a).value t

enclosing : (n : ℕ) (lit : Grammar Condition) (x : Thing) (a : Expression) → x ≡ value a → (t : (tail every n a).Of) → Enclosed n lit x a t
enclosing n lit x a e t = subst (λ (y : Thing). Enclosed n lit y a t) (sym e) (record { it = (tt, ((plain (fixed kinds.RightRound), tt), t)); text = λ r. refl; is = refl })

-- in brackets, a sum of the level below
left_thing : (n : ℕ) (s : (Sums n).Of) → ThingOf n s done → (k : Mark) (e : OfBranch (close_cases ((Sums n).value s) k)) (t : (tail every (suc n) (branch_value (close_cases ((Sums n).value s) k) e)).Of) → SameBranch (suc n) (plain (fixed kinds.LeftRound)) (s, (k, e)) t (thing_cases every (suc n) (level (thing_at every n) (plain_at every n)) (plain (fixed kinds.LeftRound)))
left_thing n s w (plain (fixed kinds.RightRound)) e t =
    let c = enclosing (suc n) (literal_at every n) ((thing_at every n).value w.it) ((Sums n).value s) w.is t in
    record {
      it = (w.it, c.it);
      text = λ r. w.text ((then (continued (literal_at every n) ((thing_at every n).value w.it)) (λ y. then (closed y) (opened every (suc n)))).text c.it r) ∙ ap ((Sums n).text s) (c.text r);
      is = c.is;
    }
left_thing n s w _ e t = absurd e

suc_thing : (n : ℕ) → ((s : (Sums n).Of) → ThingOf n s done) → (m : Mark) (fd : OfBranch (Below (suc n) m)) (t : (tail every (suc n) (branch_value (Below (suc n) m) fd)).Of) → SameBranch (suc n) m fd t (thing_cases every (suc n) (level (thing_at every n) (plain_at every n)) m)
suc_thing n again (plain (fixed kinds.LeftRound)) fd t = left_thing n fd.0 (again fd.0) fd.1.0 fd.1.1 t
suc_thing n again (plain (fixed kinds.Not)) fd t = absurd fd
suc_thing n again (plain (fixed kinds.True)) fd t = absurd fd
suc_thing n again (plain (fixed kinds.False)) fd t = absurd fd
suc_thing n again m fd t = same_after (suc n) m fd t

sum_thing : (n : ℕ) (s : (Sums n).Of) (d : Turns (relation_cases (Sums n)) (value ((Sums n).value s))) → ThingOf n s d
unfolding factor_at thing_at plain_at
sum_thing zero s d =
    let w = zero_thing s.0.0.0 s.0.0.1 (s.0.1, (s.1, d)) in
    record { it = (s.0.0.0, w.it); text = λ r. ap (λ (us : List Mark). s.0.0.0 ∷ us) (w.text r); is = w.is }
sum_thing (suc n) s d =
    let w = suc_thing n (λ s. sum_thing n s done) s.0.0.0 s.0.0.1 (s.0.1, (s.1, d)) in
    record { it = (s.0.0.0, w.it); text = λ r. ap (λ (us : List Mark). s.0.0.0 ∷ us) (w.text r); is = w.is }

record RelationOf (o : Option Relation) (r : Relation) (a : Expression) (l : Grammar Expression) (d : l.Of) : Type 0 where
  it : OfBranch (relation_by o (compared a) l)
  text : (rest : List Mark) → branch_text (relation_by o (compared a) l) it rest ≡ l.text d rest
  is : branch_value (relation_by o (compared a) l) it ≡ tested (compare r a (l.value d))

relation_of_kind : (o : Option Relation) (r : Relation) → o ≡ Some r → (a : Expression) (l : Grammar Expression) (d : l.Of) → RelationOf o r a l d
relation_of_kind o r e a l d = subst (λ (p : Option Relation). RelationOf p r a l d) (sym e) (record { it = (d, tt); text = λ rest. refl; is = refl })

compare_back : (n : ℕ) (kind : TokenKind) (r : Relation) → relation_of kind ≡ Some r → (a b : Expression) (ms : List Mark) (us rest : List Symbol) (s : Back (Sums n) a ms (fixed kind ∷ us)) (f : Front (fixed kind) s.left us) → Back (Sums n) b f.rest rest → Back (thing_at every n) (tested (compare r a b)) ms rest
compare_back n kind r e a b ms us rest s f p =
    let w = relation_of_kind (relation_of kind) r e ((Sums n).value s.it) (Sums n) p.it in
    let th = sum_thing n s.it (turn (plain (fixed kind)) w.it done) in
    record {
      it = th.it;
      left = p.left;
      text = s.text ∙ ap ((Sums n).text s.it) (f.text ∙ ap (λ (ns : List Mark). plain (fixed kind) ∷ ns) (p.text ∙ sym (w.text p.left))) ∙ sym (th.text p.left);
      same = p.same;
      is = th.is ∙ w.is ∙ ap (λ (x : Expression). tested (compare r x ((Sums n).value p.it))) s.is ∙ ap (λ (y : Expression). tested (compare r a y)) p.is;
    }

-- the token of a relation is none that is refused
kind_stands : (kind : TokenKind) (r : Relation) → relation_of kind ≡ Some r → fixed kind ≡ fixed kinds.Unread → ⊥
kind_stands kind r e w = let is : kind ≡ kinds.Unread = cc in let none : None ≡ Some r = ap relation_of (sym is) ∙ e in cc

-- ---- plain conditions

true_thing : (n : ℕ) (ms : List Mark) (rest : List Symbol) → Front (fixed kinds.True) ms rest → Back (thing_at every n) (tested (truth true)) ms rest
unfolding thing_at plain_at
true_thing zero ms rest f = record { it = (plain (fixed kinds.True), tt); left = f.rest; text = f.text; same = f.same; is = refl }
true_thing (suc n) ms rest f = record { it = (plain (fixed kinds.True), tt); left = f.rest; text = f.text; same = f.same; is = refl }

false_thing : (n : ℕ) (ms : List Mark) (rest : List Symbol) → Front (fixed kinds.False) ms rest → Back (thing_at every n) (tested (truth false)) ms rest
unfolding thing_at plain_at
false_thing zero ms rest f = record { it = (plain (fixed kinds.False), tt); left = f.rest; text = f.text; same = f.same; is = refl }
false_thing (suc n) ms rest f = record { it = (plain (fixed kinds.False), tt); left = f.rest; text = f.text; same = f.same; is = refl }

true_plain : (n : ℕ) (ms : List Mark) (rest : List Symbol) → Front (fixed kinds.True) ms rest → Back (plain_at every n) (truth true) ms rest
unfolding thing_at plain_at
true_plain zero ms rest f = record { it = (plain (fixed kinds.True), tt); left = f.rest; text = f.text; same = f.same; is = refl }
true_plain (suc n) ms rest f = record { it = (plain (fixed kinds.True), tt); left = f.rest; text = f.text; same = f.same; is = refl }

false_plain : (n : ℕ) (ms : List Mark) (rest : List Symbol) → Front (fixed kinds.False) ms rest → Back (plain_at every n) (truth false) ms rest
unfolding thing_at plain_at
false_plain zero ms rest f = record { it = (plain (fixed kinds.False), tt); left = f.rest; text = f.text; same = f.same; is = refl }
false_plain (suc n) ms rest f = record { it = (plain (fixed kinds.False), tt); left = f.rest; text = f.text; same = f.same; is = refl }

not_thing : (n : ℕ) (c : Condition) (ms : List Mark) (ts rest : List Symbol) (f : Front (fixed kinds.Not) ms ts) → Back (plain_at every n) c f.rest rest → Back (thing_at every (suc n)) (tested (negated c)) ms rest
unfolding thing_at plain_at
not_thing n c ms ts rest f p = record { it = (plain (fixed kinds.Not), (p.it, tt)); left = p.left; text = f.text ∙ ap (λ (us : List Mark). plain (fixed kinds.Not) ∷ us) p.text; same = p.same; is = ap (λ (x : Condition). tested (negated x)) p.is }

not_plain : (n : ℕ) (c : Condition) (ms : List Mark) (ts rest : List Symbol) (f : Front (fixed kinds.Not) ms ts) → Back (plain_at every n) c f.rest rest → Back (plain_at every (suc n)) (negated c) ms rest
unfolding thing_at plain_at
not_plain n c ms ts rest f p = record { it = (plain (fixed kinds.Not), (p.it, tt)); left = p.left; text = f.text ∙ ap (λ (us : List Mark). plain (fixed kinds.Not) ∷ us) p.text; same = p.same; is = ap negated p.is }

-- a conjunction and a condition by their first literal
record Conjoined (n : ℕ) (c : Condition) (ms : List Mark) (rest : List Symbol) : Type 0 where
  head : Condition
  behind : List Symbol
  one : Back (thing_at every n) (tested head) ms behind
  more : Back (conjunction_from (literal_at every n) head) c one.left rest

record Pieces (n : ℕ) (c : Condition) (ms : List Mark) (rest : List Symbol) : Type 0 where
  front : Condition
  behind : List Symbol
  one : Conjoined n front ms behind
  more : Back (condition_from (conjunction_over (literal_at every n)) front) c one.more.left rest

conjoined_back : (n : ℕ) (c : Condition) (ms : List Mark) (rest : List Symbol) → Conjoined n c ms rest → Back (conjunction_over (literal_at every n)) c ms rest
unfolding back_narrowed
conjoined_back n c ms rest p = back_then (literal_at every n) (conjunction_from (literal_at every n)) p.head c ms p.behind rest (back_narrowed (thing_at every n) p.head ms p.behind p.one) p.more

condition_back : (n : ℕ) (c : Condition) (ms : List Mark) (rest : List Symbol) → Pieces n c ms rest → Back (condition_at every n) c ms rest
unfolding back_narrowed back_then conjoined_back
condition_back n c ms rest p = back_then (conjunction_over (literal_at every n)) (condition_from (conjunction_over (literal_at every n))) p.front c ms p.behind rest (conjoined_back n p.front ms p.behind p.one) p.more

continued_back : (n : ℕ) (c : Condition) (ms : List Mark) (rest : List Symbol) (p : Pieces n c ms rest) → Back (continued (literal_at every n) (tested p.one.head)) (tested c) p.one.one.left rest
continued_back n c ms rest p = back_then (conjunction_from (literal_at every n) p.one.head) (λ d. mapped tested (condition_from (conjunction_over (literal_at every n)) d)) p.front (tested c) p.one.one.left p.behind rest p.one.more (back_mapped tested (condition_from (conjunction_over (literal_at every n)) p.front) c p.one.more.left rest p.more)

bracket_thing : (n : ℕ) (c : Condition) (ms : List Mark) (ts rest : List Symbol) (f : Front (fixed kinds.LeftRound) ms ts) → Pieces n c f.rest (fixed kinds.RightRound ∷ rest) → Back (thing_at every (suc n)) (tested c) ms rest
unfolding thing_at plain_at
bracket_thing n c ms ts rest f p =
    let thing : Grammar Thing = thing_at every n in
    let lit : Grammar Condition = literal_at every n in
    let q = continued_back n c f.rest (fixed kinds.RightRound ∷ rest) p in
    let r = closed_back (tested c) q.left rest q.same in
    let v = back_then (closed (tested c)) (opened every (suc n)) (tested c) (tested c) q.left rest rest r (unit_back (tested c) r.left rest r.same) in
    let w = back_then (continued lit (tested p.one.head)) (λ y. then (closed y) (opened every (suc n))) (tested c) (tested c) p.one.one.left (fixed kinds.RightRound ∷ rest) rest q v in
    let b = back_then thing (λ x. then (continued lit x) (λ y. then (closed y) (opened every (suc n)))) (tested p.one.head) (tested c) f.rest p.one.behind rest p.one.one w in
    record { it = (plain (fixed kinds.LeftRound), b.it); left = b.left; text = f.text ∙ ap (λ (us : List Mark). plain (fixed kinds.LeftRound) ∷ us) b.text; same = b.same; is = b.is }

bracket_plain : (n : ℕ) (c : Condition) (ms : List Mark) (ts rest : List Symbol) (f : Front (fixed kinds.LeftRound) ms ts) → Pieces n c f.rest (fixed kinds.RightRound ∷ rest) → Back (plain_at every (suc n)) c ms rest
unfolding thing_at plain_at
bracket_plain n c ms ts rest f p =
    let q = condition_back n c f.rest (fixed kinds.RightRound ∷ rest) p in
    let b = back_then (condition_at every n) closed c c f.rest (fixed kinds.RightRound ∷ rest) rest q (closed_back c q.left rest q.same) in
    record { it = (plain (fixed kinds.LeftRound), b.it); left = b.left; text = f.text ∙ ap (λ (us : List Mark). plain (fixed kinds.LeftRound) ∷ us) b.text; same = b.same; is = b.is }

-- ---- along the grammar

mutual
  plain_thing : {n : ℕ} {c : Condition} {ts rest : List Symbol} → IsPlain n c ts rest → (ms : List Mark) → symbols_of ms ≡ ts → Back (thing_at every n) (tested c) ms rest
  plain_thing (always {n} {rest}) ms e = true_thing n ms rest (front (fixed kinds.True) ms rest (λ w. cc) e)
  plain_thing (never {n} {rest}) ms e = false_thing n ms rest (front (fixed kinds.False) ms rest (λ w. cc) e)
  plain_thing (denied {n} {c} {ts} {rest} p) ms e = let f = front (fixed kinds.Not) ms ts (λ w. cc) e in not_thing n c ms ts rest f (plain_read p f.rest f.same)
  plain_thing (conditions.bracketed {n} {c} {ts} {rest} p) ms e = let f = front (fixed kinds.LeftRound) ms ts (λ w. cc) e in bracket_thing n c ms ts rest f (pieces p f.rest f.same)

  plain_read : {n : ℕ} {c : Condition} {ts rest : List Symbol} → IsPlain n c ts rest → (ms : List Mark) → symbols_of ms ≡ ts → Back (plain_at every n) c ms rest
  plain_read (always {n} {rest}) ms e = true_plain n ms rest (front (fixed kinds.True) ms rest (λ w. cc) e)
  plain_read (never {n} {rest}) ms e = false_plain n ms rest (front (fixed kinds.False) ms rest (λ w. cc) e)
  plain_read (denied {n} {c} {ts} {rest} p) ms e = let f = front (fixed kinds.Not) ms ts (λ w. cc) e in not_plain n c ms ts rest f (plain_read p f.rest f.same)
  plain_read (conditions.bracketed {n} {c} {ts} {rest} p) ms e = let f = front (fixed kinds.LeftRound) ms ts (λ w. cc) e in bracket_plain n c ms ts rest f (pieces p f.rest f.same)

  literal_read : {n : ℕ} {c : Condition} {ts rest : List Symbol} → IsLiteral n c ts rest → (ms : List Mark) → symbols_of ms ≡ ts → Back (thing_at every n) (tested c) ms rest
  literal_read (conditions.plain p) ms e = plain_thing p ms e
  literal_read (comparison {n} {a} {b} {kind} {relation} {ts} {us} {rest} p is q) ms e =
      let s = sum_is_read p ms e in
      let f = front (fixed kind) s.left us (λ w. kind_stands kind relation is w) s.same in
      compare_back n kind relation is a b ms us rest s f (sum_is_read q f.rest f.same)

  ands_read : {n : ℕ} {more : List Condition} {ts rest : List Symbol} → AreLiterals n more ts rest → (cs : List Condition) (ms : List Mark) → symbols_of ms ≡ ts → Back (turns (more_cases is_and (literal_at every n)) cs) (cs ++ more) ms rest
  ands_read (no_literal {n} {rest}) cs ms e = record { it = done; left = ms; text = refl; same = e; is = sym (append-nil cs) }
  ands_read (and {n} {c} {cs = more} {ts} {us} {rest} p q) cs ms e =
      let f = front (fixed kinds.And) ms ts (λ w. cc) e in
      let b = back_narrowed (thing_at every n) c f.rest us (literal_read p f.rest f.same) in
      back_turn is_and (literal_at every n) kinds.And refl cs c (cs ++ c ∷ more) ms ts us rest f b
      (subst (λ (all : List Condition). Back (turns (more_cases is_and (literal_at every n)) (cs ++ c ∷ [])) all b.left rest) (append_assoc cs (c ∷ []) more) (ands_read q (cs ++ c ∷ []) b.left b.same))

  conjoined : {n : ℕ} {c : Condition} {ts rest : List Symbol} → IsConjunction n c ts rest → (ms : List Mark) → symbols_of ms ≡ ts → Conjoined n c ms rest
  conjoined (literals {n} {c} {cs} {ts} {us} {rest} p q) ms e =
      let b = literal_read p ms e in
      record { head = c; behind = us; one = b; more = back_mapped (joined all_of) (turns (more_cases is_and (literal_at every n)) (c ∷ [])) (c ∷ cs) b.left rest (ands_read q (c ∷ []) b.left b.same) }

  ors_read : {n : ℕ} {more : List Condition} {ts rest : List Symbol} → AreConjunctions n more ts rest → (cs : List Condition) (ms : List Mark) → symbols_of ms ≡ ts → Back (turns (more_cases is_or (conjunction_over (literal_at every n))) cs) (cs ++ more) ms rest
  ors_read (no_conjunction {n} {rest}) cs ms e = record { it = done; left = ms; text = refl; same = e; is = sym (append-nil cs) }
  ors_read (or {n} {c} {cs = more} {ts} {us} {rest} p q) cs ms e =
      let f = front (fixed kinds.Or) ms ts (λ w. cc) e in
      let b = conjoined_back n c f.rest us (conjoined p f.rest f.same) in
      back_turn is_or (conjunction_over (literal_at every n)) kinds.Or refl cs c (cs ++ c ∷ more) ms ts us rest f b
      (subst (λ (all : List Condition). Back (turns (more_cases is_or (conjunction_over (literal_at every n))) (cs ++ c ∷ [])) all b.left rest) (append_assoc cs (c ∷ []) more) (ors_read q (cs ++ c ∷ []) b.left b.same))

  pieces : {n : ℕ} {c : Condition} {ts rest : List Symbol} → IsCondition n c ts rest → (ms : List Mark) → symbols_of ms ≡ ts → Pieces n c ms rest
  pieces (conjunctions {n} {c} {cs} {ts} {us} {rest} p q) ms e =
      let b = conjoined p ms e in
      record { front = c; behind = us; one = b; more = back_mapped (joined some_of) (turns (more_cases is_or (conjunction_over (literal_at every n))) (c ∷ [])) (c ∷ cs) b.more.left rest (ors_read q (c ∷ []) b.more.left b.more.same) }

-- each condition is read
pub condition_is_read : {n : ℕ} {c : Condition} {ts rest : List Symbol} → IsCondition n c ts rest → (ms : List Mark) → symbols_of ms ≡ ts → Back (condition_at every n) c ms rest
condition_is_read {n} {c} {ts} {rest} p ms e = condition_back n c ms rest (pieces p ms e)

-- Reading gives the longest front: where it is read, no text begins with it and the next token, and such a front is read.
use Rattle.std.proofs.Common.{◌≡◌, Bool, true, false, List, [], ◌∷◌, ◌++◌, Option, Some, None, Ok, refl, sym, ap, ◌∙◌, append_assoc, inl, inr}
use Rattle.std.proofs.lemmas.List.{append_cancel_right}
use Rattle.tv_grammar.specs.Reads.{Fault, fault, next, first_or}
use Rattle.tv_grammar.specs.Langs.{Lang, unit, then, mapped, Branch, stop, go, OfBranch, branch_text, branch_value, branch_goes_on, is_go, headed, Turns, done, turn, turns_text, turns_go_on, turns, narrowed}
use Rattle.tv_grammar.specs.Exact.{Exact, ExactBranch, Ends}
use Rattle.tv_grammar.specs.Faults.{Begins}
use Rattle.tv_grammar.specs.Longest.{IsLongest, Further}
use Rattle.tv_grammar.proofs.Results.{ok_is}
use Rattle.tv_grammar.proofs.ExactLemmas.{apart, branch_append}
use Rattle.tv_grammar.proofs.NarrowLemmas.{Extended}
use Rattle.std.proofs.lemmas.Bool.{or_cases, or_parts}

-- ---- the longest front is read, and no other

pub longest_found : {T K X : Type 0} (l : Lang T K X) → Exact l → Ends l → (ts : List T) (x : X) (r : List T) → l.read ts ≡ Ok (x, r) → IsLongest l ts x r
longest_found {T} {K} {X} l h ends ts x r e =
    let f = h.found ts x r e in
    record {
      it = f.it;
      text = f.text;
      is = f.is;
      none = λ t first b.
          let one = h.only f.it (t ∷ b.more) (ap (l.goes_on f.it) (sym first) ∙ f.stops) in
          let two = h.only b.it [] (ends b.it) in
          let same : l.text b.it [] ≡ l.text f.it (t ∷ b.more) = b.whole ∙ append_assoc (l.text f.it []) (t ∷ []) b.more ∙ sym (apart l h f.it (t ∷ b.more)) in
          let is = ok_is {E = Fault T K} {A = X × List T} (l.value b.it, []) (l.value f.it, t ∷ b.more) (sym two ∙ ap l.read same ∙ one) in
          let none : [] ≡ t ∷ b.more = ap (λ (p : X × List T). p.1) is in
          absurd cc;
    }

pub longest_read : {T K X : Type 0} (l : Lang T K X) → Exact l → Ends l → Further l → (ts : List T) (x : X) (r : List T) → IsLongest l ts x r → l.read ts ≡ Ok (x, r)
longest_read {T} {K} {X} l h ends further ts x r w = ap l.read w.text ∙ h.only w.it r (stops (l.goes_on w.it (next r)) refl) ∙ ap (λ (y : X). Ok (y, r)) w.is
  where
    at : (o : Option T) → next r ≡ o → l.goes_on w.it o ≡ true → ⊥
    at None first e = let no : true ≡ false = sym e ∙ ends w.it in cc
    at (Some t) first e = w.none t first (further w.it (ends w.it) t e)

    stops : (b : Bool) → l.goes_on w.it (next r) ≡ b → l.goes_on w.it (next r) ≡ false
    stops false e = e
    stops true e = absurd (at (next r) refl e)

-- ---- the ways to make a grammar keep that where it goes on there is more

pub unit_further : {T X : Type 0} (K : Type 0) (x : X) → Further {T = T} {K = K} (unit x)
unit_further K x d n t e = absurd cc

module _ {T K X Y : Type 0} (a : Lang T K X) (b : X → Lang T K Y) (h : Exact a) (i : (x : X) → Exact (b x)) (fa : Further a) (fb : (x : X) → Further (b x)) where
  -- what follows is empty where the front goes on past it
  at_front : (d : (then a b).Of) (us : List T) → (b (a.value d.0)).text d.1 [] ≡ us → a.goes_on d.0 (first_or us None) ≡ false → (t : T) → a.goes_on d.0 (first_or us (Some t)) ≡ true → Begins (then a b) (a.text d.0 us ++ t ∷ [])
  at_front d [] e n t g =
      let w = fa d.0 n t g in
      let some : (b (a.value w.it)).Of = (i (a.value w.it)).some in
      record {
        it = (w.it, some);
        more = w.more ++ (b (a.value w.it)).text some [];
        whole = apart a h w.it ((b (a.value w.it)).text some []) ∙ ap (λ (us : List T). us ++ (b (a.value w.it)).text some []) w.whole ∙ append_assoc (a.text d.0 [] ++ t ∷ []) w.more ((b (a.value w.it)).text some []);
      }
  at_front d (u ∷ us) e n t g = let no : true ≡ false = sym g ∙ n in absurd cc

  pub then_further : Further (then a b)
  then_further d n t g = elim (or_cases _ _ g) [
    | inl x ↦
        let w = fb (a.value d.0) d.1 ((or_parts _ _ n).0) t x in
        record {
          it = (d.0, w.it);
          more = w.more;
          whole = ap (a.text d.0) w.whole ∙ h.append d.0 ((b (a.value d.0)).text d.1 [] ++ t ∷ []) w.more ∙ ap (λ (us : List T). us ++ w.more) (h.append d.0 ((b (a.value d.0)).text d.1 []) (t ∷ []));
        }
    | inr x ↦ at_front d ((b (a.value d.0)).text d.1 []) refl ((or_parts _ _ n).1) t x
  ]

pub mapped_further : {T K X Y : Type 0} (f : X → Y) (l : Lang T K X) → Further l → Further (mapped f l)
mapped_further f l h d n t g = let w = h d.0 n t g in record { it = (w.it, tt); more = w.more; whole = w.whole }

abbrev pub FurtherBranch : {T K X : Type 0} → Branch T K X → Type 0
FurtherBranch (stop k) = Unit {0}
FurtherBranch (go l) = Further l

record BranchBegins {T K X : Type 0} (b : Branch T K X) (ts : List T) : Type 0 where
  it : OfBranch b
  more : List T
  whole : branch_text b it [] ≡ ts ++ more

branch_further : {T K X : Type 0} (b : Branch T K X) → FurtherBranch b → (d : OfBranch b) → branch_goes_on b d None ≡ false → (t : T) → branch_goes_on b d (Some t) ≡ true → BranchBegins b (branch_text b d [] ++ t ∷ [])
branch_further (stop k) h d n t g = absurd d
branch_further (go l) h d n t g = let w = h d n t g in record { it = w.it; more = w.more; whole = w.whole }

pub headed_further : {T K X : Type 0} (missing : K) (cases : T → Branch T K X) → ((t : T) → FurtherBranch (cases t)) → Further (headed missing cases)
headed_further {T} missing cases h d n t g = let w = branch_further (cases d.0) (h d.0) d.1 n t g in record { it = (d.0, w.it); more = w.more; whole = ap (λ (us : List T). d.0 ∷ us) w.whole }

some_of : {T K X : Type 0} (b : Branch T K X) → ExactBranch b → is_go b ≡ true → OfBranch b
some_of (stop k) h e = absurd cc
some_of (go l) h e = h.some

module _ {T K S : Type 0} (cases : S → T → Branch T K S) (h : (s : S) (t : T) → ExactBranch (cases s t)) (f : (s : S) (t : T) → FurtherBranch (cases s t)) where
  -- the turns go on at t after the item d, or after themselves
  record TurnsBegin (s : S) (ts : List T) : Type 0 where
    it : Turns cases s
    more : List T
    whole : turns_text cases s it [] ≡ ts ++ more

  at_item : (s : S) (u : T) (d : OfBranch (cases s u)) (us : List T) → branch_goes_on (cases s u) d (first_or us None) ≡ false → (t : T) → branch_goes_on (cases s u) d (first_or us (Some t)) ≡ true → TurnsBegin s (u ∷ (branch_text (cases s u) d us ++ t ∷ []))
  at_item s u d [] n t g = let w = branch_further (cases s u) (f s u) d n t g in record { it = turn u w.it done; more = w.more; whole = ap (λ (vs : List T). u ∷ vs) w.whole }
  at_item s u d (v ∷ us) n t g = let no : true ≡ false = sym g ∙ n in absurd cc

  further_turns : (s : S) (d : Turns cases s) → turns_go_on cases s d None ≡ false → (t : T) → turns_go_on cases s d (Some t) ≡ true → TurnsBegin s (turns_text cases s d [] ++ t ∷ [])
  further_turns s done n t g = record { it = turn t (some_of (cases s t) (h s t) g) done; more = branch_text (cases s t) (some_of (cases s t) (h s t) g) []; whole = refl }
  further_turns s (turn u d ds) n t g = elim (or_cases _ _ g) [
    | inl x ↦
        let v : S = branch_value (cases s u) d in
        let w = further_turns v ds ((or_parts _ _ n).0) t x in
        record {
          it = turn u d w.it;
          more = w.more;
          whole = ap (λ (vs : List T). u ∷ vs) (ap (branch_text (cases s u) d) w.whole ∙ branch_append (cases s u) (h s u) d (turns_text cases v ds [] ++ t ∷ []) w.more ∙ ap (λ (us : List T). us ++ w.more) (branch_append (cases s u) (h s u) d (turns_text cases v ds []) (t ∷ [])));
        }
    | inr x ↦ at_item s u d (turns_text cases (branch_value (cases s u) d) ds []) ((or_parts _ _ n).1) t x
  ]

  pub turns_further : (s : S) → Further (turns cases s)
  turns_further s d n t g = let w = further_turns s d n t g in record { it = w.it; more = w.more; whole = w.whole }

pub narrowed_further : {T K X Y : Type 0} (k : K) (f : X → Option Y) (l : Lang T K X) → ((d : l.Of) → f (l.value d) ≡ None → Extended f l d) → Further l → Further (narrowed k f l)
narrowed_further {T} {K} {X} {Y} k f l extends h d n t g = let w = h d.0 n t g in by w (f (l.value w.it)) refl
  where
    by : (w : Begins l (l.text d.0 [] ++ t ∷ [])) (o : Option Y) → f (l.value w.it) ≡ o → Begins (narrowed k f l) (l.text d.0 [] ++ t ∷ [])
    by w None e =
        let b = extends w.it e in
        record { it = (b.it, b.taken); more = w.more ++ b.more; whole = b.text ∙ ap (λ (us : List T). us ++ b.more) w.whole ∙ append_assoc (l.text d.0 [] ++ t ∷ []) w.more b.more }
    by w (Some y) e = record { it = (w.it, rw e tt); more = w.more; whole = w.whole }

-- ---- what follows the next token changes nothing

pub elsewhere_ok : {T K X : Type 0} (l : Lang T K X) → Exact l → (before r s : List T) (x : X) → next s ≡ next r → l.read (before ++ r) ≡ Ok (x, r) → l.read (before ++ s) ≡ Ok (x, s)
elsewhere_ok {T} {K} {X} l h before r s x same e =
    let f = h.found (before ++ r) x r e in
    let is : before ≡ l.text f.it [] = append_cancel_right before (l.text f.it []) r (f.text ∙ apart l h f.it r) in
    ap l.read (ap (λ (us : List T). us ++ s) is ∙ sym (apart l h f.it s)) ∙ h.only f.it s (ap (l.goes_on f.it) same ∙ f.stops) ∙ ap (λ (y : X). Ok (y, s)) f.is

pub elsewhere_fault : {T K X : Type 0} (l : Lang T K X) → Exact l → (before r s : List T) (k : K) → next s ≡ next r → l.read (before ++ r) ≡ fault k r → l.read (before ++ s) ≡ fault k s
elsewhere_fault {T} l h before r s k same e =
    let f = h.least (before ++ r) k r e in
    let is : before ≡ f.before = append_cancel_right before f.before r f.parts in
    ap (λ (us : List T). l.read (us ++ s)) is ∙ f.again s same

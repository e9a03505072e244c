-- At which tokens a derivation could go on, where that does not depend on the derivation.
use Rattle.std.proofs.Common.{◌≡◌, ℕ, zero, suc, Bool, true, false, List, [], ◌∷◌, Option, Some, None, refl, sym, ap, ◌∙◌}
use Rattle.std.specs.Prelude.{◌||◌}
use Rattle.std.proofs.Math.Bool.{or-false}
use Rattle.tv_grammar.specs.Reads.{first_or}
use Rattle.tv_grammar.specs.Langs.{Lang, unit, then, mapped, Branch, stop, go, OfBranch, branch_value, is_go, headed, Turns, done, turn, turns_text, turns_go_on, goes_at, turns, times, each}
use Rattle.tv_grammar.specs.Exact.{Goes, BranchGoes, nowhere, Ends}

pub unit_goes : {T X : Type 0} (K : Type 0) (x : X) → Goes {T = T} {K = K} (unit x) nowhere
unit_goes K x d t = refl

pub mapped_goes : {T K X Y : Type 0} (f : X → Y) (l : Lang T K X) (g : Option T → Bool) → Goes l g → Goes (mapped f l) g
mapped_goes f l g h d t = h d.0 t

pub headed_goes : {T K X : Type 0} (missing : K) (cases : T → Branch T K X) (g : Option T → Bool) → ((t : T) → BranchGoes (cases t) g) → Goes (headed missing cases) g
headed_goes missing cases g h d t = h d.0 d.1 t

of_go : {T K X : Type 0} (b : Branch T K X) → OfBranch b → is_go b ≡ true
of_go (stop k) d = absurd d
of_go (go l) d = refl

or_false : (a b : Bool) → b ≡ false → (a || b) ≡ a
or_false true b e = refl
or_false false b e = e

-- where what follows begins with none of the tokens at which the front goes on
pub then_goes : {T K X Y : Type 0} (a : Lang T K X) (b : X → Lang T K Y) (ga gb : Option T → Bool) → Goes a ga → ((x : X) → Goes (b x) gb) → ((x : X) (d : (b x).Of) (t : Option T) → ga (first_or ((b x).text d []) t) ≡ false) → Goes (then a b) gb
then_goes a b ga gb h i split d t =
    ap (λ (v : Bool). v || a.goes_on d.0 (first_or ((b (a.value d.0)).text d.1 []) t)) (i (a.value d.0) d.1 t)
    ∙ ap (λ (v : Bool). gb t || v) (h d.0 (first_or ((b (a.value d.0)).text d.1 []) t) ∙ split (a.value d.0) d.1 t)
    ∙ or-false (gb t)

-- where the front never goes on
pub behind_goes : {T K X Y : Type 0} (a : Lang T K X) (b : X → Lang T K Y) (gb : Option T → Bool) → Goes a nowhere → ((x : X) → Goes (b x) gb) → Goes (then a b) gb
behind_goes a b gb h i = then_goes a b nowhere gb h i (λ x d t. refl)

pub times_goes : {T K X : Type 0} (n : ℕ) (l : Lang T K X) → Goes l nowhere → Goes (times n l) nowhere
unfolding times
times_goes {T} {K} {X} zero l h = unit_goes {T = T} {X = List X} K []
times_goes (suc n) l h = behind_goes l (λ x. mapped (λ xs. x ∷ xs) (times n l)) nowhere h (λ x. mapped_goes (λ xs. x ∷ xs) (times n l) nowhere (times_goes n l h))

pub each_goes : {T K A X : Type 0} (l : A → Lang T K X) (for : List A) → ((a : A) → Goes (l a) nowhere) → Goes (each l for) nowhere
unfolding each
each_goes {T} {K} {A} {X} l [] h = unit_goes {T = T} {X = List X} K []
each_goes l (a ∷ rest) h = behind_goes (l a) (λ x. mapped (λ xs. x ∷ xs) (each l rest)) nowhere (h a) (λ x. mapped_goes (λ xs. x ∷ xs) (each l rest) nowhere (each_goes l rest h))

pub goes_ends : {T K X : Type 0} (l : Lang T K X) (g : Option T → Bool) → Goes l g → g None ≡ false → Ends l
goes_ends l g h e d = h d None ∙ e

-- ---- turns that begin with the tokens of c, and whose items go on at those of ga, none of them in c

module _ {T K S : Type 0} (cases : S → T → Branch T K S) (c ga : Option T → Bool) (is : (s : S) (t : Option T) → goes_at (cases s) t ≡ c t) (item : (s : S) (t : T) → BranchGoes (cases s t) ga) (split : (t : T) → c (Some t) ≡ true → ga (Some t) ≡ false) where
  tail_goes : (s : S) (d : Turns cases s) (u : Option T) → (turns_go_on cases s d u || ga (first_or (turns_text cases s d []) u)) ≡ (c u || ga u)
  tail_goes s done u = ap (λ (b : Bool). b || ga u) (is s u)
  tail_goes s (turn t d ds) u =
      let v : S = branch_value (cases s t) d in
      let w : Option T = first_or (turns_text cases v ds []) u in
      ap (λ (b : Bool). (turns_go_on cases v ds u || b) || ga (Some t)) (item s t d w)
      ∙ ap (λ (b : Bool). b || ga (Some t)) (tail_goes v ds u)
      ∙ or_false (c u || ga u) (ga (Some t)) (split t (sym (is s (Some t)) ∙ of_go (cases s t) d))

  pub then_turns_goes : {X Y : Type 0} (a : Lang T K X) (s : X → S) (f : S → Y) → Goes a ga → Goes (then a (λ x. mapped f (turns cases (s x)))) (λ u. c u || ga u)
  then_turns_goes a s f h d u =
      ap (λ (b : Bool). turns_go_on cases (s (a.value d.0)) d.1.0 u || b) (h d.0 (first_or (turns_text cases (s (a.value d.0)) d.1.0 []) u))
      ∙ tail_goes (s (a.value d.0)) d.1.0 u

-- where an item itself never goes on
pub turns_goes : {T K S : Type 0} (cases : S → T → Branch T K S) (c : Option T → Bool) → ((s : S) (t : Option T) → goes_at (cases s) t ≡ c t) → ((s : S) (t : T) → BranchGoes (cases s t) nowhere) → (s : S) → Goes (turns cases s) c
turns_goes cases c is item s d u = sym (or-false (turns_go_on cases s d u)) ∙ tail_goes cases c nowhere is item (λ t e. refl) s d u ∙ or-false (c u)

-- What is read as a sum is one, and each sum is read.
use Rattle.std.proofs.Common.{◌≡◌, ℕ, zero, suc, Bool, true, false, List, [], ◌∷◌, ◌++◌, refl, sym, ap, subst, ◌∙◌, append_assoc, pos}
use Rattle.std.proofs.lemmas.List.{append-nil}
use Rattle.std.specs.Prelude.{◌&&◌}
use Rattle.tv_language.specs.declared.token.TokenKind.TheVariants as kinds
use Rattle.tv_program.specs.Trees as trees
use Rattle.tv_program.specs.Trees.{Expression}
use Rattle.tv_program.specs.Views.{parts_of}
use Rattle.tv_program.specs.Limits.{is_constant, are_constant, is_linear_product}
use Rattle.tv_language.specs.Symbols.{Symbol, number, name, drawn, fixed}
use Rattle.tv_language.specs.Sums.{gathered, IsFactor, constant, variable, draw, bracketed, negative, AreFactors, no_factor, times, IsProduct, factors, AreProducts, no_product, plus, less, IsSum, products}
use Rattle.tv_grammar.specs.Langs.{then, OfBranch, branch_text, branch_value, Turns, done, turn, turns_text, turns_value}
use Rattle.tv_reading.specs.Marks.{Mark, plain, refused, symbols_of}
use Rattle.tv_reading.specs.SumGrammar.{Grammar, every, close_cases, open_cases, closed, brackets, leaf_cases, bottom, deeper, factor_cases, star_cases, product_over, sum_cases, sum_over, factor_at, product_at, sum_at}
use Rattle.tv_reading.proofs.LinearLemmas.{constant_all, constant_first, constant_rest, product-constant, sum-constant, linear-push, linear-split}
use Rattle.std.proofs.lemmas.Bool.{and_right, and_left}

-- ---- what is read is in the grammar

pub closed_text : {X : Type 0} (x : X) (d : (closed x).Of) (rest : List Mark) → (closed x).text d rest ≡ plain (fixed kinds.RightRound) ∷ rest
closed_text x d rest = at d.0 d.1
  where
    at : (m : Mark) (e : OfBranch (close_cases x m)) → m ∷ branch_text (close_cases x m) e rest ≡ plain (fixed kinds.RightRound) ∷ rest
    at (plain (fixed kinds.RightRound)) e = refl
    at _ e = absurd e

pub closed_value : {X : Type 0} (x : X) (d : (closed x).Of) → (closed x).value d ≡ x
closed_value x d = at d.0 d.1
  where
    at : (m : Mark) (e : OfBranch (close_cases x m)) → branch_value (close_cases x m) e ≡ x
    at (plain (fixed kinds.RightRound)) e = refl
    at _ e = absurd e

brackets_text : {X : Type 0} (x : X) (d : (brackets x).Of) (rest : List Mark) → (brackets x).text d rest ≡ plain (fixed kinds.LeftRound) ∷ plain (fixed kinds.RightRound) ∷ rest
brackets_text x d rest = at d.0 d.1
  where
    at : (m : Mark) (e : OfBranch (open_cases (closed x) m)) → m ∷ branch_text (open_cases (closed x) m) e rest ≡ plain (fixed kinds.LeftRound) ∷ plain (fixed kinds.RightRound) ∷ rest
    at (plain (fixed kinds.LeftRound)) e = ap (λ (us : List Mark). plain (fixed kinds.LeftRound) ∷ us) (closed_text x e rest)
    at _ e = absurd e

brackets_value : {X : Type 0} (x : X) (d : (brackets x).Of) → (brackets x).value d ≡ x
brackets_value x d = at d.0 d.1
  where
    at : (m : Mark) (e : OfBranch (open_cases (closed x) m)) → branch_value (open_cases (closed x) m) e ≡ x
    at (plain (fixed kinds.LeftRound)) e = closed_value x e
    at _ e = absurd e

-- where names may not stand, what is read is constant
abbrev pub Free : Bool → Expression → Type 0
Free free e = free ≡ false → is_constant e ≡ true

abbrev pub AreFactor : ℕ → Bool → Grammar Expression → Type 0
AreFactor n free l = (d : l.Of) (rest : List Mark) → IsFactor n (l.value d) (symbols_of (l.text d rest)) (symbols_of rest) × Free free (l.value d)

abbrev AreSum : ℕ → Bool → Grammar Expression → Type 0
AreSum n free l = (d : l.Of) (rest : List Mark) → IsSum n (l.value d) (symbols_of (l.text d rest)) (symbols_of rest) × Free free (l.value d)

abbrev AreProduct : ℕ → Bool → Grammar Expression → Type 0
AreProduct n free l = (d : l.Of) (rest : List Mark) → IsProduct n (l.value d) (symbols_of (l.text d rest)) (symbols_of rest) × Free free (l.value d)

factor_along : (n : ℕ) (e f : Expression) (ts us rest : List Symbol) → f ≡ e → us ≡ ts → IsFactor n e ts rest → IsFactor n f us rest
factor_along n e f ts us rest is at h = subst (λ (g : Expression). IsFactor n g us rest) (sym is) (subst (λ (vs : List Symbol). IsFactor n e vs rest) (sym at) h)

leaf_is : (n : ℕ) (free : Bool) (m : Mark) (d : OfBranch (leaf_cases every free m)) (rest : List Mark) → IsFactor n (branch_value (leaf_cases every free m) d) (symbols_of (m ∷ branch_text (leaf_cases every free m) d rest)) (symbols_of rest) × Free free (branch_value (leaf_cases every free m) d)
leaf_is n free (plain (number k)) d rest = (constant, λ e. refl)
leaf_is n free (plain (fixed kinds.Wide)) d rest = absurd d
leaf_is n true (plain (name v)) d rest = (variable, λ e. absurd cc)
leaf_is n false (plain (name v)) d rest = absurd d
leaf_is n true (plain (drawn k)) d rest = (factor_along n _ _ _ _ _ (brackets_value (trees.draw k) d) (ap (λ (us : List Mark). drawn k ∷ symbols_of us) (brackets_text (trees.draw k) d rest)) draw, λ e. absurd cc)
leaf_is n false (plain (drawn k)) d rest = absurd d
leaf_is n true (refused k kinds.Name) d rest = absurd d
leaf_is n false (refused k kinds.Name) d rest = absurd d
leaf_is n true (refused k kinds.Nondet) d rest = absurd d
leaf_is n false (refused k kinds.Nondet) d rest = absurd d
leaf_is n free _ d rest = absurd d

bracket_is : (n : ℕ) (free : Bool) (s : Grammar Expression) → AreSum n free s → (d : (then s closed).Of) (rest : List Mark) → IsFactor (suc n) ((then s closed).value d) (fixed kinds.LeftRound ∷ symbols_of ((then s closed).text d rest)) (symbols_of rest) × Free free ((then s closed).value d)
bracket_is n free s h d rest =
    let one = h d.0 (plain (fixed kinds.RightRound) ∷ rest) in
    let value = closed_value (s.value d.0) d.1 in
    (factor_along (suc n) _ _ _ _ _ value (ap (λ (us : List Mark). fixed kinds.LeftRound ∷ symbols_of (s.text d.0 us)) (closed_text (s.value d.0) d.1 rest)) (bracketed one.0), λ e. ap is_constant value ∙ one.1 e)

factor_is_zero : (free : Bool) (m : Mark) (d : OfBranch (factor_cases every free bottom m)) (rest : List Mark) → IsFactor 0 (branch_value (factor_cases every free bottom m) d) (symbols_of (m ∷ branch_text (factor_cases every free bottom m) d rest)) (symbols_of rest) × Free free (branch_value (factor_cases every free bottom m) d)
factor_is_zero free (plain (fixed kinds.LeftRound)) d rest = absurd d
factor_is_zero free (plain (fixed kinds.Minus)) d rest = absurd d
factor_is_zero free m d rest = leaf_is 0 free m d rest

factor_is_suc : (n : ℕ) (free : Bool) (s f : Grammar Expression) → AreSum n free s → AreFactor n free f → (m : Mark) (d : OfBranch (factor_cases every free (deeper s f) m)) (rest : List Mark) → IsFactor (suc n) (branch_value (factor_cases every free (deeper s f) m) d) (symbols_of (m ∷ branch_text (factor_cases every free (deeper s f) m) d rest)) (symbols_of rest) × Free free (branch_value (factor_cases every free (deeper s f) m) d)
factor_is_suc n free s f h i (plain (fixed kinds.LeftRound)) d rest = bracket_is n free s h d rest
factor_is_suc n free s f h i (plain (fixed kinds.Minus)) d rest = let one = i d.0 rest in (negative one.0, one.1)
factor_is_suc n free s f h i m d rest = leaf_is (suc n) free m d rest

-- the factors that turns add
pub record Added (n : ℕ) (free : Bool) (es all : List Expression) (ts rest : List Symbol) : Type 0 where
  pub more : List Expression
  pub are : AreFactors n more ts rest
  pub joined : all ≡ es ++ more
  pub linear : is_linear_product (parts_of es) ≡ true → is_linear_product (parts_of all) ≡ true
  pub constant : free ≡ false → are_constant (parts_of es) ≡ true → are_constant (parts_of all) ≡ true

pub stars_are : (n : ℕ) (free : Bool) (f : Bool → Grammar Expression) → ((free : Bool) → AreFactor n free (f free)) → (es : List Expression) (d : Turns (star_cases f free) es) (rest : List Mark) → Added n free es (turns_value (star_cases f free) es d) (symbols_of (turns_text (star_cases f free) es d rest)) (symbols_of rest)
stars_are n free f h es done rest = record { more = []; are = no_factor; joined = sym (append-nil es); linear = λ e. e; constant = λ e g. g }
stars_are n free f h es (turn (plain (fixed kinds.Star)) d ds) rest =
    let flag : Bool = free && are_constant (parts_of es) in
    let e : Expression = (f flag).value d.0 in
    let next : List Expression = es ++ e ∷ [] in
    let one = h flag d.0 (turns_text (star_cases f free) next ds rest) in
    let w = stars_are n free f h next ds rest in
    record {
      more = e ∷ w.more;
      are = times one.0 w.are;
      joined = w.joined ∙ append_assoc es (e ∷ []) w.more;
      linear = λ l. w.linear (linear-push es e l (λ c. one.1 (and_right free (are_constant (parts_of es)) c)));
      constant = λ c g. w.constant c (constant_all es e g (one.1 (and_left free (are_constant (parts_of es)) c)));
    }
stars_are n free f h es (turn m d ds) rest = absurd d

pub one_linear : (e : Expression) → is_linear_product (parts_of (e ∷ [])) ≡ true
one_linear e = linear-push [] e refl (λ w. absurd cc)

product_is_over : (n : ℕ) (free : Bool) (f : Bool → Grammar Expression) → ((free : Bool) → AreFactor n free (f free)) → AreProduct n free (product_over f free)
product_is_over n free f h d rest =
    let e : Expression = (f free).value d.0 in
    let w = stars_are n free f h (e ∷ []) d.1.0 rest in
    let one = h free d.0 (turns_text (star_cases f free) (e ∷ []) d.1.0 rest) in
    let all : List Expression = turns_value (star_cases f free) (e ∷ []) d.1.0 in (
      subst (λ (es : List Expression). IsProduct n (gathered trees.product es) (symbols_of ((product_over f free).text d rest)) (symbols_of rest)) (sym w.joined) (factors one.0 w.are (subst (λ (es : List Expression). is_linear_product (parts_of es) ≡ true) w.joined (w.linear (one_linear e)))),
      λ c. product-constant all ∙ w.constant c (constant_all [] e refl (one.1 c)),
    )

-- the products that turns add
pub record Summed (n : ℕ) (free : Bool) (es all : List Expression) (ts rest : List Symbol) : Type 0 where
  pub more : List Expression
  pub are : AreProducts n more ts rest
  pub joined : all ≡ es ++ more
  pub constant : free ≡ false → are_constant (parts_of es) ≡ true → are_constant (parts_of all) ≡ true

pub signs_are : (n : ℕ) (free : Bool) (p : Grammar Expression) → AreProduct n free p → (es : List Expression) (d : Turns (sum_cases p) es) (rest : List Mark) → Summed n free es (turns_value (sum_cases p) es d) (symbols_of (turns_text (sum_cases p) es d rest)) (symbols_of rest)
signs_are n free p h es done rest = record { more = []; are = no_product; joined = sym (append-nil es); constant = λ e g. g }
signs_are n free p h es (turn (plain (fixed kinds.Plus)) d ds) rest =
    let e : Expression = p.value d.0 in
    let next : List Expression = es ++ e ∷ [] in
    let one = h d.0 (turns_text (sum_cases p) next ds rest) in
    let w = signs_are n free p h next ds rest in
    record {
      more = e ∷ w.more;
      are = plus one.0 w.are;
      joined = w.joined ∙ append_assoc es (e ∷ []) w.more;
      constant = λ c g. w.constant c (constant_all es e g (one.1 c));
    }
signs_are n free p h es (turn (plain (fixed kinds.Minus)) d ds) rest =
    let e : Expression = p.value d.0 in
    let next : List Expression = es ++ trees.minus e ∷ [] in
    let one = h d.0 (turns_text (sum_cases p) next ds rest) in
    let w = signs_are n free p h next ds rest in
    record {
      more = trees.minus e ∷ w.more;
      are = less one.0 w.are;
      joined = w.joined ∙ append_assoc es (trees.minus e ∷ []) w.more;
      constant = λ c g. w.constant c (constant_all es (trees.minus e) g (one.1 c));
    }
signs_are n free p h es (turn m d ds) rest = absurd d

sum_is_over : (n : ℕ) (free : Bool) (p : Grammar Expression) → AreProduct n free p → AreSum n free (sum_over p)
sum_is_over n free p h d rest =
    let e : Expression = p.value d.0 in
    let w = signs_are n free p h (e ∷ []) d.1.0 rest in
    let one = h d.0 (turns_text (sum_cases p) (e ∷ []) d.1.0 rest) in
    let all : List Expression = turns_value (sum_cases p) (e ∷ []) d.1.0 in (
      subst (λ (es : List Expression). IsSum n (gathered trees.sum es) (symbols_of ((sum_over p).text d rest)) (symbols_of rest)) (sym w.joined) (products one.0 w.are),
      λ c. sum-constant all ∙ w.constant c (constant_all [] e refl (one.1 c)),
    )

pub factor_is : (n : ℕ) (free : Bool) → AreFactor n free (factor_at every n free)
unfolding factor_at
factor_is zero free d rest = factor_is_zero free d.0 d.1 rest
factor_is (suc n) free d rest = factor_is_suc n free (sum_over (product_over (factor_at every n) free)) (factor_at every n free) (sum_is_over n free (product_over (factor_at every n) free) (product_is_over n free (factor_at every n) (factor_is n))) (factor_is n free) d.0 d.1 rest

pub sum_is : (n : ℕ) (free : Bool) (d : (sum_at every n free).Of) (rest : List Mark) → IsSum n ((sum_at every n free).value d) (symbols_of ((sum_at every n free).text d rest)) (symbols_of rest)
sum_is n free d rest = (sum_is_over n free (product_at every n free) (product_is_over n free (factor_at every n) (factor_is n)) d rest).0

-- ---- each sum is read

-- the marks are a derivation that stands for x, and then marks of these symbols
pub record Back {X : Type 0} (l : Grammar X) (x : X) (ms : List Mark) (rest : List Symbol) : Type 0 where
  pub it : l.Of
  pub left : List Mark
  pub text : ms ≡ l.text it left
  pub same : symbols_of left ≡ rest
  pub is : l.value it ≡ x

-- the first mark of these symbols, where its symbol is none that is refused
pub record Front (s : Symbol) (ms : List Mark) (ss : List Symbol) : Type 0 where
  pub rest : List Mark
  pub text : ms ≡ plain s ∷ rest
  pub same : symbols_of rest ≡ ss

pub front : (s : Symbol) (ms : List Mark) (ss : List Symbol) → (s ≡ fixed kinds.Unread → ⊥) → symbols_of ms ≡ s ∷ ss → Front s ms ss
front s [] ss n e = absurd cc
front s (plain t ∷ ms) ss n e = let is : t ≡ s = cc in record { rest = ms; text = ap (λ (u : Symbol). plain u ∷ ms) is; same = cc }
front s (refused k kind ∷ ms) ss n e = let is : fixed kinds.Unread ≡ s = cc in absurd (n (sym is))

constant_back : (n : ℕ) (free : Bool) (k : ℕ) (ms : List Mark) (rest : List Symbol) → Front (number k) ms rest → Back (factor_at every n free) (trees.number (pos k)) ms rest
unfolding factor_at
constant_back zero free k ms rest f = record { it = (plain (number k), tt); left = f.rest; text = f.text; same = f.same; is = refl }
constant_back (suc n) free k ms rest f = record { it = (plain (number k), tt); left = f.rest; text = f.text; same = f.same; is = refl }

variable_back : (n : ℕ) (free : Bool) (v : ℕ) → Free free (trees.variable v) → (ms : List Mark) (rest : List Symbol) → Front (name v) ms rest → Back (factor_at every n free) (trees.variable v) ms rest
unfolding factor_at
variable_back zero true v h ms rest f = record { it = (plain (name v), tt); left = f.rest; text = f.text; same = f.same; is = refl }
variable_back (suc n) true v h ms rest f = record { it = (plain (name v), tt); left = f.rest; text = f.text; same = f.same; is = refl }
variable_back n false v h ms rest f = let e : false ≡ true = h refl in absurd cc

draw_back : (n : ℕ) (free : Bool) (k : ℕ) → Free free (trees.draw k) → (ms : List Mark) (rest : List Symbol) → Front (drawn k) ms (fixed kinds.LeftRound ∷ fixed kinds.RightRound ∷ rest) → Back (factor_at every n free) (trees.draw k) ms rest
unfolding factor_at
draw_back zero true k h ms rest f =
    let g = front (fixed kinds.LeftRound) f.rest (fixed kinds.RightRound ∷ rest) (λ e. cc) f.same in
    let i = front (fixed kinds.RightRound) g.rest rest (λ e. cc) g.same in
    record { it = (plain (drawn k), (plain (fixed kinds.LeftRound), (plain (fixed kinds.RightRound), tt))); left = i.rest; text = f.text ∙ ap (λ (us : List Mark). plain (drawn k) ∷ us) (g.text ∙ ap (λ (us : List Mark). plain (fixed kinds.LeftRound) ∷ us) i.text); same = i.same; is = refl }
draw_back (suc n) true k h ms rest f =
    let g = front (fixed kinds.LeftRound) f.rest (fixed kinds.RightRound ∷ rest) (λ e. cc) f.same in
    let i = front (fixed kinds.RightRound) g.rest rest (λ e. cc) g.same in
    record { it = (plain (drawn k), (plain (fixed kinds.LeftRound), (plain (fixed kinds.RightRound), tt))); left = i.rest; text = f.text ∙ ap (λ (us : List Mark). plain (drawn k) ∷ us) (g.text ∙ ap (λ (us : List Mark). plain (fixed kinds.LeftRound) ∷ us) i.text); same = i.same; is = refl }
draw_back n false k h ms rest f = let e : false ≡ true = h refl in absurd cc

-- "(" in front and ")" after
pub enclosed : {X : Type 0} (l : Grammar X) (x : X) (ms : List Mark) (rest : List Symbol) → Back l x ms (fixed kinds.RightRound ∷ rest) → Back (then l closed) x ms rest
enclosed l x ms rest b =
    let g = front (fixed kinds.RightRound) b.left rest (λ e. cc) b.same in
    record { it = (b.it, (plain (fixed kinds.RightRound), tt)); left = g.rest; text = b.text ∙ ap (l.text b.it) g.text; same = g.same; is = b.is }

bracket_back : (n : ℕ) (free : Bool) (e : Expression) (ms : List Mark) (ts rest : List Symbol) (f : Front (fixed kinds.LeftRound) ms ts) → Back (sum_at every n free) e f.rest (fixed kinds.RightRound ∷ rest) → Back (factor_at every (suc n) free) e ms rest
unfolding factor_at
bracket_back n free e ms ts rest f b =
    let g = enclosed (sum_at every n free) e f.rest rest b in
    record { it = (plain (fixed kinds.LeftRound), g.it); left = g.left; text = f.text ∙ ap (λ (us : List Mark). plain (fixed kinds.LeftRound) ∷ us) g.text; same = g.same; is = g.is }

negative_back : (n : ℕ) (free : Bool) (e : Expression) (ms : List Mark) (ts rest : List Symbol) (f : Front (fixed kinds.Minus) ms ts) → Back (factor_at every n free) e f.rest rest → Back (factor_at every (suc n) free) (trees.minus e) ms rest
unfolding factor_at
negative_back n free e ms ts rest f b = record { it = (plain (fixed kinds.Minus), (b.it, tt)); left = b.left; text = f.text ∙ ap (λ (us : List Mark). plain (fixed kinds.Minus) ∷ us) b.text; same = b.same; is = ap trees.minus b.is }

record BackStars (n : ℕ) (free : Bool) (es all : List Expression) (ms : List Mark) (rest : List Symbol) : Type 0 where
  it : Turns (star_cases (factor_at every n) free) es
  left : List Mark
  text : ms ≡ turns_text (star_cases (factor_at every n) free) es it left
  same : symbols_of left ≡ rest
  is : turns_value (star_cases (factor_at every n) free) es it ≡ all

star_back : (n : ℕ) (free : Bool) (es all : List Expression) (e : Expression) (ms : List Mark) (ts us rest : List Symbol) (f : Front (fixed kinds.Star) ms ts) (b : Back (factor_at every n (free && are_constant (parts_of es))) e f.rest us) → BackStars n free (es ++ e ∷ []) all b.left rest → BackStars n free es all ms rest
star_back n free es all e ms ts us rest f b c =
    let d : BackStars n free (es ++ (factor_at every n (free && are_constant (parts_of es))).value b.it ∷ []) all b.left rest = subst (λ (x : Expression). BackStars n free (es ++ x ∷ []) all b.left rest) (sym b.is) c in
    record { it = turn (plain (fixed kinds.Star)) (b.it, tt) d.it; left = d.left; text = f.text ∙ ap (λ (vs : List Mark). plain (fixed kinds.Star) ∷ vs) (b.text ∙ ap ((factor_at every n (free && are_constant (parts_of es))).text b.it) d.text); same = d.same; is = d.is }

product_back : (n : ℕ) (free : Bool) (e : Expression) (es : List Expression) (ms : List Mark) (us rest : List Symbol) (b : Back (factor_at every n free) e ms us) → BackStars n free (e ∷ []) (e ∷ es) b.left rest → Back (product_at every n free) (gathered trees.product (e ∷ es)) ms rest
product_back n free e es ms us rest b c =
    let d : BackStars n free ((factor_at every n free).value b.it ∷ []) (e ∷ es) b.left rest = subst (λ (x : Expression). BackStars n free (x ∷ []) (e ∷ es) b.left rest) (sym b.is) c in
    record { it = (b.it, (d.it, tt)); left = d.left; text = b.text ∙ ap ((factor_at every n free).text b.it) d.text; same = d.same; is = ap (gathered trees.product) d.is }

record BackSigns (n : ℕ) (free : Bool) (es all : List Expression) (ms : List Mark) (rest : List Symbol) : Type 0 where
  it : Turns (sum_cases (product_at every n free)) es
  left : List Mark
  text : ms ≡ turns_text (sum_cases (product_at every n free)) es it left
  same : symbols_of left ≡ rest
  is : turns_value (sum_cases (product_at every n free)) es it ≡ all

plus_back : (n : ℕ) (free : Bool) (es all : List Expression) (e : Expression) (ms : List Mark) (ts us rest : List Symbol) (f : Front (fixed kinds.Plus) ms ts) (b : Back (product_at every n free) e f.rest us) → BackSigns n free (es ++ e ∷ []) all b.left rest → BackSigns n free es all ms rest
plus_back n free es all e ms ts us rest f b c =
    let d : BackSigns n free (es ++ (product_at every n free).value b.it ∷ []) all b.left rest = subst (λ (x : Expression). BackSigns n free (es ++ x ∷ []) all b.left rest) (sym b.is) c in
    record { it = turn (plain (fixed kinds.Plus)) (b.it, tt) d.it; left = d.left; text = f.text ∙ ap (λ (vs : List Mark). plain (fixed kinds.Plus) ∷ vs) (b.text ∙ ap ((product_at every n free).text b.it) d.text); same = d.same; is = d.is }

less_back : (n : ℕ) (free : Bool) (es all : List Expression) (e : Expression) (ms : List Mark) (ts us rest : List Symbol) (f : Front (fixed kinds.Minus) ms ts) (b : Back (product_at every n free) e f.rest us) → BackSigns n free (es ++ trees.minus e ∷ []) all b.left rest → BackSigns n free es all ms rest
less_back n free es all e ms ts us rest f b c =
    let d : BackSigns n free (es ++ trees.minus ((product_at every n free).value b.it) ∷ []) all b.left rest = subst (λ (x : Expression). BackSigns n free (es ++ trees.minus x ∷ []) all b.left rest) (sym b.is) c in
    record { it = turn (plain (fixed kinds.Minus)) (b.it, tt) d.it; left = d.left; text = f.text ∙ ap (λ (vs : List Mark). plain (fixed kinds.Minus) ∷ vs) (b.text ∙ ap ((product_at every n free).text b.it) d.text); same = d.same; is = d.is }

sum_back : (n : ℕ) (free : Bool) (e : Expression) (es : List Expression) (ms : List Mark) (us rest : List Symbol) (b : Back (product_at every n free) e ms us) → BackSigns n free (e ∷ []) (e ∷ es) b.left rest → Back (sum_at every n free) (gathered trees.sum (e ∷ es)) ms rest
sum_back n free e es ms us rest b c =
    let d : BackSigns n free ((product_at every n free).value b.it ∷ []) (e ∷ es) b.left rest = subst (λ (x : Expression). BackSigns n free (x ∷ []) (e ∷ es) b.left rest) (sym b.is) c in
    record { it = (b.it, (d.it, tt)); left = d.left; text = b.text ∙ ap ((product_at every n free).text b.it) d.text; same = d.same; is = ap (gathered trees.sum) d.is }

flagged : (P : Type 0) (a b : Bool) → (a && b) ≡ false → (a ≡ false → P) → (b ≡ false → P) → P
flagged P true b e f g = g e
flagged P false b e f g = f refl

mutual
  pub back_factor : {n : ℕ} {e : Expression} {ts rest : List Symbol} → IsFactor n e ts rest → (free : Bool) → Free free e → (ms : List Mark) → symbols_of ms ≡ ts → Back (factor_at every n free) e ms rest
  back_factor (constant {n} {k} {rest}) free h ms e = constant_back n free k ms rest (front (number k) ms rest (λ w. cc) e)
  back_factor (variable {n} {v} {rest}) free h ms e = variable_back n free v h ms rest (front (name v) ms rest (λ w. cc) e)
  back_factor (draw {n} {d} {rest}) free h ms e = draw_back n free d h ms rest (front (drawn d) ms (fixed kinds.LeftRound ∷ fixed kinds.RightRound ∷ rest) (λ w. cc) e)
  back_factor (bracketed {n} {e = x} {ts} {rest} s) free h ms e =
      let f = front (fixed kinds.LeftRound) ms ts (λ w. cc) e in
      bracket_back n free x ms ts rest f (back_sum s free h f.rest f.same)
  back_factor (negative {n} {e = x} {ts} {rest} s) free h ms e =
      let f = front (fixed kinds.Minus) ms ts (λ w. cc) e in
      negative_back n free x ms ts rest f (back_factor s free h f.rest f.same)

  back_stars : {n : ℕ} {more : List Expression} {ts rest : List Symbol} → AreFactors n more ts rest → (free : Bool) (es : List Expression) → is_linear_product (parts_of (es ++ more)) ≡ true → (free ≡ false → are_constant (parts_of more) ≡ true) → (ms : List Mark) → symbols_of ms ≡ ts → BackStars n free es (es ++ more) ms rest
  back_stars (no_factor {n} {rest}) free es l c ms e = record { it = done; left = ms; text = refl; same = e; is = sym (append-nil es) }
  back_stars (times {n} {e = x} {es = xs} {ts} {us} {rest} f fs) free es l c ms e =
      let g = front (fixed kinds.Star) ms ts (λ w. cc) e in
      let is : Free (free && are_constant (parts_of es)) x = λ w. flagged (is_constant x ≡ true) free (are_constant (parts_of es)) w (λ v. constant_first x xs (c v)) (λ v. linear-split es x xs l v) in
      let b = back_factor f (free && are_constant (parts_of es)) is g.rest g.same in
      let again : (es ++ x ∷ []) ++ xs ≡ es ++ x ∷ xs = append_assoc es (x ∷ []) xs in
      star_back n free es (es ++ x ∷ xs) x ms ts us rest g b
      (subst (λ (all : List Expression). BackStars n free (es ++ x ∷ []) all b.left rest) again
      (back_stars fs free (es ++ x ∷ []) (ap (λ (all : List Expression). is_linear_product (parts_of all)) again ∙ l) (λ v. constant_rest x xs (c v)) b.left b.same))

  back_product : {n : ℕ} {e : Expression} {ts rest : List Symbol} → IsProduct n e ts rest → (free : Bool) → Free free e → (ms : List Mark) → symbols_of ms ≡ ts → Back (product_at every n free) e ms rest
  back_product (factors {n} {e = x} {es = xs} {ts} {us} {rest} f fs l) free h ms e =
      let all : free ≡ false → are_constant (parts_of (x ∷ xs)) ≡ true = λ v. sym (product-constant (x ∷ xs)) ∙ h v in
      let b = back_factor f free (λ v. constant_first x xs (all v)) ms e in
      product_back n free x xs ms us rest b (back_stars fs free (x ∷ []) l (λ v. constant_rest x xs (all v)) b.left b.same)

  back_signs : {n : ℕ} {more : List Expression} {ts rest : List Symbol} → AreProducts n more ts rest → (free : Bool) (es : List Expression) → (free ≡ false → are_constant (parts_of more) ≡ true) → (ms : List Mark) → symbols_of ms ≡ ts → BackSigns n free es (es ++ more) ms rest
  back_signs (no_product {n} {rest}) free es c ms e = record { it = done; left = ms; text = refl; same = e; is = sym (append-nil es) }
  back_signs (plus {n} {e = x} {es = xs} {ts} {us} {rest} f fs) free es c ms e =
      let g = front (fixed kinds.Plus) ms ts (λ w. cc) e in
      let b = back_product f free (λ v. constant_first x xs (c v)) g.rest g.same in
      plus_back n free es (es ++ x ∷ xs) x ms ts us rest g b
      (subst (λ (all : List Expression). BackSigns n free (es ++ x ∷ []) all b.left rest) (append_assoc es (x ∷ []) xs) (back_signs fs free (es ++ x ∷ []) (λ v. constant_rest x xs (c v)) b.left b.same))
  back_signs (less {n} {e = x} {es = xs} {ts} {us} {rest} f fs) free es c ms e =
      let g = front (fixed kinds.Minus) ms ts (λ w. cc) e in
      let b = back_product f free (λ v. constant_first (trees.minus x) xs (c v)) g.rest g.same in
      less_back n free es (es ++ trees.minus x ∷ xs) x ms ts us rest g b
      (subst (λ (all : List Expression). BackSigns n free (es ++ trees.minus x ∷ []) all b.left rest) (append_assoc es (trees.minus x ∷ []) xs) (back_signs fs free (es ++ trees.minus x ∷ []) (λ v. constant_rest (trees.minus x) xs (c v)) b.left b.same))

  pub back_sum : {n : ℕ} {e : Expression} {ts rest : List Symbol} → IsSum n e ts rest → (free : Bool) → Free free e → (ms : List Mark) → symbols_of ms ≡ ts → Back (sum_at every n free) e ms rest
  back_sum (products {n} {e = x} {es = xs} {ts} {us} {rest} f fs) free h ms e =
      let all : free ≡ false → are_constant (parts_of (x ∷ xs)) ≡ true = λ v. sym (sum-constant (x ∷ xs)) ∙ h v in
      let b = back_product f free (λ v. constant_first x xs (all v)) ms e in
      sum_back n free x xs ms us rest b (back_signs fs free (x ∷ []) (λ v. constant_rest x xs (all v)) b.left b.same)

-- each sum is read
pub sum_is_read : {n : ℕ} {e : Expression} {ts rest : List Symbol} → IsSum n e ts rest → (ms : List Mark) → symbols_of ms ≡ ts → Back (sum_at every n true) e ms rest
sum_is_read s ms e = back_sum s true (λ w. absurd cc) ms e

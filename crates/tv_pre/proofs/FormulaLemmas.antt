-- Formulas by what they state.
use Rattle.std.proofs.Common.{◌≡◌, List, refl, sym, ap}
use Rattle.tv_formula.specs.declared.tree.Path.{Path}
use Rattle.tv_formula.specs.declared.tree.Shape.{Shape}
use Rattle.tv_formula.specs.Properties.{Property, truth, compare, at, term, negated, all_of, some_of, next, fix, Properties}
use Rattle.tv_program.specs.declared.tree.Relation.{Relation}
use Rattle.tv_program.specs.Trees.{Expression}
use Rattle.tv_linear.specs.Linear.{Linear}
use Rattle.tv_cert.specs.Statements.{Statement, ends, never_ends, each_of, one_of, after, along, Statements, denial_of, stated, stated_all}

-- ---- what a negation does not state
ends_undenied : (f : Property) → ends ≡ denial_of f → ⊥
ends_undenied (truth b) e = cc
ends_undenied (compare r a b) e = cc
ends_undenied (at l) e = cc
ends_undenied term e = cc
ends_undenied (negated f) e = cc
ends_undenied (all_of fs) e = cc
ends_undenied (some_of fs) e = cc
ends_undenied (next path f) e = cc
ends_undenied (fix path shape f g) e = cc

each_undenied : (ss : Statements) (f : Property) → each_of ss ≡ denial_of f → ⊥
each_undenied ss (truth b) e = cc
each_undenied ss (compare r a b) e = cc
each_undenied ss (at l) e = cc
each_undenied ss term e = cc
each_undenied ss (negated f) e = cc
each_undenied ss (all_of fs) e = cc
each_undenied ss (some_of fs) e = cc
each_undenied ss (next path f) e = cc
each_undenied ss (fix path shape f g) e = cc

one_undenied : (ss : Statements) (f : Property) → one_of ss ≡ denial_of f → ⊥
one_undenied ss (truth b) e = cc
one_undenied ss (compare r a b) e = cc
one_undenied ss (at l) e = cc
one_undenied ss term e = cc
one_undenied ss (negated f) e = cc
one_undenied ss (all_of fs) e = cc
one_undenied ss (some_of fs) e = cc
one_undenied ss (next path f) e = cc
one_undenied ss (fix path shape f g) e = cc

after_undenied : (p : Path) (s : Statement) (f : Property) → after p s ≡ denial_of f → ⊥
after_undenied p s (truth b) e = cc
after_undenied p s (compare r a b) e = cc
after_undenied p s (at l) e = cc
after_undenied p s term e = cc
after_undenied p s (negated f) e = cc
after_undenied p s (all_of fs) e = cc
after_undenied p s (some_of fs) e = cc
after_undenied p s (next path f) e = cc
after_undenied p s (fix path shape f g) e = cc

along_undenied : (p : Path) (q : Shape) (s t : Statement) (f : Property) → along p q s t ≡ denial_of f → ⊥
along_undenied p q s t (truth b) e = cc
along_undenied p q s t (compare r a b) e = cc
along_undenied p q s t (at l) e = cc
along_undenied p q s t term e = cc
along_undenied p q s t (negated f) e = cc
along_undenied p q s t (all_of fs) e = cc
along_undenied p q s t (some_of fs) e = cc
along_undenied p q s t (next path f) e = cc
along_undenied p q s t (fix path shape f g) e = cc

-- ---- what a formula is that states this
module _ (tests : Relation → Expression → Expression → List (List Linear)) where
  pub each_is : (ss : Statements) (f : Property) → each_of ss ≡ stated tests f → (fs : Properties) × (f ≡ all_of fs) × (ss ≡ stated_all tests fs)
  each_is ss (truth b) e = absurd cc
  each_is ss (compare r a b) e = absurd cc
  each_is ss (at l) e = absurd cc
  each_is ss term e = absurd cc
  each_is ss (negated f) e = absurd (each_undenied ss f e)
  each_is ss (all_of fs) e = (fs, refl, cc)
  each_is ss (some_of fs) e = absurd cc
  each_is ss (next path f) e = absurd cc
  each_is ss (fix path shape f g) e = absurd cc

  pub one_is : (ss : Statements) (f : Property) → one_of ss ≡ stated tests f → (fs : Properties) × (f ≡ some_of fs) × (ss ≡ stated_all tests fs)
  one_is ss (truth b) e = absurd cc
  one_is ss (compare r a b) e = absurd cc
  one_is ss (at l) e = absurd cc
  one_is ss term e = absurd cc
  one_is ss (negated f) e = absurd (one_undenied ss f e)
  one_is ss (all_of fs) e = absurd cc
  one_is ss (some_of fs) e = (fs, refl, cc)
  one_is ss (next path f) e = absurd cc
  one_is ss (fix path shape f g) e = absurd cc

  pub after_is : (p : Path) (s : Statement) (f : Property) → after p s ≡ stated tests f → (g : Property) × (f ≡ next p g) × (s ≡ stated tests g)
  after_is p s (truth b) e = absurd cc
  after_is p s (compare r a b) e = absurd cc
  after_is p s (at l) e = absurd cc
  after_is p s term e = absurd cc
  after_is p s (negated f) e = absurd (after_undenied p s f e)
  after_is p s (all_of fs) e = absurd cc
  after_is p s (some_of fs) e = absurd cc
  after_is p s (next path f) e = (f, (let same : p ≡ path = cc in ap (λ (q : Path). next q f) (sym same)), cc)
  after_is p s (fix path shape f g) e = absurd cc

  pub along_is : (p : Path) (q : Shape) (s t : Statement) (f : Property) → along p q s t ≡ stated tests f → (g : Property) × (k : Property) × (f ≡ fix p q g k) × (s ≡ stated tests g) × (t ≡ stated tests k)
  along_is p q s t (truth b) e = absurd cc
  along_is p q s t (compare r a b) e = absurd cc
  along_is p q s t (at l) e = absurd cc
  along_is p q s t term e = absurd cc
  along_is p q s t (negated f) e = absurd (along_undenied p q s t f e)
  along_is p q s t (all_of fs) e = absurd cc
  along_is p q s t (some_of fs) e = absurd cc
  along_is p q s t (next path f) e = absurd cc
  along_is p q s t (fix path shape f g) e = (f, g, (let one : p ≡ path = cc in let two : q ≡ shape = cc in (λ i. fix (sym one i) (sym two i) f g)), cc, cc)

  pub ends_is : (f : Property) → ends ≡ stated tests f → f ≡ term
  ends_is (truth b) e = absurd cc
  ends_is (compare r a b) e = absurd cc
  ends_is (at l) e = absurd cc
  ends_is term e = refl
  ends_is (negated f) e = absurd (ends_undenied f e)
  ends_is (all_of fs) e = absurd cc
  ends_is (some_of fs) e = absurd cc
  ends_is (next path f) e = absurd cc
  ends_is (fix path shape f g) e = absurd cc

  pub never_is : (f : Property) → never_ends ≡ stated tests f → f ≡ negated term
  never_is (truth b) e = absurd cc
  never_is (compare r a b) e = absurd cc
  never_is (at l) e = absurd cc
  never_is term e = absurd cc
  never_is (negated f) e = denied f e where
    denied : (g : Property) → never_ends ≡ denial_of g → negated g ≡ negated term
    denied (truth b) e = absurd cc
    denied (compare r a b) e = absurd cc
    denied (at l) e = absurd cc
    denied term e = refl
    denied (negated f) e = absurd cc
    denied (all_of fs) e = absurd cc
    denied (some_of fs) e = absurd cc
    denied (next path f) e = absurd cc
    denied (fix path shape f k) e = absurd cc
  never_is (all_of fs) e = absurd cc
  never_is (some_of fs) e = absurd cc
  never_is (next path f) e = absurd cc
  never_is (fix path shape f g) e = absurd cc

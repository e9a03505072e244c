-- How many pieces the regions of a formula have.
use Rattle.std.proofs.Common.{◌≡◌, inl, inr, ℕ, zero, suc, ◌+◌, ◌*◌, ◌<◌, ◌≤◌, List, [], ◌∷◌, ◌++◌, length, length-append, get_or, take, map, refl, sym, ap, ◌∙◌, subst, arith, Bool, true, false, cond}
use Rattle.std.specs.Prelude.{All, max, sum}
use Rattle.std.proofs.lemmas.List.{take_more, map-append}
use Rattle.std.proofs.lemmas.List.Elements.{All-contains}
use Rattle.tv_program.specs.declared.tree.Relation.{Relation}
use Rattle.tv_program.specs.declared.tree.Relation.TheVariants.{Less, LessEqual, Greater, GreaterEqual, Equal, NotEqual}
use Rattle.tv_program.specs.Trees.{Expression, compare}
use Rattle.tv_formula.specs.declared.tree.Path.{Path}
use Rattle.tv_formula.specs.declared.tree.Path.TheVariants.{Every, Any}
use Rattle.tv_formula.specs.declared.tree.Shape.{Shape}
use Rattle.tv_formula.specs.declared.tree.Shape.TheVariants.{Until, Weak, Release, Strong}
use Rattle.tv_formula.specs.Properties.{Property}
use Rattle.tv_linear.specs.Linear.{Linear}
use Rattle.tv_linear.specs.declared.region.Region.{Region}
use Rattle.tv_cases.specs.Comparisons.{has_rows, comparison_lists}
use Rattle.tv_cases.specs.EdgeCases.{columns_from}
use Rattle.tv_cases.specs.Lists.{compared, lists_of}
use Rattle.tv_cases.specs.Forms.{form}
use Rattle.tv_cases.specs.LinearCases.{LinearCase, CaseSystem, CaseSteps, IsCase, leaving}
use Rattle.tv_cases.proofs.AmountLemmas.{sum-cons}
use Rattle.tv_cert.specs.Obligations.{hold_side}
use Rattle.tv_known.specs.Cycles.{HasCycle, IsLastRound}
use Rattle.tv_known.specs.Rounds.{must_end}
use Rattle.tv_known.specs.Sizes.{product, some_count, all_count, stop_count, next_count, staying_count, growing_count, shrinking_count, round_count, fix_count, comparison_count, term_count, count, size_bound}
use Rattle.tv_known.proofs.SizeLemmas.{up_to_greatest, bounds_counts, trans, times_one}
use Rattle.tv_region.specs.Regions.{lists_at, count_at}
use Rattle.tv_region.specs.Algebra.{IsBoth, IsEither}
use Rattle.tv_region.specs.StepRegions.{HasNoDraws, IsBefore, IsBeforeAll}
use Rattle.tv_rounds.specs.declared.fixed_point.FixedPoint.{FixedPoint}
use Rattle.tv_rounds.specs.Sides.{OnWay, AtEnd, IsSettledBy}
use Rattle.tv_rounds.specs.Calls.{IsNowhere}
use Rattle.tv_rounds.specs.Counts.{AreCounts, added_bound}
use Rattle.tv_rounds.specs.Answers.{IsRound, AreLayers, AreOpen}
use Rattle.tv_rounds.proofs.CountLemmas.{all_one, back_few}
use Rattle.tv_pre.specs.declared.sides.Sides.{Sides}
use Rattle.tv_pre.specs.Along.{IsOfSides}
use Rattle.tv_pre.specs.Around.{two_ends}
use Rattle.tv_pre.specs.Fixed.{IsJoined}
use Rattle.tv_pre.specs.Growing.{IsEverywhere}
use Rattle.tv_pre.specs.Parts.{joined_pieces}
use Rattle.tv_pre.specs.Sized.{counts_at, hold_count, end_count, AreCounted, IsFewBefore, IsFewStaying, IsFewEnd, IsFewOnward, IsFewGoing, IsFewAlong, IsFewJoined, FewIsWithinSize}
use Rattle.tv_pre.proofs.TargetLemmas.{lists_at-append}
use Rattle.tv_pre.proofs.ShortPaths.{IsShort, no_long_path}
use Rattle.tv_pre.proofs.SettledRounds.{short_settles}
use Rattle.std.proofs.lemmas.Bool.{cases_eq}
use Rattle.std.proofs.lemmas.Nat.{mul-le}
use Rattle.std.proofs.Math.Nat.{le_refl}

-- ---- numbers
pub none_less : (n : ℕ) → 0 ≤ n
none_less n = omega arith

pub plus : (a b c d : ℕ) → a ≤ c → b ≤ d → a + b ≤ c + d
plus a b c d h k = omega (arith, h, k)

pub product_last : (ns : List ℕ) (n : ℕ) → product (ns ++ n ∷ []) ≡ product ns * n
product_last [] n = grind arith
product_last (m ∷ ns) n = (let e = product_last ns n in grind (arith, e))

pub sum_last : (ns : List ℕ) (n : ℕ) → sum (ns ++ n ∷ []) ≡ sum ns + n
sum_last [] n = (let e = sum-cons n [] in omega (arith, e))
sum_last (m ∷ ns) n = (let a = sum-cons m (ns ++ n ∷ []) in let b = sum-cons m ns in let c = sum_last ns n in omega (arith, a, b, c))

pub none_summed : sum [] ≤ 0
none_summed = omega arith

pub more_summed : (n : ℕ) (ns : List ℕ) (a b : ℕ) → n ≤ a → sum ns ≤ b → sum (n ∷ ns) ≤ a + b
more_summed n ns a b h k = (let e = sum-cons n ns in omega (arith, e, h, k))

-- of the cases from a location
product_up : (g h : LinearCase → ℕ) → ((c : LinearCase) → g c ≤ h c) → (cs : List LinearCase) → product (map g cs) ≤ product (map h cs)
product_up g h w [] = omega arith
product_up g h w (c ∷ cs) = mul-le (g c) (product (map g cs)) (h c) (product (map h cs)) (w c) (product_up g h w cs)

pub all_of_none : (cases : List LinearCase) (l : ℕ) → all_count cases (λ k. 0) l ≤ stop_count cases l
all_of_none cases l =
    product_up (λ c. max 1 (length c.guards + 0)) (λ c. max 1 (length c.guards))
    (λ c. (let e : length c.guards + 0 ≡ length c.guards = omega arith in subst (λ n. max 1 n ≤ max 1 (length c.guards)) (sym e) (le_refl (max 1 (length c.guards))))) (leaving l cases)

pub term_one : (cases : List LinearCase) (m l : ℕ) → 1 ≤ term_count cases m l
term_one cases m l =
    trans 1 (all_count cases (λ k. 1) l) (term_count cases m l) (all_one cases (λ k. 1) l)
    (up_to_greatest m (λ j. round_count cases Every Until (λ k. 1) (next_count cases Every (λ k. 1)) j l) 0 (none_less m))

-- ---- regions
pub counts_more : (k : ℕ) (regions : List Region) (i : ℕ) (r : Region) → i < length regions → r ≡ get_or regions i r → counts_at k (take (i + 1) regions) ≡ counts_at k (take i regions) ++ count_at k r ∷ []
counts_more k regions i r l e =
    ap (counts_at k) (take_more regions i r l) ∙ map-append (λ (x : Region). count_at k x) (take i regions) (get_or regions i r ∷ []) ∙ ap (λ (x : Region). counts_at k (take i regions) ++ count_at k x ∷ []) (sym e)

pub everywhere_few : (about : CaseSystem) (region : Region) → IsEverywhere about region → (l : ℕ) → count_at l region ≤ 1
everywhere_few about region e l = elim (e.bare l) [
  | inl w ↦ subst (λ ls. length ls ≤ 1) (sym w) (omega arith)
  | inr w ↦ subst (λ ls. length ls ≤ 1) (sym w) (omega arith)
]

pub nowhere_few : (about : CaseSystem) (region : Region) → IsNowhere about region → (l : ℕ) → count_at l region ≤ 0
nowhere_few about region n l = subst (λ ps. length (lists_at l ps) ≤ 0) (sym n.none) (omega arith)

pub more_common : (regions : List Region) (i : ℕ) (common r new : Region) → i < length regions → r ≡ get_or regions i r → IsBoth common r new → (l : ℕ) → count_at l common ≤ product (counts_at l (take i regions)) → count_at l new ≤ product (counts_at l (take (i + 1) regions))
more_common regions i common r new n e b l h =
    let so_far = counts_at l (take i regions) in
    subst (λ ns. count_at l new ≤ product ns) (sym (counts_more l regions i r n e))
    (subst (λ k. count_at l new ≤ k) (sym (product_last so_far (count_at l r)))
    (trans (count_at l new) (count_at l common * count_at l r) (product so_far * count_at l r) (b.bounded l) (mul-le (count_at l common) (count_at l r) (product so_far) (count_at l r) h (le_refl (count_at l r)))))

pub more_whole : (regions : List Region) (i : ℕ) (whole r new : Region) → i < length regions → r ≡ get_or regions i r → IsEither whole r new → (l : ℕ) → count_at l whole ≤ sum (counts_at l (take i regions)) → count_at l new ≤ sum (counts_at l (take (i + 1) regions))
more_whole regions i whole r new n e b l h =
    let so_far = counts_at l (take i regions) in
    subst (λ ns. count_at l new ≤ sum ns) (sym (counts_more l regions i r n e))
    (subst (λ k. count_at l new ≤ k) (sym (sum_last so_far (count_at l r)))
    (trans (count_at l new) (count_at l whole + count_at l r) (sum so_far + count_at l r) (b.bounded l) (plus (count_at l whole) (count_at l r) (sum so_far) (count_at l r) h (le_refl (count_at l r)))))

pub first_whole : (about : CaseSystem) (whole : Region) → IsNowhere about whole → (l : ℕ) → count_at l whole ≤ sum []
first_whole about whole n l = trans (count_at l whole) 0 (sum []) (nowhere_few about whole n l) (none_less (sum []))

pub joined_count : (l : ℕ) (r : Region) (rs : List Region) → length (lists_at l (joined_pieces (r ∷ rs))) ≡ count_at l r + length (lists_at l (joined_pieces rs))
joined_count l r rs = ap length (lists_at-append l r.pieces.items (joined_pieces rs)) ∙ length-append (lists_at l r.pieces.items) (lists_at l (joined_pieces rs))

pub none_joined : (rest : List Region) → rest ≡ [] → (l : ℕ) → length (lists_at l (joined_pieces rest)) ≤ 0
none_joined rest e l = subst (λ rs. length (lists_at l (joined_pieces rs)) ≤ 0) (sym e) (le_refl 0)

pub nowhere_joined : (about : CaseSystem) (none : Region) → IsNowhere about none → (l : ℕ) → length (lists_at l (joined_pieces (none ∷ []))) ≤ 0
nowhere_joined about none n l = (let q = joined_count l none [] in let z = nowhere_few about none n l in omega (arith, q, z))

-- ---- comparisons
pub comparison_few : (n : ℕ) (r : Relation) (a b : Expression) → length (comparison_lists n r a b) ≤ comparison_count r
comparison_few n r a b = by_width (has_rows n r a b) where
  whole : (q : Relation) (x y : Linear) → length (compared q x y) ≤ comparison_count q
  whole Less x y = le_refl 1
  whole LessEqual x y = le_refl 1
  whole Greater x y = le_refl 1
  whole GreaterEqual x y = le_refl 1
  whole Equal x y = le_refl 1
  whole NotEqual x y = le_refl 2

  by_width : (w : Bool) → length (cond w (lists_of n n (columns_from n 0 n) true (compare r a b)) []) ≤ comparison_count r
  by_width true = whole r (form n n (columns_from n 0 n) a) (form n n (columns_from n 0 n) b)
  by_width false = none_less (comparison_count r)

-- ---- steps back from a region, and from no states
pub every_back_few : (about : CaseSystem) (into region : Region) → IsBeforeAll about into region → IsFewBefore about Every into region
every_back_few about into region h plain b bounded l = back_few about b into region bounded l Every plain h

pub any_back_few : (about : CaseSystem) (into region : Region) → IsBefore about into region → IsFewBefore about Any into region
any_back_few about into region h plain b bounded l = back_few about b into region bounded l Any plain h

pub stops_few : (about : CaseSystem) (none stops : Region) → IsNowhere about none → HasNoDraws about → IsFewBefore about Every none stops → (l : ℕ) → count_at l stops ≤ stop_count about.cases l
stops_few about none stops n plain bounded l = trans (count_at l stops) (all_count about.cases (λ k. 0) l) (stop_count about.cases l) (bounded plain (λ k. 0) (nowhere_few about none n) l) (all_of_none about.cases l)

pub every_few : (about : CaseSystem) (path : Path) (into back : Region) → path ≡ Every → IsFewBefore about path into back → IsFewStaying about path into back
every_few about Every into back e bounded = bounded
every_few about Any into back e bounded = absurd cc

pub any_few : (about : CaseSystem) (path : Path) (into back none stops region : Region) → path ≡ Any → IsNowhere about none → IsFewBefore about path into back → IsFewBefore about Every none stops → IsEither back stops region → IsFewStaying about path into region
any_few about Every into back none stops region e n bounded stop is = absurd cc
any_few about Any into back none stops region e n bounded stop is = λ plain b h l.
    trans (count_at l region) (count_at l back + count_at l stops) (some_count about.cases b l + stop_count about.cases l) (is.bounded l)
    (plus (count_at l back) (count_at l stops) (some_count about.cases b l) (stop_count about.cases l) (bounded plain b h l) (stops_few about none stops n plain stop l))

-- ---- sides
hold_few : (shape : Shape) (a b : Region) (f g : ℕ → ℕ) (l : ℕ) → count_at l a ≤ f l → count_at l b ≤ g l → count_at l (hold_side shape a b) ≤ hold_count shape f g l
hold_few Until a b f g l h k = h
hold_few Weak a b f g l h k = h
hold_few Release a b f g l h k = k
hold_few Strong a b f g l h k = k

module _ (sides : Sides) (f g : ℕ → ℕ) (h : AreCounted sides f g) where
  pub side_few : (hold : Region) → hold ≡ hold_side sides.shape sides.first.now sides.second.now → (l : ℕ) → count_at l hold ≤ hold_count sides.shape f g l
  side_few hold e l = subst (λ r. count_at l r ≤ hold_count sides.shape f g l) (sym e) (hold_few sides.shape sides.first.now sides.second.now f g l (h.first l) (h.second l))

  pub sides_counted : (end : Region) (point : FixedPoint) → IsOfSides sides end point → IsFewEnd sides end → AreCounts point (hold_count sides.shape f g) (end_count sides.shape f g)
  sides_counted end point of bounded = record {
    hold = side_few point.hold.now of.hold;
    end = λ l. subst (λ r. count_at l r ≤ end_count sides.shape f g l) (sym of.ends) (bounded f g h l);
  }

pub onward_few : (about : CaseSystem) (sides : Sides) (into stays hold region : Region) → hold ≡ hold_side sides.shape sides.first.now sides.second.now → IsFewStaying about sides.path into stays → IsBoth hold stays region → IsFewOnward about sides into region
onward_few about sides into stays hold region e bounded is plain f g b h w l =
    trans (count_at l region) (count_at l hold * count_at l stays) (hold_count sides.shape f g l * staying_count about.cases sides.path b l) (is.bounded l)
    (mul-le (count_at l hold) (count_at l stays) (hold_count sides.shape f g l) (staying_count about.cases sides.path b l) (side_few sides f g h hold e l) (bounded plain b w l))

pub going_few : (about : CaseSystem) (sides : Sides) (all goes hold region : Region) → IsEverywhere about all → hold ≡ hold_side sides.shape sides.first.now sides.second.now → IsFewBefore about Any all goes → IsBoth hold goes region → IsFewGoing about sides region
going_few about sides all goes hold region a e bounded is plain f g h l =
    trans (count_at l region) (count_at l hold * count_at l goes) (hold_count sides.shape f g l * some_count about.cases (λ k. 1) l) (is.bounded l)
    (mul-le (count_at l hold) (count_at l goes) (hold_count sides.shape f g l) (some_count about.cases (λ k. 1) l) (side_few sides f g h hold e l) (bounded plain (λ k. 1) (everywhere_few about all a) l))

-- ---- the end
pub one_end_of : (shape : Shape) (f g : ℕ → ℕ) (l : ℕ) → two_ends shape ≡ false → end_count shape f g l ≡ g l
one_end_of Until f g l e = refl
one_end_of Weak f g l e = refl
one_end_of Release f g l e = absurd cc
one_end_of Strong f g l e = absurd cc

pub two_ends_of : (shape : Shape) (f g : ℕ → ℕ) (l : ℕ) → two_ends shape ≡ true → end_count shape f g l ≡ f l * g l
two_ends_of Until f g l e = absurd cc
two_ends_of Weak f g l e = absurd cc
two_ends_of Release f g l e = refl
two_ends_of Strong f g l e = refl

pub one_end_few : (about : CaseSystem) (sides : Sides) (none end : Region) → IsNowhere about none → two_ends sides.shape ≡ false → IsEither sides.second.now none end → IsFewEnd sides end
one_end_few about sides none end n t is f g h l =
    subst (λ k. count_at l end ≤ k) (sym (one_end_of sides.shape f g l t))
    (let a = is.bounded l in let b = nowhere_few about none n l in let c = h.second l in omega (arith, a, b, c))

pub two_ends_few : (sides : Sides) (end : Region) → two_ends sides.shape ≡ true → IsBoth sides.first.now sides.second.now end → IsFewEnd sides end
two_ends_few sides end t is f g h l =
    subst (λ k. count_at l end ≤ k) (sym (two_ends_of sides.shape f g l t))
    (trans (count_at l end) (count_at l sides.first.now * count_at l sides.second.now) (f l * g l) (is.bounded l) (mul-le (count_at l sides.first.now) (count_at l sides.second.now) (f l) (g l) (h.first l) (h.second l)))

-- ---- rounds
growing_round : (shape : Shape) → must_end shape ≡ true → (cases : List LinearCase) (path : Path) (f g : ℕ → ℕ) (k l : ℕ) → growing_count cases path (hold_count shape f g) (end_count shape f g) k l ≡ round_count cases path shape f g k l
growing_round Until e cases path f g k l = refl
growing_round Strong e cases path f g k l = refl
growing_round Weak e cases path f g k l = absurd cc
growing_round Release e cases path f g k l = absurd cc

shrinking_round : (shape : Shape) → must_end shape ≡ false → (cases : List LinearCase) (path : Path) (f g : ℕ → ℕ) (k l : ℕ) → shrinking_count cases path (hold_count shape f g) (end_count shape f g) k l ≡ round_count cases path shape f g k l
shrinking_round Until e cases path f g k l = absurd cc
shrinking_round Strong e cases path f g k l = absurd cc
shrinking_round Weak e cases path f g k l = refl
shrinking_round Release e cases path f g k l = refl

pub first_round : (shape : Shape) (cases : List LinearCase) (path : Path) (f g : ℕ → ℕ) (l : ℕ) → end_count shape f g l ≤ round_count cases path shape f g 0 l
first_round Until cases path f g l = le_refl (g l)
first_round Strong cases path f g l = le_refl (f l * g l)
first_round Weak cases path f g l = later (f l) (g l) where
  later : (a b : ℕ) → b ≤ a + b
  later a b = omega arith
first_round Release cases path f g l = later (g l) (f l * g l) where
  later : (a b : ℕ) → b ≤ a + b
  later a b = omega arith

module _ (about : CaseSystem) (sides : Sides) (f g : ℕ → ℕ) (last l : ℕ) where
  -- a number that one of the rounds up to the last counts
  pub within : (n k : ℕ) → k ≤ last → n ≤ round_count about.cases sides.path sides.shape f g k l → n ≤ fix_count about.cases last sides.path sides.shape f g l
  within n k early h =
      let round = λ (j : ℕ). round_count about.cases sides.path sides.shape f g j l in
      trans n (round k) (fix_count about.cases last sides.path sides.shape f g l) h (up_to_greatest last round k early)

  pub grown_within : must_end sides.shape ≡ true → (n k : ℕ) → k ≤ last → n ≤ growing_count about.cases sides.path (hold_count sides.shape f g) (end_count sides.shape f g) k l → n ≤ fix_count about.cases last sides.path sides.shape f g l
  grown_within must n k early h = within n k early (subst (λ j. n ≤ j) (growing_round sides.shape must about.cases sides.path f g k l) h)

  pub shrunk_within : must_end sides.shape ≡ false → (n k : ℕ) → k ≤ last → n ≤ shrinking_count about.cases sides.path (hold_count sides.shape f g) (end_count sides.shape f g) k l → n ≤ fix_count about.cases last sides.path sides.shape f g l
  shrunk_within must n k early h = within n k early (subst (λ j. n ≤ j) (shrinking_round sides.shape must about.cases sides.path f g k l) h)

-- the pieces of layers after those of the round before them
layers_few : (about : CaseSystem) → HasNoDraws about → (point : FixedPoint) (h e : ℕ → ℕ) → AreCounts point h e → (l k n m : ℕ) (layers : List Region) → k + length layers ≡ n → m ≤ growing_count about.cases point.path h e k l → AreLayers about point k layers →
    m + length (lists_at l (joined_pieces layers)) ≤ growing_count about.cases point.path h e n l
layers_few about plain point h e counts l k n m [] same base each =
    subst (λ j. m + 0 ≤ growing_count about.cases point.path h e j l) (let q : k ≡ n = omega (arith, same) in q) (omega (arith, base))
layers_few about plain point h e counts l k n m (r ∷ rs) same base each =
    let grown : m + count_at l r ≤ growing_count about.cases point.path h e (suc k) l = plus m (count_at l r) (growing_count about.cases point.path h e k l) (added_bound about.cases point.path k h e l) base (each.0.bounded plain h e counts l) in
    let rest = layers_few about plain point h e counts l (suc k) n (m + count_at l r) rs (omega (arith, same)) grown each.1 in
    let q = joined_count l r rs in
    omega (arith, rest, q)

pub last_is_one : (about : CaseSystem) (m : ℕ) → about.start < about.locations → IsLastRound about 9 m → 1 ≤ m
last_is_one about m s (inl b) = (let y = b.1 in omega (arith, y))
last_is_one about m s (inr b) = (let y = b.1 in omega (arith, y, s))

-- the pieces of these regions together
joined_along : (about : CaseSystem) (sides : Sides) (regions : List Region) (region : Region) → IsFewJoined about sides regions → IsJoined about regions region → IsFewAlong about sides region
joined_along about sides regions region few j plain last is f g h l = subst (λ ps. length (lists_at l ps) ≤ fix_count about.cases last sides.path sides.shape f g l) (sym j.pieces) (few plain last is f g h l)

module _ (about : CaseSystem) (sides : Sides) (end : Region) (bounded : IsFewEnd sides end) where
  -- the end alone
  pub ended_joined : (rest : List Region) → ((l : ℕ) → length (lists_at l (joined_pieces rest)) ≤ 0) → IsFewJoined about sides (end ∷ rest)
  ended_joined rest none plain last is f g h l =
      let q = joined_count l end rest in
      let z = none l in
      let e = bounded f g h l in
      let many = length (lists_at l (joined_pieces (end ∷ rest))) in
      let all : many ≤ end_count sides.shape f g l = omega (arith, q, z, e) in
      within about sides f g last l many 0 (none_less last) (trans many (end_count sides.shape f g l) (round_count about.cases sides.path sides.shape f g 0 l) all (first_round sides.shape about.cases sides.path f g l))

  -- the end and the layers of rounds that grow
  pub grown_joined : must_end sides.shape ≡ true → (point : FixedPoint) → IsOfSides sides end point → (layers : List Region) → AreLayers about point 0 layers → ((last : ℕ) → IsLastRound about 9 last → length layers ≤ last) → IsFewJoined about sides (end ∷ layers)
  grown_joined must point of layers each early plain last is f g h l =
      let hold = hold_count sides.shape f g in
      let ends = end_count sides.shape f g in
      let n = length layers in
      let many = length (lists_at l (joined_pieces (end ∷ layers))) in
      let q = joined_count l end layers in
      let all = layers_few about plain point hold ends (sides_counted sides f g h end point of bounded) l 0 n (count_at l end) layers (omega arith) (bounded f g h l) each in
      let bound : many ≤ growing_count about.cases point.path hold ends n l = omega (arith, q, all) in
      grown_within about sides f g last l must many n (early last is) (subst (λ (p : Path). many ≤ growing_count about.cases p hold ends n l) of.path bound)

  -- the end and the states on the way that stay in a round
  pub shrunk_joined : must_end sides.shape ≡ false → (point : FixedPoint) → IsOfSides sides end point → (k : ℕ) (round more : Region) → IsRound false about point k round → IsFewOnward about sides round more → ((last : ℕ) → IsLastRound about 9 last → suc k ≤ last) → IsFewJoined about sides (end ∷ more ∷ [])
  shrunk_joined must point of k round more is_round onward early plain last is f g h l =
      let hold = hold_count sides.shape f g in
      let ends = end_count sides.shape f g in
      let b = shrinking_count about.cases sides.path hold ends k in
      let rounds : (i : ℕ) → count_at i round ≤ b i = λ i. subst (λ (p : Path). count_at i round ≤ shrinking_count about.cases p hold ends k i) of.path (is_round.bounded plain hold ends (sides_counted sides f g h end point of bounded) i) in
      let first = bounded f g h l in
      let second = onward plain f g b h rounds l in
      let q = joined_count l end (more ∷ []) in
      let r = joined_count l more [] in
      let many = length (lists_at l (joined_pieces (end ∷ more ∷ []))) in
      let sum : many ≤ ends l + hold l * staying_count about.cases sides.path b l = omega (arith, q, r, first, second) in
      shrunk_within about sides f g last l must many (suc k) (early last is) sum

  -- the end and all states on the way with a step
  pub came_joined : must_end sides.shape ≡ true → sides.path ≡ Every → (onward : Region) → IsFewGoing about sides onward → about.start < about.locations → IsFewJoined about sides (end ∷ onward ∷ [])
  came_joined must path onward going start plain last is f g h l =
      let hold = hold_count sides.shape f g in
      let ends = end_count sides.shape f g in
      let some = some_count about.cases (λ k. 1) l in
      let all = all_count about.cases ends l in
      let first = bounded f g h l in
      let second = trans (count_at l onward) (hold l * some) (hold l * (some * all)) (going plain f g h l) (mul-le (hold l) some (hold l) (some * all) (le_refl (hold l)) (times_one some all (all_one about.cases ends l))) in
      let q = joined_count l end (onward ∷ []) in
      let r = joined_count l onward [] in
      let many = length (lists_at l (joined_pieces (end ∷ onward ∷ []))) in
      let sum : many ≤ ends l + hold l * (some * all) = omega (arith, q, r, first, second) in
      let every : many ≤ growing_count about.cases Every hold ends 1 l = sum in
      grown_within about sides f g last l must many 1 (last_is_one about last start is) (subst (λ (p : Path). many ≤ growing_count about.cases p hold ends 1 l) (sym path) every)

module _ (about : CaseSystem) (sides : Sides) (end region : Region) (bounded : IsFewEnd sides end) where
  pub ended_few : (rest : List Region) → ((l : ℕ) → length (lists_at l (joined_pieces rest)) ≤ 0) → IsJoined about (end ∷ rest) region → IsFewAlong about sides region
  ended_few rest none j = joined_along about sides (end ∷ rest) region (ended_joined about sides end bounded rest none) j

  pub grown_few : must_end sides.shape ≡ true → (point : FixedPoint) → IsOfSides sides end point → (layers : List Region) → AreLayers about point 0 layers → ((last : ℕ) → IsLastRound about 9 last → length layers ≤ last) → IsJoined about (end ∷ layers) region → IsFewAlong about sides region
  grown_few must point of layers each early j = joined_along about sides (end ∷ layers) region (grown_joined about sides end bounded must point of layers each early) j

  pub shrunk_few : must_end sides.shape ≡ false → (point : FixedPoint) → IsOfSides sides end point → (k : ℕ) (round more : Region) → IsRound false about point k round → IsFewOnward about sides round more → ((last : ℕ) → IsLastRound about 9 last → suc k ≤ last) → IsJoined about (end ∷ more ∷ []) region → IsFewAlong about sides region
  shrunk_few must point of k round more is_round onward early j = joined_along about sides (end ∷ more ∷ []) region (shrunk_joined about sides end bounded must point of k round more is_round onward early) j

  pub came_few : must_end sides.shape ≡ true → sides.path ≡ Every → (onward : Region) → IsFewGoing about sides onward → about.start < about.locations → IsJoined about (end ∷ onward ∷ []) region → IsFewAlong about sides region
  came_few must path onward going start j = joined_along about sides (end ∷ onward ∷ []) region (came_joined about sides end bounded must path onward going start) j

-- ---- the last round
pub last_before : (about : CaseSystem) (n m k : ℕ) → IsLastRound about 8 n → IsLastRound about 9 m → k ≤ n → k ≤ m
last_before about n m k (inl a) (inl b) h = (let x = a.1 in let y = b.1 in omega (arith, h, x, y))
last_before about n m k (inl a) (inr b) h = absurd (b.0 a.0)
last_before about n m k (inr a) (inl b) h = absurd (a.0 b.0)
last_before about n m k (inr a) (inr b) h = (let x = a.1 in let y = b.1 in omega (arith, h, x, y))

module _ (about : CaseSystem) (cases : All (IsCase about.variables about.locations) about.cases) where
  -- in a program without a cycle the round before that of the number of locations is settled
  one_sooner : (HasCycle about → ⊥) → (j : ℕ) → about.locations ≡ suc j → (grows : Bool) (fix : FixedPoint) → IsSettledBy grows about fix j
  one_sooner none j e grows fix s is =
      short_settles (CaseSteps about) (λ k t. IsShort about.cases k t.location) (λ t h. h)
      (λ k t u short st. subst (λ l. IsShort about.cases k l) (sym st.does.enters) (short st.taken st.among (sym st.does.leaves)))
      fix.path (OnWay fix) (AtEnd fix) grows j s
      (no_long_path about.cases about.locations (λ c m. (All-contains (IsCase about.variables about.locations) about.cases c cases m).enters) none (suc j) s.location (omega (arith, e)) is.location)

  last_open : (HasCycle about → ⊥) → (k n : ℕ) → n ≡ about.locations → about.start < about.locations → k ≡ about.locations → (grows : Bool) (fix : FixedPoint) → AreOpen grows about fix k → ⊥
  last_open none k zero e s q grows fix opens = omega (arith, e, s)
  last_open none k (suc j) e s q grows fix opens = opens j (omega (arith, e, q)) (one_sooner none j (sym e) grows fix)

  -- the size takes one more round than the first that is settled
  pub one_later : (n m k : ℕ) → about.start < about.locations → IsLastRound about 8 n → IsLastRound about 9 m → k ≤ n → (grows : Bool) (fix : FixedPoint) → AreOpen grows about fix k → suc k ≤ m
  one_later n m k s (inl a) (inl b) early grows fix opens = (let x = a.1 in let y = b.1 in omega (arith, early, x, y))
  one_later n m k s (inl a) (inr b) early grows fix opens = absurd (b.0 a.0)
  one_later n m k s (inr a) (inl b) early grows fix opens = absurd (a.0 b.0)
  one_later n m k s (inr a) (inr b) early grows fix opens = elim (cases_eq k about.locations) [
    | inl e ↦ absurd (last_open a.0 k about.locations refl s e grows fix opens)
    | inr o ↦ (let x = a.1 in let y = b.1 in omega (arith, early, x, y, o))
  ]

-- ---- the size
pub within_size : (about : CaseSystem) (f part : Property) (region : Region) → FewIsWithinSize about f part region
within_size about f part region plain stands bounded n size l inside =
    let bound = trans (count_at l region) (count about.cases size.0 part l) (size_bound about size.0 f) (bounded plain size.0 size.1 part refl l) (bounds_counts about size.0 f part l stands inside) in
    subst (λ k. count_at l region ≤ k) (sym size.2) bound

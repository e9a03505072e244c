-- Nodes that grow by rounds.
use Rattle.tv_shape.specs.Made.{Offers}
use Rattle.std.proofs.Common.{◌≡◌, inr, ℕ, suc, ◌<◌, List, [], ◌∷◌, ◌++◌, map, length, drop, get_or, All, Bool, true, false, not, ◌==◌, arith, refl, sym, ap, ◌∙◌, subst, ℤ, pos, ◌+ℤ◌, ◌≤ℤ◌}
use Rattle.std.proofs.lemmas.Bool.Decides.{nat_tests}
use Rattle.std.proofs.lemmas.Int.{ints}
use Rattle.std.specs.List.{flat_map}
use Rattle.std.proofs.lemmas.List.{append_assoc, append-nil}
use Rattle.std.proofs.lemmas.List.Elements.{All-nil, All-cons, All-append}
use Rattle.tv_formula.specs.declared.tree.Path.{Path}
use Rattle.tv_formula.specs.declared.tree.Path.TheVariants.{Every, Any}
use Rattle.tv_formula.specs.declared.tree.Shape.{Shape}
use Rattle.tv_formula.specs.declared.tree.Shape.TheVariants.{Until, Weak, Release, Strong}
use Rattle.tv_formula.specs.Properties.{Property, fix, none, more}
use Rattle.tv_linear.proofs.PlainLists.{length-zeros}
use Rattle.tv_linear.specs.Linear.{Linear, IsWithin, columns}
use Rattle.tv_linear.specs.Arithmetic.{constant_row}
use Rattle.tv_linear.specs.declared.region.Piece.{Piece}
use Rattle.tv_linear.specs.declared.region.Region.{Region}
use Rattle.tv_cases.specs.LinearCases.{CaseSystem}
use Rattle.tv_cert.specs.declared.node.Kind.TheVariants as kind
use Rattle.tv_cert.specs.declared.node.Mark.TheVariants.{Done, Go}
use Rattle.tv_cert.specs.declared.node.Marked.{Marked}
use Rattle.tv_cert.specs.declared.node.Node.{Node}
use Rattle.tv_cert.specs.Claims.{about_with}
use Rattle.tv_cert.specs.Obligations.{Obligation, cover_of, hold_side, fix_of}
use Rattle.tv_cert.specs.Pieces.{goes}
use Rattle.tv_cert.specs.Statements.{Statement, along}
use Rattle.tv_cert.specs.Shapes.{PieceShape, may_rank}
use Rattle.tv_known.specs.Rounds.{must_end}
use Rattle.tv_region.specs.Regions.{IsPieceOf, IsRegion}
use Rattle.tv_pre.specs.declared.growing.Grown.{Grown}
use Rattle.tv_pre.specs.declared.sides.Sides.{Sides}
use Rattle.tv_pre.specs.Fixed.{fixed_owes}
use Rattle.tv_pre.specs.Growing.{come_of, IsGrown, AreNextLayers, AsksLayers}
use Rattle.tv_pre.specs.Making.{ArePiecesOf, IsMade}
use Rattle.tv_pre.specs.Offers.{Adds}
use Rattle.tv_pre.specs.Parts.{IsPart, AreParts, joined_pieces}
use Rattle.tv_pre.specs.Pieces.{AreMarked, marked_as}
use Rattle.tv_pre.specs.Questions.{Question}
use Rattle.tv_pre.specs.Ranked.{EachOf, IsRankBelow, IsLayered}
use Rattle.tv_pre.proofs.FixedLemmas.{EachGoes, each_goes, fixed_part}
use Rattle.tv_pre.proofs.PieceLemmas.{are_marked, marked_append, marked_shape}
use Rattle.tv_pre.proofs.NodeLemmas.{states}
use Rattle.std.proofs.lemmas.Grind.{flat_map-append}

pub come_is : (about : CaseSystem) (number : ℕ) (path : Path) (shape : Shape) (all first second : List Marked) (p : Marked) → must_end shape ≡ true → cover_of number kind.Hold (about_with about) p (hold_side shape first second) ∷ come_of about number path p all ≡ fix_of number (about_with about) path shape all first second p true
come_is about number path Weak all first second p e = absurd (let no : ⊥ = cc in no)
come_is about number path Release all first second p e = absurd (let no : ⊥ = cc in no)
come_is about number Every Until all first second p e = refl
come_is about number Any Until all first second p e = refl
come_is about number Every Strong all first second p e = refl
come_is about number Any Strong all first second p e = refl

-- ---- ranks of pieces
pub each_so : {A : Type 0} (P Q : A → Type 0) → ((a : A) → P a → Q a) → (xs : List A) → EachOf P xs → EachOf Q xs
each_so P Q f [] h = tt
each_so P Q f (x ∷ xs) h = (f x h.0, each_so P Q f xs h.1)

pub each_append : {A : Type 0} (P : A → Type 0) (xs ys : List A) → EachOf P xs → EachOf P ys → EachOf P (xs ++ ys)
each_append P [] ys h g = g
each_append P (x ∷ xs) ys h g = (h.0, each_append P xs ys h.1 g)

pub each_done : (n : ℕ) (qs : List Piece) → EachOf (λ d. goes d ≡ false) (map (marked_as n Done []) qs)
each_done n [] = tt
each_done n (q ∷ qs) = (refl, each_done n qs)

pub not_below_zero : (k : ℕ) → pos 0 ≤ℤ pos k
not_below_zero k = omega (arith, ints)

next_below : (k : ℕ) → (pos k +ℤ pos 1) ≤ℤ pos (suc k)
next_below k = omega (arith, ints)

one_more : (a : ℤ) (k m : ℕ) → m ≡ suc k → a ≤ℤ pos (suc k) → a ≤ℤ pos (suc m)
one_more a k m e h = omega (arith, ints, e, h)

pub each_ranked : (n k : ℕ) (qs : List Piece) → EachOf (IsRankBelow n (pos (suc k))) (map (marked_as n Go (constant_row n (pos k) ∷ [])) qs)
each_ranked n k [] = tt
each_ranked n k (q ∷ qs) = (record { goes_on = refl; rank = pos k; ranks = refl; below = next_below k; not_below_zero = not_below_zero k }, each_ranked n k qs)

pub still_below : (n k m : ℕ) (p : Marked) → m ≡ suc k → IsRankBelow n (pos (suc k)) p → IsRankBelow n (pos (suc m)) p
still_below n k m p e h = record { goes_on = h.goes_on; rank = h.rank; ranks = h.ranks; below = one_more (h.rank +ℤ pos 1) k m e h.below; not_below_zero = h.not_below_zero }

all_go : (n : ℕ) (a : ℤ) (ps : List Marked) → EachOf (IsRankBelow n a) ps → EachGoes true ps
all_go n a [] h = tt
all_go n a (p ∷ ps) h = (h.0.goes_on, all_go n a ps h.1)

pub row_columns : (n : ℕ) (a : ℤ) → columns (constant_row n a) ≡ n
row_columns n a = length-zeros n

-- ---- a piece of the next layer
pub layered : (about : CaseSystem) (sides : Sides) (old : Grown) (g : IsGrown about sides old) (k : ℕ) → k ≡ suc old.round → IsWithin 62 (pos k) → (q : Piece) (later : List Marked) →
    IsLayered about.variables q g.done old.region.pieces.items (marked_as about.variables Go (constant_row about.variables (pos k) ∷ []) q) (old.pieces.items ++ later)
layered about sides old g k e small q later =
    let n = about.variables in
    let dones : List Marked = map (marked_as n Done []) g.done in
    record {
      rank = pos k;
      dones = dones;
      ranked = g.ranked;
      later = later;
      parts = ap (λ ps. ps ++ later) g.parts ∙ append_assoc dones g.ranked later;
      marked = (refl, refl);
      ranks = refl;
      low = not_below_zero k;
      small = small;
      done_with = each_done n g.done;
      below = subst (λ m. EachOf (IsRankBelow n (pos m)) g.ranked) (sym e) g.below;
      done_are = are_marked n Done [] g.done;
      all_are = subst (λ ps. AreMarked ps old.region.pieces.items) g.parts g.same;
    }

-- ---- the pieces that are done
pub grown_start : (about : CaseSystem) (sides : Sides) (new : Grown) → IsRegion about.variables about.locations new.region → new.count ≡ length new.region.pieces.items →
    new.pieces.items ≡ map (marked_as about.variables Done []) new.region.pieces.items →
    ((number : ℕ) (first second later : List Marked) → AreMarked first sides.first.now.pieces.items → AreMarked second sides.second.now.pieces.items →
    Offers (flat_map (fixed_owes about sides number (new.pieces.items ++ later) first second false) (map (marked_as about.variables Done []) new.region.pieces.items)) new.proofs.items) →
    IsGrown about sides new
grown_start about sides new over count pieces offers =
    let n = about.variables in
    let qs : List Piece = new.region.pieces.items in
    let dones : List Marked = map (marked_as n Done []) qs in
    record {
      over = over;
      done = qs;
      rest = [];
      whole = sym (append-nil qs);
      count = count;
      ranked = [];
      parts = pieces ∙ sym (append-nil dones);
      below = tt;
      same = subst (λ ps. AreMarked ps qs) (sym pieces) (are_marked n Done [] qs);
      shape = subst (All (PieceShape about 1 true)) (sym pieces) (marked_shape about 1 true Done [] (All-nil (λ r. columns r ≡ n)) refl (λ e. let no : ⊥ = cc in absurd no) qs over.pieces);
      offers = λ number first second later a b.
          subst (λ os. Offers os new.proofs.items) (sym (append-nil (flat_map (fixed_owes about sides number (new.pieces.items ++ later) first second false) dones))) (offers number first second later a b);
    }

-- ---- one more layer
pub grown_next : (about : CaseSystem) (sides : Sides) (old new : Grown) (layer : Region) → IsGrown about sides old → IsRegion about.variables about.locations layer → new.count ≡ old.count → new.round ≡ suc old.round →
    new.region.variables ≡ old.region.variables → new.region.locations ≡ old.region.locations → new.region.pieces.items ≡ old.region.pieces.items ++ layer.pieces.items →
    new.pieces.items ≡ old.pieces.items ++ map (marked_as about.variables Go (constant_row about.variables (pos new.round) ∷ [])) layer.pieces.items →
    columns (constant_row about.variables (pos new.round)) ≡ about.variables →
    ((number : ℕ) (first second later : List Marked) → AreMarked first sides.first.now.pieces.items → AreMarked second sides.second.now.pieces.items →
    Adds (flat_map (fixed_owes about sides number (new.pieces.items ++ later) first second true) (map (marked_as about.variables Go (constant_row about.variables (pos new.round) ∷ [])) layer.pieces.items)) old.proofs.items new.proofs.items) →
    IsGrown about sides new
grown_next about sides old new layer g over count round variables locations whole pieces even adds = record {
  over = record {
    variables = variables ∙ g.over.variables;
    locations = locations ∙ g.over.locations;
    pieces = subst (All (IsPieceOf n about.locations)) (sym whole) (All-append (IsPieceOf n about.locations) old.region.pieces.items layer.pieces.items g.over.pieces over.pieces);
  };
  done = g.done;
  rest = g.rest ++ layer.pieces.items;
  whole = whole ∙ (ap (λ qs. qs ++ layer.pieces.items) g.whole ∙ append_assoc g.done g.rest layer.pieces.items);
  count = count ∙ g.count;
  ranked = g.ranked ++ added;
  parts = pieces ∙ (ap (λ ps. ps ++ added) g.parts ∙ append_assoc dones g.ranked added);
  below = each_append (IsRankBelow n (pos (suc new.round))) g.ranked added (each_so (IsRankBelow n (pos (suc old.round))) (IsRankBelow n (pos (suc new.round))) (λ p. still_below n old.round new.round p round) g.ranked g.below) (each_ranked n new.round layer.pieces.items);
  same = same;
  shape = subst (All (PieceShape about 1 true)) (sym pieces) (All-append (PieceShape about 1 true) old.pieces.items added g.shape (marked_shape about 1 true Go ranks (All-cons (λ r. columns r ≡ n) (constant_row n (pos new.round)) [] even (All-nil (λ r. columns r ≡ n))) refl (λ e. refl) layer.pieces.items over.pieces));
  offers = offered;
}
  where
    n : ℕ
    n = about.variables

    ranks : List Linear
    ranks = constant_row about.variables (pos new.round) ∷ []

    added : List Marked
    added = map (marked_as about.variables Go (constant_row about.variables (pos new.round) ∷ [])) layer.pieces.items

    dones : List Marked
    dones = map (marked_as about.variables Done []) g.done

    same : AreMarked new.pieces.items new.region.pieces.items
    same =
        subst (λ ps. AreMarked ps new.region.pieces.items) (sym pieces)
        (subst (AreMarked (old.pieces.items ++ added)) (sym whole) (marked_append old.pieces.items added old.region.pieces.items layer.pieces.items g.same (are_marked n Go ranks layer.pieces.items)))

    offered : (number : ℕ) (first second later : List Marked) → AreMarked first sides.first.now.pieces.items → AreMarked second sides.second.now.pieces.items →
        Offers (flat_map (fixed_owes about sides number (new.pieces.items ++ later) first second false) dones ++ flat_map (fixed_owes about sides number (new.pieces.items ++ later) first second true) (g.ranked ++ added)) new.proofs.items
    offered number first second later a b =
        let F : List Marked → Bool → Marked → List Obligation = λ all go p. fixed_owes about sides number all first second go p in
        let all : List Marked = new.pieces.items ++ later in
        let same_all : old.pieces.items ++ (added ++ later) ≡ all = sym (append_assoc old.pieces.items added later) ∙ ap (λ ps. ps ++ later) (sym pieces) in
        let before : Offers (flat_map (F all false) dones ++ flat_map (F all true) g.ranked) old.proofs.items =
        subst (λ ps. Offers (flat_map (F ps false) dones ++ flat_map (F ps true) g.ranked) old.proofs.items) same_all (g.offers number first second (added ++ later) a b)
        in
        subst (λ os. Offers (flat_map (F all false) dones ++ os) new.proofs.items) (sym (flat_map-append (F all true) g.ranked added))
        (subst (λ os. Offers os new.proofs.items) (append_assoc (flat_map (F all false) dones) (flat_map (F all true) g.ranked) (flat_map (F all true) added))
        (adds number first second later a b (flat_map (F all false) dones ++ flat_map (F all true) g.ranked) before))

-- ---- the layers that are left
some : {A : Type 0} (xs : List A) (b : Bool) → b ≡ (length xs == 0) → not b ≡ true → 0 < length xs
some [] true e t = absurd (let no : ⊥ = cc in no)
some [] false e t = absurd (let no : ⊥ = cc in no)
some (x ∷ xs) b e t = omega arith

not_zero : (k : ℕ) → (suc k == 0) ≡ false
not_zero k = grind (arith, nat_tests)

empty : {A : Type 0} (xs : List A) (b : Bool) → b ≡ (length xs == 0) → not b ≡ false → xs ≡ []
empty [] b e t = refl
empty (x ∷ xs) true e t = absurd (let f = e ∙ not_zero (length xs) in let no : ⊥ = cc in no)
empty (x ∷ xs) false e t = absurd (let no : ⊥ = cc in no)

pub some_now : {A : Type 0} (xs : List A) (m : ℕ) (b : Bool) → m ≡ length xs → b ≡ (m == 0) → not b ≡ true → 0 < length xs
some_now xs m b l e t = some xs b (e ∙ ap (λ k. k == 0) l) t

pub empty_now : {A : Type 0} (xs : List A) (m : ℕ) (b : Bool) → m ≡ length xs → b ≡ (m == 0) → not b ≡ false → xs ≡ []
empty_now xs m b l e t = empty xs b (e ∙ ap (λ k. k == 0) l) t

pub cons_at : {A : Type 0} (x : A) (now rest : List A) (d : A) → 0 < length now → x ≡ get_or now 0 d → rest ≡ drop 1 now → now ≡ x ∷ rest
cons_at x [] rest d l e r = absurd (omega (arith, l))
cons_at x (y ∷ ys) rest d l e r = λ i. sym e i ∷ sym r i

pub record AreLeft (about : CaseSystem) (sides : Sides) (first : List Piece) (all : List Region) (earlier : List Piece) (left : List Region) : Type 0 where
  pub layers : AreNextLayers about sides earlier left
  pub pieces : earlier ++ joined_pieces left ≡ first ++ joined_pieces all
  pub asks : (a : Question) → AsksLayers about sides earlier left a → AsksLayers about sides first all a

pub left_all : (about : CaseSystem) (sides : Sides) (first : List Piece) (all : List Region) → AreNextLayers about sides first all → AreLeft about sides first all first all
left_all about sides first all h = record { layers = h; pieces = refl; asks = λ a k. k }

pub left_next : (about : CaseSystem) (sides : Sides) (first : List Piece) (all : List Region) (earlier next : List Piece) (layer : Region) (left : List Region) →
    AreLeft about sides first all earlier (layer ∷ left) → next ≡ earlier ++ layer.pieces.items → AreLeft about sides first all next left
left_next about sides first all earlier next layer left h e = subst (λ qs. AreLeft about sides first all qs left) (sym e) (record {
  layers = h.layers.1;
  pieces = append_assoc earlier layer.pieces.items (joined_pieces left) ∙ h.pieces;
  asks = λ a k. h.asks a (inr k);
})

-- ---- the part
pub ranks_may : (path : Path) (shape : Shape) (s t : Statement) (m : ℕ) → must_end shape ≡ true → may_rank (along path shape s t) ≡ false → m ≡ 0
ranks_may path Until s t m e h = absurd (let no : ⊥ = cc in no)
ranks_may path Strong s t m e h = absurd (let no : ⊥ = cc in no)
ranks_may path Weak s t m e h = absurd (let no : ⊥ = cc in no)
ranks_may path Release s t m e h = absurd (let no : ⊥ = cc in no)

pub grown_pieces : (about : CaseSystem) (sides : Sides) (grown : Grown) → IsGrown about sides grown → ArePiecesOf about grown.region true 1 grown.pieces.items
grown_pieces about sides grown g = record { same = g.same; shape = g.shape }

pub grown_part : (about : CaseSystem) (sides : Sides) (grown : Grown) (node : Node) (nodes : List Node) (f g : Property) → IsGrown about sides grown → must_end sides.shape ≡ true →
    IsMade about grown.region true 1 grown.pieces.items nodes grown.proofs.items node →
    AreParts about (more f (more g none)) (sides.first.now ∷ sides.second.now ∷ []) nodes →
    IsPart about (fix sides.path sides.shape f g) grown.region node
grown_part about sides grown node nodes f g is ends made below =
    let n = about.variables in
    let dones : List Marked = map (marked_as n Done []) is.done in
    fixed_part about sides.path sides.shape f g grown.region node 1 dones is.ranked sides.first.now sides.second.now nodes grown.proofs.items
    (subst (λ ps. IsMade about grown.region true 1 ps nodes grown.proofs.items node) is.parts made)
    (ranks_may sides.path sides.shape (states about f) (states about g) 1 ends) (each_goes n Done [] is.done) (all_go n (pos (suc grown.round)) is.ranked is.below) below
    (λ number a b x y.
    subst (λ ps. Offers (flat_map (fixed_owes about sides number ps a b false) dones ++ flat_map (fixed_owes about sides number ps a b true) is.ranked) grown.proofs.items)
    (append-nil grown.pieces.items ∙ is.parts) (is.offers number a b [] x y))

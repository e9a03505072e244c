-- Covers that show that no case can be taken.
use Rattle.std.proofs.Common.{◌≡◌, ℕ, zero, suc, ◌+◌, ◌<◌, ◌≤◌, ◌^◌, List, [], ◌∷◌, ◌++◌, length, map, take, drop, get_or, All, IsTrue, arith, refl, sym, ap, ◌∙◌, subst, ℤ, pos, unsigned_abs, length-append}
use Rattle.std.specs.Prelude.{Contains}
use Rattle.std.specs.List.{AllZip}
use Rattle.std.proofs.lemmas.List.{length-map, take-append-drop}
use Rattle.std.proofs.lemmas.List.Elements.{All-nil, All-cons, All-append}
use Rattle.tv_linear.specs.Linear.{Linear, columns, IsMet, IsNarrow}
use Rattle.tv_linear.specs.Known.{Known, given, denied, as_given, term_value}
use Rattle.tv_linear.specs.Terms.{terms_after}
use Rattle.tv_linear.specs.Covers.{no_target, IsMetCover}
use Rattle.tv_linear.specs.ChoiceDepth.{most_splits}
use Rattle.tv_linear.specs.declared.cover.CoverTree.{CoverTree, Split', Empty, Into}
use Rattle.tv_farkas.specs.Refuting.{AreShort}
use Rattle.tv_farkas.specs.Trees.{TreeRows, TreeNumbers}
use Rattle.tv_farkas.specs.Paths.{IsWholePoint}
use Rattle.tv_farkas.specs.EmptyPaths.{IsWholePointOf}
use Rattle.tv_farkas.proofs.StretchLemmas.{short_all}
use Rattle.tv_cover.specs.Emptying.{IsEmptied, HasNoWholePoint, IsShallow, HasEvenSplits, IsShortEmptied, GivesWhole}
use Rattle.tv_cover.specs.declared.emptied.Emptied.{Emptied}
use Rattle.tv_cover.specs.declared.emptied.Emptied.TheVariants as emptied
use Rattle.tv_cases.specs.LinearCases.{LinearCase, leaving}
use Rattle.tv_cert.specs.Shapes.{CoverShape, owed_count}
use Rattle.tv_shape.specs.Narrow.{CoverNarrow}
use Rattle.tv_choice.specs.Same.{AreKnown}
use Rattle.tv_choice.specs.Leading.{Query, state}
use Rattle.tv_choice.specs.ChoicePaths.{starting_rows, start}
use Rattle.tv_choice.specs.Stopping.{IsStopTree, IsStart, IsStoppedBy, AreStopTrees, IsLeading}
use Rattle.tv_choice.proofs.SameLemmas.{known_self}
use Rattle.tv_choice.proofs.FitLemmas.{Contains-leaving}
use Rattle.tv_linear.specs.Arithmetic.{padded_row}
use Rattle.tv_linear.specs.Same.{AreSame}
use Rattle.tv_linear.proofs.SameLemmas.{cover_same, same_append, are_same_then, all_same}
use Rattle.tv_linear.proofs.KnownLemmas.{as_given-append}
use Rattle.tv_linear.proofs.PaddedLemmas.{padded_same, padded_met, met_padded}
use Rattle.tv_linear.proofs.ListLaws.{length-front, length-back, all_front, all_back}
use Rattle.tv_cases.proofs.AmountLemmas.{one_more}

-- ---- trees without targets

pub cover_shape : (n count : ℕ) (known : List Known) (tree : CoverTree) → length known ≡ count → IsMetCover n no_target known tree → TreeRows (λ r. columns r ≡ n) tree → CoverShape n (owed_count no_target) count tree
cover_shape n count known (Split' r p a q b) e m h = (
  h.0,
  cover_shape n (count + 1) (known ++ given r ∷ []) a (one_more known (given r) count e) m.0 h.1,
  cover_shape n (count + 1) (known ++ denied (given r) ∷ []) b (one_more known (denied (given r)) count e) m.1 h.2,
)
cover_shape n count known (Empty ms) e m h = m.as_many ∙ e
cover_shape n count known (Into target fall lists) e m h = absurd m

pub cover_narrow : (n : ℕ) (known : List Known) (tree : CoverTree) → IsMetCover n no_target known tree → TreeRows IsNarrow tree → TreeNumbers AreShort tree → CoverNarrow tree
cover_narrow n known (Split' r p a q b) m h s = (
  record { coefficients = h.0.coefficients; constant = h.0.constant },
  cover_narrow n (known ++ given r ∷ []) a m.0 h.1 s.0,
  cover_narrow n (known ++ denied (given r) ∷ []) b m.1 h.2 s.1,
)
cover_narrow n known (Empty ms) m h s = short_all ms.items s
cover_narrow n known (Into target fall lists) m h s = absurd m

-- ---- a cover for each of these cases, in order
abbrev pub StopsUpTo : ℕ → List Linear → ℕ → List LinearCase → List CoverTree → Type 0
StopsUpTo n rows left [] [] = Unit {0}
StopsUpTo n rows left [] (tree ∷ covers) = ⊥
StopsUpTo n rows left (c ∷ cases) [] = ⊥
StopsUpTo n rows left (c ∷ cases) (tree ∷ covers) = IsStopTree n rows c left tree × CoverNarrow tree × StopsUpTo n rows left cases covers

pub stops_more : (n : ℕ) (rows : List Linear) (left : ℕ) (cases : List LinearCase) (covers : List CoverTree) (c : LinearCase) (tree : CoverTree) → StopsUpTo n rows left cases covers → IsStopTree n rows c left tree → CoverNarrow tree → StopsUpTo n rows left (cases ++ c ∷ []) (covers ++ tree ∷ [])
stops_more n rows left [] [] c tree h g w = (g, w, tt)
stops_more n rows left [] (t ∷ covers) c tree h g w = absurd h
stops_more n rows left (d ∷ cases) [] c tree h g w = absurd h
stops_more n rows left (d ∷ cases) (t ∷ covers) c tree h g w = (h.0, h.1, stops_more n rows left cases covers c tree h.2 g w)

zip_stops : (n : ℕ) (rows : List Linear) (left : ℕ) (cases : List LinearCase) (covers : List CoverTree) (known : List Known) → AreKnown rows known → StopsUpTo n rows left cases covers → AllZip (λ c cover. IsMetCover (n + c.draws) no_target (known ++ as_given c.guards) cover) cases covers
zip_stops n rows left [] [] known k h = tt
zip_stops n rows left [] (t ∷ covers) known k h = absurd h
zip_stops n rows left (c ∷ cases) [] known k h = absurd h
zip_stops n rows left (c ∷ cases) (t ∷ covers) known k h = (h.0.met known k, zip_stops n rows left cases covers known k h.2)

zip_shapes : (n : ℕ) (rows : List Linear) (left : ℕ) (cases : List LinearCase) (covers : List CoverTree) → StopsUpTo n rows left cases covers → AllZip (λ c tree. CoverShape (n + c.draws) (owed_count no_target) (length rows + length c.guards) tree) cases covers
zip_shapes n rows left [] [] h = tt
zip_shapes n rows left [] (t ∷ covers) h = absurd h
zip_shapes n rows left (c ∷ cases) [] h = absurd h
zip_shapes n rows left (c ∷ cases) (t ∷ covers) h = (h.0.shape, zip_shapes n rows left cases covers h.2)

all_narrow : (n : ℕ) (rows : List Linear) (left : ℕ) (cases : List LinearCase) (covers : List CoverTree) → StopsUpTo n rows left cases covers → All CoverNarrow covers
all_narrow n rows left [] [] h = All-nil CoverNarrow
all_narrow n rows left [] (t ∷ covers) h = absurd h
all_narrow n rows left (c ∷ cases) [] h = absurd h
all_narrow n rows left (c ∷ cases) (t ∷ covers) h = All-cons CoverNarrow t covers h.1 (all_narrow n rows left cases covers h.2)

most_stops : (n : ℕ) (rows : List Linear) (left : ℕ) (cases : List LinearCase) (covers : List CoverTree) → StopsUpTo n rows left cases covers → most_splits covers ≤ left
most_stops n rows left [] [] h = omega arith
most_stops n rows left [] (t ∷ covers) h = absurd h
most_stops n rows left (c ∷ cases) [] h = absurd h
most_stops n rows left (c ∷ cases) (t ∷ covers) h = (let a = h.0.shallow in let b = most_stops n rows left cases covers h.2 in grind (arith, a, b))

none_stops : (n : ℕ) (rows : List Linear) (left : ℕ) (cases : List LinearCase) (covers : List CoverTree) (c : LinearCase) → StopsUpTo n rows left cases covers → Contains cases c → (zs : List ℤ) → IsWholePoint (n + c.draws) (starting_rows rows c) zs → ⊥
none_stops n rows left [] covers c h g zs p = absurd (let l = g.1 in omega (arith, l))
none_stops n rows left (d ∷ cases) [] c h g zs p = absurd h
none_stops n rows left (d ∷ cases) (t ∷ covers) c h (zero, l, e) zs p = h.0.none zs (subst (λ x. IsWholePoint (n + x.draws) (starting_rows rows x) zs) (sym e) p)
none_stops n rows left (d ∷ cases) (t ∷ covers) c h (suc i, l, e) zs p = none_stops n rows left cases covers c h.2 (i, omega (arith, l), e) zs p

pub all_stopped : (n : ℕ) (q : Query) (rows : List Linear) (left : ℕ) (covers : List CoverTree) → All (λ r. columns r ≡ n) rows → StopsUpTo n rows left (leaving q.location q.system.cases) covers → AreStopTrees n q rows left covers
all_stopped n q rows left covers even h = record {
  met = λ known k. zip_stops n rows left (leaving q.location q.system.cases) covers known k h;
  shallow = most_stops n rows left (leaving q.location q.system.cases) covers h;
  shape = zip_shapes n rows left (leaving q.location q.system.cases) covers h;
  narrow = all_narrow n rows left (leaving q.location q.system.cases) covers h;
  none = λ xs p s.
      let c = s.step.taken in
      let d = s.step.does in
      let ds = s.step.draws in
      none_stops n rows left (leaving q.location q.system.cases) covers c h (Contains-leaving q.location q.system.cases c (sym d.leaves) s.step.among) (xs ++ ds) record {
        width = length-append xs ds ∙ (λ i. p.width i + d.drawn i);
        met = All-append (IsMet (xs ++ ds)) (map (padded_row c.draws) rows) c.guards (met_padded n c.draws rows xs ds even p.width p.met) d.guards;
      };
}

-- ---- what `empty` says of the rows and the guards of a case

short_front : (n : ℕ) (zs : List ℤ) → ((j : ℕ) → j < length zs → unsigned_abs (get_or zs j (pos 0)) < 2 ^ 62) → (j : ℕ) → j < length (take n zs) → unsigned_abs (get_or (take n zs) j (pos 0)) < 2 ^ 62
short_front zero zs h j l = absurd (omega (arith, l))
short_front (suc n) [] h j l = absurd (omega (arith, l))
short_front (suc n) (z ∷ zs) h zero l = h 0 (omega arith)
short_front (suc n) (z ∷ zs) h (suc j) l = short_front n zs (λ i k. h (suc i) (omega (arith, k))) j (omega (arith, l))

module _ (n : ℕ) (rows all : List Linear) (c : LinearCase) (left : ℕ) (even : All (λ r. columns r ≡ n) rows) (is : all ≡ starting_rows rows c) where
  known_of_all : (known : List Known) → AreKnown rows known → AreSame (n + c.draws) (as_given all) (known ++ as_given c.guards)
  known_of_all known k =
      subst (λ ks. AreSame (n + c.draws) ks (known ++ as_given c.guards)) (sym (ap as_given is ∙ as_given-append (map (padded_row c.draws) rows) c.guards))
      (same_append (n + c.draws) (as_given (map (padded_row c.draws) rows)) known (as_given c.guards) (as_given c.guards)
      (are_same_then (n + c.draws) (as_given (map (padded_row c.draws) rows)) (as_given rows) known (padded_same (n + c.draws) c.draws rows) (k (n + c.draws))) (all_same (n + c.draws) (as_given c.guards)))

  all_many : length (as_given all) ≡ length rows + length c.guards
  all_many = length-map all (λ r. given r) ∙ ap length is ∙ length-append (map (padded_row c.draws) rows) c.guards ∙ ap (λ m. m + length c.guards) (length-map rows (padded_row c.draws))

  pub stopped_by : (e : Emptied) → IsEmptied (n + c.draws) all e → HasNoWholePoint (n + c.draws) all e → IsShallow left e → HasEvenSplits (n + c.draws) e → IsShortEmptied e → GivesWhole (n + c.draws) all e → IsStoppedBy n rows c left e
  stopped_by (emptied.Tree cover) h none s w t f = record {
    met = λ known k. cover_same (n + c.draws) no_target no_target (λ i j. tt) (as_given all) (known ++ as_given c.guards) (known_of_all known k) cover h;
    shallow = s;
    shape = cover_shape (n + c.draws) (length rows + length c.guards) (as_given all) cover all_many h w;
    short = t;
    none = λ zs p. none zs (subst (λ rs. IsWholePoint (n + c.draws) rs zs) (sym is) p);
  }
  stopped_by (emptied.Whole values) h none s w t f =
      let met = subst (All (IsMet values.items)) is h.met in
      record {
        size = h.width;
        short = t;
        inside = record {
          width = length-front n c.draws values.items h.width;
          met = padded_met n c.draws rows values.items even (all_front (IsMet values.items) (map (padded_row c.draws) rows) c.guards met);
        };
        guards = all_back (IsMet values.items) (map (padded_row c.draws) rows) c.guards met;
        origin = subst (λ rs. IsWholePointOf (n + c.draws) rs values.items) is f;
      }

-- some step leads from the start of a case
pub leading : (n : ℕ) (q : Query) (rows : List Linear) (c : LinearCase) (zs xs : List ℤ) → IsTrue q.stop → Contains q.system.cases c → c.from ≡ q.location → IsStart n rows c zs → xs ≡ take n zs → IsLeading n q rows xs
leading n q rows c zs xs stop among from h e = subst (IsLeading n q rows) (sym e) record {
  inside = h.inside;
  short = short_front n zs h.short;
  leads = record {
    next = state c.to (map (term_value (take n zs ++ drop n zs)) (terms_after (length (take n zs)) c.updates));
    step = record {
      taken = c;
      among = among;
      draws = drop n zs;
      does = record {
        leaves = sym from;
        enters = refl;
        drawn = length-back n c.draws zs h.size;
        guards = subst (λ ys. All (IsMet ys) c.guards) (sym (take-append-drop n zs)) h.guards;
        gives = refl;
      };
    };
  };
  here = start c zs stop among from h.origin;
}

-- the numbers of a cover for a case
pub tree_narrow : (n : ℕ) (rows : List Linear) (c : LinearCase) (left : ℕ) (tree : CoverTree) → IsStopTree n rows c left tree → TreeRows IsNarrow tree → CoverNarrow tree
tree_narrow n rows c left tree h w = cover_narrow (n + c.draws) (as_given rows ++ as_given c.guards) tree (h.met (as_given rows) (known_self rows)) w h.short

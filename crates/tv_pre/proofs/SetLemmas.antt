-- Regions made of those of the arguments of a formula, as sets of states.
use Rattle.std.proofs.Common.{◌≡◌, inl, inr, ℕ, ◌+◌, ◌<◌, ◌≤◌, List, [], ◌∷◌, length, get_or, take, sym, subst, arith, true, false}
use Rattle.std.specs.Prelude.{All, Contains, sum}
use Rattle.std.proofs.lemmas.List.Elements.{All-nil, All-get_or, All-weaker, All-more, Contains-get_or, Contains-append_left, Contains-append_right, Contains-append_cases}
use Rattle.tv_formula.specs.declared.tree.Path.{Path}
use Rattle.tv_formula.specs.declared.tree.Path.TheVariants.{Every, Any}
use Rattle.tv_formula.specs.declared.tree.Shape.{Shape}
use Rattle.tv_formula.specs.declared.tree.Shape.TheVariants.{Until, Weak, Release, Strong}
use Rattle.tv_program.specs.Steps.{State}
use Rattle.tv_linear.specs.declared.region.Piece.{Piece}
use Rattle.tv_linear.specs.declared.region.Region.{Region}
use Rattle.tv_cases.specs.LinearCases.{CaseSystem}
use Rattle.tv_cases.proofs.ContainsLemmas.{Contains-here, Contains-later, Contains-cases, Contains-none}
use Rattle.tv_known.specs.Cycles.{IsStateOf}
use Rattle.tv_known.specs.Rounds.{HoldSide, EndSides}
use Rattle.tv_cert.specs.Obligations.{hold_side}
use Rattle.tv_linear.proofs.ListLaws.{take_past}
use Rattle.tv_known.specs.Sizes.{product}
use Rattle.tv_region.specs.Regions.{IsRegion, count_at}
use Rattle.tv_region.specs.Algebra.{IsBoth, IsEither}
use Rattle.tv_region.specs.StepRegions as steps
use Rattle.tv_region.specs.StepRegions.{InState, IsTame, IsBefore, IsBeforeAll}
use Rattle.tv_rounds.specs.Calls.{IsNowhere}
use Rattle.tv_rounds.proofs.SetLemmas.{own_set, both_set, either_set, nowhere_set}
use Rattle.tv_pre.specs.Pieces.{InPieces}
use Rattle.tv_pre.specs.Inclusions.{OfPieces}
use Rattle.tv_pre.specs.Parts.{joined_pieces}
use Rattle.tv_pre.specs.Growing.{IsEverywhere}
use Rattle.tv_pre.specs.Built.{of_everywhere, of_nowhere, of_both, of_either, IsBuiltOf}
use Rattle.tv_pre.specs.Along.{AreBefore, OthersLeadOut, AreBeforeOrStop, AreOnward, AreAtEnd}
use Rattle.tv_pre.specs.declared.sides.Sides.{Sides}
use Rattle.tv_pre.specs.Around.{two_ends}
use Rattle.tv_pre.specs.Fixed.{AreOver}
use Rattle.tv_pre.specs.Sized.{counts_at}
use Rattle.tv_pre.proofs.BuiltLemmas.{built_to}
use Rattle.tv_pre.proofs.SizedLemmas.{everywhere_few, first_whole, more_common, more_whole}
use Rattle.tv_pre.proofs.SideLemmas.{hold_in}
use Rattle.tv_rounds.proofs.MadeLemmas.{no_pieces}

-- the region has only states of the first `count` regions, has the states that all regions have, and is made of them
pub record IsCommon (about : CaseSystem) (regions : List Region) (count : ℕ) (common : Region) : Type 0 where
  pub over : IsRegion about.variables about.locations common
  pub inside : All (λ x. OfPieces about common.pieces.items (InState x)) (take count regions)
  pub all : (s : State) → IsStateOf about s → All (λ x. InState x s) regions → InState common s
  pub built : IsBuiltOf about 0 regions common
  pub bounded : (l : ℕ) → count_at l common ≤ product (counts_at l (take count regions))

-- the region has only states of the regions together, and those of the first `count`
pub record IsWhole (about : CaseSystem) (regions : List Region) (count : ℕ) (whole : Region) : Type 0 where
  pub over : IsRegion about.variables about.locations whole
  pub inside : OfPieces about whole.pieces.items (InPieces (joined_pieces regions))
  pub all : All (λ x. OfPieces about x.pieces.items (InState whole)) (take count regions)
  pub built : IsBuiltOf about 0 regions whole
  pub bounded : (l : ℕ) → count_at l whole ≤ sum (counts_at l (take count regions))

pub in_joined : (regions : List Region) (r : Region) (s : State) → Contains regions r → InState r s → InPieces (joined_pieces regions) s
in_joined [] r s c h = absurd (Contains-none r c)
in_joined (x ∷ xs) r s c h = elim (Contains-cases x r xs c) [
  | inl e ↦ (let p = h.0 in (p, Contains-append_left x.pieces.items (joined_pieces xs) p (subst (λ (z : Region). Contains z.pieces.items p) (sym e) h.1), h.2))
  | inr k ↦ (let w = in_joined xs r s k h in (w.0, Contains-append_right x.pieces.items (joined_pieces xs) w.0 w.1, w.2))
]

-- a state of the pieces of some regions is in one of them
pub joined_in : (regions : List Region) (s : State) → InPieces (joined_pieces regions) s → (r : Region) × Contains regions r × InState r s
joined_in [] s m = absurd (Contains-none m.0 m.1)
joined_in (x ∷ regions) s m = elim (Contains-append_cases x.pieces.items (joined_pieces regions) m.0 m.1) [
  | inl k ↦ (x, Contains-here x regions, (m.0, k, m.2))
  | inr k ↦ (let w = joined_in regions s (m.0, k, m.2) in (w.0, Contains-later x w.0 regions w.1, w.2))
]

-- ---- sides
pub hold_on : (shape : Shape) (a b : Region) (s : State) → InState (hold_side shape a b) s → HoldSide shape (InState a) (InState b) s
hold_on Until a b s h = h
hold_on Weak a b s h = h
hold_on Release a b s h = h
hold_on Strong a b s h = h

one_to : (shape : Shape) (P Q : State → Type 0) (s : State) → two_ends shape ≡ false → Q s → EndSides shape P Q s
one_to Until P Q s t h = h
one_to Weak P Q s t h = h
one_to Release P Q s t h = absurd cc
one_to Strong P Q s t h = absurd cc

to_one : (shape : Shape) (P Q : State → Type 0) (s : State) → two_ends shape ≡ false → EndSides shape P Q s → Q s
to_one Until P Q s t h = h
to_one Weak P Q s t h = h
to_one Release P Q s t h = absurd cc
to_one Strong P Q s t h = absurd cc

two_to : (shape : Shape) (P Q : State → Type 0) (s : State) → two_ends shape ≡ true → P s × Q s → EndSides shape P Q s
two_to Until P Q s t h = absurd cc
two_to Weak P Q s t h = absurd cc
two_to Release P Q s t h = h
two_to Strong P Q s t h = h

to_two : (shape : Shape) (P Q : State → Type 0) (s : State) → two_ends shape ≡ true → EndSides shape P Q s → P s × Q s
to_two Until P Q s t h = absurd cc
to_two Weak P Q s t h = absurd cc
to_two Release P Q s t h = h
to_two Strong P Q s t h = h

pub no_piece : (qs : List Piece) (s : State) → qs ≡ [] → InPieces qs s → ⊥
no_piece qs s e m = Contains-none m.0 (subst (λ ps. Contains ps m.0) e m.1)

module _ (about : CaseSystem) (regions : List Region) where
  pub common_first : (common : Region) → IsEverywhere about common → IsCommon about regions 0 common
  common_first common e = record {
    over = e.over;
    inside = All-nil (λ x. OfPieces about common.pieces.items (InState x));
    all = λ s p k. e.all s p.location;
    built = λ s h m. of_everywhere (0 + h) common e;
    bounded = everywhere_few about common e;
  }

  pub common_more : (i : ℕ) (common r new : Region) → i < length regions → r ≡ get_or regions i r → IsRegion about.variables about.locations r → IsCommon about regions i common → IsBoth common r new → IsCommon about regions (i + 1) new
  common_more i common r new l e f g b =
      let w = both_set about (InState common) (InState r) common r new (own_set about common g.over) (own_set about r f) b in record {
        over = w.fits;
        inside = All-more (λ x. OfPieces about new.pieces.items (InState x)) regions i r l
            (All-weaker (λ x. OfPieces about common.pieces.items (InState x)) (λ x. OfPieces about new.pieces.items (InState x)) (λ x k s p m. k s p (((w.same s p).0 m).0)) (take i regions) g.inside)
            (subst (λ x. OfPieces about new.pieces.items (InState x)) e (λ s p m. ((w.same s p).0 m).1));
        all = λ s p k. (w.same s p).1 (g.all s p k, subst (λ x. InState x s) (sym e) (All-get_or (λ x. InState x s) regions i r l k));
        built = λ s h m. of_both (0 + h) common r new (g.built s h m) (built_to about s h (0 + h) r (omega arith) (m r (subst (Contains regions) (sym e) (Contains-get_or regions i r l)))) b;
        bounded = λ k. more_common regions i common r new l e b k (g.bounded k);
      }

  pub common_all : (i : ℕ) (common : Region) → length regions ≤ i → IsCommon about regions i common → All (λ x. OfPieces about common.pieces.items (InState x)) regions
  common_all i common l g = subst (All (λ x. OfPieces about common.pieces.items (InState x))) (take_past regions i l) g.inside

  pub common_few : (i : ℕ) (common : Region) → length regions ≤ i → IsCommon about regions i common → (l : ℕ) → count_at l common ≤ product (counts_at l regions)
  common_few i common l g k = subst (λ rs. count_at k common ≤ product (counts_at k rs)) (take_past regions i l) (g.bounded k)

  pub item_over : (i : ℕ) (r : Region) → i < length regions → r ≡ get_or regions i r → All (IsRegion about.variables about.locations) regions → IsRegion about.variables about.locations r
  item_over i r l e all = subst (IsRegion about.variables about.locations) (sym e) (all i r l)

  pub whole_first : (whole : Region) → IsNowhere about whole → IsWhole about regions 0 whole
  whole_first whole n = record {
    over = n.fits;
    inside = λ s p m. absurd (((nowhere_set about whole n).same s p).0 m);
    all = All-nil (λ x. OfPieces about x.pieces.items (InState whole));
    built = λ s h m. of_nowhere (0 + h) whole n;
    bounded = first_whole about whole n;
  }

  pub whole_more : (i : ℕ) (whole r new : Region) → i < length regions → r ≡ get_or regions i r → IsRegion about.variables about.locations r → IsWhole about regions i whole → IsEither whole r new → IsWhole about regions (i + 1) new
  whole_more i whole r new l e f g b =
      let w = either_set about (InState whole) (InState r) whole r new (own_set about whole g.over) (own_set about r f) b in
      let c = subst (Contains regions) (sym e) (Contains-get_or regions i r l) in record {
        over = w.fits;
        inside = λ s p m. elim ((w.same s p).0 m) [ inl x ↦ g.inside s p x | inr x ↦ in_joined regions r s c x ];
        all = All-more (λ x. OfPieces about x.pieces.items (InState new)) regions i r l
            (All-weaker (λ x. OfPieces about x.pieces.items (InState whole)) (λ x. OfPieces about x.pieces.items (InState new)) (λ x k s p m. (w.same s p).1 (inl (k s p m))) (take i regions) g.all)
            (subst (λ x. OfPieces about x.pieces.items (InState new)) e (λ s p m. (w.same s p).1 (inr m)));
        built = λ s h m. of_either (0 + h) whole r new (g.built s h m) (built_to about s h (0 + h) r (omega arith) (m r c)) b;
        bounded = λ k. more_whole regions i whole r new l e b k (g.bounded k);
      }

  pub whole_few : (i : ℕ) (whole : Region) → length regions ≤ i → IsWhole about regions i whole → (l : ℕ) → count_at l whole ≤ sum (counts_at l regions)
  whole_few i whole l g k = subst (λ rs. count_at k whole ≤ sum (counts_at k rs)) (take_past regions i l) (g.bounded k)

  pub whole_all : (i : ℕ) (whole : Region) → length regions ≤ i → IsWhole about regions i whole → All (λ x. OfPieces about x.pieces.items (InState whole)) regions
  whole_all i whole l g = subst (All (λ x. OfPieces about x.pieces.items (InState whole))) (take_past regions i l) g.all

module _ (about : CaseSystem) where
  no_state : (none : Region) → IsNowhere about none → (s : State) → InState none s → ⊥
  no_state none n s m = no_piece none.pieces.items s n.none m

  there : (s : State) → IsStateOf about s → steps.IsStateOf about s
  there s p = record { location = p.location; values = p.values }

  -- ---- going back
  pub every_before : (into region : Region) → IsBeforeAll about into region → AreBefore about Every into region
  every_before into region b = record {
    over = b.fits;
    right = λ s p m. b.right s (there s p) m;
    all = λ tame s p w. b.all tame s (there s p) w;
  }

  pub any_before : (into region : Region) → IsBefore about into region → AreBefore about Any into region
  any_before into region b = record {
    over = b.fits;
    right = λ s p m. b.right s (there s p) m;
    all = λ tame s p w. b.all tame s (there s p) w;
  }

  pub every_others : (into region : Region) → IsBeforeAll about into region → OthersLeadOut about Every into region
  every_others into region b tame s p n = b.others tame s (there s p) n

  pub any_others : (into region : Region) → IsBefore about into region → OthersLeadOut about Any into region
  any_others into region b tame s p n = λ t st m. n (b.all tame s (there s p) (t, st, m))

  nowhere_tame : (into none : Region) → IsNowhere about none → IsTame about into → IsTame about none
  nowhere_tame into none n (inl plain) = inl plain
  nowhere_tame into none n (inr d) = inr (d.0, λ r m. absurd (no_pieces m.0 none.pieces.items n.none r m.1))

  -- a state whose steps all lead nowhere has none
  pub every_stays : (into back : Region) → AreBefore about Every into back → AreBeforeOrStop about Every into back
  every_stays into back b = record { over = b.over; right = b.right; all = b.all }

  pub any_stays : (into back none stops region : Region) → IsNowhere about none → AreBefore about Any into back → AreBefore about Every none stops → IsEither back stops region → AreBeforeOrStop about Any into region
  any_stays into back none stops region n b e is =
      let w = either_set about (InState back) (InState stops) back stops region (own_set about back b.over) (own_set about stops e.over) is in
      let no = nowhere_set about none n in record {
        over = w.fits;
        right = λ s p m. elim ((w.same s p).0 m) [
          | inl x ↦ inl (b.right s p x)
          | inr x ↦ inr (λ t st. absurd (no_state none n t (e.right s p x t st)))
        ];
        all = λ tame s p h. (w.same s p).1 (elim h [
          | inl x ↦ inl (b.all tame s p x)
          | inr x ↦ inr (e.all (nowhere_tame into none n tame) s p (λ t st. absurd (x t st)))
        ]);
      }

  pub every_stays_at : (path : Path) (into back : Region) → path ≡ Every → AreBefore about path into back → AreBeforeOrStop about path into back
  every_stays_at Every into back e b = every_stays into back b
  every_stays_at Any into back e b = absurd cc

  pub any_stays_at : (path : Path) (into back none stops region : Region) → path ≡ Any → IsNowhere about none → AreBefore about path into back → AreBefore about Every none stops → IsEither back stops region → AreBeforeOrStop about path into region
  any_stays_at Every into back none stops region e n b f is = absurd cc
  any_stays_at Any into back none stops region e n b f is = any_stays into back none stops region n b f is

  pub hold_over : (sides : Sides) (hold : Region) → hold ≡ hold_side sides.shape sides.first.now sides.second.now → AreOver about sides → IsRegion about.variables about.locations hold
  hold_over sides hold e f = subst (IsRegion about.variables about.locations) (sym e) (side sides.shape) where
    side : (shape : Shape) → IsRegion about.variables about.locations (hold_side shape sides.first.now sides.second.now)
    side Until = f.first
    side Weak = f.first
    side Release = f.second
    side Strong = f.second

  pub onward_is : (sides : Sides) (into stays hold region : Region) → hold ≡ hold_side sides.shape sides.first.now sides.second.now → IsRegion about.variables about.locations hold → AreBeforeOrStop about sides.path into stays → IsBoth hold stays region → AreOnward about sides into region
  onward_is sides into stays hold region e f b is =
      let w = both_set about (InState hold) (InState stays) hold stays region (own_set about hold f) (own_set about stays b.over) is in record {
        over = w.fits;
        right = λ s p m. (hold_on sides.shape sides.first.now sides.second.now s (subst (λ r. InState r s) e ((w.same s p).0 m).0), b.right s p ((w.same s p).0 m).1);
        all = λ tame s p h. (w.same s p).1 (subst (λ r. InState r s) (sym e) (hold_in sides.shape sides.first.now sides.second.now s h.0), b.all tame s p h.1);
      }

  -- ---- the end
  pub one_end : (sides : Sides) (none region : Region) → AreOver about sides → IsNowhere about none → two_ends sides.shape ≡ false → IsEither sides.second.now none region → AreAtEnd about sides region
  one_end sides none region f n t is =
      let w = either_set about (InState sides.second.now) (λ s. ⊥) sides.second.now none region (own_set about sides.second.now f.second) (nowhere_set about none n) is in record {
        over = w.fits;
        right = λ s p m. one_to sides.shape (InState sides.first.now) (InState sides.second.now) s t (elim ((w.same s p).0 m) [ inl x ↦ x | inr x ↦ absurd x ]);
        all = λ u s p h. (w.same s p).1 (inl (to_one sides.shape (InState sides.first.now) (InState sides.second.now) s t h));
      }

  pub both_ends : (sides : Sides) (region : Region) → AreOver about sides → two_ends sides.shape ≡ true → IsBoth sides.first.now sides.second.now region → AreAtEnd about sides region
  both_ends sides region f t is =
      let w = both_set about (InState sides.first.now) (InState sides.second.now) sides.first.now sides.second.now region (own_set about sides.first.now f.first) (own_set about sides.second.now f.second) is in record {
        over = w.fits;
        right = λ s p m. two_to sides.shape (InState sides.first.now) (InState sides.second.now) s t ((w.same s p).0 m);
        all = λ u s p h. (w.same s p).1 (to_two sides.shape (InState sides.first.now) (InState sides.second.now) s t h);
      }

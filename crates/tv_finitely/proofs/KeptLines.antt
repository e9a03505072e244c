-- Ranks that do not grow over a case, with the multipliers that show it.
use Rattle.std.proofs.Common.{◌≡◌, ℕ, zero, suc, ◌+◌, ◌-◌, ◌<◌, ◌≤◌, ◌^◌, List, [], ◌∷◌, ◌++◌, length, map, All, Option, None, Some, arith, refl, sym, subst, ℤ, pos, unsigned_abs}
use Rattle.std.specs.Option.{option_map}
use Rattle.std.proofs.lemmas.Int.{ints}
use Rattle.std.proofs.lemmas.List.{map-append}
use Rattle.std.proofs.lemmas.List.Elements.{All-nil, All-cons, All-push}
use Rattle.tv_linear.specs.Arithmetic.{zeros, constant_row}
use Rattle.tv_linear.specs.Linear.{Linear, IsWithin}
use Rattle.tv_linear.specs.Known.{Known, given, less, as_given}
use Rattle.tv_linear.specs.Covers.{Shown, ShownAt}
use Rattle.tv_linear.specs.Falls.{fall_rows_at}
use Rattle.tv_linear.specs.Terms.{terms_after}
use Rattle.tv_linear.specs.declared.region.Piece.{Piece}
use Rattle.tv_linear.proofs.PlainLists.{zeros-narrow}
use Rattle.tv_cases.specs.LinearCases.{CaseSystem}
use Rattle.tv_rank.specs.Ways.{Way, way_of, met_rows}
use Rattle.tv_lexrank.specs.declared.round.Round.{Round}
use Rattle.tv_lexrank.specs.Closing.{changed}
use Rattle.tv_lexrank.specs.Known.{way_rows}
use Rattle.tv_lexrank.specs.Pieces.{zero_ranks, padded_ranks}
use Rattle.tv_lexrank.specs.Rounds.{lines_of, falls_in, ranks_at}
use Rattle.tv_lexrank.specs.Shown.{owed_fall}
use Rattle.tv_lexrank.specs.Sorting.{StandsIn}
use Rattle.tv_lexrank.proofs.Chained.{shown_more}
use Rattle.tv_lexrank.proofs.NodeLemmas.{fall_padded}
use Rattle.tv_lexrank.proofs.StepLemmas.{leaving_falls}
use Rattle.tv_lexrank.proofs.ZeroLines.{zero_line, change_shown}
use Rattle.tv_finitely.specs.Kept.{kept_rows}
use Rattle.tv_finitely.specs.Lines.{zero_lines, round_lines}
use Rattle.tv_finitely.proofs.Taken.{Taken, taken_falls, taken_keeps, taken_narrow, terms_before, terms_later}

-- ---- lists of ranks one after the other
-- the first of the lines, and the others
pub record FirstShown (n : ℕ) (known : List Known) (r : Known) (o : Option (List Known)) (ls : List (List ℤ)) : Type 0 where
  pub first : List ℤ
  pub rest : List (List ℤ)
  pub parts : ls ≡ first ∷ rest
  pub one : Shown n known (r ∷ []) (first ∷ [])
  pub others : ShownAt n known o rest

first_shown : (n : ℕ) (known : List Known) (r : Known) (o : Option (List Known)) (ls : List (List ℤ)) → ShownAt n known (option_map (λ rows. r ∷ rows) o) ls → FirstShown n known r o ls
first_shown n known r None ls h = absurd h
first_shown n known r (Some rows) [] h = absurd h
first_shown n known r (Some rows) (l ∷ ls) h = record { first = l; rest = ls; parts = refl; one = (h.0, tt); others = h.1 }

pub kept_joined : (n : ℕ) (known a b c d : List Known) (ls ms : List (List ℤ)) → ShownAt n known (kept_rows a b) ls → ShownAt n known (kept_rows c d) ms → ShownAt n known (kept_rows (a ++ c) (b ++ d)) (ls ++ ms)
kept_joined n known [] [] c d [] ms h g = g
kept_joined n known [] [] c d (l ∷ ls) ms h g = absurd h
kept_joined n known [] (q ∷ b) c d ls ms h g = absurd h
kept_joined n known (f ∷ a) [] c d ls ms h g = absurd h
kept_joined n known (f ∷ a) (q ∷ b) c d ls ms h g =
    let u = first_shown n known (less q f (pos 0)) (kept_rows a b) ls h in
    subst (λ z. ShownAt n known (kept_rows ((f ∷ a) ++ c) ((q ∷ b) ++ d)) (z ++ ms)) (sym u.parts)
    (shown_more n known (less q f (pos 0)) (kept_rows (a ++ c) (b ++ d)) u.first (u.rest ++ ms) u.one (kept_joined n known a b c d u.rest ms u.others g))

module _ (v : ℕ) (w : Way) where
  abbrev n : ℕ
  n = v + w.taken.draws

  abbrev met : ℕ
  met = length (met_rows w)

  abbrev pub Keeps : List Linear → List Linear → List (List ℤ) → Type 0
  Keeps old new ls = ShownAt n (way_rows w) (kept_rows (as_given old) (map (changed v w) new)) ls

  pub keeps_joined : (old new more more' : List Linear) (ls ms : List (List ℤ)) → Keeps old new ls → Keeps more more' ms → Keeps (old ++ more) (new ++ more') (ls ++ ms)
  keeps_joined old new more more' ls ms h g =
      subst (λ z. ShownAt n (way_rows w) (kept_rows z (map (changed v w) (new ++ more'))) (ls ++ ms)) (sym (map-append (λ r. given r) old more))
      (subst (λ z. ShownAt n (way_rows w) (kept_rows (as_given old ++ as_given more) z) (ls ++ ms)) (sym (map-append (changed v w) new more'))
      (kept_joined n (way_rows w) (as_given old) (map (changed v w) new) (as_given more) (map (changed v w) more') ls ms h g))

  -- a constant that stays
  constant_keeps : (c : ℕ) → c < 2 ^ 32 → Shown n (way_rows w) (less (changed v w (constant_row v (pos c))) (given (constant_row v (pos c))) (pos 0) ∷ []) (zero_line met ∷ [])
  constant_keeps c small = (change_shown v w (terms_after v w.taken.updates) (pos c) (pos c) (pos 0) (omega (arith, ints)) (omega (arith, small)) (omega (arith, small)) (omega arith), tt)

  zeros_keep : (m : ℕ) → Keeps (zero_ranks v m) (zero_ranks v m) (zero_lines met m)
  zeros_keep zero = tt
  zeros_keep (suc m) = keeps_joined (zero_ranks v m) (zero_ranks v m) (constant_row v (pos 0) ∷ []) (constant_row v (pos 0) ∷ []) (zero_lines met m) (zero_line met ∷ []) (zeros_keep m) (constant_keeps 0 (omega arith))

  -- ---- further ranks do not change a fall
  pub fall_shown_padded : (old new more more' : List Linear) (j : ℕ) (ls : List (List ℤ)) → ShownAt n (way_rows w) (owed_fall v w old new j) ls → ShownAt n (way_rows w) (owed_fall v w (old ++ more) (new ++ more') j) ls
  fall_shown_padded old new more more' j ls h = by_owed (owed_fall v w old new j) refl h
    where
      by_owed : (o : Option (List Known)) → owed_fall v w old new j ≡ o → ShownAt n (way_rows w) o ls → ShownAt n (way_rows w) (owed_fall v w (old ++ more) (new ++ more') j) ls
      by_owed None e g = absurd g
      by_owed (Some rows) e g = subst (λ o. ShownAt n (way_rows w) o ls) (sym (fall_padded v w old new more more' j rows e)) g

  -- ---- a case that leaves its component
  pub leaving_padded : (component other : ℕ) (rounds others : List Round) (count : ℕ) → other < component → component < 2 ^ 32 → ShownAt n (way_rows w) (owed_fall v w (padded_ranks v component rounds w.taken.from count) (padded_ranks v other others w.taken.to count) 1) (zero_line met ∷ zero_line met ∷ [])
  leaving_padded component other rounds others count lower small =
      fall_shown_padded (ranks_at v component rounds w.taken.from) (ranks_at v other others w.taken.to) (zero_ranks v (count - 1 - length rounds)) (zero_ranks v (count - 1 - length others)) 1 (zero_line met ∷ zero_line met ∷ [])
      (leaving_falls v w component other rounds others lower small (zero_line met ∷ zero_line met ∷ []) refl)

-- ---- a case inside a component
module _ (about : CaseSystem) (known : List Piece) (left set : List ℕ) (rounds : List Round) (taken : Taken about known left set rounds) (component k count : ℕ) (small : component < 2 ^ 32) (stands : StandsIn set k) where
  abbrev v' : ℕ
  v' = about.variables

  abbrev w' : Way
  w' = way_of about.cases known k

  abbrev n' : ℕ
  n' = v' + w'.taken.draws

  abbrev met' : ℕ
  met' = length (met_rows w')

  abbrev component_row : Known
  component_row = less (changed v' w' (constant_row v' (pos component))) (given (constant_row v' (pos component))) (pos 0)

  -- the fall of one that a round takes out
  pub inside_padded : falls_in k rounds < length rounds → ShownAt n' (way_rows w') (owed_fall v' w' (padded_ranks v' component rounds w'.taken.from count) (padded_ranks v' component rounds w'.taken.to count) (falls_in k rounds + 2)) (round_lines rounds k met')
  inside_padded l =
      let rest = taken_falls about known left k set rounds taken stands.0 stands.1 stands.2 l in
      let all = shown_more n' (way_rows w') component_row (fall_rows_at (terms_before about known left k rounds) (terms_later about known left k rounds) (falls_in k rounds)) (zero_line met') (lines_of k rounds) (constant_keeps v' w' component small) rest in
      let e : suc (suc (falls_in k rounds)) ≡ falls_in k rounds + 2 = omega arith in
      fall_shown_padded v' w' (ranks_at v' component rounds w'.taken.from) (ranks_at v' component rounds w'.taken.to) (zero_ranks v' (count - 1 - length rounds)) (zero_ranks v' (count - 1 - length rounds)) (falls_in k rounds + 2) (round_lines rounds k met')
      (subst (λ z. ShownAt n' (way_rows w') (owed_fall v' w' (ranks_at v' component rounds w'.taken.from) (ranks_at v' component rounds w'.taken.to) z) (round_lines rounds k met')) e all)

  -- what keeps one that none takes out
  pub keeps_padded : length rounds ≤ falls_in k rounds → Keeps v' w' (padded_ranks v' component rounds w'.taken.from count) (padded_ranks v' component rounds w'.taken.to count) (round_lines rounds k met' ++ zero_lines met' (count - 1 - length rounds)) × StandsIn left k
  keeps_padded l =
      let h = taken_keeps about known left k set rounds taken stands.0 stands.1 stands.2 l in
      let all = shown_more n' (way_rows w') component_row (kept_rows (terms_before about known left k rounds) (terms_later about known left k rounds)) (zero_line met') (lines_of k rounds) (constant_keeps v' w' component small) h.0 in (
        keeps_joined v' w' (ranks_at v' component rounds w'.taken.from) (ranks_at v' component rounds w'.taken.to) (zero_ranks v' (count - 1 - length rounds)) (zero_ranks v' (count - 1 - length rounds)) (round_lines rounds k met') (zero_lines met' (count - 1 - length rounds)) all (zeros_keep v' w' (count - 1 - length rounds)),
        h.1,
      )

-- ---- their numbers
pub zero_narrow : (m : ℕ) → All (IsWithin 62) (zero_line m)
zero_narrow m = All-push (IsWithin 62) (zeros m) (pos 1) (zeros-narrow m) (let q : unsigned_abs (pos 1) < 2 ^ 62 = omega arith in q)

pub zeros_narrow : (m n : ℕ) → All (All (IsWithin 62)) (zero_lines m n)
zeros_narrow m zero = All-nil (All (IsWithin 62))
zeros_narrow m (suc n) = All-push (All (IsWithin 62)) (zero_lines m n) (zero_line m) (zeros_narrow m n) (zero_narrow m)

pub round_narrow : (about : CaseSystem) (known : List Piece) (left set : List ℕ) (rounds : List Round) → Taken about known left set rounds → (k m : ℕ) → All (All (IsWithin 62)) (round_lines rounds k m)
round_narrow about known left set rounds taken k m = All-cons (All (IsWithin 62)) (zero_line m) (lines_of k rounds) (zero_narrow m) (taken_narrow about known left set rounds taken k)

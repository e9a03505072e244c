-- The cover of the rows that are met where a case is taken, and the values of a hole.
use Rattle.std.proofs.Common.{◌≡◌, inl, inr, ℕ, zero, suc, ◌+◌, ◌<◌, List, [], ◌∷◌, ◌++◌, length, map, take, drop, All, Option, None, Some, refl, sym, ◌∙◌, subst, ℤ, pos, ◌≤ℤ◌}
use Rattle.std.specs.Prelude.{Contains, slice_get}
use Rattle.std.specs.Option.{option_map}
use Rattle.std.proofs.lemmas.List.{take-append-drop}
use Rattle.std.proofs.lemmas.List.Elements.{All-head, All-contains}
use Rattle.tv_linear.specs.Linear.{Linear, columns, IsMet}
use Rattle.tv_linear.specs.Known.{as_given, term_value}
use Rattle.tv_linear.specs.Terms.{terms_after}
use Rattle.tv_linear.specs.Depth.{splits}
use Rattle.tv_linear.specs.declared.cover.CoverTree.{CoverTree}
use Rattle.tv_linear.specs.declared.cover.CoverTree as cover
use Rattle.tv_linear.specs.declared.region.Piece.{Piece}
use Rattle.tv_linear.specs.Same.{AreSame, OwedSame}
use Rattle.tv_linear.proofs.SameLemmas.{cover_same}
use Rattle.tv_linear.specs.Arithmetic.{padded_row}
use Rattle.tv_linear.proofs.PaddedLemmas.{padded_met}
use Rattle.tv_linear.proofs.ListLaws.{length-back, length-front, all_front, all_back}
use Rattle.tv_cases.specs.Before.{before, rows_before, AreRowsBefore}
use Rattle.tv_cases.specs.LinearCases.{LinearCase, CaseSystem, IsCase}
use Rattle.tv_cases.proofs.BeforeValue.{before-value}
use Rattle.tv_cover.specs.Covering.{IsHole, IsCoverFault}
use Rattle.tv_cover.specs.Targets.{IsOutside, owed_lists}
use Rattle.tv_farkas.specs.declared.budget.Budget.{Budget}
use Rattle.tv_farkas.specs.declared.fault.CoverFault.TheVariants.{Splits, Solve, Wide, Memory}
use Rattle.tv_farkas.specs.Paths.{IsWholePoint}
use Rattle.tv_farkas.specs.Trees.{TreeRows}
use Rattle.tv_rank.specs.Ways.{Way, way_of, case_at, rows_at}
use Rattle.tv_cover.specs.Single.{IsCoverInto}
use Rattle.tv_cases.proofs.ContainsLemmas.{Contains-from_map}
use Rattle.tv_cases.proofs.BeforeLemmas.{all_before_same}
use Rattle.tv_lexrank.specs.declared.fault.RankFault.{RankFault}
use Rattle.tv_lexrank.specs.declared.fault.RankFault.TheVariants as fault
use Rattle.tv_lexrank.specs.Known.{AreKnown, way_rows, padded_rows}
use Rattle.tv_lexrank.specs.Closing.{IsWholeCover, IsUnmade, owed_plain, RefusesCover, changed, Leads, LeadsOut, RefusesClosed}
use Rattle.tv_lexrank.proofs.MetLemmas.{padded_rows_same, over_at}

-- ---- covers

pub whole_splits : (tree : CoverTree) → IsWholeCover tree → splits tree ≡ 0
whole_splits (cover.Split' r p a q b) h = absurd h
whole_splits (cover.Empty ms) h = absurd h
whole_splits (cover.Into target fall ls) h = refl

pub whole_even : (n : ℕ) (tree : CoverTree) → IsWholeCover tree → TreeRows (λ r. columns r ≡ n) tree
whole_even n (cover.Split' r p a q b) h = absurd h
whole_even n (cover.Empty ms) h = absurd h
whole_even n (cover.Into target fall ls) h = tt

-- into the rows before the case
pub leads_into : (v : ℕ) (w : Way) (into rows target : List Linear) (tree : CoverTree) → rows ≡ padded_rows w → AreRowsBefore w.taken into target → All (λ r. columns r ≡ v) into → All (λ u. columns u.term ≡ v + w.taken.draws) w.taken.updates → IsCoverInto (v + w.taken.draws) rows target tree → Leads v w into tree
leads_into v w into rows target tree e made wide us h = record {
  met = cover_same n (owed_lists (target ∷ [])) (owed_plain (map (changed v w) into)) owed (as_given rows) (way_rows w) (subst (λ z. AreSame n (as_given z) (way_rows w)) (sym e) (padded_rows_same n w)) tree h.met;
  shallow = h.shallow;
  short = h.short;
  even = h.even;
}
  where
    n : ℕ
    n = v + w.taken.draws

    none_of : (k : ℕ) (o : Option (List Linear)) → o ≡ None → OwedSame n (option_map as_given o) None
    none_of k None e = tt
    none_of k (Some rows) e = absurd cc

    owed : (k j : ℕ) → OwedSame n (owed_lists (target ∷ []) k j) (owed_plain (map (changed v w) into) k j)
    owed zero zero = subst (λ z. AreSame n (as_given z) (map (changed v w) into)) (sym made.exact) (all_before_same v w.taken into wide us made.fits)
    owed (suc k) zero = none_of k (slice_get (target ∷ []) (suc k)) (nothing k)
      where
        nothing : (k : ℕ) → slice_get (target ∷ []) (suc k) ≡ None
        nothing k = refl
    owed zero (suc j) = tt
    owed (suc k) (suc j) = tt

-- ---- holes

module _ (about : CaseSystem) (known : List Piece) (k : ℕ) (rows target : List Linear) (k_in : k < length about.cases) (fits : AreKnown about known) (proper : IsCase about.variables about.locations (case_at about.cases k)) where
  abbrev v : ℕ
  v = about.variables

  abbrev c : LinearCase
  c = case_at about.cases k

  abbrev into : List Linear
  into = rows_at known c.to

  -- a hole leads out of the known rows
  pub leads_out : (zs : List ℤ) → rows ≡ padded_rows (way_of about.cases known k) → AreRowsBefore c into target → IsHole (v + c.draws) (target ∷ []) rows zs → LeadsOut about known k zs
  leads_out zs e made h =
      let xs = take v zs in
      let ds = drop v zs in
      let point = subst (λ z. IsWholePoint (v + c.draws) z zs) e h.point in
      let size = point.width in
      let whole = sym (take-append-drop v zs) in
      let outside = All-head (IsOutside zs) target [] h.outside in
      let at = Contains-from_map (λ r. before_of r) into outside.0 (subst (λ z. Contains z outside.0) made.exact outside.1) in
      record {
        numbered = k_in;
        old = record { location = c.from; values = xs };
        new = record { location = c.to; values = map (term_value (xs ++ ds)) (terms_after (length xs) c.updates) };
        draws = ds;
        parts = whole;
        wide = length-front v c.draws zs size;
        does = record {
          leaves = refl;
          enters = refl;
          drawn = length-back v c.draws zs size;
          guards = subst (λ ys. All (IsMet ys) c.guards) whole (all_back (IsMet zs) (map (padded_row c.draws) (rows_at known c.from)) c.guards point.met);
          gives = refl;
        };
        meets = padded_met v c.draws (rows_at known c.from) zs (over_at v known c.from fits.over) (all_front (IsMet zs) (map (padded_row c.draws) (rows_at known c.from)) c.guards point.met);
        row = at.0;
        among = at.1;
        unmet = λ m. outside.2 (subst (IsMet zs) at.2 (subst (λ ys. IsMet ys (before at.0 c)) (sym whole)
            (subst (λ z. z ≤ℤ pos 0) (sym (before-value at.0 c xs ds (length-front v c.draws zs size ∙ sym (All-contains (λ r. columns r ≡ v) into at.0 (over_at v known c.to fits.over) at.1)) (length-back v c.draws zs size))) m)));
      }
    where
      before_of : Linear → Linear
      before_of r = before r c

  -- ---- refusals
  pub unmade_closed : (budget : Budget) (e : RankFault) → 0 < length into → IsUnmade c into e → RefusesClosed about known budget e
  unmade_closed budget (fault.Open taken values) some h = absurd h
  unmade_closed budget (fault.Cover (Splits path)) some h = absurd h
  unmade_closed budget (fault.Cover (Solve kept f)) some h = absurd h
  unmade_closed budget (fault.Cover (Wide column)) some h = (k, record { numbered = k_in; some = some; told = tt; why = inl h })
  unmade_closed budget (fault.Cover Memory) some h = absurd h
  unmade_closed budget (fault.Solve system f) some h = absurd h
  unmade_closed budget fault.Memory some h = tt

  pub uncovered_closed : (budget : Budget) (e : RankFault) → 0 < length into → rows ≡ padded_rows (way_of about.cases known k) → AreRowsBefore c into target → RefusesCover (v + c.draws) rows target budget k e → RefusesClosed about known budget e
  uncovered_closed budget (fault.Open taken values) some e made h = subst (λ z. LeadsOut about known z values.items) (sym h.0) (leads_out values.items e made h.1)
  uncovered_closed budget (fault.Cover f) some e made h = (
    k,
    record {
      numbered = k_in;
      some = some;
      told = h.0;
      why = inr (record {
        fits = made.fits;
        fault = subst (λ z. IsCoverFault (v + c.draws) (rows_before c into ∷ []) z budget.pivots budget.splits f) e (subst (λ z. IsCoverFault (v + c.draws) (z ∷ []) rows budget.pivots budget.splits f) made.exact h.1);
      });
    },
  )
  uncovered_closed budget (fault.Solve system f) some e made h = absurd h
  uncovered_closed budget fault.Memory some e made h = tt

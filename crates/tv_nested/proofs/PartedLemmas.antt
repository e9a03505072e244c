-- The terms of one component.
use Rattle.std.proofs.Common.{◌≡◌, ◌∙◌, ℕ, zero, suc, ◌+◌, ◌<◌, ◌≤◌, ◌^◌, List, [], ◌∷◌, length, get_or, All, arith, refl, sym, ap, subst, ℤ, pos, unsigned_abs}
use Rattle.std.proofs.lemmas.Int.{ints}
use Rattle.std.proofs.lemmas.List.{length-map}
use Rattle.std.proofs.lemmas.List.Elements.{All-nil}
use Rattle.tv_linear.specs.Linear.{columns, IsWithin}
use Rattle.tv_linear.specs.declared.region.Piece.{Piece}
use Rattle.tv_cases.specs.LinearCases.{CaseSystem}
use Rattle.tv_simplex.specs.declared.fault.SolveFault.{SolveFault}
use Rattle.tv_simplex.specs.declared.fault.SolveFault.TheVariants.{Width, Scale, Pivots, Size, Memory}
use Rattle.tv_rank.specs.Given.{lists}
use Rattle.tv_rank.specs.Answers.{IsRefusal, IsSystemFault}
use Rattle.tv_rank.specs.Ways.{Way, way_at}
use Rattle.tv_rank.specs.declared.name.Name.{Name}
use Rattle.tv_rank.specs.declared.name.Name.TheVariants as name
use Rattle.tv_lexrank.specs.declared.fault.RankFault.{RankFault}
use Rattle.tv_lexrank.specs.declared.fault.RankFault.TheVariants as rank
use Rattle.tv_lexrank.specs.declared.round.Round.{Round}
use Rattle.tv_lexrank.specs.declared.sorting.Sorted.{Sorted}
use Rattle.tv_lexrank.specs.Greedy.{Lead, IsNamed, RefusesGreedy}
use Rattle.tv_lexrank.specs.Known.{AreBare, HaveRows}
use Rattle.tv_lexrank.specs.Parts.{AreTakenOut}
use Rattle.tv_lexrank.specs.Sorting.{IsSorted, NamesInside, RefusesSorting}
use Rattle.tv_nested.specs.declared.depths.DepthFault.{DepthFault}
use Rattle.tv_nested.specs.declared.fault.NestName.{NestName}
use Rattle.tv_nested.specs.declared.fault.NestName.TheVariants as named
use Rattle.tv_nested.specs.declared.fault.NestFault.{NestFault}
use Rattle.tv_nested.specs.declared.fault.NestFault.TheVariants as fault
use Rattle.tv_nested.specs.declared.part.Part.{Part}
use Rattle.tv_nested.specs.Answers.{system_of_set}
use Rattle.tv_nested.specs.Depths.{IsBarred, IsNestedAt, IsDepthFault}
use Rattle.tv_nested.specs.Families.{IsNestedFamily}
use Rattle.tv_nested.specs.Nested.{AreBarredDepths, RefusesDepth}
use Rattle.tv_nested.specs.Parted.{IsLeftBy, NamesNested, RefusesParted, IsBareFault, IsSameName, IsToldAs, refusal_of}
use Rattle.tv_nested.specs.Parts.{IsNestedPart, IsLeft}
use Rattle.tv_nested.specs.Reading.{tuple_of, lines_of_cases}

-- ---- refusals where no rows are known
no_rows : (known : List Piece) → AreBare known → HaveRows known → ⊥
no_rows known bare (l, some) = (let e = ap length (bare l) in omega (arith, e, some))

module _ (about : CaseSystem) (known : List Piece) (numbers : List ℕ) (component pivots : ℕ) where
  pub sorting_bare : (f : RankFault) → AreBare known → RefusesSorting about known numbers component pivots f → IsBareFault f
  sorting_bare (rank.Open taken values) bare h = h
  sorting_bare (rank.Cover f) bare h = h
  sorting_bare (rank.Solve system e) bare h = by_name system h
    where
      by_name : (system : Name) → NamesInside about known numbers component pivots system e → IsBareFault (rank.Solve system e)
      by_name (name.Empty k) h = tt
      by_name (name.Rank c round falling) h = tt
      by_name (name.Rows rows) h = no_rows known bare h.0
      by_name (name.Later s falling) h = h
  sorting_bare rank.Memory bare h = tt

  pub greedy_bare : (set : List ℕ) (f : RankFault) → AreBare known → RefusesGreedy about known set pivots component f → IsBareFault f
  greedy_bare set (rank.Open taken values) bare h = h
  greedy_bare set (rank.Cover f) bare h = h
  greedy_bare set (rank.Solve system e) bare h = by_name system h
    where
      by_name : (system : Name) → IsNamed about known set pivots component system e → IsBareFault (rank.Solve system e)
      by_name (name.Empty k) h = tt
      by_name (name.Rank c round falling) h = tt
      by_name (name.Rows rows) h = h
      by_name (name.Later s falling) h = no_rows known bare h.0
  greedy_bare set rank.Memory bare h = tt

  inside_named : (system : Name) (n : NestName) (e g : SolveFault) → IsSameName system n → g ≡ e → NamesInside about known numbers component pivots system e → NamesNested about known numbers component pivots n g
  inside_named (name.Empty k) (named.Empty m) e g same eq h = rw same (rw eq h)
  inside_named (name.Empty k) (named.Rank c r f) e g same eq h = absurd same
  inside_named (name.Empty k) (named.Nest c d) e g same eq h = absurd same
  inside_named (name.Rank c round falling) n e g same eq h = absurd h
  inside_named (name.Rows rows) n e g same eq h = absurd same
  inside_named (name.Later s falling) n e g same eq h = absurd h

  pub sorting_told : (f : RankFault) (x : NestFault) → IsToldAs f x → RefusesSorting about known numbers component pivots f → RefusesParted about known numbers component pivots x
  sorting_told (rank.Open taken values) x told h = absurd h
  sorting_told (rank.Cover f) x told h = absurd h
  sorting_told (rank.Solve system e) (fault.Solve n g) told h = inside_named system n e g told.0 told.1 h
  sorting_told (rank.Solve system e) (fault.Cover f) told h = absurd told
  sorting_told (rank.Solve system e) fault.Memory told h = absurd told
  sorting_told rank.Memory (fault.Solve n g) told h = absurd told
  sorting_told rank.Memory (fault.Cover f) told h = absurd told
  sorting_told rank.Memory fault.Memory told h = tt

  round_named : (set : List ℕ) (system : Name) (n : NestName) (e g : SolveFault) → AreTakenOut about known numbers component set → IsSameName system n → g ≡ e → IsNamed about known set pivots component system e → NamesNested about known numbers component pivots n g
  round_named set (name.Empty k) n e g taken same eq h = absurd h
  round_named set (name.Rank c round falling) (named.Empty m) e g taken same eq h = absurd same
  round_named set (name.Rank c round falling) (named.Rank a r f) e g taken (x, y, z) eq (bare, is, refuses) =
      (x ∙ is, (set, taken, (bare, x ∙ is, rw y (rw z (rw eq refuses)))))
  round_named set (name.Rank c round falling) (named.Nest a d) e g taken same eq h = absurd same
  round_named set (name.Rows rows) n e g taken same eq h = absurd h
  round_named set (name.Later s falling) n e g taken same eq h = absurd same

  pub greedy_told : (set : List ℕ) (f : RankFault) (x : NestFault) → AreTakenOut about known numbers component set → IsToldAs f x → RefusesGreedy about known set pivots component f → RefusesParted about known numbers component pivots x
  greedy_told set (rank.Open number values) x taken told h = absurd h
  greedy_told set (rank.Cover f) x taken told h = absurd h
  greedy_told set (rank.Solve system e) (fault.Solve n g) taken told h = round_named set system n e g taken told.0 told.1 h
  greedy_told set (rank.Solve system e) (fault.Cover f) taken told h = absurd told
  greedy_told set (rank.Solve system e) fault.Memory taken told h = absurd told
  greedy_told set rank.Memory (fault.Solve n g) taken told h = absurd told
  greedy_told set rank.Memory (fault.Cover f) taken told h = absurd told
  greedy_told set rank.Memory fault.Memory taken told h = tt

  -- ---- the refusal of a nested system
  system_refused : (set : List ℕ) (d : ℕ) (e : SolveFault) → IsLeft about known numbers component set → ((f : SolveFault) → IsSystemFault (system_of_set about known set d) pivots f → RefusesDepth about known set pivots d f) → IsRefusal (system_of_set about known set d) pivots e → RefusesParted about known numbers component pivots (refusal_of (named.Nest component d) e)
  system_refused set d (Width basis row column) left h r = (refl, (set, left, h (Width basis row column) r))
  system_refused set d (Scale basis) left h r = (refl, (set, left, h (Scale basis) r))
  system_refused set d (Pivots bases) left h r = (refl, (set, left, h (Pivots bases) r))
  system_refused set d (Size height width) left h r = (refl, (set, left, h (Size height width) r))
  system_refused set d Memory left h r = tt

  pub depth_refused : (set : List ℕ) (e : DepthFault) → IsLeft about known numbers component set → IsDepthFault about known set pivots e → RefusesParted about known numbers component pivots (refusal_of (named.Nest component e.depth) e.fault)
  depth_refused set e left h = system_refused set e.depth e.fault left (λ f r. record {
    deep = h.deep;
    shallow = h.shallow;
    before = h.before;
    refuses = r;
  }) h.refusal

-- ---- what the rounds leave
pub is_left : (about : CaseSystem) (known : List Piece) (numbers : List ℕ) (component : ℕ) (s : Sorted) (rounds : List Round) (left : List ℕ) → IsSorted about known numbers component (length about.cases) s → IsLeftBy about known s.set.items rounds left → IsLeft about known numbers component left
is_left about known numbers component s rounds left sorted h = record {
  set = s.set.items;
  taken = (s.empty.items, lists s.refutations.items, sorted);
  rounds = rounds;
  lead = h.lead;
  some = h.some;
  points = h.points;
  barriers = h.barriers;
  barred = h.barred;
}

pub barred_depths : (about : CaseSystem) (known : List Piece) (set : List ℕ) (two three four : List ℤ) (barriers : List (List ℤ)) → barriers ≡ two ∷ three ∷ four ∷ [] → IsBarred about known set 2 two → IsBarred about known set 3 three → IsBarred about known set 4 four → AreBarredDepths about known set barriers
barred_depths about known set two three four barriers e a b c = record {
  as_many = ap length e;
  each = λ i l. rw e (by_place i l);
}
  where
    by_place : (i : ℕ) → i < 3 → IsBarred about known set (i + 2) (get_or (two ∷ three ∷ four ∷ []) i [])
    by_place zero l = a
    by_place (suc zero) l = b
    by_place (suc (suc zero)) l = c
    by_place (suc (suc (suc i))) l = absurd (omega (arith, l))

-- ---- parts
pub nested_part : (about : CaseSystem) (known : List Piece) (numbers : List ℕ) (component d : ℕ) (p : Part) → IsSorted about known numbers component (length about.cases) p.sorted → IsLeftBy about known p.sorted.set.items p.rounds.items p.left.items → IsNestedAt about known p.left.items d p.family → IsNestedPart about known numbers component p
nested_part about known numbers component d p sorted left h = record {
  sorted = sorted;
  lead = left.lead;
  family = subst (λ n. IsNestedFamily about.variables about.locations (length p.left.items) n (way_at about.cases known p.left.items) (tuple_of p.family.terms.items) p.family.scale (lines_of_cases p.family.lines.items)) many h.found;
  deep = λ l. (let a = h.deep in let e = many in omega (arith, a, e));
  none = λ e. absurd (let a = ap length e in let b = left.some in omega (arith, a, b));
  shallow = (let a = h.shallow in let e = many in omega (arith, a, e));
}
  where
    many : d ≡ length p.family.terms.items
    many = sym h.found.as_many ∙ length-map p.family.terms.items (λ v. v.items)

no_family : (v locations many d : ℕ) (ways : ℕ → Way) → many ≡ 0 → d ≡ 0 → IsNestedFamily v locations many d ways [] (pos 1) []
no_family v locations many d ways none flat = record {
  as_many = sym flat;
  each = All-nil (All (λ t. t.location < locations));
  wide = All-nil (All (λ t. columns t.row ≡ v));
  positive = omega (arith, ints);
  short = (let q : unsigned_abs (pos 1) < 2 ^ 62 = omega arith in q);
  counted = sym none;
  falls = λ k l. absurd (omega (arith, l, none));
  bounded = λ k l. absurd (omega (arith, l, none));
  narrow = All-nil (All (All (IsWithin 62)));
  room = record {
    few = λ k l. absurd (omega (arith, l, none));
    rows = λ k l. absurd (omega (arith, l, none));
    kept = λ k l. absurd (omega (arith, l, none));
    told = λ k l. absurd (omega (arith, l, none));
    moved = λ k l. absurd (omega (arith, l, none));
    ones = λ k l. absurd (omega (arith, l, none));
  };
  nested = record {
    falls = λ k l. absurd (omega (arith, l, none));
    bounded = λ k l. absurd (omega (arith, l, none));
  };
}

pub emptied_part : (about : CaseSystem) (known : List Piece) (numbers : List ℕ) (component : ℕ) (p : Part) → IsSorted about known numbers component (length about.cases) p.sorted → Lead about known p.sorted.set.items p.rounds.items [] → p.left.items ≡ [] → p.family.terms.items ≡ [] → p.family.lines.items ≡ [] → p.family.scale ≡ pos 1 → IsNestedPart about known numbers component p
emptied_part about known numbers component p sorted lead left terms lines scale = record {
  sorted = sorted;
  lead = rw left lead;
  family = subst (λ ts. IsNestedFamily about.variables about.locations (length p.left.items) (length p.family.terms.items) (way_at about.cases known p.left.items) ts p.family.scale (lines_of_cases p.family.lines.items)) (ap tuple_of (sym terms))
      (subst (λ z. IsNestedFamily about.variables about.locations (length p.left.items) (length p.family.terms.items) (way_at about.cases known p.left.items) [] z (lines_of_cases p.family.lines.items)) (sym scale)
      (subst (λ ls. IsNestedFamily about.variables about.locations (length p.left.items) (length p.family.terms.items) (way_at about.cases known p.left.items) [] (pos 1) ls) (ap lines_of_cases (sym lines))
      (no_family about.variables about.locations (length p.left.items) (length p.family.terms.items) (way_at about.cases known p.left.items) (ap length left) (ap length terms))));
  deep = λ l. absurd (let e = ap length left in omega (arith, l, e));
  none = λ e. terms;
  shallow = (let e = ap length terms in omega (arith, e));
}

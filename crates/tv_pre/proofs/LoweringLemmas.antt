-- Covers with the falls of a ranking.
use Rattle.std.proofs.Common.{◌≡◌, ℕ, zero, suc, ◌+◌, ◌<◌, ◌≤◌, ◌++◌, List, [], ◌∷◌, map, length, All, Option, None, Some, Bool, false, true, cond, if◌then◌else◌, slice_get, ◌==◌, arith, refl, sym, ap, ◌∙◌, subst, ℤ, Vec, length-append}
use Rattle.std.specs.Prelude.{max}
use Rattle.std.specs.Global.{Global}
use Rattle.std.specs.List.{filter}
use Rattle.std.specs.Option.{option_map}
use Rattle.std.proofs.lemmas.List.{append_assoc, append-nil}
use Rattle.std.proofs.lemmas.List.Elements.{All-append}
use Rattle.std.proofs.lemmas.Bool.{eqb-true}
use Rattle.tv_linear.specs.Linear.{Linear, columns, IsWithin}
use Rattle.tv_linear.specs.Known.{Known, given, denied, as_given}
use Rattle.tv_linear.specs.Refutation.{Refutes}
use Rattle.tv_linear.specs.Covers.{Shown, ShownAt, IsMetCover}
use Rattle.tv_linear.specs.Falls.{fall_rows}
use Rattle.tv_linear.specs.declared.cover.CoverTree.{CoverTree}
use Rattle.tv_linear.specs.declared.cover.CoverTree as cover
use Rattle.tv_linear.specs.declared.region.Piece.{Piece}
use Rattle.tv_linear.proofs.ListLaws.{all_unmapped}
use Rattle.tv_farkas.specs.Stretching.{IsSplitOf}
use Rattle.tv_cases.specs.LinearCases.{LinearCase, CaseSystem}
use Rattle.tv_cert.specs.declared.node.Mark.TheVariants.{Go}
use Rattle.tv_cert.specs.declared.node.Marked.{Marked}
use Rattle.tv_cert.specs.declared.node.Proof.TheVariants.{Covered}
use Rattle.tv_cert.specs.Claims.{about_with}
use Rattle.tv_cert.specs.Obligations.{step_of, step_fall, case_change}
use Rattle.tv_cert.specs.Pieces.{place_of, rows_of, ranks_of, goes, pieces_at}
use Rattle.tv_cert.specs.Targets.{owed_into, target_rows, no_fall, fall_from}
use Rattle.tv_shape.specs.Narrow.{AreNarrow, CountNarrow, RowNarrow, CoverNarrow}
use Rattle.tv_shape.specs.Made.{IsOffered}
use Rattle.tv_rank.specs.Given.{lists}
use Rattle.tv_choice.specs.Leading.{piece_rows}
use Rattle.tv_lexrank.specs.declared.falling.Fall.{Fall}
use Rattle.tv_lexrank.specs.Falling.{spread, AllHeld, AreNarrowLines}
use Rattle.tv_lexrank.specs.Shown.{ranks_there}
use Rattle.tv_lexrank.proofs.FallLemmas.{spreads_narrow, shown_append}
use Rattle.tv_lexrank.proofs.OfferLemmas.{met_shape}
use Rattle.tv_lexrank.proofs.PadLemmas.{spread_shown}
use Rattle.tv_pre.specs.Offers.{ShowsStep}
use Rattle.tv_pre.specs.Pieces.{marked_as}
use Rattle.tv_pre.specs.Ranked.{EachOf}
use Rattle.tv_pre.specs.Lowering.{IsOwedWith, IsLowered, IsRankedAs, ShowsRankedStep, FallsFrom}
use Rattle.tv_pre.proofs.FallLemmas.{only_zero}
use Rattle.tv_pre.proofs.FallingLemmas.{done_count, shape_even}
use Rattle.tv_pre.proofs.PieceLemmas.{are_marked}
use Rattle.tv_pre.proofs.ShownLemmas.{all_mapped, denied_more, given_more}
use Rattle.tv_cert.proofs.JoinedLemmas.{pieces_at-append}

-- ---- part by part
split_lowers : (fall : Fall) (first above : ℕ) (r s : Linear) (p q t u : _) (x y a b : CoverTree) → RowNarrow r → s ≡ r → IsLowered fall first (above + 1) x a → IsLowered fall first (above + 1) y b →
    IsLowered fall first above (cover.Split' r p x q y) (cover.Split' s t a u b)
split_lowers fall first above r s p q t u x y a b narrow e h g = record {
  lower = λ n known sides owed wanted many held with met. (
    subst (λ z. IsMetCover n wanted ((known ++ sides) ++ given z ∷ []) a) (sym e)
        (subst (λ ks. IsMetCover n wanted ks a) (sym (append_assoc known sides (given r ∷ [])))
        (h.lower n known (sides ++ given r ∷ []) owed wanted (length-append sides (given r ∷ []) ∙ ap (λ m. m + 1) many) (given_more n sides r held) with
        (subst (λ ks. IsMetCover n owed ks x) (append_assoc known sides (given r ∷ [])) met.0))),
    subst (λ z. IsMetCover n wanted ((known ++ sides) ++ denied (given z) ∷ []) b) (sym e)
        (subst (λ ks. IsMetCover n wanted ks b) (sym (append_assoc known sides (denied (given r) ∷ [])))
        (g.lower n known (sides ++ denied (given r) ∷ []) owed wanted (length-append sides (denied (given r) ∷ []) ∙ ap (λ m. m + 1) many) (denied_more n sides r narrow held) with
        (subst (λ ks. IsMetCover n owed ks y) (append_assoc known sides (denied (given r) ∷ [])) met.1))),
  );
  deep = λ i. 1 + max (h.deep i) (g.deep i);
  even = λ n w. (subst (λ z. columns z ≡ n) (sym e) w.0, h.even n w.1, g.even n w.2);
  narrow = (subst RowNarrow (sym e) narrow, h.narrow, g.narrow);
}

pub split_of_lowers : (fall : Fall) (first above : ℕ) (r : Linear) (p q : _) (x y a b new : CoverTree) → RowNarrow r → IsSplitOf r a b new → IsLowered fall first (above + 1) x a → IsLowered fall first (above + 1) y b →
    IsLowered fall first above (cover.Split' r p x q y) new
split_of_lowers fall first above r p q x y a b (cover.Split' s t c u d) narrow e h g = split_lowers fall first above r s p q t u x y c d narrow e.0 (subst (IsLowered fall first (above + 1) x) (sym e.1) h) (subst (IsLowered fall first (above + 1) y) (sym e.2) g)
split_of_lowers fall first above r p q x y a b (cover.Empty ms) narrow e h g = absurd e
split_of_lowers fall first above r p q x y a b (cover.Into k j ls) narrow e h g = absurd e

pub empty_lowers : (fall : Fall) (first above : ℕ) (old new : Vec ℤ Global) → new.items ≡ old.items → AreNarrow old.items → IsLowered fall first above (cover.Empty old) (cover.Empty new)
empty_lowers fall first above old new e narrow = record {
  lower = λ n known sides owed wanted many held with met. subst (Refutes n (known ++ sides)) (sym e) met;
  deep = refl;
  even = λ n w. tt;
  narrow = subst AreNarrow (sym e) narrow;
}

-- a target that is done
pub done_lowers : (fall : Fall) (first above target none : ℕ) (old new : Vec (Vec ℤ Global) Global) → lists new.items ≡ lists old.items → target < first → CoverNarrow (cover.Into target none old) →
    IsLowered fall first above (cover.Into target none old) (cover.Into target none new)
done_lowers fall first above target none old new e below narrow = record {
  lower = λ n known sides owed wanted many held with met. by_fall n (known ++ sides) owed wanted none (with.before target below) (with.only target) met;
  deep = refl;
  even = λ n w. tt;
  narrow = (narrow.0, narrow.1, all_unmapped AreNarrow (λ l. l.items) new.items (subst AreNarrowLines (sym e) (all_mapped AreNarrow (λ l. l.items) old.items narrow.2)));
}
  where
    by_fall : (n : ℕ) (known : List Known) (owed wanted : ℕ → ℕ → Option (List Known)) (none : ℕ) → wanted target 0 ≡ owed target 0 → ((j : ℕ) → owed target (suc j) ≡ None) → ShownAt n known (owed target none) (lists old.items) → ShownAt n known (wanted target none) (lists new.items)
    by_fall n known owed wanted zero same only met = subst (λ o. ShownAt n known o (lists new.items)) (sym same) (subst (ShownAt n known (owed target 0)) (sym e) met)
    by_fall n known owed wanted (suc j) same only met = absurd (subst (λ o. ShownAt n known o (lists old.items)) (only j) met)

-- a target that goes on
pub onward_lowers : (fall : Fall) (first above target none : ℕ) (old new : Vec (Vec ℤ Global) Global) → lists new.items ≡ lists old.items ++ map (spread above) (lists fall.lines.items) → first ≤ target → CountNarrow fall.number →
    CoverNarrow (cover.Into target none old) → AreNarrowLines (lists fall.lines.items) → IsLowered fall first above (cover.Into target none old) (cover.Into target fall.number new)
onward_lowers fall first above target none old new e past small narrow lines = record {
  lower = λ n known sides owed wanted many held with met. by_fall n known sides owed wanted none many held (with.onward target) (with.only target) met;
  deep = refl;
  even = λ n w. tt;
  narrow = (
    narrow.0,
    small,
    all_unmapped AreNarrow (λ l. l.items) new.items (subst AreNarrowLines (sym e) (All-append (All (IsWithin 62)) (lists old.items) (map (spread above) (lists fall.lines.items)) (all_mapped AreNarrow (λ l. l.items) old.items narrow.2) (spreads_narrow above (lists fall.lines.items) lines))),
  );
}
  where
    at_rows : (n : ℕ) (known sides : List Known) (wanted : Option (List Known)) (o : Option (List Known)) → length sides ≡ above → AllHeld n sides →
        ((rows : List Known) → o ≡ Some rows → (falls : List Known) × (wanted ≡ Some (rows ++ falls)) × Shown n known falls (lists fall.lines.items)) →
        ShownAt n (known ++ sides) o (lists old.items) → ShownAt n (known ++ sides) wanted (lists new.items)
    at_rows n known sides wanted None many held with met = absurd met
    at_rows n known sides wanted (Some rows) many held with met =
        let w = with rows refl in
        let falls = w.0 in
        subst (λ o. ShownAt n (known ++ sides) o (lists new.items)) (sym w.1)
        (subst (Shown n (known ++ sides) (rows ++ falls)) (sym e)
        (shown_append n (known ++ sides) rows falls (lists old.items) (map (spread above) (lists fall.lines.items)) met
        (subst (λ m. Shown n (known ++ sides) falls (map (spread m) (lists fall.lines.items))) many (spread_shown n known sides falls (lists fall.lines.items) held w.2))))

    by_fall : (n : ℕ) (known sides : List Known) (owed wanted : ℕ → ℕ → Option (List Known)) (none : ℕ) → length sides ≡ above → AllHeld n sides →
        ((rows : List Known) → first ≤ target → owed target 0 ≡ Some rows → (falls : List Known) × (wanted target fall.number ≡ Some (rows ++ falls)) × Shown n known falls (lists fall.lines.items)) →
        ((j : ℕ) → owed target (suc j) ≡ None) → ShownAt n (known ++ sides) (owed target none) (lists old.items) → ShownAt n (known ++ sides) (wanted target fall.number) (lists new.items)
    by_fall n known sides owed wanted zero many held with only met = at_rows n known sides (wanted target fall.number) (owed target 0) many held (λ rows g. with rows past g) met
    by_fall n known sides owed wanted (suc j) many held with only met = absurd (subst (λ o. ShownAt n (known ++ sides) o (lists old.items)) (only j) met)

-- ---- what is owed on entering the pieces of a node
kept_done : (b : Bool) (x : Marked) (xs : List Marked) → goes x ≡ false → EachOf (λ p. goes p ≡ false) xs → EachOf (λ p. goes p ≡ false) (cond b (x ∷ xs) xs)
kept_done true x xs p h = (p, h)
kept_done false x xs p h = h

done_at : (xs : List Marked) (l : ℕ) → EachOf (λ p. goes p ≡ false) xs → EachOf (λ p. goes p ≡ false) (pieces_at xs l)
done_at [] l h = tt
done_at (x ∷ xs) l h = kept_done (place_of x == l) x (pieces_at xs l) h.0 (done_at xs l h.1)

-- the piece goes on with these ranks
abbrev GoesWith : List Linear → Marked → Type 0
GoesWith ranks p = (goes p ≡ true) × (ranks_of p ≡ ranks)

kept_onward : (ranked : List Marked) (l : ℕ) (x : Marked) (xs : List Marked) (b : Bool) → (place_of x == l) ≡ b → IsRankedAs ranked x → EachOf (GoesWith (ranks_there ranked l)) xs → EachOf (GoesWith (ranks_there ranked l)) (cond b (x ∷ xs) xs)
kept_onward ranked l x xs true e p h = ((p.0, p.1 ∙ ap (ranks_there ranked) (eqb-true (place_of x) l e)), h)
kept_onward ranked l x xs false e p h = h

onward_at : (ranked : List Marked) (xs : List Marked) (l : ℕ) → EachOf (IsRankedAs ranked) xs → EachOf (GoesWith (ranks_there ranked l)) (pieces_at xs l)
onward_at ranked [] l h = tt
onward_at ranked (x ∷ xs) l h = kept_onward ranked l x (pieces_at xs l) (place_of x == l) refl h.0 (onward_at ranked xs l h.1)

-- N columns; the ranks of the piece that is left, those of the ones that are entered, and the lines of a fall from these to those
module _ (N : ℕ) (change : Linear → Known) (old new : List Linear) (fall : Fall) (base : List Known) (shown : ShownAt N base (fall_rows (as_given old) (map change new) fall.number) (lists fall.lines.items)) where
  abbrev fall_of : Marked → ℕ → Option (List Known)
  fall_of = fall_from change old

  done_same : (q : Marked) (b : Bool) → b ≡ false → option_map (λ falls. map change (rows_of q) ++ falls) (if b then fall_rows (as_given old) (map change (ranks_of q)) 0 else no_fall q 0) ≡ Some (map change (rows_of q) ++ [])
  done_same q true e = absurd (let no : ⊥ = cc in no)
  done_same q false e = refl

  before_same : (xs ys : List Marked) → EachOf (λ p. goes p ≡ false) xs → (k : ℕ) → k < length xs → target_rows change fall_of (slice_get (xs ++ ys) k) 0 ≡ target_rows change no_fall (slice_get (xs ++ ys) k) 0
  before_same [] ys h k l = absurd (omega (arith, l))
  before_same (x ∷ xs) ys h zero l = done_same x (goes x) h.0
  before_same (x ∷ xs) ys h (suc k) l = before_same xs ys h.1 k (omega (arith, l))

  abbrev Extends : List Known → Option (List Known) → Type 0
  Extends rows wanted = (falls : List Known) × (wanted ≡ Some (rows ++ falls)) × Shown N base falls (lists fall.lines.items)

  with_fall_rows : (front : List Known) (o : Option (List Known)) → ShownAt N base o (lists fall.lines.items) → Extends front (option_map (λ falls. front ++ falls) o)
  with_fall_rows front None s = absurd s
  with_fall_rows front (Some falls) s = (falls, refl, s)

  go_extends : (q : Marked) (rows : List Known) → GoesWith new q → map change (rows_of q) ++ [] ≡ rows → Extends rows (option_map (λ falls. map change (rows_of q) ++ falls) (if goes q then fall_rows (as_given old) (map change (ranks_of q)) fall.number else no_fall q fall.number))
  go_extends q rows h e =
      subst (λ rs. Extends rs (option_map (λ falls. map change (rows_of q) ++ falls) (if goes q then fall_rows (as_given old) (map change (ranks_of q)) fall.number else no_fall q fall.number))) (sym (append-nil (map change (rows_of q))) ∙ e)
      (subst (λ b. Extends (map change (rows_of q)) (option_map (λ falls. map change (rows_of q) ++ falls) (if b then fall_rows (as_given old) (map change (ranks_of q)) fall.number else no_fall q fall.number))) (sym h.0)
      (subst (λ rs. Extends (map change (rows_of q)) (option_map (λ falls. map change (rows_of q) ++ falls) (fall_rows (as_given old) (map change rs) fall.number))) (sym h.1)
      (with_fall_rows (map change (rows_of q)) (fall_rows (as_given old) (map change new) fall.number) shown)))

  got : {A : Type 0} (x y : A) → Some x ≡ Some y → x ≡ y
  got x y e = cc

  onward_extends : (xs ys : List Marked) → EachOf (GoesWith new) ys → (k : ℕ) (rows : List Known) → length xs ≤ k → target_rows change no_fall (slice_get (xs ++ ys) k) 0 ≡ Some rows → Extends rows (target_rows change fall_of (slice_get (xs ++ ys) k) fall.number)
  onward_extends [] [] h k rows l e = absurd (let no : ⊥ = cc in no)
  onward_extends [] (y ∷ ys) h zero rows l e = go_extends y rows h.0 (got (map change (rows_of y) ++ []) rows e)
  onward_extends [] (y ∷ ys) h (suc k) rows l e = onward_extends [] ys h.1 k rows (omega arith) e
  onward_extends (x ∷ xs) ys h zero rows l e = absurd (omega (arith, l))
  onward_extends (x ∷ xs) ys h (suc k) rows l e = onward_extends xs ys h k rows (omega (arith, l)) e

  pub ranks_owed : (dones onward : List Marked) (l : ℕ) → EachOf (λ p. goes p ≡ false) (pieces_at dones l) → EachOf (GoesWith new) (pieces_at onward l) →
      IsOwedWith N (length (pieces_at dones l)) base fall (owed_into (dones ++ onward) l change no_fall) (owed_into (dones ++ onward) l change (fall_from change old))
  ranks_owed dones onward l d o =
      let split = pieces_at-append dones onward l in
      record {
        before = λ k s.
            subst (λ ps. target_rows change fall_of (slice_get ps k) 0 ≡ target_rows change no_fall (slice_get ps k) 0) (sym split) (before_same (pieces_at dones l) (pieces_at onward l) d k s);
        onward = λ k rows s e.
            subst (λ ps. Extends rows (target_rows change fall_of (slice_get ps k) fall.number)) (sym split)
            (onward_extends (pieces_at dones l) (pieces_at onward l) o k rows s (subst (λ ps. target_rows change no_fall (slice_get ps k) 0 ≡ Some rows) split e));
        only = λ k j. only_zero change (slice_get (pieces_at (dones ++ onward) l) k) j;
      }

-- ---- what the cover is offered for
pub step_narrow : (about : CaseSystem) (q : Piece) (c : LinearCase) (into : List Piece) (tree : CoverTree) → ShowsStep about q c into tree → CoverNarrow tree
step_narrow about q c into tree h =
    (h 0 (marked_as about.variables Go [] q) (map (marked_as about.variables Go []) into) (refl, refl) (are_marked about.variables Go [] into)).narrow

pub shows_ranked_step : (about : CaseSystem) (ranked : List Marked) (q : Piece) (c : LinearCase) (done into : List Piece) (fall : Fall) (first : ℕ) (old new : CoverTree) → first ≡ length (filter (λ p. p.location == c.to) done) → c.from ≡ q.location →
    ShowsStep about q c into old → IsLowered fall first 0 old new → FallsFrom about ranked q c fall → ShowsRankedStep about ranked q c done into new
shows_ranked_step about ranked q c done into fall first old new e from shows lower falls number p all h = record {
  shape = (met_shape w (owed_into all c.to (case_change n c) (step_fall (about_with about) p c)) known new (lower.even w (shape_even w _ (length known) old plain.shape.0)) met, (let d = lower.deep in let s = plain.shape.1 in omega (arith, d, s)));
  met = met;
  narrow = lower.narrow;
}
  where
    n : ℕ
    n = about.variables

    w : ℕ
    w = about.variables + c.draws

    known : List Known
    known = as_given (rows_of p) ++ as_given c.guards

    plain : IsOffered (step_of number (about_with about) p all (λ c. no_fall) c) (Covered old)
    plain = shows number p all h.marked h.all_are

    there : ShownAt (about.variables + c.draws) (as_given (rows_of p) ++ as_given c.guards) (fall_rows (as_given (ranks_there ranked q.location)) (map (case_change about.variables c) (ranks_there ranked c.to)) fall.number) (lists fall.lines.items)
    there =
        subst (λ rows. ShownAt w (as_given rows ++ as_given c.guards) (fall_rows (as_given (ranks_there ranked q.location)) (map (case_change n c) (ranks_there ranked c.to)) fall.number) (lists fall.lines.items)) (sym h.marked.1)
        (subst (λ l. ShownAt w (as_given (piece_rows q) ++ as_given c.guards) (fall_rows (as_given (ranks_there ranked l)) (map (case_change n c) (ranks_there ranked c.to)) fall.number) (lists fall.lines.items)) from falls.shown)

    owed : IsOwedWith (about.variables + c.draws) first (as_given (rows_of p) ++ as_given c.guards) fall (owed_into all c.to (case_change about.variables c) no_fall) (owed_into all c.to (case_change about.variables c) (step_fall (about_with about) p c))
    owed =
        subst (λ ps. IsOwedWith w first known fall (owed_into ps c.to (case_change n c) no_fall) (owed_into ps c.to (case_change n c) (step_fall (about_with about) p c))) (sym h.parts)
        (subst (λ rs. IsOwedWith w first known fall (owed_into (h.dones ++ h.onward) c.to (case_change n c) no_fall) (owed_into (h.dones ++ h.onward) c.to (case_change n c) (fall_from (case_change n c) rs))) (sym h.ranks)
        (subst (λ k. IsOwedWith w k known fall (owed_into (h.dones ++ h.onward) c.to (case_change n c) no_fall) (owed_into (h.dones ++ h.onward) c.to (case_change n c) (fall_from (case_change n c) (ranks_there ranked q.location)))) (done_count c.to h.dones done h.done_are ∙ sym e)
        (ranks_owed w (case_change n c) (ranks_there ranked q.location) (ranks_there ranked c.to) fall known there h.dones h.onward c.to (done_at h.dones c.to h.done_with) (onward_at ranked h.onward c.to h.go_on))))

    met : IsMetCover (about.variables + c.draws) (owed_into all c.to (case_change about.variables c) (step_fall (about_with about) p c)) (as_given (rows_of p) ++ as_given c.guards) new
    met =
        subst (λ ks. IsMetCover w (owed_into all c.to (case_change n c) (step_fall (about_with about) p c)) ks new) (append-nil known)
        (lower.lower w known [] (owed_into all c.to (case_change n c) no_fall) (owed_into all c.to (case_change n c) (step_fall (about_with about) p c)) refl tt owed
        (subst (λ ks. IsMetCover w (owed_into all c.to (case_change n c) no_fall) ks old) (sym (append-nil known)) plain.met))

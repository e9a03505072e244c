-- What gaps say of a formula, from what they say of its arguments.
use Rattle.std.proofs.Common.{◌≡◌, inl, inr, ℕ, ◌+◌, List, [], ◌∷◌, ◌++◌, length, refl, sym, ap, ◌∙◌, subst, arith, length-append, slice_get}
use Rattle.std.specs.Prelude.{Option, None, Some, IfSome}
use Rattle.std.proofs.lemmas.List.{append_assoc, append-nil}
use Rattle.tv_formula.specs.declared.tree.Path.{Path}
use Rattle.tv_formula.specs.Properties.{Property, truth, compare, at, term, negated, all_of, some_of, next, fix, Properties, none, more}
use Rattle.tv_cases.specs.Comparisons.{comparison_lists}
use Rattle.tv_cases.specs.LinearCases.{CaseSystem}
use Rattle.tv_cert.specs.AimViews.{statements_of}
use Rattle.tv_cert.specs.Statements.{Statement, rows, each_of, one_of, after, denial_of, Statements, statement, stated, stated_all}
use Rattle.tv_cert.specs.Statements as statements
use Rattle.tv_known.specs.Laws.{Decides}
use Rattle.tv_known.specs.Rounds.{Goes}
use Rattle.tv_known.specs.Subformulas.{subformulas, all_subformulas, IsUnsettled}
use Rattle.tv_pre.specs.Unserved.{IsUnranked}
use Rattle.tv_pre.specs.declared.gap.Gap.{Gap}
use Rattle.tv_pre.specs.declared.gap.Gap.TheVariants.{Inexact, Open}
use Rattle.tv_pre.specs.Built.{HasAtom, SomeHasAtom}
use Rattle.tv_pre.specs.Full.{HasRows, AllHaveRows}
use Rattle.tv_pre.specs.Finding.{IsGapOf, first_of, gap_behind, size, total_size, IsTameStatement, IsWildStatement, IsOpenAt, IsGapFor, IsGapAmong}
use Rattle.tv_pre.specs.Tame.{IsLocalStatement, AreLocalStatements}
use Rattle.tv_pre.proofs.FormulaLemmas.{each_is, one_is, after_is, ends_is, never_is}
use Rattle.tv_pre.proofs.WideLemmas.{left_get, right_get}

-- ---- one gap or another
pub gap_in_order : (P : Gap → Type 0) (first second : Option Gap) → IfSome first P → (first ≡ None → IfSome second P) → IfSome (first_of first second) P
gap_in_order P None second h g = g refl
gap_in_order P (Some gap) second h g = h

pub gap_later : (P Q : Gap → Type 0) (count : ℕ) (gap : Option Gap) → (P Inexact → Q Inexact) → ((place : ℕ) → P (Open place) → Q (Open (count + place))) → IfSome gap P → IfSome (gap_behind count gap) Q
gap_later P Q count None a b h = tt
gap_later P Q count (Some Inexact) a b h = a h
gap_later P Q count (Some (Open place)) a b h = b place h

pub gap_weaker : (P Q : Gap → Type 0) (gap : Option Gap) → ((g : Gap) → P g → Q g) → IfSome gap P → IfSome gap Q
gap_weaker P Q None w h = tt
gap_weaker P Q (Some gap) w h = w gap h

-- ---- how many subformulas there are
denial_size : (f : Property) → size (denial_of f) ≡ 1
denial_size (truth b) = refl
denial_size (compare r a b) = refl
denial_size (at l) = refl
denial_size term = refl
denial_size (negated f) = refl
denial_size (all_of fs) = refl
denial_size (some_of fs) = refl
denial_size (next path f) = refl
denial_size (fix path shape f g) = refl

mutual
  pub size_is : (n : ℕ) (f : Property) → size (stated (comparison_lists n) f) ≡ length (subformulas f)
  size_is n (truth b) = refl
  size_is n (compare r a b) = refl
  size_is n (at l) = refl
  size_is n term = refl
  size_is n (negated f) = denial_size f
  size_is n (all_of fs) = (let e = total_is n fs in omega (arith, e))
  size_is n (some_of fs) = (let e = total_is n fs in omega (arith, e))
  size_is n (next path f) = (let e = size_is n f in omega (arith, e))
  size_is n (fix path shape f g) = (let a = size_is n f in let b = size_is n g in let c = length-append (subformulas f) (subformulas g) in omega (arith, a, b, c))

  pub total_is : (n : ℕ) (fs : Properties) → total_size (stated_all (comparison_lists n) fs) ≡ length (all_subformulas fs)
  total_is n none = refl
  total_is n (more f fs) = (let a = size_is n f in let b = total_is n fs in let c = length-append (subformulas f) (all_subformulas fs) in omega (arith, a, b, c))

-- ---- the last of some arguments
pub record IsSplit (n : ℕ) (ss : List Statement) (s : Statement) (fs : Properties) : Type 0 where
  pub front : Properties
  pub back : Property
  pub front_states : statements_of ss ≡ stated_all (comparison_lists n) front
  pub back_states : s ≡ stated (comparison_lists n) back
  pub front_rows : AllHaveRows n front
  pub back_rows : HasRows n back
  pub same : all_subformulas fs ≡ all_subformulas front ++ subformulas back

split_last : (n : ℕ) (ss : List Statement) (s : Statement) (fs : Properties) → statements_of (ss ++ s ∷ []) ≡ stated_all (comparison_lists n) fs → AllHaveRows n fs → IsSplit n ss s fs
split_last n [] s none e w = absurd cc
split_last n [] s (more f none) e w = record {
  front = none;
  back = f;
  front_states = refl;
  back_states = cc;
  front_rows = tt;
  back_rows = w.0;
  same = append-nil (subformulas f);
}
split_last n [] s (more f (more g fs)) e w = absurd cc
split_last n (t ∷ ss) s none e w = absurd cc
split_last n (t ∷ ss) s (more f fs) e w =
    let one : t ≡ stated (comparison_lists n) f = cc in
    let rest : statements_of (ss ++ s ∷ []) ≡ stated_all (comparison_lists n) fs = cc in
    let later = split_last n ss s fs rest w.1 in
    record {
      front = more f later.front;
      back = later.back;
      front_states = λ i. statement (one i) (later.front_states i);
      back_states = later.back_states;
      front_rows = (w.0, later.front_rows);
      back_rows = later.back_rows;
      same = ap (λ xs. subformulas f ++ xs) later.same ∙ sym (append_assoc (subformulas f) (all_subformulas later.front) (subformulas later.back));
    }

atoms_before : (ss : List Statement) (s a : Statement) → SomeHasAtom (statements_of ss) a → SomeHasAtom (statements_of (ss ++ s ∷ [])) a
atoms_before [] s a h = absurd h
atoms_before (t ∷ ss) s a (inl h) = inl h
atoms_before (t ∷ ss) s a (inr h) = inr (atoms_before ss s a h)

atoms_last : (ss : List Statement) (s a : Statement) → HasAtom s a → SomeHasAtom (statements_of (ss ++ s ∷ [])) a
atoms_last [] s a h = inl h
atoms_last (t ∷ ss) s a h = inr (atoms_last ss s a h)

local_before : (ss : List Statement) (s : Statement) → AreLocalStatements (statements_of (ss ++ s ∷ [])) → AreLocalStatements (statements_of ss)
local_before [] s h = tt
local_before (t ∷ ss) s h = (h.0, local_before ss s h.1)

local_last : (ss : List Statement) (s : Statement) → AreLocalStatements (statements_of (ss ++ s ∷ [])) → IsLocalStatement s
local_last [] s h = h.0
local_last (t ∷ ss) s h = local_last ss s h.1

module _ (about : CaseSystem) where
  pub tame_less : (s t : Statement) → ((a : Statement) → HasAtom s a → HasAtom t a) → IsTameStatement about t → IsTameStatement about s
  tame_less s t w (inl h) = inl h
  tame_less s t w (inr h) = inr (h.0, λ lists r k m. h.1 lists r (w (rows lists) k) m)

  -- a statement with these atoms, and others, is as wild
  pub wild_more : (s t : Statement) → ((a : Statement) → HasAtom s a → HasAtom t a) → (IsLocalStatement t → IsLocalStatement s) → IsWildStatement about s → IsWildStatement about t
  wild_more s t w m h = record { wild = λ tame. h.wild (tame_less s t w tame); moves = λ l. h.moves (m l) }

  pub gap_drawn : (last : ℕ) (s : Statement) (gap : Gap) → IsGapFor about last s gap → IsGapOf about gap
  gap_drawn last s Inexact h = λ plain. h.wild (inl plain)
  gap_drawn last s (Open place) h = tt

  module _ (last : ℕ) where
    -- ---- numbers among more subformulas
    pub front_open : (xs ys : List Property) (place : ℕ) → IsOpenAt about last xs place → IsOpenAt about last (xs ++ ys) place
    front_open xs ys place h = record { part = h.part; there = left_get xs ys place h.part h.there; unsettled = h.unsettled; denied = h.denied; unserved = h.unserved }

    pub back_open : (xs ys : List Property) (count place : ℕ) → count ≡ length xs → IsOpenAt about last ys place → IsOpenAt about last (xs ++ ys) (count + place)
    back_open xs ys count place c h = record {
      part = h.part;
      there = subst (λ k. slice_get (xs ++ ys) k ≡ Some h.part) (ap (λ k. k + place) (sym c)) (right_get xs ys place h.part h.there);
      unsettled = h.unsettled;
      denied = h.denied;
      unserved = h.unserved;
    }

    pub inner_open : (f : Property) (xs : List Property) (place : ℕ) → IsOpenAt about last xs place → IsOpenAt about last (f ∷ xs) (1 + place)
    inner_open f xs place h = back_open (f ∷ []) xs 1 place refl h

    -- ---- arguments one after the other
    old_among : (ss : List Statement) (s : Statement) (gap : Gap) → IsGapAmong about last (statements_of ss) gap → IsGapAmong about last (statements_of (ss ++ s ∷ [])) gap
    old_among ss s Inexact h = wild_more (each_of (statements_of ss)) (each_of (statements_of (ss ++ s ∷ []))) (λ a k. atoms_before ss s a k) (λ l. local_before ss s l) h
    old_among ss s (Open place) h = λ f fs e w.
        (let split = split_last about.variables ss s fs e w in
        subst (λ xs. IsOpenAt about last (f ∷ xs) place) (sym split.same) (front_open (f ∷ all_subformulas split.front) (subformulas split.back) place (h f split.front split.front_states split.front_rows)))

    new_among : (ss : List Statement) (s : Statement) (count : ℕ) → count ≡ total_size (statements_of ss) → (place : ℕ) → IsGapFor about last s (Open place) → IsGapAmong about last (statements_of (ss ++ s ∷ [])) (Open ((1 + count) + place))
    new_among ss s count c place h = λ f fs e w.
        (let split = split_last about.variables ss s fs e w in
        let many = total_is about.variables split.front in
        let all : count ≡ length (all_subformulas split.front) = c ∙ ap total_size split.front_states ∙ many in
        subst (λ xs. IsOpenAt about last (f ∷ xs) ((1 + count) + place)) (sym split.same)
        (back_open (f ∷ all_subformulas split.front) (subformulas split.back) (1 + count) place (omega (arith, all)) (h split.back split.back_states split.back_rows)))

    pub among_more : (ss : List Statement) (s : Statement) (count : ℕ) → count ≡ total_size (statements_of ss) → (old found : Option Gap) → IfSome old (IsGapAmong about last (statements_of ss)) → IfSome found (IsGapFor about last s) →
        IfSome (first_of old (gap_behind (1 + count) found)) (IsGapAmong about last (statements_of (ss ++ s ∷ [])))
    among_more ss s count c old found h g =
        let whole = statements_of (ss ++ s ∷ []) in
        gap_in_order (IsGapAmong about last whole) old (gap_behind (1 + count) found)
        (gap_weaker (IsGapAmong about last (statements_of ss)) (IsGapAmong about last whole) old (old_among ss s) h)
        (λ e. gap_later (IsGapFor about last s) (IsGapAmong about last whole) (1 + count) found
        (λ inexact. wild_more s (each_of whole) (λ a k. atoms_last ss s a k) (λ l. local_last ss s l) inexact) (new_among ss s count c) g)

    -- ---- conjunctions and disjunctions
    pub each_gap : (ss : Statements) (gap : Gap) → IsGapAmong about last ss gap → IsGapFor about last (each_of ss) gap
    each_gap ss Inexact h = h
    each_gap ss (Open place) h = λ f e w.
        (let k = each_is (comparison_lists about.variables) ss f e in
        subst (λ (z : Property). IsOpenAt about last (subformulas z) place) (sym k.1) (h (all_of k.0) k.0 k.2 (subst (HasRows about.variables) k.1 w)))

    pub one_gap : (ss : Statements) (gap : Gap) → IsGapAmong about last ss gap → IsGapFor about last (one_of ss) gap
    one_gap ss Inexact h = wild_more (each_of ss) (one_of ss) (λ a k. k) (λ l. l) h
    one_gap ss (Open place) h = λ f e w.
        (let k = one_is (comparison_lists about.variables) ss f e in
        subst (λ (z : Property). IsOpenAt about last (subformulas z) place) (sym k.1) (h (some_of k.0) k.0 k.2 (subst (HasRows about.variables) k.1 w)))

    -- ---- termination
    pub ends_gap : IsUnranked about → IsUnsettled about last term → (Decides about (Goes about) → IsUnsettled about last (negated term)) → IsGapFor about last statements.ends (Open 0)
    ends_gap lacks u d f e w = subst (λ (z : Property). IsOpenAt about last (subformulas z) 0) (sym (ends_is (comparison_lists about.variables) f e)) (record { part = term; there = refl; unsettled = u; denied = d; unserved = lacks })

    pub never_gap : IsUnranked about → IsUnsettled about last (negated term) → (Decides about (Goes about) → IsUnsettled about last term) → IsGapFor about last statements.never_ends (Open 0)
    never_gap lacks u d f e w = subst (λ (z : Property). IsOpenAt about last (subformulas z) 0) (sym (never_is (comparison_lists about.variables) f e)) (record { part = negated term; there = refl; unsettled = u; denied = d; unserved = lacks })

    -- ---- next states
    pub after_gap : (path : Path) (s : Statement) (child own : Option Gap) → IfSome child (IsGapFor about last s) → IfSome own (IsGapFor about last (after path s)) → IfSome (first_of (gap_behind 1 child) own) (IsGapFor about last (after path s))
    after_gap path s child own h g =
        gap_in_order (IsGapFor about last (after path s)) (gap_behind 1 child) own
        (gap_later (IsGapFor about last s) (IsGapFor about last (after path s)) 1 child (λ inexact. wild_more s (after path s) (λ a k. k) (λ l. absurd l) inexact)
        (λ place x f e w.
        (let k = after_is (comparison_lists about.variables) path s f e in
        subst (λ (z : Property). IsOpenAt about last (subformulas z) (1 + place)) (sym k.1) (inner_open (next path k.0) (subformulas k.0) place (x k.0 k.2 (subst (HasRows about.variables) k.1 w))))) h)
        (λ e. g)

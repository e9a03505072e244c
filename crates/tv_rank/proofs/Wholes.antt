use Rattle.std.proofs.Common.{◌≡◌, ℕ, zero, suc, ◌+◌, ◌*◌, ◌<◌, ◌≤◌, List, [], ◌∷◌, ◌++◌, length, length-append, map, get_or, All, None, Some, arith}
use Rattle.std.proofs.lemmas.List.{length-map}
use Rattle.std.proofs.lemmas.List.Elements.{All-nil, All-cons}
use Rattle.std.specs.List.{AllByRecursion}
use Rattle.tv_farkas.proofs.SystemLemmas.{at_of}
use Rattle.tv_linear.specs.declared.region.Piece.{Piece}
use Rattle.tv_cases.specs.LinearCases.{LinearCase}
use Rattle.tv_simplex.specs.Systems.{IsWhole}
use Rattle.tv_rank.specs.declared.unknown.Identity.{Identity}
use Rattle.tv_rank.specs.declared.unknown.Identity.TheVariants.{Step, Bound}
use Rattle.tv_rank.specs.declared.unknown.Line.{Line}
use Rattle.tv_rank.specs.Given.{IsPlaced, IsBetween, AreNumbered}
use Rattle.tv_rank.specs.Ways.{Way, way_at, no_case}
use Rattle.tv_rank.specs.RankingSystem.{entry, right_of, terms_below, steps_below, identity_unknowns, unknowns, columns_below, lines, step_lines, identity_lines, ranking_system}
use Rattle.tv_rank.proofs.UnknownLists.{all_both, length-flat}
use Rattle.tv_rank.proofs.Lengths.{length-identity}
use Rattle.tv_rank.proofs.Barriers.{line, width}
use Rattle.tv_rank.proofs.Flattened.{length-lines}
use Rattle.tv_cases.proofs.AmountLemmas.{suc-times}

-- ---- the rows speak of places of the set
abbrev Placed : ℕ → Line → Type 0
Placed many x = IsPlaced many x.identity

columns_placed : (many : ℕ) (id : Identity) (n : ℕ) → IsPlaced many id → AllByRecursion (Placed many) (columns_below id n)
columns_placed many id zero h = tt
columns_placed many id (suc n) h = all_both (Placed many) (columns_below id n) (line id (Some n) ∷ []) (columns_placed many id n h) (h, tt)

identity_placed : (many v : ℕ) (id : Identity) (w : Way) → IsPlaced many id → AllByRecursion (Placed many) (identity_lines v id w)
identity_placed many v id w h = all_both (Placed many) (columns_below id (width v w)) (line id None ∷ []) (columns_placed many id (width v w) h) (h, tt)

steps_placed : (many v : ℕ) (ways : ℕ → Way) (n : ℕ) → n ≤ many → AllByRecursion (Placed many) (step_lines ways v n)
steps_placed many v ways zero h = tt
steps_placed many v ways (suc n) h = all_both (Placed many) (step_lines ways v n) (identity_lines v (Step n) (ways n)) (steps_placed many v ways n (omega (arith, h))) (identity_placed many v (Step n) (ways n) (omega (arith, h)))

pub all_listed : {A : Type 0} (P : A → Type 0) (xs : List A) → AllByRecursion P xs → All P xs
all_listed P [] h = All-nil P
all_listed P (x ∷ xs) h = All-cons P x xs h.0 (all_listed P xs h.1)

pub lines_placed : (ways : ℕ → Way) (many falling v : ℕ) → All (λ x. IsPlaced many x.identity) (lines ways many falling v)
lines_placed ways many falling v = all_listed (Placed many) (lines ways many falling v) (all_both (Placed many) (step_lines ways v many) (identity_lines v Bound (ways falling)) (steps_placed many v ways many (omega arith)) (identity_placed many v Bound (ways falling) tt))

-- ---- the system has as many numbers as it says
some_lines : (ways : ℕ → Way) (many falling v : ℕ) → 1 ≤ length (lines ways many falling v)
some_lines ways many falling v = (let a = length-append (step_lines ways v many) (identity_lines v Bound (ways falling)) in let b = length-lines v Bound (ways falling) in omega (arith, a, b))

some_unknowns : (ways : ℕ → Way) (many falling v locations : ℕ) → 1 ≤ length (unknowns ways many falling v locations)
some_unknowns ways many falling v locations = (let a = length-append (terms_below ways many v locations ++ steps_below ways many) (identity_unknowns Bound (ways falling)) in let b = length-identity Bound (ways falling) in omega (arith, a, b))

pub fewer : (a b m : ℕ) → 1 ≤ b → a * b ≤ m → a ≤ m
fewer a zero m l h = absurd (omega (arith, l))
fewer a (suc b) m l h = (let e = more a b in omega (arith, e, h))
  where
    more : (a b : ℕ) → a * suc b ≡ a + a * b
    more a b = grind arith

pub fewer_right : (a b m : ℕ) → 1 ≤ a → a * b ≤ m → b ≤ m
fewer_right zero b m l h = absurd (omega (arith, l))
fewer_right (suc a) b m l h = (let e = suc-times a b in omega (arith, e, h))

pub few_unknowns : (ways : ℕ → Way) (many falling v locations : ℕ) → length (lines ways many falling v) * length (unknowns ways many falling v locations) ≤ 4000000 → length (unknowns ways many falling v locations) ≤ 4000000
few_unknowns ways many falling v locations h = fewer_right (length (lines ways many falling v)) (length (unknowns ways many falling v locations)) 4000000 (some_lines ways many falling v) h

pub few_lines : (ways : ℕ → Way) (many falling v locations : ℕ) → length (lines ways many falling v) * length (unknowns ways many falling v locations) ≤ 4000000 → length (lines ways many falling v) ≤ 4000000
few_lines ways many falling v locations h = fewer (length (lines ways many falling v)) (length (unknowns ways many falling v locations)) 4000000 (some_unknowns ways many falling v locations) h

pub ranking_whole : (ways : ℕ → Way) (many falling v locations : ℕ) → length (lines ways many falling v) * length (unknowns ways many falling v locations) ≤ 4000000 → IsWhole (ranking_system ways many falling v locations)
ranking_whole ways many falling v locations h = record {
  entries = length-flat (λ x. map (entry ways falling x) (unknowns ways many falling v locations)) (length (unknowns ways many falling v locations)) (lines ways many falling v) (λ x. length-map (unknowns ways many falling v locations) (entry ways falling x));
  right = length-map (lines ways many falling v) (λ x. right_of falling x.identity x.column);
  few_rows = (let a = few_lines ways many falling v locations h in omega (arith, a));
  few_columns = (let a = few_unknowns ways many falling v locations h in omega (arith, a));
  size = h;
}

-- ---- the cases of the set lead between the locations
pub between : (cases : List LinearCase) (known : List Piece) (set : List ℕ) (locations : ℕ) → AreNumbered (length cases) set → All (IsBetween locations) cases → (k : ℕ) → k < length set → IsBetween locations (way_at cases known set k).taken
between cases known set locations numbered each k l = at_of (IsBetween locations) cases no_case each (get_or set k 0) (numbered k l)

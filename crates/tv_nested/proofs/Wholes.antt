-- The nested system has as many numbers as it says, and its rows speak of cases of the set.
use Rattle.std.proofs.Common.{ℕ, zero, suc, ◌*◌, ◌<◌, ◌≤◌, [], ◌∷◌, length, length-append, map, All, None, Some, arith}
use Rattle.std.proofs.lemmas.List.{length-map}
use Rattle.std.specs.List.{AllByRecursion}
use Rattle.tv_simplex.specs.Systems.{IsWhole}
use Rattle.tv_rank.specs.Ways.{Way}
use Rattle.tv_rank.proofs.Barriers.{width}
use Rattle.tv_rank.proofs.Wholes.{all_listed, fewer, fewer_right}
use Rattle.tv_rank.proofs.UnknownLists.{all_both, length-flat}
use Rattle.tv_nested.specs.declared.unknown.Identity.{Identity}
use Rattle.tv_nested.specs.declared.unknown.Line.{Line}
use Rattle.tv_nested.specs.declared.unknown.Unknown.TheVariants.{Slack}
use Rattle.tv_nested.specs.NestedSystem.{identity, line, entry, right_of, terms_below, multipliers_below, way_unknowns, steps_below, identity_unknowns, unknowns, columns_below, identity_lines, way_lines, lines, nested_system}
use Rattle.tv_nested.proofs.Barriers.{length-lines}
use Rattle.tv_rank.specs.Ways.{met_rows}

-- ---- the rows speak of places of the set
abbrev Placed : ℕ → Line → Type 0
Placed many x = x.identity.place < many

columns_placed : (many : ℕ) (id : Identity) (n : ℕ) → id.place < many → AllByRecursion (Placed many) (columns_below id n)
columns_placed many id zero h = tt
columns_placed many id (suc n) h = all_both (Placed many) (columns_below id n) (line id (Some n) ∷ []) (columns_placed many id n h) (h, tt)

identity_placed : (many v : ℕ) (id : Identity) (w : Way) → id.place < many → AllByRecursion (Placed many) (identity_lines v id w)
identity_placed many v id w h = all_both (Placed many) (columns_below id (width v w)) (line id None ∷ []) (columns_placed many id (width v w) h) (h, tt)

way_placed : (many v k : ℕ) (w : Way) (n : ℕ) → k < many → AllByRecursion (Placed many) (way_lines v k w n)
way_placed many v k w zero h = tt
way_placed many v k w (suc n) h = all_both (Placed many) (way_lines v k w n) (identity_lines v (identity k n) w) (way_placed many v k w n h) (identity_placed many v (identity k n) w h)

steps_placed : (many d v : ℕ) (ways : ℕ → Way) (n : ℕ) → n ≤ many → AllByRecursion (Placed many) (lines ways d v n)
steps_placed many d v ways zero h = tt
steps_placed many d v ways (suc n) h = all_both (Placed many) (lines ways d v n) (way_lines v n (ways n) (suc d)) (steps_placed many d v ways n (omega (arith, h))) (way_placed many v n (ways n) (suc d) (omega (arith, h)))

pub lines_placed : (ways : ℕ → Way) (many d v : ℕ) → All (λ x. x.identity.place < many) (lines ways d v many)
lines_placed ways many d v = all_listed (Placed many) (lines ways d v many) (steps_placed many d v ways many (omega arith))

-- ---- there is a row and an unknown
some_lines : (ways : ℕ → Way) (many d v : ℕ) → 0 < many → 1 ≤ length (lines ways d v many)
some_lines ways zero d v h = absurd (omega (arith, h))
some_lines ways (suc m) d v h =
    let a = length-append (lines ways d v m) (way_lines v m (ways m) (suc d)) in
    let b = length-append (way_lines v m (ways m) d) (identity_lines v (identity m d) (ways m)) in
    let e = length-lines v (identity m d) (ways m) in
    omega (arith, a, b, e)

some_steps : (ways : ℕ → Way) (many d : ℕ) → 0 < many → 1 ≤ length (steps_below ways d many)
some_steps ways zero d h = absurd (omega (arith, h))
some_steps ways (suc m) d h =
    let a = length-append (steps_below ways d m) (way_unknowns m (ways m) (suc d)) in
    let b = length-append (way_unknowns m (ways m) d) (identity_unknowns (identity m d) (ways m)) in
    let e = length-append (multipliers_below (identity m d) (length (met_rows (ways m)))) (Slack (identity m d) ∷ []) in
    omega (arith, a, b, e)

some_unknowns : (ways : ℕ → Way) (many d v locations : ℕ) → 0 < many → 1 ≤ length (unknowns ways many d v locations)
some_unknowns ways many d v locations h = (let a = length-append (terms_below ways many d v locations) (steps_below ways d many) in let b = some_steps ways many d h in omega (arith, a, b))

pub few_unknowns : (ways : ℕ → Way) (many d v locations : ℕ) → 0 < many → length (lines ways d v many) * length (unknowns ways many d v locations) ≤ 4000000 → length (unknowns ways many d v locations) ≤ 4000000
few_unknowns ways many d v locations some h = fewer_right (length (lines ways d v many)) (length (unknowns ways many d v locations)) 4000000 (some_lines ways many d v some) h

pub few_lines : (ways : ℕ → Way) (many d v locations : ℕ) → 0 < many → length (lines ways d v many) * length (unknowns ways many d v locations) ≤ 4000000 → length (lines ways d v many) ≤ 4000000
few_lines ways many d v locations some h = fewer (length (lines ways d v many)) (length (unknowns ways many d v locations)) 4000000 (some_unknowns ways many d v locations some) h

pub nested_whole : (ways : ℕ → Way) (many d v locations : ℕ) → 0 < many → length (lines ways d v many) * length (unknowns ways many d v locations) ≤ 4000000 → IsWhole (nested_system ways many d v locations)
nested_whole ways many d v locations some h = record {
  entries = length-flat (λ x. map (entry ways x) (unknowns ways many d v locations)) (length (unknowns ways many d v locations)) (lines ways d v many) (λ x. length-map (unknowns ways many d v locations) (entry ways x));
  right = length-map (lines ways d v many) (λ x. right_of d x.identity x.column);
  few_rows = (let a = few_lines ways many d v locations some h in omega (arith, a));
  few_columns = (let a = few_unknowns ways many d v locations some h in omega (arith, a));
  size = h;
}

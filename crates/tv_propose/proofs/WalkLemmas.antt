-- A walk over a table of rows.
use Rattle.std.proofs.Common.{◌≡◌, ℕ, zero, suc, ◌+◌, ◌-◌, ◌<◌, List, [], ◌∷◌, ◌++◌, map, take, drop, get_or, arith, refl, sym, ap, ◌∙◌, None, Some}
use Rattle.std.specs.List.{slice_get}
use Rattle.tv_linear.specs.Linear.{Linear}
use Rattle.tv_cases.specs.LinearCases.{CaseSystem}
use Rattle.tv_candidates.specs.declared.candidate.Candidate.{Candidate}
use Rattle.tv_candidates.specs.Offered.{candidate}
use Rattle.tv_propose.specs.declared.walk.Walk.{Walk}
use Rattle.tv_propose.specs.Rests.{IsGiven}
use Rattle.tv_propose.specs.Everywhere.{from_location}
use Rattle.tv_propose.specs.Walks.{flat, rows_of, left_in_group, left_in_table, left_from, rest_of}
use Rattle.tv_propose.proofs.FlatLemmas.{flat_next, take_one}
use Rattle.tv_cases.proofs.LeavingLemmas.{none_left}

-- ---- in a group

pub group_start : (places : List (List Linear)) (p : ℕ) → left_in_group places p 0 ≡ flat (drop p places)
group_start places p = sym (flat_next (λ xs. xs) [] refl places p)

pub group_none : (places : List (List Linear)) (p r : ℕ) → slice_get (get_or places p []) r ≡ None → left_in_group places p r ≡ left_in_group places (p + 1) 0
group_none places p r e = ap (λ xs. xs ++ flat (drop (p + 1) places)) (none_left (get_or places p []) r e) ∙ sym (group_start places (p + 1))

-- ---- in a table

pub table_start : (groups : List (List (List Linear))) (left location group : ℕ) → left_in_table groups record { left = left; location = location; group = group; place = 0; row = 0 } ≡ rows_of (drop group groups)
table_start groups left location group =
    ap (λ xs. xs ++ rows_of (drop (group + 1) groups)) (group_start (get_or groups group []) 0)
    ∙ sym (flat_next flat [] refl groups group)

-- ---- at all locations

from_some : (m l : ℕ) (x : Linear) (here new rows : List Linear) → 0 < m → here ≡ x ∷ new → left_from m l here rows ≡ candidate l x ∷ left_from m l new rows
from_some zero l x here new rows z e = absurd (omega (arith, z))
from_some (suc m) l x here new rows z e = ap (λ xs. map (candidate l) xs ++ from_location m (suc l) rows) e

from_all : (m l : ℕ) (rows : List Linear) → left_from m l rows rows ≡ from_location m l rows
from_all zero l rows = refl
from_all (suc m) l rows = refl

from_none : (m n l : ℕ) (here rows : List Linear) → m ≡ suc n → here ≡ [] → left_from m l here rows ≡ left_from n (l + 1) rows rows
from_none m n l here rows f e =
    ap (λ k. left_from k l here rows) f
    ∙ ap (λ xs. map (candidate l) xs ++ from_location n (suc l) rows) e
    ∙ ap (λ k. from_location n k rows) (let g : suc l ≡ l + 1 = omega arith in g)
    ∙ sym (from_all n (l + 1) rows)

-- the candidates that a walk has left, also those that it may not give
abbrev pub left_of : CaseSystem → List (List (List Linear)) → Walk → List Candidate
left_of about groups w = left_from (about.locations - w.location) w.location (left_in_table groups w) (rows_of groups)

pub walk_some : (about : CaseSystem) (groups : List (List (List Linear))) (old new : Walk) (x : Linear) → old.location < about.locations → new.location ≡ old.location → left_in_table groups old ≡ x ∷ left_in_table groups new → left_of about groups old ≡ candidate old.location x ∷ left_of about groups new
walk_some about groups old new x within same e =
    from_some (about.locations - old.location) old.location x (left_in_table groups old) (left_in_table groups new) (rows_of groups) (omega (arith, within)) e
    ∙ ap (λ l. candidate old.location x ∷ left_from (about.locations - l) l (left_in_table groups new) (rows_of groups)) (sym same)

pub walk_none : (about : CaseSystem) (groups : List (List (List Linear))) (old new : Walk) → old.location < about.locations → new.location ≡ old.location + 1 → new.group ≡ 0 → new.place ≡ 0 → new.row ≡ 0 → left_in_table groups old ≡ [] → left_of about groups old ≡ left_of about groups new
walk_none about groups old new within next g p r e =
    from_none (about.locations - old.location) (about.locations - (old.location + 1)) old.location (left_in_table groups old) (rows_of groups) (omega (arith, within)) e
    ∙ (λ i. left_from (about.locations - sym next i) (sym next i) (sym whole i) (rows_of groups)) where
      whole : left_in_table groups new ≡ rows_of groups
      whole = (λ i. left_in_group (get_or groups (g i) []) (p i) (r i) ++ rows_of (drop (g i + 1) groups)) ∙ table_start groups 0 0 0

pub given_some : (about : CaseSystem) (groups : List (List (List Linear))) (old new : Walk) (c : Candidate) → 0 < old.left → new.left ≡ old.left - 1 → left_of about groups old ≡ c ∷ left_of about groups new → IsGiven (rest_of about groups old) (rest_of about groups new) (Some c)
given_some about groups old new c more less e = (
  take new.left (left_of about groups new),
  refl,
  ap (take old.left) e ∙ take_one old.left c (left_of about groups new) more ∙ ap (λ k. c ∷ take k (left_of about groups new)) (sym less),
)

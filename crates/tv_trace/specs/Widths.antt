-- Whether the numbers on the way of one step are those of an i128, from -2^127 to 2^127 - 1.
use Rattle.std.specs.Prelude.{ℕ, ℤ, pos, ◌+ℤ◌, ◌*ℤ◌, List, [], ◌∷◌, length, map, Bool, true, false, ◌&&◌, if◌then◌else◌}
use Rattle.std.specs.List.{list_all}
use Rattle.std.specs.Int.RustNames.{int_le}
use Rattle.tv_program.specs.Systems.{System}
use Rattle.tv_exec.specs.Held.{is_held}
use Rattle.tv_exec.specs.Execution.{Outcome, ended, blocked, wide, execution, instructions_of}
use Rattle.tv_linear.specs.declared.choice.ChoiceTree.{ChoiceTree, Split', Empty, NoStep, Take}
use Rattle.tv_linear.specs.Linear.{Linear, value}
use Rattle.tv_edges.specs.Edges.{edge_at}
use Rattle.tv_cert.specs.declared.node.Proof.{Proof}
use Rattle.tv_cert.specs.declared.node.Proof.TheVariants.{Covered, Chosen}
use Rattle.tv_sound.specs.Following.{Spot, chosen_at}

-- whether each product of a coefficient and a number is held, and each sum of the products so far, added to a number from the left
abbrev pub sums_are_held : ℤ → List ℤ → List ℤ → Bool
sums_are_held total [] xs = true
sums_are_held total (c ∷ cs) [] = true
sums_are_held total (c ∷ cs) (x ∷ xs) =
    is_held (c *ℤ x) && (is_held (total +ℤ c *ℤ x) && sums_are_held (total +ℤ c *ℤ x) cs xs)

-- whether the value of a row is held, and so is all on the way to it: the columns in order, and the constant last
abbrev pub value_is_held : List ℤ → Linear → Bool
value_is_held xs r = sums_are_held (pos 0) r.coefficients xs && is_held (value r xs)

-- whether the values of the split rows are held that are looked at on the way down a choice, from the outside in
abbrev pub way_is_held : List ℤ → ChoiceTree → Bool
way_is_held xs (Split' r p a q b) = value_is_held xs r && (if int_le (value r xs) (pos 0) then way_is_held xs a else way_is_held xs b)
way_is_held xs (Empty ms) = true
way_is_held xs (NoStep covers) = true
way_is_held xs (Take k target j draws lists) = true

-- whether the values of the terms are held that are drawn, in order
abbrev pub draws_are_held : List ℤ → List Linear → Bool
draws_are_held xs draws = list_all (value_is_held xs) draws

abbrev pub is_narrow_end : Outcome → Bool
is_narrow_end (ended ys) = true
is_narrow_end blocked = true
is_narrow_end wide = false

-- the values of the terms
abbrev pub values_drawn : List ℤ → List Linear → List ℤ
values_drawn xs draws = map (λ d. value d xs) draws

-- whether the values are held that the commands of an edge come to in the order written
abbrev pub edge_is_held : System → ℕ → List ℤ → List ℤ → Bool
edge_is_held p edge xs ds = is_narrow_end (execution (instructions_of p edge) xs ds)

-- the same of what is drawn for a case, and then of the commands of the edge that the case is from
abbrev pub case_is_held : System → ℕ → List ℤ → List Linear → Bool
case_is_held p k xs draws = draws_are_held xs draws && edge_is_held p (edge_at (length p.variables) p.edges k) xs (values_drawn xs draws)

abbrev pub end_is_held : System → List ℤ → ChoiceTree → Bool
end_is_held p xs (Split' r p' a q b) = true
end_is_held p xs (Empty ms) = true
end_is_held p xs (NoStep covers) = true
end_is_held p xs (Take k target j draws lists) = case_is_held p k xs draws.items

-- the same of the way down the choice, and then of the case that is taken where it leads
abbrev pub choice_is_held : System → List ℤ → ChoiceTree → Bool
choice_is_held p xs tree = way_is_held xs tree && end_is_held p xs (chosen_at xs tree)

abbrev pub step_by : System → List ℤ → Proof → Bool
step_by p xs (Covered tree) = true
step_by p xs (Chosen tree) = choice_is_held p xs tree

-- Whether all numbers on the way of the step from a spot are held: the values of the split rows that are looked at, those of the terms
-- that are drawn, and those of the commands of the edge. The values after the step are values of commands, or kept.
abbrev pub step_is_held : System → Spot → Bool
step_is_held p here = step_by p here.state.values here.proof

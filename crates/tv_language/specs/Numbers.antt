use Rattle.std.specs.Prelude.{ℕ, ◌+◌, ◌-◌, ◌*◌, List, fold}

-- the number that decimal digits write
abbrev pub value_of_digits : List ℕ → ℕ
value_of_digits digits = fold (λ v d. 10 * v + (d - 48)) 0 digits

use Rattle.std.specs.Prelude.{ℕ, ◌+◌, ◌-◌, ◌^◌, List, Option, None, Some, Contains, nat_lt, if◌then◌else◌}

-- the number of the call after this one: numbers have 64 bits, and the calls past the last number have none
abbrev pub call_after : Option ℕ → Option ℕ
call_after None = None
call_after (Some number) = if nat_lt number (2 ^ 64 - 1) then Some (number + 1) else None

-- the call with this number is one of those that fail; one without a number never fails
abbrev pub Fails : List ℕ → Option ℕ → Type 0
Fails fails None = ⊥
Fails fails (Some number) = Contains fails number

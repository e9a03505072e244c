use Rattle.std.specs.Prelude.{ℕ, zero, suc, ◌+◌, Bool, ◌&&◌, ◌||◌, not, List, [], ◌∷◌, Option, Some, None, slice_index, drop, ◌==◌, if◌then◌else◌}
use Rattle.std.specs.List.{prefix_len}
use Rattle.std.specs.Option.{option_map}

-- space, tab, return, line feed, form feed
abbrev pub is_blank : ℕ → Bool
is_blank b = b == 32 || b == 9 || b == 13 || b == 10 || b == 12

-- how many bytes there are up to the end of the first */
abbrev pub closing : List ℕ → Option ℕ
closing [] = None
closing (b ∷ bs) = if b == 42 && slice_index bs 0 == 47 then Some 2 else option_map suc (closing bs)

-- how many bytes a comment has, where // or /* stands at the front
abbrev pub comment_of : List ℕ → Option ℕ
comment_of bs =
    if slice_index bs 0 == 47 then Some (2 + prefix_len (λ b. not (b == 10)) (drop 1 bs))
    else (if slice_index bs 0 == 42 then option_map (λ n. 2 + n) (closing (drop 1 bs))
    else None)

-- how many bytes the blank or the comment at the front of a text has
abbrev pub gap_of : List ℕ → Option ℕ
gap_of [] = None
gap_of (b ∷ bs) = if is_blank b then Some 1 else (if b == 47 then comment_of bs else None)

-- what follows where a gap begins, told how many bytes of it follow the first
abbrev pub with_gap : Option ℕ → (ℕ → ℕ) → ℕ
with_gap None more = 0
with_gap (Some zero) more = 0
with_gap (Some (suc n)) more = more n

-- how many bytes the blanks and comments have, with n bytes left of the present one
abbrev pub gaps_after : ℕ → List ℕ → ℕ
gaps_after n [] = 0
gaps_after zero (b ∷ bs) = with_gap (gap_of (b ∷ bs)) (λ n. 1 + gaps_after n bs)
gaps_after (suc n) (b ∷ bs) = 1 + gaps_after n bs

-- how many bytes the blanks and comments at the front of a text have
abbrev pub gap_length : List ℕ → ℕ
gap_length bs = gaps_after 0 bs

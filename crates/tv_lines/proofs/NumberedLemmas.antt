-- The numbers of a line, read one by one.
use Rattle.std.proofs.Common.{◌≡◌, ℕ, ℤ, Bool, true, false, cond, List, [], ◌∷◌, ◌++◌, map, refl, ap, ◌∙◌, append_assoc}
use Rattle.std.specs.Prelude.{◌&&◌}
use Rattle.std.specs.List.{list_all}
use Rattle.tv_lines.specs.declared.head.Head.{Head}
use Rattle.tv_lines.specs.declared.number.NumberWord.TheVariants as words
use Rattle.tv_lines.specs.Numbers.{is_number, number_of, is_narrow}
use Rattle.tv_lines.specs.Lines.{PlainLine, formed, formless, wide, numbered}

-- the line, told the numbers so far, whether one was wide, and the words that are left
abbrev pub numbered_from : Head → List ℤ → Bool → List (List ℕ) → PlainLine
numbered_from h zs false [] = formed h zs
numbered_from h zs true [] = wide
numbered_from h zs w (word ∷ rest) =
    cond (is_number word) (cond (is_narrow (number_of word)) (numbered_from h (zs ++ number_of word ∷ []) w rest) (numbered_from h zs true rest)) formless

after_wide : (h : Head) (zs : List ℤ) (ws : List (List ℕ)) → numbered_from h zs true ws ≡ cond (list_all is_number ws) wide formless
after_wide h zs [] = refl
after_wide h zs (word ∷ rest) = by (is_number word) (is_narrow (number_of word)) (after_wide h (zs ++ number_of word ∷ []) rest) (after_wide h zs rest)
  where
    by : (a b : Bool) → numbered_from h (zs ++ number_of word ∷ []) true rest ≡ cond (list_all is_number rest) wide formless
        → numbered_from h zs true rest ≡ cond (list_all is_number rest) wide formless
        → cond a (cond b (numbered_from h (zs ++ number_of word ∷ []) true rest) (numbered_from h zs true rest)) formless
        ≡ cond (a && list_all is_number rest) wide formless
    by true true p q = p
    by true false p q = q
    by false b p q = refl

-- the line of the numbers so far and of the words that are left
abbrev narrow_line : Head → List ℤ → Bool → Bool → PlainLine
narrow_line h zs numbers narrow = cond numbers (cond narrow (formed h zs) wide) formless

after_narrow : (h : Head) (zs : List ℤ) (ws : List (List ℕ))
    → numbered_from h zs false ws ≡ narrow_line h (zs ++ map number_of ws) (list_all is_number ws) (list_all is_narrow (map number_of ws))
after_narrow h zs [] = ap (formed h) (append_nil_is zs)
  where
    append_nil_is : (xs : List ℤ) → xs ≡ xs ++ []
    append_nil_is [] = refl
    append_nil_is (x ∷ xs) = ap (λ (ys : List ℤ). x ∷ ys) (append_nil_is xs)
after_narrow h zs (word ∷ rest) = by (is_number word) (is_narrow (number_of word)) (after_narrow h (zs ++ number_of word ∷ []) rest) (after_wide h zs rest)
  where
    by : (a b : Bool)
        → numbered_from h (zs ++ number_of word ∷ []) false rest ≡ narrow_line h ((zs ++ number_of word ∷ []) ++ map number_of rest) (list_all is_number rest) (list_all is_narrow (map number_of rest))
        → numbered_from h zs true rest ≡ cond (list_all is_number rest) wide formless
        → cond a (cond b (numbered_from h (zs ++ number_of word ∷ []) false rest) (numbered_from h zs true rest)) formless
        ≡ narrow_line h (zs ++ number_of word ∷ map number_of rest) (a && list_all is_number rest) (b && list_all is_narrow (map number_of rest))
    by true true p q = p ∙ ap (λ (ys : List ℤ). narrow_line h ys (list_all is_number rest) (list_all is_narrow (map number_of rest))) (append_assoc zs (number_of word ∷ []) (map number_of rest))
    by true false p q = q
    by false b p q = refl

-- read from the first word on, it is the line of the words
pub numbered_from_first : (h : Head) (ws : List (List ℕ)) → numbered_from h [] false ws ≡ numbered h ws
numbered_from_first h ws = after_narrow h [] ws

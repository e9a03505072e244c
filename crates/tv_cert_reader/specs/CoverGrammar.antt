-- The lines of covers.
use Rattle.std.specs.Prelude.{ℕ, zero, suc, ◌+◌, Bool, true, false, length, Option, Some, None, ◌==◌}
use Rattle.tv_grammar.specs.Langs.{unit, then, stop, go, headed}
use Rattle.tv_lines.specs.Lines.{PlainLine, formed, formless, wide}
use Rattle.tv_lines.specs.declared.head.Head.TheVariants as heads
use Rattle.tv_cert_reader.specs.declared.kind.LineKind.TheVariants.{Syntax, Wide, Deep, Shape}
use Rattle.tv_cert_reader.specs.LineGrammar.{Grammar, Behind, many, by, with_two}

-- `count` lines of multipliers of `known` rows and a denial
abbrev pub lists_behind : ℕ → Option ℕ → Behind (Unit {0})
lists_behind known None = stop Shape
lists_behind known (Some count) = go (many count (by (known + 1)))

-- nothing, where there is a multiplier for each row
abbrev pub empty_behind : Bool → Behind (Unit {0})
empty_behind true = go (unit tt)
empty_behind false = stop Shape

-- both sides of a split, where its row has the columns that are wanted
abbrev pub sides_behind : Behind (Unit {0}) → Bool → Behind (Unit {0})
sides_behind (stop k) wanted = stop k
sides_behind (go sides) true = go sides
sides_behind (go sides) false = stop Shape

-- What may stand after the first line of a cover at a place with `known` rows. Its split rows have `width` columns; `sides` is for a
-- split, told whether its row has them.
abbrev pub cover_cases : (Bool → Behind (Unit {0})) → ℕ → ℕ → (ℕ → ℕ → Option ℕ) → PlainLine → Behind (Unit {0})
cover_cases sides width known counts (formed heads.Split zs) = sides (length zs == width + 1)
cover_cases sides width known counts (formed heads.Empty zs) = empty_behind (length zs == known)
cover_cases sides width known counts (formed heads.Into zs) = lists_behind known (with_two zs counts)
cover_cases sides width known counts (formed head zs) = stop Shape
cover_cases sides width known counts formless = stop Syntax
cover_cases sides width known counts wide = stop Wide

-- where no split may stand: it is too deep; or, where one more is let through, it may have any numbers, and nothing stands below it
abbrev pub too_deep : Bool → Bool → Behind (Unit {0})
too_deep false wanted = stop Deep
too_deep true wanted = go (unit tt)

-- one after the other
abbrev pub both : Grammar (Unit {0}) → Grammar (Unit {0}) → Grammar (Unit {0})
both a b = then a (λ _. b)

-- A cover with at most n splits on a path. n is the second argument. `over` lets one more through, of any numbers.
unfoldable pub cover : Bool → ℕ → ℕ → ℕ → (ℕ → ℕ → Option ℕ) → Grammar (Unit {0})
cover over zero width known counts = headed Syntax (cover_cases (too_deep over) width known counts)
cover over (suc left) width known counts =
    headed Syntax (cover_cases (sides_behind (go (both (cover over left width (known + 1) counts) (cover over left width (known + 1) counts)))) width known counts)

use Rattle.std.specs.Prelude.{ℕ, ◌+◌, ◌*◌, ◌-◌, ◌/◌, List, length, drop, ℤ}
use Rattle.tv_linear.specs.Linear.{Linear}
use Rattle.tv_linear.specs.Packed.{unpacked}
use Rattle.tv_cert.specs.declared.node.Mark.{Mark}

-- a piece: its location, what it is for, its rows and its ranks over `columns` columns
pub record MarkedRows : Type 0 where
  pub location : ℕ
  pub columns : ℕ
  pub mark : Mark
  pub rows : List Linear
  pub ranks : List Linear

abbrev pub marked : ℕ → ℕ → Mark → List Linear → List Linear → MarkedRows
marked location n mark rows ranks = record { location = location; columns = n; mark = mark; rows = rows; ranks = ranks }

-- the piece whose `count` rows and then its ranks stand in a list of numbers
abbrev pub marked_in : ℕ → ℕ → Mark → ℕ → List ℤ → MarkedRows
marked_in location n mark count zs =
    marked location n mark (unpacked n count zs) (unpacked n (length zs / (n + 1) - count) (drop (count * (n + 1)) zs))

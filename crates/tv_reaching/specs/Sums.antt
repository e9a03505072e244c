-- Sums in two parts.
use Rattle.std.specs.Prelude.{◌^◌, ℤ, pos, ◌+ℤ◌, ◌*ℤ◌}
use Rattle.tv_reaching.specs.declared.parts.Parts.{Parts}

-- the number of the parts
abbrev pub whole : Parts → ℤ
whole p = p.low +ℤ (p.high *ℤ pos (2 ^ 126))

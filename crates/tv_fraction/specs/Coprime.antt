use Rattle.std.specs.Prelude.{◌≡◌, ℕ}
use Prim.Native.Nat.{◌∣◌}

-- no natural number but 1 divides both
abbrev pub AreCoprime : ℕ → ℕ → Type 0
AreCoprime a b = (d : ℕ) → d ∣ a → d ∣ b → d ≡ 1

-- What follows a split.
use Rattle.std.proofs.Common.{◌≡◌, ℕ, zero, suc, ◌+◌, ◌-◌, Bool, true, false, ap, ◌∙◌, refl, arith}
use Rattle.tv_grammar.specs.Langs.{go, stop}
use Rattle.tv_cert_reader.specs.declared.kind.LineKind.TheVariants.{Deep, Shape}
use Rattle.tv_cert_reader.specs.LineGrammar.{Grammar, Behind}
use Rattle.tv_cert_reader.specs.CoverGrammar.{too_deep, sides_behind, both}

-- the grammar of a side, told how many rows are known and how many splits are left
module _ (side : ℕ → ℕ → Grammar (Unit {0})) where
  abbrev pub sides_at : ℕ → ℕ → Bool → Behind (Unit {0})
  sides_at known zero = too_deep false
  sides_at known (suc left) = sides_behind (go (both (side (known + 1) left) (side (known + 1) left)))

  pub sides_deep : (known left : ℕ) (b : Bool) → left ≡ 0 → sides_at known left b ≡ stop Deep
  sides_deep known left b e = ap (λ n. sides_at known n b) e

  pub sides_wrong : (known left : ℕ) (b : Bool) → (left ≡ 0 → ⊥) → b ≡ false → sides_at known left b ≡ stop Shape
  sides_wrong known zero b some e = absurd (some refl)
  sides_wrong known (suc left) b some e = ap (sides_at known (suc left)) e

  pub sides_go : (known left : ℕ) (b : Bool) → (left ≡ 0 → ⊥) → b ≡ true → sides_at known left b ≡ go (both (side (known + 1) (left - 1)) (side (known + 1) (left - 1)))
  sides_go known zero b some e = absurd (some refl)
  sides_go known (suc left) b some e = ap (sides_at known (suc left)) e ∙ (let k : left ≡ suc left - 1 = omega arith in ap (λ n. go (both (side (known + 1) n) (side (known + 1) n))) k)

-- Items of lists.
use Rattle.std.proofs.Common.{◌↔◌, List, map}
use Rattle.std.specs.Prelude.{All}
use Rattle.std.proofs.lemmas.List.Elements.{All-map}
use Rattle.tv_linear.proofs.ListLaws.{all_unmapped}

-- each item of a list, and of what it is seen as
pub all_seen : {A B : Type 0} (P : B → Type 0) (f : A → B) (xs : List A) → All (λ x. P (f x)) xs ↔ All P (map f xs)
all_seen P f xs = (λ h. All-map P f xs h, λ h. all_unmapped P f xs h)

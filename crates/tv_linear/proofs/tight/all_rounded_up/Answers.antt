use Rattle.std.proofs.Common.{◌≡◌, arith, rules, get_or, FitsSigned, pos, ◌++◌, ◌∷◌, []}
use mir.Syntax.{w64}
use Rattle.std.proofs.lemmas.Int.{to_z-of_z}
use Rattle.std.proofs.lemmas.List.Elements.{All-push}
use Rattle.tv_linear.specs.Linear.{IsWithin}
use Rattle.tv_linear.specs.Tight.{rounded_up}
use Rattle.tv_linear.proofs.PlainLists.{map-more}
use Rattle.tv_linear.proofs.tight.all_rounded_up.Goals as goal

pub loop-number-preserved : goal.loop-number-preserved
loop-number-preserved c =
    let fits : FitsSigned w64 c.rounded_up.result = search rules in
    let number_fits : FitsSigned w64 (get_or c.args.numbers.now c.loop-number.number-index (pos 0)) = search rules in
    let here : c.rounded_up.result ≡ rounded_up c.args.divisor (get_or c.args.numbers.now c.loop-number.number-index (pos 0)) = rw to_z-of_z at c.rounded_up.ensures.exact in
    let items : c.push.new.self.items ≡ c.loop-number.rounded.items ++ c.rounded_up.result ∷ [] = rw to_z-of_z at c.in_ok-push.ensures.items in
    record {
      exact = map-more (rounded_up c.args.divisor) c.args.numbers.now _ _ c.loop-number.number-index c.rounded_up.result (omega arith) c.loop-number.invariant.exact here items;
      narrow = rw items (All-push (IsWithin 62) c.loop-number.rounded.items c.rounded_up.result c.loop-number.invariant.narrow c.rounded_up.ensures.narrow);
    }

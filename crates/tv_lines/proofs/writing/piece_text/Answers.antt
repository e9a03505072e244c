use Rattle.std.proofs.lemmas.Int.{to_z-of_z}
use Rattle.std.proofs.Common.{rules, FitsSigned}
use Rattle.std.specs.Int.{w128}
use Rattle.tv_lines.proofs.SpellingLemmas.{piece_spelling}
use Rattle.tv_lines.proofs.writing.piece_text.Goals as goal

pub returns : goal.returns
returns c =
    let fits : FitsSigned w128 c.args.location = search rules in
    let passed = to_z-of_z w128 c.args.location fits in
    piece_spelling c.args.mark c.args.location c.args.numbers.now _ _ _ _ _ _ _ c.mark_text.ensures c.new-text.ensures.items c.in_ok-extend_from_slice.ensures.items
    (rw passed at c.in_ok-append_number.ensures) c.in_ok-push.ensures.items c.in_ok-extend_from_slice-2.ensures.items c.in_ok-append_numbers.ensures

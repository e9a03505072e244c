use Rattle.std.proofs.Common.{◌≡◌, length, drop, ap, ◌∙◌, arith}
use Rattle.tv_reading.specs.Marks.{first}
use Rattle.tv_formula_reader.proofs.SourceLemmas.{first_at}
use Rattle.tv_formula_reader.proofs.source.next_token.Goals as goal

pub returns : goal.returns
returns c =
    let tokens = ap length c.requires.over.tokens in
    let inside = c.requires.over.inside in
    let at : c.place-at.result ≡ c.args.reading.now.at = c.place-at.ensures in
    first_at c.args.source.now.list.now c.place-at.result _ (omega arith) ∙ ap (λ n. first (drop n c.args.source.now.list.now)) at

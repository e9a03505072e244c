use Rattle.std.proofs.Common.{◌≡◌, ◌∙◌, true, Some, subst, sym}
use Rattle.std.proofs.lemmas.Slice.Eq.{bytes_eq-Decides}
use Rattle.std.specs.Prelude.{slice_get}
use Rattle.std.specs.Str.{bytes_eq}
use Rattle.tv_program.specs.Words.{Word}
use Rattle.tv_language.proofs.RecentLemmas.{number_at}
use Rattle.tv_language.proofs.recent.is_at.Goals as goal

pub returns-then-number-len-clause-number : goal.returns-then-number-len-clause-number
returns-then-number-len-clause-number c = λ seen.
    let same : bytes_eq c.text.result.now c.args.word.now ≡ true = sym c.is_word.ensures ∙ seen in
    let is : c.text.result.now ≡ c.args.word.now = (bytes_eq-Decides c.text.result.now c.args.word.now).0 same in
    number_at c.args.names.now c.args.number c.args.word.now (subst (λ (w : Word). slice_get c.args.names.now c.args.number ≡ Some w) is c.text.ensures) c.len.ensures.distinct

use Rattle.std.proofs.Common.{◌≡◌, Some, drop, sym, ◌∙◌}
use Rattle.tv_language.specs.Symbols.{name, lexeme}
use Rattle.tv_reading.specs.Marks.{plain, mark_by}
use Rattle.tv_reading.specs.Views.{stand}
use Rattle.tv_reading.proofs.MarkLemmas.{next_is, left_counted, passed_counted, same_left}
use Rattle.tv_reading.proofs.cursor.pass_name.Goals as goal

pub returns-in_ok-count_name-in-Some-clause-rest : goal.returns-in_ok-count_name-in-Some-clause-rest
returns-in_ok-count_name-in-Some-clause-rest c = left_counted (stand c.args.source.now c.args.cursor.now) c.in-Some.token c.count_name.new.names c.count_name.new.draws c.in_ok-count_name-in-Some.ensures.names c.in_ok-count_name-in-Some.ensures.draws (sym c.in-Some.ensures)

pub returns-in_ok-count_name-in-Some-clause-passed : goal.returns-in_ok-count_name-in-Some-clause-passed
returns-in_ok-count_name-in-Some-clause-passed c = λ from h. passed_counted from (stand c.args.source.now c.args.cursor.now) c.in-Some.token c.count_name.new.names c.count_name.new.draws c.in_ok-count_name-in-Some.ensures.names c.in_ok-count_name-in-Some.ensures.draws (sym c.in-Some.ensures) h

pub returns-in-None-clause-rest : goal.returns-in-None-clause-rest
returns-in-None-clause-rest c = same_left (stand c.args.source.now c.args.cursor.now) (sym c.in-None.ensures)

pub count_name-requires : goal.count_name-requires
count_name-requires c = record {
  seen =
      let is : Some (mark_by c.args.source.now.grows c.args.cursor.now.names c.args.cursor.now.draws c.in-Some.token.kind (lexeme c.args.source.now.text.now c.in-Some.token).word) ≡ Some (plain (name c.args.number)) = sym (next_is c.args.source.now.text.now c.args.source.now.grows c.args.cursor.now.names c.args.cursor.now.draws (drop c.args.cursor.now.at c.args.source.now.list.now) c.in-Some.token (sym c.in-Some.ensures)) ∙ c.requires.named in
      cc;
}

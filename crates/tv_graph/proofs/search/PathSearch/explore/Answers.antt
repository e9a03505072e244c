use Rattle.std.proofs.Common.{rules, ◌≡◌, length, refl, sym, ◌∙◌, ap, arith}
use Rattle.std.proofs.lemmas.List.{length-set, get_or_read}
use Rattle.tv_graph.specs.Marks.{mark_at}
use Rattle.tv_graph.specs.PathSearch.{EntersNode}
use Rattle.tv_graph.specs.declared.marks.Mark.TheVariants.{New, Open}
use Rattle.tv_graph.proofs.SearchLemmas.{enters_valid, rests, enters_grows}
use Rattle.tv_graph.proofs.search.PathSearch.explore.Goals as goal

pub steps-init : goal.steps-init
steps-init c =
    let isn : c.index.result.now ≡ New = search rules in
    let new : mark_at c.args.self.now.marks.items c.args.root ≡ New = sym (get_or_read c.args.self.now.marks.items c.args.root c.index.result.now c.requires.root c.index.ensures New) ∙ isn in
    let e : EntersNode c.args.self.now c.enter.new.self c.args.root = c.in_ok-enter.ensures in
    let none : length c.args.self.now.path.items ≡ 0 = c.requires.rests in
    record {
      valid = enters_valid c.args.arcs.now c.args.self.now c.enter.new.self c.args.root c.requires.valid e new c.requires.root (λ i lt. absurd (omega arith));
      nodes = ap length e.marks ∙ length-set c.args.self.now.marks.items c.args.root (Open (length c.args.self.now.path.items));
      grows = λ u mu. (enters_grows c.args.self.now c.enter.new.self c.args.root e c.requires.root u mu).0;
      root = λ mu. (enters_grows c.args.self.now c.enter.new.self c.args.root e c.requires.root c.args.root mu).1 refl;
    }

pub returns-clause-rests : goal.returns-clause-rests
returns-clause-rests c = rests c.args.arcs.now c.steps.self c.steps.invariant.valid (omega arith)

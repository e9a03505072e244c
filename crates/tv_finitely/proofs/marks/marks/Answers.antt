use Rattle.std.proofs.Common.{◌≤◌, ◌∙◌, ◌++◌, length, map, true, ap, sym}
use Rattle.std.proofs.lemmas.List.{drop_all, append-nil}
use Rattle.tv_program.specs.Programs.{system_of}
use Rattle.tv_program.specs.Views.{instruction, transitions}
use Rattle.tv_cases.specs.Amounts.{amount, amount_after}
use Rattle.tv_cases.specs.Systems.{cases_of}
use Rattle.tv_finitely.specs.Splits.{edge_marks}
use Rattle.tv_edges.proofs.EdgeLemmas.{all_cases, few_cases}
use Rattle.tv_finitely.proofs.Marked.{marks_from, by-turns, next-turn}
use Rattle.tv_finitely.proofs.marks.marks.Goals as goal

pub loop-edge-init : goal.loop-edge-init
loop-edge-init c =
    let n = length (system_of c.args.program.now).variables in
    let all = transitions c.edges-edges.result.now in
    ap (λ marks. marks ++ marks_from true n all) c.in_ok-marks.ensures.items ∙ sym (by-turns n all)

pub loop-edge-preserved : goal.loop-edge-preserved
loop-edge-preserved c =
    let p = system_of c.args.program.now in
    let n = length p.variables in
    let edges = c.edges-edges.result.now in
    let few : length (all_cases n (transitions edges)) ≤ 8192 = rw c.edges-edges.ensures.same (few_cases p (cases_of c.args.cases.now).cases c.edges-edges.ensures.limits c.requires) in
    let counted = ap (λ a. a.lists) c.amount_of_commands.ensures.is ∙ ap (λ cs. (amount_after (amount 1 0) (map instruction cs)).lists) c.deref.ensures.value in
    next-turn n edges c.loop-edge.edge-index c.edge-item.result c.loop-edge-test.true c.edge-item.is few c.loop-edge.enters c.loop-edge.marks.items c.add_marks.new.marks.items
    (edge_marks n (transitions edges)) c.amount_of_commands.result.lists c.loop-edge.invariant c.in_ok-add_marks.ensures counted

pub returns : goal.returns
returns c =
    let n = length (system_of c.args.program.now).variables in
    let made = c.loop-edge.marks.items in
    let none = drop_all c.loop-edge.edge-index c.edges-edges.result.now c.loop-edge-test.false in
    sym (append-nil made)
    ∙ ap (λ es. made ++ marks_from c.loop-edge.enters n (transitions es)) (sym none)
    ∙ c.loop-edge.invariant
    ∙ ap (edge_marks n) c.edges-edges.ensures.same

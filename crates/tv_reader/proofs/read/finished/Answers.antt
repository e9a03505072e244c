use Rattle.std.proofs.Common.{◌≡◌, ◌≤◌, ◌<◌, ℕ, List, length, ap, subst, sym, ◌∙◌, arith}
use Rattle.std.specs.Prelude.{IfSome}
use Rattle.std.specs.List.{list_all}
use Rattle.std.proofs.lemmas.Bool.Decides.{nat_tests}
use Rattle.std.proofs.lemmas.List.{length-map}
use Rattle.tv_program.specs.Words.{Word}
use Rattle.tv_program.specs.Views.{transition, transitions}
use Rattle.tv_program.specs.Limits.{transition_fits}
use Rattle.tv_reader.proofs.read.finished.Goals as goal

pub new-requires : goal.new-requires
new-requires c =
    let r = c.args.reader in
    let names : length c.finish.result ≤ 512 = subst (λ (ns : List Word). length ns ≤ 512) (sym c.finish.ensures) c.requires.steady.reads.within.0 in
    let bounded : length c.args.items.edges.items ≤ 4096 = c.requires.fits.bounded in
    let counted : length (transitions c.args.items.edges.items) ≡ length c.args.items.edges.items = length-map c.args.items.edges.items transition in
    let edges : length (transitions c.args.items.edges.items) ≤ 4096 = omega (arith, bounded, counted) in
    let first = subst (λ o. IfSome o (λ (l : ℕ). l < length r.labels)) c.in-Some.is c.requires.fits.started in
    let some : 0 < length r.labels = omega (arith, first) in
    let locations : length r.labels ≤ 1024 = c.requires.bounded in
    record {
      few_variables = grind (arith, nat_tests);
      few_locations = grind (arith, nat_tests);
      few_edges = grind (arith, nat_tests);
      starts = grind (arith, nat_tests);
      edges_fit = ap (λ (ns : List Word). list_all (transition_fits (length ns) (length r.labels)) (transitions c.args.items.edges.items)) c.finish.ensures ∙ c.requires.fits.edges;
    }

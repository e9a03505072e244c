use Rattle.std.proofs.Common.{subst, sym}
use Rattle.tv_simplex.specs.Views.{equations}
use Rattle.tv_simplex.specs.Tables.{shown}
use Rattle.tv_simplex.specs.Walking.{AreOfObjective, AreSigned}
use Rattle.tv_simplex.proofs.EndLemmas.{gives_barrier, right_barrier, barrier_unscaled, scaling_stops}
use Rattle.tv_simplex.proofs.answering.barrier.Goals as goal

pub returns-in-Err : goal.returns-in-Err
returns-in-Err c =
    let s = equations c.args.system.now in
    let t = c.args.table.now in
    let of = subst (λ f. AreOfObjective s.rows s.columns (shown t s.rows) f) (sym c.deref.ensures.value) c.in_ok-fractions.ensures in
    scaling_stops s t.basis.items c.deref.result.now c.in-Err.stop (barrier_unscaled s c.requires.stands.0 t c.requires.stands.1 c.deref.result.now of c.requires.unsolved.0 c.requires.unsolved.1 c.requires.none) c.in-Err.ensures

pub returns : goal.returns
returns c =
    let s = equations c.args.system.now in
    let t = c.args.table.now in
    let of = subst (λ f. AreOfObjective s.rows s.columns (shown t s.rows) f) (sym c.deref.ensures.value) c.in_ok-fractions.ensures in
    let n = c.in-Ok.scaled.numbers.items in
    let y = c.in_ok-y-in-Ok.y.items in
    let signed = subst (λ m. AreSigned s s.rows m y) c.deref-in-Ok.ensures.value c.in_ok-y-in-Ok.ensures in
    record {
      answers = right_barrier s c.requires.stands.0 t c.requires.stands.1 c.deref.result.now of c.requires.unsolved.0 c.requires.unsolved.1 c.requires.none n y c.in-Ok.scaled.scale c.in-Ok.ensures signed;
      last = gives_barrier s c.requires.stands.0 t c.requires.stands.1 c.deref.result.now of c.requires.unsolved.0 c.requires.unsolved.1 c.requires.none n y c.in-Ok.scaled.scale c.in-Ok.ensures signed;
    }

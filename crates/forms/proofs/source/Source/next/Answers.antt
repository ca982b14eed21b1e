use Rattle.std.proofs.Common.{◌≡◌, ◌+◌, ◌-◌, ◌≤◌, length, sym, subst, arith}
use Rattle.forms.specs.Sources.{written}
use Rattle.forms.proofs.Fronts.{fronted_written}
use Rattle.forms.proofs.Successors.{Early, early_all, early_none}
use Rattle.forms.proofs.Walking.{early_turn, next_turn}
use Rattle.forms.proofs.source.Source.next.Goals as goal

pub loop-d-init : goal.loop-d-init
loop-d-init g c = λ e narrow. early_all (written g.K.Kind.domain e c.args.self.now).on (fronted_written g.K.Kind.domain e c.args.self.now).fronts c.args.path.now

pub loop-d-preserved : goal.loop-d-preserved
loop-d-preserved g c = λ e narrow.
    let s = c.args.self.now in
    let w = (written g.K.Kind.domain e s).on in
    let fronts = (fronted_written g.K.Kind.domain e s).fronts in
    let back : (c.loop-d.d - 1) + 1 ≡ c.loop-d.d = omega arith in
    let inside : c.loop-d.d - 1 ≤ length c.args.path.now = omega arith in
    early_turn w narrow fronts c.args.path.now (c.loop-d.d - 1) inside (c.in_default.ensures e narrow) (subst (λ d. Early w c.args.path.now d) (sym back) (c.loop-d.invariant e narrow))

pub returns-in-Some : goal.returns-in-Some
returns-in-Some g c =
    let back : (c.loop-d.d - 1) + 1 ≡ c.loop-d.d = omega arith in
    let inside' : c.loop-d.d - 1 ≤ length c.args.path.now = omega arith in
    record {
      inside = inside';
      ahead = λ e narrow.
          let s = c.args.self.now in
          let w = (written g.K.Kind.domain e s).on in
          let fronts = (fronted_written g.K.Kind.domain e s).fronts in
          next_turn w narrow fronts c.args.path.now (c.loop-d.d - 1) c.in-Some.role inside' (c.in-Some.ensures e narrow) (subst (λ d. Early w c.args.path.now d) (sym back) (c.loop-d.invariant e narrow));
    }

pub returns : goal.returns
returns g c =
    let none : c.loop-d.d ≡ 0 = omega arith in
    record {
      inside = tt;
      ahead = λ e narrow.
          let s = c.args.self.now in
          let w = (written g.K.Kind.domain e s).on in
          let fronts = (fronted_written g.K.Kind.domain e s).fronts in
          early_none w fronts c.args.path.now (subst (λ d. Early w c.args.path.now d) none (c.loop-d.invariant e narrow));
    }

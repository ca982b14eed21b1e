use Rattle.std.proofs.Common.{◌≡◌, ◌+◌, ◌<◌, length, take, drop, Some, None, sym, refl, ap, ◌∙◌, subst, arith, length-set, rules}
use Rattle.std.proofs.lemmas.List.{take-append-drop}
use Rattle.forms.specs.Laying.{Next, Final}
use Rattle.forms.specs.Seen.{Seen}
use Rattle.forms.specs.Sheets.{find}
use Rattle.forms.specs.Sources.{written}
use Rattle.rows.specs.Tables.{then_role, rows_of}
use Rattle.forms.proofs.Finding.{find_below}
use Rattle.forms.proofs.Fronts.{fronted_written}
use Rattle.forms.proofs.Lining.{LaidTo, row_with, laid_as, lined_first, lined_more, lined_final, lined_full, front_found}
use Rattle.forms.proofs.Prefixes.{find_front}
use Rattle.forms.proofs.source.Source.lay.Goals as goal

pub loop-n-init : goal.loop-n-init
loop-n-init g c = record {
  some = omega arith;
  short = omega (arith, ap length c.new-path.ensures);
  room = refl;
  laid = λ e proper.
      let k = g.K.Kind.domain in
      let s = c.args.self.now in
      laid_as k (written k e s) (fronted_written k e s) e 1 c.put.ensures.rows c.put.ensures.dead c.new-path.ensures
      (lined_first k (written k e s) (fronted_written k e s) e c.args.rows.now c.args.dead.now c.at.result.label c.at.result.roles (omega arith) (search rules) (c.at.ensures e));
}

pub returns-in_default-clause-laid : goal.returns-in_default-clause-laid
returns-in_default-clause-laid g c = λ e proper.
    let k = g.K.Kind.domain in
    let s = c.args.self.now in
    let here : c.deref.result.now ≡ c.loop-n.path.items = search rules in
    lined_final k (written k e s) (fronted_written k e s) e c.loop-n.rows c.loop-n.dead c.loop-n.n c.loop-n.path.items (c.loop-n.invariant.laid e proper)
    (subst (λ π. Final (written k e s).on π) here (c.in_default.ensures.ahead e proper.narrow))

pub returns-clause-laid : goal.returns-clause-laid
returns-clause-laid g c = λ e proper.
    let k = g.K.Kind.domain in
    let s = c.args.self.now in
    let full : c.loop-n.n ≡ 128 = omega arith in
    let laid = subst (λ n. LaidTo k (written k e s) (fronted_written k e s) e c.loop-n.rows c.loop-n.dead n c.loop-n.path.items) full (c.loop-n.invariant.laid e proper) in
    lined_final k (written k e s) (fronted_written k e s) e c.loop-n.rows c.loop-n.dead 128 c.loop-n.path.items laid
    (lined_full k (written k e s) (fronted_written k e s) e c.loop-n.rows c.loop-n.dead 128 c.loop-n.path.items laid proper (omega arith))

pub returns-in_default-find-clause-laid : goal.returns-in_default-find-clause-laid
returns-in_default-find-clause-laid g c = λ e proper.
    let k = g.K.Kind.domain in
    let s = c.args.self.now in
    let P = c.loop-n.path.items in
    let d = c.in-Some.d in
    let at : c.deref-in-loop-n.result.now ≡ take d P = c.deref-in-loop-n.ensures.0 ∙ c.truncate.ensures.items in
    let none : find (rows_of e c.loop-n.rows) c.loop-n.n (take d P) 0 ≡ None =
    sym (sym c.in_default-find.is ∙ c.find.ensures e ∙ find_front c.loop-n.rows c.loop-n.n e (omega arith) c.deref-in-loop-n.result.now 0 ∙ ap (λ π. find (rows_of e c.loop-n.rows) c.loop-n.n π 0) at)
    in
    absurd (front_found k (written k e s) (fronted_written k e s) e c.loop-n.rows c.loop-n.dead c.loop-n.n P (c.loop-n.invariant.laid e proper) (take d P) (drop d P) (sym (take-append-drop d P)) none)

pub overflow_cast-parent : goal.overflow_cast-parent
overflow_cast-parent g c =
    let e = row_with c.at.result.label 0 0 in
    let P = c.loop-n.path.items in
    let d = c.in-Some.d in
    let found : Some c.in-Some-find.parent ≡ find (rows_of e c.loop-n.rows) c.loop-n.n c.deref-in-loop-n.result.now 0 =
    sym c.in-Some-find.is ∙ c.find.ensures e ∙ find_front c.loop-n.rows c.loop-n.n e (omega arith) c.deref-in-loop-n.result.now 0
    in
    let below = find_below (rows_of e c.loop-n.rows) c.loop-n.n c.deref-in-loop-n.result.now c.in-Some-find.parent c.loop-n.invariant.some found in
    search rules

pub loop-n-preserved : goal.loop-n-preserved
loop-n-preserved g c =
    let k = g.K.Kind.domain in
    let s = c.args.self.now in
    let P = c.loop-n.path.items in
    let n = c.loop-n.n in
    let d = c.in-Some.d in
    let r = c.in-Some.role in
    let p = c.in-Some-find.parent in
    let x = c.at-in-loop-n.result.label in
    let roles = c.at-in-loop-n.result.roles in
    let row = row_with x p r in
    let room : n < length c.loop-n.rows = omega arith in
    let flags : n < length c.loop-n.dead = search rules in
    let at : c.deref.result.now ≡ P = c.deref.ensures.0 in
    let cut : c.deref-in-loop-n.result.now ≡ take d P = c.deref-in-loop-n.ensures.0 ∙ c.truncate.ensures.items in
    let path : c.push.new.self.items ≡ then_role (take d P) r = c.push.ensures.items ∙ ap (λ π. then_role π r) c.truncate.ensures.items in
    let end : c.deref-in-loop-n-2.result.now ≡ then_role (take d P) r = c.deref-in-loop-n-2.ensures.0 ∙ path in
    record {
      some = omega arith;
      short = omega (arith, c.push.ensures.len, c.truncate.ensures.len, c.loop-n.invariant.short);
      room = ap length c.put-in-loop-n.ensures.rows ∙ length-set c.loop-n.rows n row ∙ c.loop-n.invariant.room;
      laid = λ e proper.
          let f = written k e s in
          let T = rows_of e c.loop-n.rows in
          let next : Next f.on P (then_role (take d P) r) = subst (λ π. Next f.on π (then_role (take d π) r)) at (c.in-Some.ensures.ahead e proper.narrow) in
          let found : find T n (take d P) 0 ≡ Some p =
          sym (sym c.in-Some-find.is ∙ c.find.ensures e ∙ find_front c.loop-n.rows n e (omega arith) c.deref-in-loop-n.result.now 0 ∙ ap (λ π. find T n π 0) cut)
          in
          let seen : Seen k f (then_role (take d P) r) x roles = subst (λ π. Seen k f π x roles) end (c.at-in-loop-n.ensures e) in
          laid_as k f (fronted_written k e s) e (n + 1) c.put-in-loop-n.ensures.rows c.put-in-loop-n.ensures.dead path
          (lined_more k f (fronted_written k e s) e c.loop-n.rows c.loop-n.dead n P (c.loop-n.invariant.laid e proper) (take d P) r p x roles room flags found next seen);
    }

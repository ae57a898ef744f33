use Rattle.std.proofs.Common.{◌≡◌, ◌∙◌, ◌<◌, ◌≤◌, ◌-◌, ap, arith, get_or, length, subst}
use Rattle.std.proofs.lemmas.List.{get_or_default}
use Rattle.std.proofs.lemmas.List.Edits.{get_or-remove_below}
use Rattle.std.proofs.lemmas.List.Elements.{All-get_or}
use Rattle.rx_daemon.specs.Rights.{IsRight}
use Rattle.rx_daemon.specs.Threads.{number_of}
use Rattle.rx_daemon.proofs.SettleLemmas.{rises-more}
use Rattle.rx_daemon.proofs.settling.tell_apart.Goals as goal

pub clash-requires-clause-one : goal.clash-requires-clause-one
clash-requires-clause-one g c =
    let same = c.loop-i.invariant.same in
    let xs = c.loop-i.served.items in
    let i = c.loop-i.i in
    let first = c.remove-first.result in
    let second = c.remove-second.result in
    let some : 1 ≤ i = c.loop-i.auto.i in
    let inside : i < length c.args.served.items = omega (arith, c.loop-i-test.true, c.len-i-end.ensures) in
    let inside' : i < length xs = omega (arith, inside, ap length same) in
    let first_is : first ≡ get_or xs (i - 1) first =
    c.remove-first.ensures.value ∙ ap (λ ys. get_or ys (i - 1) first) c.remove-second.ensures.items ∙ get_or-remove_below xs i first (i - 1) (omega (arith, some)) inside' in
    let right = All-get_or (λ s. IsRight g.K.Run.rights (number_of s) s.right) xs (i - 1) first (omega (arith, inside')) (rw same c.requires.rights) in
    let up = (rw (← same) at c.requires.up) (i - 1) i first (omega arith) inside' in
    let left_is = ap number_of (get_or_default xs (i - 1) first c.index.result.now (omega (arith, inside'))) in
    let left_read = ap number_of c.index.ensures in
    let right_is = ap number_of (get_or_default xs i first c.index-in-loop-i.result.now inside') in
    let right_read = ap number_of c.index-in-loop-i.ensures in
    let second_is = ap number_of (get_or_default xs i second c.index-in-loop-i.result.now inside') in
    let second_read = ap number_of c.remove-second.ensures.value in
    let first_read = ap number_of first_is in
    let number : number_of first ≡ number_of second = omega (arith, up, left_is, left_read, right_is, right_read, second_is, second_read, first_read, c.if-index.true) in
    rw c.into_right.ensures (subst (λ n. IsRight g.K.Run.rights n first.right) number (rw (← first_is) at right))

pub clash-requires-clause-other : goal.clash-requires-clause-other
clash-requires-clause-other g c =
    let same = c.loop-i.invariant.same in
    let xs = c.loop-i.served.items in
    let inside : c.loop-i.i < length xs = omega (arith, c.loop-i-test.true, c.len-i-end.ensures, ap length same) in
    let second = c.remove-second.result in
    let right = All-get_or (λ s. IsRight g.K.Run.rights (number_of s) s.right) xs c.loop-i.i second inside (rw same c.requires.rights) in
    rw c.into_right-then-index.ensures (rw (← c.remove-second.ensures.value) at right)

pub loop-i-preserved : goal.loop-i-preserved
loop-i-preserved g c =
    let xs = c.loop-i.served.items in
    let i = c.loop-i.i in
    let some : 1 ≤ i = c.loop-i.auto.i in
    let inside : i < length xs = omega (arith, c.loop-i-test.true, c.len-i-end.ensures, ap length c.loop-i.invariant.same) in
    record {
      same = c.loop-i.invariant.same;
      rises = rises-more i xs c.loop-i.invariant.rises (omega (arith, some)) (λ d.
          let left_is = ap number_of (get_or_default xs (i - 1) d c.index.result.now (omega (arith, inside))) in
          let left_read = ap number_of c.index.ensures in
          let right_is = ap number_of (get_or_default xs i d c.index-in-loop-i.result.now inside) in
          let right_read = ap number_of c.index-in-loop-i.ensures in
          omega (arith, left_is, left_read, right_is, right_read, c.if-index.false));
    }

pub returns-after-loop-i-clause-rises : goal.returns-after-loop-i-clause-rises
returns-after-loop-i-clause-rises g c = λ j k d le lt.
    let same = c.loop-i.invariant.same in
    let end = c.loop-i-test.false in
    rw (← same) (c.loop-i.invariant.rises j k d le (omega (arith, end, lt, ap length same, c.len-i-end.ensures)))

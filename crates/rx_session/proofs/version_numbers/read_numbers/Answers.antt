use Rattle.std.proofs.Common.{arith, Ok, ◌∙◌, ap, refl, sym}
use Rattle.std.proofs.lemmas.Int.{to_z-of_z}
use Rattle.std.proofs.lemmas.Result.{err_from_is_err_and}
use Rattle.rx_session.proofs.NumberReading.{goes_on_behind, goes_on_within, is_refused}
use Rattle.rx_session.proofs.version_numbers.read_numbers.Goals as goal
use Rattle.rx_session.proofs.version_numbers.read_numbers.Goals.{in-Within, in-Ended+in_ok-push-in-Ended}

pub returns-in_err-next : goal.returns-in_err-next
returns-in_err-next c =
    let p = err_from_is_err_and c.from_residual.result c.from_residual.ensures.1 in
    let refused = is_refused c.args.text.now c.loop-byte.byte-index c.loop-byte.numbers.items c.loop-byte.number _ _ c.loop-byte.invariant c.loop-byte-test.true refl (sym c.in_err-next.ensures.step) in
    rw (p.1, p.2) (λ other. refused)

pub loop-byte-preserved : goal.loop-byte-preserved
loop-byte-preserved c = elim c.match-branch-2.branch [
  | in-Within w ↦
      let small = rw w.in-Within.is at c.in_ok-next.ensures.most in
      let step = sym c.in_ok-next.ensures.step ∙ ap Ok w.in-Within.is in
      rw (w.numbers-is, w.number-is) (goes_on_within c.args.text.now c.loop-byte.byte-index c.loop-byte.numbers.items c.loop-byte.number _ w.in-Within.next c.loop-byte.invariant c.loop-byte-test.true refl step small)
  | in-Ended+in_ok-push-in-Ended w ↦
      let step = sym c.in_ok-next.ensures.step ∙ ap Ok w.in-Ended.is in
      let more = goes_on_behind c.args.text.now c.loop-byte.byte-index c.loop-byte.numbers.items c.loop-byte.number _ w.in-Ended.last c.loop-byte.invariant c.loop-byte-test.true refl step in
      rw (w.numbers-is, w.number-is) (grind (arith, to_z-of_z, more, w.in_ok-push-in-Ended.ensures.items))
]

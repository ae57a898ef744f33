use Rattle.std.proofs.Common.{◌≡◌, ◌≢◌, ◌∙◌, ap, map, pos, refl, rules, sym, w32, SFits}
use Rattle.std.proofs.lemmas.Int.{to_z-of_z}
use Rattle.rx_results.specs.ResultOutputs.{output_at}
use Rattle.rx_results.specs.Results.{counted, outputs_at}
use Rattle.rx_results.specs.Readings.{reading_of}
use Rattle.rx_results.proofs.OutcomeLemmas.{none_counted}
use Rattle.rx_results.proofs.readings.Reading.new.Goals as goal
use Rattle.rx_results.proofs.readings.Reading.new.Goals.{then-exit_code-eq0+in_ok-outputs, else-exit_code-eq0}

pub returns : goal.returns
unfolding reading_of
returns c =
    let fits : SFits w32 c.args.given.exit_code = search rules in
    let outputs : c.from_vec.result ≡ map (output_at c.args.command.now c.args.given)
    (counted c.args.command.now c.args.given) =
    elim c.if-exit_code-eq0.branch [
      | then-exit_code-eq0+in_ok-outputs w ↦
          let zero : c.args.given.exit_code ≡ pos 0 = sym
          (to_z-of_z w32 c.args.given.exit_code fits) ∙ rw w.if-exit_code-eq0.true refl in
          let all = ap (λ code. map (output_at c.args.command.now c.args.given)
          (outputs_at c.args.command.now code)) zero in
          let is = rw (c.as_slice-directories.ensures, c.as_slice-links.ensures) at
          w.in_ok-outputs.ensures in
          rw (c.from_vec.ensures, w.outputs-is) (is ∙ sym all)
      | else-exit_code-eq0 w ↦
          let other : c.args.given.exit_code ≢ pos 0 = λ zero. w.if-exit_code-eq0.false
          (rw zero refl) in
          let none = ap (map (output_at c.args.command.now c.args.given))
          (none_counted c.args.command.now c.args.given.exit_code other) in
          rw (c.from_vec.ensures, w.outputs-is, w.new-outputs.ensures.items) (sym none)
    ] in
    record { is = rw (to_z-of_z w32 c.args.given.exit_code fits, outputs) refl }

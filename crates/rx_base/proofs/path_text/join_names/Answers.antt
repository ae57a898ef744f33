use Rattle.std.proofs.Common.{ap, string_bytes, ◌++◌, ◌∙◌, lit<}
use Rattle.rx_base.proofs.PathLemmas.{first_name, next_name}
use Rattle.rx_base.proofs.path_text.join_names.Goals as goal
use Rattle.rx_base.proofs.path_text.join_names.Goals.{then-i-gt0+in_ok-push, else-i-gt0}

pub loop-i-preserved : goal.loop-i-preserved
loop-i-preserved c =
    elim c.if-i-gt0.branch [
      | then-i-gt0+in_ok-push w ↦
          next_name c.args.names.now c.loop-i.i _ _ _ _ c.loop-i-test.true w.if-i-gt0.true c.loop-i.invariant
          (ap string_bytes w.text-is ∙ rw w.in_ok-push.ensures.bytes (ap (λ slash. string_bytes c.loop-i.text ++ slash) (w.in_ok-push.ensures.ascii (lit< tt)))) c.in_ok-push_str.ensures.bytes
      | else-i-gt0 w ↦
          first_name c.args.names.now c.loop-i.i _ _ _ _ c.loop-i-test.true w.if-i-gt0.false c.loop-i.invariant
          (ap string_bytes w.text-is) c.in_ok-push_str.ensures.bytes
    ]

use Rattle.std.proofs.Common.{◌≤◌, ◌∙◌, arith, length}
use Rattle.rx_client.proofs.HeardLemmas.{done_read}
use Rattle.rx_client.proofs.endings.read_shutdown_done.Goals as goal

pub returns-clause-done : goal.returns-clause-done
returns-clause-done g c =
    let h = rw (c.as_slice.ensures.value, c.as_slice-2.ensures) at c.eq.ensures in
    let size = c.read_up_to.new.read.ok.0 in
    let most : length c.read_up_to.new.read.items ≤ 5 = omega (arith, size, c.in_ok-read_up_to.ensures.most, c.clear.ensures.len) in
    h ∙ done_read c.read_up_to.new.read.items _ most (λ lt. c.in_ok-read_up_to.ensures.end (omega (arith, size, lt)))

use Rattle.std.proofs.Common.{None, Some, ap, ◌∙◌}
use Rattle.rx_fakes.proofs.Nodes.{entry_at-found}
use Rattle.rx_fakes.proofs.entries.read_node.Goals as goal

pub returns-in_ok-try_clone-in-Some : goal.returns-in_ok-try_clone-in-Some
returns-in_ok-try_clone-in-Some c =
    let found = entry_at-found c.args.path.now c.args.nodes.now.entries (Some c.in-Some.node.now) c.in-Some.ensures.value in
    record { look_is = ap (λ entry. entry.look) found; bytes_are = c.in_ok-try_clone-in-Some.ensures ∙ ap (λ entry. entry.bytes) found }

pub returns-in-None : goal.returns-in-None
returns-in-None c =
    let found = entry_at-found c.args.path.now c.args.nodes.now.entries None c.in-None.ensures.value in
    record { look_is = ap (λ entry. entry.look) found; bytes_are = c.new.ensures ∙ ap (λ entry. entry.bytes) found }

use Rattle.rx_codec.proofs.ReadLemmas.{read_starts, read_more, read_over, seen-push, grows}
use Rattle.rx_codec.proofs.chunks.read_fields.Goals as goal

pub fields-init : goal.fields-init
fields-init c = rw (c.new-found.ensures.items, c.new-fields.ensures.start) (read_starts c.args.bytes.now)

pub fields-preserved : goal.fields-preserved
fields-preserved c =
    let next = rw c.in-Some.is at c.next_field.ensures.next in
    let found = rw c.in-Some.is at c.next_field.ensures.found in
    rw (next.1, c.in_ok-push.ensures.items, seen-push _ _) (read_more _ _ _ _ _ c.fields.invariant next.0 next.2 (grows _ _ _ _ found))

pub returns : goal.returns
returns c =
    let over = rw c.in_default.is at c.next_field.ensures.next in
    read_over _ c.fields.fields _ c.fields.invariant over

use Rattle.std.proofs.Common.{◌≡◌, ℕ, List, [], Ok, None, Some, subst, sym}
use Rattle.rx_base.specs.Results.{Gives}
use Rattle.rx_world.specs.declared.call_faults.CallFault.TheVariants.{NoMemory}
use Rattle.rx_grpc.specs.StreamedCalls.{HearsAll, joined, taken}
use Rattle.rx_grpc.proofs.StreamedLemmas.{joining-fails, joining-on, joining-whole, taken-open}
use Rattle.rx_grpc.proofs.blob_streams.join.Goals as goal

pub returns-in-Err : goal.returns-in-Err
returns-in-Err g c =
    joining-fails g.D.Dial.rule g.D.L.Link c.args.channel.now c.loop.channel c.next-came.new.channel c.loop.text.items c.next-came.result c.in-Err.fault
    c.loop.invariant c.next-came.ensures.goes (rw c.in-Err.is at c.take_item.ensures.taken)

pub returns-then-not-more : goal.returns-then-not-more
returns-then-not-more g c =
    let whole : taken c.loop.text.items c.next-came.result ≡ Ok None = rw (c.in-Ok-take_item.is, c.if-not-more.true) at c.take_item.ensures.taken in
    let same : c.take_item.new.text ≡ c.loop.text = (rw c.in-Ok-take_item.is at c.take_item.ensures.whole) c.if-not-more.true in
    let text : c.from_vec.result ≡ c.loop.text.items = rw same at c.from_vec.ensures in
    subst (λ (x : List ℕ). HearsAll g.D.Dial.rule g.D.L.Link c.args.channel.now c.next-came.new.channel (λ items. Gives NoMemory (λ (y : List ℕ). y) (Ok x) (joined [] items))) (sym text)
    (joining-whole g.D.Dial.rule g.D.L.Link c.args.channel.now c.loop.channel c.next-came.new.channel c.loop.text.items c.next-came.result c.loop.invariant c.next-came.ensures.goes whole)

pub loop-preserved : goal.loop-preserved
loop-preserved g c =
    let more : taken c.loop.text.items c.next-came.result ≡ Ok (Some c.take_item.new.text.items) = rw (c.in-Ok-take_item.is, c.if-not-more.false) at c.take_item.ensures.taken in
    joining-on g.D.Dial.rule g.D.L.Link c.args.channel.now c.loop.channel c.next-came.new.channel c.loop.text.items c.take_item.new.text.items c.next-came.result
    c.loop.invariant c.next-came.ensures.goes more (taken-open c.loop.text.items c.take_item.new.text.items c.next-came.result _ c.next-came.ensures.open more)

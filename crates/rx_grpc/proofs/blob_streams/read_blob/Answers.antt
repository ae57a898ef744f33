use Rattle.std.proofs.Common.{Err, ap, refl}
use Rattle.rx_codec.specs.FieldBytes.{fields_bytes}
use Rattle.rx_exec_messages.specs.Streams.{read_request_fields}
use Rattle.rx_exec_messages.specs.declared.streams.ReadRequest.{ReadRequest}
use Rattle.rx_grpc.specs.declared.method.Method.TheVariants.{ReadStream}
use Rattle.rx_grpc.specs.declared.transfer_fault.TransferFault.TheVariants.{NoMemory}
use Rattle.rx_grpc.specs.Questions.{asks_blob, one}
use Rattle.rx_grpc.proofs.AskedLemmas.{items-same}
use Rattle.rx_grpc.proofs.StreamedLemmas.{all-came, nothing-came, unbegun}
use Rattle.rx_grpc.proofs.blob_streams.read_blob.Goals as goal

pub returns-in_default : goal.returns-in_default
returns-in_default g c =
    nothing-came g.D.Dial.faults g.D.Dial.rule g.D.L.Link (asks_blob c.args.instance.now c.args.digest.now) c.args.channel.now c.args.channel.now (Err NoMemory) _ (unbegun g.D.Dial.faults g.D.Dial.rule g.D.L.Link (asks_blob c.args.instance.now c.args.digest.now) c.args.channel.now) (λ other. absurd (other refl))

pub returns-in-Ok-begin : goal.returns-in-Ok-begin
returns-in-Ok-begin g c =
    let asked = ap (λ (question : ReadRequest). one ReadStream (fields_bytes (read_request_fields question))) c.in-Ok.ensures in
    items-same g.D.Dial.faults g.D.Dial.rule g.D.L.Link _ (asks_blob c.args.instance.now c.args.digest.now) c.args.channel.now c.join.new.channel _ asked
    (all-came g.D.Dial.faults g.D.Dial.rule g.D.L.Link _ c.args.channel.now c.begin.new.channel c.join.new.channel c.begin.result _ c.begin.ensures.begun (rw c.in-Ok-begin.is c.join.ensures))

pub returns : goal.returns
returns g c =
    let asked = ap (λ (question : ReadRequest). one ReadStream (fields_bytes (read_request_fields question))) c.in-Ok.ensures in
    items-same g.D.Dial.faults g.D.Dial.rule g.D.L.Link _ (asks_blob c.args.instance.now c.args.digest.now) c.args.channel.now c.begin.new.channel _ asked
    (nothing-came g.D.Dial.faults g.D.Dial.rule g.D.L.Link _ c.args.channel.now c.begin.new.channel c.begin.result _ c.begin.ensures.begun (rw (c.in-Err.is, c.failed.ensures) (λ other. refl)))

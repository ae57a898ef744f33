use Rattle.std.proofs.Common.{◌≡◌, ◌++◌, take}
use Rattle.std.specs.List.{AllByRecursion}
use Rattle.rx_codec.specs.Contents.{each_put}
use Rattle.rx_codec.specs.FieldBytes.{numbered}
use Rattle.rx_codec.proofs.ContentLaws.{ReadsBack}
use Rattle.rx_codec.proofs.writer.Writer.push_messages.Given as goal

abbrev pub invariant-loop-value : goal.invariant-loop-value
invariant-loop-value g l = record {
  written : l.self ≡ l.fn.self ++ numbered l.number (each_put g.N.Message.fields (take l.value-index l.values));
  again : AllByRecursion (λ x. g.N.Message.IsReadable x → ReadsBack g.N.Message.fields g.N.Message.from x) (take l.value-index l.values);
}

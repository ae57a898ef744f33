use Rattle.std.proofs.Common.{◌≡◌, refl, ap, sym, ◌∙◌, ◌++◌, List}
use Rattle.rx_wire.specs.Values.{Field}
use Rattle.rx_codec.specs.FieldBytes.{fields_bytes, fields_in}
use Rattle.rx_codec.proofs.DecodeLaws.{is_decoded}
use Rattle.rx_codec.proofs.PartLaws.{parts_pass}
use Rattle.rx_codec.proofs.message.Message.encode.Goals as goal

pub returns-clause-again : goal.returns-clause-again
returns-clause-again g c = λ can.
    let all : c.write.new.out ≡ g.Self.Message.fields c.args.self.now = c.in_ok-write.ensures.written ∙ ap (λ (fs : List Field). fs ++ g.Self.Message.fields c.args.self.now) c.new-out.ensures in
    let found : fields_in c.finish.result.items ≡ g.Self.Message.fields c.args.self.now = c.finish.ensures.again ∙ all in
    let written : c.finish.result.items ≡ fields_bytes (g.Self.Message.fields c.args.self.now) = c.finish.ensures.bytes ∙ ap fields_bytes all in
    is_decoded g.Self.Shape.parts g.Self.Message.from g.Self.Message.is_canonical c.finish.result.items c.args.self.now (parts_pass g.Self.Shape.parts c.finish.result.items c.finish.ensures.message)
    (ap g.Self.Message.from found ∙ c.in_ok-write.ensures.again refl can)
    (rw written (c.in_ok-write.ensures.form refl can (ap fields_in (sym written) ∙ found)))

use Rattle.std.proofs.Common.{arith}
use Rattle.rx_codec.proofs.DecodeLaws.{means_if, given_any}
use Rattle.rx_codec.proofs.message.Message.decode.Goals as goal

pub returns-clause-spelled : goal.returns-clause-spelled
returns-clause-spelled g c = means_if g.Self.Shape.parts g.Self.Message.from g.Self.Message.is_canonical c.args.bytes.now c.decode_exactly.result (λ i. omega (arith, c.type_inv.bytes i)) c.decode_exactly.ensures

pub returns-clause-any : goal.returns-clause-any
returns-clause-any g c = λ list spelled each. given_any g.Self.Shape.parts g.Self.Message.from g.Self.Message.is_canonical c.args.bytes.now c.decode_exactly.result list spelled each c.decode_exactly.ensures

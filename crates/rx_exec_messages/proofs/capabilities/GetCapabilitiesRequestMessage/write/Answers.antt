use Rattle.std.proofs.Common.{refl}
use Rattle.rx_exec_messages.specs.Capabilities.{get_capabilities_request_fields}
use Rattle.rx_exec_messages.specs.Capabilities.{get_capabilities_request_from}
use Rattle.rx_codec.proofs.ContentLaws.{contents-numbered, text_again}
use Rattle.rx_exec_messages.proofs.capabilities.GetCapabilitiesRequestMessage.write.Goals as goal

pub returns-clause-again : goal.returns-clause-again
unfolding get_capabilities_request_fields get_capabilities_request_from
returns-clause-again c = λ ok can.
    let x = c.args.self.now in
    simp (contents-numbered) (rw (text_again x.instance_name) refl)

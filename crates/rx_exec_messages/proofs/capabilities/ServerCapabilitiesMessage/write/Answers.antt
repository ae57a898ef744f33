use Rattle.std.proofs.Common.{refl}
use Rattle.std.proofs.lemmas.List.{append-nil}
use Rattle.rx_exec_messages.specs.Capabilities.{server_capabilities_fields}
use Rattle.rx_exec_messages.specs.Capabilities.{server_capabilities_from}
use Rattle.rx_codec.proofs.ContentLaws.{contents-append, contents-numbered, joined_again, some_unit}
use Rattle.rx_exec_messages.proofs.capabilities.ServerCapabilitiesMessage.write.Goals as goal

pub returns-clause-again : goal.returns-clause-again
unfolding server_capabilities_fields server_capabilities_from
returns-clause-again c = λ ok can.
    let x = c.args.self.now in
    simp (contents-append, contents-numbered, append-nil) (
    rw (
      c.in_ok-message.ensures.again refl (some_unit x.cache_capabilities),
      joined_again x.execution_capabilities,
      c.in_ok-message-2.ensures.again refl (some_unit x.low_api_version),
      c.message-3.ensures.again ok (some_unit x.high_api_version),
    ) refl
    )

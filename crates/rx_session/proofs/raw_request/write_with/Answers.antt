use Rattle.std.proofs.Common.{◌≡◌, Ok, map, refl}
use Rattle.std.proofs.lemmas.List.{append-nil}
use Rattle.rx_codec.specs.Contents.{each_in}
use Rattle.rx_codec.proofs.ContentLaws.{all_unit, contents-append, contents-numbered, number_again, text_again, texts_again}
use Rattle.rx_session.specs.Messages.{pair_message, pair_message_from, pairs_put, raw_request_fields, raw_request_from}
use Rattle.rx_session.proofs.RequestLemmas.{pairs_again}
use Rattle.rx_session.proofs.raw_request.write_with.Goals as goal

pub returns-clause-again : goal.returns-clause-again
unfolding raw_request_fields raw_request_from
returns-clause-again c = λ ok.
    let x = c.args.message.now in
    let environment : each_in pair_message_from (pairs_put x.environment) ≡ Ok (map pair_message x.environment) =
    rw c.requires.environment at (c.in_ok-messages.ensures.again refl (all_unit c.args.environment.now)) in
    let platform : each_in pair_message_from (pairs_put x.platform) ≡ Ok (map pair_message x.platform) =
    rw c.requires.platform at (c.in_ok-messages-2.ensures.again refl (all_unit c.args.platform.now)) in
    simp (contents-append, contents-numbered, append-nil) (
    rw (
      environment,
      platform,
      pairs_again x.environment,
      pairs_again x.platform,
      number_again x.version,
      text_again x.root,
      texts_again x.words,
      text_again x.working_directory,
      number_again x.strategy,
      number_again x.kind,
      texts_again x.inputs,
      texts_again x.toolchain_inputs,
      texts_again x.outputs,
      number_again x.accept_cached,
      number_again x.watch,
      number_again x.timeout_seconds,
      number_again x.in_place,
    ) refl
    )

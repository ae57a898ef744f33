use Rattle.std.proofs.Common.{◌≡◌, refl, rules}
use Rattle.std.proofs.lemmas.List.{append-nil}
use Rattle.rx_messages.specs.Results.{action_result_fields, action_result_from}
use Rattle.rx_codec.specs.Contents.{int32_in, int32_put}
use Rattle.rx_codec.proofs.ContentLaws.{all_unit, contents-append, contents-numbered, joined_again, text_again}
use Rattle.rx_messages.proofs.results.ActionResultMessage.write.Goals as goal

pub returns-clause-again : goal.returns-clause-again
unfolding action_result_fields action_result_from
returns-clause-again c = λ ok can.
    let x = c.args.self.now in
    let exit_code_again : int32_in (int32_put x.exit_code) ≡ x.exit_code = search (rules, c.in_ok-int32.ensures.again) in
    simp (contents-append, contents-numbered, append-nil) (rw (c.in_ok-messages.ensures.again refl can.0, c.in_ok-messages-2.ensures.again refl can.1, exit_code_again, text_again x.stdout_raw, c.in_ok-message.ensures.again refl can.2, text_again x.stderr_raw, c.in_ok-message-2.ensures.again refl can.3, joined_again x.execution_metadata, c.messages-3.ensures.again ok (all_unit x.output_symlinks)) refl)

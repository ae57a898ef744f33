use Rattle.std.proofs.Common.{◌≡◌, refl, rules}
use Rattle.std.proofs.lemmas.List.{append-nil}
use Rattle.rx_messages.specs.Statuses.{status_fields, status_from}
use Rattle.rx_codec.specs.Contents.{int32_in, int32_put}
use Rattle.rx_codec.proofs.ContentLaws.{all_unit, contents-append, contents-numbered, text_again}
use Rattle.rx_messages.proofs.statuses.StatusMessage.write.Goals as goal

pub returns-clause-again : goal.returns-clause-again
unfolding status_fields status_from
returns-clause-again c = λ ok can.
    let x = c.args.self.now in
    let code_again : int32_in (int32_put x.code) ≡ x.code = search (rules, c.in_ok-int32.ensures.again) in
    simp (contents-append, contents-numbered, append-nil) (rw (code_again, text_again x.message, c.messages.ensures.again ok (all_unit x.details)) refl)

use Rattle.std.proofs.Common.{◌≡◌, refl, rules}
use Rattle.std.proofs.lemmas.List.{append-nil}
use Rattle.rx_messages.specs.Actions.{duration_fields, duration_from}
use Rattle.rx_codec.specs.Contents.{int64_in, int64_put}
use Rattle.rx_codec.proofs.ContentLaws.{contents-append, contents-numbered}
use Rattle.rx_messages.proofs.actions.DurationMessage.write.Goals as goal

pub returns-clause-again : goal.returns-clause-again
unfolding duration_fields duration_from
returns-clause-again c = λ ok can.
    let x = c.args.self.now in
    let seconds_again : int64_in (int64_put x.seconds) ≡ x.seconds = search (rules, c.int64.ensures.again) in
    simp (contents-append, contents-numbered, append-nil) (rw (seconds_again) refl)

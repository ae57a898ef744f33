use Rattle.std.proofs.Common.{refl}
use Rattle.std.proofs.lemmas.List.{append-nil}
use Rattle.rx_messages.specs.Commands.{command_fields, command_from}
use Rattle.rx_codec.proofs.ContentLaws.{all_unit, contents-append, contents-numbered, some_unit, text_again, texts_again}
use Rattle.rx_messages.proofs.commands.CommandMessage.write.Goals as goal

pub returns-clause-again : goal.returns-clause-again
unfolding command_fields command_from
returns-clause-again c = λ ok can.
    let x = c.args.self.now in
    simp (contents-append, contents-numbered, append-nil) (rw (texts_again x.arguments, c.in_ok-messages.ensures.again refl (all_unit x.environment_variables), texts_again x.output_files, texts_again x.output_directories, c.in_ok-message.ensures.again refl (some_unit x.platform), text_again x.working_directory, texts_again x.output_paths) refl)

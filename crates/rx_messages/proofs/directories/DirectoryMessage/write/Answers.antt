use Rattle.std.proofs.Common.{refl}
use Rattle.std.proofs.lemmas.List.{append-nil}
use Rattle.rx_messages.specs.Directories.{directory_fields, directory_from}
use Rattle.rx_codec.proofs.ContentLaws.{all_unit, contents-append, contents-numbered}
use Rattle.rx_messages.proofs.OneForm.{form_of}
use Rattle.rx_messages.proofs.directories.DirectoryMessage.write.Goals as goal

pub returns-clause-again : goal.returns-clause-again
unfolding directory_fields directory_from
returns-clause-again c = λ ok can.
    let x = c.args.self.now in
    simp (contents-append, contents-numbered, append-nil) (rw (c.in_ok-messages.ensures.again refl can.1, c.in_ok-messages-2.ensures.again refl can.2, c.messages-3.ensures.again ok (all_unit x.symlinks)) refl)

pub returns-clause-form : goal.returns-clause-form
returns-clause-form c = λ ok can read. form_of c.args.self.now can

use Rattle.std.proofs.Common.{◌≡◌, refl, rules}
use Rattle.std.proofs.lemmas.List.{append-nil}
use Rattle.rx_exec_messages.specs.Versions.{version_fields, version_from}
use Rattle.rx_codec.specs.Contents.{int32_in, int32_put}
use Rattle.rx_codec.proofs.ContentLaws.{contents-append, contents-numbered}
use Rattle.rx_exec_messages.proofs.versions.VersionMessage.write.Goals as goal

pub returns-clause-again : goal.returns-clause-again
unfolding version_fields version_from
returns-clause-again c = λ ok can.
    let x = c.args.self.now in
    let major_again : int32_in (int32_put x.major) ≡ x.major =
    search (rules, c.in_ok-int32.ensures.again) in
    let minor_again : int32_in (int32_put x.minor) ≡ x.minor =
    search (rules, c.in_ok-int32-2.ensures.again) in
    let patch_again : int32_in (int32_put x.patch) ≡ x.patch =
    search (rules, c.int32-3.ensures.again) in
    simp (contents-append, contents-numbered, append-nil) (
    rw (major_again, minor_again, patch_again) refl
    )

use Rattle.rx_blobs.proofs.UploadLists.{split-asked, split-known}
use Rattle.rx_blobs.proofs.presence.Split.add.Goals as goal

pub returns-in-Ok : goal.returns-in-Ok
returns-in-Ok c = λ digests s. rw c.in-Ok.ensures.ok (split-known digests _ _ c.args.digest s)

pub returns-in-Ok-push : goal.returns-in-Ok-push
returns-in-Ok-push c = λ digests s. rw c.in-Ok-push.ensures.ok (split-asked digests _ _ c.args.digest s)

use Rattle.std.proofs.Common.{◌≡◌, ◌⊎◌, ◌++◌, ◌∷◌, [], List, sym, subst}
use Rattle.std.specs.Prelude.{◌↔◌, Contains}
use Rattle.rx_base.specs.declared.digests.Digest.{Digest}
use Rattle.rx_remote.specs.Actions.{AreCollected}
use Rattle.rx_remote.proofs.OnceLemmas.{collected-known, collected-new, seen-after, seen-before, unseen}
use Rattle.rx_remote.proofs.once_each.FirstBlobs.add.Goals as goal

pub returns-in_ok-push : goal.returns-in_ok-push
returns-in_ok-push c = λ all h.
    let old = c.args.self.now in
    let set = c.in_ok-insert.ensures in
    rw c.in_ok-push.ensures.items
    (collected-new all old.blobs.items old.seen.keys c.insert.new.self.keys c.args.blob h
    (λ there. unseen old.seen c.digest.result c.in_ok-insert.field-0 set.added c.if-branch.true (subst (Contains old.seen.keys) (sym c.digest.ensures) there))
    (subst (λ (d : Digest). (e : Digest) → Contains c.insert.new.self.keys e ↔ ((e ≡ d) ⊎ Contains old.seen.keys e)) c.digest.ensures
    (seen-after old.seen c.insert.new.self c.digest.result set.updates)))

pub returns-else-branch : goal.returns-else-branch
returns-else-branch c = λ all h.
    let old = c.args.self.now in
    let set = c.in_ok-insert.ensures in
    subst (λ (keys : List Digest). AreCollected (all ++ c.args.blob ∷ []) old.blobs.items keys) (sym (rw c.if-branch.false at set.unchanged))
    (collected-known all old.blobs.items old.seen.keys c.args.blob h
    (subst (Contains old.seen.keys) c.digest.ensures (seen-before old.seen c.digest.result c.in_ok-insert.field-0 set.added c.if-branch.false)))

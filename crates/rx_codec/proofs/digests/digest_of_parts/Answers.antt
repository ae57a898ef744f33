use Rattle.std.proofs.Common.{sym, refl, arith}
use Rattle.rx_codec.proofs.DigestLaws.{digest_read, size_refused, hash_refused}
use Rattle.rx_codec.proofs.digests.digest_of_parts.Goals as goal

pub returns-in-Ok : goal.returns-in-Ok
returns-in-Ok c = sym (digest_read c.args.hash.now c.in-Ok.hash c.args.size (c.in-Ok.ensures.exact.0 refl) c.in-Ok.ensures.read (omega arith))

pub returns-in-Ok-2 : goal.returns-in-Ok-2
returns-in-Ok-2 c = sym (size_refused c.args.hash.now c.args.size (c.in-Ok-2.ensures.exact.0 refl) (omega arith))

pub returns-in-Err : goal.returns-in-Err
returns-in-Err c = sym (hash_refused c.args.hash.now c.args.size (λ h. let e = c.in-Err.ensures.exact.1 h in cc e))

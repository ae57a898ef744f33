use Rattle.std.proofs.Common.{rules, refl}
use Rattle.rx_digest_cache.proofs.CacheLemmas.{then-read}
use Rattle.rx_digest_cache.proofs.cache.DigestCache.digest.Goals as goal

pub returns-in-None-clause-answered : goal.returns-in-None-clause-answered
returns-in-None-clause-answered g c =
    then-read _ _ _ _ _ _ c.in_ok-look.look _ (rw c.in-File.is refl)
    (record { told = search rules; kept = search rules; by_list = search rules; contents = search rules; holds = search rules; later = search rules })
    c.read_anew.ensures.answered

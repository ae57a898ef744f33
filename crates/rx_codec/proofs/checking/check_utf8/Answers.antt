use Rattle.std.proofs.Common.{refl}
use Rattle.rx_codec.proofs.PartLaws.{text_passes, text_refused}
use Rattle.rx_codec.proofs.checking.check_utf8.Goals as goal

pub returns-in-Ok : goal.returns-in-Ok
returns-in-Ok c = text_passes _ _ (c.in-Ok.ensures.exact.0 refl)

pub returns-in-Err : goal.returns-in-Err
returns-in-Err c = rw c.in-Err.ensures.refused (text_refused _ _ (λ u. let e = c.in-Err.ensures.exact.1 u in cc e))

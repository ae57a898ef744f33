-- What an answer of the code says of the bytes, by the laws of what they begin with.
use Rattle.std.proofs.Common.{◌≡◌, ℕ, ◌++◌, List, Result, Ok, Err, IfOk, IfErr}
use Rattle.rx_h2frame.specs.declared.frame.FrameFault.{FrameFault}
use Rattle.rx_h2frame.specs.declared.frame.Next.{Next}
use Rattle.rx_h2frame.specs.declared.frame.Next.TheVariants as Nexts
use Rattle.rx_h2frame.specs.Frame.{next}
use Rattle.rx_h2frame.specs.Seen.{Sees, IsSoundNext, Waits, frame_view}
use Rattle.rx_h2frame.proofs.NextLemmas.{next_refused, next_lacks, next_some}
use Rattle.rx_h2frame.proofs.SoundLemmas.{next_sound, next_stays}

pub seen_sound : (largest : ℕ) (a : List ℕ) (r : Result Next FrameFault) → Sees r (next largest a) → IfOk r (λ n. IsSoundNext largest a n)
seen_sound largest a (Ok (Nexts.Frame f)) s = next_sound largest a (frame_view f) s
seen_sound largest a (Ok (Nexts.NeedMore n)) s = next_some largest a n s
seen_sound largest a (Err e) s = tt

pub seen_for_good : (largest : ℕ) (a : List ℕ) (r : Result Next FrameFault) → Sees r (next largest a) → IfErr r (λ e. (more : List ℕ) → next largest (a ++ more) ≡ Err e)
seen_for_good largest a (Ok n) s = tt
seen_for_good largest a (Err e) s = λ more. next_refused largest a more e s

pub seen_waits : (largest : ℕ) (a : List ℕ) (r : Result Next FrameFault) → Sees r (next largest a) → IfOk r (λ n. (more : List ℕ) → Waits largest a more n)
seen_waits largest a (Ok (Nexts.Frame f)) s = λ more. next_stays largest a more (frame_view f) s
seen_waits largest a (Ok (Nexts.NeedMore n)) s = λ more few. next_lacks largest a more n s few
seen_waits largest a (Err e) s = tt

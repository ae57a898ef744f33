-- What the code's answers say of the bytes.
use Rattle.std.specs.Prelude.{◌≡◌, ◌≤◌, ◌<◌, ◌-◌, ◌+◌, ◌⊎◌, ℕ, List, ◌++◌, length, Result, Ok, Err}
use Rattle.rx_h2frame.specs.declared.frame.FrameFault.{FrameFault}
use Rattle.rx_h2frame.specs.declared.frame.FrameFault.TheVariants.{BadPadding}
use Rattle.rx_h2frame.specs.declared.frame.Frame.{Frame}
use Rattle.rx_h2frame.specs.declared.frame.Next.{Next}
use Rattle.rx_h2frame.specs.declared.frame.Next.TheVariants as Nexts
use Rattle.rx_h2frame.specs.Frame.{Whole, Seen, Complete, Lacks, IsSound, next}

abbrev pub frame_view : Frame → Whole
frame_view f = record { kind = f.kind; flags = f.flags; stream = f.stream; body = f.body.now; size = f.size }

abbrev pub next_view : Next → Seen
next_view (Nexts.Frame f) = Complete (frame_view f)
next_view (Nexts.NeedMore n) = Lacks n

abbrev pub Sees : Result Next FrameFault → Result Seen FrameFault → Type 0
Sees (Ok n) read = read ≡ Ok (next_view n)
Sees (Err e) read = read ≡ Err e

-- a frame that is read is sound and all there, and something is lacking where bytes are lacking
abbrev pub IsSoundNext : ℕ → List ℕ → Next → Type 0
IsSoundNext largest bytes (Nexts.Frame f) = IsSound largest (frame_view f) × (f.size + 9 ≤ length bytes)
IsSoundNext largest bytes (Nexts.NeedMore n) = 0 < n

-- a few bytes more than there were: the rest is lacking, or they show the padding to be wrong
abbrev pub Waits : ℕ → List ℕ → List ℕ → Next → Type 0
Waits largest bytes more (Nexts.Frame f) = next largest (bytes ++ more) ≡ Ok (Complete (frame_view f))
Waits largest bytes more (Nexts.NeedMore n) =
    length more < n → (next largest (bytes ++ more) ≡ Ok (Lacks (n - length more))) ⊎ (next largest (bytes ++ more) ≡ Err BadPadding)

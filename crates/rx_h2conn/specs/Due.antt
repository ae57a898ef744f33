-- The streams whose credit may be due.
use Rattle.std.specs.Prelude.{◌≡◌, ℕ, zero, suc, List, [], ◌∷◌}
use Rattle.rx_h2conn.specs.declared.stream.Stream.{Stream}
use Rattle.rx_h2conn.specs.Credit.{stream_due}

-- the stream at k, or at the end, is there, and none before it has credit that is due
abbrev pub IsDueFrom : ℕ → List Stream → Type 0
IsDueFrom zero ts = Unit {0}
IsDueFrom (suc k) [] = ⊥
IsDueFrom (suc k) (t ∷ ts) = (stream_due t ≡ 0) × IsDueFrom k ts

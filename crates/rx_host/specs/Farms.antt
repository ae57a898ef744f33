-- A farm's client, without its connection.
use Rattle.std.specs.Prelude.{ℕ, Bool, List}
use Rattle.rx_grpc.specs.declared.caller.Begun.{Begun}

-- the rule of connections of which nothing is told
abbrev pub any_bytes : List ℕ → List ℕ → Type 0
any_bytes sent received = Unit {0}

pub record FarmOf : Type 0 where
  pub authority : List ℕ
  pub instance : List ℕ
  pub begun : Begun
  pub streaming : Bool
  pub faults : ℕ

-- The clients of a socket that listens.
use Rattle.std.specs.Prelude.{ℕ}

-- how often it failed, and how many clients it took
pub record Accepts : Type 0 where
  pub faults : ℕ
  pub accepted : ℕ

-- a direction of a client's connection: which client of those that its listener took it is, and how often it failed
pub record Direction : Type 0 where
  pub client : ℕ
  pub faults : ℕ

-- What the calls on a farm's client were, from one of its states to another.
use Rattle.std.specs.Prelude.{◌≡◌, ◌≤◌, List, ◌++◌}
use Rattle.rx_base.specs.Told.{Told}
use Rattle.rx_exec_messages.specs.declared.callers.Caller as callers
use Rattle.rx_exec_messages.specs.declared.exchanges.Exchange.{Exchange}
use Rattle.rx_exec_messages.specs.Calls.{Stays}

-- Between two states these exchanges were made: the conversation tells them. What is vouched for stays, and the count didn't fall.
pub record Exchanged {C W : Type 0} (c : callers.Ghosts C W) (before after : C) (part : List Exchange) : Type 0 where
  pub told : Told (c.conversation before) (c.conversation after) (λ x y. y ≡ x ++ part)
  pub stays : Stays c.vouches c.genuine c.dialect before after
  pub later : c.faults before ≤ c.faults after

-- The exchanges that were made are such.
pub record HasExchanged {C W : Type 0} (c : callers.Ghosts C W) (before after : C) (IsSuch : List Exchange → Type 0) : Type 0 where
  pub part : List Exchange
  pub exchanged : Exchanged c before after part
  pub is_such : IsSuch part

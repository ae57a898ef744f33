use Rattle.rx_results.proofs.farm_results.FarmResult.spoiled.Goals as goal

pub returns-clause-agreed : goal.returns-clause-agreed
returns-clause-agreed c blob outcome agrees =
    c.spoiled.ensures.agreed blob _ outcome _ c.self.invariant (rw (← c.self.view_is) at agrees)

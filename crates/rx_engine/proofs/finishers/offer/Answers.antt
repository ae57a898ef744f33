-- What the offer was told and what the pass says of a decision fits the end.
use Rattle.std.proofs.Common.{ap}
use Rattle.rx_engine.specs.Attempts.{whole_end}
use Rattle.rx_engine.proofs.FinisherLemmas.{offer-fits}
use Rattle.rx_engine.proofs.finishers.offer.Goals as goal

pub returns-in-Done-end-clause-fits : goal.returns-in-Done-end-clause-fits
returns-in-Done-end-clause-fits g c =
    let mark = c.offer-ticket.result in
    let told = c.offer-ticket.ensures in
    offer-fits g.K.Contest.plan c.args.looking.attempt c.args.looking.seen _ _ mark.verdict mark.ticket.slip (ap whole_end c.in-Done.is) mark.slip
    told.won told.noted told.seen

pub returns-in-Failed-end-2-clause-fits : goal.returns-in-Failed-end-2-clause-fits
returns-in-Failed-end-2-clause-fits g c =
    let mark = c.offer-ticket-in-Failed.result in
    let told = c.offer-ticket-in-Failed.ensures in
    offer-fits g.K.Contest.plan c.args.looking.attempt c.args.looking.seen _ _ mark.verdict mark.ticket.slip (ap whole_end c.in-Failed.is) mark.slip
    told.won told.noted told.seen

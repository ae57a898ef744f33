use Rattle.std.proofs.Common.{[], subst, sym}
use Rattle.rx_remote.specs.declared.asks.Ask.{Ask}
use Rattle.rx_remote.specs.Actions.{stored_of}
use Rattle.rx_remote.specs.Reading.{HeardGives, IsOwnCause}
use Rattle.rx_remote.specs.Turns.{IsTurn}
use Rattle.rx_remote.proofs.ReadLemmas.{read-none}
use Rattle.rx_remote.proofs.turns.hear.Goals as goal

pub returns-in-Capabilities-clause-turn : goal.returns-in-Capabilities-clause-turn
returns-in-Capabilities-clause-turn g c =
    subst (λ (ask : Ask). IsTurn g.W.World g.C.Caller c.args.action.now.digest (stored_of c.args.action.now) ask c.args.caller.now c.ask_capabilities.new.caller c.ask_capabilities.result)
    (sym c.in-Capabilities.is) (c.ask_capabilities.ensures.turn c.args.action.now.digest (stored_of c.args.action.now))

pub returns-in-Capabilities-clause-reads : goal.returns-in-Capabilities-clause-reads
returns-in-Capabilities-clause-reads g c told =
    let files = c.args.action.now.job.files.now in
    let count = g.S.Sources.faults c.args.sources.now in
    read-none g.W.World g.S.Sources files c.args.sources.now (λ answers. HeardGives (IsOwnCause files answers count count told) c.ask_capabilities.result)
    (c.ask_capabilities.ensures.quiet files [] count count told)

pub returns-in-GetResult-clause-turn : goal.returns-in-GetResult-clause-turn
returns-in-GetResult-clause-turn g c =
    subst (λ (ask : Ask). IsTurn g.W.World g.C.Caller c.args.action.now.digest (stored_of c.args.action.now) ask c.args.caller.now c.ask_cache.new.caller c.ask_cache.result)
    (sym c.in-GetResult.is) (c.ask_cache.ensures.turn (stored_of c.args.action.now))

pub returns-in-GetResult-clause-reads : goal.returns-in-GetResult-clause-reads
returns-in-GetResult-clause-reads g c told =
    let files = c.args.action.now.job.files.now in
    let count = g.S.Sources.faults c.args.sources.now in
    read-none g.W.World g.S.Sources files c.args.sources.now (λ answers. HeardGives (IsOwnCause files answers count count told) c.ask_cache.result)
    (c.ask_cache.ensures.quiet files [] count count told)

pub returns-in-Execute-clause-turn : goal.returns-in-Execute-clause-turn
returns-in-Execute-clause-turn g c =
    subst (λ (ask : Ask). IsTurn g.W.World g.C.Caller c.args.action.now.digest (stored_of c.args.action.now) ask c.args.caller.now c.ask_run.new.caller c.ask_run.result)
    (sym c.in-Execute.is) (c.ask_run.ensures.turn (stored_of c.args.action.now))

pub returns-in-Execute-clause-reads : goal.returns-in-Execute-clause-reads
returns-in-Execute-clause-reads g c told =
    let files = c.args.action.now.job.files.now in
    let count = g.S.Sources.faults c.args.sources.now in
    read-none g.W.World g.S.Sources files c.args.sources.now (λ answers. HeardGives (IsOwnCause files answers count count told) c.ask_run.result)
    (c.ask_run.ensures.quiet files [] count count told)

pub returns-in-NextOperation-clause-turn : goal.returns-in-NextOperation-clause-turn
returns-in-NextOperation-clause-turn g c =
    subst (λ (ask : Ask). IsTurn g.W.World g.C.Caller c.args.action.now.digest (stored_of c.args.action.now) ask c.args.caller.now c.ask_state.new.caller c.ask_state.result)
    (sym c.in-NextOperation.is) (c.ask_state.ensures.turn c.args.action.now.digest (stored_of c.args.action.now))

pub returns-in-NextOperation-clause-reads : goal.returns-in-NextOperation-clause-reads
returns-in-NextOperation-clause-reads g c told =
    let files = c.args.action.now.job.files.now in
    let count = g.S.Sources.faults c.args.sources.now in
    read-none g.W.World g.S.Sources files c.args.sources.now (λ answers. HeardGives (IsOwnCause files answers count count told) c.ask_state.result)
    (c.ask_state.ensures.quiet files [] count count told)

pub returns-in-Wait-clause-turn : goal.returns-in-Wait-clause-turn
returns-in-Wait-clause-turn g c =
    subst (λ (ask : Ask). IsTurn g.W.World g.C.Caller c.args.action.now.digest (stored_of c.args.action.now) ask c.args.caller.now c.ask_wait.new.caller c.ask_wait.result)
    (sym c.in-Wait.is) (c.ask_wait.ensures.turn c.args.action.now.digest (stored_of c.args.action.now))

pub returns-in-Wait-clause-reads : goal.returns-in-Wait-clause-reads
returns-in-Wait-clause-reads g c told =
    let files = c.args.action.now.job.files.now in
    let count = g.S.Sources.faults c.args.sources.now in
    read-none g.W.World g.S.Sources files c.args.sources.now (λ answers. HeardGives (IsOwnCause files answers count count told) c.ask_wait.result)
    (c.ask_wait.ensures.quiet files [] count count told)

pub returns-in-Fetch-clause-reads : goal.returns-in-Fetch-clause-reads
returns-in-Fetch-clause-reads g c told =
    let files = c.args.action.now.job.files.now in
    let count = g.S.Sources.faults c.args.sources.now in
    read-none g.W.World g.S.Sources files c.args.sources.now (λ answers. HeardGives (IsOwnCause files answers count count told) c.bring.result)
    (c.bring.ensures.quiet files [] count count told)

use Rattle.std.proofs.Common.{◌≡◌, ◌-◌, ◌∷◌, [], ap, arith, get_or, length, length-append, sym}
use Rattle.std.proofs.lemmas.List.{get_or_push}
use Rattle.rx_daemon.specs.Threads.{number_of}
use Rattle.rx_daemon.proofs.SettleLemmas.{numbered}
use Rattle.rx_daemon.proofs.settling.bound.Goals as goal

pub returns-clause-numbered : goal.returns-clause-numbered
returns-clause-numbered g c = numbered _ _ c.requires.rights c.requires.rises (λ d.
    let items = c.in-Some.ensures.items in
    let last : length c.args.served.items - 1 ≡ length c.pop.new.self.items = omega (arith, ap length items, length-append c.pop.new.self.items (c.in-Some.last ∷ [])) in
    let at = ap (λ xs. number_of (get_or xs (length c.args.served.items - 1) d)) items in
    let is = ap number_of (get_or_push c.pop.new.self.items c.in-Some.last d (length c.args.served.items - 1) (sym last)) in
    omega (arith, at, is, c.if-number-count.false, c.len-count.ensures))

use Rattle.rx_hpack.specs.Header.{views}
use Rattle.rx_hpack.proofs.HeaderListLemmas.{kept_refused}
use Rattle.rx_hpack.proofs.header_list.HeaderList.push_copy.Goals as goal

pub returns-in_default : goal.returns-in_default
returns-in_default c =
    rw (← c.self.view_is) (kept_refused (views c.self.inside.headers.items) (record { name = c.args.name.now; value = c.args.value.now }) c.self.inside.size c.self.invariant.0 c.self.invariant.1 c.in_default.ensures)

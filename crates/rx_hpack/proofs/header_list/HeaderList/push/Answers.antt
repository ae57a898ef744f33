use Rattle.std.proofs.Common.{arith}
use Rattle.rx_hpack.specs.Header.{view, views}
use Rattle.rx_hpack.proofs.HeaderListLemmas.{kept_refused, kept_pushed, size_pushed}
use Rattle.rx_hpack.proofs.header_list.HeaderList.push.Goals as goal

pub returns-in_default : goal.returns-in_default
returns-in_default c =
    rw (← c.self.view_is) (kept_refused (views c.self.inside.headers.items) (view c.args.header) c.self.inside.size c.self.invariant.0 c.self.invariant.1
    (rw (c.deref.ensures.value, c.deref-2.ensures.value) at c.in_default.ensures))

pub invariant_of-self-2 : goal.invariant_of-self-2
invariant_of-self-2 c = (
  size_pushed c.self.inside.headers.items c.push.new.self.items c.args.header c.self.inside.size c.in-Some.size c.in_ok-push.ensures.items c.self.invariant.0
      (rw (c.deref.ensures.value, c.deref-2.ensures.value) at c.in-Some.ensures.1),
  omega (arith, c.in-Some.ensures.0, c.in-Some.ensures.1, c.self.invariant.1),
)

pub returns : goal.returns
returns c =
    rw (← c.self.view_is) (kept_pushed c.self.inside.headers.items c.push.new.self.items c.args.header c.self.inside.size c.in_ok-push.ensures.items c.self.invariant.0 c.self.invariant.1
    (rw (c.deref.ensures.value, c.deref-2.ensures.value) at c.in-Some.ensures.0))

use Rattle.std.proofs.Common.{rules}
use Rattle.std.proofs.lemmas.List.Sorted.{All-permutation, IsNonDecreasingBy-from_sort_by_key}
use Rattle.rx_daemon.specs.Rights.{IsRight}
use Rattle.rx_daemon.specs.Threads.{number_of}
use Rattle.rx_daemon.proofs.settling.settle.Goals as goal

pub tell_apart-requires-clause-rights : goal.tell_apart-requires-clause-rights
tell_apart-requires-clause-rights g c = All-permutation (λ s. IsRight g.K.Run.rights (number_of s) s.right) _ _ c.sort_unstable_by_key.ensures.permutation c.requires.rights

pub tell_apart-requires-clause-up : goal.tell_apart-requires-clause-up
tell_apart-requires-clause-up g c = IsNonDecreasingBy-from_sort_by_key (λ s. number_of s) _ c.sort_unstable_by_key.ensures.sorted (λ a r q k. search rules)

pub bound-requires-clause-rights : goal.bound-requires-clause-rights
bound-requires-clause-rights g c = rw c.tell_apart.ensures.same (All-permutation (λ s. IsRight g.K.Run.rights (number_of s) s.right) _ _ c.sort_unstable_by_key.ensures.permutation c.requires.rights)

pub bound-requires-clause-rises : goal.bound-requires-clause-rises
bound-requires-clause-rises g c = rw c.tell_apart.ensures.same c.tell_apart.ensures.rises

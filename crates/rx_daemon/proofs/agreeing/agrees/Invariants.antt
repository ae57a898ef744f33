use Rattle.std.proofs.Common.{◌≡◌, ◌<◌, ◌+◌, ℕ, get_or}
use Rattle.rx_board.specs.declared.journal.Entry.{Entry}
use Rattle.rx_daemon.specs.Agreeing.{IsToldIn}
use Rattle.rx_daemon.specs.Threads.{transcripts_of}
use Rattle.rx_daemon.proofs.agreeing.agrees.Given as goal

abbrev pub invariant-loop-i : goal.invariant-loop-i
invariant-loop-i g l = record {
  numbers : (k : ℕ) (e : Entry) → k < l.i → (get_or l.journal k e).number ≡ k + 1;
  told : (k : ℕ) (e : Entry) → k < l.i → IsToldIn (transcripts_of l.served) (get_or l.journal k e);
}

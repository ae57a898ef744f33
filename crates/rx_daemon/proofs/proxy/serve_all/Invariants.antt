use Rattle.std.proofs.Common.{◌≡◌, ◌≤◌, false, length}
use Rattle.rx_engine.specs.Meanings.{meanings}
use Rattle.rx_daemon.specs.Proxy.{Runs, is_asked_to_end}
use Rattle.rx_daemon.specs.Serves.{Serves}
use Rattle.rx_daemon.proofs.proxy.serve_all.Given as goal

abbrev pub invariant-loop-served : goal.invariant-loop-served
invariant-loop-served g l =
    let coming = g.F.Front.coming in
    let faults = g.F.Front.faults in
    let place = g.P.Place.faults in
    record {
      runs : Runs (coming l.fn.front) (coming l.front)
          (Serves (meanings g.W.World g.F.D.I.Source g.F.D.O.Sink g.F.D.T.Sources g.F.D.L.Sources g.F.D.B.BenchMaker g.F.D.B.B.Bench g.F.D.R.Sources g.F.D.C.Caller)
          g.F.D.Desk.parts l.fn.shared.root l.fn.shared.board.limit)
          l.fn.shared.board.journal l.shared.board.journal (place l.fn.shared.board.place) (place l.shared.board.place) l.desks.items l.transcripts.items;
      unasked : is_asked_to_end l.transcripts.items ≡ false;
      served_is : l.served ≡ length l.transcripts.items;
      later : faults l.fn.front ≤ faults l.front;
      root : l.shared.root ≡ l.fn.shared.root;
      limit : l.shared.board.limit ≡ l.fn.shared.board.limit;
      opening : g.P.Place.opening l.shared.board.place ≡ g.P.Place.opening l.fn.shared.board.place;
    }

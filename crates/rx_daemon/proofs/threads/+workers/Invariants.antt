use Rattle.std.proofs.Common.{◌+◌, ◌*◌}
use Rattle.rx_daemon.proofs.threads.+workers.Given as goal

abbrev pub decreases-work_all : goal.decreases-work_all
decreases-work_all g l = 2 * l.threads

abbrev pub decreases-front : goal.decreases-front
decreases-front g l = 2 * l.low + 1

abbrev pub decreases-back : goal.decreases-back
decreases-back g l = 2 * l.high + 1

-- Calls that weren't made for want of memory.
use Rattle.std.proofs.Common.{ℕ, List, Option, None, Some, Err, le_refl}
use Rattle.rx_world.specs.Links.{Wire}
use Rattle.rx_world.specs.declared.links.Link as links
use Rattle.rx_grpc.specs.declared.transfer_fault.TransferFault.TheVariants.{NoMemory}
use Rattle.rx_grpc.specs.Caller.{Hears}
use Rattle.rx_grpc.specs.Channel.{ChannelOf, Fails}
use Rattle.rx_grpc.specs.Questions.{Asked}
use Rattle.rx_grpc.specs.Replies.{Heard}
use Rattle.rx_grpc.specs.Transport.{TransportOf}
use Rattle.rx_grpc.proofs.KeepLemmas.{keeps-all}

fails-not : {L : Type 0} (wire : L → Option Wire) (rule : L → List ℕ → List ℕ → Type 0) (old new : Option (TransportOf L)) → Fails wire rule old new NoMemory
fails-not wire rule old None = tt
fails-not wire rule old (Some t) = tt

pub unheard : {D L : Type 0} (dial : D → ℕ) (rule : D → List ℕ → List ℕ → Type 0) (link : links.Ghosts L) (asked : Asked) (channel : ChannelOf D L) (IsSuch : Heard → Type 0) → IsSuch (Err NoMemory) → Hears dial rule link asked channel channel IsSuch
unheard dial rule link asked channel IsSuch is = record {
  heard = Err NoMemory;
  shown = tt;
  asks = tt;
  fails = fails-not link.wire link.rule channel.transport channel.transport;
  stops = tt;
  cause = record { later = le_refl _; failed = λ e. absurd cc };
  keeps = keeps-all rule channel;
  ruled = tt;
  is_such = is;
}

-- What was asked, by equal questions.
use Rattle.std.proofs.Common.{◌≡◌, ℕ, List, Result, subst}
use Rattle.rx_world.specs.declared.links.Link as links
use Rattle.rx_grpc.specs.declared.transfer_fault.TransferFault.{TransferFault}
use Rattle.rx_grpc.specs.Caller.{Hears}
use Rattle.rx_grpc.specs.Channel.{ChannelOf}
use Rattle.rx_grpc.specs.Questions.{Asked}
use Rattle.rx_grpc.specs.Replies.{Heard}
use Rattle.rx_grpc.specs.StreamedCalls.{Came, HearsItems}

pub hears-same : {D L : Type 0} (dial : D → ℕ) (rule : D → List ℕ → List ℕ → Type 0) (link : links.Ghosts L) (asked named : Asked) (old new : ChannelOf D L) (IsSuch : Heard → Type 0) → asked ≡ named → Hears dial rule link asked old new IsSuch → Hears dial rule link named old new IsSuch
hears-same dial rule link asked named old new IsSuch e h = subst (λ (a : Asked). Hears dial rule link a old new IsSuch) e h

pub items-same : {D L : Type 0} (dial : D → ℕ) (rule : D → List ℕ → List ℕ → Type 0) (link : links.Ghosts L) (asked named : Asked) (old new : ChannelOf D L) (IsSuch : Result (Unit {0}) TransferFault → List Came → Type 0) → asked ≡ named → HearsItems dial rule link asked old new IsSuch → HearsItems dial rule link named old new IsSuch
items-same dial rule link asked named old new IsSuch e h = subst (λ (a : Asked). HearsItems dial rule link a old new IsSuch) e h

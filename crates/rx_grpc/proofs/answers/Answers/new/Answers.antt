use Rattle.rx_grpc.specs.Answer.{unary}
use Rattle.rx_grpc.specs.Item.{item_behind}
use Rattle.rx_grpc.proofs.UseLemmas.{of_events, unary_stays, front_shows}
use Rattle.rx_grpc.proofs.ItemLemmas.{item_stays}
use Rattle.rx_grpc.proofs.FramedLemmas.{reads_back}
use Rattle.rx_grpc.proofs.answers.Answers.new.Goals as goal

pub returns-clause-events : goal.returns-clause-events
returns-clause-events c = of_events _

pub returns-clause-stays : goal.returns-clause-stays
returns-clause-stays c = unary_stays _

pub returns-clause-bytes : goal.returns-clause-bytes
returns-clause-bytes c = λ id front more. front_shows unary _ id front more (unary_stays _)

pub returns-clause-items : goal.returns-clause-items
returns-clause-items c = λ place id front more. front_shows (item_behind place) _ id front more (item_stays place _)

pub returns-clause-framed : goal.returns-clause-framed
returns-clause-framed c = reads_back

-- Messages of a body, given one after another.
use Rattle.std.proofs.Common.{◌≡◌, ◌≤◌, ℕ, Bool, true, not, List, [], length, nat_eq, ◌∙◌, arith, Option}
use Rattle.std.proofs.lemmas.Bool.{eqb-true}
use Rattle.std.proofs.lemmas.List.{nil_from_length}
use Rattle.rx_h2conn.proofs.ListLemmas.{and_true}
use Rattle.rx_h2conn.specs.Session.{Reading}
use Rattle.rx_world.specs.Links.{Wire, SameRule}
use Rattle.rx_grpc.specs.declared.open_call.OpenCall.{OpenCall}
use Rattle.rx_grpc.specs.Conversation.{Gives, IsOpen}
use Rattle.rx_grpc.specs.Moves.{Carries, IsDrained}
use Rattle.rx_grpc.specs.Request.{RequestOf, is_idle}
use Rattle.rx_grpc.specs.Sent.{IsToSend, StillAsks}
use Rattle.rx_grpc.proofs.AskingLemmas.{asking_refilled}
use Rattle.rx_grpc.proofs.TalkLemmas.{carries_trans}

-- what is kept from message to message
pub record IsGiving (w0 w : Option Wire) (r0 r : List ℕ → List ℕ → Type 0) (ended : Bool) (start conn : Reading) (first o : OpenCall) (k0 k : ℕ) (x0 x : List (List ℕ)) : Type 0 where
  pub open_still : IsOpen w r ended conn o
  pub drained : IsDrained conn.state
  pub gives : Gives first o
  pub carries : Carries w0 w start conn first.room o.room
  pub rule : SameRule r0 r
  pub later : k0 ≤ k
  pub asks : StillAsks w0 w r0 r start conn first o x0 x

pub gives_trans : (a b c : OpenCall) → Gives a b → Gives b c → Gives a c
gives_trans a b c p q = record { id = q.id ∙ p.id; answers = q.answers ∙ p.answers; place = q.place ∙ p.place; away = q.away ∙ p.away; room = q.room ∙ p.room; came = q.came ∙ p.came }

pub giving_goes_on : (w0 w n : Option Wire) (r0 r m : List ℕ → List ℕ → Type 0) (ended still : Bool) (start conn next : Reading) (first o now : OpenCall) (request : RequestOf) (k0 k j : ℕ) (x0 x y : List (List ℕ)) → IsGiving w0 w r0 r ended start conn first o k0 k x0 x → IsOpen n m still next now → IsDrained next.state → Gives (record o { request = request }) now → Carries w n conn next o.room now.room → SameRule r m → k ≤ j → o.request.left ≡ [] → IsToSend request y x → ((coming : List (List ℕ)) → StillAsks w n r m conn next (record o { request = request }) now coming coming) → IsGiving w0 n r0 m still start next first now k0 j x0 y
giving_goes_on w0 w n r0 r m ended still start conn next first o now request k0 k j x0 x y t opened drained two moved rule later empty send asks = record {
  open_still = opened;
  drained = drained;
  gives = gives_trans first o now t.gives (record { id = two.id; answers = two.answers; place = two.place; away = two.away; room = two.room; came = two.came });
  carries = carries_trans w0 w n start conn next first.room o.room now.room t.carries moved;
  rule = λ s y. ((λ p. (rule s y).0 ((t.rule s y).0 p)), (λ p. (t.rule s y).1 ((rule s y).1 p)));
  later = omega (arith, t.later, later);
  asks = λ fields messages given a. asks y fields messages given (asking_refilled w r conn o request x y fields messages given (t.asks fields messages given a) empty send);
}

pub idle_left : (request : RequestOf) → is_idle request ≡ true → request.left ≡ []
idle_left request is = nil_from_length request.left (eqb-true (length request.left) 0 (and_true (nat_eq (length request.left) 0) (not request.last) is).0)

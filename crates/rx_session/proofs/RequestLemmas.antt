-- Requests read of their messages.
use Rattle.std.proofs.Common.{◌≡◌, ℕ, ◌==◌, Bool, true, false, List, [], ◌∷◌, map, Result, Ok, Err, refl, ap, subst}
use Rattle.std.specs.Prelude.{IfOk}
use Rattle.std.specs.Str.{bytes_eq}
use Rattle.rx_base.proofs.ByteLists.{bytes_eq-itself}
use Rattle.rx_codec.specs.Contents.{number_of_truth}
use Rattle.rx_codec.specs.Decoding.{any_form, decoded}
use Rattle.rx_world.specs.declared.commands.Kind.{Kind}
use Rattle.rx_world.specs.declared.commands.Kind.TheVariants as kinds
use Rattle.rx_world.specs.declared.commands.Pair.{Pair}
use Rattle.rx_world.specs.declared.commands.Strategy.{Strategy}
use Rattle.rx_world.specs.declared.commands.Strategy.TheVariants as strategies
use Rattle.rx_session.specs.declared.raw_request.RawRequest.{RawRequest}
use Rattle.rx_session.specs.declared.requests.Request.{Request}
use Rattle.rx_session.specs.Frames.{payload_request}
use Rattle.rx_session.specs.Messages.{pair_in, pair_message, raw_request_from, raw_request_is_readable, raw_request_of, raw_request_parts}
use Rattle.rx_session.specs.RequestMessages.{IsServed, request_kind_number, request_message, strategy_number}
use Rattle.rx_session.specs.Rules.{kind_of, request_by, request_from, strategy_of}

pub pairs_again : (pairs : List Pair) → map pair_in (map pair_message pairs) ≡ pairs
pairs_again [] = refl
pairs_again (pair ∷ pairs) = ap (λ (others : List Pair). pair ∷ others) (pairs_again pairs)

strategy_again : (strategy : Strategy) → strategy_of (strategy_number strategy) ≡ strategy
strategy_again strategies.Local = refl
strategy_again strategies.Remote = refl
strategy_again strategies.RemoteLocalFallback = refl
strategy_again strategies.Racing = refl

kind_again : (kind : Kind) → kind_of (request_kind_number kind) ≡ kind
kind_again kinds.Tool = refl
kind_again kinds.Compile = refl

flag_again : (flag : Bool) → (number_of_truth flag == 1) ≡ flag
flag_again true = refl
flag_again false = refl

request_again : (request : Request) → request_from (request_message request) ≡ request
request_again request = rw (strategy_again request.strategy, kind_again request.kind, flag_again request.accept_cached, flag_again request.watch, flag_again request.in_place) refl

message_again : (root : List ℕ) (request : Request) → IsServed root request → request_by root (request_message request) ≡ Ok request
unfolding request_by
message_again root request s =
    let same : bytes_eq request.root root ≡ true = rw s.same_root (bytes_eq-itself root) in
    rw (same, s.rules) (ap Ok (request_again request))

-- a payload that its message is read of again
payload_again : (root : List ℕ) (request : Request) (message : RawRequest) (payload : List ℕ) → message ≡ request_message request
    → (raw_request_is_readable message → decoded raw_request_parts raw_request_from any_form payload ≡ Ok message) → IsServed root request → payload_request root payload ≡ Ok request
unfolding payload_request raw_request_of
payload_again root request message payload e read s =
    let again : decoded raw_request_parts raw_request_from any_form payload ≡ Ok (request_message request) =
    subst (λ (m : RawRequest). decoded raw_request_parts raw_request_from any_form payload ≡ Ok m) e (read tt) in
    rw again (message_again root request s)

pub payloads_again : {X E : Type 0} (view : X → List ℕ) (r : Result X E) (request : Request) (message : RawRequest) → message ≡ request_message request
    → IfOk r (λ x. raw_request_is_readable message → decoded raw_request_parts raw_request_from any_form (view x) ≡ Ok message)
    → IfOk r (λ x. (root : List ℕ) → IsServed root request → payload_request root (view x) ≡ Ok request)
payloads_again view (Ok x) request message e read = λ root s. payload_again root request message (view x) e read s
payloads_again view (Err fault) request message e read = tt

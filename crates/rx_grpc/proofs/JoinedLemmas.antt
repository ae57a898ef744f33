-- The bytes of a blob that were read as a stream are those that its messages join to.
use Rattle.std.proofs.Common.{◌≡◌, ℕ, true, false, List, [], ◌∷◌, ◌++◌, map, length, append_assoc, refl, ap, ◌∙◌, Option, Some, Result, Ok, Err, IfOk}
use Rattle.std.specs.Option.{option_map_or}
use Rattle.std.proofs.lemmas.List.{map-append}
use Rattle.rx_base.specs.Results.{◌>>=◌, Gives}
use Rattle.rx_base.specs.declared.digests.Digest.{Digest}
use Rattle.rx_codec.specs.Decoding.{any_form, decoded}
use Rattle.rx_exec_messages.specs.Calls.{AreBlobs}
use Rattle.rx_exec_messages.specs.Streams.{read_response_from, read_response_parts}
use Rattle.rx_exec_messages.specs.declared.streams.ReadResponse.{ReadResponse}
use Rattle.rx_world.specs.declared.call_faults.CallFault.{CallFault}
use Rattle.rx_world.specs.declared.call_faults.CallFault.TheVariants.{NoMemory}
use Rattle.rx_world.specs.declared.links.Link as links
use Rattle.rx_grpc.specs.declared.stream_item.StreamItem.TheVariants as StreamItems
use Rattle.rx_grpc.specs.declared.transfer_fault.TransferFault.{TransferFault}
use Rattle.rx_grpc.specs.Caller.{CallerOf}
use Rattle.rx_grpc.specs.Channel.{ChannelOf, stream_for}
use Rattle.rx_grpc.specs.Heard.{Heard}
use Rattle.rx_grpc.specs.Honest.{Always, AnswersHonestly, HonestTexts, IfJoined}
use Rattle.rx_grpc.specs.Item.{item_behind}
use Rattle.rx_grpc.specs.Questions.{Asked, asks_blob}
use Rattle.rx_grpc.specs.Replies.{read}
use Rattle.rx_grpc.specs.Request.{request_fields}
use Rattle.rx_grpc.specs.Sent.{AsksOn}
use Rattle.rx_grpc.specs.StreamedCalls.{Came, GoesOnBy, HearsItems, IsBegun, came_of, joined, joined_of}
use Rattle.rx_grpc.proofs.CarriedLemmas.{IsCarried, by-always, carried, carried-under, next-on, whole-shown}
use Rattle.rx_grpc.proofs.HonestLemmas.{each-genuine}
use Rattle.rx_grpc.proofs.RefusedLemmas.{ok-by}

-- an answer that is whole was shown, behind messages that join to this text
record IsWhole (rule : List ℕ → List ℕ → Type 0) (authority : List ℕ) (asked : Asked) (text : List ℕ) : Type 0 where
  given : List (List ℕ)
  shown : IsCarried (item_behind (length given)) rule authority asked given (StreamItems.Success false)
  joins : joined [] (map came_of given ++ Ok (StreamItems.Success false) ∷ []) ≡ Ok text

message-joined : (r : Result ReadResponse CallFault) (text whole : List ℕ) (items : List Came)
    → ((r >>= (λ (x : ReadResponse). Ok (Some (text ++ x.body)))) >>= (λ (next : Option (List ℕ)). option_map_or (λ more. joined more items) next (Ok text))) ≡ Ok whole
    → (x : ReadResponse) × ((r ≡ Ok x) × (joined (text ++ x.body) items ≡ Ok whole))
message-joined (Ok x) text whole items e = (x, (refl, e))
message-joined (Err fault) text whole items e = absurd cc

-- the messages so far and one more
one-more : (given : List (List ℕ)) (message text next : List ℕ) → ((more : List Came) → joined [] (map came_of given ++ more) ≡ joined text more) → ((more : List Came) → joined text (came_of message ∷ more) ≡ joined next more)
    → (more : List Came) → joined [] (map came_of (given ++ message ∷ []) ++ more) ≡ joined next more
one-more given message text next so_far on more =
    ap (λ (x : List Came). joined [] (x ++ more)) (map-append came_of given (message ∷ []))
    ∙ (ap (λ (x : List Came). joined [] x) (append_assoc (map came_of given) (came_of message ∷ []) more)
    ∙ (so_far (came_of message ∷ more) ∙ on more))

joined-with : (message text : List ℕ) (x : ReadResponse) → read (decoded read_response_parts read_response_from any_form message) ≡ Ok x → (more : List Came) → joined text (came_of message ∷ more) ≡ joined (text ++ x.body) more
joined-with message text x is more = rw is refl

whole-of : {D L : Type 0} (rule : D → List ℕ → List ℕ → Type 0) (link : links.Ghosts L) (c new : ChannelOf D L) (id : ℕ) (authority : List ℕ) (asked : Asked) (given : List (List ℕ)) (text whole : List ℕ) (items : List Came)
    → ((more : List Came) → joined [] (map came_of given ++ more) ≡ joined text more)
    → GoesOnBy rule link c new items → AsksOn link.wire link.rule c.transport id (request_fields asked.path authority) asked.messages given → joined text items ≡ Ok whole → IsWhole (rule c.dial) authority asked whole
whole-of rule link c new id authority asked given text whole [] so_far goes asks e = absurd cc
whole-of rule link c new id authority asked given text whole (Ok (StreamItems.Message message) ∷ items) so_far goes asks e =
    let on = next-on link c.transport goes.0.transport (StreamItems.Message message) id authority asked given goes.1.asks asks in
    let m = message-joined (read (decoded read_response_parts read_response_from any_form message)) text whole items e in
    let more = one-more given message text (text ++ m.0.body) so_far (joined-with message text m.0 m.1.0) in
    let is = whole-of rule link goes.0 new id authority asked (given ++ message ∷ []) (text ++ m.0.body) whole items more goes.2 (on.1 refl) m.1.1 in
    record {
      given = is.given;
      shown = carried-under (item_behind (length is.given)) (rule c.dial) (rule goes.0.dial) authority asked is.given (StreamItems.Success false) goes.1.keeps.same_rule is.shown;
      joins = is.joins;
    }
whole-of rule link c new id authority asked given text whole (Ok (StreamItems.Success false) ∷ items) so_far goes asks e =
    let on = next-on link c.transport goes.0.transport (StreamItems.Success false) id authority asked given goes.1.asks asks in
    record {
      given = given;
      shown =
          carried-under (item_behind (length given)) (rule c.dial) (rule goes.0.dial) authority asked given (StreamItems.Success false) goes.1.keeps.same_rule
          (carried (item_behind (length given)) rule link goes.0.dial goes.0.transport id authority asked given (StreamItems.Success false) goes.1.ruled on.0);
      joins = so_far (Ok (StreamItems.Success false) ∷ []) ∙ e;
    }
whole-of rule link c new id authority asked given text whole (Ok (StreamItems.Success true) ∷ items) so_far goes asks e = absurd cc
whole-of rule link c new id authority asked given text whole (Ok (StreamItems.Status code) ∷ items) so_far goes asks e = absurd cc
whole-of rule link c new id authority asked given text whole (Ok StreamItems.Compressed ∷ items) so_far goes asks e = absurd cc
whole-of rule link c new id authority asked given text whole (Ok StreamItems.TooLarge ∷ items) so_far goes asks e = absurd cc
whole-of rule link c new id authority asked given text whole (Ok StreamItems.NoStatus ∷ items) so_far goes asks e = absurd cc
whole-of rule link c new id authority asked given text whole (Ok StreamItems.LinkEnd ∷ items) so_far goes asks e = absurd cc
whole-of rule link c new id authority asked given text whole (Err fault ∷ items) so_far goes asks e = absurd cc

-- ---- the whole call

text-of : {D L : Type 0} (faults : D → ℕ) (rule : D → List ℕ → List ℕ → Type 0) (link : links.Ghosts L) (asked : Asked) (old opened new : ChannelOf D L) (begun : Result (Unit {0}) TransferFault) (items : List Came) (IsSuch : List ℕ → Type 0) (P : Asked → Heard → Type 0)
    → IsBegun faults rule link asked old opened begun → GoesOnBy rule link opened new items → Always (rule old.dial) old.authority P → ((heard : Heard) → P asked heard → IfJoined IsSuch heard)
    → (given : Result (List ℕ) CallFault) → joined_of begun items ≡ given → IfOk given IsSuch
text-of faults rule link asked old opened new begun items IsSuch P is goes all pick (Err fault) e = tt
text-of faults rule link asked old opened new (Err lost) items IsSuch P is goes all pick (Ok text) e = absurd cc
text-of faults rule link asked old opened new (Ok x) items IsSuch P is goes all pick (Ok text) e =
    let whole = whole-of rule link opened new (stream_for old.transport) old.authority asked [] [] text items (λ more. refl) goes is.asks e in
    let shown = carried-under (item_behind (length whole.given)) (rule old.dial) (rule opened.dial) old.authority asked whole.given (StreamItems.Success false) is.keeps.same_rule whole.shown in
    whole-shown (rule old.dial) old.authority asked whole.given text IsSuch shown whole.joins (pick shown.heard_is (by-always (item_behind (length whole.given)) (rule old.dial) old.authority asked whole.given (StreamItems.Success false) P all shown))

pub blob-honest : {D L : Type 0} (faults : D → ℕ) (rule : D → List ℕ → List ℕ → Type 0) (link : links.Ghosts L) (c : CallerOf D L) (new : ChannelOf D L) (digest : Digest) (result : Result (List ℕ) CallFault)
    → HearsItems faults rule link (asks_blob c.instance digest) c.channel new (λ begun items. Gives NoMemory (λ (x : List ℕ). x) result (joined_of begun items))
    → IfOk result (λ text. HonestTexts rule c (digest ∷ []) (text ∷ []))
blob-honest rule_faults rule link c new digest result h =
    each-genuine rule c (digest ∷ []) (λ (text : List ℕ). text ∷ []) result (λ blob operation dialect genuine.
    ok-by (λ text. AreBlobs blob (digest ∷ []) (text ∷ [])) result (joined_of h.begun h.items) h.is_such
    (text-of rule_faults rule link (asks_blob c.instance digest) c.channel h.opened new h.begun h.items (λ text. AreBlobs blob (digest ∷ []) (text ∷ [])) (AnswersHonestly blob operation dialect c.instance) h.is_begun h.goes_on genuine (λ heard honest. honest.blobs digest refl) (joined_of h.begun h.items) refl))

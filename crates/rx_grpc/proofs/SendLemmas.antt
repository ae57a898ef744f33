-- Whole calls on a transport and on a channel, by what was asked on their streams.
use Rattle.std.proofs.Common.{◌≡◌, ℕ, Bool, true, false, List, [], ◌∷◌, append-nil, length, refl, sym, ap, subst, ◌∙◌, Option, Some, Result, Ok, Err, IfOk}
use Rattle.rx_hpack.specs.Header.{Field}
use Rattle.rx_h2conn.specs.Session.{Reading}
use Rattle.rx_world.specs.Links.{Wire}
use Rattle.rx_grpc.specs.declared.open_call.OpenCall.{OpenCall}
use Rattle.rx_grpc.specs.declared.stream_item.StreamItem.{StreamItem}
use Rattle.rx_grpc.specs.declared.transfer_fault.TransferFault.{TransferFault}
use Rattle.rx_grpc.specs.Channel.{OpensOn, stream_for}
use Rattle.rx_grpc.specs.Framing.{framed}
use Rattle.rx_grpc.specs.Heard.{Heard, nothing}
use Rattle.rx_grpc.specs.Item.{is_message, item_behind}
use Rattle.rx_grpc.specs.Request.{RequestOf}
use Rattle.rx_grpc.specs.Sent.{AskedOn, AsksBy, Concludes, IsAnswered, IsAsked, IsAsking, IsToSend, Handing, NextAsks, SendsHeaders, given_after}
use Rattle.rx_grpc.specs.Transport.{TransportOf}
use Rattle.rx_grpc.proofs.AskLemmas.{asking_starts, sends_headers}

-- a request of one message
pub sends_one : (request : RequestOf) (message : List ℕ) → request.left ≡ framed (message ∷ []) → IsToSend request [] (message ∷ [])
sends_one request message is = record { rest = append-nil request.left ∙ is; last = λ _. refl }

pub asked_in : {L : Type 0} (wire : L → Option Wire) (rule : L → List ℕ → List ℕ → Type 0) (t u : TransportOf L) (id : ℕ) (fields : List Field) → t ≡ u → IsAsked (wire u.link) (rule u.link) u.conn id fields → IsAsked (wire t.link) (rule t.link) t.conn id fields
asked_in wire rule t u id fields is a = subst (λ x. IsAsked (wire x.link) (rule x.link) x.conn id fields) (sym is) a

-- the call that is made on a stream that was opened
pub asking_new : (w : Option Wire) (r : List ℕ → List ℕ → Type 0) (c : Reading) (o : OpenCall) (id : ℕ) (request : RequestOf) (coming : List (List ℕ)) (fields : List Field) (messages : List (List ℕ)) → IsAsked w r c id fields → IsToSend request coming messages → o.call.id ≡ id → o.call.answers ≡ nothing → o.call.place ≡ 0 → o.call.away ≡ false → o.request ≡ request → IsAsking w r c o coming fields messages []
asking_new w r c o id request coming fields messages asked send same new place away is =
    asking_starts w r c o id fields coming messages asked same new place away (subst (λ (x : RequestOf). IsToSend x coming messages) (sym is) send)

pub concludes_new : {A : Type 0} (look : Bool → Heard → Option A) (w0 w : Option Wire) (r0 r : List ℕ → List ℕ → Type 0) (ended : Bool) (c d : Reading) (o : OpenCall) (id : ℕ) (request : RequestOf) (coming : List (List ℕ)) (answer : A) (fields : List Field) (messages : List (List ℕ)) → Concludes look w0 w r0 r ended c d o coming answer → IsAsked w0 r0 c id fields → IsToSend request coming messages → o.call.id ≡ id → o.call.answers ≡ nothing → o.call.place ≡ 0 → o.call.away ≡ false → o.request ≡ request → IsAnswered look w r ended d id fields messages [] answer
concludes_new look w0 w r0 r ended c d o id request coming answer fields messages h asked send same new place away is =
    subst (λ (i : ℕ). IsAnswered look w r ended d i fields messages [] answer) same (h fields messages [] (asking_new w0 r0 c o id request coming fields messages asked send same new place away is))

-- and the next item of one whose answer is streamed
pub next_asks : {L : Type 0} (wire : L → Option Wire) (rule : L → List ℕ → List ℕ → Type 0) (ended : L → Bool) (t u : TransportOf L) (o n : OpenCall) (item : StreamItem) → t.call ≡ Some o → Concludes (item_behind o.call.place) (wire t.link) (wire u.link) (rule t.link) (rule u.link) (ended u.link) t.conn u.conn o [] item → Handing (wire t.link) (wire u.link) (rule t.link) (rule u.link) t.conn u.conn o n item → n.call.id ≡ o.call.id → (is_message item ≡ true → u.call ≡ Some n) → NextAsks wire rule ended t u item
next_asks wire rule ended t u o n item is concludes handing same left id fields messages given h =
    let was = subst (λ (x : Option OpenCall). AsksBy (wire t.link) (rule t.link) t.conn x id fields messages given) is h in
    let asking = was.1 in
    let place : o.call.place ≡ length given = sym asking.hears.count ∙ ap length asking.given_is in
    let here = concludes fields messages given asking in (
      subst (λ (i : ℕ). IsAnswered (item_behind (length given)) (wire u.link) (rule u.link) (ended u.link) u.conn i fields messages given item) was.0
          (subst (λ (p : ℕ). IsAnswered (item_behind p) (wire u.link) (rule u.link) (ended u.link) u.conn o.call.id fields messages given item) place here),
      λ message. subst (λ (x : Option OpenCall). AsksBy (wire u.link) (rule u.link) u.conn x id fields messages (given_after item given)) (sym (left message)) (same ∙ was.0, handing fields messages given asking),
    )

-- of a call whose stream was opened on a channel
pub answers_call : {A L : Type 0} (look : Bool → Heard → Option A) (wire : L → Option Wire) (rule : L → List ℕ → List ℕ → Type 0) (ended : L → Bool) (faults : L → ℕ) (old now : Option (TransportOf L)) (t u : TransportOf L) (id : ℕ) (fields list : List Field) (request : RequestOf) (coming messages : List (List ℕ)) (result : Result A TransferFault) → now ≡ Some t → fields ≡ list → OpensOn wire rule ended faults old now id → AskedOn wire rule now fields id → IsToSend request coming messages → IfOk result (λ answer. (all : List Field) (whole : List (List ℕ)) → IsAsked (wire t.link) (rule t.link) t.conn id all → IsToSend request coming whole → IsAnswered look (wire u.link) (rule u.link) (ended u.link) u.conn id all whole [] answer) → IfOk result (IsAnswered look (wire u.link) (rule u.link) (ended u.link) u.conn (stream_for old) list messages [])
answers_call look wire rule ended faults old now t u id fields list request coming messages (Ok x) is same o a send h =
    let opens = subst (λ y. OpensOn wire rule ended faults old y id) is o in
    let asked = subst (λ y. AskedOn wire rule y fields id) is a in
    subst (λ (i : ℕ). IsAnswered look (wire u.link) (rule u.link) (ended u.link) u.conn i list messages [] x) opens.stream
    (subst (λ (f : List Field). IsAnswered look (wire u.link) (rule u.link) (ended u.link) u.conn id f messages [] x) same (h fields messages asked send))
answers_call look wire rule ended faults old now t u id fields list request coming messages (Err e) is same o a send h = tt

-- and of one that was begun
pub begins_call : {L : Type 0} (wire : L → Option Wire) (rule : L → List ℕ → List ℕ → Type 0) (ended : L → Bool) (faults : L → ℕ) (old now : Option (TransportOf L)) (t u : TransportOf L) (id : ℕ) (fields list : List Field) (request : RequestOf) (messages : List (List ℕ)) → now ≡ Some t → fields ≡ list → OpensOn wire rule ended faults old now id → AskedOn wire rule now fields id → IsToSend request [] messages → u.link ≡ t.link → u.conn ≡ t.conn → ((all : List Field) (whole : List (List ℕ)) → IsAsked (wire t.link) (rule t.link) t.conn id all → IsToSend request [] whole → AsksBy (wire u.link) (rule u.link) u.conn u.call id all whole []) → SendsHeaders (wire u.link) u.conn (stream_for old) list × AsksBy (wire u.link) (rule u.link) u.conn u.call (stream_for old) list messages []
begins_call wire rule ended faults old now t u id fields list request messages is same o a send link conn h =
    let opens = subst (λ y. OpensOn wire rule ended faults old y id) is o in
    let asked = subst (λ y. AskedOn wire rule y fields id) is a in
    let headers : SendsHeaders (wire u.link) u.conn id fields = rw (link, conn) (sends_headers (wire t.link) (rule t.link) t.conn id fields asked) in (
      subst (λ (i : ℕ). SendsHeaders (wire u.link) u.conn i list) opens.stream (subst (λ (f : List Field). SendsHeaders (wire u.link) u.conn id f) same headers),
      subst (λ (i : ℕ). AsksBy (wire u.link) (rule u.link) u.conn u.call i list messages []) opens.stream (subst (λ (f : List Field). AsksBy (wire u.link) (rule u.link) u.conn u.call id f messages []) same (h fields messages asked send)),
    )

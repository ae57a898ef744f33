-- What a client answers where it vouches, and where it is genuine, by its calls of one message; and that both stay.
use Rattle.std.proofs.Common.{◌≡◌, ℕ, List, [], refl, sym, subst, Option, None, Some, Result, Ok, Err, IfOk, IfSome}
use Rattle.rx_base.specs.Results.{Gives}
use Rattle.rx_base.specs.declared.digests.Digest.{Digest}
use Rattle.rx_messages.specs.declared.results.ActionResult.{ActionResult}
use Rattle.rx_results.specs.Agreement.{Agrees}
use Rattle.rx_exec_messages.specs.Calls.{AreBlobs}
use Rattle.rx_exec_messages.specs.Dialects.{dialect_of}
use Rattle.rx_exec_messages.specs.declared.answers.Capabilities.{Capabilities}
use Rattle.rx_world.specs.Links.{SameRule}
use Rattle.rx_world.specs.declared.call_faults.CallFault.{CallFault}
use Rattle.rx_world.specs.declared.call_faults.CallFault.TheVariants.{NoMemory}
use Rattle.rx_world.specs.declared.commands.Command.{Command}
use Rattle.rx_world.specs.declared.links.Link as links
use Rattle.rx_world.specs.declared.outcomes.Outcome.{Outcome}
use Rattle.rx_world.specs.declared.versions.Dialect.{Dialect}
use Rattle.rx_grpc.specs.declared.transfer_fault.TransferFault.{TransferFault}
use Rattle.rx_grpc.specs.declared.transfer_fault.TransferFault.TheVariants as Transfers
use Rattle.rx_grpc.specs.Answer.{unary}
use Rattle.rx_grpc.specs.Caller.{CallerOf, Hears}
use Rattle.rx_grpc.specs.Channel.{ChannelOf, IsRuled, Keeps, stream_for}
use Rattle.rx_grpc.specs.Heard.{Heard}
use Rattle.rx_grpc.specs.Honest.{Always, AnswersHonestly, HonestResult, HonestTexts, HonestVersions, IfAnswered, IsGenuineBy, ResultsAgree, StaysHonest, VouchesBy}
use Rattle.rx_grpc.specs.Questions.{Asked, asks_capabilities, asks_read, asks_result}
use Rattle.rx_grpc.specs.Replies.{Heard as Replied}
use Rattle.rx_grpc.specs.Request.{request_fields}
use Rattle.rx_grpc.specs.Results.{capabilities_by, found_by, read_by}
use Rattle.rx_grpc.specs.Sent.{AnsweredOn}
use Rattle.rx_grpc.proofs.CarriedLemmas.{by-always, carried, carried-under}
use Rattle.rx_grpc.proofs.RefusedLemmas.{ok-by}

-- ---- a call of one message

-- without an answer there is no value
abbrev pub NoneOf : {T : Type 0} → (Replied → Result T CallFault) → (T → Type 0) → Type 0
NoneOf value IsSuch = (fault : TransferFault) → IfOk (value (Err fault)) IsSuch

answer-by : {D L T : Type 0} (rule : D → List ℕ → List ℕ → Type 0) (link : links.Ghosts L) (asked : Asked) (old new : ChannelOf D L) (value : Replied → Result T CallFault) (IsSuch : T → Type 0) (P : Asked → Heard → Type 0) (heard : Replied)
    → Keeps rule old new
    → IfOk heard (AnsweredOn unary link.wire link.rule link.ended new.transport (stream_for old.transport) (request_fields asked.path old.authority) asked.messages [])
    → IfOk heard (λ answer. IsRuled (rule new.dial) link.rule new.transport)
    → NoneOf value IsSuch → Always (rule old.dial) old.authority P → ((h : Heard) → P asked h → IfAnswered value IsSuch h) → IfOk (value heard) IsSuch
answer-by rule link asked old new value IsSuch P (Ok answer) keeps asks ruled none all pick =
    let e = carried-under unary (rule old.dial) (rule new.dial) old.authority asked [] answer keeps.same_rule (carried unary rule link new.dial new.transport (stream_for old.transport) old.authority asked [] answer ruled asks) in
    pick e.heard_is (by-always unary (rule old.dial) old.authority asked [] answer P all e) e.ended answer e.shows
answer-by rule link asked old new value IsSuch P (Err fault) keeps asks ruled none all pick = none fault

answer-is : {D L T : Type 0} (faults : D → ℕ) (rule : D → List ℕ → List ℕ → Type 0) (link : links.Ghosts L) (asked : Asked) (old new : ChannelOf D L) (value : Replied → Result T CallFault) (IsSuch : T → Type 0) (P : Asked → Heard → Type 0) (result : Result T CallFault)
    → Hears faults rule link asked old new (λ heard. Gives NoMemory (λ (x : T). x) result (value heard))
    → NoneOf value IsSuch → Always (rule old.dial) old.authority P → ((heard : Heard) → P asked heard → IfAnswered value IsSuch heard) → IfOk result IsSuch
answer-is faults rule link asked old new value IsSuch P result h none all pick =
    ok-by IsSuch result (value h.heard) h.is_such (answer-by rule link asked old new value IsSuch P h.heard h.keeps h.asks h.ruled none all pick)

-- ---- kept results

none-found : (IsSuch : Option ActionResult → Type 0) → NoneOf found_by IsSuch
none-found IsSuch Transfers.Link = tt
none-found IsSuch (Transfers.Protocol code) = tt
none-found IsSuch Transfers.NoMemory = tt

each-vouched : {D L : Type 0} (rule : D → List ℕ → List ℕ → Type 0) (c : CallerOf D L) (digest : Digest) (result : Result (Option ActionResult) CallFault)
    → ((blob : Digest → List ℕ) (operation : List ℕ → Digest) (command : Command) (outcome : Outcome) → VouchesBy rule blob operation c digest command outcome → IfOk result (λ found. IfSome found (Agrees blob command outcome)))
    → IfOk result (λ found. IfSome found (HonestResult rule c digest))
each-vouched rule c digest (Ok (Some result)) each = each
each-vouched rule c digest (Ok None) each = tt
each-vouched rule c digest (Err fault) each = tt

pub result-honest : {D L : Type 0} (faults : D → ℕ) (rule : D → List ℕ → List ℕ → Type 0) (link : links.Ghosts L) (c : CallerOf D L) (new : ChannelOf D L) (digest : Digest) (result : Result (Option ActionResult) CallFault)
    → Hears faults rule link (asks_result c.instance digest) c.channel new (λ heard. Gives NoMemory (λ (x : Option ActionResult). x) result (found_by heard))
    → IfOk result (λ found. IfSome found (HonestResult rule c digest))
result-honest rule_faults rule link c new digest result h =
    each-vouched rule c digest result (λ blob operation command outcome vouched.
    answer-is rule_faults rule link (asks_result c.instance digest) c.channel new found_by (λ found. IfSome found (Agrees blob command outcome)) (ResultsAgree blob operation c.instance digest command outcome) result h
    (none-found (λ found. IfSome found (Agrees blob command outcome))) vouched (λ heard agree. agree.kept refl))

-- ---- what the farm says of itself

each-told : {D L : Type 0} (rule : D → List ℕ → List ℕ → Type 0) (c : CallerOf D L) (result : Result Capabilities CallFault)
    → ((blob : Digest → List ℕ) (operation : List ℕ → Digest) (dialect : Dialect) → IsGenuineBy rule blob operation dialect c → IfOk result (λ (told : Capabilities). dialect_of told.low told.high ≡ dialect))
    → IfOk result (HonestVersions rule c)
each-told rule c (Ok told) each = each
each-told rule c (Err fault) each = tt

pub versions-honest : {D L : Type 0} (faults : D → ℕ) (rule : D → List ℕ → List ℕ → Type 0) (link : links.Ghosts L) (c : CallerOf D L) (new : ChannelOf D L) (result : Result Capabilities CallFault)
    → Hears faults rule link (asks_capabilities c.instance) c.channel new (λ heard. Gives NoMemory (λ (x : Capabilities). x) result (capabilities_by heard))
    → IfOk result (HonestVersions rule c)
versions-honest rule_faults rule link c new result h =
    each-told rule c result (λ blob operation dialect genuine.
    answer-is rule_faults rule link (asks_capabilities c.instance) c.channel new capabilities_by (λ (told : Capabilities). dialect_of told.low told.high ≡ dialect) (AnswersHonestly blob operation dialect c.instance) result h
    (λ fault. tt) genuine (λ heard honest. honest.versions refl))

-- ---- blobs

pub each-genuine : {D L T : Type 0} (rule : D → List ℕ → List ℕ → Type 0) (c : CallerOf D L) (digests : List Digest) (texts : T → List (List ℕ)) (result : Result T CallFault)
    → ((blob : Digest → List ℕ) (operation : List ℕ → Digest) (dialect : Dialect) → IsGenuineBy rule blob operation dialect c → IfOk result (λ x. AreBlobs blob digests (texts x)))
    → IfOk result (λ x. HonestTexts rule c digests (texts x))
each-genuine rule c digests texts (Ok x) each = each
each-genuine rule c digests texts (Err fault) each = tt

pub read-honest : {D L : Type 0} (faults : D → ℕ) (rule : D → List ℕ → List ℕ → Type 0) (link : links.Ghosts L) (c : CallerOf D L) (new : ChannelOf D L) (digests : List Digest) (result : Result (List (List ℕ)) CallFault)
    → Hears faults rule link (asks_read c.instance digests) c.channel new (λ heard. Gives NoMemory (λ (x : List (List ℕ)). x) result (read_by digests heard))
    → IfOk result (HonestTexts rule c digests)
read-honest rule_faults rule link c new digests result h =
    each-genuine rule c digests (λ x. x) result (λ blob operation dialect genuine.
    answer-is rule_faults rule link (asks_read c.instance digests) c.channel new (read_by digests) (AreBlobs blob digests) (AnswersHonestly blob operation dialect c.instance) result h
    (λ fault. tt) genuine (λ heard honest. honest.batches digests refl))

-- ---- both stay

always-on : (old new : List ℕ → List ℕ → Type 0) (authority name : List ℕ) (P : Asked → Heard → Type 0) → SameRule old new → name ≡ authority → Always old authority P → Always new name P
always-on old new authority name P same is all =
    subst (λ (n : List ℕ). Always new n P) (sym is) (λ sent waiting received id asked heard meets call. all sent waiting received id asked heard ((same sent received).1 meets) call)

pub stays-honest : {D L : Type 0} (rule : D → List ℕ → List ℕ → Type 0) (old new : CallerOf D L) → Keeps rule old.channel new.channel → new.instance ≡ old.instance → StaysHonest rule old new
stays-honest rule old new keeps instance blob operation dialect = record {
  triples = λ digest command outcome vouched.
      always-on (rule old.channel.dial) (rule new.channel.dial) old.channel.authority new.channel.authority _ keeps.same_rule keeps.authority
      (subst (λ (x : List ℕ). Always (rule old.channel.dial) old.channel.authority (ResultsAgree blob operation x digest command outcome)) (sym instance) vouched);
  still_genuine = λ genuine.
      always-on (rule old.channel.dial) (rule new.channel.dial) old.channel.authority new.channel.authority _ keeps.same_rule keeps.authority
      (subst (λ (x : List ℕ). Always (rule old.channel.dial) old.channel.authority (AnswersHonestly blob operation dialect x)) (sym instance) genuine);
  same_dialect = refl;
}

-- whatever is counted
pub counted-honest : {D L : Type 0} (rule : D → List ℕ → List ℕ → Type 0) (old new : CallerOf D L) (count : ℕ) → StaysHonest rule old new → StaysHonest rule old (record new { faults = count })
counted-honest rule old new count stays blob operation dialect =
    let s = stays blob operation dialect in
    record { triples = s.triples; still_genuine = s.still_genuine; same_dialect = refl }

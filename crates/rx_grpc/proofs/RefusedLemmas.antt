-- A blob that is refused is one of those that were asked for, and each of these has a text.
use Rattle.std.proofs.Common.{◌≡◌, ℕ, Bool, true, false, List, [], ◌∷◌, length, Option, None, Some, Result, Ok, Err, IfErr, IfOk, subst}
use Rattle.std.specs.Prelude.{Contains, if◌then◌else◌, ◌==◌, not, filter, is_some}
use Rattle.std.specs.List.{list_all}
use Rattle.std.specs.Map.{keys_of}
use Rattle.rx_base.specs.Results.{◌>>=◌, Gives}
use Rattle.rx_base.specs.declared.digests.Digest.{Digest}
use Rattle.rx_base.proofs.Members.{Contains-head, Contains-later}
use Rattle.rx_codec.specs.Decoding.{any_form, decoded}
use Rattle.rx_codec.specs.declared.faults.MessageFault.{MessageFault}
use Rattle.rx_codec.specs.declared.faults.MessageFault.TheVariants as Refusals
use Rattle.rx_messages.specs.Batches.{batch_read_blobs_response_from, batch_read_blobs_response_parts}
use Rattle.rx_messages.specs.Batches.{batch_update_blobs_response_from, batch_update_blobs_response_parts}
use Rattle.rx_messages.specs.Blobs.{find_missing_blobs_response_from, find_missing_blobs_response_parts}
use Rattle.rx_messages.specs.declared.batch_reads.BatchReadBlobsResponse.{BatchReadBlobsResponse}
use Rattle.rx_messages.specs.declared.batch_updates.BatchUpdateBlobsResponse.{BatchUpdateBlobsResponse}
use Rattle.rx_messages.specs.declared.blobs.FindMissingBlobsResponse.{FindMissingBlobsResponse}
use Rattle.rx_messages.specs.declared.batch_reads.BlobRead.{BlobRead}
use Rattle.rx_messages.specs.declared.batch_updates.BlobUpdated.{BlobUpdated}
use Rattle.rx_world.specs.declared.call_faults.CallFault.{CallFault}
use Rattle.rx_world.specs.declared.call_faults.CallFault.TheVariants.{BadMessage, BlobRefused, Compressed, Cut, Link, NoMemory, NoStatus, Protocol, Status, TooLarge}
use Rattle.rx_exec_messages.specs.Calls.{IsPartOf, RefusesOneOf}
use Rattle.rx_grpc.specs.declared.answer.Answer.TheVariants as Answers
use Rattle.rx_grpc.specs.declared.blob_items.Given.{Given}
use Rattle.rx_grpc.specs.declared.transfer_fault.TransferFault.TheVariants as Transfers
use Rattle.rx_grpc.specs.Batches.{first_for, has, item_for, item_read, item_updated, missing_of, text_by, texts_by, texts_of}
use Rattle.rx_grpc.specs.Each.{each}
use Rattle.rx_grpc.specs.Replies.{Heard, read, reply}
use Rattle.rx_grpc.specs.Results.{missing_by, read_by, updated_by}
use Rattle.rx_grpc.proofs.BatchLemmas.{each-long, part-of}

-- ---- what a result is, by what a definition gives

pub ok-by : {A : Type 0} (P : A → Type 0) (result given : Result A CallFault) → Gives NoMemory (λ x. x) result given → IfOk given P → IfOk result P
ok-by P (Ok x) given is p = subst (λ r. IfOk r P) is p
ok-by P (Err e) given is p = tt

pub refused-by : {A B : Type 0} (view : A → B) (digests : List Digest) (result : Result A CallFault) (given : Result B CallFault)
    → Gives NoMemory view result given → IfErr given (RefusesOneOf digests) → IfErr result (RefusesOneOf digests)
refused-by view digests (Ok x) given is p = tt
refused-by view digests (Err (BlobRefused digest code)) given is p = subst (λ r. IfErr r (RefusesOneOf digests)) (is (λ e. absurd cc)) p
refused-by view digests (Err (Status code)) given is p = tt
refused-by view digests (Err Link) given is p = tt
refused-by view digests (Err (Protocol code)) given is p = tt
refused-by view digests (Err Compressed) given is p = tt
refused-by view digests (Err TooLarge) given is p = tt
refused-by view digests (Err NoStatus) given is p = tt
refused-by view digests (Err (BadMessage at)) given is p = tt
refused-by view digests (Err Cut) given is p = tt
refused-by view digests (Err NoMemory) given is p = tt

then-ok : {A B E : Type 0} (P : B → Type 0) (r : Result A E) (f : A → Result B E) → ((x : A) → IfOk (f x) P) → IfOk (r >>= f) P
then-ok P (Ok x) f p = p x
then-ok P (Err e) f p = tt

pub then-err : {A B E : Type 0} (P : E → Type 0) (r : Result A E) (f : A → Result B E) → IfErr r P → ((x : A) → IfErr (f x) P) → IfErr (r >>= f) P
then-err P (Ok x) f q p = p x
then-err P (Err e) f q p = q

-- ---- one of those that were asked for

among : (few all : List Digest) (fault : CallFault) → ((x : Digest) → Contains few x → Contains all x) → RefusesOneOf few fault → RefusesOneOf all fault
among few all (BlobRefused digest code) within c = within digest c
among few all (Status code) within c = tt
among few all Link within c = tt
among few all (Protocol code) within c = tt
among few all Compressed within c = tt
among few all TooLarge within c = tt
among few all NoStatus within c = tt
among few all (BadMessage at) within c = tt
among few all Cut within c = tt
among few all NoMemory within c = tt

among-err : {A : Type 0} (few all : List Digest) (r : Result A CallFault) → ((x : Digest) → Contains few x → Contains all x) → IfErr r (RefusesOneOf few) → IfErr r (RefusesOneOf all)
among-err few all (Ok x) within c = tt
among-err few all (Err fault) within c = among few all fault within c

by-code : (b : Bool) (digest : Digest) (given : Given) (asked : List Digest) → IfErr (if b then Ok given.body else Err (BlobRefused digest given.code)) (RefusesOneOf (digest ∷ asked))
by-code true digest given asked = tt
by-code false digest given asked = Contains-head digest asked

text-refused : (digest : Digest) (given : Option Given) (asked : List Digest) → IfErr (text_by digest given) (RefusesOneOf (digest ∷ asked))
text-refused digest None asked = tt
text-refused digest (Some given) asked = by-code (given.code == 0) digest given asked

texts-refused : (asked : List Digest) (items : List (Digest × Given)) → IfErr (texts_by asked items) (RefusesOneOf asked)
texts-refused [] items = tt
texts-refused (digest ∷ asked) items =
    then-err (RefusesOneOf (digest ∷ asked)) (text_by digest (first_for items digest)) _ (text-refused digest (first_for items digest) asked)
    (λ text. then-err (RefusesOneOf (digest ∷ asked)) (texts_by asked items) _
    (among-err asked (digest ∷ asked) (texts_by asked items) (λ x c. Contains-later digest asked x c) (texts-refused asked items))
    (λ texts. tt))

by-tests : (a b : Bool) (asked : List Digest) (items : List (Digest × Given)) → IfErr (if a then Err (BadMessage 0) else if b then Err (BadMessage 0) else texts_by asked items) (RefusesOneOf asked)
by-tests true b asked items = tt
by-tests false true asked items = tt
by-tests false false asked items = texts-refused asked items

long-by : (a b : Bool) (asked : List Digest) (items : List (Digest × Given)) → IfOk (if a then Err (BadMessage 0) else if b then Err (BadMessage 0) else texts_by asked items) (λ texts. length texts ≡ length asked)
long-by true b asked items = tt
long-by false true asked items = tt
long-by false false asked items = each-long (λ digest. text_by digest (first_for items digest)) asked

texts_of-refused : (asked : List Digest) (items : List (Digest × Given)) → IfErr (texts_of asked items) (RefusesOneOf asked)
unfolding texts_of
texts_of-refused asked items = by-tests (not (list_all (has asked) (keys_of items))) (not (list_all (λ digest. is_some (first_for items digest)) asked)) asked items

texts_of-long : (asked : List Digest) (items : List (Digest × Given)) → IfOk (texts_of asked items) (λ texts. length texts ≡ length asked)
unfolding texts_of
texts_of-long asked items = long-by (not (list_all (has asked) (keys_of items))) (not (list_all (λ digest. is_some (first_for items digest)) asked)) asked items

-- ---- the faults that come before

pub read-refused : {M : Type 0} (asked : List Digest) (r : Result M MessageFault) → IfErr (read r) (RefusesOneOf asked)
read-refused asked (Ok x) = tt
read-refused asked (Err (Refusals.Wire fault)) = tt
read-refused asked (Err Refusals.NotCanonical) = tt
read-refused asked (Err (Refusals.BadValue n)) = tt
read-refused asked (Err Refusals.NoMemory) = tt

reply-refused : {M : Type 0} (asked : List Digest) (decode : List ℕ → Result M MessageFault) (heard : Heard) → IfErr (reply decode heard) (RefusesOneOf asked)
reply-refused asked decode (Ok (Answers.Message message)) = read-refused asked (decode message)
reply-refused asked decode (Ok (Answers.Status code)) = tt
reply-refused asked decode (Ok Answers.Compressed) = tt
reply-refused asked decode (Ok Answers.TooLarge) = tt
reply-refused asked decode (Ok Answers.NoStatus) = tt
reply-refused asked decode (Ok Answers.BadMessage) = tt
reply-refused asked decode (Err Transfers.Link) = tt
reply-refused asked decode (Err (Transfers.Protocol code)) = tt
reply-refused asked decode (Err Transfers.NoMemory) = tt

item-refused : (asked : List Digest) (digest : Option Digest) (given : Given) → IfErr (item_for digest given) (RefusesOneOf asked)
item-refused asked None given = tt
item-refused asked (Some digest) given = tt

each-refused : {A B : Type 0} (asked : List Digest) (f : A → Result B CallFault) (xs : List A) → ((x : A) → IfErr (f x) (RefusesOneOf asked)) → IfErr (each f xs) (RefusesOneOf asked)
each-refused asked f [] one = tt
each-refused asked f (x ∷ xs) one =
    then-err (RefusesOneOf asked) (f x) _ (one x) (λ y. then-err (RefusesOneOf asked) (each f xs) _ (each-refused asked f xs one) (λ ys. tt))

-- ---- the calls

pub updated-refused : (asked : List Digest) (heard : Heard) → IfErr (updated_by asked heard) (RefusesOneOf asked)
updated-refused asked heard =
    then-err (RefusesOneOf asked) _ _ (reply-refused asked (decoded batch_update_blobs_response_parts batch_update_blobs_response_from any_form) heard)
    (λ (x : BatchUpdateBlobsResponse). then-err (RefusesOneOf asked) _ _ (each-refused asked item_updated x.responses (λ (u : BlobUpdated). item-refused asked u.digest _))
    (λ items. then-err (RefusesOneOf asked) _ _ (texts_of-refused asked items) (λ texts. tt)))

pub read-by-refused : (asked : List Digest) (heard : Heard) → IfErr (read_by asked heard) (RefusesOneOf asked)
read-by-refused asked heard =
    then-err (RefusesOneOf asked) _ _ (reply-refused asked (decoded batch_read_blobs_response_parts batch_read_blobs_response_from any_form) heard)
    (λ (x : BatchReadBlobsResponse). then-err (RefusesOneOf asked) _ _ (each-refused asked item_read x.responses (λ (r : BlobRead). item-refused asked r.digest _))
    (λ items. texts_of-refused asked items))

pub read-by-long : (asked : List Digest) (heard : Heard) → IfOk (read_by asked heard) (λ texts. length texts ≡ length asked)
read-by-long asked heard =
    then-ok (λ texts. length texts ≡ length asked) (reply (decoded batch_read_blobs_response_parts batch_read_blobs_response_from any_form) heard) _
    (λ (x : BatchReadBlobsResponse). then-ok (λ texts. length texts ≡ length asked) (each item_read x.responses) _ (λ items. texts_of-long asked items))

missing-by-test : (b : Bool) (asked lacking : List Digest) → IfOk {E = CallFault} (if b then Ok (filter (has lacking) asked) else Err (BadMessage 0)) (λ missing. IsPartOf missing asked)
missing-by-test true asked lacking = part-of (has lacking) asked
missing-by-test false asked lacking = tt

missing-part : (asked lacking : List Digest) → IfOk (missing_of asked lacking) (λ missing. IsPartOf missing asked)
unfolding missing_of
missing-part asked lacking = missing-by-test (list_all (has asked) lacking) asked lacking

pub missing-by-part : (asked : List Digest) (heard : Heard) → IfOk (missing_by asked heard) (λ missing. IsPartOf missing asked)
missing-by-part asked heard =
    then-ok (λ missing. IsPartOf missing asked) (reply (decoded find_missing_blobs_response_parts find_missing_blobs_response_from any_form) heard) _
    (λ (x : FindMissingBlobsResponse). missing-part asked x.missing_blob_digests)

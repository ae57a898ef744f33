-- Exchanges of a fetch: none, one read, one stream, and one part after another.
use Rattle.std.proofs.Common.{◌≡◌, ◌≢◌, ◌∙◌, ◌≤◌, ℕ, Bool, true, false, List, [], ◌∷◌, ◌++◌, None, Some, Ok, Err, map, refl, sym, ap, subst, arith, drop, take}
use Rattle.std.specs.List.{flat_map}
use Rattle.std.specs.Prelude.{Contains, ◌==◌, if◌then◌else◌}
use Rattle.std.proofs.lemmas.Grind.{flat_map-append}
use Rattle.std.proofs.lemmas.List.{append-nil, append_assoc, map-append, take-append-drop}
use Rattle.std.proofs.lemmas.List.Elements.{Contains-append_left, Contains-append_right}
use Rattle.rx_base.specs.Digests.{digest_of}
use Rattle.rx_base.proofs.Lists.{All-append}
use Rattle.rx_base.specs.declared.digests.Digest.{Digest}
use Rattle.rx_world.specs.declared.call_faults.CallFault.{CallFault}
use Rattle.rx_world.specs.declared.call_faults.CallFault.TheVariants as calls
use Rattle.rx_world.specs.declared.world.World as world
use Rattle.rx_world.specs.Causes.{Rose}
use Rattle.rx_exec_messages.specs.declared.callers.Caller as callers
use Rattle.rx_exec_messages.specs.declared.exchanges.Exchange.{Exchange}
use Rattle.rx_exec_messages.specs.declared.exchanges.Exchange.TheVariants.{Read, ReadStream}
use Rattle.rx_exec_messages.specs.Calls.{RefusesOneOf}
use Rattle.rx_exec_messages.specs.Exchanged.{HasExchanged}
use Rattle.rx_exec_messages.proofs.ExchangedLemmas.{exchanges-are, exchanges-then, no-exchange}
use Rattle.rx_blobs.specs.declared.blob_fault.BlobFault.{BlobFault}
use Rattle.rx_blobs.specs.declared.blob_fault.BlobFault.TheVariants as faults
use Rattle.rx_blobs.specs.Faults.{IsFetchCause, has_code, is_without_batches, of_batch, of_stream}
use Rattle.rx_blobs.specs.Fetches.{EndsIn, IsFailedFetch, IsFetched, IsFetching, IsRead, IsShown, digests_given, fault_shown, texts_given}

-- ---- nothing was asked

pub fetched-none : IsFetched [] [] []
fetched-none = record { reads = tt; given = refl; texts_are = refl }

pub failed-none : (digests : List Digest) → IsFailedFetch digests faults.NoMemory []
failed-none digests = record { reads = tt; rest = digests; front = refl; shown = tt }

-- ---- one exchange

pub read-gave : (digests : List Digest) (texts : List (List ℕ)) → IsFetched digests texts (Read digests (Ok texts) ∷ [])
read-gave digests texts = record { reads = (tt, tt); given = append-nil digests; texts_are = append-nil texts }

pub stream-gave : (digest : Digest) (text : List ℕ) → IsFetched (digest ∷ []) (text ∷ []) (ReadStream digest (Ok text) ∷ [])
stream-gave digest text = record { reads = (tt, tt); given = refl; texts_are = refl }

pub read-gave-nothing : (digests : List Digest) (fault : CallFault) → IsFetched [] [] (Read digests (Err fault) ∷ [])
read-gave-nothing digests fault = record { reads = (tt, tt); given = refl; texts_are = refl }

-- a fault of a call is shown by the last exchange, and want of memory needn't be
pub shown-by : (fault : BlobFault) (last : Exchange) → fault_shown last ≡ Some fault → IsShown fault (last ∷ [])
shown-by (faults.Call f) last e = record { front = []; last = last; part_is = refl; shown = e }
shown-by (faults.Missing d) last e = record { front = []; last = last; part_is = refl; shown = e }
shown-by (faults.Refused d code) last e = record { front = []; last = last; part_is = refl; shown = e }
shown-by (faults.BadBlob expected got) last e = tt
shown-by (faults.InputChanged input) last e = tt
shown-by (faults.SourceFault path) last e = tt
shown-by faults.NoMemory last e = tt

pub not-without : (b : Bool) (fault : BlobFault) → b ≡ false → (if b then None else Some fault) ≡ Some fault
not-without false fault e = refl
not-without true fault e = cc e

pub read-failed : (digests : List Digest) (fault : CallFault) → is_without_batches fault ≡ false →
    IsFailedFetch digests (of_batch fault) (Read digests (Err fault) ∷ [])
read-failed digests fault e = record {
  reads = (tt, tt);
  rest = digests;
  front = refl;
  shown = shown-by (of_batch fault) (Read digests (Err fault)) (not-without (is_without_batches fault) (of_batch fault) e);
}

pub stream-failed : (digest : Digest) (fault : CallFault) → IsFailedFetch (digest ∷ []) (of_stream digest fault) (ReadStream digest (Err fault) ∷ [])
stream-failed digest fault =
    record { reads = (tt, tt); rest = digest ∷ []; front = refl; shown = shown-by (of_stream digest fault) (ReadStream digest (Err fault)) refl }

-- a text was given, and there was no memory for it, or it has another digest
pub failed-late : (digests : List Digest) (texts : List (List ℕ)) (fault : BlobFault) (part : List Exchange) → IsFetched digests texts part → IsShown fault part →
    IsFailedFetch digests fault part
failed-late digests texts fault part f shown = record { reads = f.reads; rest = []; front = append-nil (flat_map digests_given part) ∙ f.given; shown = shown }

-- ---- causes

cause-when : (before now : ℕ) (digests : List Digest) (digest : Digest) (code : ℕ) (b : Bool) → Rose before now → Contains digests digest →
    IsFetchCause before now digests (if b then faults.Missing digest else faults.Refused digest code)
cause-when before now digests digest code true rose c = (rose, c)
cause-when before now digests digest code false rose c = (rose, c)

pub batch-cause : (before now : ℕ) (digests : List Digest) (fault : CallFault) → (fault ≢ calls.NoMemory → Rose before now) → RefusesOneOf digests fault →
    IsFetchCause before now digests (of_batch fault)
batch-cause before now digests (calls.BlobRefused digest code) rose named = cause-when before now digests digest code (code == 5) (rose (λ e. cc e)) named
batch-cause before now digests calls.NoMemory rose named = tt
batch-cause before now digests (calls.Status code) rose named = rose (λ e. cc e)
batch-cause before now digests calls.Link rose named = rose (λ e. cc e)
batch-cause before now digests (calls.Protocol code) rose named = rose (λ e. cc e)
batch-cause before now digests calls.Compressed rose named = rose (λ e. cc e)
batch-cause before now digests calls.TooLarge rose named = rose (λ e. cc e)
batch-cause before now digests calls.NoStatus rose named = rose (λ e. cc e)
batch-cause before now digests (calls.BadMessage at) rose named = rose (λ e. cc e)
batch-cause before now digests calls.Cut rose named = rose (λ e. cc e)

missing-when : (before now : ℕ) (digest : Digest) (fault : CallFault) (b : Bool) → b ≡ has_code fault 5 → (fault ≢ calls.NoMemory → Rose before now) →
    RefusesOneOf (digest ∷ []) fault → IsFetchCause before now (digest ∷ []) (if b then faults.Missing digest else of_batch fault)
missing-when before now digest fault false e rose named = batch-cause before now (digest ∷ []) fault rose named
missing-when before now digest fault true e rose named = (rose (λ none. cc (e ∙ ap (λ (f : CallFault). has_code f 5) none)), (0, omega arith, refl))

pub stream-cause : (before now : ℕ) (digest : Digest) (fault : CallFault) → (fault ≢ calls.NoMemory → Rose before now) → RefusesOneOf (digest ∷ []) fault →
    IsFetchCause before now (digest ∷ []) (of_stream digest fault)
stream-cause before now digest fault rose named = missing-when before now digest fault (has_code fault 5) refl rose named

-- ---- amid a fetch

pub fetched-both : (ds es : List Digest) (ts us : List (List ℕ)) (ps qs : List Exchange) → IsFetched ds ts ps → IsFetched es us qs → IsFetched (ds ++ es) (ts ++ us) (ps ++ qs)
fetched-both ds es ts us ps qs f g = record {
  reads = All-append IsRead ps qs f.reads g.reads;
  given = flat_map-append digests_given ps qs ∙ rw (f.given, g.given) refl;
  texts_are = flat_map-append texts_given ps qs ∙ rw (f.texts_are, g.texts_are) refl;
}

ends-later : (fault : BlobFault) (ps qs : List Exchange) → EndsIn fault qs → EndsIn fault (ps ++ qs)
ends-later fault ps qs e =
    record { front = ps ++ e.front; last = e.last; part_is = ap (λ (all : List Exchange). ps ++ all) e.part_is ∙ sym (append_assoc ps e.front (e.last ∷ [])); shown = e.shown }

pub shown-later : (fault : BlobFault) (ps qs : List Exchange) → IsShown fault qs → IsShown fault (ps ++ qs)
shown-later (faults.Call f) ps qs e = ends-later (faults.Call f) ps qs e
shown-later (faults.Missing d) ps qs e = ends-later (faults.Missing d) ps qs e
shown-later (faults.Refused d code) ps qs e = ends-later (faults.Refused d code) ps qs e
shown-later (faults.BadBlob expected got) ps qs e = tt
shown-later (faults.InputChanged input) ps qs e = tt
shown-later (faults.SourceFault path) ps qs e = tt
shown-later faults.NoMemory ps qs e = tt

pub failed-later : (ds es others : List Digest) (ts : List (List ℕ)) (fault : BlobFault) (ps qs : List Exchange) → IsFetched ds ts ps → IsFailedFetch es fault qs →
    IsFailedFetch (ds ++ (es ++ others)) fault (ps ++ qs)
failed-later ds es others ts fault ps qs f g = record {
  reads = All-append IsRead ps qs f.reads g.reads;
  rest = g.rest ++ others;
  front = ap (λ (all : List Digest). all ++ (g.rest ++ others)) (flat_map-append digests_given ps qs ∙ rw f.given refl)
      ∙ append_assoc ds (flat_map digests_given qs) (g.rest ++ others)
      ∙ ap (λ (all : List Digest). ds ++ all) (sym (append_assoc (flat_map digests_given qs) g.rest others) ∙ ap (λ (all : List Digest). all ++ others) g.front);
  shown = shown-later fault ps qs g.shown;
}

-- nothing was fetched yet
pub fetching-start : {C W : Type 0} (w : world.Ghosts W) (c : callers.Ghosts C W) (x : C) (all : List Digest) → IsFetching w c x x all all []
fetching-start w c x all =
    record { hashed = refl; honest = λ genuine. refl; exchanged = no-exchange c (IsFetched [] []) x fetched-none }

-- a part was fetched
pub fetching-more : {C W : Type 0} (w : world.Ghosts W) (c : callers.Ghosts C W) (old now new : C) (all part others : List Digest) (texts more : List (List ℕ)) →
    IsFetching w c old now all (part ++ others) texts → map digest_of more ≡ part → (c.genuine now → more ≡ map w.blob part) →
    HasExchanged c now new (IsFetched part more) → IsFetching w c old new all others (texts ++ more)
fetching-more w c old now new all part others texts more f hashed honest g = record {
  hashed = ap (λ (ds : List Digest). ds ++ others) (map-append digest_of texts more ∙ ap (λ (ds : List Digest). map digest_of texts ++ ds) hashed)
      ∙ append_assoc (map digest_of texts) part others ∙ f.hashed;
  honest = λ genuine. append_assoc texts more (map w.blob others)
      ∙ ap (λ (ts : List (List ℕ)). texts ++ (ts ++ map w.blob others)) (honest (f.exchanged.exchanged.stays.still_genuine genuine))
      ∙ ap (λ (ts : List (List ℕ)). texts ++ ts) (sym (map-append w.blob part others)) ∙ f.honest genuine;
  exchanged = exchanges-then c (IsFetched (map digest_of texts) texts) (IsFetched part more) (IsFetched (map digest_of (texts ++ more)) (texts ++ more)) old now new
      f.exchanged g
      (λ front back is_front is_back. subst (λ (ds : List Digest). IsFetched ds (texts ++ more) (front ++ back))
      (ap (λ (ds : List Digest). map digest_of texts ++ ds) (sym hashed) ∙ sym (map-append digest_of texts more))
      (fetched-both (map digest_of texts) part texts more front back is_front is_back));
}

-- the farm knows no batches
pub fetching-same : {C W : Type 0} (w : world.Ghosts W) (c : callers.Ghosts C W) (old now new : C) (all rest : List Digest) (texts : List (List ℕ)) →
    IsFetching w c old now all rest texts → HasExchanged c now new (IsFetched [] []) → IsFetching w c old new all rest texts
fetching-same w c old now new all rest texts f g = record {
  hashed = f.hashed;
  honest = f.honest;
  exchanged = exchanges-then c (IsFetched (map digest_of texts) texts) (IsFetched [] []) (IsFetched (map digest_of texts) texts) old now new f.exchanged g
      (λ front back is_front is_back. rw (append-nil (map digest_of texts), append-nil texts) at
      (fetched-both (map digest_of texts) [] texts [] front back is_front is_back));
}

-- all was fetched
pub fetching-end : {C W : Type 0} (w : world.Ghosts W) (c : callers.Ghosts C W) (old now : C) (all : List Digest) (texts : List (List ℕ)) →
    IsFetching w c old now all [] texts → HasExchanged c old now (IsFetched all texts)
fetching-end w c old now all texts f =
    exchanges-are c (IsFetched (map digest_of texts) texts) (IsFetched all texts) old now f.exchanged
    (λ part is. subst (λ (ds : List Digest). IsFetched ds texts part) (sym (append-nil (map digest_of texts)) ∙ f.hashed) is)

-- a part failed
pub fetching-failed : {C W : Type 0} (w : world.Ghosts W) (c : callers.Ghosts C W) (old now new : C) (all part others : List Digest) (texts : List (List ℕ)) (fault : BlobFault) →
    IsFetching w c old now all (part ++ others) texts → HasExchanged c now new (IsFailedFetch part fault) → HasExchanged c old new (IsFailedFetch all fault)
fetching-failed w c old now new all part others texts fault f g =
    exchanges-then c (IsFetched (map digest_of texts) texts) (IsFailedFetch part fault) (IsFailedFetch all fault) old now new f.exchanged g
    (λ front back is_front is_back. subst (λ (ds : List Digest). IsFailedFetch ds fault (front ++ back)) f.hashed
    (failed-later (map digest_of texts) part others texts fault front back is_front is_back))

-- there was no memory to keep what was fetched
pub fetching-unkept : {C W : Type 0} (w : world.Ghosts W) (c : callers.Ghosts C W) (old now : C) (all rest : List Digest) (texts : List (List ℕ)) →
    IsFetching w c old now all rest texts → HasExchanged c old now (IsFailedFetch all faults.NoMemory)
fetching-unkept w c old now all rest texts f =
    exchanges-are c (IsFetched (map digest_of texts) texts) (IsFailedFetch all faults.NoMemory) old now f.exchanged
    (λ part is. record { reads = is.reads; rest = rest; front = rw is.given f.hashed; shown = tt })

in-part : (done part others all : List Digest) (d : Digest) → done ++ (part ++ others) ≡ all → Contains part d → Contains all d
in-part done part others all d e c =
    subst (λ (ds : List Digest). Contains ds d) e (Contains-append_right done (part ++ others) d (Contains-append_left part others d c))

-- a cause over a part is one over the whole
pub cause-of-part : (before between now : ℕ) (done part others all : List Digest) (fault : BlobFault) → before ≤ between → done ++ (part ++ others) ≡ all →
    IsFetchCause between now part fault → IsFetchCause before now all fault
cause-of-part before between now done part others all (faults.Call f) later e cause = omega arith
cause-of-part before between now done part others all (faults.Missing d) later e cause = (omega arith, in-part done part others all d e cause.1)
cause-of-part before between now done part others all (faults.Refused d code) later e cause = (omega arith, in-part done part others all d e cause.1)
cause-of-part before between now done part others all (faults.BadBlob expected got) later e cause = (cause.0, in-part done part others all expected e cause.1)
cause-of-part before between now done part others all (faults.InputChanged input) later e cause = cause
cause-of-part before between now done part others all (faults.SourceFault path) later e cause = cause
cause-of-part before between now done part others all faults.NoMemory later e cause = tt

-- a list that was split
pub split-whole : {A : Type 0} (count : ℕ) (rest part others : List A) → part ≡ take count rest → others ≡ drop count rest → rest ≡ part ++ others
split-whole count rest part others f b = sym (rw (f, b) (take-append-drop count rest))

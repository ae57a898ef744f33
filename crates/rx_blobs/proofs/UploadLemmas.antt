-- Exchanges of an upload: what one call sent, one part after another, and a whole upload.
use Rattle.std.proofs.Common.{◌≡◌, ◌∙◌, ◌≢◌, ◌≤◌, ℕ, false, true, length, List, [], ◌∷◌, ◌++◌, Result, Ok, Err, refl, sym, subst, inl, inr, arith}
use Rattle.std.specs.List.{AllByRecursion, flat_map}
use Rattle.std.specs.Prelude.{◌==◌, Contains}
use Rattle.std.proofs.lemmas.Bool.Decides.{Decides-eqb}
use Rattle.std.proofs.lemmas.Grind.{flat_map-append}
use Rattle.std.proofs.lemmas.List.{append-nil, append_assoc}
use Rattle.std.proofs.lemmas.List.Elements.{Contains-append_cases, Contains-append_left, Contains-append_right}
use Rattle.rx_base.specs.Digests.{digest_of}
use Rattle.rx_base.specs.declared.digests.Digest.{Digest}
use Rattle.rx_base.proofs.Lists.{All-append, All-weaken}
use Rattle.rx_base.proofs.Members.{Contains-head, Contains-later, not_in_nothing}
use Rattle.rx_world.specs.declared.call_faults.CallFault.{CallFault}
use Rattle.rx_world.specs.declared.call_faults.CallFault.TheVariants as calls
use Rattle.rx_world.specs.Causes.{Rose}
use Rattle.rx_exec_messages.specs.declared.callers.Caller as callers
use Rattle.rx_exec_messages.specs.declared.exchanges.Exchange.{Exchange}
use Rattle.rx_exec_messages.specs.declared.exchanges.Exchange.TheVariants.{FindMissing, Update, WriteStream}
use Rattle.rx_exec_messages.specs.declared.exchanges.NamedBlob.{NamedBlob}
use Rattle.rx_exec_messages.specs.Calls.{digests_of}
use Rattle.rx_exec_messages.specs.Exchanged.{HasExchanged}
use Rattle.rx_exec_messages.proofs.ExchangedLemmas.{exchanges-are, exchanges-then, no-exchange}
use Rattle.rx_blobs.specs.declared.blob_fault.BlobFault.{BlobFault}
use Rattle.rx_blobs.specs.declared.blob_fault.BlobFault.TheVariants as faults
use Rattle.rx_blobs.specs.Faults.{is_without_updates, of_ask, of_update, of_write}
use Rattle.rx_blobs.specs.Fetches.{IsShown}
use Rattle.rx_blobs.specs.Uploads.{IsCallFault, IsFailedSending, IsFailedUpload, IsNamed, IsOwn, IsOwnFault, IsSending, IsSendingOn, IsSent, IsSplit, IsStored, IsUploadCall, IsUploadCause, IsUploaded, IsWithin, SendsNamed, blobs_sent, digests_missing, digests_taken}
use Rattle.rx_blobs.proofs.FetchLemmas.{not-without, shown-by, shown-later}
use Rattle.rx_blobs.proofs.UploadLists.{among, within-middle, within-more}

-- ---- what is sent was named

named-wider : (few all : List Digest) (blobs : List NamedBlob) → IsWithin few all → AllByRecursion (IsNamed few) blobs → AllByRecursion (IsNamed all) blobs
named-wider few all blobs w h =
    All-weaken (IsNamed few) (IsNamed all) blobs (λ blob is. record { missing = w blob.digest is.missing; own = is.own }) h

sends-wider : (few all : List Digest) (part : List Exchange) → IsWithin few all → SendsNamed few part → SendsNamed all part
sends-wider few all [] w s = tt
sends-wider few all (e ∷ part) w s =
    (named-wider few all (blobs_sent e) w s.0, sends-wider (few ++ digests_missing e) (all ++ digests_missing e) part (within-more few all (digests_missing e) w) s.1)

sends-append : (named : List Digest) (front back : List Exchange) → SendsNamed named front → SendsNamed named back → SendsNamed named (front ++ back)
sends-append named [] back f b = b
sends-append named (e ∷ front) back f b = (
  f.0,
  sends-append (named ++ digests_missing e) front back f.1
      (sends-wider named (named ++ digests_missing e) back (λ x c. Contains-append_left named (digests_missing e) x c) b),
)

each-named : (named : List Digest) (blobs : List NamedBlob) → IsWithin (digests_of blobs) named → AllByRecursion IsOwn blobs → AllByRecursion (IsNamed named) blobs
each-named named [] w o = tt
each-named named (b ∷ bs) w o = (
  record { missing = w b.digest (Contains-head b.digest (digests_of bs)); own = o.0 },
  each-named named bs (λ x c. w x (Contains-later b.digest (digests_of bs) x c)) o.1,
)

-- ---- one call

pub wrote : (named : List Digest) (digest : Digest) (bytes : List ℕ) → Contains named digest → digest_of bytes ≡ digest →
    IsSent (digest ∷ []) named (WriteStream digest bytes (Ok tt) ∷ [])
wrote named digest bytes c e = record { calls = (tt, tt); sends = ((record { missing = c; own = e }, tt), tt); taken = refl }

pub write-failed : (named : List Digest) (digest : Digest) (bytes : List ℕ) (fault : CallFault) → Contains named digest → digest_of bytes ≡ digest →
    IsFailedSending named (of_write digest fault) (WriteStream digest bytes (Err fault) ∷ [])
write-failed named digest bytes fault c e = record {
  calls = (tt, tt);
  sends = ((record { missing = c; own = e }, tt), tt);
  shown = shown-by (of_write digest fault) (WriteStream digest bytes (Err fault)) refl;
}

pub updated : (blobs : List NamedBlob) → AllByRecursion IsOwn blobs → IsSent (digests_of blobs) (digests_of blobs) (Update blobs (Ok tt) ∷ [])
updated blobs o = record { calls = (tt, tt); sends = (each-named (digests_of blobs) blobs (λ x c. c) o, tt); taken = append-nil (digests_of blobs) }

pub updated-none : (blobs : List NamedBlob) (fault : CallFault) → AllByRecursion IsOwn blobs → IsSent [] (digests_of blobs) (Update blobs (Err fault) ∷ [])
updated-none blobs fault o = record { calls = (tt, tt); sends = (each-named (digests_of blobs) blobs (λ x c. c) o, tt); taken = refl }

pub update-failed : (blobs : List NamedBlob) (fault : CallFault) → AllByRecursion IsOwn blobs → is_without_updates fault ≡ false →
    IsFailedSending (digests_of blobs) (of_update fault) (Update blobs (Err fault) ∷ [])
update-failed blobs fault o e = record {
  calls = (tt, tt);
  sends = (each-named (digests_of blobs) blobs (λ x c. c) o, tt);
  shown = shown-by (of_update fault) (Update blobs (Err fault)) (not-without (is_without_updates fault) (of_update fault) e);
}

-- ---- one part after another

sent-none : (named : List Digest) → IsSent [] named []
sent-none named = record { calls = tt; sends = tt; taken = refl }

pub sent-both : (ds es named : List Digest) (ps qs : List Exchange) → IsSent ds named ps → IsSent es named qs → IsSent (ds ++ es) named (ps ++ qs)
sent-both ds es named ps qs f g = record {
  calls = All-append IsUploadCall ps qs f.calls g.calls;
  sends = sends-append named ps qs f.sends g.sends;
  taken = flat_map-append digests_taken ps qs ∙ rw (f.taken, g.taken) refl;
}

pub failed-then : (ds named : List Digest) (fault : BlobFault) (ps qs : List Exchange) → IsSent ds named ps → IsFailedSending named fault qs → IsFailedSending named fault (ps ++ qs)
failed-then ds named fault ps qs f g = record {
  calls = All-append IsUploadCall ps qs f.calls g.calls;
  sends = sends-append named ps qs f.sends g.sends;
  shown = shown-later fault ps qs g.shown;
}

sent-wider : (ds few all : List Digest) (part : List Exchange) → IsWithin few all → IsSent ds few part → IsSent ds all part
sent-wider ds few all part w s = record { calls = s.calls; sends = sends-wider few all part w s.sends; taken = s.taken }

failed-wider : (few all : List Digest) (fault : BlobFault) (part : List Exchange) → IsWithin few all → IsFailedSending few fault part → IsFailedSending all fault part
failed-wider few all fault part w s = record { calls = s.calls; sends = sends-wider few all part w s.sends; shown = s.shown }

shown-own : (fault : BlobFault) (part : List Exchange) → IsOwnFault fault → IsShown fault part
shown-own (faults.Call f) part o = absurd o
shown-own (faults.Missing d) part o = absurd o
shown-own (faults.Refused d code) part o = absurd o
shown-own (faults.BadBlob expected got) part o = absurd o
shown-own (faults.InputChanged input) part o = tt
shown-own (faults.SourceFault path) part o = tt
shown-own faults.NoMemory part o = tt

-- ---- the walk over parts

module _ {C W : Type 0} (c : callers.Ghosts C W) where
  pub sending-starts : (x : C) (digests named : List Digest) → IsSendingOn c x x digests named digests
  sending-starts x digests named = record { done = []; digests_are = refl; exchanged = no-exchange c (IsSent [] named) x (sent-none named) }

  pub sending-goes-on : (old now new : C) (digests named part later few : List Digest) → IsSendingOn c old now digests named (part ++ later) →
      HasExchanged c now new (IsSent part few) → IsWithin few named → IsSendingOn c old new digests named later
  sending-goes-on old now new digests named part later few s g w = record {
    done = s.done ++ part;
    digests_are = append_assoc s.done part later ∙ s.digests_are;
    exchanged = exchanges-then c (IsSent s.done named) (IsSent part few) (IsSent (s.done ++ part) named) old now new s.exchanged g
        (λ front back is_front is_back. sent-both s.done part named front back is_front (sent-wider part few named back w is_back));
  }

  pub sending-ends : (old now : C) (digests named : List Digest) → IsSendingOn c old now digests named [] → HasExchanged c old now (IsSent digests named)
  sending-ends old now digests named s =
      exchanges-are c (IsSent s.done named) (IsSent digests named) old now s.exchanged
      (λ part is. subst (λ ds. IsSent ds named part) (sym (append-nil s.done) ∙ s.digests_are) is)

  pub sending-fails : (old now new : C) (digests named rest few : List Digest) (fault : BlobFault) → IsSendingOn c old now digests named rest →
      HasExchanged c now new (IsFailedSending few fault) → IsWithin few named → HasExchanged c old new (IsFailedSending named fault)
  sending-fails old now new digests named rest few fault s g w =
      exchanges-then c (IsSent s.done named) (IsFailedSending few fault) (IsFailedSending named fault) old now new s.exchanged g
      (λ front back is_front is_back. failed-then s.done named fault front back is_front (failed-wider few named fault back w is_back))

  pub sending-stops : (old now : C) (digests named rest : List Digest) (fault : BlobFault) → IsSendingOn c old now digests named rest → IsOwnFault fault →
      HasExchanged c old now (IsFailedSending named fault)
  sending-stops old now digests named rest fault s o =
      exchanges-are c (IsSent s.done named) (IsFailedSending named fault) old now s.exchanged
      (λ part is. record { calls = is.calls; sends = is.sends; shown = shown-own fault part o })

-- the part of what is missing lies within it
pub part-named : {C W : Type 0} (c : callers.Ghosts C W) (old now : C) (digests named part later : List Digest) → IsSendingOn c old now digests named (part ++ later) →
    IsWithin part digests
part-named c old now digests named part later s = within-middle s.done part later digests s.digests_are

-- ---- a whole upload

stored-front : (left more : List Digest) (ps qs : List Exchange) (digest : Digest) → IsStored left ps digest → IsStored (left ++ more) (ps ++ qs) digest
stored-front left more ps qs digest s = elim s [
  | inl out ↦ inl (Contains-append_left left more digest out)
  | inr stored ↦ inr (elim stored [
    | inl taken ↦ inl (subst (λ ds. Contains ds digest) (sym (flat_map-append digests_taken ps qs)) (Contains-append_left (flat_map digests_taken ps) (flat_map digests_taken qs) digest taken))
    | inr is ↦ inr (record {
      digests = is.digests;
      missing = is.missing;
      there = Contains-append_left ps qs (FindMissing is.digests (Ok is.missing)) is.there;
      asked = is.asked;
      not_missing = is.not_missing;
    })
  ])
]

stored-back : (left more : List Digest) (ps qs : List Exchange) (digest : Digest) → IsStored more qs digest → IsStored (left ++ more) (ps ++ qs) digest
stored-back left more ps qs digest s = elim s [
  | inl out ↦ inl (Contains-append_right left more digest out)
  | inr stored ↦ inr (elim stored [
    | inl taken ↦ inl (subst (λ ds. Contains ds digest) (sym (flat_map-append digests_taken ps qs)) (Contains-append_right (flat_map digests_taken ps) (flat_map digests_taken qs) digest taken))
    | inr is ↦ inr (record {
      digests = is.digests;
      missing = is.missing;
      there = Contains-append_right ps qs (FindMissing is.digests (Ok is.missing)) is.there;
      asked = is.asked;
      not_missing = is.not_missing;
    })
  ])
]

pub uploaded-none : IsUploaded [] [] []
uploaded-none = record { calls = tt; sends = tt; stored = λ d c. absurd (not_in_nothing d c) }

pub uploaded-both : (ds es left more : List Digest) (ps qs : List Exchange) → IsUploaded ds left ps → IsUploaded es more qs → IsUploaded (ds ++ es) (left ++ more) (ps ++ qs)
uploaded-both ds es left more ps qs f g = record {
  calls = All-append IsUploadCall ps qs f.calls g.calls;
  sends = sends-append [] ps qs f.sends g.sends;
  stored = λ d c. elim (Contains-append_cases ds es d c) [
    | inl front ↦ stored-front left more ps qs d (f.stored d front)
    | inr back ↦ stored-back left more ps qs d (g.stored d back)
  ];
}

pub uploaded-failed : (ds left : List Digest) (fault : BlobFault) (ps qs : List Exchange) → IsUploaded ds left ps → IsFailedUpload fault qs → IsFailedUpload fault (ps ++ qs)
uploaded-failed ds left fault ps qs f g = record {
  calls = All-append IsUploadCall ps qs f.calls g.calls;
  sends = sends-append [] ps qs f.sends g.sends;
  shown = shown-later fault ps qs g.shown;
}

pub group-known : (digests known asked : List Digest) → IsSplit digests known asked → asked ≡ [] → IsUploaded digests known []
group-known digests known asked split e = record {
  calls = tt;
  sends = tt;
  stored = λ d c. elim (split.each d c) [ inl k ↦ inl k | inr a ↦ absurd (not_in_nothing d (subst (λ ds. Contains ds d) e a)) ];
}

pub group-uploaded : (digests known asked missing : List Digest) (part : List Exchange) → IsSplit digests known asked → length asked ≤ 20000 →
    IsSent missing missing part → IsUploaded digests known (FindMissing asked (Ok missing) ∷ [] ++ part)
group-uploaded digests known asked missing part split few s = record {
  calls = (few, s.calls);
  sends = (tt, s.sends);
  stored = λ d c. elim (split.each d c) [
    | inl k ↦ inl k
    | inr a ↦ inr (elim (among missing d) [
      | inl lacking ↦ inl (subst (λ ds. Contains ds d) (sym s.taken) lacking)
      | inr there ↦ inr (record {
        digests = asked;
        missing = missing;
        there = Contains-head (FindMissing asked (Ok missing)) part;
        asked = a;
        not_missing = there;
      })
    ])
  ];
}

pub group-failed : (asked missing : List Digest) (fault : BlobFault) (part : List Exchange) → length asked ≤ 20000 → IsFailedSending missing fault part →
    IsFailedUpload fault (FindMissing asked (Ok missing) ∷ [] ++ part)
group-failed asked missing fault part few s =
    record { calls = (few, s.calls); sends = (tt, s.sends); shown = shown-later fault (FindMissing asked (Ok missing) ∷ []) part s.shown }

pub ask-failed : (asked : List Digest) (fault : CallFault) → length asked ≤ 20000 → IsFailedUpload (of_ask fault) (FindMissing asked (Err fault) ∷ [])
ask-failed asked fault few = record { calls = (few, tt); sends = (tt, tt); shown = shown-by (of_ask fault) (FindMissing asked (Err fault)) refl }

pub stopped : (ds left : List Digest) (part : List Exchange) → IsUploaded ds left part → IsFailedUpload faults.NoMemory part
stopped ds left part f = record { calls = f.calls; sends = f.sends; shown = tt }

pub stopped-none : IsFailedUpload faults.NoMemory []
stopped-none = record { calls = tt; sends = tt; shown = tt }

-- ---- causes

pub cause-later : (before between now : ℕ) (few all : List Digest) (fault : BlobFault) → before ≤ between → IsWithin few all → IsUploadCause between now few fault →
    IsUploadCause before now all fault
cause-later before between now few all (faults.Call f) later w cause = omega arith
cause-later before between now few all (faults.Refused d code) later w cause = (omega arith, w d cause.1)
cause-later before between now few all (faults.Missing d) later w cause = cause
cause-later before between now few all (faults.BadBlob expected got) later w cause = cause
cause-later before between now few all (faults.InputChanged input) later w cause = tt
cause-later before between now few all (faults.SourceFault path) later w cause = tt
cause-later before between now few all faults.NoMemory later w cause = tt

pub cause-own : (before now : ℕ) (digests : List Digest) (fault : BlobFault) → IsOwnFault fault → IsUploadCause before now digests fault
cause-own before now digests (faults.Call f) o = absurd o
cause-own before now digests (faults.Refused d code) o = absurd o
cause-own before now digests (faults.Missing d) o = absurd o
cause-own before now digests (faults.BadBlob expected got) o = absurd o
cause-own before now digests (faults.InputChanged input) o = tt
cause-own before now digests (faults.SourceFault path) o = tt
cause-own before now digests faults.NoMemory o = tt

pub write-cause : (before now : ℕ) (digests : List Digest) (digest : Digest) (fault : CallFault) → (fault ≢ calls.NoMemory → Rose before now) → Contains digests digest →
    IsUploadCause before now digests (of_write digest fault)
write-cause before now digests digest (calls.BlobRefused other code) failed c = (failed (λ e. cc e), c)
write-cause before now digests digest (calls.Status code) failed c = failed (λ e. cc e)
write-cause before now digests digest calls.Link failed c = failed (λ e. cc e)
write-cause before now digests digest (calls.Protocol code) failed c = failed (λ e. cc e)
write-cause before now digests digest calls.Compressed failed c = failed (λ e. cc e)
write-cause before now digests digest calls.TooLarge failed c = failed (λ e. cc e)
write-cause before now digests digest calls.NoStatus failed c = failed (λ e. cc e)
write-cause before now digests digest (calls.BadMessage at) failed c = failed (λ e. cc e)
write-cause before now digests digest calls.Cut failed c = failed (λ e. cc e)
write-cause before now digests digest calls.NoMemory failed c = tt

-- a batch that the farm has no call for, and then streams
pub after-none : {A C W : Type 0} (c : callers.Ghosts C W) (old now new : C) (digests named : List Digest) (result : Result A BlobFault) →
    HasExchanged c old now (IsSent [] named) → HasExchanged c now new (IsSending digests named result) → HasExchanged c old new (IsSending digests named result)
after-none c old now new digests named (Ok x) f g =
    exchanges-then c (IsSent [] named) (IsSent digests named) (IsSent digests named) old now new f g (λ front back p q. sent-both [] digests named front back p q)
after-none c old now new digests named (Err fault) f g =
    exchanges-then c (IsSent [] named) (IsFailedSending named fault) (IsFailedSending named fault) old now new f g
    (λ front back p q. failed-then [] named fault front back p q)

pub ask-call : (fault : CallFault) → IsCallFault (of_ask fault)
ask-call (calls.BlobRefused other code) = tt
ask-call (calls.Status code) = tt
ask-call calls.Link = tt
ask-call (calls.Protocol code) = tt
ask-call calls.Compressed = tt
ask-call calls.TooLarge = tt
ask-call calls.NoStatus = tt
ask-call (calls.BadMessage at) = tt
ask-call calls.Cut = tt
ask-call calls.NoMemory = tt

pub nothing-in : {A : Type 0} (xs : List A) → (length xs == 0) ≡ true → xs ≡ []
nothing-in [] e = refl
nothing-in (x ∷ xs) e = cc ((Decides-eqb (length (x ∷ xs)) 0).0 e)

-- the exchange is this one alone
abbrev pub IsJust : Exchange → List Exchange → Type 0
IsJust exchange part = part ≡ exchange ∷ []

pub group-sent : {C W : Type 0} (c : callers.Ghosts C W) (old now new : C) (digests known asked missing : List Digest) → IsSplit digests known asked → length asked ≤ 20000 →
    HasExchanged c old now (IsJust (FindMissing asked (Ok missing))) → HasExchanged c now new (IsSent missing missing) → HasExchanged c old new (IsUploaded digests known)
group-sent c old now new digests known asked missing split few f g =
    exchanges-then c (IsJust (FindMissing asked (Ok missing))) (IsSent missing missing) (IsUploaded digests known) old now new f g
    (λ front back p q. rw p (group-uploaded digests known asked missing back split few q))

pub group-unsent : {C W : Type 0} (c : callers.Ghosts C W) (old now new : C) (asked missing : List Digest) (fault : BlobFault) → length asked ≤ 20000 →
    HasExchanged c old now (IsJust (FindMissing asked (Ok missing))) → HasExchanged c now new (IsFailedSending missing fault) → HasExchanged c old new (IsFailedUpload fault)
group-unsent c old now new asked missing fault few f g =
    exchanges-then c (IsJust (FindMissing asked (Ok missing))) (IsFailedSending missing fault) (IsFailedUpload fault) old now new f g
    (λ front back p q. rw p (group-failed asked missing fault back few q))
